use Rattle.vc_values.proofs.GitLaws.{git_rules}
use Rattle.vc_rules.specs.Git.{git}
use Rattle.vc_world.proofs.Pushes.{push_comes}
use Rattle.vc_world.proofs.laws.a_chain_of_calls_is_a_push.Goals as goal

pub returns : goal.returns
returns c = push_comes git git_rules
