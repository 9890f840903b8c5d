use Rattle.vc_values.proofs.GitLaws.{git_rules}
use Rattle.vc_rules.specs.Git.{git}
use Rattle.vc_world.proofs.Rounds.{fetch_comes}
use Rattle.vc_world.proofs.laws.a_chain_of_calls_is_a_fetch.Goals as goal

pub returns : goal.returns
returns c s t m d a moved can h up k = fetch_comes git git_rules can s t m d a moved h up k
