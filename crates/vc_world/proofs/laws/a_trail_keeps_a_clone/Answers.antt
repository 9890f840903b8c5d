use Rattle.vc_rules.specs.Git.{git}
use Rattle.vc_trail.proofs.Keeping.{keeps}
use Rattle.vc_trail.proofs.Steps.{stays_sound}
use Rattle.vc_trail.proofs.Told.{tracks}
use Rattle.vc_values.proofs.GitLaws.{git_rules}
use Rattle.vc_world.proofs.laws.a_trail_keeps_a_clone.Goals as goal

pub returns : goal.returns
returns c = record { sound = stays_sound git git_rules; kept = keeps git git_rules; told = tracks git git_rules }
