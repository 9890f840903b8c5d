use Rattle.vc_life.proofs.Along.{life_log, life_sound}
use Rattle.vc_life.proofs.Reporting.{life_reports}
use Rattle.vc_life.proofs.Safety.{life_forward}
use Rattle.vc_life.proofs.Setting.{life_told}
use Rattle.vc_rules.specs.Git.{git}
use Rattle.vc_values.proofs.GitLaws.{git_rules}
use Rattle.vc_serving.proofs.laws.a_served_store_is_safe.Goals as goal

pub returns : goal.returns
returns c = record { log = life_log git git_rules; sound = life_sound git git_rules; forward = life_forward git git_rules; told = life_told git git_rules; reported = life_reports git git_rules }
