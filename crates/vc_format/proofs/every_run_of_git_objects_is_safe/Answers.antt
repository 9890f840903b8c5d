use Rattle.vc_model.proofs.Safety.{every_run_safe}
use Rattle.vc_format.specs.Format.{git_format}
use Rattle.vc_format.proofs.every_run_of_git_objects_is_safe.Goals as goal

pub returns : goal.returns
returns c agree spells main n start h new r one honest = every_run_safe (git_format agree spells main) n start h new r one honest
