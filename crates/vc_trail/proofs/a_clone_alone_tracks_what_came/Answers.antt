use Rattle.vc_model.specs.Rules.{rules_by}
use Rattle.vc_trail.proofs.Told.{tracks}
use Rattle.vc_trail.proofs.a_clone_alone_tracks_what_came.Goals as goal

pub returns : goal.returns
returns c fmt tests = tracks fmt (rules_by fmt tests)
