-- What the shared node has learnt of the generations of commits.
use Rattle.std.specs.Prelude.{◌≡◌, Option, Some, None}
use Rattle.vc_files.specs.FileMap.{FileMap}
use Rattle.vc_session.specs.Learning.{Learns}
use Rattle.vc_quarantine.specs.Learning.{Learnt}
use Rattle.vc_push_rules.specs.Session.{SessionText}

-- what is learnt before the next step of a slot: what its push learns at its stage, or nothing where the slot is empty
abbrev pub LearnsIn : FileMap → Option SessionText → Learnt → Learnt → Type 0
LearnsIn content None known now = now ≡ known
LearnsIn content (Some s) known now = Learns content s known.due now.due known.generations now.generations
