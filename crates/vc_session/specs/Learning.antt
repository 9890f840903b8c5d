-- What a session learns of the generations of commits, and whose histories are due behind it.
use Rattle.std.specs.Prelude.{◌≡◌, ◌++◌, ◌∷◌, [], List}
use Rattle.vc_files.specs.FileMap.{FileMap}
use Rattle.vc_history.specs.declared.generations.Generations.{Generations}
use Rattle.vc_object.specs.declared.id.ObjectId.{ObjectId}
use Rattle.vc_push.specs.Push.{CommandText}
use Rattle.vc_push.specs.declared.reason.Reason.TheVariants.{NonFastForward}
use Rattle.vc_push_rules.specs.Session.{SessionText}
use Rattle.vc_push_rules.specs.declared.stage.Stage.{Stage}
use Rattle.vc_push_rules.specs.declared.stage.Stage.TheVariants.{Unpacked, Checked, Migrated, Done}
use Rattle.vc_push_rules.specs.declared.stage.Verdict.{Verdict}
use Rattle.vc_push_rules.specs.declared.stage.Verdict.TheVariants.{Accepted, Refused}
use Rattle.vc_quarantine.specs.Learning.{IsLearnt}

-- the value that a command leaves its ref with, so far as a later check may have to walk its history: the new id, where the ref was
-- set, and the old one, where the new one doesn't descend from it
abbrev pub tip_of : CommandText → Verdict → List ObjectId
tip_of command Accepted = command.new ∷ []
tip_of command (Refused NonFastForward) = command.old ∷ []
tip_of command _ = []

-- the same of all commands, in their order
abbrev pub tips_of : List CommandText → List Verdict → List ObjectId
tips_of (c ∷ cs) (v ∷ vs) = tip_of c v ++ tips_of cs vs
tips_of _ _ = []

-- what a session learns at its stage, and whose histories are due then: before the check those that were due are learnt, and once all
-- is judged its own tips are due
abbrev pub LearnsAt : FileMap → SessionText → List ObjectId → List ObjectId → Generations → Generations → Stage → Type 0
LearnsAt content s due left known now Unpacked = IsLearnt content due known now × (left ≡ [])
LearnsAt content s due left known now Checked = (now ≡ known) × (left ≡ due)
LearnsAt content s due left known now Migrated = (now ≡ known) × (left ≡ due)
LearnsAt content s due left known now Done = (now ≡ known) × (left ≡ due ++ tips_of s.commands s.verdicts)

-- what it learns now
abbrev pub Learns : FileMap → SessionText → List ObjectId → List ObjectId → Generations → Generations → Type 0
Learns content s due left known now = LearnsAt content s due left known now s.stage
