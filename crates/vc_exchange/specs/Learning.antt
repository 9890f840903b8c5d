-- What a call that takes a message learns of the generations of commits, and whose histories are due after it.
use Rattle.std.specs.Prelude.{⊤, Result, Ok, Err}
use Rattle.vc_files.specs.FileMap.{FileMap}
use Rattle.vc_history.specs.Stored.{AgreesIn}
use Rattle.vc_refs.specs.Refs.{refs}
use Rattle.vc_quarantine.specs.Learning.{IsLearnt, Learnt}
use Rattle.vc_tracking.specs.declared.fault.ExchangeFault.{ExchangeFault}
use Rattle.vc_tracking.specs.declared.fault.ExchangeFault.TheVariants.{Fault, Incomplete, Refs as OfRefs, Store}
use Rattle.vc_tracking.specs.Learning.{AreDue}

-- so it is, unless a fault of the device or want of memory ended the call
abbrev pub UnlessFault : {T : Type 0} → Result T ExchangeFault → Type 0 → Type 0
UnlessFault (Ok x) IsSo = IsSo
UnlessFault (Err (Store fault)) IsSo = IsSo
UnlessFault (Err (OfRefs fault)) IsSo = IsSo
UnlessFault (Err (Incomplete id)) IsSo = IsSo
UnlessFault (Err (Fault fault)) IsSo = ⊤

-- Before a message is judged what was due is learnt, and after it each value is due that a ref was set to.
pub record LearnsJudging (old new : FileMap) (known now : Learnt) : Type 0 where
  pub learnt : IsLearnt old known.due known.generations now.generations
  pub due : AreDue (refs old) (refs new) now.due

-- What a call that takes a message leaves learnt: it agrees with what was stored, and unless a fault ended the call all is done.
pub record LearnsTaking {T : Type 0} (old new : FileMap) (known now : Learnt) (result : Result T ExchangeFault) : Type 0 where
  pub agrees : AgreesIn old now.generations
  pub done : UnlessFault result (LearnsJudging old new known now)

-- the same where the generations that were known agreed with it
abbrev pub LearnsWhereRight : {T : Type 0} → FileMap → FileMap → Learnt → Learnt → Result T ExchangeFault → Type 0
LearnsWhereRight old new known now result = AgreesIn old known.generations → LearnsTaking old new known now result
