-- One message at the shared node that files hold: the node is opened, serves the message to its end, and is closed.
use Rattle.std.specs.Global.{Global}
use Rattle.std.specs.Prelude.{◌⊎◌, ⊤, ℕ, List, Option, Some, None, Result, Ok, Err, Vec, true}
use Rattle.vc_files.specs.FileMap.{FileMap}
use Rattle.vc_life.specs.Life.{opened_shared}
use Rattle.vc_message.specs.Coming.{Came, IsCome}
use Rattle.vc_model.specs.Message.{Message}
use Rattle.vc_model.specs.Node.{Answer}
use Rattle.vc_model.specs.Repository.{Repository}
use Rattle.vc_model.specs.Shared.{SharedNode}
use Rattle.vc_model.specs.SharedCall.{SharedCall}
use Rattle.vc_local.specs.Blames.{BlamesOpen}
use Rattle.vc_local.specs.Clean.{KeepsClean}
use Rattle.vc_local.specs.Opening.{IsOpenable}
use Rattle.vc_push_rules.specs.Session.{SessionText}
use Rattle.vc_server.specs.Coming.{IsRefusedThere, Reply}
use Rattle.vc_server.specs.Serving.{ServedAs, ServesOn}
use Rattle.vc_shared.specs.Arriving.{IsCallOf, IsTold}
use Rattle.vc_shared.specs.Holding.{HoldsShared}
use Rattle.vc_shared.specs.Slots.{free_slots}
use Rattle.vc_shared.specs.declared.accept_fault.AcceptFault.TheVariants.{Node as OfNode, ReadFailed}
use Rattle.vc_shared.specs.declared.fault.SharedFault.{SharedFault}
use Rattle.vc_shared.specs.declared.fault.SharedFault.TheVariants.{Node}

-- the files hold it
abbrev pub HoldsOpened : FileMap → Repository → Type 0
HoldsOpened content r = (slots : List (Option SessionText)) × HoldsShared content slots true (opened_shared r)

-- the files weren't opened, and can be as before
abbrev pub StaysClosed : FileMap → FileMap → Repository → Result (Vec ℕ Global) SharedFault → Type 0
StaysClosed old new r (Err (Node fault)) = BlamesOpen old fault × IsOpenable new r
StaysClosed old new r _ = ⊥

-- The node was opened and served the call to its end, the result tells its last answer, and the files can be opened as its repository.
pub record ServesOnce (call : SharedCall) (r : Repository) (new : FileMap) (result : Result (Vec ℕ Global) SharedFault) : Type 0 where
  pub after : SharedNode
  pub a : Answer
  pub sends : Option Message
  pub told : ServedAs result a sends
  pub served : ServesOn call (opened_shared r) a after sends
  pub openable : IsOpenable new after.repository

abbrev pub AnswersOnce : SharedCall → Repository → FileMap → FileMap → Result (Vec ℕ Global) SharedFault → Type 0
AnswersOnce call r old new result = StaysClosed old new r result ⊎ ServesOnce call r new result

-- what is told of a message that is first of what the reader has; where the reader failed, `KeepsOpenable` tells what is left
abbrev pub AnswersRead : SharedCall → Repository → FileMap → FileMap → Reply → Type 0
AnswersRead call r old new (Ok (Some reply)) = AnswersOnce call r old new (Ok reply)
AnswersRead call r old new (Ok None) = ⊥
AnswersRead call r old new (Err ReadFailed) = ⊤
AnswersRead call r old new (Err (OfNode e)) = AnswersOnce call r old new (Err e)

-- where nothing came, or the reader failed, the files can be opened as before
abbrev pub KeepsOpenable : FileMap → Repository → Reply → Type 0
KeepsOpenable new r (Ok None) = IsOpenable new r
KeepsOpenable new r (Err ReadFailed) = IsOpenable new r
KeepsOpenable new r result = ⊤

-- the node served the call to its end, where something is told of one
abbrev pub ServesOnceAs : SharedCall → Repository → FileMap → Reply → Type 0
ServesOnceAs call r new (Ok (Some reply)) = ServesOnce call r new (Ok reply)
ServesOnceAs call r new (Err (OfNode e)) = ServesOnce call r new (Err e)
ServesOnceAs call r new result = ⊤

-- Whatever came of the reader, the node was opened and served the call that it is.
pub record ServesCame (before rest : Option (List ℕ)) (r : Repository) (new : FileMap) (result : Reply) : Type 0 where
  pub came : Came
  pub is_come : IsCome before rest came
  pub told : IsTold true came result
  pub served : (call : SharedCall) → IsCallOf true came call → ServesOnceAs call r new result

-- or the files weren't opened, and can be as before
abbrev pub AnswersCame : Option (List ℕ) → Option (List ℕ) → Repository → FileMap → FileMap → Reply → Type 0
AnswersCame before rest r old new (Err (OfNode e)) = StaysClosed old new r (Err e) ⊎ ServesCame before rest r new (Err (OfNode e))
AnswersCame before rest r old new result = ServesCame before rest r new result

-- the files are no shared node's
abbrev pub IsUnopened : FileMap → SharedFault → Type 0
IsUnopened old (Node fault) = BlamesOpen old fault
IsUnopened old _ = ⊥

-- which the reply tells
abbrev pub TellsUnopened : FileMap → Reply → Type 0
TellsUnopened old (Err (OfNode e)) = IsUnopened old e
TellsUnopened old result = ⊥

-- This came of the reader, what is told is told of it, and the node that was opened, with no push open, refuses it. The files that it
-- was opened over have no bad file more.
pub record IsRefusedBy (before rest : Option (List ℕ)) (old : FileMap) (result : Reply) : Type 0 where
  pub came : Came
  pub is_come : IsCome before rest came
  pub told : IsTold true came result
  pub opened : FileMap
  pub keeps : KeepsClean old opened
  pub refused : IsRefusedThere came opened free_slots result

-- why there is no reply, whatever the files are: they were not opened, or the node that was opened refuses
abbrev pub IsRefusedOnce : Option (List ℕ) → Option (List ℕ) → FileMap → Reply → Type 0
IsRefusedOnce before rest old (Err (OfNode e)) = IsUnopened old e ⊎ IsRefusedBy before rest old (Err (OfNode e))
IsRefusedOnce before rest old _ = ⊤
