-- A message that a reader brings to the shared node, served to its end: what came of the reader, and what is told of it.
use Rattle.std.specs.Global.{Global}
use Rattle.std.specs.Prelude.{◌≡◌, ⊤, ℕ, Bool, true, List, Option, Some, Result, Ok, Err, Vec}
use Rattle.vc_files.specs.FileMap.{FileMap}
use Rattle.vc_message.specs.Coming.{Came, IsCome, a_message}
use Rattle.vc_model.specs.SharedCall.{SharedCall}
use Rattle.vc_message.specs.Machine.{FirstRead}
use Rattle.vc_push_rules.specs.Session.{SessionText}
use Rattle.vc_shared.specs.Arriving.{IsCallOf, IsKnown, IsTold}
use Rattle.vc_shared.specs.Holding.{SharedText}
use Rattle.vc_shared.specs.declared.accept_fault.AcceptFault.{AcceptFault}
use Rattle.vc_shared.specs.declared.accept_fault.AcceptFault.TheVariants.{Node}
use Rattle.vc_shared.specs.declared.fault.SharedFault.{SharedFault}
use Rattle.vc_server.specs.Refusals.{IsRefusedMessageAnswer}
use Rattle.vc_server.specs.Replies.{IsRepliedThere}
use Rattle.vc_server.specs.Serving.{Serves}

-- the bytes of the reply, none where nothing came, or why there is none
abbrev pub Reply : Type 0
Reply = Result (Option (Vec ℕ Global)) AcceptFault

-- the call is served, and what is told is the last answer; nothing is said where none is told
abbrev pub ServesAs : SharedCall → Reply → FileMap → FileMap → List (Option SessionText) → List (Option SessionText) → Bool → Bool → Type 0
ServesAs call (Ok (Some reply)) old new slots after was_up is_up = Serves call (Ok reply) old new slots after was_up is_up
ServesAs call (Err (Node e)) old new slots after was_up is_up = Serves call (Err e) old new slots after was_up is_up
ServesAs call _ old new slots after was_up is_up = ⊤

-- why a message has no reply from a node that is up
abbrev pub IsRefusedThere : Came → FileMap → List (Option SessionText) → Reply → Type 0
IsRefusedThere (a_message text) content slots (Err (Node e)) = IsRefusedMessageAnswer content slots text e
IsRefusedThere _ content slots _ = ⊤

-- A message was taken of the reader, or not, and the call of the machine that this is was served.
pub record ServesFrom (honest : Type 0) (before rest : Option (List ℕ)) (old new : FileMap) (slots after : List (Option SessionText)) (was_up is_up : Bool) (result : Reply) : Type 0 where
  pub came : Came
  pub is_come : IsCome before rest came
  pub told : IsTold was_up came result
  pub refused : honest → was_up ≡ true → IsRefusedThere came old slots result
  pub replied : honest → IsRepliedThere came old result
  pub serves : honest → (call : SharedCall) → IsCallOf was_up came call → ServesAs call result old new slots after was_up is_up

-- Where a message is the first that the reader has, it is what is served, and what is behind it is left; or the reader failed, or a fault
-- came.
abbrev pub ServesKnown : Type 0 → Option (List ℕ) → Option (List ℕ) → FileMap → FileMap → List (Option SessionText) → List (Option SessionText) → Bool → Bool → Reply → Type 0
ServesKnown honest before left old new slots after was_up is_up result = FirstRead before (λ m rest. IsKnown honest was_up m rest left (λ call. ServesAs call result old new slots after was_up is_up) result)

-- ---- of the node as one value

abbrev pub ServesCall : {F : Type 0} → (F → FileMap) → SharedCall → Result (Vec ℕ Global) SharedFault → SharedText F → SharedText F → Type 0
ServesCall content call result old new = Serves call result (content old.files) (content new.files) old.slots new.slots old.is_up new.is_up

abbrev pub ServesNext : {F : Type 0} → Type 0 → (F → FileMap) → Option (List ℕ) → Option (List ℕ) → SharedText F → SharedText F → Reply → Type 0
ServesNext honest content before rest old new result = ServesFrom honest before rest (content old.files) (content new.files) old.slots new.slots old.is_up new.is_up result

abbrev pub ServesFirst : {F : Type 0} → Type 0 → (F → FileMap) → Option (List ℕ) → Option (List ℕ) → SharedText F → SharedText F → Reply → Type 0
ServesFirst honest content before left old new result = ServesKnown honest before left (content old.files) (content new.files) old.slots new.slots old.is_up new.is_up result
