-- A node whose log is known to the proof alone, and what is known of a receipt by itself.
use Rattle.std.specs.Prelude.{◌≡◌, ◌+◌, ℕ, List, [], ◌∷◌, ◌++◌, length, Some, IfSome}
use Rattle.vc_model.specs.Shared.{SharedNode}
use Rattle.vc_model.specs.SharedCall.{SharedCall}
use Rattle.vc_desk.specs.Entry.{AnswerText, EntryText, EventText}
use Rattle.vc_desk.specs.Runs.{AnswersHeld, IsCallOf, Runs, Shows}
use Rattle.vc_desk.specs.Talk.{ReceiptText, receipt_of}

-- what is kept of a node whose log is not
pub record WatchedText (S : Type 0) : Type 0 where
  -- the node as it was when the log was empty
  pub start : S
  pub shared : S
  -- how many entries the log has
  pub count : ℕ

-- One entry was added, of this connection and event, with the node's answer, and the receipt is of it.
pub record Notes {S : Type 0} (honest : Type 0) (holds : S → SharedNode → Type 0) (connection : ℕ) (event : EventText) (receipt : ReceiptText) (old new : WatchedText S) : Type 0 where
  pub answer : AnswerText
  pub is : receipt ≡ receipt_of connection old.count event (Some answer)
  pub answers : honest → (call : SharedCall) → IsCallOf event call → AnswersHeld holds call (Shows event answer) old.shared new.shared
  pub count : new.count ≡ old.count + 1
  pub start : new.start ≡ old.start

-- the log is a run from a node that held all of these
pub record RunsFrom {S : Type 0} (holds : S → SharedNode → Type 0) (from : SharedNode → Type 0) (log : List EntryText) (now : S) : Type 0 where
  pub start : S
  pub held : (n : SharedNode) → from n → holds start n
  pub run : Runs holds start log now

-- the entry, at its place, is the last of a run from those nodes
pub record EndsRun {S : Type 0} (holds : S → SharedNode → Type 0) (from : SharedNode → Type 0) (place : ℕ) (e : EntryText) : Type 0 where
  pub log : List EntryText
  pub now : S
  pub length_is : length log ≡ place
  pub run : RunsFrom holds from (log ++ e ∷ []) now

-- The receipt is of an event of the node: no answer is made up.
abbrev pub IsMade : {S : Type 0} → Type 0 → (S → SharedNode → Type 0) → (SharedNode → Type 0) → ReceiptText → Type 0
IsMade honest holds from receipt = IfSome receipt.entry (λ e. honest → EndsRun holds from receipt.place e)
