-- The log of a node: one run of the machine's calls, from the node as it was opened to the node as it is.
use Rattle.std.specs.Prelude.{◌≡◌, ◌⊎◌, ◌<◌, ℕ, List, [], ◌∷◌, ◌++◌, Option, map, option_map}
use Rattle.vc_message.specs.Machine.{IsUnread, Reads}
use Rattle.vc_message.specs.Told.{SendsBytes}
use Rattle.vc_rules.specs.Git.{git}
use Rattle.vc_rules.specs.Told.{Quietly}
use Rattle.vc_shared.specs.Opening.{OpeningText}
use Rattle.vc_values.proofs.GitLaws.{git_rules}
use Rattle.vc_model.specs.Desk.{ExactLog, IsAnswered, NoneCollide, OpensSound, Receipt, node_left, served}
use Rattle.vc_model.specs.Message.{Message}
use Rattle.vc_model.specs.Node.{Answer}
use Rattle.vc_model.specs.Node.Answer.{Did}
use Rattle.vc_model.specs.Node.Reply.{MigratedAll, Opened as OpenedSlot, Passed, RefusedAll, Updated as UpdatedOne, UpdatedAll}
use Rattle.vc_model.specs.Question.Question.{Unread}
use Rattle.vc_model.specs.Repository.{IsBare, IsSound}
use Rattle.vc_model.specs.Shared.{SharedNode, slot_count}
use Rattle.vc_model.specs.SharedCall.{SharedAnswers, SharedCall}
use Rattle.vc_model.specs.SharedCall.SharedCall.{Accept, Asks, StepOf}
use Rattle.vc_rules.specs.Verdicts.{machine_reason}
use Rattle.vc_files.specs.FileMap.{FileMap}
use Rattle.vc_shared.specs.Holding.{HoldsShared, SharedText}
use Rattle.vc_desk.specs.Entry.{AnswerText, EntryText, EventText, failure_answer}
use Rattle.vc_desk.specs.Entry.AnswerText.{Replied, Opened, Checked, Migrated, Updated, Atomic, AtomicRefused, Finished, Failed}
use Rattle.vc_desk.specs.Entry.EventText.{Accepts, Steps}

-- the machine's nodes that the node may be
abbrev pub Held : {F : Type 0} → (F → FileMap) → SharedText F → SharedNode → Type 0
Held content node n = HoldsShared (content node.files) node.slots node.is_up n

-- ---- one event

-- the machine's call that it is to bring these bytes
abbrev pub IsCallFor : List ℕ → SharedCall → Type 0
IsCallFor bytes call = ((m : Message) × (call ≡ Accept m) × Reads bytes m) ⊎ ((n : ℕ) × (call ≡ Asks (Unread n)) × IsUnread bytes n)

-- the machine's call that the event is
abbrev pub IsCallOf : EventText → SharedCall → Type 0
IsCallOf (Accepts bytes) call = IsCallFor bytes call
IsCallOf (Steps k) call = call ≡ StepOf k

-- the machine's answer to a message, as the log has it
abbrev pub ShowsTaken : AnswerText → Answer → Option Message → Type 0
ShowsTaken (Replied bytes) a sends = SendsBytes bytes a sends
ShowsTaken (Opened k) a sends = (k < slot_count) × Quietly (Did (OpenedSlot k)) a sends
ShowsTaken (Failed failure) a sends = Quietly (failure_answer failure) a sends
ShowsTaken _ a sends = ⊥

-- the machine's answer to a step, as the log has it
abbrev pub ShowsStepped : AnswerText → Answer → Option Message → Type 0
ShowsStepped (Checked n) a sends = Quietly (Did (Passed n)) a sends
ShowsStepped Migrated a sends = Quietly (Did MigratedAll) a sends
ShowsStepped (Updated name found) a sends = Quietly (Did (UpdatedOne name (option_map machine_reason found))) a sends
ShowsStepped (Atomic n) a sends = Quietly (Did (UpdatedAll n)) a sends
ShowsStepped (AtomicRefused name reason) a sends = Quietly (Did (RefusedAll name (machine_reason reason))) a sends
ShowsStepped (Finished bytes) a sends = SendsBytes bytes a sends
ShowsStepped (Failed failure) a sends = Quietly (failure_answer failure) a sends
ShowsStepped _ a sends = ⊥

abbrev pub Shows : EventText → AnswerText → Answer → Option Message → Type 0
Shows (Accepts bytes) = ShowsTaken
Shows (Steps k) = ShowsStepped

-- Whatever node was held, some node is held after the event; and if the node was sound and bare, the answer and that node are the machine's.
pub record AnswersHeld {S : Type 0} (holds : S → SharedNode → Type 0) (call : SharedCall) (shows : Answer → Option Message → Type 0) (old new : S) : Type 0 where
  pub each : (n : SharedNode) → holds old n → (m : SharedNode) × (a : Answer) × (sends : Option Message) × holds new m × shows a sends
      × (IsSound git n.repository → IsBare git n.repository → SharedAnswers git git_rules n call a m sends)

-- ---- the log

-- The receipt is the next after es: of this entry's event, with the machine's answer that is told so. Its node is the machine's after that
-- answer. The premise of this is on what occurred before it, and nothing of that is left to choose.
pub record IsNext (start : SharedNode) (es : ExactLog) (e : EntryText) (r : Receipt) : Type 0 where
  pub call : IsCallOf e.event r.call
  pub shows : Shows e.event e.answer r.answer r.sends
  pub step : OpensSound git start → NoneCollide git start (map served es) → SharedAnswers git git_rules (node_left start es) r.call r.answer r.node r.sends

-- The log's entries are the calls and answers of an exact log, which has the newest first.
abbrev pub IsLogOf : SharedNode → List EntryText → ExactLog → Type 0
IsLogOf start log [] = log ≡ []
IsLogOf start log (r ∷ es) = (front : List EntryText) × (e : EntryText) × (log ≡ front ++ e ∷ []) × IsNext start es e r × IsLogOf start front es

-- Whatever node was held at the start, the log is a run from it to a node that is held now. If the first node was sound with no push open,
-- each answer is the machine's as long as no two of the objects that came to be there before it share a name; and all of them are, if none do.
pub record Runs {S : Type 0} (holds : S → SharedNode → Type 0) (start : S) (log : List EntryText) (now : S) : Type 0 where
  pub each : (n : SharedNode) → holds start n → (es : ExactLog) × IsLogOf n log es × holds now (node_left n es)
      × (OpensSound git n → NoneCollide git n (map served es) → IsAnswered git git_rules n es)

-- what is kept of a node
pub record KeptText (S : Type 0) : Type 0 where
  -- the node as it was when the log was empty
  pub start : S
  pub shared : S
  pub opening : OpeningText
  pub log : List EntryText

-- One entry was added, of this connection and event, with the node's answer.
pub record Adds {S : Type 0} (honest : Type 0) (holds : S → SharedNode → Type 0) (connection : ℕ) (event : EventText) (old new : KeptText S) : Type 0 where
  pub answer : AnswerText
  pub log : new.log ≡ old.log ++ record { connection = connection; event = event; answer = answer } ∷ []
  pub answers : honest → (call : SharedCall) → IsCallOf event call → AnswersHeld holds call (Shows event answer) old.shared new.shared
  pub start : new.start ≡ old.start
  pub opening : new.opening ≡ old.opening
