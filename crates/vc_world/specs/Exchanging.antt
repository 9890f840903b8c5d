-- What an exchange over real nodes says: whatever nodes were held before it, some are held after it, and its calls are a chain.
use Rattle.std.specs.Prelude.{◌≡◌, ◌⊎◌, ◌++◌, ℕ, Bool, min, List, [], ◌∷◌, Option, Some, None, Result, Ok, Err, IfOk, IfErr}
use Rattle.vc_sending.specs.Sending.{machine_items}
use Rattle.vc_sending.specs.declared.item.PushItem.{PushItem}
use Rattle.vc_files.specs.Failures.{greatest_count}
use Rattle.vc_files.specs.FileMap.{FileMap}
use Rattle.vc_format.specs.Git.{bytes_of_id}
use Rattle.vc_message.specs.AnyMessage.{MessageText}
use Rattle.vc_message.specs.AnyView.{message_text}
use Rattle.vc_message.specs.Machine.{IsReport, Reads, TextOf}
use Rattle.vc_message.specs.Read.{WasRead}
use Rattle.vc_rules.specs.Told.{Quietly}
use Rattle.vc_message.specs.Told.{SendsBytes}
use Rattle.vc_model.specs.Clone.{Awaited, CloneNode}
use Rattle.vc_model.specs.Exchange.{AreReady, AreUp, IsCaughtUp, IsUndone, MayPush, one_item}
use Rattle.vc_model.specs.Message.{Message}
use Rattle.vc_model.specs.Message.Message.{Report}
use Rattle.vc_model.specs.Node.{Answer, Failure}
use Rattle.vc_model.specs.Node.Answer.{Did, Fault}
use Rattle.vc_model.specs.Node.Reply.{Moved, Reported, Sends}
use Rattle.vc_model.specs.Refs.{branch, tracking}
use Rattle.vc_model.specs.Shared.{SharedNode}
use Rattle.std.specs.FinMap.{get}
use Rattle.vc_node.specs.Awaited.{IsAwaited}
use Rattle.vc_node.specs.CloneFaults.{fault_answer}
use Rattle.vc_node.specs.Held.{Held}
use Rattle.vc_local.specs.Machine.{HoldsNode}
use Rattle.vc_object.specs.declared.id.ObjectId.{ObjectId}
use Rattle.vc_push.specs.ReportView.{report_text}
use Rattle.vc_push.specs.declared.report.Report.{Report as PushReport}
use Rattle.vc_values.proofs.GitLaws.{git_rules}
use Rattle.vc_rules.specs.Git.{git}
use Rattle.vc_world.specs.Chains.{MayFetch, MayPushRun, MayRest, MayRound, MayServe}
use Rattle.vc_world.specs.declared.ending.ExchangeEnd.{ExchangeEnd}
use Rattle.vc_world.specs.declared.ending.ExchangeEnd.TheVariants as of
use Rattle.vc_world.specs.declared.fetching.Fetched.{Fetched}
use Rattle.vc_world.specs.declared.peer.Reply.{Reply}
use Rattle.vc_world.specs.declared.peer.Reply.TheVariants as replies

-- ---- who answers

-- The machine's clone that a clone over files is.
pub record HoldsClone {F : Type 0} (content : F → FileMap) (held : Held F) (c : CloneNode) : Type 0 where
  pub awaited : Awaited
  pub is_awaited : IsAwaited held.awaited awaited
  pub holds : HoldsNode (content held.files) held.is_up awaited c

-- bytes that are the message are first
abbrev pub Begins : Option (List ℕ) → Message → Type 0
Begins bytes m = (front : List ℕ) × (rest : List ℕ) × (bytes ≡ Some (front ++ rest)) × Reads front m

-- what came back is read as the message
abbrev pub Brings : {A : Type 0} → (A → Option (List ℕ)) → Reply A → Message → Type 0
Brings remaining (replies.Bytes bytes) m = Reads bytes.items m
Brings remaining (replies.Message message) m = TextOf m (message_text message)
Brings remaining (replies.Reader reader) m = Begins (remaining reader) m

-- a message is sent that says what the text says, and that was read
pub record SendsText (text : MessageText) (a : Answer) (sends : Option Message) : Type 0 where
  pub message : Message
  pub is : TextOf message text
  pub was_read : WasRead text
  pub answer : a ≡ Did Sends
  pub sent : sends ≡ Some message

-- a message is sent that is first of these bytes
pub record SendsFirst (bytes : Option (List ℕ)) (a : Answer) (sends : Option Message) : Type 0 where
  pub message : Message
  pub begins : Begins bytes message
  pub answer : a ≡ Did Sends
  pub sent : sends ≡ Some message

-- the shared node's answer, as it is told to who asked
abbrev pub AskedAs : {R A : Type 0} → (R → Answer) → (A → Option (List ℕ)) → Result (Reply A) R → Answer → Option Message → Type 0
AskedAs told remaining (Ok (replies.Bytes bytes)) a sends = SendsBytes bytes.items a sends
AskedAs told remaining (Ok (replies.Message message)) a sends = SendsText (message_text message) a sends
AskedAs told remaining (Ok (replies.Reader reader)) a sends = SendsFirst (remaining reader) a sends
AskedAs told remaining (Err refusal) a sends = Quietly (told refusal) a sends × IsUndone (told refusal)

-- Whichever shared node was asked with the message, some node is there after it, and its calls are the machine's where it was sound.
pub record AnswersPeer {P R A : Type 0} (holds : P → SharedNode → Type 0) (told : R → Answer) (remaining : A → Option (List ℕ)) (m : Message) (result : Result (Reply A) R) (old new : P) : Type 0 where
  pub each : (s : SharedNode) → holds old s → (t : SharedNode) × (a : Answer) × (sends : Option Message) × holds new t × AskedAs told remaining result a sends × MayServe git git_rules m s a t sends

-- ---- how an exchange ends

-- what was done is no move of refs
abbrev pub MovesNone : Answer → Type 0
MovesNone a = (a ≡ Did Sends) ⊎ ((moved : ℕ) × (refused : List ℕ) × (a ≡ Did (Reported moved refused)))

-- what was done is no taking of a report
abbrev pub ReportsNone : Answer → Type 0
ReportsNone a = (a ≡ Did Sends) ⊎ ((moved : ℕ) × (left : ℕ) × (a ≡ Did (Moved moved left)))

abbrev pub IsNoReport : Message → Type 0
IsNoReport (Report refusal told) = ⊥
IsNoReport _ = Unit {0}

-- the last answer of a round, as it is told
abbrev pub RoundAs : {R : Type 0} → (R → Answer) → Result Fetched (ExchangeEnd R) → Answer → Type 0
RoundAs told (Ok fetched) a = a ≡ Did (Moved fetched.moved fetched.left)
RoundAs told (Err (of.Clone fault)) a = a ≡ fault_answer fault
RoundAs told (Err (of.Shared refusal)) a = (a ≡ told refusal) × IsUndone (told refusal)
RoundAs told (Err of.Stray) a = MovesNone a
RoundAs told (Err of.Memory) a = ⊥

-- of a fetch, in whose rounds so many refs moved; the count that is told stops at its greatest value
abbrev pub FetchedAs : {R : Type 0} → (R → Answer) → Result Fetched (ExchangeEnd R) → Answer → ℕ → Type 0
FetchedAs told (Ok fetched) a moved = (n : ℕ) × (a ≡ Did (Moved n fetched.left)) × (fetched.moved ≡ min moved greatest_count)
FetchedAs told (Err e) a moved = RoundAs told (Err e) a

-- of a push, and the report that came; memory is short only where the clone has taken what came
abbrev pub PushedAs : {R : Type 0} → (R → Answer) → Result PushReport (ExchangeEnd R) → Answer → Option Message → Type 0
PushedAs told (Ok report) a came = (moved : ℕ) × (refused : List ℕ) × (a ≡ Did (Reported moved refused)) × ((m : Message) × (came ≡ Some m) × IsReport m (report_text report))
PushedAs told (Err (of.Clone fault)) a came = a ≡ fault_answer fault
PushedAs told (Err (of.Shared refusal)) a came = (a ≡ told refusal) × IsUndone (told refusal)
PushedAs told (Err of.Stray) a came = ReportsNone a ⊎ ((moved : ℕ) × (refused : List ℕ) × (a ≡ Did (Reported moved refused)) × ((m : Message) × (came ≡ Some m) × IsNoReport m))
PushedAs told (Err of.Memory) a came = (moved : ℕ) × (refused : List ℕ) × (a ≡ Did (Reported moved refused)) × ((m : Message) × (came ≡ Some m))

-- want of memory or a device that failed
abbrev pub IsFault : Answer → Type 0
IsFault a = (f : Failure) × (a ≡ Fault f)

-- a fault ended the exchange, at either node
abbrev pub EndsInFault : {R : Type 0} → (R → Answer) → ExchangeEnd R → Type 0
EndsInFault told (of.Clone fault) = IsFault (fault_answer fault)
EndsInFault told (of.Shared refusal) = IsFault (told refusal)
EndsInFault told of.Stray = ⊥
EndsInFault told of.Memory = ⊥

-- ---- what it comes to

-- For whatever nodes were held, some are held then, of which this holds.
pub record Leads {P C : Type 0} (holds : P → SharedNode → Type 0) (holds_clone : C → CloneNode → Type 0) (old new : P) (was is : C) (Comes : SharedNode → CloneNode → SharedNode → CloneNode → Type 0) : Type 0 where
  pub each : (s : SharedNode) (c : CloneNode) → holds old s → holds_clone was c → (t : SharedNode) × (d : CloneNode) × holds new t × holds_clone is d × Comes s c t d

-- a round of a fetch, by its calls
abbrev pub IsRound : {R : Type 0} → (R → Answer) → Result Fetched (ExchangeEnd R) → SharedNode → CloneNode → SharedNode → CloneNode → Type 0
IsRound told result s c t d = (a : Answer) × RoundAs told result a × MayRound git git_rules s c a t d

-- the rest of a round from this want on, by its calls
abbrev pub IsRest : {R : Type 0} → (R → Answer) → (want : Message) → Result Fetched (ExchangeEnd R) → SharedNode → CloneNode → SharedNode → CloneNode → Type 0
IsRest told want result s c t d = (a : Answer) × RoundAs told result a × MayRest git git_rules want s c a t d

-- a fetch, by its rounds, the first after one that left so many
abbrev pub IsFetch : {R : Type 0} → (R → Answer) → Option ℕ → Result Fetched (ExchangeEnd R) → SharedNode → CloneNode → SharedNode → CloneNode → Type 0
IsFetch told before result s c t d = (a : Answer) × (moved : ℕ) × FetchedAs told result a moved × MayFetch git git_rules before s c a t d moved

-- a push, which may be atomic, by its calls
abbrev pub IsPush : {R : Type 0} → (R → Answer) → Bool → List PushItem → Result PushReport (ExchangeEnd R) → SharedNode → CloneNode → SharedNode → CloneNode → Type 0
IsPush told atomic items result s c t d = (a : Answer) × (came : Option Message) × PushedAs told result a came × MayPushRun git git_rules atomic (machine_items items) s c a t d came

-- Where the nodes were ready and up, the clone has caught up with nothing left, or a fault ended the fetch. They are ready again, and the
-- shared node stores what it stored.
abbrev pub CatchesUp : {R : Type 0} → (R → Answer) → Result Fetched (ExchangeEnd R) → SharedNode → CloneNode → SharedNode → CloneNode → Type 0
CatchesUp told result s c t d = AreReady git git_rules s c → AreUp s c →
    IfOk result (λ fetched. (fetched.left ≡ 0) × IsCaughtUp t.repository d.repository) × IfErr result (EndsInFault told)
    × AreReady git git_rules t d × (t.repository ≡ s.repository)

-- the report tells that the branch has the new value, and no other thing
abbrev pub IsOkReport : PushReport → List ℕ → ObjectId → Type 0
IsOkReport report b id = report_text report ≡ record { unpack = None; told = record { name = branch b; outcome = Ok id } ∷ [] }

-- the branch has this id at the shared node, and so has the clone's tracking ref
abbrev pub IsSetTo : List ℕ → ObjectId → SharedNode → CloneNode → Type 0
IsSetTo b id t d = (get t.repository.refs (branch b) ≡ Some (bytes_of_id id)) × (get d.repository.refs (tracking b) ≡ Some (bytes_of_id id))

-- a fault ended the push at either node; or it was done, and there was no memory to give its report
abbrev pub EndsPush : {R : Type 0} → (R → Answer) → List ℕ → ObjectId → SharedNode → CloneNode → ExchangeEnd R → Type 0
EndsPush told b id t d of.Memory = IsSetTo b id t d
EndsPush told b id t d end = EndsInFault told end

-- Where the nodes were ready and up, and one branch might be pushed to this id, the report says so, the branch has the id, and so has
-- the tracking ref; or a fault ended the push, or the report could not be given for want of memory, and both have the id all the same.
abbrev pub PushesOne : {R : Type 0} → (R → Answer) → List PushItem → Result PushReport (ExchangeEnd R) → SharedNode → CloneNode → SharedNode → CloneNode → Type 0
PushesOne told items result s c t d = (b : List ℕ) (id : ObjectId) → machine_items items ≡ one_item b (bytes_of_id id) →
    AreReady git git_rules s c → AreUp s c → MayPush git s c b (bytes_of_id id) →
    IfOk result (λ report. IsOkReport report b id × IsSetTo b id t d) × IfErr result (EndsPush told b id t d)
