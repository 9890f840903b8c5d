-- What an exchange says of the clone alone, whoever answers it: its calls are a trail of the machine, in which each message that it sent
-- went out as its bytes, and each answer that came back was taken.
use Rattle.std.specs.Prelude.{◌≡◌, ◌≢◌, ◌⊎◌, ◌+◌, ◌++◌, ℕ, Bool, min, List, [], ◌∷◌, Option, Some, None, Result, Ok, Err}
use Rattle.vc_files.specs.Failures.{greatest_count}
use Rattle.vc_files.specs.FileMap.{FileMap}
use Rattle.vc_message.specs.AnyView.{message_text}
use Rattle.vc_message.specs.Coming.{Came, IsCome, a_message, no_message}
use Rattle.vc_message.specs.Machine.{IsUnread, Reads, TextOf, pkt_number}
use Rattle.vc_message.specs.Read.{WasRead}
use Rattle.vc_message.specs.Told.{SendsBytes}
use Rattle.vc_model.specs.Clone.{CloneNode}
use Rattle.vc_model.specs.Clone.Task.{StartFetch, StartPush}
use Rattle.vc_model.specs.CloneCall.{CloneCall}
use Rattle.vc_model.specs.CloneCall.CloneCall.{Asks, Command, Receive}
use Rattle.vc_model.specs.Exchange.{IsFewer}
use Rattle.vc_model.specs.Message.{Message}
use Rattle.vc_model.specs.Node.{Answer, Failure, Reply as Replied}
use Rattle.vc_model.specs.Node.Answer.{Declined, Did, Fault}
use Rattle.vc_model.specs.Question.Question.{Unread}
use Rattle.vc_model.specs.Repository.{IsSound}
use Rattle.vc_node.specs.CloneCalls.{ReceivedAs}
use Rattle.vc_node.specs.CloneFaults.{fault_answer}
use Rattle.vc_node.specs.Held.{Held}
use Rattle.vc_node.specs.Node.{AnswersCall}
use Rattle.vc_node.specs.declared.clone_fault.CloneFault.{CloneFault}
use Rattle.vc_node.specs.declared.exchanging.Received.{Received}
use Rattle.vc_push.specs.declared.report.Report.{Report as PushReport}
use Rattle.vc_rules.specs.Git.{git}
use Rattle.vc_sending.specs.Sending.{machine_items}
use Rattle.vc_sending.specs.declared.item.PushItem.{PushItem}
use Rattle.vc_trail.specs.Trail.{AreExchanged, IsBrought, IsTrail, Trail, Turn, clone_after}
use Rattle.vc_values.proofs.GitLaws.{git_rules}
use Rattle.vc_world.specs.Chains.{moved_by}
use Rattle.vc_world.specs.Exchanging.{PushedAs, RoundAs}
use Rattle.vc_world.specs.declared.ending.ExchangeEnd.{ExchangeEnd}
use Rattle.vc_world.specs.declared.ending.ExchangeEnd.TheVariants as of
use Rattle.vc_world.specs.declared.fetching.Fetched.{Fetched}
use Rattle.vc_world.specs.declared.peer.Reply.{Reply}
use Rattle.vc_world.specs.declared.peer.Reply.TheVariants as replies

-- ---- what comes

-- The bytes come as this call: of the message that they are, or of their refusal.
abbrev pub ComesAs : List ℕ → CloneCall → Type 0
ComesAs bytes call = ((m : Message) × Reads bytes m × (call ≡ Receive m)) ⊎ ((n : ℕ) × IsUnread bytes n × (call ≡ Asks (Unread n)))

-- What came of a reader comes as this call, if it came to its end.
abbrev pub IsTaken : Came → CloneCall → Type 0
IsTaken (a_message text) call = (m : Message) × TextOf m text × (call ≡ Receive m)
IsTaken (no_message fault) call = call ≡ Asks (Unread (pkt_number fault))
IsTaken came call = ⊥

-- This is answered whatever comes: a fault ends the call, or the clone is down.
abbrev pub IsAnyway : Answer → Type 0
IsAnyway a = ((f : Failure) × (a ≡ Fault f)) ⊎ (a ≡ Declined 112)

-- What the reader has first comes as this call. Where that is answered whatever comes, it need not have come to its end.
abbrev pub IsFirst : Option (List ℕ) → CloneCall → Answer → Type 0
IsFirst remaining call a =
    ((rest : Option (List ℕ)) × (came : Came) × IsCome remaining rest came × IsTaken came call)
    ⊎ ((bytes : List ℕ) × ComesAs bytes call × IsAnyway a)

-- What came back comes to the clone as this call, and has this answer.
abbrev pub IsLetter : {A : Type 0} → (A → Option (List ℕ)) → Reply A → CloneCall → Answer → Type 0
IsLetter remaining (replies.Bytes bytes) call a = ComesAs bytes.items call
IsLetter remaining (replies.Message message) call a = (m : Message) × TextOf m (message_text message) × (call ≡ Receive m)
IsLetter remaining (replies.Reader reader) call a = IsFirst (remaining reader) call a

-- A message that was read already is one that some bytes spell.
abbrev pub WasSpelled : {A : Type 0} → Reply A → Type 0
WasSpelled (replies.Message message) = WasRead (message_text message)
WasSpelled reply = Unit {0}

-- The clone was called with what came, and shows so what the machine answers.
pub record TakesCall {F : Type 0} (content : F → FileMap) (Shows : CloneCall → Answer → Option Message → Type 0) (was is : Held F) : Type 0 where
  pub call : CloneCall
  pub brought : IsBrought git call
  pub answers : AnswersCall content call (Shows call) was is

-- the first of what a reader has is received with this result
abbrev pub TakesFirst : {F : Type 0} → (F → FileMap) → Option (List ℕ) → Result Received CloneFault → Held F → Held F → Type 0
TakesFirst content remaining received was is = TakesCall content (λ call a sends. IsFirst remaining call a × ReceivedAs received a sends) was is

-- what came back is
abbrev pub TakesReply : {F A : Type 0} → (F → FileMap) → (A → Option (List ℕ)) → Reply A → Result Received CloneFault → Held F → Held F → Type 0
TakesReply content remaining reply received was is = TakesCall content (λ call a sends. IsLetter remaining reply call a × ReceivedAs received a sends) was is

-- ---- where it leads

-- A trail leads from the clone to one that is held now, and of it this holds.
pub record Along {C : Type 0} (holds : C → CloneNode → Type 0) (is : C) (Comes : Trail → Type 0) (c : CloneNode) : Type 0 where
  pub trail : Trail
  pub is_trail : IsTrail git git_rules c trail
  pub exchanged : AreExchanged git trail
  pub held : holds is (clone_after c trail)
  pub comes : Comes trail

-- Whatever sound clone was held, such a trail leads on from it.
pub record LeadsAlone {C : Type 0} (holds : C → CloneNode → Type 0) (was is : C) (Comes : Trail → Type 0) : Type 0 where
  pub each : (c : CloneNode) → holds was c → IsSound git c.repository → Along holds is Comes c

-- What a peer says: whom it was before, the bytes of which it was asked, what it gave, and whom it is then.
abbrev pub Saying : Type 0 → Type 0 → Type 0 → Type 1
Saying P R A = P → List ℕ → Result (Reply A) R → P → Type 0

-- The turn sent a message, and the peer was asked with its bytes, and gave this.
abbrev pub Asked : {P R A : Type 0} → Saying P R A → Turn → P → Result (Reply A) R → P → Type 0
Asked says t p given q = (bytes : List ℕ) × SendsBytes bytes t.answer t.sends × says p bytes given q

-- ---- a fetch

-- The answer that ends a round is told so; no refusal of the peer is.
abbrev pub EndsAs : {R : Type 0} → Result Fetched (ExchangeEnd R) → Answer → Type 0
EndsAs {R = R} result a = (told : R → Answer) → RoundAs told result a

-- The rest of a round after the turn that sent the clone's want.
pub data RestAlone {P R A : Type 0} (says : Saying P R A) (remaining : A → Option (List ℕ)) (l : Turn) (p : P) (result : Result Fetched (ExchangeEnd R)) (q : P) (ts : Trail) : Type 0 where
  unpacked : (refusal : R) → Asked says l p (Err refusal) q → ts ≡ [] → result ≡ Err (of.Shared refusal) → RestAlone says remaining l p result q ts
  packed : (reply : Reply A) (k : Turn) → Asked says l p (Ok reply) q → IsLetter remaining reply k.call k.answer → EndsAs result k.answer → ts ≡ k ∷ [] → RestAlone says remaining l p result q ts

-- A round, by the turn at which it ends.
pub data RoundAlone {P R A : Type 0} (says : Saying P R A) (remaining : A → Option (List ℕ)) (p : P) (result : Result Fetched (ExchangeEnd R)) (q : P) (ts : Trail) : Type 0 where
  unasked : (t : Turn) (fault : CloneFault) → t.call ≡ Command StartFetch → t.answer ≡ fault_answer fault → ts ≡ t ∷ [] → result ≡ Err (of.Clone fault) → q ≡ p → RoundAlone says remaining p result q ts
  unlisted : (t : Turn) (refusal : R) → t.call ≡ Command StartFetch → Asked says t p (Err refusal) q → ts ≡ t ∷ [] → result ≡ Err (of.Shared refusal) → RoundAlone says remaining p result q ts
  advertised : (t l : Turn) (reply : Reply A) → t.call ≡ Command StartFetch → Asked says t p (Ok reply) q → IsLetter remaining reply l.call l.answer → l.sends ≡ None → EndsAs result l.answer → ts ≡ l ∷ t ∷ []
      → RoundAlone says remaining p result q ts
  wanted : (t l : Turn) (reply : Reply A) (middle : P) (more : Trail) → t.call ≡ Command StartFetch → Asked says t p (Ok reply) middle → IsLetter remaining reply l.call l.answer → RestAlone says remaining l middle result q more
      → ts ≡ more ++ l ∷ t ∷ [] → RoundAlone says remaining p result q ts

-- a round that ends so is the last: none is left, or no fewer than before, or it was not done
abbrev pub IsLastRound : {R : Type 0} → Option ℕ → Result Fetched (ExchangeEnd R) → Type 0
IsLastRound before (Ok fetched) = (fetched.left ≡ 0) ⊎ (¬ IsFewer before fetched.left)
IsLastRound before (Err end) = Unit {0}

-- Rounds, one after another, the first after one that left so many, to the end of the last.
pub data RoundsAlone {P R A : Type 0} (says : Saying P R A) (remaining : A → Option (List ℕ)) : Option ℕ → P → Result Fetched (ExchangeEnd R) → P → Trail → Type 0 where
  last : {before : Option ℕ} {p q : P} {result : Result Fetched (ExchangeEnd R)} {ts : Trail} → RoundAlone says remaining p result q ts → IsLastRound before result → RoundsAlone says remaining before p result q ts
  again : {before : Option ℕ} {p q r : P} {result : Result Fetched (ExchangeEnd R)} {ts us : Trail} (fetched : Fetched) → RoundAlone says remaining p (Ok fetched) q ts → fetched.left ≢ 0 → IsFewer before fetched.left
      → RoundsAlone says remaining (Some fetched.left) q result r us → RoundsAlone says remaining before p result r (us ++ ts)

-- how many refs moved in all
abbrev pub moved_in : Trail → ℕ
moved_in [] = 0
moved_in (t ∷ ts) = moved_by t.answer + moved_in ts

-- the fetch tells the end of its last round, with the moves of all of them; that count stops at its greatest value
abbrev pub TellsEnd : {R : Type 0} → Result Fetched (ExchangeEnd R) → Result Fetched (ExchangeEnd R) → Trail → Type 0
TellsEnd (Ok fetched) end ts = (n : ℕ) × (end ≡ Ok (record { moved = n; left = fetched.left })) × (fetched.moved ≡ min (moved_in ts) greatest_count)
TellsEnd (Err e) end ts = end ≡ Err e

-- A whole fetch.
abbrev pub FetchAlone : {P R A : Type 0} → Saying P R A → (A → Option (List ℕ)) → P → Result Fetched (ExchangeEnd R) → P → Trail → Type 0
FetchAlone {R = R} says remaining p result q ts = (end : Result Fetched (ExchangeEnd R)) × RoundsAlone says remaining None p end q ts × TellsEnd result end ts

-- ---- a push

-- The answer to what came is told so: by the report that came, if one did; no refusal of the peer is.
abbrev pub ReportsAs : {R : Type 0} → CloneCall → Result PushReport (ExchangeEnd R) → Answer → Type 0
ReportsAs {R = R} (Receive m) result a = (told : R → Answer) → PushedAs told result a (Some m)
ReportsAs call result a = (fault : CloneFault) × (result ≡ Err (of.Clone fault)) × (a ≡ fault_answer fault)

-- The same, with an answer that no clone gives that is sound: that bytes which are no message are taken.
abbrev pub ShowsReport : {R : Type 0} → CloneCall → Result PushReport (ExchangeEnd R) → Answer → Type 0
ShowsReport {R = R} (Receive m) result a = ReportsAs {R = R} (Receive m) result a
ShowsReport call result a = ((y : Replied) × (a ≡ Did y)) ⊎ ReportsAs call result a

-- the first of what a reader has is taken as the answer to a push, with this result
abbrev pub ReportsFirst : {F R : Type 0} → (F → FileMap) → Option (List ℕ) → Result PushReport (ExchangeEnd R) → Held F → Held F → Type 0
ReportsFirst content remaining result was is = TakesCall content (λ call a sends. IsFirst remaining call a × ShowsReport call result a) was is

-- what came back is
abbrev pub ReportsReply : {F A R : Type 0} → (F → FileMap) → (A → Option (List ℕ)) → Reply A → Result PushReport (ExchangeEnd R) → Held F → Held F → Type 0
ReportsReply content remaining reply result was is = TakesCall content (λ call a sends. IsLetter remaining reply call a × ShowsReport call result a) was is

-- bytes that are no message, refused with this number, are
abbrev pub RefusesUnread : {F R : Type 0} → (F → FileMap) → ℕ → Result PushReport (ExchangeEnd R) → Held F → Held F → Type 0
RefusesUnread content n result was is = AnswersCall content (Asks (Unread n)) (λ a sends. ShowsReport (Asks (Unread n)) result a) was is

-- A whole push, which may be atomic, by the turn at which it ends.
pub data PushAlone {P R A : Type 0} (says : Saying P R A) (remaining : A → Option (List ℕ)) (atomic : Bool) (items : List PushItem) (p : P) (result : Result PushReport (ExchangeEnd R)) (q : P) (ts : Trail) : Type 0 where
  unsent : (t : Turn) (fault : CloneFault) → t.call ≡ Command (StartPush atomic (machine_items items)) → t.answer ≡ fault_answer fault → ts ≡ t ∷ [] → result ≡ Err (of.Clone fault) → q ≡ p
      → PushAlone says remaining atomic items p result q ts
  unanswered : (t : Turn) (refusal : R) → t.call ≡ Command (StartPush atomic (machine_items items)) → Asked says t p (Err refusal) q → ts ≡ t ∷ [] → result ≡ Err (of.Shared refusal) → PushAlone says remaining atomic items p result q ts
  answered : (t l : Turn) (reply : Reply A) → t.call ≡ Command (StartPush atomic (machine_items items)) → Asked says t p (Ok reply) q → IsLetter remaining reply l.call l.answer → ReportsAs l.call result l.answer
      → ts ≡ l ∷ t ∷ [] → PushAlone says remaining atomic items p result q ts
