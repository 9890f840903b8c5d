-- A call of the node lengthens its run.
use Rattle.std.proofs.Common.{◌≡◌, ◌⊎◌, ℕ, Bool, true, false, List, [], ◌∷◌, ◌++◌, map, Option, Result, Ok, Err, inl, inr, refl, sym, subst, ap, ◌∙◌}
use Rattle.vc_message.specs.Machine.{IsUnread, Reads}
use Rattle.vc_rules.specs.Git.{git}
use Rattle.vc_rules.specs.Told.{Quietly}
use Rattle.vc_shared.specs.Calls.{AcceptedAs, SteppedAs}
use Rattle.vc_values.proofs.GitLaws.{git_rules}
use Rattle.vc_shared.specs.Faults.{fault_answer}
use Rattle.vc_shared.specs.declared.accepting.Accepted.{Accepted}
use Rattle.vc_shared.specs.declared.accepting.Accepted.TheVariants.{Reply, Slot}
use Rattle.vc_shared.specs.declared.stepping.Stepped.{Stepped}
use Rattle.vc_shared.specs.declared.stepping.Stepped.TheVariants as stepped
use Rattle.vc_shared.specs.declared.fault.SharedFault.{SharedFault}
use Rattle.vc_model.specs.Desk.{IsWell, NoneCollide, OpensSound, Receipt, node_left, served}
use Rattle.vc_model.specs.Exact.{shared_event}
use Rattle.vc_model.specs.Message.{Message}
use Rattle.vc_model.specs.Node.{Answer}
use Rattle.vc_model.specs.Question.Question.{Unread}
use Rattle.vc_model.specs.Shared.{SharedNode}
use Rattle.vc_model.specs.SharedCall.{SharedAnswers, SharedCall}
use Rattle.vc_model.specs.SharedCall.SharedCall.{Accept, Asks, StepOf}
use Rattle.vc_desk.specs.declared.entry.Entry.{Entry}
use Rattle.vc_desk.specs.declared.entry.Failure.{Failure}
use Rattle.vc_desk.specs.declared.entry.Failure.TheVariants as failure
use Rattle.vc_desk.specs.Entry.{AnswerText, EntryText, EventText, IsFailureOf, IsStepped, IsTaken, answer_text, entry_text, event_text, failure_answer}
use Rattle.vc_desk.specs.Entry.EventText.{Accepts, Steps}
use Rattle.vc_desk.specs.Runs.{Adds, AnswersHeld, Held, IsCallFor, IsCallOf, KeptText, Runs, Shows, ShowsStepped, ShowsTaken}
use Rattle.vc_files.specs.FileMap.{FileMap}
use Rattle.vc_local.specs.declared.fault.NodeFault.{NodeFault}
use Rattle.vc_local.specs.declared.fault.NodeFault.TheVariants.{Down}
use Rattle.vc_message.proofs.Readings.{every_reading, read_named}
use Rattle.vc_shared.proofs.SteppingLaws.{held_still}
use Rattle.vc_shared.specs.Holding.{SharedText}
use Rattle.vc_shared.specs.Node.{AnswersCall, Settles}
use Rattle.vc_shared.specs.declared.opening.Opening.{Opening}
use Rattle.vc_model.proofs.Desk.{exact_log_earlier, exact_log_stays_sound}

-- the empty log is a run of no events
pub begins : {S : Type 0} (holds : S → SharedNode → Type 0) (start : S) → Runs holds start [] start
begins holds start = record { each = λ n held. ([], refl, held, λ sound one. tt) }

-- bytes are a message, or they are refused
some_reading : (bytes : List ℕ) → ((m : Message) × Reads bytes m) ⊎ ((n : ℕ) × IsUnread bytes n) → (call : SharedCall) × IsCallFor bytes call
some_reading bytes (inl (m, reads)) = (Accept m, inl (m, refl, reads))
some_reading bytes (inr (n, unread)) = (Asks (Unread n), inr (n, refl, unread))

-- each event is some call of the machine
pub some_call : (event : EventText) → (call : SharedCall) × IsCallOf event call
some_call (Accepts bytes) = some_reading bytes (every_reading bytes)
some_call (Steps k) = (StepOf k, refl)

-- what a message brings stands under its own name
pub well : (event : EventText) (call : SharedCall) → IsCallOf event call → IsWell git (shared_event call)
well (Steps k) call is = subst (λ (c : SharedCall). IsWell git (shared_event c)) (sym is) tt
well (Accepts bytes) call (inl (m, is, reads)) = subst (λ (c : SharedCall). IsWell git (shared_event c)) (sym is) (read_named bytes m reads)
well (Accepts bytes) call (inr (n, is, unread)) = subst (λ (c : SharedCall). IsWell git (shared_event c)) (sym is) tt

-- the machine's answer is that of the failure which is kept
failed : (fault : SharedFault) (kept : Failure) → IsFailureOf fault kept → fault_answer fault ≡ failure_answer kept
failed fault (failure.NotOurs id) is = ap fault_answer is
failed fault (failure.Refused number) is = is.0
failed fault (failure.Fault f) is = is.0

quietly_failed : (fault : SharedFault) (kept : Failure) (a : Answer) (sends : Option Message) → IsFailureOf fault kept → Quietly (fault_answer fault) a sends → Quietly (failure_answer kept) a sends
quietly_failed fault kept a sends is h = record { answer = h.answer ∙ failed fault kept is; sent = h.sent }

-- the answers that are kept are those of the call
pub taken_shows : (result : Result Accepted SharedFault) (answer : AnswerText) (a : Answer) (sends : Option Message) → IsTaken result answer → AcceptedAs result a sends → ShowsTaken answer a sends
taken_shows (Ok (Reply bytes)) answer a sends is h = subst (λ (t : AnswerText). ShowsTaken t a sends) (sym is) h
taken_shows (Ok (Slot k)) answer a sends is h = subst (λ (t : AnswerText). ShowsTaken t a sends) (sym is) h
taken_shows (Err fault) answer a sends (kept, is, of) h = subst (λ (t : AnswerText). ShowsTaken t a sends) (sym is) (quietly_failed fault kept a sends of h)

pub stepped_shows : (result : Result Stepped SharedFault) (answer : AnswerText) (a : Answer) (sends : Option Message) → IsStepped result answer → SteppedAs result a sends → ShowsStepped answer a sends
stepped_shows (Ok (stepped.Checked n)) answer a sends is h = subst (λ (t : AnswerText). ShowsStepped t a sends) (sym is) h
stepped_shows (Ok stepped.Migrated) answer a sends is h = subst (λ (t : AnswerText). ShowsStepped t a sends) (sym is) h
stepped_shows (Ok (stepped.Updated name found)) answer a sends is h = subst (λ (t : AnswerText). ShowsStepped t a sends) (sym is) h
stepped_shows (Ok (stepped.Atomic n)) answer a sends is h = subst (λ (t : AnswerText). ShowsStepped t a sends) (sym is) h
stepped_shows (Ok (stepped.AtomicRefused name reason)) answer a sends is h = subst (λ (t : AnswerText). ShowsStepped t a sends) (sym is) h
stepped_shows (Ok (stepped.Finished bytes)) answer a sends is h = subst (λ (t : AnswerText). ShowsStepped t a sends) (sym is) h
stepped_shows (Err fault) answer a sends (kept, is, of) h = subst (λ (t : AnswerText). ShowsStepped t a sends) (sym is) (quietly_failed fault kept a sends of h)

-- what the node answered, as the log has it
held_by : {F : Type 0} (content : F → FileMap) (call : SharedCall) (P Q : Answer → Option Message → Type 0) (old new : SharedText F)
    → ((a : Answer) (sends : Option Message) → P a sends → Q a sends) → AnswersCall content call P old new → AnswersHeld (Held content) call Q old new
held_by content call P Q old new f h = record { each = λ n held. let e = h.each n held in (e.0, e.1, e.2, e.3, f e.1 e.2 e.4, e.5) }

-- the answer to a message is of each call that the bytes may be
pub takes : {F : Type 0} (content : F → FileMap) (bytes : List ℕ) (result : Result Accepted SharedFault) (answer : AnswerText) (old new : SharedText F) → IsTaken result answer
    → ((m : Message) → Reads bytes m → AnswersCall content (Accept m) (AcceptedAs result) old new)
    → ((n : ℕ) → IsUnread bytes n → AnswersCall content (Asks (Unread n)) (AcceptedAs result) old new)
    → (call : SharedCall) → IsCallOf (Accepts bytes) call → AnswersHeld (Held content) call (Shows (Accepts bytes) answer) old new
takes content bytes result answer old new is answers unread call (inl (m, of, reads)) =
    subst (λ (c : SharedCall). AnswersHeld (Held content) c (ShowsTaken answer) old new) (sym of)
    (held_by content (Accept m) (AcceptedAs result) (ShowsTaken answer) old new (λ a sends h. taken_shows result answer a sends is h) (answers m reads))
takes content bytes result answer old new is answers unread call (inr (n, of, none)) =
    subst (λ (c : SharedCall). AnswersHeld (Held content) c (ShowsTaken answer) old new) (sym of)
    (held_by content (Asks (Unread n)) (AcceptedAs result) (ShowsTaken answer) old new (λ a sends h. taken_shows result answer a sends is h) (unread n none))

pub steps : {F : Type 0} (content : F → FileMap) (slot : ℕ) (result : Result Stepped SharedFault) (answer : AnswerText) (old new : SharedText F) → IsStepped result answer
    → AnswersCall content (StepOf slot) (SteppedAs result) old new
    → (call : SharedCall) → IsCallOf (Steps slot) call → AnswersHeld (Held content) call (Shows (Steps slot) answer) old new
steps content slot result answer old new is answers call of =
    subst (λ (c : SharedCall). AnswersHeld (Held content) c (ShowsStepped answer) old new) (sym of)
    (held_by content (StepOf slot) (SteppedAs result) (ShowsStepped answer) old new (λ a sends h. stepped_shows result answer a sends is h) answers)

-- one more event
pub lengthens : {S : Type 0} (holds : S → SharedNode → Type 0) (start old new : S) (log : List EntryText) (e : EntryText)
    → ((call : SharedCall) → IsCallOf e.event call → AnswersHeld holds call (Shows e.event e.answer) old new) → Runs holds start log old → Runs holds start (log ++ e ∷ []) new
lengthens holds start old new log e answers runs = record {
  each = λ n held.
      let before = runs.each n held in
      let call = some_call e.event in
      let step = (answers call.0 call.1).each (node_left n before.0) before.2 in
      let r : Receipt = record { call = call.0; answer = step.1; sends = step.2; node = step.0 } in
      let exact : OpensSound git n → NoneCollide git n (map served before.0) → SharedAnswers git git_rules (node_left n before.0) r.call r.answer r.node r.sends
      = λ sound one. let good = exact_log_stays_sound git git_rules n before.0 sound (before.3 sound one) one in step.5 good.0 good.1 in (
        r ∷ before.0,
        (log, e, refl, record { call = call.1; shows = step.4; step = exact }, before.1),
        step.3,
        λ sound one.
            let earlier : NoneCollide git n (map served before.0) = exact_log_earlier git n r before.0 one in
            (well e.event call.0 call.1, exact sound earlier, before.3 sound earlier),
      );
}

map_snoc : (xs : List Entry) (x : Entry) → map entry_text (xs ++ x ∷ []) ≡ map entry_text xs ++ entry_text x ∷ []
map_snoc [] x = refl
map_snoc (y ∷ ys) x = ap (λ (l : List EntryText). entry_text y ∷ l) (map_snoc ys x)

-- the log with one entry more
pub logged : (new mid old : List Entry) (x : Entry) (connection : ℕ) (event : EventText) (answer : AnswerText) → new ≡ mid ++ x ∷ [] → mid ≡ old → x.connection ≡ connection → event_text x.event ≡ event → answer_text x.answer ≡ answer
    → map entry_text new ≡ map entry_text old ++ record { connection = connection; event = event; answer = answer } ∷ []
logged new mid old x connection event answer is room k v a =
    ap (λ (l : List Entry). map entry_text l) (is ∙ ap (λ (l : List Entry). l ++ x ∷ []) room)
    ∙ map_snoc old x
    ∙ ap (λ (n : ℕ). map entry_text old ++ record { connection = n; event = event_text x.event; answer = answer_text x.answer } ∷ []) k
    ∙ ap (λ (e : EventText). map entry_text old ++ record { connection = connection; event = e; answer = answer_text x.answer } ∷ []) v
    ∙ ap (λ (b : AnswerText). map entry_text old ++ record { connection = connection; event = event; answer = b } ∷ []) a

-- what an entry adds, where the node is as it was opened
pub adds : {S : Type 0} (honest : Type 0) (holds : S → SharedNode → Type 0) (connection : ℕ) (event : EventText) (answer : AnswerText) (old inside new : KeptText S) → inside ≡ old
    → new.log ≡ inside.log ++ record { connection = connection; event = event; answer = answer } ∷ []
    → (honest → (call : SharedCall) → IsCallOf event call → AnswersHeld holds call (Shows event answer) inside.shared new.shared)
    → new.start ≡ inside.start → new.opening ≡ inside.opening → Adds honest holds connection event old new
adds honest holds connection event answer old inside new is log answers start opening =
    subst (λ (k : KeptText _). Adds honest holds connection event k new) is (record { answer = answer; log = log; answers = answers; start = start; opening = opening })

-- ---- after its opening was told

up_is : (was now : Bool) (was_is : Bool) → was ≡ was_is → (was ≡ false → ⊥) → (was ≡ true → now ≡ true) → now ≡ was
up_is was now true is never up = up is ∙ sym is
up_is was now false is never up = absurd (never is)

abbrev is_ok_there : Result Opening NodeFault → Type 0
is_ok_there (Ok opening) = Unit {0}
is_ok_there (Err fault) = ⊥

never_down : (opening : Opening) → Ok opening ≡ Err Down → ⊥
never_down opening is = subst is_ok_there is tt

-- a node that told its opening is as it was
module _ {F : Type 0} (content : F → FileMap) (old new : SharedText F) (opening : Opening) (settles : Settles (Ok opening ≡ Err Down) true old new) (same : content new.files ≡ content old.files) where
  still_up : new.is_up ≡ old.is_up
  still_up = up_is old.is_up new.is_up old.is_up refl (λ down. never_down opening (settles.down down)) settles.up

  pub held_on : (n : SharedNode) → Held content old n → Held content new n
  held_on n held = held_still (content old.files) (content new.files) old.slots new.slots old.is_up new.is_up n same settles.slots still_up held

  pub held_before : (n : SharedNode) → Held content new n → Held content old n
  held_before n held = held_still (content new.files) (content old.files) new.slots old.slots new.is_up old.is_up n (sym same) (sym settles.slots) (sym still_up) held
