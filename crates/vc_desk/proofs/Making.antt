-- What is known of a receipt by itself.
use Rattle.std.proofs.Common.{arith, length-append, ◌≡◌, ◌+◌, ℕ, List, [], ◌∷◌, ◌++◌, length, map, Result, Ok, Err, Some, refl, sym, subst, ap, ◌∙◌}
use Rattle.std.specs.List.{AllByRecursion}
use Rattle.std.specs.Prelude.{IfOk, MatchResult}
use Rattle.std.specs.declared.alloc.AllocError.{AllocError}
use Rattle.vc_model.specs.Shared.{SharedNode}
use Rattle.vc_model.specs.SharedCall.{SharedCall}
use Rattle.vc_desk.specs.declared.entry.Entry.{Entry}
use Rattle.vc_desk.specs.declared.locked.Receipt.{Receipt}
use Rattle.vc_desk.specs.Entry.{AnswerText, EntryText, EventText, answer_text, entry_text, event_text}
use Rattle.vc_desk.specs.Runs.{AnswersHeld, IsCallOf, Runs, Shows}
use Rattle.vc_desk.specs.Talk.{ReceiptText, receipt_of, receipt_text}
use Rattle.vc_desk.specs.Watching.{EndsRun, Notes, RunsFrom, WatchedText}
use Rattle.vc_desk.proofs.Adding.{lengthens}
use Rattle.vc_desk.proofs.Serving.{runs_from}

-- ---- receipt by receipt

all_snoc : (made : ReceiptText → Type 0) (xs : List Receipt) (x : Receipt) → AllByRecursion made (map receipt_text xs) → made (receipt_text x) → AllByRecursion made (map receipt_text (xs ++ x ∷ []))
all_snoc made [] x all one = (one, tt)
all_snoc made (y ∷ ys) x all one = (all.0, all_snoc made ys x all.1 one)

-- the receipts after one event, or after none
pub made_more : (made : ReceiptText → Type 0) (took : Result Receipt AllocError) (old room new : List Receipt) → room ≡ old → IfOk took (λ r. made (receipt_text r))
    → MatchResult took (λ r. new ≡ room ++ r ∷ []) (λ e. new ≡ room) → AllByRecursion made (map receipt_text old) → AllByRecursion made (map receipt_text new)
made_more made (Ok r) old room new same one more all =
    subst (λ (l : List Receipt). AllByRecursion made (map receipt_text l)) (sym more)
    (all_snoc made room r (subst (λ (l : List Receipt). AllByRecursion made (map receipt_text l)) (sym same) all) one)
made_more made (Err e) old room new same one more all = subst (λ (l : List Receipt). AllByRecursion made (map receipt_text l)) (sym (more ∙ same)) all

-- ---- event by event

pub length_more : (log : List EntryText) (e : EntryText) (old new : ℕ) → length log ≡ old → new ≡ old + 1 → length (log ++ e ∷ []) ≡ new
length_more log e old new is more = omega (arith, length-append log (e ∷ []), is, more)

module _ {S : Type 0} (honest : Type 0) (holds : S → SharedNode → Type 0) (old new : S) (e : Entry) where
  -- the node's answer, as the entry has it
  abbrev pub Answered : Type 0
  Answered = honest → (call : SharedCall) → IsCallOf (event_text e.event) call → AnswersHeld holds call (Shows (event_text e.event) (answer_text e.answer)) old new

  pub answered : (event : EventText) → event_text e.event ≡ event → (honest → (call : SharedCall) → IsCallOf event call → AnswersHeld holds call (Shows event (answer_text e.answer)) old new) → Answered
  answered event is answers h call = subst (λ (v : EventText). IsCallOf v call → AnswersHeld holds call (Shows v (answer_text e.answer)) old new) (sym is) (answers h call)

  module _ (start : S) (log : List EntryText) (answers : Answered) (runs : honest → Runs holds start log old) where
    pub runs_more : honest → Runs holds start (log ++ entry_text e ∷ []) new
    runs_more h = lengthens holds start old new log (entry_text e) (answers h) (runs h)

    -- the entry is the last of its run
    pub ends_run : (from : SharedNode → Type 0) (place : ℕ) → ((n : SharedNode) → from n → holds start n) → length log ≡ place → honest → EndsRun holds from place (entry_text e)
    ends_run from place held is h = record { log = log; now = new; length_is = is; run = record { start = start; held = held; run = runs_more h } }

receipt_is : (place connection : ℕ) (event : EventText) (e : Entry) → e.connection ≡ connection → event_text e.event ≡ event
    → receipt_text (record { place = place; entry = Some e }) ≡ receipt_of connection place event (Some (answer_text e.answer))
receipt_is place connection event e k v =
    ap (λ (n : ℕ). record { place = place; entry = Some (record { connection = n; event = event_text e.event; answer = answer_text e.answer }) }) k
    ∙ ap (λ (w : EventText). record { place = place; entry = Some (record { connection = connection; event = w; answer = answer_text e.answer }) }) v

-- the count of a node that is seen as it was
pub counted : {S : Type 0} (inside old : WatchedText S) (count : ℕ) → inside ≡ old → count ≡ old.count + 1 → count ≡ inside.count + 1
counted inside old count same is = is ∙ ap (λ (w : WatchedText _). w.count + 1) (sym same)

-- what was added, of a node that is seen as it was
pub notes : {S : Type 0} (honest : Type 0) (holds : S → SharedNode → Type 0) (connection : ℕ) (event : EventText) (e : Entry) (old inside new : WatchedText S) → inside ≡ old → e.connection ≡ connection → event_text e.event ≡ event
    → (honest → (call : SharedCall) → IsCallOf event call → AnswersHeld holds call (Shows event (answer_text e.answer)) inside.shared new.shared) → new.count ≡ old.count + 1 → new.start ≡ inside.start
    → Notes honest holds connection event (receipt_text (record { place = inside.count; entry = Some e })) old new
notes honest holds connection event e old inside new same k v answers count start =
    subst (λ (w : WatchedText _). Notes honest holds connection event (receipt_text (record { place = inside.count; entry = Some e })) w new) same
    (record { answer = answer_text e.answer; is = receipt_is inside.count connection event e k v; answers = answers; count = counted inside old new.count same count; start = start })

-- a run from all that the first node held
pub run_from : {S : Type 0} (holds : S → SharedNode → Type 0) (first now : S) (log : List EntryText) → RunsFrom holds (λ n. holds first n) log now → Runs holds first log now
run_from holds first now log r = runs_from holds first r.start now log r.held r.run
