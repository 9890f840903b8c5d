-- What the shared node tells of a message from a reader: once what came of it has gone through the call that takes the node down after a
-- fault, and where the node is down before.
use Rattle.std.proofs.Common.{◌≡◌, inl, inr, ℕ, Bool, true, false, List, ◌++◌, Option, Some, None, Result, Ok, Err, refl, sym, ap, ◌∙◌, subst, true≢false}
use Rattle.std.specs.Prelude.{IfErr, IfNone, IfOk, IfSome}
use Rattle.vc_files.specs.FileMap.{FileMap}
use Rattle.vc_message.proofs.ComingLaws.{none_wrong, some_taken, text_taken}
use Rattle.vc_message.proofs.IncomingFronts.{taken_as}
use Rattle.vc_message.specs.AnyMessage.{any_step, beginning}
use Rattle.vc_message.specs.Incoming.{Fails, TakesNothing}
use Rattle.vc_message.specs.Machine.{Reads, pkt_number}
use Rattle.vc_message.specs.Streaming.{TakesSome}
use Rattle.vc_message.specs.declared.incoming_fault.IncomingFault.{IncomingFault}
use Rattle.vc_message.specs.declared.incoming_fault.IncomingFault.TheVariants as incoming
use Rattle.vc_model.specs.Message.{Message}
use Rattle.vc_model.specs.Question.Question.{Unread as AsksUnread}
use Rattle.vc_model.specs.SharedCall.{SharedCall}
use Rattle.vc_model.specs.SharedCall.SharedCall.{Accept, Asks}
use Rattle.vc_local.specs.declared.fault.NodeFault.TheVariants.{Down}
use Rattle.vc_push_rules.specs.Session.{SessionText}
use Rattle.vc_shared.proofs.SteppingLaws.{down_answers}
use Rattle.vc_shared.specs.AcceptFault.{TellsDevice, is_fault, up_after}
use Rattle.vc_message.specs.Coming.{Came, IsCome, a_message, cut_short, lost, no_message, nothing_came}
use Rattle.vc_shared.specs.Arriving.{AcceptsFrom, AcceptsUp, IsCallOf, IsKnown, IsTold, KeepsHeld, ToldAs, down_told}
use Rattle.vc_shared.specs.Calls.{AcceptedAs, AnswersShared}
use Rattle.vc_shared.specs.declared.accept_fault.AcceptFault.{AcceptFault}
use Rattle.vc_shared.specs.declared.accept_fault.AcceptFault.TheVariants.{Node, ReadFailed}
use Rattle.vc_shared.specs.declared.accepting.Accepted.{Accepted}
use Rattle.vc_shared.specs.declared.fault.SharedFault.{SharedFault}
use Rattle.vc_shared.specs.declared.fault.SharedFault.TheVariants as shared

-- ---- a node that is up
-- the files and the slots are those after the call, and the result is told as it came
module _ {D : Type 0} (content : D → FileMap) (old mid new : D) (slots mids after : List (Option SessionText)) (is_up : Bool) (came told : Result (Option Accepted) AcceptFault) (is : told ≡ came) (files : new ≡ mid) (same : after ≡ mids) where
  pub next_accepts : (honest : Type 0) (before rest : Option (List ℕ)) (was_up : Bool) → was_up ≡ true → is_up ≡ up_after told → AcceptsUp honest before rest (content old) (content mid) slots mids came
      → AcceptsFrom honest before rest (content old) (content new) slots after was_up is_up told
  next_accepts honest before rest was_up was up accepts =
      subst (λ (b : Bool). AcceptsFrom honest before rest (content old) (content new) slots after b is_up told) (sym was)
      (subst (λ (r : Result (Option Accepted) AcceptFault). AcceptsFrom honest before rest (content old) (content new) slots after true is_up r) (sym is)
      (subst (λ (d : D). AcceptsFrom honest before rest (content old) (content d) slots after true is_up came) (sym files)
      (subst (λ (xs : List (Option SessionText)). AcceptsFrom honest before rest (content old) (content mid) slots xs true is_up came) (sym same)
      (accepts is_up (up ∙ ap (λ (r : Result (Option Accepted) AcceptFault). up_after r) is)))))

  pub next_none : {T L : Type 0} (text : D → List (Option SessionText) → Bool → L → T) (known now : L) → now ≡ known → (was_up : Bool) → was_up ≡ true → is_up ≡ up_after told
      → IfOk came (λ found. IfNone found ((mid ≡ old) × (mids ≡ slots))) → IfOk told (λ found. IfNone found (text new after is_up now ≡ text old slots was_up known))
  next_none text known now still was_up was up none = by told up (subst (λ (r : Result (Option Accepted) AcceptFault). IfOk r (λ found. IfNone found ((mid ≡ old) × (mids ≡ slots)))) (sym is) none)
    where
      by : (r : Result (Option Accepted) AcceptFault) → is_up ≡ up_after r → IfOk r (λ found. IfNone found ((mid ≡ old) × (mids ≡ slots))) → IfOk r (λ found. IfNone found (text new after is_up now ≡ text old slots was_up known))
      by (Ok (Some accepted)) here none = tt
      by (Ok None) here none =
          ap (λ (d : D). text d after is_up now) (files ∙ none.0) ∙ ap (λ (xs : List (Option SessionText)). text old xs is_up now) (same ∙ none.1) ∙ ap (λ (b : Bool). text old slots b now) (here ∙ sym was)
          ∙ ap (λ k. text old slots was_up k) still
      by (Err e) here none = tt

  pub next_lost : (was_up : Bool) → was_up ≡ true → is_up ≡ up_after told → IfErr came (λ e. e ≡ ReadFailed → (b : Bool) → KeepsHeld (content old) (content mid) slots mids b b)
      → IfErr told (λ e. e ≡ ReadFailed → KeepsHeld (content old) (content new) slots after was_up is_up)
  next_lost was_up was up keeps =
      subst (λ (d : D). IfErr told (λ e. e ≡ ReadFailed → KeepsHeld (content old) (content d) slots after was_up is_up)) (sym files)
      (subst (λ (xs : List (Option SessionText)). IfErr told (λ e. e ≡ ReadFailed → KeepsHeld (content old) (content mid) slots xs was_up is_up)) (sym same)
      (by told up (subst (λ (r : Result (Option Accepted) AcceptFault). IfErr r (λ e. e ≡ ReadFailed → (b : Bool) → KeepsHeld (content old) (content mid) slots mids b b)) (sym is) keeps)))
    where
      by : (r : Result (Option Accepted) AcceptFault) → is_up ≡ up_after r → IfErr r (λ e. e ≡ ReadFailed → (b : Bool) → KeepsHeld (content old) (content mid) slots mids b b)
          → IfErr r (λ e. e ≡ ReadFailed → KeepsHeld (content old) (content mid) slots mids was_up is_up)
      by (Ok found) here keeps = tt
      by (Err (Node e)) here keeps = λ never. absurd (cc never)
      by (Err ReadFailed) here keeps = λ which.
          subst (λ (b : Bool). KeepsHeld (content old) (content mid) slots mids was_up b) (sym here)
          (subst (λ (b : Bool). KeepsHeld (content old) (content mid) slots mids b true) (sym was) (keeps refl true))

-- ---- a node that is down
abbrev Skipped : Type 0
Skipped = Result (Option (Unit {0})) IncomingFault

module _ (honest : Type 0) (before rest : Option (List ℕ)) (content : FileMap) (slots : List (Option SessionText)) where
  down_call : (call : SharedCall) → (m : Message) → call ≡ Accept m → AnswersShared call (AcceptedAs (Err (shared.Node Down))) content content slots slots false false
  down_call call m is =
      subst (λ (c : SharedCall). AnswersShared c (AcceptedAs (Err (shared.Node Down))) content content slots slots false false) (sym is)
      (down_answers (Accept m) (AcceptedAs (Err (shared.Node Down))) (λ never. cc never) (record { answer = refl; sent = refl }) content content slots slots false false refl refl refl refl)

  down_unread : (call : SharedCall) (n : ℕ) → call ≡ Asks (AsksUnread n) → AnswersShared call (AcceptedAs (Err (shared.Node Down))) content content slots slots false false
  down_unread call n is =
      subst (λ (c : SharedCall). AnswersShared c (AcceptedAs (Err (shared.Node Down))) content content slots slots false false) (sym is)
      (down_answers (Asks (AsksUnread n)) (AcceptedAs (Err (shared.Node Down))) (λ never. cc never) (record { answer = refl; sent = refl }) content content slots slots false false refl refl refl refl)

  abbrev Accepts : Result (Option Accepted) AcceptFault → Type 0
  Accepts result = AcceptsFrom honest before rest content content slots slots false false result

  down_by : (s : Skipped) → IfOk s (λ found. IfSome found (λ u. TakesSome before rest)) → IfOk s (λ found. IfNone found (TakesNothing before rest)) → IfErr s (Fails any_step beginning before rest) → Accepts (down_told s)
  down_by (Ok (Some u)) some none fails = record {
    came = a_message some.0;
    is_come = taken_as before rest some.0 some.1;
    told = refl;
    refused = λ h was. absurd (true≢false (sym was));
    answered = λ h. tt;
    answers = λ h call which. down_call call which.0 which.2;
  }
  down_by (Ok None) some none fails = record { came = nothing_came; is_come = none; told = tt; refused = λ h was. absurd (true≢false (sym was)); answered = λ h. tt; answers = λ h call never. absurd never }
  down_by (Err incoming.Failed) some none fails = record { came = lost; is_come = fails; told = tt; refused = λ h was. absurd (true≢false (sym was)); answered = λ h. tt; answers = λ h call never. absurd never }
  down_by (Err incoming.Memory) some none fails = record { came = cut_short; is_come = fails; told = refl; refused = λ h was. absurd (true≢false (sym was)); answered = λ h. tt; answers = λ h call never. absurd never }
  down_by (Err (incoming.Unread fault)) some none fails = record {
    came = no_message fault;
    is_come = fails;
    told = refl;
    refused = λ h was. absurd (true≢false (sym was));
    answered = λ h. tt;
    answers = λ h call which. down_unread call (pkt_number fault) which;
  }

  pub down_accepts : (s : Skipped) (result : Result (Option Accepted) AcceptFault) (was_up : Bool) → was_up ≡ false → result ≡ down_told s → IfOk s (λ found. IfSome found (λ u. TakesSome before rest)) → IfOk s (λ found. IfNone found (TakesNothing before rest))
      → IfErr s (Fails any_step beginning before rest) → AcceptsFrom honest before rest content content slots slots was_up was_up result
  down_accepts s result was_up was is some none fails =
      subst (λ (b : Bool). AcceptsFrom honest before rest content content slots slots b b result) (sym was)
      (subst Accepts (sym is) (down_by s some none fails))

-- it keeps what was held
pub down_keeps : (content : FileMap) (slots : List (Option SessionText)) (is_up : Bool) (result : Result (Option Accepted) AcceptFault) → IfErr result (λ e. e ≡ ReadFailed → KeepsHeld content content slots slots is_up is_up)
down_keeps content slots is_up (Ok found) = tt
down_keeps content slots is_up (Err e) = λ which n held. held

pub down_no_device : (s : Skipped) (result : Result (Option Accepted) AcceptFault) → result ≡ down_told s → TellsDevice result → ⊥
down_no_device s result is told = by s (subst (λ (r : Result (Option Accepted) AcceptFault). TellsDevice r) is told)
  where
    by : (s : Skipped) → TellsDevice (down_told s) → ⊥
    by (Ok (Some u)) device = device
    by (Ok None) device = device
    by (Err incoming.Failed) device = device
    by (Err incoming.Memory) device = true≢false (sym device)
    by (Err (incoming.Unread fault)) device = device

-- ---- a message that is first of what the reader has
module _ (honest : Type 0) (left : Option (List ℕ)) (old new : FileMap) (slots after : List (Option SessionText)) (is_up : Bool) (bytes rest : List ℕ) (m : Message) (reads : Reads bytes m) where
  abbrev before : Option (List ℕ)
  before = Some (bytes ++ rest)

  abbrev Answered : Bool → Result (Option Accepted) AcceptFault → SharedCall → Type 0
  Answered was_up result call = AnswersShared call (ToldAs result) old new slots after was_up is_up

  abbrev Known : Bool → Result (Option Accepted) AcceptFault → Type 0
  Known was_up result = IsKnown honest was_up m rest left (Answered was_up result) result

  abbrev Answers : Bool → Came → Result (Option Accepted) AcceptFault → Type 0
  Answers was_up came result = honest → (call : SharedCall) → IsCallOf was_up came call → Answered was_up result call

  known_by : (was_up : Bool) (came : Came) (result : Result (Option Accepted) AcceptFault) → IsCome before left came → IsTold was_up came result → Answers was_up came result → Known was_up result
  known_by true (a_message text) (Ok (Some accepted)) come told answers = let at = text_taken left bytes rest m reads text come in (at.1, λ h. answers h (Accept m) (m, at.0, refl))
  known_by true (a_message text) (Ok None) come told answers = absurd told
  known_by true (a_message text) (Err (Node e)) come told answers = let at = text_taken left bytes rest m reads text come in (inl at.1, λ h which. answers h (Accept m) (m, at.0, refl))
  known_by true (a_message text) (Err ReadFailed) come told answers = tt
  known_by false (a_message text) (Ok (Some accepted)) come told answers = absurd told
  known_by false (a_message text) (Ok None) come told answers = absurd told
  known_by false (a_message text) (Err (Node e)) come told answers = let at = text_taken left bytes rest m reads text come in (inl at.1, λ h which. answers h (Accept m) (m, at.0, refl))
  known_by false (a_message text) (Err ReadFailed) come told answers = tt
  known_by was_up nothing_came result come told answers = absurd (some_taken left bytes rest m reads come)
  known_by was_up (no_message fault) result come told answers = absurd (none_wrong left bytes rest m reads fault come)
  known_by true lost (Ok (Some accepted)) come told answers = absurd told
  known_by true lost (Ok None) come told answers = absurd told
  known_by true lost (Err (Node e)) come told answers = absurd told
  known_by true lost (Err ReadFailed) come told answers = tt
  known_by false lost (Ok (Some accepted)) come told answers = absurd told
  known_by false lost (Ok None) come told answers = absurd told
  known_by false lost (Err (Node e)) come told answers = absurd told
  known_by false lost (Err ReadFailed) come told answers = tt
  known_by true cut_short (Ok (Some accepted)) come told answers = absurd told
  known_by true cut_short (Ok None) come told answers = absurd told
  known_by true cut_short (Err (Node e)) come told answers = (inr (ap (λ (x : SharedFault). is_fault (Node x)) told.1), λ h which. answers h (Accept m) (λ never. cc never))
  known_by true cut_short (Err ReadFailed) come told answers = tt
  known_by false cut_short (Ok (Some accepted)) come told answers = absurd told
  known_by false cut_short (Ok None) come told answers = absurd told
  known_by false cut_short (Err (Node e)) come told answers =
      let here : is_fault (Node e) ≡ true = ap (λ (x : SharedFault). is_fault (Node x)) told in
      (inr here, λ h which. elim which [ inl up ↦ absurd (true≢false (sym up)) | inr calm ↦ absurd (true≢false (sym here ∙ calm)) ])
  known_by false cut_short (Err ReadFailed) come told answers = tt

pub known_accepts : (honest : Type 0) (from left : Option (List ℕ)) (old new : FileMap) (slots after : List (Option SessionText)) (was_up is_up : Bool) (result : Result (Option Accepted) AcceptFault) → AcceptsFrom honest from left old new slots after was_up is_up result
    → (m : Message) (bytes rest : List ℕ) → from ≡ Some (bytes ++ rest) → Reads bytes m → IsKnown honest was_up m rest left (λ call. AnswersShared call (ToldAs result) old new slots after was_up is_up) result
known_accepts honest from left old new slots after was_up is_up result a m bytes rest is reads =
    known_by honest left old new slots after is_up bytes rest m reads was_up a.came result (subst (λ (b : Option (List ℕ)). IsCome b left a.came) is a.is_come) a.told a.answers
