-- What a clone tells of a message from a reader: while it is up, once what came of it has gone through the call that takes the node down
-- after a fault, and where it is down before.
use Rattle.std.proofs.Common.{◌≡◌, ◌≢◌, inl, inr, ℕ, Bool, true, false, List, ◌++◌, Option, Some, None, Result, Ok, Err, refl, sym, ap, ◌∙◌, subst, true≢false}
use Rattle.std.specs.Prelude.{IfErr, IfNone, IfOk, IfSome, OnErr}
use Rattle.vc_files.specs.Failures.{Writes}
use Rattle.vc_files.specs.FileMap.{FileMap, SameOutside}
use Rattle.vc_files.specs.declared.faults.Fault.{Fault as FilesFault}
use Rattle.vc_message.proofs.ComingLaws.{none_wrong, some_taken, text_taken}
use Rattle.vc_message.proofs.IncomingFronts.{taken_as}
use Rattle.vc_message.specs.AnyMessage.{MessageText, any_step, beginning}
use Rattle.vc_message.specs.Incoming.{Fails, TakesNothing}
use Rattle.vc_message.specs.Machine.{Reads, TextOf, pkt_number}
use Rattle.vc_message.specs.Streaming.{TakesSome}
use Rattle.vc_message.specs.declared.incoming_fault.IncomingFault.{IncomingFault}
use Rattle.vc_message.specs.declared.incoming_fault.IncomingFault.TheVariants as incoming
use Rattle.vc_model.specs.CloneCall.{CloneCall}
use Rattle.vc_model.specs.CloneCall.CloneCall.{Asks, Open, Receive}
use Rattle.vc_model.specs.Message.{Message}
use Rattle.vc_model.specs.Question.Question.{Unread as AsksUnread}
use Rattle.vc_pkt.specs.declared.fault.PktFault.{PktFault}
use Rattle.vc_quarantine.specs.Clean.{MakesNoneBad}
use Rattle.vc_quarantine.specs.Learning.{Learnt}
use Rattle.vc_push_rules.specs.Quarantine.{IsDropped, quarantine_folder}
use Rattle.vc_node.proofs.ArrivedLemmas.{node_beside}
use Rattle.vc_node.proofs.CloneCallLemmas.{down_clone, fault_leads}
use Rattle.vc_local.proofs.BesideLemmas.{clean_by}
use Rattle.vc_node.proofs.ReceivingClone.{unread_leads, up_answers}
use Rattle.vc_message.specs.Coming.{Came, IsCome, TakesAll, a_message, cut_short, lost, no_message, nothing_came}
use Rattle.vc_node.specs.Arriving.{ComesTo, IsCallOf, IsKnown, IsStopped, IsTold, KeepsHeld, ReceivesFrom, ReceivesUp, ToldAs, by_bytes, by_node, by_reader, down_told, some_told, stopped, whole}
use Rattle.vc_node.specs.Awaited.{AwaitedText}
use Rattle.vc_local.specs.Clean.{KeepsClean}
use Rattle.vc_refs.proofs.LayeredLemmas.{packed_map-same}
use Rattle.vc_refs.specs.Refs.{packed_path}
use Rattle.vc_exchange.specs.Quarantined.{KeepsOthers}
use Rattle.vc_node.specs.CloneCalls.{AnswersClone, AnswersUp, ReceivedAs}
use Rattle.vc_node.specs.CloneFaults.{of_device}
use Rattle.vc_node.specs.ReceiveFault.{TellsDevice, UnlessFault, ends_in_fault, is_fault, told_of, up_after}
use Rattle.vc_node.specs.Learning.{LearnsNext, Leaves}
use Rattle.vc_node.specs.Receipts.{IsRefusedMessage}
use Rattle.vc_node.specs.declared.clone_fault.CloneFault.{CloneFault}
use Rattle.vc_node.specs.declared.clone_fault.CloneFault.TheVariants as clone
use Rattle.vc_node.specs.declared.exchanging.Received.{Received}
use Rattle.vc_local.specs.declared.fault.NodeFault.TheVariants.{Down}
use Rattle.vc_node.specs.declared.receive_fault.ReceiveFault.{ReceiveFault}
use Rattle.vc_node.specs.declared.receive_fault.ReceiveFault.TheVariants.{Node, ReadFailed}

abbrev Told : Type 0
Told = Result (Option Received) ReceiveFault

-- ---- a message, of which at least some came
module _ (honest : Type 0) (before rest : Option (List ℕ)) (old new : FileMap) (waits : AwaitedText) (bad : honest → MakesNoneBad old new) where
  message_receives : (after : AwaitedText) (text : MessageText) → TakesAll before rest text → (told : Result Received CloneFault) → (honest → IfErr told (IsRefusedMessage old waits text)) → (honest → (m : Message) → TextOf m text → AnswersUp (Receive m) told old new waits after)
      → ReceivesUp honest before rest old new waits after (some_told (told_of told))
  message_receives after text taken (Ok received) refused answers is_up up = record {
    came = a_message text;
    is_come = taken_as before rest text taken;
    told = tt;
    refused = λ h was. tt;
    answers = λ h call which.
        subst (λ (c : CloneCall). AnswersClone c (ReceivedAs (Ok received)) old new waits after true is_up) (sym which.2) (answers h which.0 which.1 true is_up refl up);
  }
  message_receives after text taken (Err e) refused answers is_up up = record {
    came = a_message text;
    is_come = taken_as before rest text taken;
    told = tt;
    refused = λ h was. refused h;
    answers = λ h call which.
        subst (λ (c : CloneCall). AnswersClone c (ReceivedAs (Err e)) old new waits after true is_up) (sym which.2) (answers h which.0 which.1 true is_up refl up);
  }

  module _ (outside : honest → SameOutside (quarantine_folder 0) old new) where
    unread_receives : (fault : PktFault) → IsCome before rest (no_message fault) → ReceivesUp honest before rest old new waits waits (Err (Node (clone.Unread fault)))
    unread_receives fault come is_up up = record {
      came = no_message fault;
      is_come = come;
      told = refl;
      refused = λ h was. tt;
      answers = λ h call which.
          subst (λ (c : CloneCall). AnswersClone c (ReceivedAs (Err (clone.Unread fault))) old new waits waits true is_up) (sym which)
          (up_answers (Asks (AsksUnread (pkt_number fault))) (Err (clone.Unread fault)) old new waits waits (λ awaited n waiting held.
          unread_leads new waits awaited n waiting (node_beside old new (outside h) (bad h) true awaited n held) (pkt_number fault) (ReceivedAs (Err (clone.Unread fault))) (record { answer = refl; sent = refl })) true is_up refl up);
    }

    failed_receives : (f : FilesFault) → IsCome before rest cut_short → ReceivesUp honest before rest old new waits waits (Err (Node (of_device f)))
    failed_receives f come is_up up = record {
      came = cut_short;
      is_come = come;
      told = (f, refl);
      refused = λ h was. tt;
      answers = λ h call other.
          up_answers call (Err (of_device f)) old new waits waits (λ awaited n waiting held. fault_leads call new waits awaited n waiting (node_beside old new (outside h) (bad h) true awaited n held) other f) true is_up refl up;
    }

    lost_receives : IsCome before rest lost → ReceivesUp honest before rest old new waits waits (Err ReadFailed)
    lost_receives come is_up up = record { came = lost; is_come = come; told = tt; refused = λ h was. tt; answers = λ h call never. absurd never }

    pub stopped_receives : (e : ReceiveFault) → IsStopped before rest e → ReceivesUp honest before rest old new waits waits (Err e)
    stopped_receives e (by_bytes fault taken is) = subst (λ (x : ReceiveFault). ReceivesUp honest before rest old new waits waits (Err x)) (sym is) (unread_receives fault taken)
    stopped_receives e (by_reader part is) = subst (λ (x : ReceiveFault). ReceivesUp honest before rest old new waits waits (Err x)) (sym is) (lost_receives part)
    stopped_receives e (by_node part f is) = subst (λ (x : ReceiveFault). ReceivesUp honest before rest old new waits waits (Err x)) (sym is) (failed_receives f part)

  pub comes_receives : (after : AwaitedText) (result : Result Received ReceiveFault) → ComesTo honest before rest old new waits after result → ReceivesUp honest before rest old new waits after (some_told result)
  comes_receives after result (whole text taken told is refused answers) =
      subst (λ (r : Result Received ReceiveFault). ReceivesUp honest before rest old new waits after (some_told r)) (sym is) (message_receives after text taken told refused answers)
  comes_receives after result (stopped e is why outside same) =
      subst (λ (r : Result Received ReceiveFault). ReceivesUp honest before rest old new waits after (some_told r)) (sym is)
      (subst (λ (w : AwaitedText). ReceivesUp honest before rest old new waits w (Err e)) (sym same) (stopped_receives outside e why))

  -- where the reader failed the node is as it was
  pub comes_lost : honest → (after : AwaitedText) (result : Result Received ReceiveFault) → ComesTo honest before rest old new waits after result → IfErr (some_told result) (λ e. e ≡ ReadFailed → KeepsHeld old new waits after true true)
  comes_lost h after result (whole text taken told is refused answers) =
      subst (λ (r : Result Received ReceiveFault). IfErr (some_told r) (λ e. e ≡ ReadFailed → KeepsHeld old new waits after true true)) (sym is) (by told)
    where
      by : (t : Result Received CloneFault) → IfErr (some_told (told_of t)) (λ e. e ≡ ReadFailed → KeepsHeld old new waits after true true)
      by (Ok received) = tt
      by (Err e) = λ never. absurd (cc never)
  comes_lost h after result (stopped e is why outside same) =
      subst (λ (r : Result Received ReceiveFault). IfErr (some_told r) (λ x. x ≡ ReadFailed → KeepsHeld old new waits after true true)) (sym is)
      (λ which. subst (λ (w : AwaitedText). KeepsHeld old new waits w true true) (sym same) (λ awaited n waiting held. (waiting, node_beside old new (outside h) (bad h) true awaited n held)))

-- nothing came
pub nothing_receives : (honest : Type 0) (before rest : Option (List ℕ)) (content : FileMap) (waits : AwaitedText) → TakesNothing before rest → ReceivesUp honest before rest content content waits waits (Ok None)
nothing_receives honest before rest content waits none is_up up = record { came = nothing_came; is_come = none; told = tt; refused = λ h was. tt; answers = λ h call never. absurd never }

-- ---- what is told of it
pub told_receives : (honest : Type 0) (before rest : Option (List ℕ)) (old new : FileMap) (waits after : AwaitedText) (r : Result Received ReceiveFault) (q : Told) → q ≡ some_told r → ReceivesUp honest before rest old new waits after (some_told r)
    → ReceivesUp honest before rest old new waits after q
told_receives honest before rest old new waits after r q is so = subst (λ (t : Told). ReceivesUp honest before rest old new waits after t) (sym is) so

pub told_lost : (old new : FileMap) (waits after : AwaitedText) (r : Result Received ReceiveFault) (q : Told) → q ≡ some_told r → IfErr (some_told r) (λ e. e ≡ ReadFailed → KeepsHeld old new waits after true true)
    → IfErr q (λ e. e ≡ ReadFailed → KeepsHeld old new waits after true true)
told_lost old new waits after r q is so = subst (λ (t : Told). IfErr t (λ e. e ≡ ReadFailed → KeepsHeld old new waits after true true)) (sym is) so

pub told_none : (P : Type 0) (r : Result Received ReceiveFault) (q : Told) → q ≡ some_told r → IfOk q (λ found. IfNone found P)
told_none P r q is = subst (λ (t : Told). IfOk t (λ found. IfNone found P)) (sym is) (by r)
  where
    by : (r : Result Received ReceiveFault) → IfOk (some_told r) (λ found. IfNone found P)
    by (Ok received) = tt
    by (Err e) = tt

pub told_cleared : {P : Type 0} (r : Result Received ReceiveFault) (q : Told) → q ≡ some_told r → UnlessFault r P → UnlessFault q P
told_cleared {P} r q is so = subst (λ (t : Told). UnlessFault t P) (sym is) (by r so)
  where
    by : (r : Result Received ReceiveFault) → UnlessFault r P → UnlessFault (some_told r) P
    by (Ok received) so = so
    by (Err e) so = so

pub told_writes : {D : Type 0} {honest : Type 0} {content : D → FileMap} {failed : D → ℕ} {can_fail : D → Type 0} {left : D → Option ℕ} {old new : D} (r : Result Received ReceiveFault) (q : Told) → q ≡ some_told r
    → Writes honest content failed can_fail left old new (TellsDevice r) → Writes honest content failed can_fail left old new (TellsDevice q)
told_writes {honest = honest} {content = content} {failed = failed} {can_fail = can_fail} {left = left} {old = old} {new = new} r q is w =
    subst (λ (t : Told). Writes honest content failed can_fail left old new (TellsDevice t)) (sym is) (by r w)
  where
    by : (r : Result Received ReceiveFault) → Writes honest content failed can_fail left old new (TellsDevice r) → Writes honest content failed can_fail left old new (TellsDevice (some_told r))
    by (Ok received) w = w
    by (Err e) w = w

-- ---- a node that is up
-- the files and what is awaited are those after the call, and the result is told as it came
module _ {D : Type 0} (content : D → FileMap) (old mid new : D) (waits mids after : AwaitedText) (is_up : Bool) (came told : Told) (is : told ≡ came) (files : new ≡ mid) (same : after ≡ mids) where
  pub next_receives : (honest : Type 0) (before rest : Option (List ℕ)) (was_up : Bool) → was_up ≡ true → is_up ≡ up_after told → ReceivesUp honest before rest (content old) (content mid) waits mids came
      → ReceivesFrom honest before rest (content old) (content new) waits after was_up is_up told
  next_receives honest before rest was_up was up receives =
      subst (λ (b : Bool). ReceivesFrom honest before rest (content old) (content new) waits after b is_up told) (sym was)
      (subst (λ (r : Told). ReceivesFrom honest before rest (content old) (content new) waits after true is_up r) (sym is)
      (subst (λ (d : D). ReceivesFrom honest before rest (content old) (content d) waits after true is_up came) (sym files)
      (subst (λ (w : AwaitedText). ReceivesFrom honest before rest (content old) (content mid) waits w true is_up came) (sym same)
      (receives is_up (up ∙ ap (λ (r : Told). up_after r) is)))))

  pub next_awaits : OnErr came (mids ≡ waits) → OnErr told (after ≡ waits)
  next_awaits kept =
      subst (λ (r : Told). OnErr r (after ≡ waits)) (sym is)
      (subst (λ (w : AwaitedText). OnErr came (w ≡ waits)) (sym same) kept)

  pub next_clean : MakesNoneBad (content old) (content mid) → KeepsOthers (content old) (content mid) → KeepsClean (content old) (content new)
  next_clean bad others =
      subst (λ (d : D). KeepsClean (content old) (content d)) (sym files)
      (clean_by (content old) (content mid) bad (packed_map-same (content old) (content mid) (others.at packed_path refl refl refl)))

  pub next_cleared : UnlessFault came (IsDropped 0 (content old) → IsDropped 0 (content mid)) → UnlessFault told (IsDropped 0 (content old) → IsDropped 0 (content new))
  next_cleared cleared calm dropped = subst (λ (d : D). IsDropped 0 (content d)) (sym files) (cleared (ap (λ (r : Told). ends_in_fault r) (sym is) ∙ calm) dropped)

  pub next_lost : (was_up : Bool) → was_up ≡ true → is_up ≡ up_after told → IfErr came (λ e. e ≡ ReadFailed → KeepsHeld (content old) (content mid) waits mids true true)
      → IfErr told (λ e. e ≡ ReadFailed → KeepsHeld (content old) (content new) waits after was_up is_up)
  next_lost was_up was up keeps =
      subst (λ (d : D). IfErr told (λ e. e ≡ ReadFailed → KeepsHeld (content old) (content d) waits after was_up is_up)) (sym files)
      (subst (λ (w : AwaitedText). IfErr told (λ e. e ≡ ReadFailed → KeepsHeld (content old) (content mid) waits w was_up is_up)) (sym same)
      (by told up (subst (λ (r : Told). IfErr r (λ e. e ≡ ReadFailed → KeepsHeld (content old) (content mid) waits mids true true)) (sym is) keeps)))
    where
      by : (r : Told) → is_up ≡ up_after r → IfErr r (λ e. e ≡ ReadFailed → KeepsHeld (content old) (content mid) waits mids true true)
          → IfErr r (λ e. e ≡ ReadFailed → KeepsHeld (content old) (content mid) waits mids was_up is_up)
      by (Ok found) here keeps = tt
      by (Err (Node e)) here keeps = λ never. absurd (cc never)
      by (Err ReadFailed) here keeps = λ which.
          subst (λ (b : Bool). KeepsHeld (content old) (content mid) waits mids was_up b) (sym here)
          (subst (λ (b : Bool). KeepsHeld (content old) (content mid) waits mids b true) (sym was) (keeps refl))

  pub next_learns : {honest : Type 0} (known between now : Learnt) → now ≡ between → is_up ≡ up_after told
      → Leaves honest (LearnsNext came (content old) (content mid) known between) came (up_after came) (content mid) waits mids between → honest → is_up ≡ true → LearnsNext told (content old) (content new) known now
  next_learns known between now still up leaves h is_there =
      subst (λ (r : Told). LearnsNext r (content old) (content new) known now) (sym is)
      (subst (λ (d : D). LearnsNext came (content old) (content d) known now) (sym files)
      (subst (λ (l : Learnt). LearnsNext came (content old) (content mid) known l) (sym still)
      ((leaves.learnt h).learns (sym (up ∙ ap (λ (r : Told). up_after r) is) ∙ is_there))))

  pub next_none : {T L : Type 0} (text : D → AwaitedText → Bool → L → T) (known between now : L) → now ≡ between → (was_up : Bool) → was_up ≡ true → is_up ≡ up_after told
      → IfOk came (λ found. IfNone found ((mid ≡ old) × (mids ≡ waits) × (between ≡ known))) → IfOk told (λ found. IfNone found (text new after is_up now ≡ text old waits was_up known))
  next_none text known between now still was_up was up none = by told up (subst (λ (r : Told). IfOk r (λ found. IfNone found ((mid ≡ old) × (mids ≡ waits) × (between ≡ known)))) (sym is) none)
    where
      by : (r : Told) → is_up ≡ up_after r → IfOk r (λ found. IfNone found ((mid ≡ old) × (mids ≡ waits) × (between ≡ known))) → IfOk r (λ found. IfNone found (text new after is_up now ≡ text old waits was_up known))
      by (Ok (Some received)) here none = tt
      by (Ok None) here none =
          ap (λ (d : D). text d after is_up now) (files ∙ none.0) ∙ ap (λ (w : AwaitedText). text old w is_up now) (same ∙ none.1) ∙ ap (λ (b : Bool). text old waits b now) (here ∙ sym was)
          ∙ ap (λ k. text old waits was_up k) (still ∙ none.2)
      by (Err e) here none = tt

  module _ {failed : D → ℕ} {can_fail : D → Type 0} {left : D → Option ℕ} where
    pub next_wear : {honest : Type 0} → Writes honest content failed can_fail left old mid (TellsDevice came) → Writes honest content failed can_fail left old new (TellsDevice told)
    next_wear {honest} wear =
        subst (λ (r : Told). Writes honest content failed can_fail left old new (TellsDevice r)) (sym is)
        (subst (λ (d : D). Writes honest content failed can_fail left old d (TellsDevice came)) (sym files) wear)

-- ---- a node that is down
abbrev Skipped : Type 0
Skipped = Result (Option (Unit {0})) IncomingFault

module _ (honest : Type 0) (before rest : Option (List ℕ)) (content : FileMap) (waits : AwaitedText) where
  down_call : (call : CloneCall) → call ≢ Open → AnswersClone call (ReceivedAs (Err (clone.Node Down))) content content waits waits false false
  down_call call other = down_clone call other content content waits waits false false refl refl refl refl

  down_message : (call : CloneCall) (m : Message) → call ≡ Receive m → AnswersClone call (ReceivedAs (Err (clone.Node Down))) content content waits waits false false
  down_message call m is = subst (λ (c : CloneCall). AnswersClone c (ReceivedAs (Err (clone.Node Down))) content content waits waits false false) (sym is) (down_call (Receive m) (λ never. cc never))

  down_unread : (call : CloneCall) (n : ℕ) → call ≡ Asks (AsksUnread n) → AnswersClone call (ReceivedAs (Err (clone.Node Down))) content content waits waits false false
  down_unread call n is = subst (λ (c : CloneCall). AnswersClone c (ReceivedAs (Err (clone.Node Down))) content content waits waits false false) (sym is) (down_call (Asks (AsksUnread n)) (λ never. cc never))

  abbrev Receives : Told → Type 0
  Receives result = ReceivesFrom honest before rest content content waits waits false false result

  down_by : (s : Skipped) → IfOk s (λ found. IfSome found (λ u. TakesSome before rest)) → IfOk s (λ found. IfNone found (TakesNothing before rest)) → IfErr s (Fails any_step beginning before rest) → Receives (down_told s)
  down_by (Ok (Some u)) some none fails = record {
    came = a_message some.0;
    is_come = taken_as before rest some.0 some.1;
    told = refl;
    refused = λ h was. absurd (true≢false (sym was));
    answers = λ h call which. down_message call which.0 which.2;
  }
  down_by (Ok None) some none fails = record { came = nothing_came; is_come = none; told = tt; refused = λ h was. absurd (true≢false (sym was)); answers = λ h call never. absurd never }
  down_by (Err incoming.Failed) some none fails = record { came = lost; is_come = fails; told = tt; refused = λ h was. absurd (true≢false (sym was)); answers = λ h call never. absurd never }
  down_by (Err incoming.Memory) some none fails = record { came = cut_short; is_come = fails; told = refl; refused = λ h was. absurd (true≢false (sym was)); answers = λ h call never. absurd never }
  down_by (Err (incoming.Unread fault)) some none fails = record {
    came = no_message fault;
    is_come = fails;
    told = refl;
    refused = λ h was. absurd (true≢false (sym was));
    answers = λ h call which. down_unread call (pkt_number fault) which;
  }

  pub down_receives : (s : Skipped) (result : Told) (was_up : Bool) → was_up ≡ false → result ≡ down_told s → IfOk s (λ found. IfSome found (λ u. TakesSome before rest)) → IfOk s (λ found. IfNone found (TakesNothing before rest))
      → IfErr s (Fails any_step beginning before rest) → ReceivesFrom honest before rest content content waits waits was_up was_up result
  down_receives s result was_up was is some none fails =
      subst (λ (b : Bool). ReceivesFrom honest before rest content content waits waits b b result) (sym was)
      (subst Receives (sym is) (down_by s some none fails))

-- it keeps what was held
pub down_keeps : (content : FileMap) (waits : AwaitedText) (is_up : Bool) (result : Told) → IfErr result (λ e. e ≡ ReadFailed → KeepsHeld content content waits waits is_up is_up)
down_keeps content waits is_up (Ok found) = tt
down_keeps content waits is_up (Err e) = λ which awaited n waiting held. (waiting, held)

pub down_no_device : (s : Skipped) (result : Told) → result ≡ down_told s → TellsDevice result → ⊥
down_no_device s result is told = by s (subst (λ (r : Told). TellsDevice r) is told)
  where
    by : (s : Skipped) → TellsDevice (down_told s) → ⊥
    by (Ok (Some u)) device = device
    by (Ok None) device = device
    by (Err incoming.Failed) device = device
    by (Err incoming.Memory) device = true≢false (sym device)
    by (Err (incoming.Unread fault)) device = device

-- ---- a message that is first of what the reader has
module _ (honest : Type 0) (left : Option (List ℕ)) (old new : FileMap) (waits after : AwaitedText) (is_up : Bool) (bytes rest : List ℕ) (m : Message) (reads : Reads bytes m) where
  abbrev before : Option (List ℕ)
  before = Some (bytes ++ rest)

  abbrev Answered : Bool → Told → CloneCall → Type 0
  Answered was_up result call = AnswersClone call (ToldAs result) old new waits after was_up is_up

  abbrev Known : Bool → Told → Type 0
  Known was_up result = IsKnown honest was_up m rest left (Answered was_up result) result

  abbrev Answers : Bool → Came → Told → Type 0
  Answers was_up came result = honest → (call : CloneCall) → IsCallOf was_up came call → Answered was_up result call

  known_by : (was_up : Bool) (came : Came) (result : Told) → IsCome before left came → IsTold was_up came result → Answers was_up came result → Known was_up result
  known_by true (a_message text) (Ok (Some received)) come told answers = let at = text_taken left bytes rest m reads text come in (at.1, λ h. answers h (Receive m) (m, at.0, refl))
  known_by true (a_message text) (Ok None) come told answers = absurd told
  known_by true (a_message text) (Err (Node e)) come told answers = let at = text_taken left bytes rest m reads text come in (inl at.1, λ h which. answers h (Receive m) (m, at.0, refl))
  known_by true (a_message text) (Err ReadFailed) come told answers = tt
  known_by false (a_message text) (Ok (Some received)) come told answers = absurd told
  known_by false (a_message text) (Ok None) come told answers = absurd told
  known_by false (a_message text) (Err (Node e)) come told answers = let at = text_taken left bytes rest m reads text come in (inl at.1, λ h which. answers h (Receive m) (m, at.0, refl))
  known_by false (a_message text) (Err ReadFailed) come told answers = tt
  known_by was_up nothing_came result come told answers = absurd (some_taken left bytes rest m reads come)
  known_by was_up (no_message fault) result come told answers = absurd (none_wrong left bytes rest m reads fault come)
  known_by true lost (Ok (Some received)) come told answers = absurd told
  known_by true lost (Ok None) come told answers = absurd told
  known_by true lost (Err (Node e)) come told answers = absurd told
  known_by true lost (Err ReadFailed) come told answers = tt
  known_by false lost (Ok (Some received)) come told answers = absurd told
  known_by false lost (Ok None) come told answers = absurd told
  known_by false lost (Err (Node e)) come told answers = absurd told
  known_by false lost (Err ReadFailed) come told answers = tt
  known_by true cut_short (Ok (Some received)) come told answers = absurd told
  known_by true cut_short (Ok None) come told answers = absurd told
  known_by true cut_short (Err (Node e)) come told answers = (inr (ap (λ (x : CloneFault). is_fault (Node x)) told.1), λ h which. answers h (Receive m) (λ never. cc never))
  known_by true cut_short (Err ReadFailed) come told answers = tt
  known_by false cut_short (Ok (Some received)) come told answers = absurd told
  known_by false cut_short (Ok None) come told answers = absurd told
  known_by false cut_short (Err (Node e)) come told answers =
      let here : is_fault (Node e) ≡ true = ap (λ (x : CloneFault). is_fault (Node x)) told in
      (inr here, λ h which. elim which [ inl up ↦ absurd (true≢false (sym up)) | inr calm ↦ absurd (true≢false (sym here ∙ calm)) ])
  known_by false cut_short (Err ReadFailed) come told answers = tt

pub known_receives : (honest : Type 0) (from left : Option (List ℕ)) (old new : FileMap) (waits after : AwaitedText) (was_up is_up : Bool) (result : Told) → ReceivesFrom honest from left old new waits after was_up is_up result
    → (m : Message) (bytes rest : List ℕ) → from ≡ Some (bytes ++ rest) → Reads bytes m → IsKnown honest was_up m rest left (λ call. AnswersClone call (ToldAs result) old new waits after was_up is_up) result
known_receives honest from left old new waits after was_up is_up result a m bytes rest is reads =
    known_by honest left old new waits after is_up bytes rest m reads was_up a.came result (subst (λ (b : Option (List ℕ)). IsCome b left a.came) is a.is_come) a.told a.answers
