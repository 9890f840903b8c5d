-- What a node makes of a message that comes from a reader, once what came of it is known.
use Rattle.std.proofs.Common.{arith, ◌≡◌, ◌≢◌, ◌<◌, ◌+◌, ◌⊎◌, inl, inr, ℕ, zero, suc, Bool, true, false, List, [], ◌∷◌, ◌++◌, Option, Some, None, Result, Ok, Err, refl, sym, ap, ◌∙◌, subst}
use Rattle.std.specs.Prelude.{IfErr, IfOk, OnErr, not}
use Rattle.std.specs.Cmp.{nat_cmp_total}
use Rattle.std.specs.FinMap.{get, nat_cmp-IsAntisymmetric}
use Rattle.vc_files.specs.Failures.{Writes}
use Rattle.vc_files.specs.FileMap.{FileMap, SameOutside}
use Rattle.vc_message.proofs.AnyLaws.{any_spelled}
use Rattle.vc_message.proofs.IncomingFronts.{taken_as}
use Rattle.vc_message.proofs.Totals.{less_or}
use Rattle.vc_message.specs.AnyMessage.{MessageText, a_push}
use Rattle.vc_message.specs.Incoming.{TakesNothing}
use Rattle.vc_message.specs.Machine.{TextOf, pkt_number}
use Rattle.vc_message.specs.Read.{WasRead}
use Rattle.vc_model.proofs.Maps.{same_key}
use Rattle.vc_model.specs.Message.{Message}
use Rattle.vc_model.specs.Node.{Answer}
use Rattle.vc_model.specs.Push.{OpenPush, Slots}
use Rattle.vc_model.specs.Question.Question.{Unread as AsksUnread}
use Rattle.vc_model.specs.SharedCall.{SharedCall}
use Rattle.vc_model.specs.SharedCall.SharedCall.{Accept, Asks}
use Rattle.vc_pkt.proofs.ListLaws.{IsLines-push}
use Rattle.vc_pkt.proofs.Written.{line_written}
use Rattle.vc_pkt.specs.Line.{flush, spelling}
use Rattle.vc_push.specs.Push.{HeadText, PushText, with_carried}
use Rattle.vc_rules.proofs.OpenPushLaws.{content_beside}
use Rattle.vc_quarantine.specs.Clean.{KeepsPacked, MakesNoneBad}
use Rattle.vc_push_rules.specs.Quarantine.{IsDropped, quarantine_folder}
use Rattle.vc_refs.proofs.LayeredLemmas.{packed_map-same}
use Rattle.vc_refs.specs.Refs.{packed_map, packed_path}
use Rattle.vc_push_rules.specs.Session.{SessionText}
use Rattle.vc_shared.proofs.AcceptingLemmas.{faulted_answers, unread_answers}
use Rattle.vc_shared.proofs.ArrivingLemmas.{up_is_calm}
use Rattle.vc_shared.proofs.HoldingLemmas.{beside_slot}
use Rattle.vc_local.proofs.BesideLemmas.{clean_on, held_content, spells_on}
use Rattle.vc_shared.proofs.PushingLemmas.{free_there, push_answers, slot_beside}
use Rattle.vc_shared.proofs.PushingTexts.{reads_tellable}
use Rattle.vc_shared.specs.AcceptFault.{TellsDevice, is_fault, takes_down, up_after}
use Rattle.vc_shared.specs.Accepting.{AnswersUp, IsAnsweredMessage, IsRefusedMessage}
use Rattle.vc_message.specs.Coming.{TakesAll, a_message, cut_short, lost, no_message, nothing_came}
use Rattle.vc_shared.specs.Arriving.{AcceptsUp, BeginsPush, IsAnsweredThere, IsCleared, IsRefusedThere, IsStopped, IsTold, KeepsHeld, OpensFrom, ToldAs, by_bytes, by_node, by_reader, message_told, slot_told}
use Rattle.vc_shared.specs.Arriving.IsTurnedAway.{busy, stopped}
use Rattle.vc_shared.specs.Arriving.{IsTurnedAway}
use Rattle.vc_shared.specs.Calls.{AcceptedAs, AnswersShared}
use Rattle.vc_shared.specs.Faults.{of_device, TellsDevice as TellsNodeDevice, up_after as node_up_after}
use Rattle.vc_shared.specs.Holding.{HoldsShared, HoldsSlot, HoldsSlots, IsLive}
use Rattle.vc_shared.specs.Pushing.{AreTaken, AreTellableInOne, ChangesFree, IsLowest}
use Rattle.vc_shared.specs.Slots.{slot_of}
use Rattle.vc_shared.specs.declared.accept_fault.AcceptFault.{AcceptFault}
use Rattle.vc_shared.specs.declared.accept_fault.AcceptFault.TheVariants.{ReadFailed}
use Rattle.vc_shared.specs.declared.accepting.Accepted.{Accepted}
use Rattle.vc_shared.specs.declared.accepting.Accepted.TheVariants.{Slot}
use Rattle.vc_shared.specs.declared.fault.SharedFault.{SharedFault}
use Rattle.vc_shared.specs.declared.fault.SharedFault.TheVariants as shared

-- ---- the commands
-- A push whose commands came can be told of: with a flush after them it is a message.
pub head_tellable : (before now : Option (List ℕ)) (place number : ℕ) (head : HeadText) → BeginsPush before now place number head → AreTellableInOne head.commands
head_tellable before now place number head l =
    let push : PushText = with_carried head (Ok []) in
    let lines = l.lines ++ flush ∷ [] in
    let given = l.goes (flush ∷ []) in
    reads_tellable push (l.bytes ++ spelling flush) (lines, IsLines-push l.lines flush l.bytes (spelling flush) l.each (line_written flush tt), any_spelled (a_push push) lines given)

pub was_read : (before new : Option (List ℕ)) (text : MessageText) → TakesAll before new text → WasRead text
was_read before new text (bytes, taken, (lines, each, given)) = (bytes, (lines, each, any_spelled text lines given))

-- ---- what stays held
abbrev HasLowest : List (Option SessionText) → Type 0
HasLowest slots = AreTaken slots ⊎ ((k : ℕ) × IsLowest slots k)

abbrev AreTakenBelow : List (Option SessionText) → ℕ → Type 0
AreTakenBelow slots k = (j : ℕ) → j < k → slot_of slots j ≢ None

lowest_here : (slots : List (Option SessionText)) (k : ℕ) → k < 8 → AreTakenBelow slots k → (v : Option SessionText) → slot_of slots k ≡ v → (AreTakenBelow slots (k + 1) → HasLowest slots) → HasLowest slots
lowest_here slots k within below None free next = inr (k, record { within = within; free = free; taken = below })
lowest_here slots k within below (Some s) there next = next (λ j less. elim (less_or j k) [ inl low ↦ below j low | inr high ↦ here j (omega (arith, less, high)) ])
  where
    here : (j : ℕ) → j ≡ k → slot_of slots j ≢ None
    here j is none = let both : ◌≡◌ {A = Option SessionText} (Some s) None = sym there ∙ subst (λ (i : ℕ). slot_of slots i ≡ None) is none in cc both

lowest_from : (slots : List (Option SessionText)) (more k : ℕ) → k + more ≡ 8 → AreTakenBelow slots k → HasLowest slots
lowest_from slots zero k end below = inl (λ j within. below j (omega (arith, end, within)))
lowest_from slots (suc more) k end below = lowest_here slots k (omega (arith, end)) below (slot_of slots k) refl (λ next. lowest_from slots more (k + 1) (omega (arith, end)) next)

-- the lowest slot that is free, where there is one
lowest_or_taken : (slots : List (Option SessionText)) → HasLowest slots
lowest_or_taken slots = lowest_from slots 8 0 refl (λ j less. absurd (omega (arith, less)))

module _ (old new : FileMap) (slots : List (Option SessionText)) (bad : MakesNoneBad old new) (k : ℕ) (lowest : IsLowest slots k) (same : SameOutside (quarantine_folder k) old new) where
  slots_kept : (pushes : Slots) → IsDropped k new → HoldsSlots old slots pushes → HoldsSlots new slots pushes
  slots_kept pushes dropped holds = record {
    eight = holds.eight;
    each = λ j fits. elim (same_key nat_cmp_total nat_cmp-IsAntisymmetric j k) [
      | inl e ↦ subst (λ (i : ℕ). HoldsSlot new i (slot_of slots i) (get pushes i)) (sym e) at_lowest
      | inr apart ↦ slot_beside k lowest.within old new same bad j fits apart (slot_of slots j) (get pushes j) (holds.each j fits)
    ];
    others = holds.others;
  }
    where
      at_lowest : HoldsSlot new k (slot_of slots k) (get pushes k)
      at_lowest =
          let none : get pushes k ≡ None = free_there old k (get pushes k) (subst (λ (v : Option SessionText). HoldsSlot old k v (get pushes k)) lowest.free (holds.each k lowest.within)) in
          subst (λ (v : Option SessionText). HoldsSlot new k v (get pushes k)) (sym lowest.free) (subst (λ (q : Option OpenPush). HoldsSlot new k None q) (sym none) dropped)

  live_kept : (is_up : Bool) (live : Option Slots) → (is_up ≡ true → IsDropped k new) → IsLive old slots is_up live → IsLive new slots is_up live
  live_kept true (Some pushes) dropped holds = slots_kept pushes (dropped refl) holds
  live_kept true None dropped never = absurd never
  live_kept false (Some pushes) dropped never = absurd never
  live_kept false None dropped holds = tt

  kept_beside : (is_up : Bool) → (is_up ≡ true → IsDropped k new) → KeepsHeld old new slots slots is_up is_up
  kept_beside is_up dropped n held = record {
    spells = spells_on old new n.repository n.repository held.spells (content_beside k old new n.repository same (held_content old n.repository held.spells)) (beside_slot k old new same) refl refl;
    clean = clean_on old new bad held.clean;
    live = live_kept is_up n.live dropped held.live;
  }

pub kept_none : (content : FileMap) (slots : List (Option SessionText)) (is_up : Bool) → KeepsHeld content content slots slots is_up is_up
kept_none content slots is_up n held = held

-- A push that was turned away: of what it put anywhere nothing is part of the node.
pub kept_free : (old new : FileMap) (slots : List (Option SessionText)) (e : AcceptFault) → ChangesFree old new slots → MakesNoneBad old new → IsCleared new slots e
    → (is_up : Bool) → (is_up ≡ true → is_fault e ≡ false) → KeepsHeld old new slots slots is_up is_up
kept_free old new slots e changes bad cleared is_up calm = by (lowest_or_taken slots)
  where
    by : AreTaken slots ⊎ ((k : ℕ) × IsLowest slots k) → KeepsHeld old new slots slots is_up is_up
    by (inl taken) = λ n held. subst (λ (content : FileMap). HoldsShared content slots is_up n) (sym (changes.none taken)) held
    by (inr (k, lowest)) = kept_beside old new slots bad k lowest (changes.outside k lowest) is_up (λ up. cleared (calm up) k lowest)

-- no ref was packed
pub packed_free : (old new : FileMap) (slots : List (Option SessionText)) → ChangesFree old new slots → KeepsPacked old new
packed_free old new slots changes = by (lowest_or_taken slots)
  where
    by : AreTaken slots ⊎ ((k : ℕ) × IsLowest slots k) → KeepsPacked old new
    by (inl taken) = ap packed_map (changes.none taken)
    by (inr (k, lowest)) = packed_map-same old new ((changes.outside k lowest).at packed_path refl)

-- what is held after a call is held after what changes nothing of it
answers_then : (call : SharedCall) (shows : Answer → Option Message → Type 0) (old mid new : FileMap) (slots : List (Option SessionText)) (was_up is_up : Bool) → AnswersShared call shows old mid slots slots was_up is_up
    → KeepsHeld mid new slots slots is_up is_up → AnswersShared call shows old new slots slots was_up is_up
answers_then call shows old mid new slots was_up is_up answers keeps = record {
  each = λ n held. let (m, a, sends, holds, told, exact) = answers.each n held in (m, a, sends, keeps m holds, told, exact);
}

-- ---- what is told
not_false : (b : Bool) → true ≡ not b → b ≡ false
not_false true e = e
not_false false e = refl

module _ (honest : Type 0) (before rest : Option (List ℕ)) (old new : FileMap) (slots after : List (Option SessionText)) (result : Result (Option Accepted) AcceptFault) where
  -- nothing came
  pub nothing_accepts : TakesNothing before rest → result ≡ Ok None → AcceptsUp honest before rest old new slots after result
  nothing_accepts none is is_up up = record {
    came = nothing_came;
    is_come = none;
    told = subst (IsTold true nothing_came) (sym is) tt;
    refused = λ h was. subst (IsRefusedThere nothing_came old slots) (sym is) tt;
    answered = λ h. tt;
    answers = λ h call never. absurd never;
  }

  -- a message came
  module _ (text : MessageText) (taken : TakesAll before rest text) (told : Result Accepted SharedFault) (is : result ≡ message_told told) where
    is_told : (t : Result Accepted SharedFault) → IsTold true (a_message text) (message_told t)
    is_told (Ok accepted) = tt
    is_told (Err e) = tt

    refused_there : (t : Result Accepted SharedFault) → IfErr t (IsRefusedMessage old slots text) → IsRefusedThere (a_message text) old slots (message_told t)
    refused_there (Ok accepted) why = tt
    refused_there (Err e) why = why

    answered_there : (t : Result Accepted SharedFault) → IfOk t (IsAnsweredMessage old new slots after text) → IsAnsweredThere (a_message text) old new slots after (message_told t)
    answered_there (Ok accepted) so = so
    answered_there (Err e) so = tt

    up_there : (t : Result Accepted SharedFault) → up_after (message_told t) ≡ node_up_after t
    up_there (Ok accepted) = refl
    up_there (Err e) = refl

    as_told : (t : Result Accepted SharedFault) (call : SharedCall) (is_up : Bool) → AnswersShared call (AcceptedAs t) old new slots after true is_up → AnswersShared call (ToldAs (message_told t)) old new slots after true is_up
    as_told (Ok accepted) call is_up answers = answers
    as_told (Err e) call is_up answers = answers

    pub message_accepts : (honest → IfOk told (IsAnsweredMessage old new slots after text)) → (honest → IfErr told (IsRefusedMessage old slots text)) → (honest → (m : Message) → TextOf m text → AnswersUp (Accept m) told old new slots after) → AcceptsUp honest before rest old new slots after result
    message_accepts answered refused answers is_up up = record {
      came = a_message text;
      is_come = taken_as before rest text taken;
      told = subst (IsTold true (a_message text)) (sym is) (is_told told);
      refused = λ h was. subst (IsRefusedThere (a_message text) old slots) (sym is) (refused_there told (refused h));
      answered = λ h. subst (IsAnsweredThere (a_message text) old new slots after) (sym is) (answered_there told (answered h));
      answers = λ h call which.
          subst (λ (r : Result (Option Accepted) AcceptFault). AnswersShared call (ToldAs r) old new slots after true is_up) (sym is)
          (as_told told call is_up
          (subst (λ (c : SharedCall). AnswersShared c (AcceptedAs told) old new slots after true is_up) (sym which.2)
          (answers h which.0 which.1 true is_up refl (up ∙ ap (λ (r : Result (Option Accepted) AcceptFault). up_after r) is ∙ up_there told))));
    }

-- it didn't all come
module _ (honest : Type 0) (before rest : Option (List ℕ)) (old new : FileMap) (slots : List (Option SessionText)) (e : AcceptFault) (keeps : honest → (is_up : Bool) → (is_up ≡ true → is_fault e ≡ false) → KeepsHeld old new slots slots is_up is_up) where
  calm_up : (is_up : Bool) → is_up ≡ not (takes_down e) → is_up ≡ true → is_fault e ≡ false
  calm_up is_up up here = up_is_calm e (not_false (takes_down e) (sym here ∙ up))

  pub stopped_accepts : IsStopped before rest e → AcceptsUp honest before rest old new slots slots (Err e)
  stopped_accepts (by_bytes fault taken is) is_up up = record {
    came = no_message fault;
    is_come = taken;
    told = subst (λ (x : AcceptFault). IsTold {T = Accepted} true (no_message fault) (Err x)) (sym is) refl;
    refused = λ h was. subst (λ (x : AcceptFault). IsRefusedThere (no_message fault) old slots (Err x)) (sym is) tt;
    answered = λ h. tt;
    answers = λ h call which.
        subst (λ (x : AcceptFault). AnswersShared call (ToldAs (Err x)) old new slots slots true is_up) (sym is)
        (subst (λ (c : SharedCall). AnswersShared c (AcceptedAs (Err (shared.Unread fault))) old new slots slots true is_up) (sym which)
        (answers_then (Asks (AsksUnread (pkt_number fault))) (AcceptedAs (Err (shared.Unread fault))) old old new slots true is_up
        (unread_answers old slots (pkt_number fault) fault refl true is_up refl (up ∙ ap (λ (x : AcceptFault). not (takes_down x)) is)) (keeps h is_up (calm_up is_up up))));
  }
  stopped_accepts (by_reader part is) is_up up = record {
    came = lost;
    is_come = part;
    told = subst (λ (x : AcceptFault). IsTold {T = Accepted} true lost (Err x)) (sym is) tt;
    refused = λ h was. subst (λ (x : AcceptFault). IsRefusedThere lost old slots (Err x)) (sym is) tt;
    answered = λ h. tt;
    answers = λ h call never. absurd never;
  }
  stopped_accepts (by_node part fault is) is_up up = record {
    came = cut_short;
    is_come = part;
    told = subst (λ (x : AcceptFault). IsTold {T = Accepted} true cut_short (Err x)) (sym is) (fault, refl);
    refused = λ h was. subst (λ (x : AcceptFault). IsRefusedThere cut_short old slots (Err x)) (sym is) tt;
    answered = λ h. tt;
    answers = λ h call never.
        subst (λ (x : AcceptFault). AnswersShared call (ToldAs (Err x)) old new slots slots true is_up) (sym is)
        (answers_then call (AcceptedAs (Err (of_device fault))) old old new slots true is_up
        (faulted_answers old slots call fault never true is_up refl (up ∙ ap (λ (x : AcceptFault). not (takes_down x)) is)) (keeps h is_up (calm_up is_up up)));
  }

-- ---- a push
module _ (honest : Type 0) (before now rest : Option (List ℕ)) (place number : ℕ) (head : HeadText) (begins : BeginsPush before now place number head) (old new : FileMap) (slots after : List (Option SessionText)) where
  -- it is open, or was turned away
  pub push_accepts : (q : Result ℕ AcceptFault) (result : Result (Option Accepted) AcceptFault) → result ≡ slot_told q
      → IfOk q (λ k. (b : Option (List ℕ)) → BeginsPush b now place number head → OpensFrom honest b rest new slots after k)
      → OnErr q (after ≡ slots)
      → IfErr q (λ e. (b : Option (List ℕ)) → BeginsPush b now place number head → IsTurnedAway b rest slots e)
      → (honest → IfErr q (IsCleared new slots)) → (honest → ChangesFree old new slots) → (honest → MakesNoneBad old new) → AcceptsUp honest before rest old new slots after result
  push_accepts (Ok k) result is opens unchanged turned cleared changes bad =
      let o = opens before begins in
      message_accepts honest before rest old new slots after result (a_push o.push) o.taken (Ok (Slot k)) is o.opens (λ h. tt)
      (λ h m text was_up is_up was up. push_answers old new slots after o.push m was_up is_up (Ok k) text (o.opens h) tt tt (changes h) (bad h) was up)
  push_accepts (Err e) result is opens unchanged turned cleared changes bad = by (turned before begins)
    where
      by : IsTurnedAway before rest slots e → AcceptsUp honest before rest old new slots after result
      by (stopped s) =
          subst (λ (r : Result (Option Accepted) AcceptFault). AcceptsUp honest before rest old new slots after r) (sym is)
          (subst (λ (xs : List (Option SessionText)). AcceptsUp honest before rest old new slots xs (Err e)) (sym unchanged)
          (stopped_accepts honest before rest old new slots e (λ h. kept_free old new slots e (changes h) (bad h) (cleared h)) s))
      by (busy push taken full why) =
          message_accepts honest before rest old new slots after result (a_push push) taken (Err shared.Busy) (is ∙ ap Err why) (λ h. tt) (λ h. inl (full, refl))
          (λ h m text was_up is_up was up. push_answers old new slots after push m was_up is_up (Err shared.Busy) text tt unchanged (inl (full, refl)) (changes h) (bad h) was up)

-- and where the reader failed, what was held is held
abbrev Lost : FileMap → FileMap → List (Option SessionText) → List (Option SessionText) → Result (Option Accepted) AcceptFault → Type 0
Lost old new slots after result = IfErr result (λ e. e ≡ ReadFailed → (is_up : Bool) → KeepsHeld old new slots after is_up is_up)

pub push_lost : (old new : FileMap) (slots after : List (Option SessionText)) (q : Result ℕ AcceptFault) (result : Result (Option Accepted) AcceptFault) → result ≡ slot_told q → OnErr q (after ≡ slots) → IfErr q (IsCleared new slots)
    → ChangesFree old new slots → MakesNoneBad old new → Lost old new slots after result
push_lost old new slots after (Ok k) result is unchanged cleared changes bad = subst (Lost old new slots after) (sym is) tt
push_lost old new slots after (Err e) result is unchanged cleared changes bad =
    subst (Lost old new slots after) (sym is)
    (λ which is_up.
    subst (λ (xs : List (Option SessionText)). KeepsHeld old new slots xs is_up is_up) (sym unchanged)
    (kept_free old new slots e changes bad cleared is_up (λ up. ap is_fault which)))

-- a message that came whole tells of no reader that failed
pub message_lost : (old new : FileMap) (slots after : List (Option SessionText)) (told : Result Accepted SharedFault) (result : Result (Option Accepted) AcceptFault) → result ≡ message_told told → Lost old new slots after result
message_lost old new slots after (Ok accepted) result is = subst (Lost old new slots after) (sym is) tt
message_lost old new slots after (Err e) result is = subst (Lost old new slots after) (sym is) (λ never. absurd (cc never))

-- ---- the device, and the slots, told in other words
told_device : (t : Result Accepted SharedFault) → TellsDevice (message_told t) ≡ TellsNodeDevice t
told_device (Ok accepted) = refl
told_device (Err e) = refl

opened_device : (q : Result ℕ AcceptFault) → TellsDevice (slot_told q) ≡ TellsDevice q
opened_device (Ok k) = refl
opened_device (Err e) = refl

module _ {D : Type 0} {honest : Type 0} {content : D → FileMap} {failed : D → ℕ} {can_fail : D → Type 0} {left : D → Option ℕ} {old new : D} where
  pub told_writes : (t : Result Accepted SharedFault) (result : Result (Option Accepted) AcceptFault) → result ≡ message_told t → Writes honest content failed can_fail left old new (TellsNodeDevice t)
      → Writes honest content failed can_fail left old new (TellsDevice result)
  told_writes t result is w =
      subst (λ (r : Result (Option Accepted) AcceptFault). Writes honest content failed can_fail left old new (TellsDevice r)) (sym is)
      (subst (λ (P : Type 0). Writes honest content failed can_fail left old new P) (sym (told_device t)) w)

  pub opened_writes : (q : Result ℕ AcceptFault) (result : Result (Option Accepted) AcceptFault) → result ≡ slot_told q → Writes honest content failed can_fail left old new (TellsDevice q)
      → Writes honest content failed can_fail left old new (TellsDevice result)
  opened_writes q result is w =
      subst (λ (r : Result (Option Accepted) AcceptFault). Writes honest content failed can_fail left old new (TellsDevice r)) (sym is)
      (subst (λ (P : Type 0). Writes honest content failed can_fail left old new P) (sym (opened_device q)) w)
