-- That a push is stepped to its end, and that what comes to the node is served: for the calls that step it and answer.
use Rattle.std.proofs.Common.{◌≡◌, ◌≤◌, ◌<◌, ◌+◌, ℕ, Bool, true, false, List, Option, Some, None, Result, Ok, Err, Vec, arith, refl, sym, ap, ◌∙◌, subst, inl, inr, ◌⊎◌}
use Rattle.std.specs.Global.{Global}
use Rattle.std.specs.Prelude.{IfErr, IsErrAnd, option_map, unwrap_or}
use Rattle.std.specs.FinMap.{get}
use Rattle.std.proofs.lemmas.Option.{slice_get_past}
use Rattle.vc_files.specs.FileMap.{FileMap}
use Rattle.vc_message.proofs.Totals.{less_or}
use Rattle.vc_rules.specs.Told.{Quietly}
use Rattle.vc_message.specs.Told.{SendsBytes}
use Rattle.vc_model.specs.Exchange.{IsUndone, OpensNone}
use Rattle.vc_model.specs.Message.{Message}
use Rattle.vc_model.specs.Node.{Answer}
use Rattle.vc_model.specs.Node.Answer.{Declined, Did, Fault}
use Rattle.vc_model.specs.Node.Reply.{MigratedAll, Opened, Passed, RefusedAll, Updated as UpdatedOne, UpdatedAll}
use Rattle.vc_model.specs.Push.{OpenPush, Slots}
use Rattle.vc_model.specs.Shared.{SharedNode}
use Rattle.vc_model.specs.SharedCall.{SharedCall}
use Rattle.vc_model.specs.SharedCall.SharedCall.{StepOf}
use Rattle.vc_local.proofs.CleanLemmas.{stays_then}
use Rattle.vc_local.specs.Clean.{KeepsClean}
use Rattle.vc_local.specs.declared.fault.NodeFault.TheVariants.{Down}
use Rattle.vc_local.proofs.FaultLemmas.{node_undone}
use Rattle.vc_rules.specs.Verdicts.{machine_reason}
use Rattle.vc_push_rules.specs.Session.{IsSession, SessionText}
use Rattle.vc_push_rules.specs.declared.stage.Stepped.{Stepped as SessionStep}
use Rattle.vc_push_rules.specs.declared.stage.Stepped.TheVariants as session
use Rattle.vc_shared.proofs.HoldingLemmas.{slot_set}
use Rattle.vc_shared.proofs.SlotLemmas.{open_within, told_at}
use Rattle.vc_shared.proofs.SteppingLaws.{pushes_of}
use Rattle.vc_shared.specs.Calls.{AcceptedAs, AnswersShared, SteppedAs}
use Rattle.vc_shared.specs.Faults.{fault_answer}
use Rattle.vc_shared.specs.Holding.{HoldsShared, HoldsSlot, HoldsSlots}
use Rattle.vc_shared.specs.Slots.{AreTellable, slot_of}
use Rattle.vc_shared.specs.Stepping.{IsHeldThere, StepsSlot, Tells, left_by}
use Rattle.vc_shared.specs.declared.accepting.Accepted.{Accepted}
use Rattle.vc_shared.specs.declared.accepting.Accepted.TheVariants.{Reply, Slot}
use Rattle.vc_shared.specs.declared.fault.SharedFault.{SharedFault}
use Rattle.vc_shared.specs.declared.fault.SharedFault.TheVariants.{Busy, NoSuchSlot, NoValue, Node, NotOurs, Unexpected, Unread}
use Rattle.vc_shared.specs.declared.stepping.Stepped.{Stepped}
use Rattle.vc_shared.specs.declared.stepping.Stepped.TheVariants.{Checked, Migrated, Updated, Atomic, AtomicRefused, Finished}
use Rattle.vc_server.proofs.StepsLeft.{IsBefore, few_left, fewer_left, one_left, steps_left}
use Rattle.vc_server.specs.Refusals.{IsRefusedFor, IsRefusedOnTheWay}
use Rattle.vc_server.specs.Serving.{MayAnswer, Serves, ServesOn, StepsOn, StepsToEnd, report_of}

-- ---- what stands in the slot of a node that is up
names_in : (content : FileMap) (k : ℕ) (v : Option SessionText) (q : Option OpenPush) → HoldsSlot content k v q → IsHeldThere content v
names_in content k None None h = tt
names_in content k (Some s) (Some p) (at, push, clean) = push.names
names_in content k None (Some p) never = absurd never
names_in content k (Some s) None never = absurd never

-- a push that stands there is one
session_in : (content : FileMap) (k : ℕ) (v : Option SessionText) (q : Option OpenPush) → HoldsSlot content k v q → (s : SessionText) → v ≡ Some s → IsSession s
session_in content k None q h s is = absurd (cc is)
session_in content k (Some u) (Some p) (at, push, clean) s is = let same : u ≡ s = cc is in subst IsSession same push.session
session_in content k (Some u) None never s is = absurd never

few_in : (content : FileMap) (slots : List (Option SessionText)) (k : ℕ) (v : Option SessionText) (q : Option OpenPush) → slot_of slots k ≡ v → AreTellable slots → HoldsSlot content k v q → steps_left v ≤ 259
few_in content slots k None q is tellable h = omega arith
few_in content slots k (Some s) (Some p) is tellable (at, push, clean) = let told = told_at slots k s is tellable in omega (arith, few_left s push.session, told.few)
few_in content slots k (Some s) None is tellable never = absurd never

module _ (content : FileMap) (slots : List (Option SessionText)) (k : ℕ) where
  -- no push is open in a slot past the eighth
  past_eight : (pushes : Slots) → HoldsSlots content slots pushes → 8 ≤ k → slot_of slots k ≡ None
  past_eight pushes holds past = ap (λ (o : Option (Option SessionText)). unwrap_or o None) (slice_get_past slots k (omega (arith, past, holds.eight)))

  pub held_there : (n : SharedNode) → HoldsShared content slots true n → IsHeldThere content (slot_of slots k)
  held_there n held =
      let open_now = pushes_of content slots n.live held.live in
      elim (less_or k 8) [
        | inl small ↦ names_in content k (slot_of slots k) (get open_now.0 k) (open_now.2.each k small)
        | inr past ↦ subst (λ (v : Option SessionText). IsHeldThere content v) (sym (past_eight open_now.0 open_now.2 past)) tt
      ]

  session_held : (n : SharedNode) → HoldsShared content slots true n → (s : SessionText) → slot_of slots k ≡ Some s → IsSession s
  session_held n held s is =
      let open_now = pushes_of content slots n.live held.live in
      elim (less_or k 8) [
        | inl small ↦ session_in content k (slot_of slots k) (get open_now.0 k) (open_now.2.each k small) s is
        | inr past ↦ absurd (let both : ◌≡◌ {A = Option SessionText} None (Some s) = sym (past_eight open_now.0 open_now.2 past) ∙ is in cc both)
      ]

  few_held : (n : SharedNode) → HoldsShared content slots true n → AreTellable slots → steps_left (slot_of slots k) ≤ 259
  few_held n held tellable =
      let open_now = pushes_of content slots n.live held.live in
      elim (less_or k 8) [
        | inl small ↦ few_in content slots k (slot_of slots k) (get open_now.0 k) refl tellable (open_now.2.each k small)
        | inr past ↦ omega (arith, ap steps_left (past_eight open_now.0 open_now.2 past))
      ]

-- ---- a step before the last
is_before : (did : SessionStep) (told : Stepped) → Tells did told → report_of told ≡ None → IsBefore did
is_before (session.Checked n) told tells before = tt
is_before session.Migrated told tells before = tt
is_before (session.Updated name found) told tells before = tt
is_before (session.Atomic n) told tells before = tt
is_before (session.AtomicRefused name reason) told tells before = tt
is_before (session.Finished report) (Finished bytes) tells before = absurd (cc before)
is_before (session.Finished report) (Checked n) tells before = absurd tells
is_before (session.Finished report) Migrated tells before = absurd tells
is_before (session.Finished report) (Updated name found) tells before = absurd tells
is_before (session.Finished report) (Atomic n) tells before = absurd tells
is_before (session.Finished report) (AtomicRefused name reason) tells before = absurd tells

left_open : (told : Stepped) (t : SessionText) → report_of told ≡ None → left_by told t ≡ Some t
left_open (Checked n) t before = refl
left_open Migrated t before = refl
left_open (Updated name found) t before = refl
left_open (Atomic n) t before = refl
left_open (AtomicRefused name reason) t before = refl
left_open (Finished bytes) t before = absurd (cc before)

fewer : (mid new : FileMap) (mids after : List (Option SessionText)) (k : ℕ) (told : Stepped) → report_of told ≡ None → (done : StepsSlot mid new mids after k told) → IsSession done.session → steps_left (slot_of after k) < steps_left (slot_of mids k)
fewer mid new mids after k told before done was =
    let now : slot_of after k ≡ Some done.later =
    ap (λ (xs : List (Option SessionText)). slot_of xs k) done.left ∙ slot_set mids k (left_by told done.later) (open_within mids k done.session done.found) ∙ left_open told done.later before in
    let falls = fewer_left mid new done.session done.later done.step.did was done.step.is_session done.step.steps (is_before done.step.did told done.step.tells before) in
    omega (arith, falls, ap steps_left now, ap steps_left done.found)

-- ---- answers
-- the machine's call, as it was told
quietly : (n t : SharedNode) (call : SharedCall) (a b : Answer) (sends : Option Message) → Quietly b a sends → MayAnswer n call a t sends → MayAnswer n call b t None
quietly n t call a b sends told exact =
    subst (λ (x : Answer). MayAnswer n call x t None) told.answer (subst (λ (out : Option Message). MayAnswer n call a t out) told.sent exact)

-- what is no success is refused, or ended by a fault
pub shared_undone : (e : SharedFault) → IsUndone (fault_answer e)
shared_undone (Unread fault) = tt
shared_undone (NotOurs id) = tt
shared_undone Unexpected = tt
shared_undone Busy = tt
shared_undone NoSuchSlot = tt
shared_undone (NoValue refusal) = tt
shared_undone (Node fault) = node_undone fault

opens_none : (a : Answer) → IsUndone a → OpensNone a
opens_none (Declined n) h = tt
opens_none (Fault f) h = tt
opens_none (Did y) h = absurd h

module _ (k : ℕ) (n t : SharedNode) (a : Answer) (sends : Option Message) where
  -- the step that told the report
  told_last : (bytes : List ℕ) → SendsBytes bytes a sends → MayAnswer n (StepOf k) a t sends → StepsOn k n a t sends
  told_last bytes shows exact =
      subst (λ (out : Option Message). StepsOn k n a t out) (sym shows.sent)
      (StepsOn.sent shows.message (subst (λ (out : Option Message). MayAnswer n (StepOf k) a t out) shows.sent exact))

  refused_last : (e : SharedFault) → Quietly (fault_answer e) a sends → MayAnswer n (StepOf k) a t sends → StepsOn k n a t sends
  refused_last e shows exact =
      subst (λ (out : Option Message). StepsOn k n a t out) (sym shows.sent)
      (StepsOn.undone (subst (λ (out : Option Message). MayAnswer n (StepOf k) a t out) shows.sent exact) (subst IsUndone (sym shows.answer) (shared_undone e)))

  -- a step before it, and those that follow
  further_on : (told : Stepped) → report_of told ≡ None → SteppedAs (Ok told) a sends → MayAnswer n (StepOf k) a t sends
      → (b : Answer) (u : SharedNode) (out : Option Message) → StepsOn k t b u out → StepsOn k n b u out
  further_on (Checked passed) before shows exact b u out on = StepsOn.further (Passed passed) (quietly n t (StepOf k) a (Did (Passed passed)) sends shows exact) on
  further_on Migrated before shows exact b u out on = StepsOn.further MigratedAll (quietly n t (StepOf k) a (Did MigratedAll) sends shows exact) on
  further_on (Updated name found) before shows exact b u out on =
      let reply = UpdatedOne name.items (option_map machine_reason found) in
      StepsOn.further reply (quietly n t (StepOf k) a (Did reply) sends shows exact) on
  further_on (Atomic count) before shows exact b u out on = StepsOn.further (UpdatedAll count) (quietly n t (StepOf k) a (Did (UpdatedAll count)) sends shows exact) on
  further_on (AtomicRefused name reason) before shows exact b u out on =
      let reply = RefusedAll name.items (machine_reason reason) in
      StepsOn.further reply (quietly n t (StepOf k) a (Did reply) sends shows exact) on
  further_on (Finished bytes) before shows exact b u out on = absurd (cc before)

-- ---- the steps so far
-- Whatever node was held, one is held now from which the push goes on to its end; and so many steps are left.
pub record HasStepped (old new : FileMap) (slots after : List (Option SessionText)) (k taken : ℕ) : Type 0 where
  pub each : (n : SharedNode) → HoldsShared old slots true n → (u : SharedNode) × HoldsShared new after true u
      × ((a : Answer) (t : SharedNode) (sends : Option Message) → StepsOn k u a t sends → StepsOn k n a t sends) × (taken + steps_left (slot_of after k) ≤ 259)

pub none_stepped : (content : FileMap) (slots : List (Option SessionText)) (k : ℕ) → AreTellable slots → HasStepped content content slots slots k 0
none_stepped content slots k tellable = record { each = λ n held. (n, held, λ a t sends on. on, omega (arith, few_held content slots k n held tellable)) }

module _ (old mid new : FileMap) (slots mids after : List (Option SessionText)) (k taken : ℕ) (so : HasStepped old mid slots mids k taken) where
  pub one_stepped : (told : Stepped) → report_of told ≡ None → AnswersShared (StepOf k) (SteppedAs (Ok told)) mid new mids after true true
      → (IsHeldThere mid (slot_of mids k) → StepsSlot mid new mids after k told) → HasStepped old new slots after k (taken + 1)
  one_stepped told before call steps = record {
    each = λ n held.
        let here = so.each n held in
        let next = call.each here.0 here.1 in
        let done = steps (held_there mid mids k here.0 here.1) in
        let falls = fewer mid new mids after k told before done (session_held mid mids k here.0 here.1 done.session done.found) in (
          next.0,
          next.3,
          λ a t sends on. here.2 a t sends (further_on k here.0 next.0 next.1 next.2 told before next.4 next.5 a t sends on),
          omega (arith, falls, here.3),
        );
  }

  pub told_to_end : (told : Stepped) (bytes : Vec ℕ Global) (is_up : Bool) → report_of told ≡ Some bytes → AnswersShared (StepOf k) (SteppedAs (Ok told)) mid new mids after true is_up
      → StepsToEnd k (Ok bytes) old new slots after is_up
  told_to_end (Finished report) bytes is_up is call = record {
    each = λ n held.
        let here = so.each n held in
        let next = call.each here.0 here.1 in
        let same : report ≡ bytes = cc is in
        (next.0, next.1, next.2, next.3, subst (λ (v : Vec ℕ Global). SendsBytes v.items next.1 next.2) same next.4, here.2 next.1 next.0 next.2 (told_last k here.0 next.0 next.1 next.2 report.items next.4 next.5));
  }
  told_to_end (Checked n) bytes is_up is call = absurd (cc is)
  told_to_end Migrated bytes is_up is call = absurd (cc is)
  told_to_end (Updated name found) bytes is_up is call = absurd (cc is)
  told_to_end (Atomic n) bytes is_up is call = absurd (cc is)
  told_to_end (AtomicRefused name reason) bytes is_up is call = absurd (cc is)

  pub refused_to_end : (e : SharedFault) (is_up : Bool) → AnswersShared (StepOf k) (SteppedAs (Err e)) mid new mids after true is_up → StepsToEnd k (Err e) old new slots after is_up
  refused_to_end e is_up call = record {
    each = λ n held.
        let here = so.each n held in
        let next = call.each here.0 here.1 in
        (next.0, next.1, next.2, next.3, next.4, here.2 next.1 next.0 next.2 (refused_last k here.0 next.0 next.1 next.2 e next.4 next.5));
  }

-- no push takes more steps
pub never_so_long : (old new : FileMap) (slots after : List (Option SessionText)) (k taken : ℕ) (result : Result (Vec ℕ Global) SharedFault) (is_up : Bool) → 259 ≤ taken → HasStepped old new slots after k taken
    → StepsToEnd k result old new slots after is_up
never_so_long old new slots after k taken result is_up long so = record {
  each = λ n held. absurd (let here = so.each n held in omega (arith, long, here.3, one_left (slot_of after k)));
}

-- ---- what comes to the node
-- a node that took it is up
pub up_then : (accepted : Accepted) (e : SharedFault) (was_up is_up : Bool) → (was_up ≡ false → ◌≡◌ {A = Result Accepted SharedFault} (Ok accepted) (Err e)) → (was_up ≡ true → is_up ≡ true) → is_up ≡ true
up_then accepted e true is_up down up = up refl
up_then accepted e false is_up down up = absurd (let never = down refl in cc never)

module _ (call : SharedCall) (old new : FileMap) (slots after : List (Option SessionText)) (was_up is_up : Bool) where
  pub replied_at_once : (accepted : Accepted) (bytes : Vec ℕ Global) → accepted ≡ Reply bytes → AnswersShared call (AcceptedAs (Ok accepted)) old new slots after was_up is_up
      → Serves call (Ok bytes) old new slots after was_up is_up
  replied_at_once accepted bytes is answered = record {
    each = λ n held.
        let next = answered.each n held in
        let shows : SendsBytes bytes.items next.1 next.2 = subst (λ (x : Accepted). AcceptedAs (Ok x) next.1 next.2) is next.4 in
        (next.0, next.1, next.2, next.3, shows, ServesOn.at_once next.5 (subst OpensNone (sym shows.answer) tt));
  }

  pub refused_at_once : (e : SharedFault) → AnswersShared call (AcceptedAs (Err e)) old new slots after was_up is_up → Serves call (Err e) old new slots after was_up is_up
  refused_at_once e answered = record {
    each = λ n held.
        let next = answered.each n held in
        (next.0, next.1, next.2, next.3, next.4, ServesOn.at_once next.5 (subst OpensNone (sym next.4.answer) (opens_none (fault_answer e) (shared_undone e))));
  }

module _ (call : SharedCall) (old mid new : FileMap) (slots mids after : List (Option SessionText)) (was_up mid_up is_up : Bool) where
  pub served_by_steps : (accepted : Accepted) (k : ℕ) (result : Result (Vec ℕ Global) SharedFault) → accepted ≡ Slot k → mid_up ≡ true
      → AnswersShared call (AcceptedAs (Ok accepted)) old mid slots mids was_up mid_up → StepsToEnd k result mid new mids after is_up
      → Serves call result old new slots after was_up is_up
  served_by_steps accepted k result is up opened stepped = record {
    each = λ n held.
        let first = opened.each n held in
        let shows : (k < 8) × Quietly (Did (Opened k)) first.1 first.2 = subst (λ (x : Accepted). AcceptedAs (Ok x) first.1 first.2) is first.4 in
        let last = stepped.each first.0 (subst (λ (b : Bool). HoldsShared mid mids b first.0) up first.3) in
        (last.0, last.1, last.2, last.3, last.4, ServesOn.stepped k shows.0 (quietly n first.0 call first.1 (Did (Opened k)) first.2 shows.1 first.5) last.5);
  }

-- ---- what a call ended with
pub err_is : {T E : Type 0} (r : Result T E) (e : E) → IsErrAnd r (λ y. y ≡ e) → r ≡ Err e
err_is (Ok x) e never = absurd never
err_is (Err y) e is = ap Err is

module _ (call : SharedCall) (Shows : Answer → Option Message → Type 0) (old new : FileMap) (slots after : List (Option SessionText)) (was_up is_up : Bool) where
  pub while_up : was_up ≡ true → AnswersShared call Shows old new slots after was_up is_up → AnswersShared call Shows old new slots after true is_up
  while_up up answered = subst (λ (b : Bool). AnswersShared call Shows old new slots after b is_up) up answered

  pub stays_up : is_up ≡ true → AnswersShared call Shows old new slots after was_up is_up → AnswersShared call Shows old new slots after was_up true
  stays_up up answered = subst (λ (b : Bool). AnswersShared call Shows old new slots after was_up b) up answered

pub stays_as : {call : SharedCall} {Shows : Answer → Option Message → Type 0} {old new : FileMap} {slots after : List (Option SessionText)} {was_up mid_up is_up : Bool} → mid_up ≡ true → is_up ≡ true
    → AnswersShared call Shows old new slots after was_up mid_up → AnswersShared call Shows old new slots after was_up is_up
stays_as {call} {Shows} {old} {new} {slots} {after} {was_up} was is answered = subst (λ (b : Bool). AnswersShared call Shows old new slots after was_up b) (was ∙ sym is) answered

-- ---- why there is no reply
module _ (Refuses : SharedFault → Type 0) where
  pub by_itself : (old : FileMap) (e : SharedFault) → (e ≡ Node Down) ⊎ Refuses e → IsRefusedFor Refuses old e
  by_itself old e (inl down) = inl down
  by_itself old e (inr why) = inr (inl why)

  pub on_the_way : (old mid : FileMap) (result : Result (Vec ℕ Global) SharedFault) → KeepsClean old mid → IfErr result (IsRefusedOnTheWay mid) → IfErr result (IsRefusedFor Refuses old)
  on_the_way old mid (Ok reply) clean refused = tt
  on_the_way old mid (Err e) clean (content, slot, keeps, why) = inr (inr (content, slot, stays_then old mid content clean.stays keeps, why))
