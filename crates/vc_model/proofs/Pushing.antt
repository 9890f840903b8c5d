-- A push of one new value to one branch, between good nodes, is done.
use Rattle.std.proofs.Common.{◌≡◌, ◌≢◌, ℕ, ◌<◌, Bool, true, false, List, ◌∷◌, ◌++◌, map, Option, Some, None, Ok, is_none, ◌⊎◌, inl, inr, refl, sym, ap, ◌∙◌, subst, arith, unwrap_or, if◌then◌else◌, []}
use Rattle.std.specs.FinMap.{get, insert, nat_cmp-IsAntisymmetric}
use Rattle.std.specs.Cmp.{nat_cmp_total}
use Rattle.std.specs.List.{AllByRecursion, list_all}
use Rattle.std.specs.Cmp.Lexicographic.{nat_list_cmp_total}
use Rattle.std.proofs.lemmas.Option.{same_Some}
use Rattle.vc_model.specs.Object.{Id, zero_id, Format, Objects, Lookup, stored, over}
use Rattle.vc_model.specs.Reach.{IsClosed, IsAncestor}
use Rattle.vc_model.specs.Refs.{RefName, Refs, branch, tracking, IsCurrent}
use Rattle.vc_model.specs.Repository.{Repository, Change, changed_all, with_objects, Effect, only_changes, Done}
use Rattle.vc_model.specs.Repository.Change.{SetRefs}
use Rattle.vc_model.specs.Push.{Command, Judged, Verdict, Reason, Stage, OpenPush, Slots, CheckNeeds, UpdateNeeds, TurnNeeds, FirstUnmet, Checks, ChecksAll, ChecksPush, Updates, UpdatesAll, JudgesInTurn, check_reasons, update_reasons, is_passing, failed_with_others, stage_while}
use Rattle.vc_model.specs.Push.Verdict.{Passing, Accepted, Refused}
use Rattle.vc_model.specs.Push.Stage.{Unpacked, Checked, Migrated, Finished}
use Rattle.vc_model.specs.Message.{Message, Told}
use Rattle.vc_model.specs.Message.Message.{Push, Report}
use Rattle.vc_model.specs.Node.{Answer, Failure, Deed, Reply, IsDifference}
use Rattle.vc_model.specs.Node.Answer.{Did, Fault}
use Rattle.vc_model.specs.Node.Reply.{Opened, Reported}
use Rattle.vc_model.specs.Shared.{SharedNode, UpdatesPush, StepsPush, TellsAll}
use Rattle.vc_model.specs.Shared.UpdatesPush.{together, singly}
use Rattle.vc_model.specs.Clone.{Awaited, CloneNode, PushItem, AreCommandsFor, IsItemId, IsTrackingValue, IsOldOf, Moves, MovesBranch, ReceivesNot, sending}
use Rattle.vc_model.specs.Clone.Awaited.{Nothing, AnAdvert, APack}
use Rattle.vc_model.specs.Clone.Task.{StartPush}
use Rattle.vc_model.specs.Rules.{Rules, rules_by}
use Rattle.vc_model.specs.SharedCall.{SharedAnswers}
use Rattle.vc_model.specs.SharedCall.SharedCall.{Accept, StepOf}
use Rattle.vc_model.specs.CloneCall.{CloneAnswers, Unless}
use Rattle.vc_model.specs.CloneCall.CloneCall.{Command as Orders, Receive}
use Rattle.vc_model.specs.Exchange.{BranchesCanBeTracked, AreReady, AreUp, CloneSends, IsUndone, OpensNone, Steps, PushRun, MayPush, one_item, PushEnds, PushSucceeds}
use Rattle.vc_model.specs.Exchange.Steps.{sent, undone, further}
use Rattle.vc_model.specs.Exchange.PushRun.{unsent, unopened, unreported, reported}
use Rattle.vc_model.specs.Exchange.PushEnds.{pushed, failed}
use Rattle.vc_model.proofs.Maps.{insert_same, same_key, bytes_same}
use Rattle.vc_model.proofs.Tracking.{branch_same}
use Rattle.vc_model.proofs.Commits.{branch_tag_apart, contains_first}
use Rattle.vc_model.proofs.OneClone.{met, same_command}
use Rattle.vc_model.proofs.Carried.{Agree, agree_of, turned, agree_over, closed_over, history_carried, ancestor_carried}
use Rattle.vc_model.proofs.Following.{sound_follows, tracking_free}
use Rattle.vc_model.proofs.Came.{clone_came, shared_came, nothing_done}
use Rattle.vc_model.proofs.Came.Came.{not_done, done, stopped}
use Rattle.vc_model.proofs.Exchanges.{none_sent, up_is, is_up}

-- ---- small things

pub unmet_never : (needs : Reason → Type 0) (qs : List Reason) (r : Reason) → AllByRecursion needs qs → FirstUnmet needs qs r → ⊥
unmet_never needs [] r a m = m
unmet_never needs (q ∷ qs) r a (inl m) = m.0 a.0
unmet_never needs (q ∷ qs) r a (inr m) = unmet_never needs qs r a.1 m.1

pub same_judged : (c d : Command) (v w : Verdict) → c ≡ d → v ≡ w → ◌≡◌ {A = Judged} (record { command = c; verdict = v }) (record { command = d; verdict = w })
same_judged c d v w e f = cc

same_told : (n m : RefName) (x y : Rattle.std.proofs.Common.Result Id ℕ) → n ≡ m → x ≡ y → ◌≡◌ {A = Told} (record { name = n; outcome = x }) (record { name = m; outcome = y })
same_told n m x y e f = cc

same_id : (x y : Id) → ◌≡◌ {A = Option Id} (Some x) (Some y) → x ≡ y
same_id x y e = cc

head_same : (x y : Judged) (xs ys : List Judged) → x ∷ xs ≡ y ∷ ys → x ≡ y
head_same x y xs ys e = cc

tail_same : (x y : Judged) (xs ys : List Judged) → x ∷ xs ≡ y ∷ ys → xs ≡ ys
tail_same x y xs ys e = cc

no_empty : (xs : List Judged) (x : Judged) (ys : List Judged) → [] ≡ xs ++ x ∷ ys → ⊥
no_empty [] x ys e = absurd (cc)
no_empty (y ∷ xs) x ys e = absurd (cc)

-- one element is cut in one way
only_cut : (j : Judged) (front : List Judged) (x : Judged) (back : List Judged) → j ∷ [] ≡ front ++ x ∷ back → (front ≡ []) × (j ≡ x) × (back ≡ [])
only_cut j [] x back e = (refl, head_same j x [] back e, sym (tail_same j x [] back e))
only_cut j (f ∷ front) x back e = absurd (no_empty front x back (tail_same j f [] (front ++ x ∷ back) e))

module _ (fmt : Format) (rules : Rules fmt) (can : BranchesCanBeTracked fmt) (atomic : Bool) (b : List ℕ) (new : Id) (n : SharedNode) (m : CloneNode) (ready : AreReady fmt rules n m) (may : MayPush fmt n m b new) where
  abbrev s : Repository
  s = n.repository

  abbrev c : Repository
  c = m.repository

  abbrev old : Id
  old = unwrap_or (get c.refs (tracking b)) zero_id

  abbrev command : Command
  command = record { old = old; new = new; name = branch b }

  abbrev judged : Verdict → Judged
  judged v = record { command = command; verdict = v }

  -- ---- the clone begins

  one_command : (cs : List Command) → AreCommandsFor c.refs (one_item b new) cs → cs ≡ command ∷ []
  one_command [] h = absurd h
  one_command (k ∷ l ∷ cs) h = absurd h.3
  one_command (k ∷ []) h = ap (λ (k : Command). k ∷ []) (same_command k.old old k.new new k.name (branch b) (value h.2) h.1 h.0)
    where
      value : IsOldOf c.refs (branch b) k.old → k.old ≡ old
      value (inl o) = o.2 ∙ ap (λ (b : List ℕ). unwrap_or (get c.refs (tracking b)) zero_id) (sym (branch_same b o.0 o.1))
      value (inr o) = absurd (o.0 (b, refl))

  item_is : (x : Id) → IsItemId (one_item b new) x → new ≡ x
  item_is x i = same_id new x (ap (λ (i : PushItem). i.id) (contains_first (record { id = Some new; name = branch b }) i.0 i.1) ∙ i.2)

  item_new : IsItemId (one_item b new) new
  item_new = (record { id = Some new; name = branch b }, (0, omega arith, refl), refl)

  -- what the push carries
  abbrev Carries : Objects → Type 0
  Carries carried = IsDifference fmt c.objects (IsItemId (one_item b new)) (IsTrackingValue c.refs) carried

  -- the clone stays, and sends the push; or a fault
  begins : (d : CloneNode) (a : Answer) (sends : Option Message) (w : Awaited) → m.live ≡ Some w → CloneAnswers fmt rules m (Orders (StartPush atomic (one_item b new))) a d sends
      → ((carried : Objects) × Carries carried × (sends ≡ Some (Push atomic None (command ∷ []) carried)) × (d.repository ≡ c) × (d.live ≡ Some w)) ⊎ ((f : Failure) × (a ≡ Fault f) × (sends ≡ None))
  begins d a sends w up k = elim (clone_came fmt rules m d (Orders (StartPush atomic (one_item b new))) a sends w tt up k) [
    | not_done r why ↦ absurd (met ((x : Id) → IsItemId (one_item b new) x → IsClosed fmt (stored c.objects) x) 40 r ⊥ (λ x i. subst (IsClosed fmt (stored c.objects)) (item_is x i) may.good.0)
        (met (Rattle.std.specs.Prelude.◌≤◌ 1 256) 84 r (Unless ((x : Id) → IsItemId (one_item b new) x → IsClosed fmt (stored c.objects) x) 40 r ⊥) (omega arith) why))
    | done deed is did left answer sends_is ↦
        let p = is.2 in
        let same : deed ≡ sending w (Push atomic None (command ∷ []) p.1) = p.4 ∙ ap (λ (cs : List Command). sending w (Push atomic None cs p.1)) (one_command p.0 p.2) in
        inl (
          p.1,
          p.3,
          sends_is ∙ ap (λ (x : Deed Awaited). x.sends) same,
          nothing_done c d.repository (subst (λ (x : Deed Awaited). Done c x.effect d.repository) same did),
          left ∙ ap (λ (x : Deed Awaited). Some x.left) same,
        )
    | stopped f is none off how ↦ inr (f, is, none)
  ]

  -- ---- what it brings to the shared node is good there

  agree : Agree (stored c.objects) (stored s.objects)
  agree = turned (stored s.objects) (stored c.objects) (agree_of fmt s c ready.shared.good.sound.objects ready.clone.sound.objects ready.agree)

  tracked_closed : (x : Id) → IsTrackingValue c.refs x → IsClosed fmt (stored s.objects) x
  tracked_closed x v = (ready.behind.each v.0 x v.1).3

  -- nothing that the clone has closed is named zero
  is_named : (x : Id) → IsClosed fmt (stored c.objects) x → x ≢ zero_id
  is_named x k e =
      let o = k.there x ([], refl) in
      let none : get c.objects x ≡ None = ap (get c.objects) e ∙ may.nonzero in
      let some : get c.objects x ≡ Some o.0 = o.1 in absurd (cc)

  module _ (carried : Objects) (is : Carries carried) where
    abbrev at : Lookup
    at = over s.objects carried

    new_closed : IsClosed fmt at new
    new_closed = closed_over fmt c.objects s.objects carried (IsItemId (one_item b new)) (IsTrackingValue c.refs) is agree tracked_closed new item_new may.good.0

    agree_at : Agree (stored c.objects) at
    agree_at = agree_over fmt c.objects s.objects carried (IsItemId (one_item b new)) (IsTrackingValue c.refs) is agree tracked_closed

    goes_forward : (old ≡ zero_id) ⊎ IsAncestor fmt at old new
    goes_forward = go (get c.refs (tracking b)) refl
      where
        go : (o : Option Id) → get c.refs (tracking b) ≡ o → (old ≡ zero_id) ⊎ IsAncestor fmt at old new
        go None e = inl (ap (λ (o : Option Id). unwrap_or o zero_id) e)
        go (Some u) e = inr (subst (λ (o : Id). IsAncestor fmt at o new) (sym (ap (λ (o : Option Id). unwrap_or o zero_id) e))
            (ancestor_carried fmt (stored c.objects) at u new agree_at new_closed (may.forward u e)))

    checks : AllByRecursion (CheckNeeds fmt at command) check_reasons
    checks = (
      may.legal,
      (
        inl (b, refl),
        (
          is_named new may.good.0,
          (
            new_closed,
            ((λ _. history_carried fmt (stored c.objects) at new agree_at may.good.0 new_closed may.good.1), ((λ _. goes_forward), tt)),
          ),
        ),
      ),
    )

    passes : (v : Verdict) → Checks fmt at command Passing v → v ≡ Passing
    passes Passing h = refl
    passes Accepted h = absurd h
    passes (Refused r) h = absurd (unmet_never (CheckNeeds fmt at command) check_reasons r checks h)

    checked_each : (ks : List Judged) → ChecksAll fmt at (judged Passing ∷ []) ks → ks ≡ judged Passing ∷ []
    checked_each [] h = absurd h
    checked_each (k ∷ l ∷ ks) h = absurd h.2
    checked_each (k ∷ []) h = ap (λ (k : Judged). k ∷ []) (same_judged k.command command k.verdict Passing h.0 (passes k.verdict h.1))

    checked_all : (t : Bool) (ks : List Judged) → ChecksPush fmt at t (judged Passing ∷ []) ks → ks ≡ judged Passing ∷ []
    checked_all false ks h = checked_each ks h
    checked_all true ks h = subst (λ (ms : List Judged). ks ≡ (if list_all is_passing ms then ms else map failed_with_others ms)) (checked_each h.0 h.1) h.2

  current_now : IsCurrent s.refs (branch b) old
  current_now = go (get c.refs (tracking b)) refl
    where
      go : (o : Option Id) → get c.refs (tracking b) ≡ o → IsCurrent s.refs (branch b) old
      go None e = inl (ap (λ (o : Option Id). unwrap_or o zero_id) e, sym may.current ∙ e)
      go (Some u) e =
          let same : old ≡ u = ap (λ (o : Option Id). unwrap_or o zero_id) e in
          inr (λ z. is_named u (ready.clone.sound.refs (tracking b) u e).closed (sym same ∙ z), sym may.current ∙ (e ∙ ap Some (sym same)))

  updates : AllByRecursion (UpdateNeeds s.refs command) update_reasons
  updates = ((λ t. absurd (branch_tag_apart b t.0 t.1)), (may.free, (current_now, tt)))

  turns : AllByRecursion (TurnNeeds s.refs [] command) update_reasons
  turns = ((λ t. absurd (branch_tag_apart b t.0 t.1)), (may.free, ((current_now, λ i k. let j : k.0 < 0 = k.1 in omega arith), tt)))

  abbrev sets : List Change
  sets = SetRefs ((branch b, new) ∷ []) ∷ []

  accepted_so : (v : Verdict) (cs : List Change) → Updates s.refs command v cs → (v ≡ Accepted) × (cs ≡ sets)
  accepted_so Accepted cs h = (refl, h.1)
  accepted_so Passing cs h = absurd h
  accepted_so (Refused r) cs h = absurd (unmet_never (UpdateNeeds s.refs command) update_reasons r updates h.0)

  none_refused : (rs : List (Option Reason)) → JudgesInTurn s.refs [] (judged Passing ∷ []) rs → list_all is_none rs ≡ true
  none_refused [] h = absurd h
  none_refused (None ∷ []) h = refl
  none_refused (None ∷ r ∷ rs) h = absurd h.1
  none_refused (Some r ∷ rs) h = absurd (unmet_never (TurnNeeds s.refs [] command) update_reasons r turns h.0)

  -- ---- the steps

  abbrev push_at : Objects → Verdict → Stage → OpenPush
  push_at carried v x = record { atomic = atomic; fault = None; commands = judged v ∷ []; carried = carried; stage = x }

  updated : (r : Repository) (carried : Objects) (ks : List Judged) (cs : List Change) (y : Reply) → r.refs ≡ s.refs → UpdatesPush r (push_at carried Passing Migrated) ks cs y → (ks ≡ judged Accepted ∷ []) × (cs ≡ sets)
  updated r carried ks cs y same (together rs is u t) =
      let u' : UpdatesAll s.refs (judged Passing ∷ []) rs ks cs = subst (λ (refs : Refs). UpdatesAll refs (judged Passing ∷ []) rs ks cs) same u in
      elim (u'.1) [ inl k ↦ (k.1, k.2) | inr k ↦ absurd (let t = none_refused rs u'.0 in let f = k.0 in cc) ]
  updated r carried ks cs y same (singly u is t) =
      let cut = only_cut (judged Passing) u.front u.next u.back u.before in
      let of_it : u.next.command ≡ command = ap (λ (j : Judged). j.command) (sym cut.1) in
      let v = accepted_so u.verdict cs (subst (λ (refs : Refs). Updates refs command u.verdict cs) same (subst (λ (k : Command). Updates r.refs k u.verdict cs) of_it u.update)) in (
        u.after ∙ (ap (λ (front : List Judged). front ++ record { command = u.next.command; verdict = u.verdict } ∷ u.back) cut.0
            ∙ (ap (λ (back : List Judged). record { command = u.next.command; verdict = u.verdict } ∷ back) cut.2
            ∙ ap (λ (j : Judged). j ∷ []) (same_judged u.next.command command u.verdict Accepted of_it v.0))),
        v.1,
      )

  -- the push stands so in its slot
  record InSlot (u : SharedNode) (k : ℕ) (p : OpenPush) : Type 0 where
    slots : Slots
    live : u.live ≡ Some slots
    got : get slots k ≡ Some p

  data Stepped (u : SharedNode) (k : ℕ) (p : OpenPush) (a : Answer) (t : SharedNode) (sends : Option Message) : Type 0 where
    went : (q : OpenPush) (e : Effect) (y : Reply) → StepsPush fmt u.repository p p.stage e q y → Done u.repository e t.repository → InSlot t k q → a ≡ Did y → sends ≡ None → Stepped u k p a t sends
    told : (ts : List Told) → p.stage ≡ Finished → TellsAll p.commands ts → t.repository ≡ u.repository → sends ≡ Some (Report p.fault ts) → Stepped u k p a t sends
    cut : (f : Failure) → a ≡ Fault f → sends ≡ None → Stepped u k p a t sends

  same_push : (o : Option OpenPush) (p q : OpenPush) → o ≡ Some p → o ≡ Some q → p ≡ q
  same_push o p q e f = cc

  steps_so : (u t : SharedNode) (k : ℕ) (p : OpenPush) (a : Answer) (sends : Option Message) → InSlot u k p → SharedAnswers fmt rules u (StepOf k) a t sends → Stepped u k p a t sends
  steps_so u t k p a sends h x = elim (shared_came fmt rules u t (StepOf k) a sends h.slots tt h.live x) [
    | not_done r why ↦ absurd (let none = why.1 in let some = h.got in cc)
    | done deed is did left answer sends_is ↦
        let same : is.0 ≡ p = same_push (get h.slots k) is.0 p is.1 h.got in
        elim (is.2) [
          | inl w ↦ went w.0 deed.effect deed.reply (subst (λ (p : OpenPush). StepsPush fmt u.repository p p.stage deed.effect w.0 deed.reply) same w.1) did
              (record { slots = insert h.slots k w.0; live = left ∙ ap Some w.2; got = insert_same nat_cmp_total nat_cmp-IsAntisymmetric h.slots k w.0 }) answer (sends_is ∙ w.3)
          | inr w ↦ told w.0 (ap (λ (p : OpenPush). p.stage) (sym same) ∙ w.1) (subst (λ (p : OpenPush). TellsAll p.commands w.0) same w.2)
              (nothing_done u.repository t.repository (subst (λ (x : Deed Slots). Done u.repository x.effect t.repository) w.3 did))
              (sends_is ∙ (ap (λ (x : Deed Slots). x.sends) w.3 ∙ ap (λ (p : OpenPush). Some (Report p.fault w.0)) same))
        ]
    | stopped f is none off how ↦ cut f is none
  ]

  abbrev ok_report : Message
  ok_report = Report None (record { name = branch b; outcome = Ok new } ∷ [])

  -- the report says ok and the branch is set; or a fault
  abbrev Out : Answer → SharedNode → Option Message → Type 0
  Out a t sends = ((f : Failure) × (a ≡ Fault f) × (sends ≡ None)) ⊎ ((sends ≡ Some ok_report) × (get t.repository.refs (branch b) ≡ Some new))

  did_fault : (y : Reply) (f : Failure) → Did y ≡ Fault f → ⊥
  did_fault y f e = absurd (cc)

  undone_did : (a : Answer) (y : Reply) → a ≡ Did y → IsUndone a → ⊥
  undone_did a y e i = subst IsUndone e i

  -- a step of a push that is not finished goes on
  on : (u t : SharedNode) (k : ℕ) (p : OpenPush) (a : Answer) (sends : Option Message) → InSlot u k p → p.stage ≢ Finished
      → ((v : SharedNode) (q : OpenPush) (e : Effect) (y : Reply) → StepsPush fmt u.repository p p.stage e q y → Done u.repository e v.repository → InSlot v k q → Steps fmt rules k v a t sends → Out a t sends)
      → Steps fmt rules k u a t sends → Out a t sends
  on u t k p a sends h not next (sent w x) = elim (steps_so u t k p a (Some w) h x) [
    | went q e y is did now answer none ↦ absurd (none_sent w (Some w) refl none)
    | told ts over tells same told_is ↦ absurd (not over)
    | cut f is none ↦ absurd (none_sent w (Some w) refl none)
  ]
  on u t k p a sends h not next (undone x i) = elim (steps_so u t k p a None h x) [
    | went q e y is did now answer none ↦ absurd (undone_did a y answer i)
    | told ts over tells same told_is ↦ absurd (not over)
    | cut f is none ↦ inl (f, is, none)
  ]
  on u t k p a sends h not next (further {u = v} z x rest) = elim (steps_so u v k p (Did z) None h x) [
    | went q e y is did now answer none ↦ next v q e y is did now rest
    | told ts over tells same told_is ↦ absurd (not over)
    | cut f is none ↦ absurd (did_fault z f is)
  ]

  accepted_told : (ts : List Told) → TellsAll (judged Accepted ∷ []) ts → ts ≡ record { name = branch b; outcome = Ok new } ∷ []
  accepted_told [] h = absurd h
  accepted_told (x ∷ y ∷ ts) h = absurd h.1
  accepted_told (x ∷ []) h = elim (h.0.1) [
    | inl k ↦ ap (λ (x : Told). x ∷ []) (same_told x.name (branch b) x.outcome (Ok new) h.0.0 k.1)
    | inr k ↦ absurd (let e = k.1 in cc)
  ]

  over_out : (u t : SharedNode) (k : ℕ) (carried : Objects) (a : Answer) (sends : Option Message) → InSlot u k (push_at carried Accepted Finished) → get u.repository.refs (branch b) ≡ Some new → Steps fmt rules k u a t sends → Out a t sends
  over_out u t k carried a sends h set (sent w x) = elim (steps_so u t k (push_at carried Accepted Finished) a (Some w) h x) [
    | went q e y is did now answer none ↦ absurd is
    | told ts over tells same told_is ↦ inr (told_is ∙ ap (λ (ts : List Told). Some (Report None ts)) (accepted_told ts tells), ap (λ (r : Repository). get r.refs (branch b)) same ∙ set)
    | cut f is none ↦ absurd (none_sent w (Some w) refl none)
  ]
  over_out u t k carried a sends h set (undone x i) = elim (steps_so u t k (push_at carried Accepted Finished) a None h x) [
    | went q e y is did now answer none ↦ absurd is
    | told ts over tells same told_is ↦ absurd (none_sent (Report None ts) None told_is refl)
    | cut f is none ↦ inl (f, is, none)
  ]
  over_out u t k carried a sends h set (further {u = v} z x rest) = elim (steps_so u v k (push_at carried Accepted Finished) (Did z) None h x) [
    | went q e y is did now answer none ↦ absurd is
    | told ts over tells same told_is ↦ absurd (none_sent (Report None ts) None told_is refl)
    | cut f is none ↦ absurd (did_fault z f is)
  ]

  migrated_out : (u t : SharedNode) (k : ℕ) (carried : Objects) (a : Answer) (sends : Option Message) → InSlot u k (push_at carried Passing Migrated) → u.repository.refs ≡ s.refs → Steps fmt rules k u a t sends → Out a t sends
  migrated_out u t k carried a sends h same steps = on u t k (push_at carried Passing Migrated) a sends h (λ e. absurd (cc)) (λ v q e y is did now rest.
      let w = updated u.repository carried is.0 is.1 y same is.2 in
      let q_is : q ≡ push_at carried Accepted Finished = is.4 ∙ ap (λ (ks : List Judged). record (push_at carried Passing Migrated) { commands = ks; stage = stage_while ks Migrated }) w.0 in
      let did' = subst (λ (e : Effect). Done u.repository e v.repository) (is.3 ∙ ap only_changes w.1) did in
      over_out v t k carried a sends (subst (InSlot v k) q_is now)
      (ap (λ (r : Repository). get r.refs (branch b)) did'.2 ∙ insert_same nat_list_cmp_total bytes_same u.repository.refs (branch b) new) rest) steps

  checked_out : (u t : SharedNode) (k : ℕ) (carried : Objects) (a : Answer) (sends : Option Message) → InSlot u k (push_at carried Passing Checked) → u.repository.refs ≡ s.refs → Steps fmt rules k u a t sends → Out a t sends
  checked_out u t k carried a sends h same steps = on u t k (push_at carried Passing Checked) a sends h (λ e. absurd (cc)) (λ v q e y is did now rest.
      let did' = subst (λ (e : Effect). Done u.repository e v.repository) is.0 did in
      migrated_out v t k carried a sends (subst (InSlot v k) is.1 now) (ap (λ (r : Repository). r.refs) did'.2 ∙ same) rest) steps

  unpacked_out : (u t : SharedNode) (k : ℕ) (carried : Objects) (a : Answer) (sends : Option Message) → Carries carried → InSlot u k (push_at carried Passing Unpacked) → u.repository ≡ s → Steps fmt rules k u a t sends → Out a t sends
  unpacked_out u t k carried a sends brings h same steps = on u t k (push_at carried Passing Unpacked) a sends h (λ e. absurd (cc)) (λ v q e y is did now rest.
      let checked : is.0 ≡ judged Passing ∷ [] = checked_all carried brings atomic is.0
      (subst (λ (r : Repository). ChecksPush fmt (over r.objects carried) atomic (judged Passing ∷ []) is.0) same is.1) in
      let q_is : q ≡ push_at carried Passing Checked = is.3 ∙ ap (λ (ks : List Judged). record (push_at carried Passing Unpacked) { commands = ks; stage = stage_while ks Checked }) checked in
      let did' = subst (λ (e : Effect). Done u.repository e v.repository) is.2 did in
      checked_out v t k carried a sends (subst (InSlot v k) q_is now) (ap (λ (r : Repository). r.refs) (nothing_done u.repository v.repository did' ∙ same)) rest) steps

  -- the push is opened, or there is a fault
  opens_so : (t : SharedNode) (carried : Objects) (a : Answer) (sends : Option Message) (slots : Slots) → n.live ≡ Some slots → SharedAnswers fmt rules n (Accept (Push atomic None (command ∷ []) carried)) a t sends
      → ((f : Failure) × (a ≡ Fault f)) ⊎ ((k : ℕ) × (a ≡ Did (Opened k)) × InSlot t k (push_at carried Passing Unpacked) × (t.repository ≡ s))
  opens_so t carried a sends slots up x = elim (shared_came fmt rules n t (Accept (Push atomic None (command ∷ []) carried)) a sends slots tt up x) [
    | not_done r why ↦ let k = may.slot slots up in absurd (why.1 k.0 k.1 k.2)
    | done deed is did left answer sends_is ↦ inr (
      is.0,
      answer ∙ ap (λ (x : Deed Slots). Did x.reply) is.2,
      record {
        slots = insert slots is.0 (push_at carried Passing Unpacked);
        live = left ∙ ap (λ (x : Deed Slots). Some x.left) is.2;
        got = insert_same nat_cmp_total nat_cmp-IsAntisymmetric slots is.0 (push_at carried Passing Unpacked);
      },
      nothing_done s t.repository (subst (λ (x : Deed Slots). Done s x.effect t.repository) is.2 did),
    )
    | stopped f is none off how ↦ inl (f, is)
  ]

  -- ---- the report comes

  moves_so : (get c.refs (tracking b) ≡ Some new) ⊎ MovesBranch fmt (stored c.objects) c.refs (branch b) new (tracking b)
  moves_so = go (get c.refs (tracking b)) refl
    where
      moves : ((get c.refs (tracking b) ≡ None) ⊎ ((u : Id) × (get c.refs (tracking b) ≡ Some u) × (u ≢ new) × IsAncestor fmt (stored c.objects) u new)) → MovesBranch fmt (stored c.objects) c.refs (branch b) new (tracking b)
      moves forward = record {
        name = b;
        branch_is = refl;
        tracking_is = refl;
        legal = may.legal;
        fits = can b may.legal;
        free = tracking_free fmt s ready.shared.good.sound c.refs b (sound_follows fmt s ready.shared.good.sound c ready.clone.sound ready.behind) may.free;
        good = may.good;
        forward = forward;
      }

      go : (o : Option Id) → get c.refs (tracking b) ≡ o → (get c.refs (tracking b) ≡ Some new) ⊎ MovesBranch fmt (stored c.objects) c.refs (branch b) new (tracking b)
      go None e = inr (moves (inl e))
      go (Some u) e = elim (same_key nat_list_cmp_total bytes_same u new) [
        | inl is ↦ inl (e ∙ ap Some is)
        | inr not ↦ inr (moves (inr (u, e, not, may.forward u e)))
      ]

  moved_so : (cs : List Change) (k : Objects) → Moves (MovesBranch fmt (stored c.objects)) c.refs ((branch b, new) ∷ []) cs → get (changed_all cs (with_objects c k)).refs (tracking b) ≡ Some new
  moved_so cs k (inl h) =
      let name : tracking b ≡ h.0 = ap tracking (branch_same b h.2.name h.2.branch_is) ∙ sym h.2.tracking_is in
      subst (λ (cs : List Change). get (changed_all cs (with_objects c k)).refs (tracking b) ≡ Some new) (sym (h.3 ∙ ap (λ (more : List Change). SetRefs ((h.0, new) ∷ []) ∷ more) h.4))
      (ap (get (insert c.refs h.0 new)) name ∙ insert_same nat_list_cmp_total bytes_same c.refs h.0 new)
  moved_so cs k (inr h) = elim moves_so [
    | inl is ↦ subst (λ (cs : List Change). get (changed_all cs (with_objects c k)).refs (tracking b) ≡ Some new) (sym h.1) is
    | inr is ↦ absurd (h.0 (tracking b, is))
  ]

  never_refused : (w : Awaited) (r : ℕ) → ReceivesNot fmt c w ok_report r → ⊥
  never_refused Nothing r h = h
  never_refused AnAdvert r h = h
  never_refused (APack wants refs) r h = h

  hears_report : (e d : CloneNode) (a : Answer) (sends : Option Message) (w : Awaited) → e.live ≡ Some w → e.repository ≡ c → CloneAnswers fmt rules e (Receive ok_report) a d sends
      → ((f : Failure) × (a ≡ Fault f)) ⊎ ((moved : ℕ) × (a ≡ Did (Reported moved [])) × (get d.repository.refs (tracking b) ≡ Some new))
  hears_report e d a sends w up same x = elim (clone_came fmt rules e d (Receive ok_report) a sends w tt up x) [
    | not_done r why ↦ absurd (never_refused w r (subst (λ (q : Repository). ReceivesNot fmt q w ok_report r) same why))
    | done deed is did left answer sends_is ↦
        let did' = subst (λ (x : Deed Awaited). Done e.repository x.effect d.repository) is.2 did in inr (
          Rattle.std.specs.Prelude.length is.0,
          answer ∙ ap (λ (x : Deed Awaited). Did x.reply) is.2,
          ap (λ (r : Repository). get r.refs (tracking b)) (did'.2 ∙ ap (λ (r : Repository). changed_all is.0 (with_objects r did'.0)) same)
              ∙ moved_so is.0 did'.0 (subst (λ (r : Repository). Moves (MovesBranch fmt (stored r.objects)) r.refs ((branch b, new) ∷ []) is.0) same is.1),
        )
    | stopped f is none off how ↦ inl (f, is)
  ]

  -- ---- a whole push

  opened_same : (k l : ℕ) → Did (Opened k) ≡ Did (Opened l) → k ≡ l
  opened_same k l e = cc

  -- the steps of the push that the clone sent
  stepped_out : (d : CloneNode) (u t : SharedNode) (push : Message) (slot : ℕ) (a : Answer) (sends : Option Message) → m.live ≢ None → n.live ≢ None → CloneSends fmt rules m (Orders (StartPush atomic (one_item b new))) d push
      → SharedAnswers fmt rules n (Accept push) (Did (Opened slot)) u None → Steps fmt rules slot u a t sends → (d.repository ≡ c) × (d.live ≢ None) × Out a t sends
  stepped_out d u t push slot a sends up shared_up begun accepted steps =
      let w = up_is m.live up in
      let v = up_is n.live shared_up in
      elim (begins d begun.0 (Some push) w.0 w.1 begun.1) [
        | inl k ↦ elim (opens_so u k.0 (Did (Opened slot)) None v.0 v.1 (subst (λ (q : Message). SharedAnswers fmt rules n (Accept q) (Did (Opened slot)) u None) (same_Some push (Push atomic None (command ∷ []) k.0) k.2) accepted)) [
          | inl f ↦ absurd (did_fault (Opened slot) f.0 f.1)
          | inr q ↦ (k.3, is_up d.live w.0 k.4, unpacked_out u t slot k.0 a sends k.1 (subst (λ (j : ℕ). InSlot u j (push_at k.0 Passing Unpacked)) (sym (opened_same slot q.0 q.1)) q.2) q.3 steps)
        ]
        | inr f ↦ absurd (none_sent push (Some push) refl f.2)
      ]

  pub push_ends : (t : SharedNode) (d : CloneNode) (a : Answer) (report : Option Message) → AreUp n m → PushRun fmt rules atomic (one_item b new) n m a t d report → PushEnds b new a t d report
  push_ends t d a report up (unsent x is none) =
      let w = up_is m.live up.1 in
      elim (begins d a None w.0 w.1 x) [
        | inl k ↦ absurd (none_sent (Push atomic None (command ∷ []) k.0) None k.2 refl)
        | inr f ↦ failed f.0 f.1
      ]
  push_ends t d a report up (unopened push sends begun x none quiet) =
      let w = up_is m.live up.1 in
      let v = up_is n.live up.0 in
      elim (begins d begun.0 (Some push) w.0 w.1 begun.1) [
        | inl k ↦ elim (opens_so t k.0 a sends v.0 v.1 (subst (λ (q : Message). SharedAnswers fmt rules n (Accept q) a t sends) (same_Some push (Push atomic None (command ∷ []) k.0) k.2) x)) [
          | inl f ↦ failed f.0 f.1
          | inr q ↦ absurd (subst OpensNone q.1 none)
        ]
        | inr f ↦ absurd (none_sent push (Some push) refl f.2)
      ]
  push_ends t d a report up (unreported u push slot begun accepted steps none) = elim ((stepped_out d u t push slot a None up.1 up.0 begun accepted steps).2) [
    | inl f ↦ failed f.0 f.1
    | inr k ↦ absurd (none_sent ok_report None k.0 refl)
  ]
  push_ends t d a report up (reported e u push heard slot step sends begun accepted steps x is) =
      let r = stepped_out e u t push slot step (Some heard) up.1 up.0 begun accepted steps in
      let w = up_is e.live r.1 in
      elim (r.2) [
        | inl f ↦ absurd (none_sent heard (Some heard) refl f.2)
        | inr k ↦
            let same : heard ≡ ok_report = same_Some heard ok_report k.0 in
            elim (hears_report e d a sends w.0 w.1 r.0 (subst (λ (q : Message). CloneAnswers fmt rules e (Receive q) a d sends) same x)) [
              | inl f ↦ failed f.0 f.1
              | inr q ↦ pushed q.0 q.1 (is ∙ ap Some same) k.1 q.2
            ]
      ]

pub push_succeeds : PushSucceeds
push_succeeds fmt tests atomic s t c d a report b new can ready up may run = push_ends fmt (rules_by fmt tests) can atomic b new s c ready may t d a report up run
