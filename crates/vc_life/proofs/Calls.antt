-- One call of the shared node: what it stores was there or came, and what was there stays.
use Rattle.std.proofs.Common.{◌≡◌, ◌⊎◌, ℕ, List, Bool, Option, Some, None, inl, inr, sym, ap, ◌∙◌, subst, nat_cmp, take}
use Rattle.std.specs.FinMap.{empty, get, insert, nat_cmp-IsAntisymmetric}
use Rattle.std.specs.Cmp.{nat_cmp_total}
use Rattle.std.specs.Cmp.Lexicographic.{slice_cmp}
use Rattle.vc_model.specs.Desk.{IsAt, IsBrought}
use Rattle.vc_model.specs.Desk.IsAt.{in_push, in_store}
use Rattle.vc_model.specs.Exact.{shared_event}
use Rattle.vc_model.specs.Message.{HasObject, Message}
use Rattle.vc_model.specs.Message.Message.{Advert, Error, ListRefs, Pack, Push, Report, Want}
use Rattle.vc_model.specs.Node.{Answer, Deed, Ends, Reply}
use Rattle.vc_model.specs.Node.Answer.{Declined, Did, Fault}
use Rattle.vc_model.specs.Object.{Format, Id, Object, Objects}
use Rattle.vc_model.specs.Push.{Command, OpenPush, Slots, Stage}
use Rattle.vc_model.specs.Push.Stage.{Checked, Finished, Migrated, Unpacked}
use Rattle.vc_model.specs.Repository.{AllAdded, Done, Effect, PartlyPruned, Repository, SomeAdded, StopsWithin, no_effect, with_objects}
use Rattle.vc_model.specs.Rules.{Rules}
use Rattle.vc_model.specs.Shared.{IsNeeded, Serves, SharedEvent, SharedNode, StepsPush, StepsSlot, opened}
use Rattle.vc_model.specs.Shared.SharedEvent.{Arrives, StepSlot}
use Rattle.vc_model.specs.SharedCall.{SharedAnswers, SharedCall, SharedObeys}
use Rattle.vc_model.specs.SharedCall.SharedAnswers.{asked, down, faulted, obeyed, opened as restarted, pruned, refused}
use Rattle.vc_model.specs.SharedCall.SharedCall.{Accept, Asks, Open, Prune, StepOf}
use Rattle.vc_model.proofs.Kept.{PruneOk, RestartOk, prune_ok, restart_ok}
use Rattle.vc_model.proofs.Maps.{insert_cases, none_in_empty, remove_cases}
use Rattle.vc_model.proofs.Runs.{found_over}
use Rattle.vc_model.proofs.Sound.{changed_all-objects, over_extends}

in_empty : (x : Id) (o : Object) → get (empty {X = Object} {R = slice_cmp nat_cmp}) x ≡ Some o → ⊥
in_empty x o g = none_in_empty (slice_cmp nat_cmp) x o g

no_slots : (l : Option Slots) (w : Slots) → l ≡ None → l ≡ Some w → ⊥
no_slots l w e f = absurd (let g = sym e ∙ f in cc)

-- an open push of these carries the object
record IsCarried (slots : Slots) (o : Object) : Type 0 where
  slot : ℕ
  push : OpenPush
  is_open : get slots slot ≡ Some push
  carries : HasObject push.carried o

-- What a deed stores, and what its pushes carry, was carried or comes.
record Carrying (slots : Slots) (e : SharedEvent) (d : Deed Slots) : Type 0 where
  added : (x : Id) (o : Object) → get d.effect.objects x ≡ Some o → IsCarried slots o
  left : (o : Object) → IsCarried d.left o → IsCarried slots o ⊎ IsBrought e o

-- ---- a message

quiet : (slots : Slots) (e : SharedEvent) (sends : Option Message) (y : Reply) → Carrying slots e (record { effect = no_effect; left = slots; sends = sends; reply = y })
quiet slots e sends y = record { added = λ x o g. absurd (in_empty x o g); left = λ o c. inl c }

opened_carries : (atomic : Bool) (fault : Option ℕ) (cs : List Command) (objects : Objects) (o : Object) → HasObject (opened atomic fault cs objects).carried o → HasObject objects o
opened_carries atomic None cs objects o h = h
opened_carries atomic (Some n) cs objects o h = absurd (in_empty h.0 o h.1)

opens : (slots : Slots) (s : ℕ) (atomic : Bool) (fault : Option ℕ) (cs : List Command) (objects : Objects) (y : Reply)
    → Carrying slots (Arrives (Push atomic fault cs objects)) (record { effect = no_effect; left = insert slots s (opened atomic fault cs objects); sends = None; reply = y })
opens slots s atomic fault cs objects y = record {
  added = λ x o g. absurd (in_empty x o g);
  left = λ o c. elim (insert_cases nat_cmp_total nat_cmp-IsAntisymmetric slots s (opened atomic fault cs objects) c.slot c.push c.is_open) [
    | inl same ↦ inr (opened_carries atomic fault cs objects o (subst (λ (p : OpenPush). HasObject p.carried o) same.1 c.carries))
    | inr was ↦ inl (record { slot = c.slot; push = c.push; is_open = was; carries = c.carries })
  ];
}

serving : (fmt : Format) (r : Repository) (slots : Slots) (m : Message) (d : Deed Slots) → Serves fmt r slots m d → Carrying slots (Arrives m) d
serving fmt r slots ListRefs d is = subst (Carrying slots (Arrives ListRefs)) (sym is) (quiet slots (Arrives ListRefs) _ _)
serving fmt r slots (Want wants haves) d is = subst (Carrying slots (Arrives (Want wants haves))) (sym is.1.4) (quiet slots (Arrives (Want wants haves)) _ _)
serving fmt r slots (Push atomic fault cs objects) d is = subst (Carrying slots (Arrives (Push atomic fault cs objects))) (sym is.2) (opens slots is.0 atomic fault cs objects _)
serving fmt r slots (Advert head refs) d is = absurd is
serving fmt r slots (Pack ack s) d is = absurd is
serving fmt r slots (Report fault ts) d is = absurd is
serving fmt r slots (Error text) d is = absurd is

-- ---- a step

-- it adds what is carried or nothing, and what is carried stays
record Adds (p q : OpenPush) (e : Effect) : Type 0 where
  added : (x : Id) (o : Object) → get e.objects x ≡ Some o → get p.carried x ≡ Some o
  carried : q.carried ≡ p.carried

adds : (fmt : Format) (r : Repository) (p q : OpenPush) (stage : Stage) (e : Effect) (y : Reply) → StepsPush fmt r p stage e q y → Adds p q e
adds fmt r p q Unpacked e y is = record {
  added = λ x o g. absurd (in_empty x o (ap (λ (e : Effect). get e.objects x) (sym is.2) ∙ g));
  carried = ap (λ (q : OpenPush). q.carried) is.3;
}
adds fmt r p q Checked e y is = record { added = λ x o g. ap (λ (e : Effect). get e.objects x) (sym is.0) ∙ g; carried = ap (λ (q : OpenPush). q.carried) is.1 }
adds fmt r p q Migrated e y is = record {
  added = λ x o g. absurd (in_empty x o (ap (λ (e : Effect). get e.objects x) (sym is.3) ∙ g));
  carried = ap (λ (q : OpenPush). q.carried) is.4;
}
adds fmt r p q Finished e y is = absurd is

stepping : (fmt : Format) (r : Repository) (slots : Slots) (s : ℕ) (d : Deed Slots) → StepsSlot fmt r slots s d → Carrying slots (StepSlot s) d
stepping fmt r slots s d is = elim (is.2) [
  | inl w ↦
      let a : Adds is.0 w.0 d.effect = adds fmt r is.0 w.0 is.0.stage d.effect d.reply w.1 in
      record {
        added = λ x o g. record { slot = s; push = is.0; is_open = is.1; carries = (x, a.added x o g) };
        left = λ o c. elim (insert_cases nat_cmp_total nat_cmp-IsAntisymmetric slots s w.0 c.slot c.push (ap (λ (l : Slots). get l c.slot) (sym w.2) ∙ c.is_open)) [
          | inl same ↦ inl (record {
            slot = s;
            push = is.0;
            is_open = is.1;
            carries = subst (λ (k : Objects). HasObject k o) a.carried (subst (λ (p : OpenPush). HasObject p.carried o) same.1 c.carries);
          })
          | inr was ↦ inl (record { slot = c.slot; push = c.push; is_open = was; carries = c.carries })
        ];
      }
  | inr w ↦ subst (Carrying slots (StepSlot s)) (sym w.3) (record {
    added = λ x o g. absurd (in_empty x o g);
    left = λ o c. inl (record { slot = c.slot; push = c.push; is_open = (remove_cases nat_cmp_total nat_cmp-IsAntisymmetric slots s c.slot c.push c.is_open).1; carries = c.carries });
  })
]

obeying : (fmt : Format) (r : Repository) (slots : Slots) (e : SharedCall) (d : Deed Slots) → SharedObeys fmt r slots e d → Carrying slots (shared_event e) d
obeying fmt r slots (Accept m) d is = serving fmt r slots m d is
obeying fmt r slots (StepOf s) d is = stepping fmt r slots s d is
obeying fmt r slots (Asks q) d is = absurd is
obeying fmt r slots Prune d is = absurd is
obeying fmt r slots Open d is = absurd is

-- ---- how it ends

-- what is stored then was stored, or is of the effect
record Leaves (old new : Repository) (e : Effect) : Type 0 where
  found : (x : Id) (o : Object) → get new.objects x ≡ Some o → (get old.objects x ≡ Some o) ⊎ (get e.objects x ≡ Some o)
  stays : (x : Id) (o : Object) → get old.objects x ≡ Some o → get new.objects x ≡ Some o

some_leaves : (old new : Repository) (e : Effect) (s : Objects) → SomeAdded old.objects e.objects s → new.objects ≡ s → Leaves old new e
some_leaves old new e s a same = record {
  found = λ x o g. elim (a.each x) [
    | inl was ↦ inl (sym was ∙ (ap (λ (k : Objects). get k x) (sym same) ∙ g))
    | inr is ↦ found_over old.objects e.objects x o (sym is ∙ (ap (λ (k : Objects). get k x) (sym same) ∙ g))
  ];
  stays = λ x o g. ap (λ (k : Objects). get k x) same ∙ (elim (a.each x) [ inl was ↦ was ∙ g | inr is ↦ is ∙ (over_extends old.objects e.objects).each x o g ]);
}

all_leaves : (old new : Repository) (e : Effect) (s : Objects) → AllAdded old.objects e.objects s → new.objects ≡ s → Leaves old new e
all_leaves old new e s a same = some_leaves old new e s (record { each = λ x. inr (a.each x) }) same

done_leaves : (old new : Repository) (e : Effect) → Done old e new → Leaves old new e
done_leaves old new e d = all_leaves old new e d.0 d.1 (ap (λ (r : Repository). r.objects) d.2 ∙ changed_all-objects e.changes (with_objects old d.0))

cut_leaves : (old new : Repository) (e : Effect) → StopsWithin old e new → Leaves old new e
cut_leaves old new e (inl d) = some_leaves old new e d.0 d.1 (ap (λ (r : Repository). r.objects) d.2)
cut_leaves old new e (inr d) = all_leaves old new e d.0 d.2 (ap (λ (r : Repository). r.objects) d.3 ∙ changed_all-objects (take d.1 e.changes) (with_objects old d.0))

-- what a deed leaves of a node
record Left (old new : SharedNode) (d : Deed Slots) : Type 0 where
  store : Leaves old.repository new.repository d.effect
  live : (w : Slots) → new.live ≡ Some w → d.left ≡ w

some_is : (l : Option Slots) (v w : Slots) → l ≡ Some v → l ≡ Some w → v ≡ w
some_is l v w e f = cc

ends_left : (a : Answer) (old new : SharedNode) (d : Deed Slots) → Ends a old d new → Left old new d
ends_left (Did y) old new d ends = record { store = done_leaves old.repository new.repository d.effect ends.0; live = λ w up. some_is new.live d.left w ends.1 up }
ends_left (Fault f) old new d ends = record { store = cut_leaves old.repository new.repository d.effect ends.0; live = λ w up. absurd (no_slots new.live w ends.1 up) }
ends_left (Declined n) old new d ends = absurd ends

-- ---- the call

at_carried : (n : SharedNode) (slots : Slots) (o : Object) → n.live ≡ Some slots → IsCarried slots o → IsAt n o
at_carried n slots o up c = in_push slots c.slot c.push up c.is_open c.carries

-- What is at the node then was there, or came.
pub record FromBefore (old new : SharedNode) (e : SharedEvent) : Type 0 where
  pub each : (o : Object) → IsAt new o → IsAt old o ⊎ IsBrought e o

obeyed_before : (old new : SharedNode) (slots : Slots) (e : SharedEvent) (d : Deed Slots) → old.live ≡ Some slots → Carrying slots e d → Left old new d → FromBefore old new e
obeyed_before old new slots e d up c l = record { each = before }
  where
    was : (o : Object) → IsCarried slots o ⊎ IsBrought e o → IsAt old o ⊎ IsBrought e o
    was o (inl h) = inl (at_carried old slots o up h)
    was o (inr h) = inr h

    before : (o : Object) → IsAt new o → IsAt old o ⊎ IsBrought e o
    before o (in_store has) = elim (l.store.found has.0 o has.1) [ inl h ↦ inl (in_store (has.0, h)) | inr h ↦ inl (at_carried old slots o up (c.added has.0 o h)) ]
    before o (in_push w s p live got has) = was o (c.left o (record { slot = s; push = p; is_open = ap (λ (l : Slots). get l s) (l.live w live) ∙ got; carries = has }))

same_before : (old new : SharedNode) (e : SharedEvent) → new ≡ old → FromBefore old new e
same_before old new e same = record { each = λ o at. inl (subst (λ (n : SharedNode). IsAt n o) same at) }

-- nothing more is stored, and the pushes are open that were, or none
less_before : (old new : SharedNode) (e : SharedEvent) → ((x : Id) (o : Object) → get new.repository.objects x ≡ Some o → get old.repository.objects x ≡ Some o)
    → ((w : Slots) (s : ℕ) (p : OpenPush) → new.live ≡ Some w → get w s ≡ Some p → old.live ≡ Some w) → FromBefore old new e
less_before old new e store live = record { each = before }
  where
    before : (o : Object) → IsAt new o → IsAt old o ⊎ IsBrought e o
    before o (in_store has) = inl (in_store (has.0, store has.0 o has.1))
    before o (in_push w s p up got has) = inl (in_push w s p (live w s p up got) got has)

pruned_less : (needed : Id → Type 0) (old new : Repository) → PartlyPruned needed old.objects new.objects → (x : Id) (o : Object) → get new.objects x ≡ Some o → get old.objects x ≡ Some o
pruned_less needed old new p x o g = elim (p x) [ inl same ↦ sym same ∙ g | inr gone ↦ absurd (let n : get new.objects x ≡ None = gone.1 in cc) ]

abbrev pub IsNoPrune : SharedCall → Type 0
IsNoPrune Prune = ⊥
IsNoPrune _ = Unit {0}

module _ (fmt : Format) (rules : Rules fmt) where
  pub answer_from : (old new : SharedNode) (e : SharedCall) (a : Answer) (sends : Option Message) → SharedAnswers fmt rules old e a new sends → FromBefore old new (shared_event e)
  answer_from old new e a sends (down off other is same none) = same_before old new (shared_event e) same
  answer_from old new e a sends (asked w q up is tells same none) = same_before old new (shared_event e) same
  answer_from old new e a sends (refused w n up why is same none) = same_before old new (shared_event e) same
  answer_from old new e a sends (obeyed w d up does ends sent) = obeyed_before old new w (shared_event e) d up (obeying fmt old.repository w e d does) (ends_left a old new d ends)
  answer_from old new e a sends (pruned w up is ends none) =
      let ok : PruneOk (IsNeeded fmt old.repository w) old new = prune_ok a (IsNeeded fmt old.repository w) old new ends in
      less_before old new (shared_event e) (pruned_less (IsNeeded fmt old.repository w) old.repository new.repository ok.partly) (λ v s p live got. ok.live v live)
  answer_from old new e a sends (restarted is ends none) =
      let ok : RestartOk old empty new = restart_ok a old empty new ends in
      less_before old new (shared_event e) (λ x o g. ap (λ (r : Repository). get r.objects x) (sym ok.same) ∙ g)
      (λ v s p live got. absurd (none_in_empty nat_cmp s p (ap (λ (l : Slots). get l s) (ok.live v live) ∙ got)))
  answer_from old new e a sends (faulted w f up other is same none) =
      less_before old new (shared_event e) (λ x o g. ap (λ (n : SharedNode). get n.repository.objects x) (sym same) ∙ g)
      (λ v s p live got. absurd (no_slots new.live v (ap (λ (n : SharedNode). n.live) same) live))

  -- ---- what stays

  same_stays : (old new : Repository) → new ≡ old → (x : Id) (o : Object) → get old.objects x ≡ Some o → get new.objects x ≡ Some o
  same_stays old new same x o g = ap (λ (r : Repository). get r.objects x) same ∙ g

  pub answer_keeps : (old new : SharedNode) (e : SharedCall) (a : Answer) (sends : Option Message) → IsNoPrune e → SharedAnswers fmt rules old e a new sends
      → (x : Id) (o : Object) → get old.repository.objects x ≡ Some o → get new.repository.objects x ≡ Some o
  answer_keeps old new e a sends plain (down off other is same none) = same_stays old.repository new.repository (ap (λ (n : SharedNode). n.repository) same)
  answer_keeps old new e a sends plain (asked w q up is tells same none) = same_stays old.repository new.repository (ap (λ (n : SharedNode). n.repository) same)
  answer_keeps old new e a sends plain (refused w n up why is same none) = same_stays old.repository new.repository (ap (λ (n : SharedNode). n.repository) same)
  answer_keeps old new e a sends plain (obeyed w d up does ends sent) = (ends_left a old new d ends).store.stays
  answer_keeps old new e a sends plain (pruned w up is ends none) = absurd (subst IsNoPrune is plain)
  answer_keeps old new e a sends plain (restarted is ends none) = same_stays old.repository new.repository (restart_ok a old empty new ends).same
  answer_keeps old new e a sends plain (faulted w f up other is same none) = same_stays old.repository new.repository (ap (λ (n : SharedNode). n.repository) same)
