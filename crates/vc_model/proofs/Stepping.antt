-- What the shared node does keeps its open pushes right and its branches going forward.
use Rattle.std.proofs.Common.{◌≡◌, ℕ, zero, suc, Bool, true, false, List, [], ◌∷◌, Option, Some, None, inl, inr, refl, sym, ap, ◌∙◌, subst, nat_cmp, take, if◌then◌else◌}
use Rattle.std.specs.FinMap.{empty, get, get-empty, insert, nat_cmp-IsAntisymmetric}
use Rattle.std.specs.Cmp.{nat_cmp_total}
use Rattle.std.specs.Option.{option_or}
use Rattle.std.specs.List.{AllByRecursion, list_any}
use Rattle.std.specs.Cmp.Lexicographic.{nat_list_cmp_total, slice_cmp}
use Rattle.vc_model.specs.Object.{Id, Object, Format, Objects, IsNamed, stored, over}
use Rattle.vc_model.specs.Reach.{IsAncestor}
use Rattle.vc_model.specs.Refs.{RefName, Refs, with_refs}
use Rattle.vc_model.specs.Repository.{Repository, Change, changed_all, with_objects, Effect, no_effect, only_changes, IsSharedName, IsSound, IsBare, AllAdded, Done, StopsWithin}
use Rattle.vc_model.specs.Repository.Change.{SetRefs}
use Rattle.vc_model.specs.Push.{Command, Judged, Stage, OpenPush, Slots, is_passing, stage_while}
use Rattle.vc_model.specs.Push.Stage.{Unpacked, Checked, Migrated, Finished}
use Rattle.vc_model.specs.Message.{Message, IsNamedMessage}
use Rattle.vc_model.specs.Message.Message.{ListRefs, Advert, Want, Pack, Push, Report, Error}
use Rattle.vc_model.specs.Node.{Deed, Reply}
use Rattle.vc_model.specs.Shared.{Serves, StepsPush, StepsSlot, UpdatesPush, opened}
use Rattle.vc_model.specs.Shared.UpdatesPush.{together, singly}
use Rattle.vc_model.specs.Keeping.{Alone, CommandsOk, PushOk, SlotsOk, StageOk}
use Rattle.vc_model.proofs.Maps.{insert_cases, remove_cases, bytes_same}
use Rattle.vc_model.proofs.Reaching.{Extends}
use Rattle.vc_model.proofs.Sound.{GoodEffect, all_added_is, all_extends}
use Rattle.vc_model.proofs.Clones.{good_only, good_none, named_empty}
use Rattle.vc_model.proofs.Pushes.{push_grows, over_grows, check_push, update_all, update_next, UpdateOk, Descends, descends_same, Forward}
use Rattle.vc_model.proofs.Pushes.Forward.{stays, sets}

pub over_empty : (s : Objects) (x : Id) → over s empty x ≡ get s x
over_empty s x = nothing (get s x)
  where
    nothing : (o : Option Object) → option_or o (get (empty {X = Object} {R = slice_cmp nat_cmp}) x) ≡ o
    nothing None = get-empty (slice_cmp nat_cmp) x
    nothing (Some o) = refl

pub added_empty : (s t : Objects) → AllAdded s empty t → (x : Id) → get t x ≡ get s x
added_empty s t a x = a.each x ∙ over_empty s x

same_extends : (s t c : Objects) → ((x : Id) → get t x ≡ get s x) → Extends (over s c) (over t c)
same_extends s t c e = record { each = λ x o h. ap (λ z. option_or z (get c x)) (e x) ∙ h }

unchanged : (fmt : Format) (anc : Id → Id → Type 0) (s t : Objects) (p : OpenPush) → AllAdded s empty t → PushOk fmt anc s p → PushOk fmt anc t p
unchanged fmt anc s t p a ok = push_grows fmt anc s t p (all_extends s empty t a) (same_extends s t p.carried (added_empty s t a)) ok

while_ok : (fmt : Format) (anc : Id → Id → Type 0) (s : Objects) (p : OpenPush) (x : Stage) (js : List Judged) → (list_any is_passing js ≡ true → StageOk fmt anc s p x) → StageOk fmt anc s p (stage_while js x)
while_ok fmt anc s p x js h = go (list_any is_passing js) h
  where
    go : (b : Bool) → (b ≡ true → StageOk fmt anc s p x) → StageOk fmt anc s p (if b then x else Finished)
    go true h = h refl
    go false h = tt

-- What a step of an open push does, and how the push stands where all that the step adds is there.
pub record StepOk (fmt : Format) (anc : Id → Id → Type 0) (r : Repository) (e : Effect) (q : OpenPush) : Type 0 where
  pub good : GoodEffect fmt r e
  pub forward : Forward fmt anc r.refs e.changes
  pub after : (s : Objects) → AllAdded r.objects e.objects s → PushOk fmt anc s q

-- ---- all slots

-- What an event does at the shared node, and how its open pushes stand where all that it adds is there.
pub record SharedOk (fmt : Format) (anc : Id → Id → Type 0) (r : Repository) (slots : Slots) (d : Deed Slots) : Type 0 where
  pub good : GoodEffect fmt r d.effect
  pub forward : Forward fmt anc r.refs d.effect.changes
  pub after : (s : Objects) → AllAdded r.objects d.effect.objects s → Alone s slots → SlotsOk fmt anc s d.left
  pub sends : (m : Message) → d.sends ≡ Some m → IsNamedMessage fmt m

module _ (fmt : Format) (anc : Id → Id → Type 0) (self : (a : Id) → anc a a) (trans : (a b c : Id) → anc a b → anc b c → anc a c) where
  updated : (r : Repository) (p : OpenPush) (ks : List Judged) (cs : List Change) → IsNamed fmt p.carried → UpdateOk anc self trans fmt (stored r.objects) r.refs p.atomic ks cs
      → StepOk fmt anc r (only_changes cs) (record p { commands = ks; stage = stage_while ks Migrated })
  updated r p ks cs n u = record {
    good = good_only fmt r cs u.good;
    forward = u.forward;
    after = λ s a. unchanged fmt anc r.objects s (record p { commands = ks; stage = stage_while ks Migrated }) a (record {
      carried = n;
      commands = while_ok fmt anc r.objects (record p { commands = ks; stage = stage_while ks Migrated }) Migrated ks u.rest;
    });
  }

  step_push : (r : Repository) (p q : OpenPush) (x : Stage) (e : Effect) (y : Reply) → ((a b : Id) → IsAncestor fmt (over r.objects p.carried) a b → anc a b)
      → IsNamed fmt p.carried → StageOk fmt anc r.objects p x → StepsPush fmt r p x e q y → StepOk fmt anc r e q
  step_push r p q Unpacked e y to n ok h =
      let q' : OpenPush = record p { commands = h.0; stage = stage_while h.0 Checked } in
      subst (λ e. StepOk fmt anc r e q) (sym h.2) (subst (StepOk fmt anc r no_effect) (sym h.3) (record {
        good = good_none fmt r;
        forward = stays refl;
        after = λ s a. unchanged fmt anc r.objects s q' a (record {
          carried = n;
          commands = while_ok fmt anc r.objects q' Checked h.0 (check_push fmt (over r.objects p.carried) anc to p.atomic p.commands h.0 h.1);
        });
      }))
  step_push r p q Checked e y to n ok h =
      subst (λ e. StepOk fmt anc r e q) (sym h.0) (subst (StepOk fmt anc r (record { objects = p.carried; changes = [] })) (sym h.1) (record {
        good = record { named = n; changes = tt };
        forward = stays refl;
        after = λ s a. record { carried = n; commands = subst (λ f. CommandsOk fmt f anc p.atomic p.commands) (sym (all_added_is r.objects p.carried s a)) ok };
      }))
  step_push r p q Migrated e y to n ok h =
      let u : UpdateOk anc self trans fmt (stored r.objects) r.refs p.atomic h.0 h.1
      = elim (h.2) [
        | together rs a u t ↦ subst (λ b. UpdateOk anc self trans fmt (stored r.objects) r.refs b h.0 h.1) (sym a)
            (update_all anc self trans fmt (stored r.objects) r.refs p.commands rs h.0 h.1 (subst (λ b. CommandsOk fmt (stored r.objects) anc b p.commands) a ok) u)
        | singly u a t ↦ subst (λ b. UpdateOk anc self trans fmt (stored r.objects) r.refs b h.0 h.1) (sym a)
            (update_next anc self trans fmt (stored r.objects) r p.commands h.0 h.1 (subst (λ b. CommandsOk fmt (stored r.objects) anc b p.commands) a ok) u)
      ] in
      subst (λ e. StepOk fmt anc r e q) (sym h.3) (subst (StepOk fmt anc r (only_changes h.1)) (sym h.4) (updated r p h.0 h.1 n u))
  step_push r p q Finished e y to n ok h = absurd h

  nothing_added : (s t : Objects) (slots : Slots) → AllAdded s empty t → SlotsOk fmt anc s slots → SlotsOk fmt anc t slots
  nothing_added s t slots a ok k p is = unchanged fmt anc s t p a (ok k p is)

  opened_ok : (s : Objects) (atomic : Bool) (fault : Option ℕ) (cs : List Command) (objects : Objects) → IsNamed fmt objects → PushOk fmt anc s (opened atomic fault cs objects)
  opened_ok s atomic (Some k) cs objects n = record { carried = named_empty fmt; commands = tt }
  opened_ok s atomic None cs objects n = record { carried = n; commands = tt }

  insert_ok : (s : Objects) (slots : Slots) (k : ℕ) (q : OpenPush) → PushOk fmt anc s q → SlotsOk fmt anc s slots → SlotsOk fmt anc s (insert slots k q)
  insert_ok s slots k q ok all j p is = elim (insert_cases nat_cmp_total nat_cmp-IsAntisymmetric slots k q j p is) [
    | inl same ↦ subst (PushOk fmt anc s) (sym same.1) ok
    | inr was ↦ all j p was
  ]

  pub serve_ok : (r : Repository) (slots : Slots) (m : Message) (d : Deed Slots) → IsSound fmt r → SlotsOk fmt anc r.objects slots → IsNamedMessage fmt m → Serves fmt r slots m d → SharedOk fmt anc r slots d
  serve_ok r slots ListRefs d h ok n is = subst (SharedOk fmt anc r slots) (sym is) (record {
    good = good_none fmt r;
    forward = stays refl;
    after = λ s a alone. nothing_added r.objects s slots a ok;
    sends = λ e x. let same : Advert (Rattle.vc_model.specs.Shared.head_value r) r.refs ≡ e = cc in subst (λ e. IsNamedMessage fmt e) same tt;
  })
  serve_ok r slots (Want wants haves) d h ok n is = subst (SharedOk fmt anc r slots) (sym is.1.4) (record {
    good = good_none fmt r;
    forward = stays refl;
    after = λ s a alone. nothing_added r.objects s slots a ok;
    sends = λ e x. let same : Pack is.1.0 is.1.1 ≡ e = cc in
        subst (λ e. IsNamedMessage fmt e) same (record { named = λ y o g. h.objects.named y o (is.1.3.only y o g).0 });
  })
  serve_ok r slots (Push atomic fault cs objects) d h ok n is = subst (SharedOk fmt anc r slots) (sym is.2) (record {
    good = good_none fmt r;
    forward = stays refl;
    after = λ s a alone. insert_ok s slots is.0 (opened atomic fault cs objects) (opened_ok s atomic fault cs objects n) (nothing_added r.objects s slots a ok);
    sends = λ e x. absurd (cc);
  })
  serve_ok r slots (Advert head refs) d h ok n is = absurd is
  serve_ok r slots (Pack ack s) d h ok n is = absurd is
  serve_ok r slots (Report fault ts) d h ok n is = absurd is
  serve_ok r slots (Error text) d h ok n is = absurd is

  others_grow : (s t : Objects) (slots : Slots) → Extends (stored s) (stored t) → Alone t slots → SlotsOk fmt anc s slots → SlotsOk fmt anc t slots
  others_grow s t slots e alone ok k p is = push_grows fmt anc s t p e (over_grows s t p.carried e (alone k p is)) (ok k p is)

  pub slot_ok : (r : Repository) (slots : Slots) (k : ℕ) (d : Deed Slots)
      → ((j : ℕ) (p : OpenPush) → get slots j ≡ Some p → (a b : Id) → IsAncestor fmt (over r.objects p.carried) a b → anc a b)
      → SlotsOk fmt anc r.objects slots → StepsSlot fmt r slots k d → SharedOk fmt anc r slots d
  slot_ok r slots k d to ok is = elim (is.2) [
    | inl w ↦
        let one : StepOk fmt anc r d.effect w.0 = step_push r is.0 w.0 is.0.stage d.effect d.reply (to k is.0 is.1) (ok k is.0 is.1).carried (ok k is.0 is.1).commands w.1 in
        record {
          good = one.good;
          forward = one.forward;
          after = λ s a alone. subst (SlotsOk fmt anc s) (sym w.2) (insert_ok s slots k w.0 (one.after s a) (others_grow r.objects s slots (all_extends r.objects d.effect.objects s a) alone ok));
          sends = λ e x. absurd (let n = w.3 in cc);
        }
    | inr w ↦ subst (SharedOk fmt anc r slots) (sym w.3) (record {
      good = good_none fmt r;
      forward = stays refl;
      after = λ s a alone j p g. unchanged fmt anc r.objects s p a (ok j p (remove_cases nat_cmp_total nat_cmp-IsAntisymmetric slots k j p g).1);
      sends = λ e x. let same : Report is.0.fault w.0 ≡ e = cc in subst (λ e. IsNamedMessage fmt e) same tt;
    })
  ]

-- ---- the refs after a deed

front_forward : (fmt : Format) (anc : Id → Id → Type 0) → ((a : Id) → anc a a) → ((a b c : Id) → anc a b → anc b c → anc a c)
    → (r : Repository) (s : Objects) (cs : List Change) (k : ℕ) → Forward fmt anc r.refs cs → Descends anc r.refs (changed_all (take k cs) (with_objects r s)).refs
front_forward fmt anc self trans r s cs k (stays e) = subst (λ cs. Descends anc r.refs (changed_all (take k cs) (with_objects r s)).refs) (sym e) (none k)
  where
    none : (k : ℕ) → Descends anc r.refs (changed_all (take k []) (with_objects r s)).refs
    none zero = descends_same anc self trans r.refs
    none (suc k) = descends_same anc self trans r.refs
front_forward fmt anc self trans r s cs k (sets rs e d a) = subst (λ cs. Descends anc r.refs (changed_all (take k cs) (with_objects r s)).refs) (sym e) (some k)
  where
    some : (k : ℕ) → Descends anc r.refs (changed_all (take k (SetRefs rs ∷ [])) (with_objects r s)).refs
    some zero = descends_same anc self trans r.refs
    some (suc zero) = d
    some (suc (suc k)) = d

whole_forward : (fmt : Format) (anc : Id → Id → Type 0) → ((a : Id) → anc a a) → ((a b c : Id) → anc a b → anc b c → anc a c)
    → (r : Repository) (s : Objects) (cs : List Change) → Forward fmt anc r.refs cs → Descends anc r.refs (changed_all cs (with_objects r s)).refs
whole_forward fmt anc self trans r s cs (stays e) = subst (λ cs. Descends anc r.refs (changed_all cs (with_objects r s)).refs) (sym e) (descends_same anc self trans r.refs)
whole_forward fmt anc self trans r s cs (sets rs e d a) = subst (λ cs. Descends anc r.refs (changed_all cs (with_objects r s)).refs) (sym e) d

pub done_forward : (fmt : Format) (anc : Id → Id → Type 0) → ((a : Id) → anc a a) → ((a b c : Id) → anc a b → anc b c → anc a c)
    → (r new : Repository) (e : Effect) → Forward fmt anc r.refs e.changes → Done r e new → Descends anc r.refs new.refs
done_forward fmt anc self trans r new e f d = subst (λ (n : Repository). Descends anc r.refs n.refs) (sym d.2) (whole_forward fmt anc self trans r d.0 e.changes f)

pub cut_forward : (fmt : Format) (anc : Id → Id → Type 0) → ((a : Id) → anc a a) → ((a b c : Id) → anc a b → anc b c → anc a c)
    → (r new : Repository) (e : Effect) → Forward fmt anc r.refs e.changes → StopsWithin r e new → Descends anc r.refs new.refs
cut_forward fmt anc self trans r new e f (inl d) = subst (λ (n : Repository). Descends anc r.refs n.refs) (sym d.2) (descends_same anc self trans r.refs)
cut_forward fmt anc self trans r new e f (inr d) = subst (λ (n : Repository). Descends anc r.refs n.refs) (sym d.3) (front_forward fmt anc self trans r d.0 e.changes d.1 f)

-- ---- branches and tags alone

-- branches and tags alone
record BareRefs (fmt : Format) (refs : Refs) : Type 0 where
  pub each : (n : RefName) (x : Id) → get refs n ≡ Some x → IsSharedName fmt n

bare_set : (fmt : Format) (rs : List (RefName × Id)) (refs : Refs) → AllByRecursion (λ r. IsSharedName fmt r.0) rs → BareRefs fmt refs → BareRefs fmt (with_refs rs refs)
bare_set fmt [] refs a h = h
bare_set fmt (r ∷ rs) refs a h = bare_set fmt rs (insert refs r.0 r.1) a.1 (record {
  each = λ n x g. elim (insert_cases nat_list_cmp_total bytes_same refs r.0 r.1 n x g) [
    | inl is ↦ subst (IsSharedName fmt) (sym is.0) a.0
    | inr was ↦ h.each n x was
  ];
})

-- the objects are no matter, and refs that are set are branches and tags
bare_same : (fmt : Format) (r : Repository) (s : Objects) → IsBare fmt r → IsBare fmt (with_objects r s)
bare_same fmt r s h = record { each = h.each; on_branch = h.on_branch }

bare_after : (fmt : Format) (r : Repository) (s : Objects) (rs : List (RefName × Id)) → AllByRecursion (λ r. IsSharedName fmt r.0) rs → IsBare fmt r → IsBare fmt (changed_all (SetRefs rs ∷ []) (with_objects r s))
bare_after fmt r s rs a h = record { each = (bare_set fmt rs r.refs a (record { each = h.each })).each; on_branch = h.on_branch }

front_bare : (fmt : Format) (anc : Id → Id → Type 0) (r : Repository) (s : Objects) (cs : List Change) (k : ℕ) → IsBare fmt r → Forward fmt anc r.refs cs → IsBare fmt (changed_all (take k cs) (with_objects r s))
front_bare fmt anc r s cs k h (stays e) = subst (λ cs. IsBare fmt (changed_all (take k cs) (with_objects r s))) (sym e) (none k)
  where
    none : (k : ℕ) → IsBare fmt (changed_all (take k []) (with_objects r s))
    none zero = bare_same fmt r s h
    none (suc k) = bare_same fmt r s h
front_bare fmt anc r s cs k h (sets rs e d a) = subst (λ cs. IsBare fmt (changed_all (take k cs) (with_objects r s))) (sym e) (some k)
  where
    some : (k : ℕ) → IsBare fmt (changed_all (take k (SetRefs rs ∷ [])) (with_objects r s))
    some zero = bare_same fmt r s h
    some (suc zero) = bare_after fmt r s rs a h
    some (suc (suc k)) = bare_after fmt r s rs a h

whole_bare : (fmt : Format) (anc : Id → Id → Type 0) (r : Repository) (s : Objects) (cs : List Change) → IsBare fmt r → Forward fmt anc r.refs cs → IsBare fmt (changed_all cs (with_objects r s))
whole_bare fmt anc r s cs h (stays e) = subst (λ cs. IsBare fmt (changed_all cs (with_objects r s))) (sym e) (bare_same fmt r s h)
whole_bare fmt anc r s cs h (sets rs e d a) = subst (λ cs. IsBare fmt (changed_all cs (with_objects r s))) (sym e) (bare_after fmt r s rs a h)

pub done_bare : (fmt : Format) (anc : Id → Id → Type 0) (r new : Repository) (e : Effect) → IsBare fmt r → Forward fmt anc r.refs e.changes → Done r e new → IsBare fmt new
done_bare fmt anc r new e h f d = subst (IsBare fmt) (sym d.2) (whole_bare fmt anc r d.0 e.changes h f)

pub cut_bare : (fmt : Format) (anc : Id → Id → Type 0) (r new : Repository) (e : Effect) → IsBare fmt r → Forward fmt anc r.refs e.changes → StopsWithin r e new → IsBare fmt new
cut_bare fmt anc r new e h f (inl d) = subst (IsBare fmt) (sym d.2) (bare_same fmt r d.0 h)
cut_bare fmt anc r new e h f (inr d) = subst (IsBare fmt) (sym d.3) (front_bare fmt anc r d.0 e.changes d.1 h f)
