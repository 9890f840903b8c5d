-- The quarantine of a slot while objects come, one after another.
use Rattle.std.proofs.Common.{arith, ◌≡◌, ◌⊎◌, inl, inr, ℕ, Bool, Ok, Err, true, false, cond, List, ◌∷◌, ◌++◌, Option, Some, None, IsSome, sym, ap, refl, ◌∙◌, subst, true≢false, []}
use Rattle.std.specs.Prelude.{Contains, option_and_then}
use Rattle.std.specs.List.{AllByRecursion}
use Rattle.std.specs.Option.{option_or}
use Rattle.std.specs.Ordering.{is_eq}
use Rattle.indexmap.proofs.CallerLemmas.{Contains-insert_key}
use Rattle.indexmap.specs.IndexSet.{insert_key}
use Rattle.vc_fetch.specs.Pack.{is_object}
use Rattle.vc_files.specs.FileMap.{FileMap}
use Rattle.vc_object_map.proofs.WalkLemmas.{Contains-insert_all_old, Contains-insert_key_cases}
use Rattle.vc_object.proofs.IdLemmas.{id_eq-same, id_eq_equiv, id_ties}
use Rattle.vc_object.specs.Decoding.{StoredObject}
use Rattle.vc_object.specs.ObjectFault.{BodyFault}
use Rattle.vc_object.specs.ObjectId.{id_cmp, id_eq}
use Rattle.vc_object.specs.declared.fault.ObjectFault.{ObjectFault}
use Rattle.vc_object.specs.declared.id.ObjectId.{ObjectId}
use Rattle.vc_pkt.specs.Carried.{object_named, stored_name, with_object, with_objects}
use Rattle.vc_pkt.proofs.CarriedOnce.{carried_named}
use Rattle.vc_pkt.proofs.CarriedLaws.{with_objects-push}
use Rattle.vc_push.specs.Push.{Carried, FaultOf, carry}
use Rattle.vc_quarantine.specs.Arrival.{HoldsArrived, HasArrived, all_good, one_bad}
use Rattle.vc_push_rules.specs.Carrying.{Carries, objects_in, objects_of_push}
use Rattle.vc_push_rules.specs.Quarantine.{IsDropped, quarantined}
use Rattle.vc_push_rules.proofs.FrameLemmas.{dropped-none}
use Rattle.vc_push_rules.proofs.CarryingLemmas.{nothing_carried, or_none}

-- of objects that come, the first of a name counts
named_behind : (id : ObjectId) (os : List StoredObject) (o : StoredObject) → object_named id (os ++ o ∷ []) ≡ option_or (object_named id os) (cond (id_eq id (stored_name o)) (Some o) None)
named_behind id [] o = ap (λ b. cond b (Some o) None) (sym (id_ties id (stored_name o)))
named_behind id (p ∷ ps) o = by (is_eq (id_cmp id (stored_name p))) (named_behind id ps o)
  where
    by : (b : Bool) → object_named id (ps ++ o ∷ []) ≡ option_or (object_named id ps) (cond (id_eq id (stored_name o)) (Some o) None)
        → cond b (Some p) (object_named id (ps ++ o ∷ [])) ≡ option_or (cond b (Some p) (object_named id ps)) (cond (id_eq id (stored_name o)) (Some o) None)
    by true more = refl
    by false more = more

some_first : (o p : Option StoredObject) → IsSome o → option_or o p ≡ o
some_first None p some = absurd (true≢false (sym some))
some_first (Some x) p some = refl

module _ (slot : ℕ) (names : List ObjectId) (os : List StoredObject) (o : StoredObject) where
  -- one whose name came before
  pub brings_again : (content : FileMap) → Contains names (stored_name o) → HoldsArrived content slot names os → HoldsArrived content slot names (os ++ o ∷ [])
  brings_again content among before = record { same = λ id. by id (id_eq id (stored_name o)) refl; holds = before.holds }
    where
      by : (id : ObjectId) (b : Bool) → id_eq id (stored_name o) ≡ b → quarantined content slot id ≡ object_named id (os ++ o ∷ [])
      by id true is =
          let there : IsSome (quarantined content slot id) = subst (λ (q : ObjectId). IsSome (quarantined content slot q)) (sym (id_eq-same id (stored_name o) is)) (before.holds.each (stored_name o) among) in
          before.same id ∙ sym (named_behind id os o ∙ some_first (object_named id os) (cond (id_eq id (stored_name o)) (Some o) None) (subst (λ (found : Option StoredObject). IsSome found) (before.same id) there))
      by id false is = before.same id ∙ sym (named_behind id os o ∙ ap (λ b. option_or (object_named id os) (cond b (Some o) None)) is ∙ or_none (object_named id os))

-- and one that is put under its name, which goes after the others
module _ (slot : ℕ) (names after : List ObjectId) (os : List StoredObject) (o : StoredObject) (from : (id : ObjectId) → Contains after id → Contains names id ⊎ (stored_name o ≡ id)) (stays : (id : ObjectId) → Contains names id → Contains after id)
    (there : Contains after (stored_name o)) (first : Contains names (stored_name o) → ⊥) (old new : FileMap) (put : (id : ObjectId) → quarantined new slot id ≡ cond (id_eq id (stored_name o)) (Some o) (quarantined old slot id)) (before : HoldsArrived old slot names os) where
  at : (id : ObjectId) (b : Bool) → id_eq id (stored_name o) ≡ b → quarantined new slot id ≡ cond b (Some o) (quarantined old slot id)
  at id b is = put id ∙ ap (λ t. cond t (Some o) (quarantined old slot id)) is

  absent : (id : ObjectId) → id_eq id (stored_name o) ≡ true → object_named id os ≡ None
  absent id is = by (object_named id os) (before.same id)
    where
      by : (found : Option StoredObject) → quarantined old slot id ≡ found → found ≡ None
      by None held = refl
      by (Some x) held = absurd (first (subst (Contains names) (id_eq-same id (stored_name o) is) (before.holds.only id (subst IsSome (sym held) refl))))

  same_more : (id : ObjectId) (b : Bool) → id_eq id (stored_name o) ≡ b → quarantined new slot id ≡ object_named id (os ++ o ∷ [])
  same_more id true is =
      at id true is ∙ sym (named_behind id os o ∙ ap (λ found. option_or found (cond (id_eq id (stored_name o)) (Some o) None)) (absent id is) ∙ ap (λ b. cond b (Some o) None) is)
  same_more id false is =
      at id false is ∙ before.same id ∙ sym (named_behind id os o ∙ ap (λ b. option_or (object_named id os) (cond b (Some o) None)) is ∙ or_none (object_named id os))

  each_more : (id : ObjectId) (b : Bool) → id_eq id (stored_name o) ≡ b → Contains after id → IsSome (quarantined new slot id)
  each_more id true is among = subst IsSome (sym (at id true is)) refl
  each_more id false is among = subst IsSome (sym (at id false is)) (before.holds.each id (elim (from id among) [ inl is_before ↦ is_before | inr one ↦ absurd (true≢false (sym (ap (id_eq id) one ∙ id_eq_equiv.refl id) ∙ is)) ]))

  only_more : (id : ObjectId) (b : Bool) → id_eq id (stored_name o) ≡ b → IsSome (quarantined new slot id) → Contains after id
  only_more id true is some = subst (Contains after) (sym (id_eq-same id (stored_name o) is)) there
  only_more id false is some = stays id (before.holds.only id (subst IsSome (at id false is) some))

  brings_more : HoldsArrived new slot after (os ++ o ∷ [])
  brings_more = record {
    same = λ id. same_more id (id_eq id (stored_name o)) refl;
    holds = record { each = λ id among. each_more id (id_eq id (stored_name o)) refl among; only = λ id some. only_more id (id_eq id (stored_name o)) refl some };
  }

-- the same, as the object is written and named
pub brings_put : (slot : ℕ) (names after : List ObjectId) (os : List StoredObject) (o p : StoredObject) (id : ObjectId) (old new : FileMap) → id ≡ stored_name o → p ≡ o → after ≡ insert_key id_eq names id → (Contains names id → ⊥)
    → ((q : ObjectId) → quarantined new slot q ≡ cond (id_eq q id) (Some p) (quarantined old slot q)) → HoldsArrived old slot names os → HoldsArrived new slot after (os ++ o ∷ [])
brings_put slot names after os o p id old new named is inserted first put before =
    let name : stored_name o ≡ id = sym named in
    brings_more slot names after os o
    (λ q among. elim (Contains-insert_key_cases id_eq names id q (subst (λ (ids : List ObjectId). Contains ids q) inserted among)) [ inl was ↦ inl was | inr one ↦ inr (name ∙ one) ])
    (λ q among. subst (λ (ids : List ObjectId). Contains ids q) (sym inserted) (Contains-insert_all_old id_eq names (id ∷ []) q among))
    (subst (λ (ids : List ObjectId). Contains ids (stored_name o)) (sym inserted) (subst (Contains (insert_key id_eq names id)) named (Contains-insert_key id_eq id_eq-same names id)))
    (λ among. first (subst (Contains names) name among))
    old new
    (λ q. put q ∙ ap (λ (n : ObjectId). cond (id_eq q n) (Some p) (quarantined old slot q)) named ∙ ap (λ (x : StoredObject). cond (id_eq q (stored_name o)) (Some x) (quarantined old slot q)) is)
    before

-- ---- a push that comes

all_behind : (os : List StoredObject) (o : StoredObject) → AllByRecursion (λ x. is_object x ≡ true) os → is_object o ≡ true → AllByRecursion (λ x. is_object x ≡ true) (os ++ o ∷ [])
all_behind [] o all good = (good, tt)
all_behind (p ∷ ps) o all good = (all.0, all_behind ps o all.1 good)

pub none_brought : (content : FileMap) (slot : ℕ) → IsDropped slot content → HasArrived content slot [] None (Ok [])
none_brought content slot dropped = all_good [] refl tt refl (record { same = λ id. gone id; holds = record { each = λ id among. absurd (no_name id among); only = λ id some. absurd (none_some (quarantined content slot id) (gone id) some) } })
  where
    gone : (id : ObjectId) → quarantined content slot id ≡ None
    gone id = dropped-none content slot dropped id

    no_name : (id : ObjectId) → Contains [] id → ⊥
    no_name id (k, within, is) = omega (arith, within)

    none_some : (found : Option StoredObject) → found ≡ None → IsSome found → ⊥
    none_some None none some = true≢false (sym some)
    none_some (Some x) none some = cc none

module _ (old : FileMap) (slot : ℕ) (names : List ObjectId) (fault : Option ObjectFault) (carried : Carried) (o : StoredObject) where
  -- an object more
  pub brought_more : (new : FileMap) (after : List ObjectId) → fault ≡ None → is_object o ≡ true → ((os : List StoredObject) → HoldsArrived old slot names os → HoldsArrived new slot after (os ++ o ∷ [])) → HasArrived old slot names fault carried → HasArrived new slot after fault (carry o carried)
  brought_more new after none good more (all_good os is all none' brings) =
      all_good (os ++ o ∷ []) (ap (carry o) is ∙ ap (λ (b : Bool). cond b (Ok (with_object o (with_objects [] os))) (Err o)) good ∙ ap Ok (sym (with_objects-push [] os o))) (all_behind os o all good) none (more os brings)
  brought_more new after none good more (one_bad bad f is at body empty dropped) = absurd (let both : ◌≡◌ {A = Option ObjectFault} None (Some f) = sym none ∙ at in cc both)

  -- the first at fault
  pub brought_bad : (new : FileMap) (f : ObjectFault) → fault ≡ None → is_object o ≡ false → BodyFault o.kind o.body f → IsDropped slot new → HasArrived old slot names fault carried → HasArrived new slot [] (Some f) (carry o carried)
  brought_bad new f none wrong body dropped (all_good os is all none' brings) =
      one_bad o f (ap (carry o) is ∙ ap (λ (b : Bool). cond b (Ok (with_object o (with_objects [] os))) (Err o)) wrong) refl body refl dropped
  brought_bad new f none wrong body dropped (one_bad bad g is at other empty gone) = absurd (let both : ◌≡◌ {A = Option ObjectFault} None (Some g) = sym none ∙ at in cc both)

  -- and whatever comes after it
  pub brought_after : IsSome fault → HasArrived old slot names fault carried → HasArrived old slot names fault (carry o carried)
  brought_after some (all_good os is all none brings) = absurd (true≢false (sym (subst (λ (found : Option ObjectFault). IsSome found) none some)))
  brought_after some (one_bad bad g is at body empty dropped) = one_bad bad g (ap (carry o) is) at body empty dropped

-- ---- all came
abbrev kept : StoredObject → Option StoredObject
kept o = cond (is_object o) (Some o) None

all_kept : (id : ObjectId) (os : List StoredObject) → AllByRecursion (λ o. is_object o ≡ true) os → option_and_then kept (object_named id os) ≡ object_named id os
all_kept id [] all = refl
all_kept id (p ∷ ps) all = by (is_eq (id_cmp id (stored_name p))) (all_kept id ps all.1)
  where
    by : (b : Bool) → option_and_then kept (object_named id ps) ≡ object_named id ps → option_and_then kept (cond b (Some p) (object_named id ps)) ≡ cond b (Some p) (object_named id ps)
    by true more = ap (λ (t : Bool). cond t (Some p) None) all.0
    by false more = more

all_in : (id : ObjectId) (os : List StoredObject) → AllByRecursion (λ o. is_object o ≡ true) os → objects_in (with_objects [] os) id ≡ object_named id os
unfolding objects_in
all_in id os all = ap (option_and_then kept) (carried_named id os) ∙ all_kept id os all

pub brought_carries : (content : FileMap) (slot : ℕ) (names : List ObjectId) (fault : Option ObjectFault) (carried : Carried) → HasArrived content slot names fault carried → Carries content slot names (objects_of_push carried)
brought_carries content slot names fault carried (all_good os is all none brings) =
    subst (λ (c : Carried). Carries content slot names (objects_of_push c)) (sym is) (record { same = λ id. brings.same id ∙ sym (all_in id os all); holds = brings.holds })
brought_carries content slot names fault carried (one_bad bad f is at body empty dropped) =
    subst (λ (c : Carried). Carries content slot names (objects_of_push c)) (sym is) (subst (λ (ids : List ObjectId). Carries content slot ids (λ id. None)) (sym empty) (nothing_carried content slot dropped))

pub brought_fault : (content : FileMap) (slot : ℕ) (names : List ObjectId) (fault : Option ObjectFault) (carried : Carried) → HasArrived content slot names fault carried → FaultOf carried fault
brought_fault content slot names fault carried (all_good os is all none brings) = subst (λ (c : Carried). FaultOf c fault) (sym is) none
brought_fault content slot names fault carried (one_bad bad f is at body empty dropped) =
    subst (λ (c : Carried). FaultOf c fault) (sym is) (subst (λ (found : Option ObjectFault). FaultOf (Err bad) found) (sym at) body)
