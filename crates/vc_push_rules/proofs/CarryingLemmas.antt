-- A quarantine that is filled, one carried object after another.
use Rattle.std.proofs.Common.{arith, ◌≡◌, inl, inr, ℕ, Bool, true, false, cond, List, [], ◌∷◌, ◌++◌, map, Option, Some, None, IsSome, is_some, sym, ap, refl, ◌∙◌, subst, true≢false}
use Rattle.std.specs.Prelude.{Contains, option_and_then}
use Rattle.std.specs.List.{AllByRecursion}
use Rattle.std.specs.List.Sorted.{IsStrictlySortedBy}
use Rattle.std.specs.Option.{option_or}
use Rattle.std.specs.Ordering.{is_eq}
use Rattle.std.specs.declared.cmp.Ordering.TheVariants.{Less}
use Rattle.std.proofs.lemmas.List.Elements.{Contains-append_left, Contains-push, Contains-push_cases}
use Rattle.vc_fetch.specs.Pack.{is_object}
use Rattle.vc_files.specs.FileMap.{FileMap}
use Rattle.vc_object.proofs.IdLemmas.{id_eq-same, id_eq_equiv, id_ties}
use Rattle.vc_object.specs.Decoding.{StoredObject}
use Rattle.vc_object.specs.ObjectId.{IsSortedByName, id_cmp, id_eq}
use Rattle.vc_object.specs.declared.id.ObjectId.{ObjectId}
use Rattle.vc_pkt.specs.Carried.{object_named, stored_name}
use Rattle.vc_push_rules.specs.Carrying.{Carries, HoldsNames, objects_in}
use Rattle.vc_push_rules.specs.Quarantine.{IsDropped, quarantined}
use Rattle.vc_push_rules.proofs.FrameLemmas.{dropped-none}

-- a look-up of one name is by its bytes
same_test : (id : ObjectId) (o : StoredObject) → is_eq (id_cmp id (stored_name o)) ≡ id_eq id (stored_name o)
same_test id o = sym (id_ties id (stored_name o))

found_step : (id : ObjectId) (o : StoredObject) (os : List StoredObject) → object_named id (o ∷ os) ≡ cond (id_eq id (stored_name o)) (Some o) (object_named id os)
found_step id o os = ap (λ b. cond b (Some o) (object_named id os)) (same_test id o)

-- the object if it is one
abbrev pub kept : StoredObject → Option StoredObject
kept o = cond (is_object o) (Some o) None

pub in_step : (id : ObjectId) (o : StoredObject) (os : List StoredObject) (b : Bool) → id_eq id (stored_name o) ≡ b → objects_in (o ∷ os) id ≡ cond b (kept o) (objects_in os id)
unfolding objects_in
in_step id o os true is = ap (option_and_then kept) (found_step id o os ∙ ap (λ b. cond b (Some o) (object_named id os)) is)
in_step id o os false is = ap (option_and_then kept) (found_step id o os ∙ ap (λ b. cond b (Some o) (object_named id os)) is)

pub in_none : (id : ObjectId) (os : List StoredObject) → object_named id os ≡ None → objects_in os id ≡ None
unfolding objects_in
in_none id os none = ap (option_and_then kept) none

-- in order of name no later object has the first one's name
above : (o : StoredObject) (os : List StoredObject) → AllByRecursion (λ y. id_cmp (stored_name o) y ≡ Less) (map stored_name os) → object_named (stored_name o) os ≡ None
above o [] all = refl
above o (p ∷ ps) all = ap (λ c. cond (is_eq c) (Some p) (object_named (stored_name o) ps)) all.0 ∙ above o ps all.1

pub once : (id : ObjectId) (o : StoredObject) (os : List StoredObject) → IsSortedByName (map stored_name (o ∷ os)) → id_eq id (stored_name o) ≡ true → object_named id os ≡ None
unfolding IsStrictlySortedBy
once id o os sorted same = ap (λ n. object_named n os) (id_eq-same id (stored_name o) same) ∙ above o os sorted.0

pub fewer : (o : StoredObject) (os : List StoredObject) → IsSortedByName (map stored_name (o ∷ os)) → IsSortedByName (map stored_name os)
unfolding IsStrictlySortedBy
fewer o os sorted = sorted.1

-- what is held, and what is still to come, are all that is carried; what is held comes no more
pub record IsHeld (content : FileMap) (slot : ℕ) (names : List ObjectId) (all rest : List StoredObject) : Type 0 where
  pub same : (id : ObjectId) → objects_in all id ≡ option_or (quarantined content slot id) (objects_in rest id)
  pub apart : (id : ObjectId) → IsSome (quarantined content slot id) → object_named id rest ≡ None
  pub holds : HoldsNames content slot names

none_some : (o : Option StoredObject) → o ≡ None → IsSome o → ⊥
none_some None none some = true≢false (sym some)
none_some (Some x) none some = cc none

no_name : (id : ObjectId) → Contains [] id → ⊥
no_name id (k, within, is) = omega (arith, within)

pub held_none : (content : FileMap) (slot : ℕ) (all : List StoredObject) → IsDropped slot content → IsHeld content slot [] all all
held_none content slot all dropped = record {
  same = λ id. sym (ap (λ o. option_or o (objects_in all id)) (dropped-none content slot dropped id));
  apart = λ id some. absurd (none_some (quarantined content slot id) (dropped-none content slot dropped id) some);
  holds = record { each = λ id among. absurd (no_name id among); only = λ id some. absurd (none_some (quarantined content slot id) (dropped-none content slot dropped id) some) };
}

pub or_none : (o : Option StoredObject) → option_or o None ≡ o
or_none None = refl
or_none (Some x) = refl

pub nothing_in : (id : ObjectId) → objects_in [] id ≡ None
unfolding objects_in
nothing_in id = refl

pub held_all : (content : FileMap) (slot : ℕ) (names : List ObjectId) (all : List StoredObject) → IsHeld content slot names all [] → Carries content slot names (objects_in all)
held_all content slot names all held = record {
  same = λ id. sym (held.same id ∙ ap (option_or (quarantined content slot id)) (nothing_in id) ∙ or_none (quarantined content slot id));
  holds = held.holds;
}

module _ (slot : ℕ) (names : List ObjectId) (all rest : List StoredObject) (o : StoredObject) (sorted : IsSortedByName (map stored_name (o ∷ rest))) where
  later : (id : ObjectId) → object_named id (o ∷ rest) ≡ None → (b : Bool) → id_eq id (stored_name o) ≡ b → (b ≡ false) × (object_named id rest ≡ None)
  later id none true is = absurd (let found : Some o ≡ None = sym (found_step id o rest ∙ ap (λ b. cond b (Some o) (object_named id rest)) is) ∙ none in cc found)
  later id none false is = (refl, sym (found_step id o rest ∙ ap (λ b. cond b (Some o) (object_named id rest)) is) ∙ none)

  -- a body at fault is passed over
  pub held_passed : (content : FileMap) → is_object o ≡ false → IsHeld content slot names all (o ∷ rest) → IsHeld content slot names all rest
  held_passed content bad held = record {
    same = λ id. held.same id ∙ ap (option_or (quarantined content slot id)) (by id (id_eq id (stored_name o)) refl);
    apart = λ id some. (later id (held.apart id some) (id_eq id (stored_name o)) refl).1;
    holds = held.holds;
  }
    where
      by : (id : ObjectId) (b : Bool) → id_eq id (stored_name o) ≡ b → objects_in (o ∷ rest) id ≡ objects_in rest id
      by id true is = in_step id o rest true is ∙ ap (λ b. cond b (Some o) None) bad ∙ sym (in_none id rest (once id o rest sorted is))
      by id false is = in_step id o rest false is

  -- and an object is put under its name
  module _ (old new : FileMap) (good : is_object o ≡ true) (put : (q : ObjectId) → quarantined new slot q ≡ cond (id_eq q (stored_name o)) (Some o) (quarantined old slot q)) (held : IsHeld old slot names all (o ∷ rest)) where
    at : (q : ObjectId) (b : Bool) → id_eq q (stored_name o) ≡ b → quarantined new slot q ≡ cond b (Some o) (quarantined old slot q)
    at q b is = put q ∙ ap (λ t. cond t (Some o) (quarantined old slot q)) is

    absent : (q : ObjectId) → id_eq q (stored_name o) ≡ true → quarantined old slot q ≡ None
    absent q is = by (quarantined old slot q) refl
      where
        by : (found : Option StoredObject) → quarantined old slot q ≡ found → found ≡ None
        by None e = refl
        by (Some x) e = absurd (true≢false (sym is ∙ (later q (held.apart q (subst IsSome (sym e) refl)) (id_eq q (stored_name o)) refl).0))

    same_more : (q : ObjectId) (b : Bool) → id_eq q (stored_name o) ≡ b → objects_in all q ≡ option_or (quarantined new slot q) (objects_in rest q)
    same_more q true is =
        held.same q ∙ ap (λ found. option_or found (objects_in (o ∷ rest) q)) (absent q is) ∙ in_step q o rest true is ∙ ap (λ b. cond b (Some o) None) good
        ∙ sym (ap (λ found. option_or found (objects_in rest q)) (at q true is))
    same_more q false is =
        held.same q ∙ ap (option_or (quarantined old slot q)) (in_step q o rest false is) ∙ sym (ap (λ found. option_or found (objects_in rest q)) (at q false is))

    apart_more : (q : ObjectId) (b : Bool) → id_eq q (stored_name o) ≡ b → IsSome (quarantined new slot q) → object_named q rest ≡ None
    apart_more q true is some = once q o rest sorted is
    apart_more q false is some = (later q (held.apart q (subst IsSome (at q false is) some)) false is).1

    each_more : (q : ObjectId) (b : Bool) → id_eq q (stored_name o) ≡ b → Contains (names ++ stored_name o ∷ []) q → IsSome (quarantined new slot q)
    each_more q true is among = subst IsSome (sym (at q true is)) refl
    each_more q false is among = subst IsSome (sym (at q false is)) (held.holds.each q (elim (Contains-push_cases names (stored_name o) q among) [ inl before ↦ before | inr one ↦ absurd (true≢false (sym (ap (id_eq q) one ∙ id_eq_equiv.refl q) ∙ is)) ]))

    only_more : (q : ObjectId) (b : Bool) → id_eq q (stored_name o) ≡ b → IsSome (quarantined new slot q) → Contains (names ++ stored_name o ∷ []) q
    only_more q true is some = subst (Contains (names ++ stored_name o ∷ [])) (sym (id_eq-same q (stored_name o) is)) (Contains-push names (stored_name o))
    only_more q false is some = Contains-append_left names (stored_name o ∷ []) q (held.holds.only q (subst IsSome (at q false is) some))

    pub held_more : IsHeld new slot (names ++ stored_name o ∷ []) all rest
    held_more = record {
      same = λ q. same_more q (id_eq q (stored_name o)) refl;
      apart = λ q some. apart_more q (id_eq q (stored_name o)) refl some;
      holds = record { each = λ q among. each_more q (id_eq q (stored_name o)) refl among; only = λ q some. only_more q (id_eq q (stored_name o)) refl some };
    }

-- the same, as the object is written and named
pub held_put : (slot : ℕ) (names : List ObjectId) (all rest : List StoredObject) (o p : StoredObject) (id : ObjectId) (old new : FileMap) → p ≡ o → id ≡ stored_name p → is_object o ≡ true → IsSortedByName (map stored_name (o ∷ rest))
    → ((q : ObjectId) → quarantined new slot q ≡ cond (id_eq q id) (Some p) (quarantined old slot q)) → IsHeld old slot names all (o ∷ rest) → IsHeld new slot (names ++ id ∷ []) all rest
held_put slot names all rest o p id old new is named good sorted put held =
    let name : id ≡ stored_name o = named ∙ ap stored_name is in
    subst (λ (n : ObjectId). IsHeld new slot (names ++ n ∷ []) all rest) (sym name)
    (held_more slot names all rest o sorted old new good (λ q. put q ∙ ap (λ (n : ObjectId). cond (id_eq q n) (Some p) (quarantined old slot q)) name ∙ ap (λ (x : StoredObject). cond (id_eq q (stored_name o)) (Some x) (quarantined old slot q)) is) held)

-- an empty quarantine carries nothing
pub nothing_carried : (content : FileMap) (slot : ℕ) → IsDropped slot content → Carries content slot [] (λ id. None)
nothing_carried content slot dropped = record {
  same = dropped-none content slot dropped;
  holds = record {
    each = λ id among. absurd (omega (arith, among.1));
    only = λ id some. absurd (true≢false (sym some ∙ ap is_some (dropped-none content slot dropped id)));
  };
}
