-- A set of carried objects is in order of name, and has at each name the first object of that name that came.
use Rattle.std.proofs.Common.{◌≡◌, Bool, true, false, cond, List, [], ◌∷◌, map, Option, Some, None, is_some, ◌||◌, refl, ap, sym, ◌∙◌, true≢false}
use Rattle.std.specs.List.{AllByRecursion}
use Rattle.std.specs.List.Sorted.{IsStrictlySortedBy}
use Rattle.std.specs.Cmp.{Equal-is, tied_itself}
use Rattle.std.specs.Ordering.{is_eq, match_ordering, ordering_reverse}
use Rattle.std.specs.declared.cmp.Ordering.{Ordering}
use Rattle.std.specs.declared.cmp.Ordering.TheVariants.{Less, Equal, Greater}
use Rattle.vc_object.specs.ObjectId.{id_cmp, IsSortedByName}
use Rattle.vc_object.specs.Decoding.{StoredObject}
use Rattle.vc_object.specs.declared.id.ObjectId.{ObjectId}
use Rattle.vc_object.proofs.IdLemmas.{id_cmp_total}
use Rattle.vc_pkt.specs.Carried.{stored_name, object_named, has_name, put_by_name, with_object, with_objects}

abbrev passes : ObjectId → StoredObject → Bool
passes id o = is_eq (id_cmp id (stored_name o))

abbrev or_some : Option StoredObject → Option StoredObject → Option StoredObject
or_some (Some x) other = Some x
or_some None other = other

-- names that are equal to one name compare alike
alike : (id : ObjectId) (o p : StoredObject) → passes id o ≡ true → passes id p ≡ is_eq (id_cmp (stored_name o) (stored_name p))
alike id o p e = ap is_eq (id_cmp_total.congr id (stored_name o) (stored_name p) ((Equal-is (id_cmp id (stored_name o))).0 e))

-- ---- look-ups
-- an object that passes tells whether another of its name is there
found_or : (b c : Bool) (a : StoredObject) (r : Option StoredObject) (t : Bool) → b ≡ c → is_some r ≡ t → is_some (cond b (Some a) r) ≡ (c || t)
found_or true c a r t e f = ap (λ x. x || t) e
found_or false c a r t e f = f ∙ ap (λ x. x || t) e

found_has : (id : ObjectId) (o : StoredObject) (os : List StoredObject) → passes id o ≡ true → is_some (object_named id os) ≡ has_name (stored_name o) os
found_has id o [] e = refl
found_has id o (p ∷ ps) e = found_or (passes id p) (is_eq (id_cmp (stored_name o) (stored_name p))) p (object_named id ps) (has_name (stored_name o) ps) (alike id o p e) (found_has id o ps e)

none_or : (r : Option StoredObject) → is_some r ≡ false → r ≡ None
none_or None e = refl
none_or (Some x) e = absurd (true≢false e)

some_or : (r s : Option StoredObject) → is_some r ≡ true → r ≡ or_some r s
some_or None s e = absurd (true≢false (sym e))
some_or (Some x) s e = refl

nothing_more : (r : Option StoredObject) → r ≡ or_some r None
nothing_more None = refl
nothing_more (Some x) = refl

put_step : (id : ObjectId) (o p : StoredObject) (ps : List StoredObject) (c : Ordering) → c ≡ id_cmp (stored_name o) (stored_name p) → (is_eq c || has_name (stored_name o) ps) ≡ false
    → (has_name (stored_name o) ps ≡ false → object_named id (put_by_name o ps) ≡ cond (passes id o) (Some o) (object_named id ps))
    → object_named id (match_ordering c (o ∷ p ∷ ps) (p ∷ ps) (p ∷ put_by_name o ps)) ≡ cond (passes id o) (Some o) (cond (passes id p) (Some p) (object_named id ps))
put_step id o p ps Less is none ih = refl
put_step id o p ps Equal is none ih = absurd (true≢false none)
put_step id o p ps Greater is none ih = ap (cond (passes id p) (Some p)) (ih none) ∙ by (passes id o) (passes id p) refl refl
  where
    by : (b c : Bool) → passes id o ≡ b → passes id p ≡ c → cond c (Some p) (cond b (Some o) (object_named id ps)) ≡ cond b (Some o) (cond c (Some p) (object_named id ps))
    by true true e f = absurd (true≢false (sym f ∙ alike id o p e ∙ ap is_eq (sym is)))
    by true false e f = refl
    by false true e f = refl
    by false false e f = refl

put_finds : (id : ObjectId) (o : StoredObject) (os : List StoredObject) → has_name (stored_name o) os ≡ false → object_named id (put_by_name o os) ≡ cond (passes id o) (Some o) (object_named id os)
put_finds id o [] none = refl
put_finds id o (p ∷ ps) none = put_step id o p ps (id_cmp (stored_name o) (stored_name p)) refl none (λ h. put_finds id o ps h)

one_finds : (id : ObjectId) (o : StoredObject) (os : List StoredObject) (has : Bool) → has_name (stored_name o) os ≡ has → object_named id (cond has os (put_by_name o os)) ≡ or_some (object_named id os) (cond (passes id o) (Some o) None)
one_finds id o os true is = by (passes id o) refl
  where
    by : (b : Bool) → passes id o ≡ b → object_named id os ≡ or_some (object_named id os) (cond b (Some o) None)
    by true e = some_or (object_named id os) (Some o) (found_has id o os e ∙ is)
    by false e = nothing_more (object_named id os)
one_finds id o os false is = put_finds id o os is ∙ by (passes id o) refl
  where
    by : (b : Bool) → passes id o ≡ b → cond b (Some o) (object_named id os) ≡ or_some (object_named id os) (cond b (Some o) None)
    by true e = ap (λ r. or_some r (Some o)) (sym (none_or (object_named id os) (found_has id o os e ∙ is)))
    by false e = nothing_more (object_named id os)

with_finds : (id : ObjectId) (o : StoredObject) (os : List StoredObject) → object_named id (with_object o os) ≡ or_some (object_named id os) (cond (passes id o) (Some o) None)
unfolding with_object
with_finds id o os = one_finds id o os (has_name (stored_name o) os) refl

or_twice : (a b c : Option StoredObject) → or_some (or_some a b) c ≡ or_some a (or_some b c)
or_twice (Some x) b c = refl
or_twice None b c = refl

cond_or : (b : Bool) (o : StoredObject) (r : Option StoredObject) → or_some (cond b (Some o) None) r ≡ cond b (Some o) r
cond_or true o r = refl
cond_or false o r = refl

all_find : (id : ObjectId) (os set : List StoredObject) → object_named id (with_objects set os) ≡ or_some (object_named id set) (object_named id os)
all_find id [] set = nothing_more (object_named id set)
all_find id (o ∷ os) set =
    all_find id os (with_object o set) ∙ ap (λ r. or_some r (object_named id os)) (with_finds id o set)
    ∙ or_twice (object_named id set) (cond (passes id o) (Some o) None) (object_named id os) ∙ ap (or_some (object_named id set)) (cond_or (passes id o) o (object_named id os))

pub carried_named : (id : ObjectId) (os : List StoredObject) → object_named id (with_objects [] os) ≡ object_named id os
carried_named id os = all_find id os []

-- ---- order
all_put : (P : ObjectId → Type 0) (o : StoredObject) (os : List StoredObject) → P (stored_name o) → AllByRecursion P (map stored_name os) → AllByRecursion P (map stored_name (put_by_name o os))
all_put P o [] h a = (h, tt)
all_put P o (p ∷ ps) h a = by (id_cmp (stored_name o) (stored_name p)) (all_put P o ps h a.1)
  where
    by : (c : Ordering) → AllByRecursion P (map stored_name (put_by_name o ps)) → AllByRecursion P (map stored_name (match_ordering c (o ∷ p ∷ ps) (p ∷ ps) (p ∷ put_by_name o ps)))
    by Less more = (h, a)
    by Equal more = a
    by Greater more = (a.0, more)

below_all : (o p : StoredObject) (ids : List ObjectId) → id_cmp (stored_name o) (stored_name p) ≡ Less → AllByRecursion (λ y. id_cmp (stored_name p) y ≡ Less) ids → AllByRecursion (λ y. id_cmp (stored_name o) y ≡ Less) ids
below_all o p [] h a = tt
below_all o p (id ∷ ids) h a = (id_cmp_total.trans (stored_name o) (stored_name p) id h a.0, below_all o p ids h a.1)

put_sorted : (o : StoredObject) (os : List StoredObject) → IsSortedByName (map stored_name os) → IsSortedByName (map stored_name (put_by_name o os))
unfolding IsStrictlySortedBy
put_sorted o [] s = (tt, tt)
put_sorted o (p ∷ ps) s = by (id_cmp (stored_name o) (stored_name p)) refl (put_sorted o ps s.1)
  where
    by : (c : Ordering) → id_cmp (stored_name o) (stored_name p) ≡ c → IsSortedByName (map stored_name (put_by_name o ps)) → IsSortedByName (map stored_name (match_ordering c (o ∷ p ∷ ps) (p ∷ ps) (p ∷ put_by_name o ps)))
    by Less e more = ((e, below_all o p (map stored_name ps) e s.0), s)
    by Equal e more = s
    by Greater e more =
        let under : id_cmp (stored_name p) (stored_name o) ≡ Less = id_cmp_total.antisymm (stored_name p) (stored_name o) ∙ ap ordering_reverse e in
        (all_put (λ y. id_cmp (stored_name p) y ≡ Less) o ps under s.0, more)

with_sorted : (o : StoredObject) (os : List StoredObject) → IsSortedByName (map stored_name os) → IsSortedByName (map stored_name (with_object o os))
unfolding with_object
with_sorted o os s = by (has_name (stored_name o) os)
  where
    by : (b : Bool) → IsSortedByName (map stored_name (cond b os (put_by_name o os)))
    by true = s
    by false = put_sorted o os s

pub carried_sorted : (os set : List StoredObject) → IsSortedByName (map stored_name set) → IsSortedByName (map stored_name (with_objects set os))
carried_sorted [] set s = s
carried_sorted (o ∷ os) set s = carried_sorted os (with_object o set) (with_sorted o set s)

pub none_sorted : IsSortedByName []
unfolding IsStrictlySortedBy
none_sorted = tt

-- ---- a set in order of name
module _ (o : StoredObject) (os : List StoredObject) where
  above : (ps : List StoredObject) → AllByRecursion (λ y. id_cmp (stored_name o) y ≡ Less) (map stored_name ps) → AllByRecursion (λ p. object_named (stored_name p) os ≡ Some p) ps
      → AllByRecursion (λ p. object_named (stored_name p) (o ∷ os) ≡ Some p) ps
  above [] less found = tt
  above (p ∷ ps) less found =
      let apart : is_eq (id_cmp (stored_name p) (stored_name o)) ≡ false = ap is_eq (id_cmp_total.antisymm (stored_name p) (stored_name o) ∙ ap ordering_reverse less.0) in
      (ap (λ b. cond b (Some o) (object_named (stored_name p) os)) apart ∙ found.0, above ps less.1 found.1)

-- each of its objects is found under its own name
pub each_named : (os : List StoredObject) → IsSortedByName (map stored_name os) → AllByRecursion (λ o. object_named (stored_name o) os ≡ Some o) os
unfolding IsStrictlySortedBy
each_named [] sorted = tt
each_named (o ∷ os) sorted = (
  ap (λ b. cond b (Some o) (object_named (stored_name o) os)) (ap is_eq (tied_itself id_cmp_total (stored_name o))),
  above o os os sorted.0 (each_named os sorted.1),
)
