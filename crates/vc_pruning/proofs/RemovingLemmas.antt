-- Objects that are taken away one after the other.
use Rattle.std.proofs.Common.{arith, ◌≡◌, ◌+◌, ◌-◌, ◌≤◌, ℕ, Bool, true, false, cond, List, ◌∷◌, drop, length, length-drop, nat_eq, Option, Some, None, Result, Ok, Err, Contains, IsSome, IsTrue, ◌⊎◌, inl, inr, refl, sym, ap, ◌∙◌, subst, true≢false}
use Rattle.std.specs.Prelude.{bytes_eq, codes, is_ok, is_some, option_map}
use Rattle.std.specs.FinMap.{get, len, remove, len-remove}
use Rattle.std.specs.FinMap as paths
use Rattle.std.specs.Cmp.Lexicographic.{nat_list_cmp_total}
use Rattle.std.specs.List.{starts_with}
use Rattle.std.specs.Result.{result_ok}
use Rattle.std.proofs.lemmas.Slice.Eq.{bytes_eq-Decides}
use Rattle.vc_files.specs.FileMap.{FileMap, SameOutside}
use Rattle.vc_format.specs.Git.{id_of_bytes}
use Rattle.vc_lemmas.proofs.Texts.{bytes_eq_same}
use Rattle.vc_model.specs.Object.{Object, Objects}
use Rattle.vc_object.specs.Decoding.{StoredObject, decoded}
use Rattle.vc_object.specs.Object.{object_name}
use Rattle.vc_object.specs.ObjectId.{is_id}
use Rattle.vc_object.specs.ObjectMap.{ObjectMap}
use Rattle.vc_object.specs.declared.id.ObjectId.{ObjectId}
use Rattle.vc_object_map.specs.Removal.{without_object}
use Rattle.vc_object_map.specs.Store.{HasFile, IsDamaged, named, object_path, objects, stored, stored_in}
use Rattle.vc_object_map.specs.StoreFault.{IsFault, IsMet}
use Rattle.vc_object_map.specs.declared.faults.StoreFault.{StoreFault}
use Rattle.vc_object_map.specs.declared.faults.StoreFault.TheVariants.{BadObject, Absent, Damaged, Fault}
use Rattle.vc_pruning.proofs.Removals.{len-remove_there, pruned_none, pruned_one}
use Rattle.vc_model.proofs.Commits.{contains_cons}
use Rattle.vc_pruning.specs.Removing.{ShowsObjects, SparesFiles, Takes, TakesOne}
use Rattle.vc_push_rules.proofs.FrameLemmas.{objects-same}
use Rattle.vc_rules.proofs.MapLemmas.{get-unput, map_cond}
use Rattle.vc_rules.specs.Git.{stored_of}
use Rattle.vc_store.proofs.RemovalLemmas.{objects-is_some}
use Rattle.vc_store.proofs.StoreLemmas.{objects-absent, one_name}

-- ---- files

-- an object that is there has a name of twenty bytes
valid_there : (content : FileMap) (id : ObjectId) → IsSome (objects content id) → is_id id ≡ true
unfolding objects
valid_there content id some = by (is_id id) refl some
  where
    by : (b : Bool) → is_id id ≡ b → IsSome (cond b (result_ok (stored content id)) None) → is_id id ≡ true
    by true is found = is
    by false is none = absurd (true≢false (sym none))

-- the file was an object's and is gone
abbrev Goes : FileMap → FileMap → List ℕ → Type 0
Goes old new path = (id : ObjectId) × (path ≡ object_path id.0) × IsSome (objects old id) × (get new path ≡ None)

pub spares_same : (old new : FileMap) → new ≡ old → SparesFiles old new
spares_same old new same = record { each = λ path. inl (ap (λ (m : FileMap). get m path) same) }

module _ {old mid : FileMap} (first : SparesFiles old mid) where
  -- what is there then was there before
  was_there : (id : ObjectId) → IsSome (objects mid id) → IsSome (objects old id)
  was_there id some = elim (first.each (object_path id.0)) [
    | inl same ↦ subst (λ o. IsSome o) (objects-same old mid id same) some
    | inr gone ↦ absurd (true≢false (sym some ∙ ap is_some (objects-absent mid id (Absent id) (ap (stored_in id) gone.3))))
  ]

  pub spares_then : {new : FileMap} → SparesFiles mid new → SparesFiles old new
  spares_then second = record {
    each = λ path. elim (second.each path) [
      | inl same ↦ elim (first.each path) [ inl before ↦ inl (same ∙ before) | inr gone ↦ inr (gone.0, gone.1, gone.2, same ∙ gone.3) ]
      | inr gone ↦ inr (gone.0, gone.1, was_there gone.0 gone.2, gone.3)
    ];
  }

-- after a call that changed nothing
pub spares_from : {old mid new : FileMap} → mid ≡ old → SparesFiles mid new → SparesFiles old new
spares_from {new = new} same spares = subst (λ (m : FileMap). SparesFiles m new) same spares

module _ (old new : FileMap) (spares : SparesFiles old new) where
  -- what is outside of the objects' folder is as it was
  pub outside_of : SameOutside (codes "objects/") old new
  outside_of = record {
    at = λ path other. elim (spares.each path) [
      | inl same ↦ same
      | inr gone ↦ absurd (true≢false (sym (ap (λ p. starts_with nat_eq p (codes "objects/")) gone.1) ∙ other))
    ];
  }

  -- what is damaged now was so before
  pub damaged_before : (id : ObjectId) → IsDamaged new id → IsDamaged old id
  damaged_before id bad = elim (spares.each (object_path id.0)) [
    | inl same ↦ ap (stored_in id) (sym same) ∙ bad
    | inr gone ↦ absurd (let never : ◌≡◌ {A = Result StoredObject StoreFault} (Err (Absent id)) (Err (Damaged id)) = sym (ap (stored_in id) gone.3) ∙ bad in cc never)
  ]

  -- and what was damaged is so now
  pub damaged_after : (id : ObjectId) → is_id id ≡ true → IsDamaged old id → IsDamaged new id
  damaged_after id valid bad = elim (spares.each (object_path id.0)) [
    | inl same ↦ ap (stored_in id) same ∙ bad
    | inr gone ↦ absurd (
        let one : id ≡ gone.0 = ap id_of_bytes (one_name id.0 gone.0.0 valid (valid_there old gone.0 gone.2) gone.1) in
        true≢false (sym gone.2 ∙ ap (λ i. is_some (objects old i)) (sym one) ∙ ap is_some (objects-absent old id (Damaged id) bad)))
  ]

-- a file in an object's place is that object, or damaged
file_of : (id : ObjectId) (found : Option (List ℕ)) → (found ≡ None) ⊎ ((stored_in id found ≡ Err (Damaged id)) ⊎ (is_ok (stored_in id found) ≡ true))
file_of id None = inl refl
file_of id (Some bytes) = inr (by (decoded bytes))
  where
    by : (found : Option StoredObject) → (named id found ≡ Err (Damaged id)) ⊎ (is_ok (named id found) ≡ true)
    by None = inl refl
    by (Some object) = elim (bytes_eq (object_name object.kind object.body).0 id.0) as (λ b.
        (◌≡◌ {A = Result StoredObject StoreFault} (cond b (Ok object) (Err (Damaged id))) (Err (Damaged id))) ⊎ (is_ok (let r : Result StoredObject StoreFault = cond b (Ok object) (Err (Damaged id)) in r) ≡ true)) [ true ↦ inr refl | false ↦ inl refl ]

-- the file of a name that isn't damaged is taken away
module _ (old new : FileMap) (id : ObjectId) (valid : is_id id ≡ true) (whole : ¬ IsDamaged old id) (made : new ≡ paths.remove old (object_path id.0)) where
  no_file : is_some (objects old id) ≡ false → get old (object_path id.0) ≡ None
  no_file none = elim (file_of id (get old (object_path id.0))) [
    | inl absent ↦ absent
    | inr found ↦ elim found [ inl bad ↦ absurd (whole bad) | inr there ↦ absurd (true≢false (sym there ∙ sym (objects-is_some old id valid) ∙ none)) ]
  ]

  at : (path : List ℕ) (b : Bool) → bytes_eq path (object_path id.0) ≡ b → get new path ≡ cond b None (get old path)
  at path b is = ap (λ (m : FileMap). get m path) made ∙ get-unput old (object_path id.0) path ∙ ap (λ t. cond t None (get old path)) is

  pub spares_removed : SparesFiles old new
  spares_removed = record { each = λ path. by path (bytes_eq path (object_path id.0)) refl (is_some (objects old id)) refl }
    where
      by : (path : List ℕ) (b : Bool) → bytes_eq path (object_path id.0) ≡ b → (t : Bool) → is_some (objects old id) ≡ t → (get new path ≡ get old path) ⊎ Goes old new path
      by path false other t there = inl (at path false other)
      by path true same true there = inr (id, (bytes_eq-Decides path (object_path id.0)).0 same, there, at path true same)
      by path true same false none = inl (at path true same ∙ sym (ap (get old) ((bytes_eq-Decides path (object_path id.0)).0 same) ∙ no_file none))

-- ---- names
pub not_among : (names : List ObjectId) (id : ObjectId) {b : Bool} → (IsTrue b → Contains names id) × (Contains names id → IsTrue b) → b ≡ false → ¬ Contains names id
not_among names id tells differs among = true≢false (sym (tells.1 among) ∙ differs)

-- what refuses the removal of one that isn't kept
pub met_unkept : (content : FileMap) (kept : List ObjectId) (id : ObjectId) (e : StoreFault) → ¬ Contains kept id → IsFault e ⊎ ((e ≡ Damaged id) × IsDamaged content id) → IsMet (λ q. ¬ Contains kept q) (IsDamaged content) e
met_unkept content kept id (BadObject fault) free why = elim why [ inl never ↦ never | inr is ↦ absurd (cc is.0) ]
met_unkept content kept id (Absent absent) free why = elim why [ inl never ↦ never | inr is ↦ absurd (cc is.0) ]
met_unkept content kept id (Damaged damaged) free why = elim why [
  | inl never ↦ absurd never
  | inr is ↦ (let same : damaged ≡ id = cc is.0 in (subst (λ q. ¬ Contains kept q) (sym same) free, subst (IsDamaged content) (sym same) is.1))
]
met_unkept content kept id (Fault fault) free why = tt

-- what is damaged then was so before
pub blamed_before : (kept : List ObjectId) (old mid : FileMap) (e : StoreFault) → SparesFiles old mid → IsMet (λ q. ¬ Contains kept q) (IsDamaged mid) e → IsMet (λ q. ¬ Contains kept q) (IsDamaged old) e
blamed_before kept old mid (BadObject fault) spares met = met
blamed_before kept old mid (Absent absent) spares met = met
blamed_before kept old mid (Damaged damaged) spares met = (met.0, damaged_before old mid spares damaged met.1)
blamed_before kept old mid (Fault fault) spares met = met

-- ---- the machine's objects

-- whether an object is there is the same of both
there_same : (o : Option Object) → is_some (option_map stored_of o) ≡ is_some o
there_same None = refl
there_same (Some object) = refl

-- without one object
module _ (old new : FileMap) (id : ObjectId) (s : Objects) (shows : ShowsObjects old s) (gone : objects new ≡ without_object (objects old) id) where
  shows_without : ShowsObjects new (remove s id.0)
  unfolding without_object
  shows_without x =
      ap (λ (o : ObjectMap). o (id_of_bytes x)) gone
      ∙ ap (λ o. cond (bytes_eq x id.0) None o) (shows x)
      ∙ map_cond stored_of (bytes_eq x id.0) None (get s x)
      ∙ ap (option_map stored_of) (sym (get-unput s id.0 x))

  there : is_some (get s id.0) ≡ is_some (objects old id)
  there = sym (there_same (get s id.0)) ∙ ap is_some (sym (shows id.0))

  one_less : (n : ℕ) (b : Bool) → is_some (get s id.0) ≡ b → n ≡ cond b 1 0 → n + len (remove s id.0) ≡ len s
  one_less n true found is = omega (arith, is, len-remove_there nat_list_cmp_total s id.0 found)
  one_less n false none is =
      let same : len (remove s id.0) ≡ len s = len-remove nat_list_cmp_total s id.0 ∙ ap (λ b. cond b (len s - 1) (len s)) none in
      omega (arith, is, same)

  pub counted : (n : ℕ) → n ≡ cond (is_some (objects old id)) 1 0 → n + len (remove s id.0) ≡ len s
  counted n is = one_less n (is_some (get s id.0)) refl (is ∙ ap (λ b. cond b 1 0) (sym there))

-- ---- step by step
pub takes_none : (kept : List ObjectId) (old new : FileMap) → new ≡ old → Takes kept old new 0
takes_none kept old new same s shows = (s, subst (λ (m : FileMap). ShowsObjects m s) (sym same) shows, pruned_none _ s, omega arith)

pub takes_from : (kept : List ObjectId) {old mid : FileMap} (new : FileMap) (n : ℕ) → mid ≡ old → Takes kept mid new n → Takes kept old new n
takes_from kept new n same takes = subst (λ (m : FileMap). Takes kept m new n) same takes

pub takes_more : (kept : List ObjectId) (old mid new : FileMap) (id : ObjectId) (n m : ℕ) → Takes kept old mid n → TakesOne kept id mid new m → Takes kept old new (n + m)
takes_more kept old mid new id n m takes (inl keeps) s shows =
    let before = takes s shows in
    (before.0, subst (λ (c : FileMap). ShowsObjects c before.0) (sym keeps.1) before.1, before.2, omega (arith, before.3, keeps.2))
takes_more kept old mid new id n m takes (inr goes) s shows =
    let before = takes s shows in
    let left = counted mid new id before.0 before.1 goes.1 m goes.2 in (
      remove before.0 id.0,
      shows_without mid new id before.0 before.1 goes.1,
      pruned_one _ s before.0 id.0 goes.0 before.2,
      omega (arith, before.3, left),
    )

-- what is there after it was there before it
still : (mid new : FileMap) (id : ObjectId) → objects new ≡ without_object (objects mid) id → (q : ObjectId) → IsSome (objects new q) → IsSome (objects mid q)
unfolding without_object
still mid new id gone q some = by (bytes_eq q.0 id.0) (subst (λ o. IsSome o) (ap (λ (o : ObjectMap). o q) gone) some)
  where
    by : (b : Bool) → IsSome (cond b None (objects mid q)) → IsSome (objects mid q)
    by true none = absurd (true≢false (sym none))
    by false there = there

-- and is another
other : (mid new : FileMap) (id : ObjectId) → objects new ≡ without_object (objects mid) id → IsSome (objects new id) → ⊥
unfolding without_object
other mid new id gone some = true≢false (sym (subst (λ o. IsSome o) (ap (λ (o : ObjectMap). o id) gone ∙ ap (λ b. cond b None (objects mid id)) (bytes_eq_same id.0)) some))

-- what is left is kept, or its turn comes
abbrev pub IsLeft : List ObjectId → List ObjectId → ℕ → FileMap → Type 0
IsLeft kept names next content = (q : ObjectId) → IsSome (objects content q) → Contains kept q ⊎ Contains (drop next names) q

pub left_more : (kept names : List ObjectId) (next : ℕ) (mid new : FileMap) (id : ObjectId) (n : ℕ) → drop next names ≡ id ∷ drop (next + 1) names → IsLeft kept names next mid → TakesOne kept id mid new n → IsLeft kept names (next + 1) new
left_more kept names next mid new id n turn left (inl keeps) q some = by (left q (subst (λ (c : FileMap). IsSome (objects c q)) keeps.1 some))
  where
    by : Contains kept q ⊎ Contains (drop next names) q → Contains kept q ⊎ Contains (drop (next + 1) names) q
    by (inl in_kept) = inl in_kept
    by (inr later) = elim (contains_cons id (drop (next + 1) names) q (subst (λ l. Contains l q) turn later)) [ inl is ↦ inl (subst (λ i. Contains kept i) is keeps.0) | inr rest ↦ inr rest ]
left_more kept names next mid new id n turn left (inr goes) q some = by (left q (still mid new id goes.1 q some))
  where
    by : Contains kept q ⊎ Contains (drop next names) q → Contains kept q ⊎ Contains (drop (next + 1) names) q
    by (inl in_kept) = inl in_kept
    by (inr later) = elim (contains_cons id (drop (next + 1) names) q (subst (λ l. Contains l q) turn later)) [ inl is ↦ absurd (other mid new id goes.1 (subst (λ i. IsSome (objects new i)) (sym is) some)) | inr rest ↦ inr rest ]

pub left_end : (kept names : List ObjectId) (next : ℕ) (content : FileMap) → length names ≤ next → IsLeft kept names next content → (q : ObjectId) → IsSome (objects content q) → Contains kept q
left_end kept names next content end left q some = elim (left q some) [ inl in_kept ↦ in_kept | inr later ↦ absurd (let i = later.1 in omega (arith, i, length-drop next names, end)) ]

-- a damaged file is of a name that is kept, or its turn comes
abbrev pub IsPassed : List ObjectId → List ObjectId → ℕ → FileMap → Type 0
IsPassed kept names next content = (q : ObjectId) → HasFile content q → (IsDamaged content q → Contains kept q) ⊎ Contains (drop next names) q

pub passed_more : (kept names : List ObjectId) (next : ℕ) (old mid : FileMap) (id : ObjectId) → drop next names ≡ id ∷ drop (next + 1) names → SparesFiles old mid → (IsDamaged mid id → Contains kept id) → IsPassed kept names next old → IsPassed kept names (next + 1) old
passed_more kept names next old mid id turn spares whole passed q has = by (passed q has)
  where
    by : (IsDamaged old q → Contains kept q) ⊎ Contains (drop next names) q → (IsDamaged old q → Contains kept q) ⊎ Contains (drop (next + 1) names) q
    by (inl before) = inl before
    by (inr later) = elim (contains_cons id (drop (next + 1) names) q (subst (λ l. Contains l q) turn later)) [
      | inl is ↦ inl (λ bad. subst (λ i. Contains kept i) is (whole (subst (λ i. IsDamaged mid i) (sym is) (damaged_after old mid spares q has.valid bad))))
      | inr rest ↦ inr rest
    ]

-- then each file in an object's place was an object, or has one of these names
pub passed_end : (kept names : List ObjectId) (next : ℕ) (content : FileMap) → length names ≤ next → IsPassed kept names next content
    → ((q : ObjectId) → HasFile content q → IsSome (objects content q) ⊎ IsDamaged content q) → (q : ObjectId) → HasFile content q → IsSome (objects content q) ⊎ Contains kept q
passed_end kept names next content end passed found q has = elim (found q has) [
  | inl there ↦ inl there
  | inr bad ↦ elim (passed q has) [ inl before ↦ inr (before bad) | inr later ↦ absurd (let i = later.1 in omega (arith, i, length-drop next names, end)) ]
]
