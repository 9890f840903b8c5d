-- How an index is read from a tree, entry by entry.
use Rattle.std.proofs.Common.{◌≡◌, ◌≢◌, ℕ, zero, suc, ◌<◌, ◌≤◌, ◌-◌, ◌+◌, ◌*◌, true, List, ◌∷◌, ◌++◌, map, reverse, Option, Some, None, refl, ap, sym, ◌∙◌, subst, ⊎_elim, ◌⊎◌, inl, inr, append_assoc, length, arith, length-append, ◌↔◌, add-one, zero-add, []}
use Rattle.std.specs.List.{AllByRecursion, join_with_byte}
use Rattle.std.specs.FinMap.{get, insert, empty, get-empty}
use Rattle.std.specs.Ordering.{nat_cmp}
use Rattle.std.specs.Cmp.Lexicographic.{slice_cmp}
use Rattle.std.proofs.lemmas.List.{reverse-append, map-append, length-map}
use Rattle.vc_object.specs.Decoding.{stored_object}
use Rattle.vc_object.specs.Object.{object_bytes, IsBody, IsObject}
use Rattle.vc_object.specs.ObjectMap.{ObjectMap}
use Rattle.vc_object.specs.Tree.{Entry, IsEntry, IsTree, IsTreeBody, IsName, spelling}
use Rattle.vc_object.specs.Entries.{entries_of}
use Rattle.vc_object.specs.declared.kind.Kind.{Kind}
use Rattle.vc_object.proofs.Decoding.{decoded_some, decoded_again}
use Rattle.vc_object.proofs.Reading.{read_again}
use Rattle.vc_object.specs.declared.id.ObjectId.{ObjectId}
use Rattle.vc_object.specs.declared.kind.Kind.TheVariants as kinds
use Rattle.vc_object.specs.declared.mode.Mode.{Mode}
use Rattle.vc_object.specs.declared.mode.Mode.TheVariants as modes
use Rattle.vc_index.specs.HeldFiles.{Pair, under, Has, HasFile, placed}
use Rattle.vc_index.specs.IndexMap.{IndexMap, index_entry, HasConflict}
use Rattle.vc_files.specs.FileMap.{FileMap}
use Rattle.vc_object_map.specs.Store.{objects, IsDamaged}
use Rattle.vc_object_map.specs.StoreFault.{IsRefused}
use Rattle.vc_object_map.specs.declared.faults.StoreFault.{StoreFault}
use Rattle.vc_object_map.specs.declared.faults.StoreFault.TheVariants.{BadObject, Absent, Damaged, Fault}
use Rattle.vc_index.specs.declared.faults.IndexFault.{IndexFault}
use Rattle.vc_index.specs.declared.faults.IndexFault.TheVariants.{BadPath, PathConflict, BadIndex, WrongEntry, Missing, Store}
use Rattle.vc_index.specs.Loading.{ReachesEntry, IsEntryOfTree, IsOpened, IsDue, IsDueIn, IsSought, IsBlobIfDue, HasBlobs, IsOfLook, IsOfLoadIn, IsOfLoadStored, item_pair}
use Rattle.vc_index.specs.declared.loading.Item.{Item}
use Rattle.vc_index.specs.declared.loading.Look.{Look}
use Rattle.vc_index.specs.declared.loading.Look.TheVariants as looks
use Rattle.vc_index.specs.Path.{names_in, IsPath}
use Rattle.vc_index.specs.TreeFiles.{IsTreeAt, HasEntry, IsFileOfTree}
use Rattle.vc_index.specs.declared.entry.IndexEntry.{IndexEntry}
use Rattle.vc_index.proofs.FileLemmas.{one_file, no_file_below, has_front, has_back, has_parts, opened, closed, name_of_entry}
use Rattle.vc_index.proofs.MapLemmas.{got, get-insert_same}
use Rattle.vc_index.proofs.PartLemmas.{names_plain, names_parted, all_parts}
use Rattle.std.proofs.Math.Nat.{mul-le-mul_right, suc-mul}
use Rattle.std.specs.Prelude.{is_some}
use Rattle.vc_lemmas.proofs.Lists.{all_append}

-- ---- an entry of a folder is an entry of the tree
reach_more : (objects : ObjectMap) (es : List Entry) (names : List (List ℕ)) (folder : ObjectId) (inner : List Entry) (mode : Mode) (name : List ℕ) (id : ObjectId)
    → ReachesEntry objects es names modes.Tree folder → IsTreeAt objects folder inner → HasEntry inner mode name id → ReachesEntry objects es (names ++ name ∷ []) mode id
reach_more objects es [] folder inner mode name id r at has = absurd r
reach_more objects es (x ∷ []) folder inner mode name id r at has = (folder, inner, r, at, has)
reach_more objects es (x ∷ y ∷ names) folder inner mode name id r at has = (r.0, r.1, r.2, r.3, reach_more objects r.1 (y ∷ names) folder inner mode name id r.4 at has)

join_more : (x : List ℕ) (names : List (List ℕ)) (name : List ℕ) → join_with_byte 47 ((x ∷ names) ++ name ∷ []) ≡ join_with_byte 47 (x ∷ names) ++ 47 ∷ name
join_more x [] name = refl
join_more x (y ∷ names) name = ap (λ t. x ++ 47 ∷ t) (join_more y names name) ∙ sym (append_assoc x (47 ∷ join_with_byte 47 (y ∷ names)) (47 ∷ name))

first_name : (objects : ObjectMap) (es : List Entry) (x : List ℕ) (names : List (List ℕ)) (mode : Mode) (id : ObjectId) → IsTree es → ReachesEntry objects es (x ∷ names) mode id → IsName x
first_name objects es x [] mode id t r = name_of_entry es mode x id t.legal r
first_name objects es x (y ∷ names) mode id t r = name_of_entry es modes.Tree x r.0 t.legal r.2

under_join : (x : List ℕ) (names : List (List ℕ)) → x ≢ [] → under (join_with_byte 47 (x ∷ names)) ≡ join_with_byte 47 (x ∷ names) ++ 47 ∷ []
under_join [] names some = absurd (some refl)
under_join (b ∷ x) [] some = refl
under_join (b ∷ x) (y ∷ names) some = refl

pub entry_below : (objects : ObjectMap) (root : ObjectId) (path : List ℕ) (folder : ObjectId) (inner : List Entry) (mode : Mode) (name : List ℕ) (id : ObjectId)
    → IsEntryOfTree objects root path modes.Tree folder → IsTreeAt objects folder inner → HasEntry inner mode name id → IsEntryOfTree objects root (under path ++ name) mode id
entry_below objects root path folder inner mode name id (inl top) at has =
    inr (inner, name ∷ [], subst (λ (r : ObjectId). IsTreeAt objects r inner) top.2 at, ap (λ p. under p ++ name) top.0, has)
entry_below objects root path folder inner mode name id (inr (es, names, there, is, reach)) at has = by_names names is reach
  where
    by_names : (names : List (List ℕ)) → path ≡ join_with_byte 47 names → ReachesEntry objects es names modes.Tree folder → IsEntryOfTree objects root (under path ++ name) mode id
    by_names [] is reach = absurd reach
    by_names (x ∷ names) is reach = inr (
      es,
      (x ∷ names) ++ name ∷ [],
      there,
      ap (λ p. under p ++ name) is ∙ ap (λ p. p ++ name) (under_join x names (first_name objects es x names modes.Tree folder there.tree reach).some) ∙ append_assoc (join_with_byte 47 (x ∷ names)) (47 ∷ []) name ∙ sym (join_more x names name),
      reach_more objects es (x ∷ names) folder inner mode name id reach at has,
    )

-- ---- lists the other way round
reverse-cons : {X : Type 0} (x : X) (xs : List X) → reverse (x ∷ xs) ≡ reverse xs ++ x ∷ []
reverse-cons x xs = reverse-append (x ∷ []) xs

module _ (objects : ObjectMap) (path : List ℕ) (mode : Mode) (id : ObjectId) where
  has_reverse : (es : List Pair) → HasFile objects es path mode id → HasFile objects (reverse es) path mode id
  has_reverse [] h = absurd h
  has_reverse (e ∷ es) h = subst (λ (l : List Pair). HasFile objects l path mode id) (sym (reverse-cons e es)) (⊎_elim
      (λ x. has_back objects path mode id (reverse es) (e ∷ []) (inl x))
      (λ x. has_front objects path mode id (reverse es) (e ∷ []) (has_reverse es x))
      h)

  reverse_has : (es : List Pair) → HasFile objects (reverse es) path mode id → HasFile objects es path mode id
  reverse_has [] h = h
  reverse_has (e ∷ es) h = ⊎_elim
      (λ x. inr (reverse_has es x))
      (λ x. ⊎_elim (λ y. inl y) (λ y. absurd y) x)
      (has_parts objects path mode id (reverse es) (e ∷ []) (subst (λ (l : List Pair). HasFile objects l path mode id) (reverse-cons e es) h))

pub all_reverse : {X : Type 0} (P : X → Type 0) (xs : List X) → AllByRecursion P xs → AllByRecursion P (reverse xs)
all_reverse P [] a = tt
all_reverse P (x ∷ xs) a = subst (AllByRecursion P) (sym (reverse-cons x xs)) (all_append P (reverse xs) (x ∷ []) (all_reverse P xs a.1) (a.0, tt))

-- ---- what has been read so far
pub record Loading (objects : ObjectMap) (root : ObjectId) (items : List Pair) (m : IndexMap) : Type 0 where
  pub same : (path : List ℕ) (mode : Mode) (id : ObjectId) → (HasFile objects items path mode id ⊎ (get m path ≡ Some (index_entry mode id))) ↔ IsFileOfTree objects root path mode id
  pub each : AllByRecursion (λ (e : Pair). IsEntryOfTree objects root e.0 e.1.mode e.1.id) items

nothing_got : (q : List ℕ) (v : IndexEntry) → get (empty {X = IndexEntry} {R = slice_cmp nat_cmp}) q ≡ Some v → ⊥
nothing_got q v e = let z : None ≡ Some v = sym (get-empty (slice_cmp nat_cmp) q) ∙ e in cc z

pub load_start : (objects : ObjectMap) (root : ObjectId) → Loading objects root (([], index_entry modes.Tree root) ∷ []) empty
load_start objects root = record {
  same = λ path mode id. (
    λ h. ⊎_elim
        (λ has. ⊎_elim
        (λ here. ⊎_elim
        (λ file. absurd (file.0 refl))
        (λ tree. subst (λ (p : List ℕ). IsFileOfTree objects root p mode id) (sym tree.1.1) tree.1.2)
        here)
        (λ none. absurd none)
        has)
        (λ none. absurd (nothing_got path (index_entry mode id) none))
        h,
    λ f. inl (inl (inr (refl, (path, refl, f)))),
  );
  each = (inl (refl, refl, refl), tt);
}

module _ (objects : ObjectMap) (root : ObjectId) (items : List Pair) (path : List ℕ) (entry : IndexEntry) (m : IndexMap) (l : Loading objects root (items ++ (path, entry) ∷ []) m) where
  pub item_entry : IsEntryOfTree objects root path entry.mode entry.id
  item_entry = (all_parts (λ (e : Pair). IsEntryOfTree objects root e.0 e.1.mode e.1.id) items ((path, entry) ∷ []) l.each).1.0

  is_file : entry.mode ≢ modes.Tree → IsFileOfTree objects root path entry.mode entry.id
  is_file file = (l.same path entry.mode entry.id).0 (inl (has_back objects path entry.mode entry.id items ((path, entry) ∷ []) (inl (inl (file, refl, refl, refl)))))

  -- no file that was read conflicts with one that is met
  pub no_conflict : entry.mode ≢ modes.Tree → HasConflict m path → ⊥
  no_conflict file (other, some, way) =
      let found = value_of (get m other) some in
      let there : IsFileOfTree objects root other found.0.mode found.0.id = (l.same other found.0.mode found.0.id).0 (inr found.1) in
      ⊎_elim
      (λ above. no_file_below objects root other path above.0 found.0.mode entry.mode found.0.id entry.id there (is_file file) above.1)
      (λ below. no_file_below objects root path other below.0 entry.mode found.0.mode entry.id found.0.id (is_file file) there below.1)
      way
    where
      value_of : (o : Option IndexEntry) → is_some o ≡ true → (v : IndexEntry) × (o ≡ Some v)
      value_of None s = absurd (cc s)
      value_of (Some v) s = (v, refl)

  -- a file is taken in
  pub load_file : entry.mode ≢ modes.Tree → Loading objects root items (insert m path entry)
  load_file file = record {
    same = λ q mode id. (
      λ h. ⊎_elim
          (λ has. (l.same q mode id).0 (inl (has_front objects q mode id items ((path, entry) ∷ []) has)))
          (λ at. ⊎_elim
          (λ here.
          let v : entry ≡ index_entry mode id = let e : Some entry ≡ Some (index_entry mode id) = sym (get-insert_same m path entry) ∙ ap (get (insert m path entry)) (sym here) ∙ at in cc e in
          subst (λ (p : List ℕ). IsFileOfTree objects root p mode id) (sym here) (subst (λ (k : IndexEntry). IsFileOfTree objects root path k.mode k.id) v (is_file file)))
          (λ old. (l.same q mode id).0 (inr (sym old ∙ at)))
          (got m path q entry))
          h,
      λ f. ⊎_elim
          (λ has. ⊎_elim
          (λ x. inl x)
          (λ x. ⊎_elim
          (λ y. ⊎_elim
          (λ it. inr (subst (λ (p : List ℕ). get (insert m path entry) p ≡ Some (index_entry mode id)) it.1 (get-insert_same m path entry ∙ ap (λ k. Some k) (λ i. index_entry (it.2 i) (it.3 i)))))
          (λ tree. absurd (file tree.0))
          y)
          (λ none. absurd none)
          x)
          (has_parts objects q mode id items ((path, entry) ∷ []) has))
          (λ at. ⊎_elim
          (λ here.
          let there : IsFileOfTree objects root path mode id = subst (λ (p : List ℕ). IsFileOfTree objects root p mode id) here f in
          let both = one_file objects root path entry.mode mode entry.id id (is_file file) there in
          inr (subst (λ (p : List ℕ). get (insert m path entry) p ≡ Some (index_entry mode id)) (sym here) (get-insert_same m path entry ∙ ap (λ k. Some k) (λ i. index_entry (both.0 i) (both.1 i)))))
          (λ old. inr (old ∙ at))
          (got m path q entry))
          ((l.same q mode id).1 f),
    );
    each = (all_parts (λ (e : Pair). IsEntryOfTree objects root e.0 e.1.mode e.1.id) items ((path, entry) ∷ []) l.each).0;
  }

  entries_each : (es gs : List Entry) → IsTreeAt objects entry.id es → entry.mode ≡ modes.Tree → ((e : Entry) → HasEntry gs e.mode e.name e.id → HasEntry es e.mode e.name e.id)
      → AllByRecursion (λ (e : Pair). IsEntryOfTree objects root e.0 e.1.mode e.1.id) (map (placed (under path)) gs)
  entries_each es [] at tree inside = tt
  entries_each es (g ∷ gs) at tree inside = (
    entry_below objects root path entry.id es g.mode g.name g.id (subst (λ (k : Mode). IsEntryOfTree objects root path k entry.id) tree item_entry) at (inside g (inl (refl, refl, refl))),
    entries_each es gs at tree (λ e h. inside e (inr h)),
  )

  -- a folder is opened
  pub load_tree : (es : List Entry) (more : List Pair) → entry.mode ≡ modes.Tree → IsTreeAt objects entry.id es → more ≡ reverse (map (placed (under path)) es) → Loading objects root (items ++ more) m
  load_tree es more tree at is = record {
    same = λ q mode id.
        let pair : Has objects (path, entry) q mode id ↔ Has objects (path, index_entry modes.Tree entry.id) q mode id = subst (λ (k : Mode). Has objects (path, index_entry k entry.id) q mode id ↔ Has objects (path, index_entry modes.Tree entry.id) q mode id) (sym tree) (λ x. x, λ x. x) in (
          λ h. (l.same q mode id).0 (⊎_elim
              (λ has. ⊎_elim
              (λ x. inl (has_front objects q mode id items ((path, entry) ∷ []) x))
              (λ x. inl (has_back objects q mode id items ((path, entry) ∷ []) (inl (pair.1 (closed objects q mode id path entry.id es at (reverse_has objects q mode id (map (placed (under path)) es) (subst (λ (g : List Pair). HasFile objects g q mode id) is x)))))))
              (has_parts objects q mode id items more has))
              (λ got. inr got)
              h),
          λ f. ⊎_elim
              (λ has. ⊎_elim
              (λ x. inl (has_front objects q mode id items more x))
              (λ x. ⊎_elim
              (λ y. inl (has_back objects q mode id items more (subst (λ (g : List Pair). HasFile objects g q mode id) (sym is) (has_reverse objects q mode id (map (placed (under path)) es) (opened objects q mode id path entry.id es at (pair.0 y))))))
              (λ none. absurd none)
              x)
              (has_parts objects q mode id items ((path, entry) ∷ []) has))
              (λ got. inr got)
              ((l.same q mode id).1 f),
        );
    each = all_append (λ (e : Pair). IsEntryOfTree objects root e.0 e.1.mode e.1.id) items more (all_parts (λ (e : Pair). IsEntryOfTree objects root e.0 e.1.mode e.1.id) items ((path, entry) ∷ []) l.each).0
        (subst (AllByRecursion (λ (e : Pair). IsEntryOfTree objects root e.0 e.1.mode e.1.id)) (sym is)
        (all_reverse (λ (e : Pair). IsEntryOfTree objects root e.0 e.1.mode e.1.id) (map (placed (under path)) es) (entries_each es es at tree (λ e h. h))));
  }

-- ---- paths of items
abbrev pub IsNamed : Pair → Type 0
IsNamed e = ((e.0 ≡ []) × (e.1.mode ≡ modes.Tree)) ⊎ AllByRecursion IsName (names_in e.0)

placed_names : (path : List ℕ) (entry : IndexEntry) (name : List ℕ) → IsName name → IsNamed (path, entry) → AllByRecursion IsName (names_in (under path ++ name))
placed_names [] entry name n h = subst (AllByRecursion IsName) (sym (names_plain name n.no_slash)) (n, tt)
placed_names (x ∷ path) entry name n h = ⊎_elim
    (λ none. let e = none.0 in absurd (cc e))
    (λ all. subst (AllByRecursion IsName) (sym (names_parted (x ∷ path) name n.no_slash)) (all_append IsName (names_in (x ∷ path)) (name ∷ []) all (n, tt)))
    h

named_entries : (path : List ℕ) (entry : IndexEntry) (es : List Entry) → IsNamed (path, entry) → AllByRecursion IsEntry es → AllByRecursion IsNamed (map (placed (under path)) es)
named_entries path entry [] h a = tt
named_entries path entry (e ∷ es) h a = (inr (placed_names path entry e.name a.0.name h), named_entries path entry es h a.1)

pub named_more : (path : List ℕ) (entry : IndexEntry) (es : List Entry) (items more : List Pair) → AllByRecursion IsNamed (items ++ (path, entry) ∷ []) → IsTree es → more ≡ reverse (map (placed (under path)) es) → AllByRecursion IsNamed (items ++ more)
named_more path entry es items more named tree is =
    let parts = all_parts IsNamed items ((path, entry) ∷ []) named in
    all_append IsNamed items more parts.0 (subst (AllByRecursion IsNamed) (sym is) (all_reverse IsNamed (map (placed (under path)) es) (named_entries path entry es parts.1.0 tree.legal)))

-- ---- the work that is left: no item can have so many entries below as an item one level up counts for
weight : ℕ → ℕ
weight zero = 1
weight (suc k) = 33554432 * weight k

weight_some : (k : ℕ) → 0 < weight k
unfolding weight
weight_some zero = omega arith
weight_some (suc k) = let w = weight_some k in omega (arith, w)

grow : (a b : ℕ) → a ≤ b → a ≤ 33554432 * b
grow a b h = omega (arith, h)

weight_up : (j d : ℕ) → weight j ≤ weight (d + j)
unfolding weight
weight_up j zero = subst (λ (n : ℕ). weight j ≤ weight n) (sym (zero-add j)) (omega arith)
weight_up j (suc d) = subst (λ (n : ℕ). weight j ≤ weight n) (let e : suc (d + j) ≡ suc d + j = omega arith in e) (grow (weight j) (weight (d + j)) (weight_up j d))

weight_le : (j k : ℕ) → j ≤ k → weight j ≤ weight k
weight_le j k h = subst (λ (n : ℕ). weight j ≤ weight n) (let e : (k - j) + j ≡ k = omega arith in e) (weight_up j (k - j))

weight_next : (k : ℕ) → weight (k + 1) ≡ 33554432 * weight k
unfolding weight
weight_next k = ap weight (add-one k)

pub work : List Pair → ℕ
work [] = 0
work (e ∷ es) = weight (4098 - length e.0) + work es

work-append : (es gs : List Pair) → work (es ++ gs) ≡ work es + work gs
unfolding work
work-append [] gs = sym (zero-add (work gs))
work-append (e ∷ es) gs = let w = work-append es gs in omega (arith, w)

pub work_less : (es : List Pair) (e : Pair) → work es < work (es ++ e ∷ [])
unfolding work
work_less es e = let a = work-append es (e ∷ []) in let w = weight_some (4098 - length e.0) in omega (arith, a, w)

work_few : (n w : ℕ) (es : List Pair) → AllByRecursion (λ (e : Pair). n < length e.0) es → weight (4098 - (n + 1)) ≤ w → work es ≤ length es * w
unfolding work
work_few n w [] a h = omega arith
work_few n w (e ∷ es) a h =
    let rest = work_few n w es a.1 h in
    let first : weight (4098 - length e.0) ≤ w = let k = weight_le (4098 - length e.0) (4098 - (n + 1)) (let l = a.0 in omega (arith, l)) in omega (arith, k, h) in
    let total : suc (length es) * w ≡ length es * w + w = suc-mul (length es) w in
    omega (arith, rest, first, total)

pub work_opened : (es more : List Pair) (e : Pair) → length e.0 ≤ 4096 → length more ≤ 16777216 → AllByRecursion (λ (g : Pair). length e.0 < length g.0) more → work (es ++ more) < work (es ++ e ∷ [])
unfolding work
work_opened es more e short few longer =
    let w = weight (4098 - (length e.0 + 1)) in
    let up : weight (4098 - length e.0) ≡ 33554432 * w = ap weight (let n : 4098 - length e.0 ≡ (4098 - (length e.0 + 1)) + 1 = omega arith in n) ∙ weight_next (4098 - (length e.0 + 1)) in
    let some = weight_some (4098 - (length e.0 + 1)) in
    let a = work-append es more in
    let b = work-append es (e ∷ []) in
    let m = work_few (length e.0) w more longer (omega arith) in
    let n : length more * w ≤ 16777216 * w = mul-le-mul_right w few in
    omega (arith, up, some, a, b, m, n)

longer_entries : (path : List ℕ) (es : List Entry) → AllByRecursion IsEntry es → AllByRecursion (λ (g : Pair). length path < length g.0) (map (placed (under path)) es)
longer_entries path [] a = tt
longer_entries path (e ∷ es) a = (one path e.name a.0.name.some, longer_entries path es a.1)
  where
    one : (path name : List ℕ) → name ≢ [] → length path < length (under path ++ name)
    one [] [] some = absurd (some refl)
    one [] (x ∷ name) some = omega arith
    one (y ∷ path) name some = omega (arith, length-append ((y ∷ path) ++ 47 ∷ []) name, length-append (y ∷ path) (47 ∷ []))

pub longer_more : (path : List ℕ) (es : List Entry) (more : List Pair) → IsTree es → more ≡ reverse (map (placed (under path)) es) → AllByRecursion (λ (g : Pair). length path < length g.0) more
longer_more path es more tree is = subst (AllByRecursion (λ (g : Pair). length path < length g.0)) (sym is) (all_reverse (λ (g : Pair). length path < length g.0) (map (placed (under path)) es) (longer_entries path es tree.legal))

pub map_reverse : {X Y : Type 0} (f : X → Y) (xs : List X) → map f (reverse xs) ≡ reverse (map f xs)
map_reverse f [] = refl
map_reverse f (x ∷ xs) = ap (map f) (reverse-cons x xs) ∙ map-append f (reverse xs) (x ∷ []) ∙ ap (λ r. r ++ f x ∷ []) (map_reverse f xs) ∙ sym (reverse-cons (f x) (map f xs))

-- ---- a folder's item
module _ (honest : Type 0) (content : FileMap) (root : ObjectId) (item : Item) (items new : List Item) (m : IndexMap) (o : IsOpened honest content item items new) where
  pairs_new : map item_pair new ≡ map item_pair items ++ map item_pair o.more
  pairs_new = ap (map item_pair) o.is ∙ map-append item_pair items o.more

  pub opened_named : AllByRecursion IsNamed (map item_pair items ++ item_pair item ∷ []) → AllByRecursion IsNamed (map item_pair new)
  opened_named named = subst (AllByRecursion IsNamed) (sym pairs_new) (named_more item.path.items item.entry (entries_of o.body) (map item_pair items) (map item_pair o.more) named o.tree o.entries)

  pub opened_less : length item.path.items ≤ 4096 → work (map item_pair new) < work (map item_pair items ++ item_pair item ∷ [])
  opened_less short = subst (λ (l : List Pair). work l < work (map item_pair items ++ item_pair item ∷ [])) (sym pairs_new)
      (work_opened (map item_pair items) (map item_pair o.more) (item_pair item) short (subst (λ (n : ℕ). n ≤ 16777216) (sym (length-map o.more item_pair)) o.few) (longer_more item.path.items (entries_of o.body) (map item_pair o.more) o.tree o.entries))

  pub opened_loading : honest → item.entry.mode ≡ modes.Tree → Loading (objects content) root (map item_pair items ++ item_pair item ∷ []) m → Loading (objects content) root (map item_pair new) m
  opened_loading h tree l =
      let at : IsTreeAt (objects content) item.entry.id (entries_of o.body) = record { stored = o.stored h ∙ ap (λ b. Some (stored_object kinds.Tree b)) (sym o.spelled); tree = o.tree } in
      subst (λ (g : List Pair). Loading (objects content) root g m) (sym pairs_new) (load_tree (objects content) root (map item_pair items) item.path.items item.entry m l (entries_of o.body) (map item_pair o.more) tree at o.entries)

-- an object whose body is a tree's
pub tree_object_of : (kind : Kind) (body : List ℕ) → ∥ IsObject kind body ∥₁ → kind ≡ kinds.Tree → IsTree (entries_of body) × (spelling (entries_of body) ≡ body) × (length body ≤ 16777216)
tree_object_of kind body sound is =
    let object : IsObject kind body = (decoded_some (object_bytes kind body) (stored_object kind body) (decoded_again (object_bytes kind body) kind body sound refl)).object in
    let t : IsTreeBody body = subst (λ (k : Kind). IsBody k body) is object.grammar in
    let same : entries_of body ≡ t.0 = read_again t.0 body t.1 t.2 in
    (subst IsTree (sym same) t.1, ap spelling same ∙ sym t.2, object.size)

-- ---- refusals
due_file : (mode : Mode) (kind : Kind) → IsDue mode kind → mode ≢ modes.Commit
due_file modes.Tree kind d e = cc e
due_file modes.File kind d e = cc e
due_file modes.SharedFile kind d e = cc e
due_file modes.Executable kind d e = cc e
due_file modes.Link kind d e = cc e
due_file modes.Commit kind d e = d

pub sought_if_due : (look : Look) (mode : Mode) (kind : Kind) → IsDueIn look mode kind → IsSought look mode
sought_if_due looks.Trees mode kind due = due.0
sought_if_due looks.All mode kind due = due_file mode kind due

pub due_tree : (look : Look) (mode : Mode) → mode ≡ modes.Tree → IsDueIn look mode kinds.Tree
due_tree looks.Trees mode is = (is, refl)
due_tree looks.All mode is = subst (λ (m : Mode). IsDue m kinds.Tree) (sym is) refl

blob_if_file : (mode : Mode) → mode ≢ modes.Commit → mode ≢ modes.Tree → IsDue mode kinds.Blob
blob_if_file modes.Tree commit tree = absurd (tree refl)
blob_if_file modes.File commit tree = refl
blob_if_file modes.SharedFile commit tree = refl
blob_if_file modes.Executable commit tree = refl
blob_if_file modes.Link commit tree = refl
blob_if_file modes.Commit commit tree = absurd (commit refl)

pub due_blob : (look : Look) (mode : Mode) → look ≡ looks.All → mode ≢ modes.Commit → mode ≢ modes.Tree → IsDueIn look mode kinds.Blob
due_blob look mode all commit tree = subst (λ (l : Look). IsDueIn l mode kinds.Blob) (sym all) (blob_if_file mode commit tree)

stored_load : (honest : Type 0) (content : FileMap) (root : ObjectId) (item : Item) → (honest → IsEntryOfTree (objects content) root item.path.items item.entry.mode item.entry.id)
    → (fault : StoreFault) → IsRefused item.entry.id (honest → IsDamaged content item.entry.id) fault → IsOfLoadStored honest content root fault
stored_load honest content root item there (BadObject fault) h = h
stored_load honest content root item there (Absent absent) h = h
stored_load honest content root item there (Damaged id) h = λ hn.
    (subst (λ (i : ObjectId). IsDamaged content i) (sym h.0) (h.1 hn), (item.path.items, item.entry.mode, subst (λ (i : ObjectId). IsEntryOfTree (objects content) root item.path.items item.entry.mode i) (sym h.0) (there hn)))
stored_load honest content root item there (Fault fault) h = tt

pub look_load : (look : Look) (honest : Type 0) (content : FileMap) (root : ObjectId) (item : Item) (kind : Kind) → (honest → IsEntryOfTree (objects content) root item.path.items item.entry.mode item.entry.id) → IsDueIn look item.entry.mode kind
    → (e : IndexFault) → IsOfLook honest content kind item e → IsOfLoadIn look honest content root e
look_load look honest content root item kind there due BadPath h = absurd h
look_load look honest content root item kind there due PathConflict h = absurd h
look_load look honest content root item kind there due (BadIndex place) h = absurd h
look_load look honest content root item kind there due (WrongEntry at) h = λ hn.
    let o = h.1 hn in
    (item.entry.mode, item.entry.id, kind, o.0, subst (λ (p : List ℕ). IsEntryOfTree (objects content) root p item.entry.mode item.entry.id) (sym h.0) (there hn), due, o.1, o.2)
look_load look honest content root item kind there due (Missing id) h = λ hn. (
  item.path.items,
  item.entry.mode,
  subst (λ (i : ObjectId). IsEntryOfTree (objects content) root item.path.items item.entry.mode i) (sym h.0) (there hn),
  sought_if_due look item.entry.mode kind due,
  h.1 hn,
)
look_load look honest content root item kind there due (Store fault) h = stored_load honest content root item there fault h

-- ---- the items, before and after one is taken
pub taken : (all rest : List Item) (item : Item) → all ≡ rest ++ item ∷ [] → map item_pair all ≡ map item_pair rest ++ item_pair item ∷ []
taken all rest item is = ap (map item_pair) is ∙ map-append item_pair rest (item ∷ [])

pub rest_named : (rest : List Item) (item : Item) → AllByRecursion IsNamed (map item_pair rest ++ item_pair item ∷ []) → AllByRecursion IsNamed (map item_pair rest)
rest_named rest item n = (all_parts IsNamed (map item_pair rest) (item_pair item ∷ []) n).0

pub item_legal : (rest : List Item) (item : Item) → AllByRecursion IsNamed (map item_pair rest ++ item_pair item ∷ []) → item.entry.mode ≢ modes.Tree → length item.path.items ≤ 4096 → IsPath item.path.items
item_legal rest item n file short = ⊎_elim
    (λ top. absurd (file top.1))
    (λ names. record { names = names; short = short })
    (all_parts IsNamed (map item_pair rest) (item_pair item ∷ []) n).1.0

pub load_ends : (objects : ObjectMap) (root : ObjectId) (items : List Pair) (m : IndexMap) → items ≡ [] → Loading objects root items m
    → (path : List ℕ) (mode : Mode) (id : ObjectId) → IsFileOfTree objects root path mode id ↔ (get m path ≡ Some (index_entry mode id))
load_ends objects root items m none l path mode id = (
  λ f. ⊎_elim (λ has. absurd (subst (λ (g : List Pair). HasFile objects g path mode id) none has)) (λ at. at) ((l.same path mode id).1 f),
  λ at. (l.same path mode id).0 (inr at),
)

-- ---- blobs
pub blobs_start : (objects : ObjectMap) → HasBlobs objects empty
blobs_start objects path entry at = absurd (nothing_got path entry at)

pub blobs_more : (objects : ObjectMap) (m : IndexMap) (path : List ℕ) (entry : IndexEntry) → HasBlobs objects m → IsBlobIfDue objects entry → HasBlobs objects (insert m path entry)
blobs_more objects m path entry all one q v at = ⊎_elim
    (λ here.
    let same : entry ≡ v = let e : Some entry ≡ Some v = sym (get-insert_same m path entry) ∙ ap (get (insert m path entry)) (sym here) ∙ at in cc e in
    subst (IsBlobIfDue objects) same one)
    (λ old. all q v (sym old ∙ at))
    (got m path q entry)
