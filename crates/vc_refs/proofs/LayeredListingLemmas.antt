-- The loose refs are put over the packed ones, path by path, and taken away when all are packed.
use Rattle.std.proofs.Common.{◌≡◌, ℕ, zero, suc, get_or, Bool, true, false, cond, ◌||◌, ◌⊎◌, inl, inr, true≢false, nat_eq, List, ◌∷◌, ◌++◌, map, length, ◌<◌, Option, Some, None, Err, sym, ap, refl, ◌∙◌, subst, arith, [], append_assoc, append-nil}
use Rattle.std.specs.Global.{Global}
use Rattle.std.specs.Prelude.{◌≢◌, String, bytes_eq, codes, is_some, string_bytes, option_and_then, option_map}
use Rattle.std.specs.List.{starts_with}
use Rattle.std.specs.Option.{option_or}
use Rattle.std.specs.Ordering.{nat_cmp, eq_by_cmp}
use Rattle.std.specs.declared.cmp.Ordering.{Ordering}
use Rattle.std.specs.declared.cmp.Ordering.TheVariants.{Greater}
use Rattle.std.specs.Cmp.Lexicographic.{slice_cmp, nat_list_cmp_total}
use Rattle.std.specs.FinMap.{entries, entries_sorted, get-entries, get-insert, insert}
use Rattle.std.specs.FinMap as files
use Rattle.std.proofs.lemmas.Bool.{and_parts, and_from, false_from_ne_true}
use Rattle.std.proofs.lemmas.List.Folds.{list_any-append}
use Rattle.std.proofs.lemmas.Map.Text.{is_eq-slice_cmp}
use Rattle.std.proofs.lemmas.Slice.Eq.{bytes_eq-Decides}
use Rattle.std.proofs.Math.Bool.{or-false, or-true}
use Rattle.vc_files.specs.FileMap.{FileMap, paths_under}
use Rattle.vc_files.proofs.FileMapLemmas.{get-put, get-unput}
use Rattle.vc_lemmas.proofs.Texts.{split_from_starts}
use Rattle.vc_object.specs.declared.id.ObjectId.{ObjectId}
use Rattle.vc_refs.specs.Head.{head_of, read_head, said, KeepsOutside}
use Rattle.vc_refs.specs.LooseFault as loose
use Rattle.vc_refs.specs.Packing.{is_one_of, loose_at, with_all, with_first, with_loose, AreGone, AreGood, AreInRefs, HasLoose, HasNoLoose, IsMapOf, IsPackedFrom, LosesSome}
use Rattle.vc_refs.specs.RefFault.{BlamesFolder, BlamesList, BlamesPacked, BlamesPacking, IsFirstBadRef, TellsDevice}
use Rattle.vc_refs.specs.Refs.{is_taken, loose_refs, packed_at, packed_map, packed_path, refs, IsBadRef, IsGoodPackedFile, SpellsRefs}
use Rattle.vc_refs.specs.Packed.{PackedMap, PackedRef, packed_refs, packed_text}
use Rattle.vc_refs.specs.RefMap.{RefMap, IsFirstFolder, IsInRefs, IsListOf, IsRefMap, entry_at}
use Rattle.vc_refs.specs.declared.faults.RefFault.{RefFault}
use Rattle.vc_refs.specs.declared.faults.RefFault.TheVariants.{Stale, Conflict, BadRefFile, HeadLoop, Fault}
use Rattle.vc_refs.proofs.LayeredLemmas.{good_packed_file, refs-loose, refs-packed, packed_map-there, packed_untaken, taken_inside}
use Rattle.vc_refs.proofs.ListingLemmas.{AllGood, spells_refs}
use Rattle.vc_refs.proofs.PackedLemmas.{of_T}
use Rattle.vc_refs.proofs.PathLemmas.{is_among-paths_under, same_path, head_among, not_above_itself}
use Rattle.vc_refs.proofs.RefsLemmas.{bad_from_none, loose-same}

abbrev by_bytes : List ℕ → List ℕ → Ordering
by_bytes = slice_cmp nat_cmp

-- ---- all refs in one map
-- the packed refs, and over them the loose ones of these paths
pub record IsMerged (content : FileMap) (paths : List (List ℕ)) (packed : PackedMap) : Type 0 where
  pub at : (q : List ℕ) → files.get packed q ≡ option_or (cond (is_one_of q paths) (loose_refs content q) None) (packed_at (packed_map content) q)

pub none_merged : (content : FileMap) (packed : PackedMap) → packed_map content ≡ Some packed → IsMerged content [] packed
none_merged content packed read = record { at = λ q. ap (λ m. packed_at m q) (sym read) }

either_none : (b : Bool) → ◌≡◌ {A = Option ObjectId} (cond b None None) None
either_none true = refl
either_none false = refl

one_of_more : (q p : List ℕ) (paths : List (List ℕ)) → is_one_of q (paths ++ p ∷ []) ≡ (is_one_of q paths || (eq_by_cmp by_bytes q p || false))
one_of_more q p paths = list_any-append (eq_by_cmp by_bytes q) paths (p ∷ [])

module _ (content : FileMap) (paths : List (List ℕ)) (p : List ℕ) (packed : PackedMap) (so_far : IsMerged content paths packed) where
  abbrev Goal : (q : List ℕ) → PackedMap → Type 0
  Goal q m = files.get m q ≡ option_or (cond (is_one_of q (paths ++ p ∷ [])) (loose_refs content q) None) (packed_at (packed_map content) q)

  told : (q : List ℕ) (b : Bool) → eq_by_cmp by_bytes q p ≡ b → is_one_of q (paths ++ p ∷ []) ≡ (is_one_of q paths || b)
  told q b is = one_of_more q p paths ∙ ap (λ c. is_one_of q paths || c) (or-false (eq_by_cmp by_bytes q p) ∙ is)

  elsewhere : (q : List ℕ) → eq_by_cmp by_bytes q p ≡ false → is_one_of q (paths ++ p ∷ []) ≡ is_one_of q paths
  elsewhere q other = told q false other ∙ or-false (is_one_of q paths)

  as_before : (q : List ℕ) → eq_by_cmp by_bytes q p ≡ false → Goal q packed
  as_before q other = so_far.at q ∙ ap (λ b. option_or (cond b (loose_refs content q) None) (packed_at (packed_map content) q)) (sym (elsewhere q other))

  none_here : (q : List ℕ) → loose_refs content q ≡ None → Goal q packed
  none_here q none =
      so_far.at q ∙ ap (λ o. option_or (cond (is_one_of q paths) o None) (packed_at (packed_map content) q)) none
      ∙ ap (λ o. option_or o (packed_at (packed_map content) q)) (either_none (is_one_of q paths) ∙ sym (either_none (is_one_of q (paths ++ p ∷ []))))
      ∙ ap (λ o. option_or (cond (is_one_of q (paths ++ p ∷ [])) o None) (packed_at (packed_map content) q)) (sym none)

  some_here : (q : List ℕ) (id : ObjectId) → loose_refs content p ≡ Some id → (b : Bool) → eq_by_cmp by_bytes q p ≡ b → cond b (Some id) (files.get packed q) ≡ option_or (cond (is_one_of q (paths ++ p ∷ [])) (loose_refs content q) None) (packed_at (packed_map content) q)
  some_here q id is true same =
      ap (λ o. option_or o (packed_at (packed_map content) q)) (sym (ap (loose_refs content) (same_path q p same) ∙ is))
      ∙ ap (λ b. option_or (cond b (loose_refs content q) None) (packed_at (packed_map content) q)) (sym (told q true same ∙ or-true (is_one_of q paths)))
  some_here q id is false other = as_before q other

  by_value : (o : Option ObjectId) → loose_refs content p ≡ o → (q : List ℕ) → Goal q (with_loose packed p o)
  by_value None is q = elim (eq_by_cmp by_bytes q p) as (λ b. eq_by_cmp by_bytes q p ≡ b → Goal q packed) [
    | true ↦ λ same. none_here q (ap (loose_refs content) (same_path q p same) ∙ is)
    | false ↦ λ other. as_before q other
  ] refl
  by_value (Some id) is q = get-insert nat_list_cmp_total packed p id q ∙ some_here q id is (eq_by_cmp by_bytes q p) refl

  -- one path more
  pub one_merged : (new : PackedMap) → new ≡ with_loose packed p (loose_refs content p) → IsMerged content (paths ++ p ∷ []) new
  one_merged new is = record { at = λ q. ap (λ (m : PackedMap). files.get m q) is ∙ by_value (loose_refs content p) refl q }

-- what is put over the refs of these paths, if those of some first paths are there
pub loose_merged : (content : FileMap) (front paths : List (List ℕ)) (packed : PackedMap) → IsMerged content front packed → IsMerged content (front ++ paths) (with_all packed (loose_at content paths))
loose_merged content front [] packed so_far = subst (λ (ps : List (List ℕ)). IsMerged content ps packed) (sym (append-nil front)) so_far
loose_merged content front (p ∷ paths) packed so_far =
    let here : IsMerged content (front ++ p ∷ []) (with_loose packed p (loose_refs content p)) = one_merged content front p packed so_far _ refl in
    subst (λ (m : PackedMap). IsMerged content (front ++ p ∷ paths) m) (sym (first (loose_refs content p)))
    (subst (λ (ps : List (List ℕ)). IsMerged content ps (with_all (with_loose packed p (loose_refs content p)) (loose_at content paths))) (append_assoc front (p ∷ []) paths)
    (loose_merged content (front ++ p ∷ []) paths (with_loose packed p (loose_refs content p)) here))
  where
    first : (o : Option ObjectId) → with_all packed (with_first (option_map (λ id. (p, id)) o) (loose_at content paths)) ≡ with_all (with_loose packed p o) (loose_at content paths)
    first None = refl
    first (Some id) = refl

-- the refs of one path more
pub loose_at-push : (content : FileMap) (paths : List (List ℕ)) (p : List ℕ) → loose_at content (paths ++ p ∷ []) ≡ loose_at content paths ++ with_first (entry_at (loose_refs content) p) []
loose_at-push content [] p = refl
loose_at-push content (q ∷ paths) p = ap (with_first (entry_at (loose_refs content) q)) (loose_at-push content paths p) ∙ by (entry_at (loose_refs content) q)
  where
    by : (e : Option PackedRef) → with_first e (loose_at content paths ++ with_first (entry_at (loose_refs content) p) []) ≡ with_first e (loose_at content paths) ++ with_first (entry_at (loose_refs content) p) []
    by None = refl
    by (Some ref) = refl

-- one ref more
pub with_all-push : (packed : PackedMap) (refs : List PackedRef) (ref : PackedRef) → with_all packed (refs ++ ref ∷ []) ≡ insert (with_all packed refs) ref.0 ref.1
with_all-push packed [] ref = refl
with_all-push packed (r ∷ refs) ref = with_all-push (insert packed r.0 r.1) refs ref

-- each of them is in `refs/`
pub in_refs_at : (refs : List PackedRef) (i : ℕ) (ref : PackedRef) → AreInRefs refs → i < length refs → ref ≡ get_or refs i ref → IsInRefs ref.0
in_refs_at [] i ref all within is = absurd (omega (arith, within))
in_refs_at (r ∷ refs) zero ref all within is = subst (λ (x : PackedRef). IsInRefs x.0) (sym is) all.0
in_refs_at (r ∷ refs) (suc i) ref all within is = in_refs_at refs i ref all.1 (omega (arith, within)) is

-- all paths
pub all_merged : (content : FileMap) (packed : PackedMap) → AllGood content (paths_under content (codes "refs/")) → IsMerged content (paths_under content (codes "refs/")) packed → IsMapOf (refs content) packed
all_merged content packed good so_far q =
    so_far.at q ∙ ap (λ b. option_or (cond b (loose_refs content q) None) (packed_at (packed_map content) q)) (is_among-paths_under content (codes "refs/") q) ∙ by (is_taken content q) refl (loose_refs content q) refl
  where
    by : (b : Bool) → is_taken content q ≡ b → (o : Option ObjectId) → loose_refs content q ≡ o → option_or (cond b o None) (packed_at (packed_map content) q) ≡ refs content q
    by true taken (Some id) is = sym (refs-loose content q taken ∙ is)
    by true taken None is = absurd (spells_refs content good q (bad_from_none content q taken is))
    by false free o is = sym (refs-packed content q free)

-- all that is loose, put over the packed refs
pub all_loose : (content : FileMap) (paths : List (String Global)) (packed : PackedMap) → map string_bytes paths ≡ paths_under content (codes "refs/") → packed_map content ≡ Some packed → AreGood content (map string_bytes paths)
    → IsMapOf (refs content) (with_all packed (loose_at content (map string_bytes paths)))
all_loose content paths packed listed read good =
    let merged : IsMerged content (map string_bytes paths) (with_all packed (loose_at content (map string_bytes paths))) = loose_merged content [] (map string_bytes paths) packed (none_merged content packed read) in
    let all_good : AllGood content (map string_bytes paths) = record { each = good } in
    all_merged content _ (subst (AllGood content) listed all_good)
    (subst (λ (ps : List (List ℕ)). IsMerged content ps (with_all packed (loose_at content (map string_bytes paths)))) listed merged)

pub all_spelled : (content : FileMap) → IsGoodPackedFile content → AllGood content (paths_under content (codes "refs/")) → SpellsRefs content
all_spelled content packed good path (inl own) = spells_refs content good path own
all_spelled content packed good path (inr line) = packed line.1

pub listed_map : (content : FileMap) (packed : PackedMap) → IsMapOf (refs content) packed → IsListOf (refs content) (entries packed)
listed_map content packed all = record { sorted = of_T _ (entries_sorted packed); each = λ q. sym (get-entries packed q) ∙ all q }

-- ---- the first bad file
packed_first : (q : List ℕ) → starts_with nat_eq q (codes "refs/") ≡ true → by_bytes packed_path q ≢ Greater
packed_first q inside = subst (λ n. by_bytes packed_path n ≢ Greater) (sym (split_from_starts q (codes "refs/") inside)) (λ greater. cc)

pub list_blames_packed : (content : FileMap) (e : RefFault) → BlamesPacked content e → BlamesList content e
list_blames_packed content (Stale current) h = h
list_blames_packed content (Conflict other) h = h
list_blames_packed content (BadRefFile path) h = subst (IsFirstBadRef content) (sym h.0) (record { bad = inr (refl, h.1); first = first })
  where
    first : (q : List ℕ) → IsBadRef content q → by_bytes packed_path q ≢ Greater
    first q (inl own) = packed_first q (taken_inside content q own.taken)
    first q (inr line) = subst (λ n. by_bytes packed_path n ≢ Greater) (sym line.0) (not_above_itself packed_path)
list_blames_packed content HeadLoop h = h
list_blames_packed content (Fault fault) h = tt

pub list_blames_loose : (content : FileMap) → IsGoodPackedFile content → (e : RefFault) → loose.BlamesList content e → BlamesList content e
list_blames_loose content good (Stale current) h = h
list_blames_loose content good (Conflict other) h = h
list_blames_loose content good (BadRefFile path) h = record { bad = inl h.bad; first = first }
  where
    first : (q : List ℕ) → IsBadRef content q → by_bytes (string_bytes path) q ≢ Greater
    first q (inl own) = h.first q own
    first q (inr line) = absurd (good line.1)
list_blames_loose content good HeadLoop h = h
list_blames_loose content good (Fault fault) h = tt

-- ---- why none is packed
-- the finite map is the map of refs
pub same_map_of : (map : RefMap) (packed : PackedMap) → IsMapOf map packed → files.get packed ≡ map
same_map_of map packed all i name = all name i

pub packing_blames_list : (content : FileMap) (e : RefFault) → BlamesList content e → BlamesPacking content e
packing_blames_list content (Stale current) h = h
packing_blames_list content (Conflict other) h = absurd h
packing_blames_list content (BadRefFile path) h = h
packing_blames_list content HeadLoop h = h
packing_blames_list content (Fault fault) h = tt

pub packing_blames_folder : (content : FileMap) (packed : PackedMap) → SpellsRefs content → IsMapOf (refs content) packed → (e : RefFault) → BlamesFolder (files.get packed) e → BlamesPacking content e
packing_blames_folder content packed good all (Stale current) h = h
packing_blames_folder content packed good all (Conflict other) h = (good, subst (λ (m : RefMap). IsFirstFolder m other) (same_map_of (refs content) packed all) h)
packing_blames_folder content packed good all (BadRefFile path) h = absurd h
packing_blames_folder content packed good all HeadLoop h = h
packing_blames_folder content packed good all (Fault fault) h = tt

-- it is never the device's fault
pub folder_no_device : (map : RefMap) (e : RefFault) → BlamesFolder map e → TellsDevice {T = Unit {0}} (Err e) → ⊥
folder_no_device map (Stale current) h told = absurd h
folder_no_device map (Conflict other) h told = cc
folder_no_device map (BadRefFile path) h told = absurd h
folder_no_device map HeadLoop h told = absurd h
folder_no_device map (Fault fault) h told = cc

-- ---- files that go
pub none_lost : (content : FileMap) → LosesSome [] content content
none_lost content = record { at = λ q. inl refl }

pub none_gone : (content : FileMap) → AreGone [] content
none_gone content q h = absurd (true≢false (sym h))

left_of : (q : List ℕ) (front back : List (List ℕ)) → is_one_of q front ≡ true → is_one_of q (front ++ back) ≡ true
left_of q front back h = list_any-append (eq_by_cmp by_bytes q) front back ∙ ap (λ b. b || is_one_of q back) h

pub more_lost : (front back : List (List ℕ)) (old new : FileMap) → LosesSome front old new → LosesSome (front ++ back) old new
more_lost front back old new lost = record { at = λ q. elim (lost.at q) [ inl same ↦ inl same | inr gone ↦ inr (left_of q front back gone.0, gone.1) ] }

module _ (paths : List (List ℕ)) (p : List ℕ) (old mid : FileMap) where
  last_of : (q : List ℕ) → bytes_eq q p ≡ true → is_one_of q (paths ++ p ∷ []) ≡ true
  last_of q same = one_of_more q p paths ∙ ap (λ b. is_one_of q paths || b) (or-false (eq_by_cmp by_bytes q p) ∙ is_eq-slice_cmp q p ∙ same) ∙ or-true (is_one_of q paths)

  -- one file more
  pub one_lost : LosesSome paths old mid → LosesSome (paths ++ p ∷ []) old (files.remove mid p)
  one_lost lost = record { at = λ q. by q (bytes_eq q p) refl }
    where
      by : (q : List ℕ) (b : Bool) → bytes_eq q p ≡ b → (files.get (files.remove mid p) q ≡ files.get old q) ⊎ ((is_one_of q (paths ++ p ∷ []) ≡ true) × (files.get (files.remove mid p) q ≡ None))
      by q true same = inr (last_of q same, get-unput mid p q ∙ ap (λ b. cond b None (files.get mid q)) same)
      by q false other =
          let kept : files.get (files.remove mid p) q ≡ files.get mid q = get-unput mid p q ∙ ap (λ b. cond b None (files.get mid q)) other in
          elim (lost.at q) [ inl same ↦ inl (kept ∙ same) | inr gone ↦ inr (left_of q paths (p ∷ []) gone.0, kept ∙ gone.1) ]

  pub one_gone : AreGone paths mid → AreGone (paths ++ p ∷ []) (files.remove mid p)
  one_gone gone q among = by (bytes_eq q p) refl
    where
      by : (b : Bool) → bytes_eq q p ≡ b → files.get (files.remove mid p) q ≡ None
      by true same = get-unput mid p q ∙ ap (λ b. cond b None (files.get mid q)) same
      by false other =
          let before : is_one_of q paths ≡ true = sym (one_of_more q p paths ∙ ap (λ b. is_one_of q paths || b) (or-false (eq_by_cmp by_bytes q p) ∙ is_eq-slice_cmp q p ∙ other) ∙ or-false (is_one_of q paths)) ∙ among in
          get-unput mid p q ∙ ap (λ b. cond b None (files.get mid q)) other ∙ gone q before

-- ---- what packing keeps
pub head_of-same : (old new : FileMap) → files.get new (codes "HEAD") ≡ files.get old (codes "HEAD") → head_of new ≡ head_of old
unfolding head_of
head_of-same old new same = ap (option_and_then (λ text. said (read_head text))) same

pub keeps_same : (old new : FileMap) → new ≡ old → KeepsOutside old new
keeps_same old new same = subst (λ (m : FileMap). KeepsOutside old m) (sym same) (record { at = λ path outside other. refl; head = refl; good = λ path bad. bad })

module _ (old : FileMap) (packed : PackedMap) (paths : List (List ℕ)) (new : FileMap)
    (all : IsMapOf (refs old) packed) (read : packed_refs (packed_text packed) ≡ Some packed) (listed : paths ≡ paths_under old (codes "refs/"))
    (lost : LosesSome paths (insert old packed_path (packed_text packed)) new) where
  abbrev written : FileMap
  written = insert old packed_path (packed_text packed)

  listed_taken : (q : List ℕ) → is_one_of q paths ≡ is_taken old q
  listed_taken q = ap (is_one_of q) listed ∙ is_among-paths_under old (codes "refs/") q

  other_file : (q : List ℕ) → bytes_eq q packed_path ≡ false → files.get written q ≡ files.get old q
  other_file q other = get-put old packed_path (packed_text packed) q ∙ ap (λ b. cond b (Some (packed_text packed)) (files.get old q)) other

  packed_there : files.get new packed_path ≡ Some (packed_text packed)
  packed_there = elim (lost.at packed_path) [
    | inl same ↦ same ∙ get-put old packed_path (packed_text packed) packed_path ∙ ap (λ b. cond b (Some (packed_text packed)) (files.get old packed_path)) ((bytes_eq-Decides packed_path packed_path).1 refl)
    | inr gone ↦ absurd (true≢false (sym gone.0 ∙ listed_taken packed_path ∙ packed_untaken old))
  ]

  pub packed_again : packed_map new ≡ Some packed
  packed_again = packed_map-there new (packed_text packed) packed_there ∙ read

  inside_other : (q : List ℕ) → starts_with nat_eq q (codes "refs/") ≡ true → bytes_eq q packed_path ≡ false
  inside_other q inside = false_from_ne_true _ (λ same. true≢false (sym inside ∙ ap (λ n. starts_with nat_eq n (codes "refs/")) ((bytes_eq-Decides q packed_path).0 same)))

  -- a file in `refs/` that is there is as it was
  there_before : (q : List ℕ) → is_taken new q ≡ true → files.get new q ≡ files.get old q
  there_before q taken =
      let parts = and_parts (starts_with nat_eq q (codes "refs/")) (is_some (files.get new q)) taken in
      elim (lost.at q) [
        | inl same ↦ same ∙ other_file q (inside_other q parts.0)
        | inr gone ↦ absurd (true≢false (sym parts.1 ∙ ap is_some gone.1))
      ]

  taken_before : (q : List ℕ) → is_taken new q ≡ true → is_taken old q ≡ true
  taken_before q taken =
      let parts = and_parts (starts_with nat_eq q (codes "refs/")) (is_some (files.get new q)) taken in
      and_from (starts_with nat_eq q (codes "refs/")) (is_some (files.get old q)) parts.0 (ap is_some (sym (there_before q taken)) ∙ parts.1)

  value_kept : (q : List ℕ) (b : Bool) → is_taken new q ≡ b → refs new q ≡ refs old q
  value_kept q true taken = refs-loose new q taken ∙ loose-same old new q (there_before q taken) ∙ sym (refs-loose old q (taken_before q taken))
  value_kept q false free = refs-packed new q free ∙ ap (λ m. packed_at m q) packed_again ∙ all q

  pub refs_kept : refs new ≡ refs old
  refs_kept i q = value_kept q (is_taken new q) refl i

  outside_kept : (q : List ℕ) → starts_with nat_eq q (codes "refs/") ≡ false → bytes_eq q packed_path ≡ false → files.get new q ≡ files.get old q
  outside_kept q outside other = elim (lost.at q) [
    | inl same ↦ same ∙ other_file q other
    | inr gone ↦ absurd (true≢false (sym (taken_inside old q (sym (listed_taken q) ∙ gone.0)) ∙ outside))
  ]

  good_kept : (path : List ℕ) → IsBadRef new path → IsBadRef old path
  good_kept path (inl own) = inl (record { taken = taken_before path own.taken; none = sym (loose-same old new path (there_before path own.taken)) ∙ own.none })
  good_kept path (inr line) = absurd (good_packed_file new packed packed_again line.1)

  pub rest_kept : KeepsOutside old new
  rest_kept = record { at = outside_kept; head = head_of-same old new (outside_kept (codes "HEAD") refl refl); good = good_kept }

  pub all_packed : IsRefMap (files.get packed) → AreGone paths new → IsPackedFrom old new
  all_packed apart gone = record { apart = subst IsRefMap (same_map_of (refs old) packed all) apart; loose = none; packed = inr (packed, all, packed_there) }
    where
      none : (q : List ℕ) → is_taken new q ≡ false
      none q = false_from_ne_true _ (λ taken.
          let there : is_some (files.get new q) ≡ true = (and_parts (starts_with nat_eq q (codes "refs/")) (is_some (files.get new q)) taken).1 in
          true≢false (sym there ∙ ap is_some (gone q (listed_taken q ∙ taken_before q taken))))

-- if nothing is loose
pub none_loose : (content : FileMap) → paths_under content (codes "refs/") ≡ [] → HasNoLoose content
none_loose content none q = sym (is_among-paths_under content (codes "refs/") q) ∙ ap (is_one_of q) none

pub some_loose : (content : FileMap) (p : List ℕ) (ps : List (List ℕ)) → paths_under content (codes "refs/") ≡ p ∷ ps → HasLoose content
some_loose content p ps listed = (p, sym (is_among-paths_under content (codes "refs/") p) ∙ ap (is_one_of p) listed ∙ head_among p ps)

pub none_listed : (content : FileMap) (items : List (String Global)) → map string_bytes items ≡ paths_under content (codes "refs/") → length items ≡ 0 → HasNoLoose content
none_listed content [] listed none = none_loose content (sym listed)
none_listed content (s ∷ items) listed none = absurd (omega (arith, none))

pub some_listed : (content : FileMap) (items : List (String Global)) → map string_bytes items ≡ paths_under content (codes "refs/") → 0 < length items → HasLoose content
some_listed content [] listed some = absurd (omega (arith, some))
some_listed content (s ∷ items) listed some = some_loose content (string_bytes s) (map string_bytes items) (sym listed)
