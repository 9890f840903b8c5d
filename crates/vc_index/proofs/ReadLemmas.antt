-- How an index is read from its text, entry by entry.
use Rattle.std.proofs.Common.{◌≡◌, ◌≢◌, ℕ, suc, ◌<◌, ◌-◌, true, false, List, ◌∷◌, ◌++◌, Option, Some, None, sym, ap, refl, ◌∙◌, subst, length, arith, append_assoc, length-append, append-nil, inl, inr, ⊎_elim, []}
use Rattle.std.specs.Prelude.{IsSome, IsTrue, unwrap_or, ◌==◌}
use Rattle.std.specs.List.{AllByRecursion, flat_map, join_with_byte}
use Rattle.std.specs.FinMap.{get, get-empty, insert, empty, entries}
use Rattle.std.specs.Ordering.{nat_cmp, is_gt}
use Rattle.std.specs.declared.cmp.Ordering.TheVariants.{Less}
use Rattle.std.specs.Cmp.{tied_itself}
use Rattle.std.specs.Cmp.Lexicographic.{slice_cmp, nat_list_cmp_total}
use Rattle.std.proofs.lemmas.Bool.Decides.{Decides-eqb}
use Rattle.std.proofs.lemmas.List.Concat.{flat_map-append}
use Rattle.std.proofs.lemmas.List.Splits.{join_with_byte-slice_split}
use Rattle.vc_object.specs.Bytes.{Without}
use Rattle.vc_object.specs.ObjectId.{is_id}
use Rattle.vc_object.specs.Tree.{IsName}
use Rattle.vc_object.proofs.Texts.{Without-append}
use Rattle.vc_object.proofs.Order.{All-push}
use Rattle.vc_index.specs.Path.{IsPath, names_in}
use Rattle.vc_index.specs.IndexMap.{IndexMap, IsFile, HasConflict, HasFileAbove}
use Rattle.vc_index.specs.IndexText.{entry_text, index_text, entry_at, MayFollow, TextFault}
use Rattle.vc_index.specs.declared.entry.IndexEntry.{IndexEntry}
use Rattle.vc_index.specs.Reading.{IsFront, IsReadTo, has_front}
use Rattle.vc_index.proofs.FrontLemmas.{begins_last, front_cases, front_last, front_more, value_of}
use Rattle.vc_index.proofs.MapLemmas.{insert-IsIndex, empty-IsIndex, entries-empty, get-insert_same, got, no_some}
use Rattle.vc_index.proofs.ConflictLemmas.{not_after}
use Rattle.vc_index.proofs.EntriesLemmas.{AllBefore, entries_last, get_all, le_less}
use Rattle.vc_index.proofs.TextLemmas.{IsSpelt, entry_again, entry_some}
use Rattle.vc_lemmas.proofs.Lists.{some_of, all_map}

-- ---- no path has a NUL
joined_no_nul : (names : List (List ℕ)) → AllByRecursion IsName names → Without 0 (join_with_byte 47 names)
joined_no_nul [] all = tt
joined_no_nul (name ∷ []) all = all.0.no_nul
joined_no_nul (name ∷ next ∷ names) all = Without-append 0 name _ all.0.no_nul ((λ e. absurd (cc e)), joined_no_nul (next ∷ names) all.1)

pub path_no_nul : (path : List ℕ) → IsPath path → Without 0 path
path_no_nul path p = subst (Without 0) (join_with_byte-slice_split 47 path) (joined_no_nul (names_in path) p.names)

-- no path is empty
pub path_some : (path : List ℕ) → IsPath path → path ≢ []
path_some path p none =
    let names : AllByRecursion IsName (names_in []) = subst (λ (q : List ℕ). AllByRecursion IsName (names_in q)) none p.names in
    names.0.some refl

pub spelt : (path : List ℕ) (entry : IndexEntry) → IsFile path entry → IsSpelt path entry
spelt path entry f = record { no_nul = path_no_nul path f.legal; mode = f.mode; id = f.id }

-- ---- what has been read so far
pub record ReadSoFar (bytes rest last : List ℕ) (fronts : List (List ℕ)) (m : IndexMap) : Type 0 where
  pub is : bytes ≡ index_text m ++ rest
  pub to : IsReadTo m last fronts

pub nothing_read : (fronts : List (List ℕ)) (m : IndexMap) → fronts ≡ [] → m ≡ empty → IsReadTo m [] fronts
nothing_read fronts m no_fronts none = subst (λ (n : IndexMap). IsReadTo n [] fronts) (sym none) (record {
  sound = empty-IsIndex;
  below = subst (AllByRecursion (λ (e : List ℕ × IndexEntry). is_gt (slice_cmp nat_cmp e.0 []) ≡ false)) (sym entries-empty) tt;
  is_last = inl refl;
  some = λ front h. absurd (let z : false ≡ true = ap (λ l. has_front l front) (sym no_fronts) ∙ h in cc z);
  all = λ front some begins. absurd (no_some _ (get-empty (slice_cmp nat_cmp) front) some);
})

pub read_nothing : (bytes : List ℕ) (fronts : List (List ℕ)) (m : IndexMap) → fronts ≡ [] → m ≡ empty → ReadSoFar bytes bytes [] fronts m
read_nothing bytes fronts m no_fronts none = record {
  is = ap (λ es. flat_map (λ (e : List ℕ × IndexEntry). entry_text e.0 e.1) es ++ bytes) (sym entries-empty) ∙ ap (λ (n : IndexMap). index_text n ++ bytes) (sym none);
  to = nothing_read fronts m no_fronts none;
}

-- of these fronts, those that the path begins with
abbrev pub FrontsKept : List (List ℕ) → List ℕ → List (List ℕ) → Type 0
FrontsKept fronts path kept =
    ((front : List ℕ) → IsTrue (has_front kept front) → IsTrue (has_front fronts front))
    × ((front : List ℕ) → IsFront front path → IsTrue (has_front fronts front) → IsTrue (has_front kept front))

insert_some : (m : IndexMap) (path : List ℕ) (entry : IndexEntry) (q : List ℕ) → IsSome (get m q) → IsSome (get (insert m path entry) q)
insert_some m path entry q some = elim (got m path q entry) [
  | inl same ↦ some_of _ entry (ap (get (insert m path entry)) same ∙ get-insert_same m path entry)
  | inr old ↦ subst IsSome (sym old) some
]

text_last : (m : IndexMap) (path : List ℕ) (entry : IndexEntry) → AllBefore path (entries m) → index_text (insert m path entry) ≡ index_text m ++ entry_text path entry
text_last m path entry before =
    ap (flat_map (λ (e : List ℕ × IndexEntry). entry_text e.0 e.1)) (entries_last m path entry before)
    ∙ flat_map-append (λ (e : List ℕ × IndexEntry). entry_text e.0 e.1) (entries m) ((path, entry) ∷ [])
    ∙ ap (λ t. index_text m ++ t) (append-nil (entry_text path entry))

less_is_no_more : (a b : List ℕ) → slice_cmp nat_cmp a b ≡ Less → is_gt (slice_cmp nat_cmp a b) ≡ false
less_is_no_more a b e = ap is_gt e

-- ---- one file more, behind all
module _ (m : IndexMap) (last : List ℕ) (fronts : List (List ℕ)) (so_far : IsReadTo m last fronts) (path : List ℕ) where
  pub all_before : slice_cmp nat_cmp last path ≡ Less → AllBefore path (entries m)
  all_before less = all_map _ _ (entries m) (λ e le. le_less e.0 last path le less) so_far.below

  -- no file of the index lies below a path that comes behind all
  free : slice_cmp nat_cmp last path ≡ Less → ¬ (HasFileAbove m path) → ¬ (HasConflict m path)
  free less none (other, some, inl above) = none (other, some, above)
  free less none (other, some, inr below) =
      let found = value_of (get m other) some in
      let before : slice_cmp nat_cmp other path ≡ Less = get_all (λ e. slice_cmp nat_cmp e.0 path ≡ Less) m other found.0 (all_before less) found.1 in
      let after : is_gt (slice_cmp nat_cmp path other) ≡ false = subst (λ (q : List ℕ). is_gt (slice_cmp nat_cmp path q) ≡ false) (sym below.1) (not_after path (47 ∷ below.0)) in
      let back : slice_cmp nat_cmp path path ≡ Less = le_less path other path after before in
      let same = tied_itself nat_list_cmp_total path in
      absurd (cc (back, same))

  -- a path that comes behind all that was read
  pub comes_behind : path ≢ [] → AllBefore path (entries m) → slice_cmp nat_cmp last path ≡ Less
  comes_behind some before = ⊎_elim
      (λ none. subst (λ (l : List ℕ). slice_cmp nat_cmp l path ≡ Less) (sym none) (first path some))
      (λ there. let found = value_of (get m last) there in get_all (λ e. slice_cmp nat_cmp e.0 path ≡ Less) m last found.0 before found.1)
      so_far.is_last
    where
      first : (p : List ℕ) → p ≢ [] → slice_cmp nat_cmp [] p ≡ Less
      first [] n = absurd (n refl)
      first (x ∷ p) n = refl

  pub to_more : (entry : IndexEntry) → slice_cmp nat_cmp last path ≡ Less → IsFile path entry → ¬ (HasFileAbove m path) → (kept new : List (List ℕ)) → FrontsKept fronts path kept → new ≡ kept ++ path ∷ [] → IsReadTo (insert m path entry) path new
  to_more entry less file none kept new keeps is =
      let before = all_before less in
      record {
        sound = insert-IsIndex m path entry so_far.sound file (free less none);
        below = subst (AllByRecursion (λ (e : List ℕ × IndexEntry). is_gt (slice_cmp nat_cmp e.0 path) ≡ false)) (sym (entries_last m path entry before))
            (All-push _ (entries m) (path, entry) (all_map _ _ (entries m) (λ e l. less_is_no_more e.0 path l) before) (ap is_gt (tied_itself nat_list_cmp_total path)));
        is_last = inr (some_of _ entry (get-insert_same m path entry));
        some = λ front h. elim (front_cases kept path front (subst (λ l. IsTrue (has_front l front)) is h)) [
          | inl there ↦ insert_some m path entry front (so_far.some front (keeps.0 front there))
          | inr same ↦ some_of _ entry (ap (get (insert m path entry)) (sym same) ∙ get-insert_same m path entry)
        ];
        all = λ front there begins. subst (λ l. IsTrue (has_front l front)) (sym is) (elim (got m path front entry) [
          | inl same ↦ subst (λ (f : List ℕ). IsTrue (has_front (kept ++ path ∷ []) f)) (sym same) (front_last kept path)
          | inr old ↦
              let some = subst IsSome old there in
              front_more kept path front (keeps.1 front begins (so_far.all front some (begins_last m last path fronts so_far less front some begins)))
        ]);
      }

module _ (bytes rest last : List ℕ) (fronts : List (List ℕ)) (m : IndexMap) (so_far : ReadSoFar bytes rest last fronts m) where
  pub read_more : (path : List ℕ) (entry : IndexEntry) (after : List ℕ) → entry_at rest ≡ Some (path, entry, after) → is_id entry.id ≡ true
      → slice_cmp nat_cmp last path ≡ Less → IsPath path → ¬ (HasFileAbove m path) → (kept new : List (List ℕ)) → FrontsKept fronts path kept → new ≡ kept ++ path ∷ [] → ReadSoFar bytes after path new (insert m path entry)
  read_more path entry after found id less legal none kept new keeps is =
      let s = entry_some rest path entry after found in
      record {
        is =
            so_far.is ∙ ap (λ r. index_text m ++ r) s.0 ∙ sym (append_assoc (index_text m) (entry_text path entry) after)
            ∙ ap (λ t. t ++ after) (sym (text_last m path entry (all_before m last fronts so_far.to path less)));
        to = to_more m last fronts so_far.to path entry less (record { legal = legal; mode = s.2; id = id }) none kept new keeps is;
      }

  pub read_less : (path : List ℕ) (entry : IndexEntry) (after : List ℕ) → entry_at rest ≡ Some (path, entry, after) → length after < length rest
  read_less path entry after found =
      let s = (entry_some rest path entry after found).0 in
      longer (entry_text path entry) (not_empty path entry) s
    where
      not_empty : (path : List ℕ) (entry : IndexEntry) → 0 < length (entry_text path entry)
      not_empty path entry = simp length-append (omega arith)

      longer : (text : List ℕ) → 0 < length text → rest ≡ text ++ after → length after < length rest
      longer text some e = omega (arith, ap length e, length-append text after)

  place_is : (length bytes) - (length rest) ≡ length (index_text m)
  place_is = omega (arith, ap length so_far.is, length-append (index_text m) rest)

  fault_at : rest ≢ [] → ((path : List ℕ) (entry : IndexEntry) (more : List ℕ) → MayFollow m path entry → entry_at rest ≢ Some (path, entry, more)) → TextFault bytes (length bytes - length rest)
  fault_at some none = record {
    before = m;
    sound = so_far.to.sound;
    rest = rest;
    is = so_far.is;
    at = place_is;
    some = some;
    none = λ path entry more may e. none path entry more may (ap entry_at e ∙ entry_again path entry more (spelt path entry may.file));
  }

  -- no entry comes next
  pub read_none : rest ≢ [] → entry_at rest ≡ None → TextFault bytes (length bytes - length rest)
  read_none some absent = fault_at some (λ path entry more may e. absurd (let z : None ≡ Some (path, entry, more) = sym absent ∙ e in cc z))

  comes_next : (path : List ℕ) (entry : IndexEntry) → MayFollow m path entry → slice_cmp nat_cmp last path ≡ Less
  comes_next path entry may = comes_behind m last fronts so_far.to path (path_some path may.file.legal) may.last

  -- the entry that comes next may not follow
  pub read_bad : (path : List ℕ) (entry : IndexEntry) (after : List ℕ) → entry_at rest ≡ Some (path, entry, after) → ¬ ((slice_cmp nat_cmp last path ≡ Less) × IsPath path × ¬ (HasFileAbove m path)) → TextFault bytes (length bytes - length rest)
  read_bad path entry after found bad = fault_at
      (λ none. let l = read_less path entry after found in omega (arith, ap length none))
      (λ path' entry' more may e.
      let same : ◌≡◌ {A = Option (List ℕ × IndexEntry × List ℕ)} (Some (path', entry', more)) (Some (path, entry, after)) = sym e ∙ found in
      let pair : ◌≡◌ {A = List ℕ × IndexEntry × List ℕ} (path', entry', more) (path, entry, after) = ap (λ o. unwrap_or {T = List ℕ × IndexEntry × List ℕ} o (path', entry', more)) same in
      bad (subst (λ (f : List ℕ × IndexEntry × List ℕ). (slice_cmp nat_cmp last f.0 ≡ Less) × IsPath f.0 × ¬ (HasFileAbove m f.0)) pair
      (comes_next path' entry' may, may.file.legal, λ above. may.free (above.0, above.1, inl above.2))))

pub nothing : (rest : List ℕ) → (length rest == 0) ≡ true → rest ≡ []
nothing [] e = refl
nothing (x ∷ rest) e = let z : suc (length rest) ≡ 0 = (Decides-eqb (suc (length rest)) 0).0 e in absurd (omega arith)
