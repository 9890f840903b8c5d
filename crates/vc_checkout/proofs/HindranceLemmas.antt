-- What stands in the way of a path.
use Rattle.std.proofs.Common.{◌≡◌, ◌≢◌, ℕ, Bool, true, false, ◌||◌, List, [], ◌∷◌, ◌++◌, Option, Some, None, sym, ap, refl, ◌∙◌, subst, length, drop, append_assoc, nat_eq, ◌↔◌, IsTrue, ◌⊎◌, inl, inr}
use Rattle.std.specs.Prelude.{Vec, option_map}
use Rattle.std.specs.Global.{Global}
use Rattle.std.specs.BTreeMap.{is_at}
use Rattle.std.specs.BTreeSet.{IsKeyRangeOf}
use Rattle.std.specs.FinMap.{get}
use Rattle.std.specs.List.{list_any, starts_with}
use Rattle.std.specs.Ordering.{nat_cmp, is_eq, is_gt}
use Rattle.std.specs.declared.ops.Bound.TheVariants.{Included, Unbounded}
use Rattle.std.specs.Cmp.Lexicographic.{slice_cmp}
use Rattle.std.proofs.lemmas.Slice.Eq.{starts_is}
use Rattle.std.proofs.lemmas.Bool.Decides.{Decides-eqb}
use Rattle.vc_files.specs.FileMap.{FileMap}
use Rattle.vc_object.specs.declared.id.ObjectId.{ObjectId}
use Rattle.vc_object.specs.declared.mode.Mode.TheVariants as modes
use Rattle.vc_index.specs.Path.{IsAbove}
use Rattle.vc_index.specs.declared.entry.IndexEntry.{IndexEntry}
use Rattle.vc_index.proofs.ConflictLemmas.{not_after, begins_between}
use Rattle.vc_index.proofs.MapLemmas.{key_cmp, same_text}
use Rattle.vc_checkout.specs.Refusal.{IsHindered, IsNotWanted}
use Rattle.vc_checkout.specs.WorkTree.{has_path}
use Rattle.vc_work_tree.specs.Paths.{blob_name}
use Rattle.vc_checkout.proofs.PathSetLemmas.{Paths}

-- the key of a path that the set has
key_of : (paths : Paths) (other : List ℕ) → IsTrue (has_path paths other) → (k : Vec ℕ Global) × (k.items ≡ other) × IsTrue (has_path paths k.items)
key_of paths other has =
    let k = among paths.keys has in
    (k.0, k.1, subst (λ (t : List ℕ). IsTrue (has_path paths t)) (sym k.1) has)
  where
    among : (ks : List (Vec ℕ Global)) → list_any (is_at (λ (k : Vec ℕ Global). slice_cmp nat_cmp other k.items)) ks ≡ true → (k : Vec ℕ Global) × (k.items ≡ other)
    among [] e = cc e
    among (k ∷ ks) e = elim (is_eq (slice_cmp nat_cmp other k.items)) as (λ b. is_eq (slice_cmp nat_cmp other k.items) ≡ b → (b || list_any (is_at (λ (k : Vec ℕ Global). slice_cmp nat_cmp other k.items)) ks) ≡ true → (k : Vec ℕ Global) × (k.items ≡ other)) [
      | true ↦ λ same _. (k, sym (same_text other k.items same))
      | false ↦ λ _ later. among ks later
    ] refl e

module _ (paths : Paths) (folder : Vec ℕ Global) (path : List ℕ) (is : folder.items ≡ path ++ 47 ∷ []) where
  parted : (rest : List ℕ) → path ++ 47 ∷ rest ≡ folder.items ++ rest
  parted rest = sym (append_assoc path (47 ∷ []) rest) ∙ ap (λ f. f ++ rest) (sym is)

  -- a path below comes not before the folder
  from_folder : (k : Vec ℕ Global) (other : List ℕ) → k.items ≡ other → IsAbove path other → is_gt (key_cmp folder k) ≡ false
  from_folder k other same above = subst (λ (t : List ℕ). is_gt (slice_cmp nat_cmp folder.items t) ≡ false) (sym (same ∙ above.1 ∙ parted above.0)) (not_after folder.items above.0)

  pub none_below : (r : List (Vec ℕ Global)) → r ≡ [] → IsKeyRangeOf key_cmp (Included folder) Unbounded paths r → (other : List ℕ) → IsTrue (has_path paths other) → IsAbove path other → ⊥
  none_below r none range other has above =
      let k = key_of paths other has in
      let lacks = range.5 none k.0 (from_folder k.0 other k.1 above, tt) in
      let there = k.2 in
      cc (lacks, there)

  pub first_below : (r : List (Vec ℕ Global)) (e : Vec ℕ Global) (t : List (Vec ℕ Global)) → r ≡ e ∷ t → IsKeyRangeOf key_cmp (Included folder) Unbounded paths r → (b : Bool) → b ≡ starts_with nat_eq e.items folder.items
      → IsTrue b ↔ ((other : List ℕ) × IsTrue (has_path paths other) × IsAbove path other)
  first_below r e t first range b test =
      let begins = starts_is Decides-eqb e.items folder.items b test in
      let range' = subst (λ (es : List (Vec ℕ Global)). IsKeyRangeOf key_cmp (Included folder) Unbounded paths es) first range in (
        λ yes. (
          e.items,
          range'.1.1,
          (drop (length folder.items) e.items, begins.0 yes ∙ sym (parted (drop (length folder.items) e.items))),
        ),
        λ (other, some, above).
            let k = key_of paths other some in
            let le = range'.2 k.0 (from_folder k.0 other k.1 above, tt) k.2 in
            let z = begins_between folder.items e.items above.0 range'.1.0.0 (subst (λ (u : List ℕ). is_gt (slice_cmp nat_cmp e.items u) ≡ false) (k.1 ∙ above.1 ∙ parted above.0) le) in
            begins.1 z.0 z.1,
      )

-- ---- whether an entry is hindered
module _ (others : Paths) (work : FileMap) (path : List ℕ) (entry : IndexEntry) where
  abbrev pub Hindered : Type 0
  Hindered = IsHindered (λ other. IsTrue (has_path others other)) work path entry

  pub hindered_there : IsTrue (has_path others path) → entry.mode ≡ modes.Commit → IsTrue true ↔ Hindered
  hindered_there has commit = (λ _. (path, has, inl (refl, inl commit)), λ _. refl)

  -- a file of the set at the path that is not wanted decides alone, where none is above and none below
  pub hindered_at : (a b : Bool) → IsTrue a ↔ ((other : List ℕ) × IsTrue (has_path others other) × IsAbove other path) → a ≡ false → IsTrue b ↔ ((other : List ℕ) × IsTrue (has_path others other) × IsAbove path other) → b ≡ false
      → (bad : Bool) → (IsTrue bad → IsTrue (has_path others path) × IsNotWanted entry (get work path)) → (IsTrue (has_path others path) → IsNotWanted entry (get work path) → IsTrue bad) → IsTrue bad ↔ Hindered
  hindered_at a b above no_above below no_below bad found wanted = (
    λ is. let f = found is in (path, f.0, inl (refl, f.1)),
    λ (other, has, how). by_how other has how,
  )
    where
      by_how : (other : List ℕ) → IsTrue (has_path others other) → ((other ≡ path) × IsNotWanted entry (get work other)) ⊎ (IsAbove other path ⊎ IsAbove path other) → IsTrue bad
      by_how other has (inl (same, not_wanted)) = wanted (subst (λ (p : List ℕ). IsTrue (has_path others p)) same has) (subst (λ (p : List ℕ). IsNotWanted entry (get work p)) same not_wanted)
      by_how other has (inr (inl is)) = let t = above.1 (other, has, is) in cc (t, no_above)
      by_how other has (inr (inr is)) = let t = below.1 (other, has, is) in cc (t, no_below)

-- ---- the name of a file
pub named_file : (file : Option (List ℕ)) (name : ObjectId) → Some name ≡ option_map blob_name file → (bytes : List ℕ) × (file ≡ Some bytes) × (blob_name bytes ≡ name)
named_file None name e = cc e
named_file (Some bytes) name e = (bytes, refl, cc e)

pub not_wanted_of : (entry : IndexEntry) (file : Option (List ℕ)) (name : ObjectId) (bad : Bool) → Some name ≡ option_map blob_name file → (IsTrue bad → name ≢ entry.id) → IsTrue bad → IsNotWanted entry file
not_wanted_of entry file name bad is apart t =
    let (bytes, there, named) = named_file file name is in
    inr (bytes, there, λ same. apart t (sym named ∙ same))

same_file : (file : Option (List ℕ)) (a b : List ℕ) → file ≡ Some a → file ≡ Some b → a ≡ b
same_file file a b p q = cc (p, q)

pub wanted_of : (entry : IndexEntry) (file : Option (List ℕ)) (name : ObjectId) (bad : Bool) → entry.mode ≢ modes.Commit → Some name ≡ option_map blob_name file → (name ≢ entry.id → IsTrue bad) → IsNotWanted entry file → IsTrue bad
wanted_of entry file name bad mode is apart (inl commit) = absurd (mode commit)
wanted_of entry file name bad mode is apart (inr (other, has, differs)) =
    let (bytes, there, named) = named_file file name is in
    apart (λ same. differs (ap blob_name (same_file file other bytes has there) ∙ named ∙ same))
