-- Under which of the paths in a list a path stands, for whom closes folders.
use Rattle.std.proofs.Common.{◌≡◌, ℕ, List, [], ◌∷◌, ◌++◌, map, refl, ap, sym, ◌∙◌, subst, ⊎_elim, ◌⊎◌, inl, inr, append_assoc, append-nil, Some, true, false, cond}
use Rattle.std.specs.Prelude.{IsSome}
use Rattle.std.specs.Ordering.{nat_cmp, is_eq}
use Rattle.std.specs.Cmp.Lexicographic.{slice_cmp}
use Rattle.std.specs.FinMap.{get, find, entries, get-entries}
use Rattle.std.specs.List.{AllByRecursion}
use Rattle.std.specs.declared.cmp.Ordering.TheVariants.{Less}
use Rattle.vc_object.specs.Bytes.{Without}
use Rattle.vc_object.specs.Tree.{Entry, IsEntry, HasName, tail}
use Rattle.vc_object.specs.declared.id.ObjectId.{ObjectId}
use Rattle.vc_object.specs.declared.mode.Mode.TheVariants as modes
use Rattle.vc_object.proofs.Texts.{agreeing, no_cut}
use Rattle.vc_index.specs.Building.{Begins, place, ComesFirst, HasOver}
use Rattle.vc_index.specs.FolderTrees.{IsFirstName}
use Rattle.vc_index.specs.HeldFiles.{Pair, placed}
use Rattle.vc_index.specs.IndexMap.{IndexMap, index_entry}
use Rattle.vc_index.specs.Path.{IsAbove}
use Rattle.vc_index.proofs.MapLemmas.{same_text}
use Rattle.vc_index.proofs.PlaceLemmas.{not_itself, front_below, tail_cases}

-- the pair has the path, or is a folder above it
abbrev IsOver : Pair → List ℕ → Type 0
IsOver e path = (e.0 ≡ path) ⊎ IsAbove e.0 path

-- ---- texts
pub same_back : (f a b : List ℕ) → f ++ a ≡ f ++ b → a ≡ b
same_back [] a b e = e
same_back (x ∷ f) a b e = let t : f ++ a ≡ f ++ b = cc e in same_back f a b t

-- names before a slash
same_front : (a b x y : List ℕ) → Without 47 a → Without 47 b → a ++ 47 ∷ x ≡ b ++ 47 ∷ y → a ≡ b
same_front a b x y plain also e = ⊎_elim
    (λ h. cut b a h.0 y x also plain h.1 h.2)
    (λ h. sym (cut a b h.0 x y plain also h.1 h.2))
    (agreeing a b (47 ∷ x) (47 ∷ y) e)
  where
    cut : (f t z u v : List ℕ) → Without 47 f → Without 47 t → t ≡ f ++ z → 47 ∷ u ≡ z ++ 47 ∷ v → t ≡ f
    cut f t [] u v p q is rest = is ∙ append-nil f
    cut f t (c ∷ z) u v p q is rest = let slash : 47 ≡ c = cc rest in absurd (no_cut 47 _ f z q (is ∙ ap (λ s. f ++ s ∷ z) (sym slash)))

-- ---- lists
pub over_front : (xs ys : List Pair) (path : List ℕ) → HasOver xs path → HasOver (xs ++ ys) path
over_front [] ys path h = absurd h
over_front (x ∷ xs) ys path h = ⊎_elim (λ a. inl a) (λ a. inr (over_front xs ys path a)) h

pub over_back : (xs ys : List Pair) (path : List ℕ) → HasOver ys path → HasOver (xs ++ ys) path
over_back [] ys path h = h
over_back (x ∷ xs) ys path h = inr (over_back xs ys path h)

pub over_parts : (xs ys : List Pair) (path : List ℕ) → HasOver (xs ++ ys) path → HasOver xs path ⊎ HasOver ys path
over_parts [] ys path h = inr h
over_parts (x ∷ xs) ys path h = ⊎_elim (λ a. inl (inl a)) (λ a. ⊎_elim (λ b. inl (inr b)) (λ b. inr b) (over_parts xs ys path a)) h

-- each file of an index is one of its entries
pub over_entries : (files : IndexMap) (path : List ℕ) → IsSome (get files path) → HasOver (entries files) path
over_entries files path some = found (entries files) (subst IsSome (get-entries files path) some)
  where
    no_some : false ≡ true → ⊥
    no_some e = cc e

    found : (es : List Pair) → IsSome (find (slice_cmp nat_cmp) path es) → HasOver es path
    found [] h = absurd (no_some h)
    found (e ∷ es) h = elim (is_eq (slice_cmp nat_cmp path e.0)) as (λ b. is_eq (slice_cmp nat_cmp path e.0) ≡ b → IsSome (cond b (Some e.1) (find (slice_cmp nat_cmp) path es)) → HasOver (e ∷ es) path) [
      | true ↦ λ same _. inl (inl (sym (same_text path e.0 same)))
      | false ↦ λ _ later. inr (found es later)
    ] refl h

-- ---- what stands not under the entries of a folder that is closed
module _ (d : List ℕ) (id : ObjectId) (path : List ℕ) where
  abbrev folder : List ℕ
  folder = d ++ 47 ∷ []

  not_before : (a : Pair) → ComesFirst a (d, index_entry modes.Tree id) → (Begins folder a.0 → ⊥) → IsOver a (folder ++ path) → ⊥
  not_before a first outside over = ⊎_elim
      (λ same. outside (path, same))
      (λ above. ⊎_elim
      (λ h. shorter above.0 h.0 h.1 h.2)
      (λ h. outside (h.0, h.1))
      (agreeing folder a.0 path (47 ∷ above.0) above.1))
      over
    where
      shorter : (r z : List ℕ) → folder ≡ a.0 ++ z → 47 ∷ r ≡ z ++ path → ⊥
      shorter r [] e f = outside ([], sym (append-nil a.0) ∙ sym e ∙ sym (append-nil folder))
      shorter r (c ∷ z) e f = let slash : 47 ≡ c = cc f in first.apart (z, e ∙ ap (λ s. a.0 ++ s ∷ z) (sym slash))

  not_after : (q : Pair) → ComesFirst (d, index_entry modes.Tree id) q → IsOver q (folder ++ path) → ⊥
  not_after q first over = ⊎_elim
      (λ same. inside path same)
      (λ above. ⊎_elim
      (λ h. shorter above.0 h.0 h.1 h.2)
      (λ h. inside h.0 h.1)
      (agreeing folder q.0 path (47 ∷ above.0) above.1))
      over
    where
      -- the pair lies in the folder
      inside : (z : List ℕ) → q.0 ≡ folder ++ z → ⊥
      inside z e = first.apart (z ++ tail q.1.mode, ap (λ t. t ++ tail q.1.mode) (e ∙ append_assoc d (47 ∷ []) z) ∙ append_assoc d (47 ∷ z) (tail q.1.mode))

      -- a front of the folder does not come after it
      behind : (w : List ℕ) → folder ≡ place q ++ w → ⊥
      behind w e = not_itself (place q) (front_below (place q) w (place q) (subst (λ (t : List ℕ). slice_cmp nat_cmp t (place q) ≡ Less) e first.below))

      shorter : (r z : List ℕ) → folder ≡ q.0 ++ z → 47 ∷ r ≡ z ++ path → ⊥
      shorter r [] e f = inside [] (sym (append-nil q.0) ∙ sym e ∙ sym (append-nil folder))
      shorter r (c ∷ z) e f =
          let slash : 47 ≡ c = cc f in
          ⊎_elim
          (λ tree. behind z (e ∙ ap (λ s. q.0 ++ s ∷ z) (sym slash) ∙ sym (append_assoc q.0 (47 ∷ []) z) ∙ ap (λ t. (q.0 ++ t) ++ z) (sym tree)))
          (λ file. behind (c ∷ z) (e ∙ ap (λ t. t ++ c ∷ z) (sym (append-nil q.0) ∙ ap (λ t. q.0 ++ t) (sym file))))
          (tail_cases q.1.mode)

  pub over_before : (fronts : List Pair) (rest : List Pair) → AllByRecursion (λ a. AllByRecursion (ComesFirst a) ((d, index_entry modes.Tree id) ∷ rest)) fronts → AllByRecursion (λ a. Begins folder a.0 → ⊥) fronts → HasOver fronts (folder ++ path) → ⊥
  over_before [] rest first outside h = h
  over_before (a ∷ fronts) rest first outside h = ⊎_elim (not_before a first.0.0 outside.0) (over_before fronts rest first.1 outside.1) h

  pub over_after : (qs : List Pair) → AllByRecursion (ComesFirst (d, index_entry modes.Tree id)) qs → HasOver qs (folder ++ path) → ⊥
  over_after [] first h = h
  over_after (q ∷ qs) first h = ⊎_elim (not_after q first.0) (over_after qs first.1) h

-- ---- what stands under the entries of a folder
pub over_named : (folder path name : List ℕ) (es : List Entry) → AllByRecursion IsEntry es → IsFirstName name path → HasOver (map (placed folder) es) (folder ++ path) → HasName es name
over_named folder path name [] legal first h = h
over_named folder path name (e ∷ es) legal first h = ⊎_elim
    (λ over. inl (⊎_elim
    (λ same.
    let is : e.name ≡ path = same_back folder e.name path same in
    ⊎_elim
    (λ whole. is ∙ whole)
    (λ above. absurd (no_cut 47 _ name above.0 legal.0.name.no_slash (is ∙ above.1)))
    first.1)
    (λ above.
    let is : path ≡ e.name ++ 47 ∷ above.0 = same_back folder path (e.name ++ 47 ∷ above.0) (above.1 ∙ append_assoc folder e.name (47 ∷ above.0)) in
    ⊎_elim
    (λ whole. absurd (no_cut 47 _ e.name above.0 first.0 (sym whole ∙ is)))
    (λ other. same_front e.name name above.0 other.0 legal.0.name.no_slash first.0 (sym is ∙ other.1))
    first.1)
    over))
    (λ later. inr (over_named folder path name es legal.1 first later))
    h

-- what stands under an entry of a folder stands under the folder
pub over_closed : (d path : List ℕ) (es : List Entry) → HasOver (map (placed (d ++ 47 ∷ [])) es) path → IsAbove d path
over_closed d path [] h = absurd h
over_closed d path (e ∷ es) h = ⊎_elim
    (λ over. ⊎_elim
    (λ same. (e.name, sym same ∙ append_assoc d (47 ∷ []) e.name))
    (λ above. (e.name ++ 47 ∷ above.0, above.1 ∙ append_assoc (d ++ 47 ∷ []) e.name (47 ∷ above.0) ∙ append_assoc d (47 ∷ []) (e.name ++ 47 ∷ above.0)))
    over)
    (λ later. over_closed d path es later)
    h
