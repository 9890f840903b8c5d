-- Folders above paths, and the folders of a work tree.
use Rattle.std.proofs.Common.{◌≡◌, ◌≢◌, ℕ, ◌<◌, true, false, List, ◌∷◌, ◌++◌, length, get_or, take, sym, ap, refl, ◌∙◌, subst, append_assoc, IsTrue, ◌⊎◌, inl, inr, arith, length-append, length-take, []}
use Rattle.std.specs.Prelude.{IsSome, bytes_eq}
use Rattle.std.specs.FinMap.{get}
use Rattle.std.specs.FinSet.{contains}
use Rattle.std.proofs.lemmas.Slice.Eq.{bytes_eq-Decides}
use Rattle.vc_files.specs.FileMap.{FileMap}
use Rattle.vc_index.specs.Path.{IsAbove}
use Rattle.vc_index.proofs.ConflictLemmas.{above_cut, cut_above}
use Rattle.vc_work_tree.specs.Folders.{AreFolders, Folders, IsAtOrIn, IsFolder, IsFolderBy, IsLowestAbove}
use Rattle.vc_lemmas.proofs.Lists.{same_head, same_tail}

-- ---- paths
pub above_then : (a b c : List ℕ) → IsAbove a b → IsAbove b c → IsAbove a c
above_then a b c (r, e) (s, f) = (r ++ 47 ∷ s, f ∙ ap (λ x. x ++ 47 ∷ s) e ∙ append_assoc a (47 ∷ r) (47 ∷ s))

pub above_itself : (a : List ℕ) → IsAbove a a → ⊥
above_itself a (r, e) = absurd (omega (arith, ap length e, length-append a (47 ∷ r)))

pub in_then : (a b c : List ℕ) → IsAtOrIn a b → IsAtOrIn b c → IsAtOrIn a c
in_then a b c (inl same) (inl then) = inl (then ∙ same)
in_then a b c (inl same) (inr then) = inr (subst (λ (x : List ℕ). IsAbove x c) same then)
in_then a b c (inr above) (inl then) = inr (subst (IsAbove a) (sym then) above)
in_then a b c (inr above) (inr then) = inr (above_then a b c above then)

pub above_in : (a b c : List ℕ) → IsAbove a b → IsAtOrIn b c → IsAbove a c
above_in a b c above (inl then) = subst (IsAbove a) (sym then) above
above_in a b c above (inr then) = above_then a b c above then

pub in_above : (a b c : List ℕ) → IsAtOrIn a b → IsAbove b c → IsAbove a c
in_above a b c (inl same) then = subst (λ (x : List ℕ). IsAbove x c) same then
in_above a b c (inr above) then = above_then a b c above then

-- two folders of one path: one lies in the other
compared : (a b r s : List ℕ) → a ++ 47 ∷ r ≡ b ++ 47 ∷ s → (a ≡ b) ⊎ (IsAbove a b ⊎ IsAbove b a)
compared [] [] r s e = inl refl
compared [] (y ∷ b) r s e = inr (inl (b, ap (λ h. h ∷ b) (sym (same_head 47 y r (b ++ 47 ∷ s) e))))
compared (x ∷ a) [] r s e = inr (inr (a, ap (λ h. h ∷ a) (same_head x 47 (a ++ 47 ∷ r) s e)))
compared (x ∷ a) (y ∷ b) r s e = more (same_head x y (a ++ 47 ∷ r) (b ++ 47 ∷ s) e) (compared a b r s (same_tail x y (a ++ 47 ∷ r) (b ++ 47 ∷ s) e))
  where
    more : x ≡ y → (a ≡ b) ⊎ (IsAbove a b ⊎ IsAbove b a) → (x ∷ a ≡ y ∷ b) ⊎ (IsAbove (x ∷ a) (y ∷ b) ⊎ IsAbove (y ∷ b) (x ∷ a))
    more h (inl t) = inl cc
    more h (inr (inl (u, t))) = inr (inl (u, cc))
    more h (inr (inr (u, t))) = inr (inr (u, cc))

pub above_either : (a b c : List ℕ) → IsAbove a c → IsAbove b c → (a ≡ b) ⊎ (IsAbove a b ⊎ IsAbove b a)
above_either a b c (r, e) (s, f) = compared a b r s (sym e ∙ f)

-- a path in two folders: one folder is above the other, or lies in it
pub in_either : (a b c : List ℕ) → IsAtOrIn a c → IsAtOrIn b c → IsAbove a b ⊎ IsAtOrIn b a
in_either a b c (inl e) (inl f) = inr (inl (sym e ∙ f))
in_either a b c (inl e) (inr f) = inr (inr (subst (IsAbove b) e f))
in_either a b c (inr e) (inl f) = inl (subst (IsAbove a) f e)
in_either a b c (inr e) (inr f) = by (above_either a b c e f)
  where
    by : (a ≡ b) ⊎ (IsAbove a b ⊎ IsAbove b a) → IsAbove a b ⊎ IsAtOrIn b a
    by (inl same) = inr (inl same)
    by (inr (inl up)) = inl up
    by (inr (inr down)) = inr (inr down)

-- a path in which no slash stands lies in no folder
pub none_above : (path : List ℕ) → ((i : ℕ) → i < length path → get_or path i 0 ≢ 47) → (folder : List ℕ) → IsAbove folder path → ⊥
none_above path never folder (r, e) = let cut = above_cut path folder r e in never (length folder) cut.0 cut.1

-- what stands before the last slash is the lowest folder above
pub lowest_at : (path : List ℕ) (k : ℕ) → k < length path → get_or path k 0 ≡ 47 → ((i : ℕ) → k < i → i < length path → get_or path i 0 ≢ 47) → IsLowestAbove (take k path) path
lowest_at path k inside slash last = record {
  above = cut_above path k inside slash;
  lowest = λ other above. by other above (above_either other (take k path) path above (cut_above path k inside slash));
}
  where
    by : (other : List ℕ) → IsAbove other path → (other ≡ take k path) ⊎ (IsAbove other (take k path) ⊎ IsAbove (take k path) other) → IsAtOrIn other (take k path)
    by other above (inl same) = inl (sym same)
    by other above (inr (inl up)) = inr up
    by other (r, e) (inr (inr (t, f))) =
        let cut = above_cut path other r e in
        let long : k < length other = omega (arith, ap length f, length-append (take k path) (47 ∷ t), length-take k path, inside) in
        absurd (last (length other) long cut.0 cut.1)

pub same_or_not : (q k : List ℕ) → (q ≡ k) ⊎ (q ≢ k)
same_or_not q k = elim (bytes_eq q k) as (λ b. bytes_eq q k ≡ b → (q ≡ k) ⊎ (q ≢ k)) [
  | true ↦ λ e. inl ((bytes_eq-Decides q k).0 e)
  | false ↦ λ e. inr (λ same. let t = (bytes_eq-Decides q k).1 same in cc (e, t))
] refl

-- whether a path lies in a folder
pub above_or_not : (a c : List ℕ) → IsAbove a c ⊎ (IsAbove a c → ⊥)
above_or_not [] [] = inr (λ (r, e). cc e)
above_or_not [] (y ∷ c) = by (same_or_not (y ∷ []) (47 ∷ []))
  where
    by : (y ∷ [] ≡ 47 ∷ []) ⊎ (y ∷ [] ≢ 47 ∷ []) → IsAbove [] (y ∷ c) ⊎ (IsAbove [] (y ∷ c) → ⊥)
    by (inl same) = inl (c, cc)
    by (inr apart) = inr (λ (r, e). apart (ap (λ h. h ∷ []) (same_head y 47 c r e)))
above_or_not (x ∷ a) [] = inr (λ (r, e). cc e)
above_or_not (x ∷ a) (y ∷ c) = by (same_or_not (y ∷ []) (x ∷ [])) (above_or_not a c)
  where
    by : (y ∷ [] ≡ x ∷ []) ⊎ (y ∷ [] ≢ x ∷ []) → IsAbove a c ⊎ (IsAbove a c → ⊥) → IsAbove (x ∷ a) (y ∷ c) ⊎ (IsAbove (x ∷ a) (y ∷ c) → ⊥)
    by (inl same) (inl (r, e)) = inl (r, cc)
    by (inl same) (inr nope) = inr (λ (r, e). nope (r, same_tail y x c (a ++ 47 ∷ r) e))
    by (inr apart) t = inr (λ (r, e). apart (ap (λ h. h ∷ []) (same_head y x c (a ++ 47 ∷ r) e)))

pub in_or_not : (a c : List ℕ) → IsAtOrIn a c ⊎ (IsAtOrIn a c → ⊥)
in_or_not a c = by (same_or_not c a) (above_or_not a c)
  where
    by : (c ≡ a) ⊎ (c ≢ a) → IsAbove a c ⊎ (IsAbove a c → ⊥) → IsAtOrIn a c ⊎ (IsAtOrIn a c → ⊥)
    by (inl same) t = inl (inl same)
    by (inr apart) (inl above) = inl (inr above)
    by (inr apart) (inr nope) = inr (neither apart nope)
      where
        neither : (c ≢ a) → (IsAbove a c → ⊥) → IsAtOrIn a c → ⊥
        neither apart nope (inl same) = apart same
        neither apart nope (inr above) = nope above

-- ---- folders
-- what lies in a folder makes it one
pub folder_above : (work : FileMap) (P : List ℕ → Type 0) (d e : List ℕ) → IsAtOrIn d e → IsFolderBy work P e → IsFolderBy work P d
folder_above work P d e is (inl (path, above, some)) = inl (path, in_above d e path is above, some)
folder_above work P d e is (inr (one, p, at)) = inr (one, p, in_then d e one is at)

pub folder_itself : (work : FileMap) (P : List ℕ → Type 0) (d : List ℕ) → P d → IsFolderBy work P d
folder_itself work P d p = inr (d, p, inl refl)

-- the same files or more, and each of these is a folder by those
pub folder_map : (old new : FileMap) (P Q : List ℕ → Type 0) → ((path : List ℕ) → IsSome (get old path) → IsSome (get new path)) → ((one : List ℕ) → P one → IsFolderBy new Q one) → (d : List ℕ) → IsFolderBy old P d → IsFolderBy new Q d
folder_map old new P Q files ones d (inl (path, above, some)) = inl (path, above, files path some)
folder_map old new P Q files ones d (inr (one, p, at)) = folder_above new Q d one at (ones one p)

pub are_folders : (work : FileMap) (held : Folders) (P : List ℕ → Type 0) → ((one : List ℕ) → IsTrue (contains held one) → IsFolderBy work P one) → ((one : List ℕ) → P one → IsFolder work held one) → AreFolders work held P
are_folders work held P there back = record {
  exact = λ d. (
    folder_map work work (λ one. IsTrue (contains held one)) P (λ path some. some) there d,
    folder_map work work P (λ one. IsTrue (contains held one)) (λ path some. some) back d,
  );
}

pub still_folders : (work : FileMap) (held : Folders) → AreFolders work held (IsFolder work held)
still_folders work held = are_folders work held (IsFolder work held) (λ one is. folder_itself work (IsFolder work held) one (folder_itself work (λ one. IsTrue (contains held one)) one is)) (λ one is. is)
