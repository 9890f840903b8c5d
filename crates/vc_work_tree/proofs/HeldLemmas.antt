-- The folders that a work tree in memory holds.
use Rattle.std.proofs.Common.{◌≡◌, ◌≢◌, ℕ, Bool, true, false, not, cond, Option, ◌||◌, ◌&&◌, List, [], ◌∷◌, map, Some, None, sym, ap, refl, ◌∙◌, subst, ◌↔◌, IsTrue, ◌⊎◌, inl, inr}
use Rattle.std.specs.Prelude.{String, Vec, is_some, option_map, IsSome, bytes_eq, string_bytes, string_cmp, filter}
use Rattle.std.specs.Global.{Global}
use Rattle.std.specs.BTreeMap.{BTreeMap, IsOrdered, get_by_text, is_at, keys}
use Rattle.std.specs.BTreeSet.{BTreeSet, UpdatesBy}
use Rattle.std.specs.Set.{KeepsOthers}
use Rattle.std.specs.FinMap as files
use Rattle.std.specs.FinMap.{get, contains_key-keys, same_map, slice_cmp-IsAntisymmetric, nat_cmp-IsAntisymmetric}
use Rattle.std.specs.FinSet.{contains, contains-from_list}
use Rattle.std.specs.List.{list_any}
use Rattle.std.specs.Ordering.{nat_cmp, is_eq}
use Rattle.std.specs.Cmp.{eq_by_cmp_equiv}
use Rattle.std.specs.Cmp.Lexicographic.{slice_cmp, nat_list_cmp_total}
use Rattle.std.proofs.lemmas.Bool.{false_from_ne_true}
use Rattle.std.proofs.lemmas.Map.Views.{any-filter_same}
use Rattle.std.proofs.lemmas.Slice.Eq.{bytes_eq-Decides}
use Rattle.std.proofs.Math.Bool.{or-true}
use Rattle.vc_files.specs.FileMap.{FileMap}
use Rattle.vc_files.specs.Memory.{files_of}
use Rattle.vc_files.proofs.MemoryLemmas.{get-files_of, keys-files_of}
use Rattle.vc_files.specs.Path.{is_above}
use Rattle.vc_files.proofs.PathLemmas.{is_above-append, is_above-parts}
use Rattle.vc_index.specs.Path.{IsAbove}
use Rattle.vc_index.proofs.MapLemmas.{same_text, is_eq-same}
use Rattle.vc_work_tree.specs.Folders.{AreFolders, Folders, HoldsFile, IsAtOrIn, IsFolder, IsFolderBy, IsLowestAbove, IsNoted, folders_of}
use Rattle.vc_work_tree.proofs.ChangeLemmas.{put_at, put_others, removed_at, removed_others}
use Rattle.vc_work_tree.specs.Paths.{is_same, is_listed}
use Rattle.vc_work_tree.proofs.FolderLemmas.{above_itself, above_then, are_folders, folder_above, folder_itself, in_either, same_or_not}

abbrev Held : Type 0
Held = BTreeSet (String Global)

-- ---- the test of a folder above
pub above_test : (folder path : List ℕ) → (is_above folder path ≡ true → IsAbove folder path) × (IsAbove folder path → is_above folder path ≡ true)
above_test folder path = (is_above-parts folder path, λ (rest, e). ap (is_above folder) e ∙ is_above-append folder rest)

-- ---- what a list of texts has below a folder
pub any_below : (folder : List ℕ) (ks : List (String Global)) → list_any (λ k. is_above folder (string_bytes k)) ks ≡ true → (path : List ℕ) × IsAbove folder path × (is_listed path (map string_bytes ks) ≡ true)
any_below folder [] e = cc e
any_below folder (k ∷ ks) e = elim (is_above folder (string_bytes k)) as (λ b. is_above folder (string_bytes k) ≡ b → (b || list_any (λ k. is_above folder (string_bytes k)) ks) ≡ true → (path : List ℕ) × IsAbove folder path × (is_listed path (map string_bytes (k ∷ ks)) ≡ true)) [
  | true ↦ λ is _. (string_bytes k, (above_test folder (string_bytes k)).0 is, ap (λ b. b || is_listed (string_bytes k) (map string_bytes ks)) (is_eq-same (string_bytes k)))
  | false ↦ λ _ later. let found = any_below folder ks later in (found.0, found.1, ap (λ b. is_same found.0 (string_bytes k) || b) found.2 ∙ or-true (is_same found.0 (string_bytes k)))
] refl e

pub below_any : (folder : List ℕ) (ks : List (String Global)) (path : List ℕ) → IsAbove folder path → is_listed path (map string_bytes ks) ≡ true → list_any (λ k. is_above folder (string_bytes k)) ks ≡ true
below_any folder [] path above e = cc e
below_any folder (k ∷ ks) path above e = elim (is_same path (string_bytes k)) as (λ b. is_same path (string_bytes k) ≡ b → (b || is_listed path (map string_bytes ks)) ≡ true → list_any (λ k. is_above folder (string_bytes k)) (k ∷ ks) ≡ true) [
  | true ↦ λ same _. ap (λ b. b || list_any (λ k. is_above folder (string_bytes k)) ks) ((above_test folder (string_bytes k)).1 (subst (IsAbove folder) (same_text path (string_bytes k) same) above))
  | false ↦ λ _ later. ap (λ b. is_above folder (string_bytes k) || b) (below_any folder ks path above later) ∙ or-true (is_above folder (string_bytes k))
] refl e

pub any_first : (folder : List ℕ) (k : String Global) (rest all : List (String Global)) → all ≡ k ∷ rest → is_above folder (string_bytes k) ≡ true → true ≡ list_any (λ k. is_above folder (string_bytes k)) all
any_first folder k rest all first below = sym (ap (list_any (λ k. is_above folder (string_bytes k))) first ∙ ap (λ b. b || list_any (λ k. is_above folder (string_bytes k)) rest) below)

pub any_rest : (folder : List ℕ) (k : String Global) (rest all : List (String Global)) → all ≡ k ∷ rest → is_above folder (string_bytes k) ≡ false → list_any (λ k. is_above folder (string_bytes k)) rest ≡ list_any (λ k. is_above folder (string_bytes k)) all
any_rest folder k rest all first other = sym (ap (list_any (λ k. is_above folder (string_bytes k))) first ∙ ap (λ b. b || list_any (λ k. is_above folder (string_bytes k)) rest) other)

-- ---- what a map in memory has below a folder
pub holds_any : (m : BTreeMap (String Global) (Vec ℕ Global)) (folder : List ℕ) → IsOrdered string_cmp m → (b : Bool) → b ≡ list_any (λ k. is_above folder (string_bytes k)) (keys m) → IsTrue b ↔ HoldsFile (files_of m) folder
holds_any m folder ordered b is = (
  λ t. let found = any_below folder (keys m) (sym is ∙ t) in (found.0, found.1, contains_key-keys (files_of m) found.0 ∙ ap (is_listed found.0) (keys-files_of m ordered) ∙ found.2),
  λ (path, above, some). is ∙ below_any folder (keys m) path above (sym (ap (is_listed path) (keys-files_of m ordered)) ∙ sym (contains_key-keys (files_of m) path) ∙ some),
)

-- ---- the files of a map in memory
pub some_put : (old new : FileMap) (p bytes : List ℕ) → new ≡ files.insert old p bytes → (q : List ℕ) → IsSome (get old q) → IsSome (get new q)
some_put old new p bytes is q some = by (same_or_not q p)
  where
    by : (q ≡ p) ⊎ (q ≢ p) → IsSome (get new q)
    by (inl same) = subst (λ (o : Option (List ℕ)). IsSome o) (sym (ap (get new) same ∙ put_at old new p bytes is)) refl
    by (inr apart) = subst (λ (o : Option (List ℕ)). IsSome o) (sym (put_others old new p bytes is q apart)) some

pub some_there : (old new : FileMap) (p bytes : List ℕ) → new ≡ files.insert old p bytes → IsSome (get new p)
some_there old new p bytes is = subst (λ (o : Option (List ℕ)). IsSome o) (sym (put_at old new p bytes is)) refl

pub some_left : (old new : FileMap) (p : List ℕ) → new ≡ files.remove old p → (q : List ℕ) → q ≢ p → IsSome (get old q) → IsSome (get new q)
some_left old new p is q apart some = subst (λ (o : Option (List ℕ)). IsSome o) (sym (removed_others old new p is q apart)) some

pub some_stored : (m : BTreeMap (String Global) (Vec ℕ Global)) (p : List ℕ) → is_some (get_by_text m p) ≡ true → IsSome (get (files_of m) p)
some_stored m p has = subst (λ (o : Option (List ℕ)). IsSome o) (sym (get-files_of m p)) (by (get_by_text m p) has)
  where
    by : (o : Option (Vec ℕ Global)) → is_some o ≡ true → IsSome (option_map (λ bytes. bytes.items) o)
    by None e = cc e
    by (Some x) e = refl

pub removed_absent : (m : BTreeMap (String Global) (Vec ℕ Global)) (p : List ℕ) → is_some (get_by_text m p) ≡ false → files_of m ≡ files.remove (files_of m) p
removed_absent m p lacks = same_map nat_list_cmp_total (slice_cmp-IsAntisymmetric nat_cmp-IsAntisymmetric) _ _ (λ q. by q (same_or_not q p))
  where
    none : (o : Option (Vec ℕ Global)) → is_some o ≡ false → option_map (λ bytes. bytes.items) o ≡ None
    none None e = refl
    none (Some x) e = cc e

    by : (q : List ℕ) → (q ≡ p) ⊎ (q ≢ p) → get (files_of m) q ≡ get (files.remove (files_of m) p) q
    by q (inl same) = ap (get (files_of m)) same ∙ get-files_of m p ∙ none (get_by_text m p) lacks ∙ sym (ap (get (files.remove (files_of m) p)) same ∙ removed_at (files_of m) (files.remove (files_of m) p) p refl)
    by q (inr apart) = sym (removed_others (files_of m) (files.remove (files_of m) p) p refl q apart)

-- ---- a set of texts as folders
same_any : (q : List ℕ) (ks : List (String Global)) → is_listed q (map string_bytes ks) ≡ list_any (λ k. is_same q (string_bytes k)) ks
same_any q [] = refl
same_any q (k ∷ ks) = ap (λ b. is_same q (string_bytes k) || b) (same_any q ks)

pub held_listed : (s : Held) (q : List ℕ) → contains (folders_of s) q ≡ is_listed q (map string_bytes s.keys)
held_listed s q = contains-from_list nat_list_cmp_total (map string_bytes s.keys) q

pub held_any : (s : Held) (q : List ℕ) → contains (folders_of s) q ≡ list_any (λ k. is_same q (string_bytes k)) s.keys
held_any s q = held_listed s q ∙ same_any q s.keys

pub held_set : (m n : Held) (k : List ℕ) (b : Bool) → UpdatesBy string_cmp (λ s. slice_cmp nat_cmp k (string_bytes s)) m n b → (q : List ℕ) → contains (folders_of n) q ≡ cond (is_same q k) b (contains (folders_of m) q)
unfolding KeepsOthers
held_set m n k b change q =
    elim (is_same q k) as (λ t. is_same q k ≡ t → contains (folders_of n) q ≡ cond t b (contains (folders_of m) q)) [
      | true ↦ λ same. held_any n q ∙ ap (λ p. list_any (λ s. is_same p (string_bytes s)) n.keys) (same_text q k same) ∙ change.1
      | false ↦ λ other.
          held_any n q
          ∙ change.3 (is_at (λ s. slice_cmp nat_cmp q (string_bytes s)))
          (λ x y. (eq_by_cmp_equiv nat_list_cmp_total).congr q (string_bytes x) (string_bytes y))
          (λ x at. false_from_ne_true _ (λ too.
          let e : q ≡ k = same_text q (string_bytes x) too ∙ sym (same_text k (string_bytes x) at) in
          let f : is_eq (slice_cmp nat_cmp q k) ≡ true = ap (λ t. is_eq (slice_cmp nat_cmp q t)) (sym e) ∙ is_eq-same q in
          cc (f, other)))
          ∙ sym (held_any m q)
    ] refl

pub held_filter : (m n : Held) (p : List ℕ) → n.keys ≡ filter (λ k. not (bytes_eq (string_bytes k) p || is_above p (string_bytes k))) m.keys → (q : List ℕ) → contains (folders_of n) q ≡ (not (bytes_eq q p || is_above p q) && contains (folders_of m) q)
held_filter m n p is q =
    held_any n q ∙ ap (list_any (λ k. is_same q (string_bytes k))) is
    ∙ any-filter_same (λ k. is_same q (string_bytes k)) (λ k. not (bytes_eq (string_bytes k) p || is_above p (string_bytes k))) (not (bytes_eq q p || is_above p q)) (λ k same. ap (λ t. not (bytes_eq t p || is_above p t)) (sym (same_text q (string_bytes k) same))) m.keys
    ∙ ap (λ b. not (bytes_eq q p || is_above p q) && b) (sym (held_any m q))

pub holds_any_folder : (s : Held) (folder : List ℕ) (b : Bool) → b ≡ list_any (λ k. is_above folder (string_bytes k)) s.keys → IsTrue b ↔ ((one : List ℕ) × IsAbove folder one × IsTrue (contains (folders_of s) one))
holds_any_folder s folder b is = (
  λ t. let found = any_below folder s.keys (sym is ∙ t) in (found.0, found.1, held_listed s found.0 ∙ found.2),
  λ (one, above, has). is ∙ below_any folder s.keys one above (sym (held_listed s one) ∙ has),
)

-- ---- the folder of a path is noted
module _ (path : List ℕ) (old new : Folders) where
  pub noted_none : ((folder : List ℕ) → IsAbove folder path → ⊥) → new ≡ old → IsNoted path old new
  noted_none never same = record {
    kept = λ one is. subst (λ (s : Folders). IsTrue (contains s one)) (sym same) is;
    only = λ one is. inl (subst (λ (s : Folders). IsTrue (contains s one)) same is);
    all = λ folder above. absurd (never folder above);
  }

  pub noted_more : (k : List ℕ) → IsLowestAbove k path → ((q : List ℕ) → contains new q ≡ cond (is_same q k) true (contains old q)) → IsNoted path old new
  noted_more k lowest set = record {
    kept = λ one is. set one ∙ kept (is_same one k) (contains old one) is;
    only = λ one is. only one (is_same one k) refl (sym (set one) ∙ is);
    all = λ folder above. (k, set k ∙ ap (λ b. cond b true (contains old k)) (is_eq-same k), lowest.above, lowest.lowest folder above);
  }
    where
      kept : (b c : Bool) → c ≡ true → cond b true c ≡ true
      kept true c is = refl
      kept false c is = is

      only : (one : List ℕ) (b : Bool) → is_same one k ≡ b → cond b true (contains old one) ≡ true → IsTrue (contains old one) ⊎ IsAbove one path
      only one true same is = inr (subst (λ (p : List ℕ). IsAbove p path) (sym (same_text one k same)) lowest.above)
      only one false other is = inl is

-- ---- what the calls do to the folders
abbrev IsHeld : Folders → List ℕ → Type 0
IsHeld held one = IsTrue (contains held one)

module _ (work now : FileMap) (held new : Folders) (p : List ℕ) where
  not_at : (q : List ℕ) (b : Bool) → (not (bytes_eq q p || is_above p q) && b) ≡ true → (IsAtOrIn p q → ⊥) × (b ≡ true)
  not_at q b e = by (bytes_eq q p) (is_above p q) refl refl e
    where
      by : (s a : Bool) → bytes_eq q p ≡ s → is_above p q ≡ a → (not (s || a) && b) ≡ true → (IsAtOrIn p q → ⊥) × (b ≡ true)
      by true a f g e = absurd (cc e)
      by false true f g e = absurd (cc e)
      by false false f g e = (λ at. neither at, e)
        where
          neither : IsAtOrIn p q → ⊥
          neither (inl same) = let t = (bytes_eq-Decides q p).1 same in cc (t, f)
          neither (inr above) = let t = (above_test p q).1 above in cc (t, g)

  beside : (q : List ℕ) (b : Bool) → b ≡ true → IsAtOrIn p q ⊎ ((not (bytes_eq q p || is_above p q) && b) ≡ true)
  beside q b e = by (bytes_eq q p) (is_above p q) refl refl
    where
      by : (s a : Bool) → bytes_eq q p ≡ s → is_above p q ≡ a → IsAtOrIn p q ⊎ ((not (s || a) && b) ≡ true)
      by true a f g = inl (inl ((bytes_eq-Decides q p).0 f))
      by false true f g = inl (inr ((above_test p q).0 g))
      by false false f g = inr e

  -- a file is written
  pub folders_put : ((q : List ℕ) → IsSome (get work q) → IsSome (get now q)) → IsSome (get now p) → ((q : List ℕ) → contains new q ≡ (not (bytes_eq q p || is_above p q) && contains held q)) → AreFolders now new (λ one. IsFolder work held one × (IsAtOrIn p one → ⊥))
  folders_put files there set = are_folders now new (λ one. IsFolder work held one × (IsAtOrIn p one → ⊥))
      (λ one is. let n = not_at one (contains held one) (sym (set one) ∙ is) in folder_itself now (λ one. IsFolder work held one × (IsAtOrIn p one → ⊥)) one (folder_itself work (IsHeld held) one n.1, n.0))
      (λ one is. back one is.0 is.1)
    where
      kept : (one q : List ℕ) → (IsAtOrIn p one → ⊥) → IsAtOrIn one q → IsAtOrIn p q ⊎ ((not (bytes_eq q p || is_above p q) && contains held q) ≡ true) → IsFolder now new one
      kept one q apart at (inr stays) = folder_above now (IsHeld new) one q at (folder_itself now (IsHeld new) q (set q ∙ stays))
      kept one q apart at (inl gone) = by (in_either one p q at gone)
        where
          by : IsAbove one p ⊎ IsAtOrIn p one → IsFolder now new one
          by (inl above) = inl (p, above, there)
          by (inr in_it) = absurd (apart in_it)

      back : (one : List ℕ) → IsFolder work held one → (IsAtOrIn p one → ⊥) → IsFolder now new one
      back one (inl (path, above, some)) apart = inl (path, above, files path some)
      back one (inr (q, is, at)) apart = kept one q apart at (beside q (contains held q) is)

  -- a file that was there is taken away
  pub folders_taken : ((q : List ℕ) → q ≢ p → IsSome (get work q) → IsSome (get now q)) → IsSome (get work p) → IsNoted p held new → AreFolders now new (IsFolder work held)
  folders_taken files there noted = are_folders now new (IsFolder work held)
      (λ one is. folder_itself now (IsFolder work held) one (was one (noted.only one is)))
      back
    where
      was : (one : List ℕ) → IsTrue (contains held one) ⊎ IsAbove one p → IsFolder work held one
      was one (inl is) = folder_itself work (IsHeld held) one is
      was one (inr above) = inl (p, above, there)

      above_it : (one : List ℕ) → IsAbove one p → IsFolder now new one
      above_it one above = let f = noted.all one above in folder_above now (IsHeld new) one f.0 f.3 (folder_itself now (IsHeld new) f.0 f.1)

      back : (one : List ℕ) → IsFolder work held one → IsFolder now new one
      back one (inl (path, above, some)) = by (same_or_not path p)
        where
          by : (path ≡ p) ⊎ (path ≢ p) → IsFolder now new one
          by (inl same) = above_it one (subst (IsAbove one) same above)
          by (inr apart) = inl (path, above, files path apart some)
      back one (inr (q, is, at)) = folder_above now (IsHeld new) one q at (folder_itself now (IsHeld new) q (noted.kept q is))

-- a folder is made
pub folders_made : (work : FileMap) (held new : Folders) (p : List ℕ) → ((q : List ℕ) → contains new q ≡ cond (is_same q p) true (contains held q)) → AreFolders work new (λ one. IsFolder work held one ⊎ (one ≡ p))
folders_made work held new p set = are_folders work new (λ one. IsFolder work held one ⊎ (one ≡ p)) there back
  where
    there : (one : List ℕ) → IsTrue (contains new one) → IsFolderBy work (λ one. IsFolder work held one ⊎ (one ≡ p)) one
    there one is = folder_itself work (λ one. IsFolder work held one ⊎ (one ≡ p)) one (by (is_same one p) refl (sym (set one) ∙ is))
      where
        by : (b : Bool) → is_same one p ≡ b → cond b true (contains held one) ≡ true → IsFolder work held one ⊎ (one ≡ p)
        by true same e = inr (same_text one p same)
        by false other e = inl (folder_itself work (IsHeld held) one e)

    held_still : (b c : Bool) → c ≡ true → cond b true c ≡ true
    held_still true c e = refl
    held_still false c e = e

    back : (one : List ℕ) → IsFolder work held one ⊎ (one ≡ p) → IsFolder work new one
    back one (inl (inl file)) = inl file
    back one (inl (inr (q, is, at))) = folder_above work (IsHeld new) one q at (folder_itself work (IsHeld new) q (set q ∙ held_still (is_same q p) (contains held q) is))
    back one (inr same) = folder_itself work (IsHeld new) one (set one ∙ ap (λ b. cond b true (contains held one)) (ap (λ q. is_same q p) same ∙ is_eq-same p))

-- ---- a folder in which nothing lies is taken away
abbrev pub HasBelow : FileMap → Folders → List ℕ → Type 0
HasBelow work held p = HoldsFile work p ⊎ ((one : List ℕ) × IsAbove p one × IsTrue (contains held one))

pub below_folder : (work : FileMap) (held : Folders) (p : List ℕ) → HasBelow work held p → IsFolder work held p
below_folder work held p (inl file) = inl file
below_folder work held p (inr (one, above, is)) = inr (one, is, inr above)

-- what is not there of itself has something below
pub folder_below : (work : FileMap) (held : Folders) (p : List ℕ) → contains held p ≡ false → IsFolder work held p → HasBelow work held p
folder_below work held p lacks (inl file) = inl file
folder_below work held p lacks (inr (q, is, inl same)) = let t : contains held p ≡ true = ap (contains held) (sym same) ∙ is in absurd (cc (t, lacks))
folder_below work held p lacks (inr (q, is, inr above)) = inr (q, above, is)

-- a folder in which something lies stays
pub folders_kept : (work : FileMap) (held : Folders) (p : List ℕ) → HasBelow work held p ⊎ (IsFolder work held p → ⊥) → AreFolders work held (λ one. IsFolder work held one × (one ≢ p))
folders_kept work held p how = are_folders work held (λ one. IsFolder work held one × (one ≢ p)) (λ one is. by one (folder_itself work (IsHeld held) one is) (same_or_not one p) how) (λ one is. is.0)
  where
    at_p : HasBelow work held p → IsFolderBy work (λ one. IsFolder work held one × (one ≢ p)) p
    at_p (inl file) = inl file
    at_p (inr (q, above, is)) = inr (q, (folder_itself work (IsHeld held) q is, λ same. above_itself p (subst (IsAbove p) same above)), inr above)

    by : (one : List ℕ) → IsFolder work held one → (one ≡ p) ⊎ (one ≢ p) → HasBelow work held p ⊎ (IsFolder work held p → ⊥) → IsFolderBy work (λ one. IsFolder work held one × (one ≢ p)) one
    by one is (inr apart) how = folder_itself work (λ one. IsFolder work held one × (one ≢ p)) one (is, apart)
    by one is (inl same) (inl below) = subst (IsFolderBy work (λ one. IsFolder work held one × (one ≢ p))) (sym same) (at_p below)
    by one is (inl same) (inr none) = absurd (none (subst (IsFolder work held) same is))

module _ (work : FileMap) (held noted new : Folders) (p : List ℕ) (empty : HasBelow work held p → ⊥) where
  -- what is not there and has nothing below is no folder
  pub no_folder : contains held p ≡ false → IsFolder work held p → ⊥
  no_folder lacks is = empty (folder_below work held p lacks is)

  module _ (note : IsNoted p held noted) (was : contains held p ≡ true) (set : (q : List ℕ) → contains new q ≡ cond (is_same q p) false (contains noted q)) where
    kept : (q : List ℕ) → q ≢ p → IsTrue (contains noted q) → IsTrue (contains new q)
    kept q apart is = set q ∙ ap (λ b. cond b false (contains noted q)) (false_from_ne_true _ (λ e. apart (same_text q p e))) ∙ is

    only : (q : List ℕ) → IsTrue (contains new q) → (q ≢ p) × IsTrue (contains noted q)
    only q is = by (is_same q p) refl (sym (set q) ∙ is)
      where
        by : (b : Bool) → is_same q p ≡ b → cond b false (contains noted q) ≡ true → (q ≢ p) × IsTrue (contains noted q)
        by true same e = absurd (cc e)
        by false other e = (λ same. let t : is_same q p ≡ true = ap (λ x. is_same x p) same ∙ is_eq-same p in cc (t, other), e)

    held_p : IsFolder work held p
    held_p = folder_itself work (IsHeld held) p was

    was_one : (q : List ℕ) → IsTrue (contains held q) ⊎ IsAbove q p → IsFolder work held q
    was_one q (inl is) = folder_itself work (IsHeld held) q is
    was_one q (inr above) = folder_above work (IsHeld held) q p (inr above) held_p

    above_p : (one : List ℕ) → IsAbove one p → IsFolder work new one
    above_p one above =
        let f = note.all one above in
        folder_above work (IsHeld new) one f.0 f.3 (folder_itself work (IsHeld new) f.0 (kept f.0 (λ same. above_itself p (subst (λ (x : List ℕ). IsAbove x p) same f.2)) f.1))

    back : (one : List ℕ) → IsFolder work held one → one ≢ p → IsFolder work new one
    back one (inl file) apart = inl file
    back one (inr (q, is, at)) apart = by (same_or_not q p) at
      where
        by : (q ≡ p) ⊎ (q ≢ p) → IsAtOrIn one q → IsFolder work new one
        by (inr other) at = folder_above work (IsHeld new) one q at (folder_itself work (IsHeld new) q (kept q other (note.kept q is)))
        by (inl same) (inl itself) = absurd (apart (sym itself ∙ same))
        by (inl same) (inr above) = above_p one (subst (IsAbove one) same above)

    pub folders_removed : AreFolders work new (λ one. IsFolder work held one × (one ≢ p))
    folders_removed = are_folders work new (λ one. IsFolder work held one × (one ≢ p))
        (λ one is. let o = only one is in folder_itself work (λ one. IsFolder work held one × (one ≢ p)) one (was_one one (note.only one o.1), o.0))
        (λ one is. back one is.0 is.1)

    pub folder_gone : IsFolder work new p → ⊥
    folder_gone (inl file) = empty (inl file)
    folder_gone (inr (q, is, at)) = by at (note.only q (only q is).1)
      where
        by : IsAtOrIn p q → IsTrue (contains held q) ⊎ IsAbove q p → ⊥
        by (inl same) t = (only q is).0 same
        by (inr above) (inl has) = empty (inr (q, above, has))
        by (inr above) (inr up) = above_itself p (above_then p q p above up)
