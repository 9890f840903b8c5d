-- Each index has its trees: what is left of its files, and the folders that are open, can be closed to the end.
use Rattle.std.proofs.Common.{◌≡◌, ◌≢◌, ℕ, zero, suc, ◌<◌, ◌≤◌, ◌-◌, List, [], ◌∷◌, ◌++◌, map, Some, true, false, ◌==◌, nat_eq, refl, ap, sym, ◌∙◌, subst, ⊎_elim, inl, inr, append_assoc, append-nil, length, take, drop, arith}
use Rattle.std.specs.Prelude.{option_map, slice_get}
use Rattle.std.specs.List.{AllByRecursion, starts_with}
use Rattle.std.specs.FinMap.{entries}
use Rattle.std.proofs.lemmas.Bool.Decides.{Decides-eqb}
use Rattle.std.proofs.lemmas.List.{take_at, drop_at, same_from_push}
use Rattle.vc_object.proofs.Names.{name_length}
use Rattle.vc_object.specs.Bytes.{Without}
use Rattle.vc_object.specs.Object.{object_name, object_bytes}
use Rattle.vc_object.specs.Tree.{Entry, spelling}
use Rattle.vc_object.specs.declared.kind.Kind.TheVariants as kinds
use Rattle.vc_object.specs.declared.mode.Mode.TheVariants as modes
use Rattle.vc_index.specs.Building.{IsNext, IsLeft, Building, IsInside, open_length}
use Rattle.vc_index.specs.FolderTrees.{AreFirstTrees, AreIndexTrees}
use Rattle.vc_index.specs.HeldFiles.{Pair}
use Rattle.vc_index.specs.IndexMap.{IndexMap, IsIndex, index_entry}
use Rattle.vc_index.specs.Part.{EndsInSlash, part_entry}
use Rattle.vc_index.specs.declared.entry.IndexEntry.{IndexEntry}
use Rattle.vc_index.specs.declared.trees.Part.{Part}
use Rattle.vc_index.proofs.ClosingLemmas.{open_length-push, closing, closing_shorter, pushed, building_starts, root_listed, inside_last, left_of, not_begun, next_is}
use Rattle.vc_index.proofs.PartLemmas.{by_last, last_get}

-- ---- paths and parts
-- a path up to its last slash, and what follows
pub record Cut (text : List ℕ) : Type 0 where
  pub folder : List ℕ
  pub name : List ℕ
  pub is : text ≡ folder ++ name
  pub plain : Without 47 name
  pub ends : EndsInSlash folder

-- a path is cut at its last slash
pub cut_path : (text : List ℕ) → Cut text
cut_path [] = record { folder = []; name = []; is = refl; plain = tt; ends = inl refl }
cut_path (x ∷ text) = more (cut_path text)
  where
    more : Cut text → Cut (x ∷ text)
    more c = ⊎_elim
        (λ none.
        let whole : x ∷ text ≡ x ∷ c.name = ap (λ (t : List ℕ). x ∷ t) (c.is ∙ ap (λ (f : List ℕ). f ++ c.name) none) in
        elim (x == 47) as (λ b. (x == 47) ≡ b → Cut (x ∷ text)) [
          | true ↦ λ slash. record { folder = x ∷ []; name = c.name; is = whole; plain = c.plain; ends = inr ([], ap (λ (b : ℕ). b ∷ []) ((Decides-eqb x 47).0 slash)) }
          | false ↦ λ other. record { folder = []; name = x ∷ c.name; is = whole; plain = ((λ e. no_slash (sym other ∙ (Decides-eqb x 47).1 e)), c.plain); ends = inl refl }
        ] refl)
        (λ slash. record { folder = x ∷ c.folder; name = c.name; is = ap (λ (t : List ℕ). x ∷ t) c.is; plain = c.plain; ends = inr (x ∷ slash.0, ap (λ (t : List ℕ). x ∷ t) slash.1) })
        c.ends
      where
        no_slash : false ≡ true → ⊥
        no_slash e = cc e

abbrev pub new_part : (text : List ℕ) → IndexEntry → Part
new_part text entry = record {
  folder = record { ref_ptr = (0, 0); now = (cut_path text).folder };
  name = record { ref_ptr = (0, 0); now = (cut_path text).name };
  entry = entry;
}

-- the parts of the last folder, and those before
record Run (parts : List Part) (n : ℕ) : Type 0 where
  pub before : List Part
  pub run : List Part
  pub is : parts ≡ before ++ run
  pub inside : AllByRecursion (λ g. length g.folder.now ≡ n) run
  pub above : (fs : List Part) (g : Part) → before ≡ fs ++ g ∷ [] → length g.folder.now ≢ n

run_of : (parts : List Part) (n : ℕ) → Run parts n
run_of [] n = record { before = []; run = []; is = refl; inside = tt; above = λ fs g e. absurd (no_last fs g e) }
  where
    no_last : (fs : List Part) (g : Part) → [] ≡ fs ++ g ∷ [] → ⊥
    no_last [] g e = cc e
    no_last (f ∷ fs) g e = cc e
run_of (p ∷ parts) n = more (run_of parts n)
  where
    no_last : (fs : List Part) (g : Part) → [] ≡ fs ++ g ∷ [] → ⊥
    no_last [] g e = cc e
    no_last (f ∷ fs) g e = cc e

    behind : (b : Part) (bs : List Part) → ((fs : List Part) (g : Part) → b ∷ bs ≡ fs ++ g ∷ [] → length g.folder.now ≢ n) → (fs : List Part) (g : Part) → p ∷ b ∷ bs ≡ fs ++ g ∷ [] → length g.folder.now ≢ n
    behind b bs above [] g e = absurd (cc e)
    behind b bs above (f ∷ fs) g e = let t : b ∷ bs ≡ fs ++ g ∷ [] = cc e in above fs g t

    first : (run : List Part) → parts ≡ run → AllByRecursion (λ g. length g.folder.now ≡ n) run → Run (p ∷ parts) n
    first run is inside = elim (length p.folder.now == n) as (λ b. (length p.folder.now == n) ≡ b → Run (p ∷ parts) n) [
      | true ↦ λ same. record { before = []; run = p ∷ run; is = ap (λ (l : List Part). p ∷ l) is; inside = ((Decides-eqb (length p.folder.now) n).0 same, inside); above = λ fs g e. absurd (no_last fs g e) }
      | false ↦ λ other. record {
        before = p ∷ [];
        run = run;
        is = ap (λ (l : List Part). p ∷ l) is;
        inside = inside;
        above = λ fs g e. subst (λ (h : Part). length h.folder.now ≢ n) (same_from_push [] fs p g e).1 (λ k. no_test (sym other ∙ (Decides-eqb (length p.folder.now) n).1 k));
      }
    ] refl
      where
        no_test : false ≡ true → ⊥
        no_test e = cc e

    more : Run parts n → Run (p ∷ parts) n
    more r = elim r.before as (λ bs. parts ≡ bs ++ r.run → ((fs : List Part) (g : Part) → bs ≡ fs ++ g ∷ [] → length g.folder.now ≢ n) → Run (p ∷ parts) n) [
      | [] ↦ λ is above. first r.run is r.inside
      | b ∷ bs ↦ λ is above. record { before = p ∷ b ∷ bs; run = r.run; is = ap (λ (l : List Part). p ∷ l) is; inside = r.inside; above = behind b bs above }
    ] r.is r.above

-- ---- one folder closed
module _ (files : IndexMap) (trees : List (List Entry)) (rest : List Pair) (parts : List Part) (start : ℕ) (folder : List ℕ)
    (b : Building files trees parts rest)
    (top : option_map (λ (p : Part). p.folder.now) (slice_get parts (length parts - 1)) ≡ Some folder)
    (some : 0 < length folder)
    (inside : AllByRecursion (λ g. length g.folder.now ≡ length folder) (drop start parts))
    (above : (fs : List Part) (g : Part) → take start parts ≡ fs ++ g ∷ [] → length g.folder.now ≢ length folder)
    (left : IsLeft folder rest)
  where
    abbrev pub closed_part : Part
    closed_part = new_part (take (length folder - 1) folder) (index_entry modes.Tree (object_name kinds.Tree (spelling (map part_entry (drop start parts)))))

    pub closed_whole : Building files (trees ++ map part_entry (drop start parts) ∷ []) (take start parts ++ closed_part ∷ []) rest
    closed_whole = closing files trees rest parts start folder b top some inside above closed_part (object_name kinds.Tree (spelling (map part_entry (drop start parts)))) (spelling (map part_entry (drop start parts)))
        refl (sym (cut_path (take (length folder - 1) folder)).is) (cut_path (take (length folder - 1) folder)).plain (cut_path (take (length folder - 1) folder)).ends refl refl
        (name_length (object_bytes kinds.Tree (spelling (map part_entry (drop start parts))))) left

    closed_open : open_length (take start parts ++ closed_part ∷ []) < length folder
    closed_open = closing_shorter (take start parts) closed_part folder some (sym (cut_path (take (length folder - 1) folder)).is)

-- ---- all folders that the next path lies not in
record Closed (files : IndexMap) (trees : List (List Entry)) (rest : List Pair) (next : List ℕ) : Type 0 where
  pub more : List (List Entry)
  pub parts : List Part
  pub building : Building files (trees ++ more) parts rest
  pub inside : IsInside next parts

module _ (files : IndexMap) (rest : List Pair) (next : List ℕ) (is_next : IsNext next rest) where
  stays : (trees : List (List Entry)) (parts : List Part) → Building files trees parts rest → IsInside next parts → Closed files trees rest next
  stays trees parts b inside = record { more = []; parts = parts; building = subst (λ (ts : List (List Entry)). Building files ts parts rest) (sym (append-nil trees)) b; inside = inside }

  closed_more : (trees more : List (List Entry)) → Closed files (trees ++ more) rest next → Closed files trees rest next
  closed_more trees more c = record { more = more ++ c.more; parts = c.parts; building = subst (λ (ts : List (List Entry)). Building files ts c.parts rest) (append_assoc trees more c.more) c.building; inside = c.inside }

  close_last : (trees : List (List Entry)) (parts : List Part) (n : ℕ) → open_length parts ≤ n → Building files trees parts rest
      → ((m : ℕ) → m < n → (ts : List (List Entry)) (ps : List Part) → open_length ps ≤ m → Building files ts ps rest → Closed files ts rest next) → (front : List Part) (last : Part) → parts ≡ front ++ last ∷ [] → starts_with nat_eq next last.folder.now ≡ false → Closed files trees rest next
  close_last trees parts n low b again front last is not_in =
      let at : slice_get parts (length parts - 1) ≡ Some last = ap (λ (l : List Part). slice_get l (length l - 1)) is ∙ last_get front last in
      let some : 0 < length last.folder.now = not_begun next last.folder.now not_in in
      let long : open_length parts ≡ length last.folder.now = ap open_length is ∙ open_length-push front last in
      let r = run_of parts (length last.folder.now) in
      let before : take (length r.before) parts ≡ r.before = ap (take (length r.before)) r.is ∙ take_at r.before r.run (length r.before) refl in
      let run : drop (length r.before) parts ≡ r.run = ap (drop (length r.before)) r.is ∙ drop_at r.before r.run (length r.before) refl in
      let top = ap (option_map (λ (p : Part). p.folder.now)) at in
      let inside = subst (AllByRecursion (λ (g : Part). length g.folder.now ≡ length last.folder.now)) (sym run) r.inside in
      let above = λ (fs : List Part) (g : Part) (e : take (length r.before) parts ≡ fs ++ g ∷ []). r.above fs g (sym before ∙ e) in
      let left = left_of next last.folder.now rest is_next not_in in
      let es = map part_entry (drop (length r.before) parts) in
      let shorter = closed_open files trees rest parts (length r.before) last.folder.now b top some inside above left in
      closed_more trees (es ∷ []) (again (n - 1) (omega (arith, low, long, some)) (trees ++ es ∷ []) _ (omega (arith, low, long, some, shorter)) (closed_whole files trees rest parts (length r.before) last.folder.now b top some inside above left))

  close_top : (trees : List (List Entry)) (parts : List Part) (n : ℕ) → open_length parts ≤ n → Building files trees parts rest
      → ((m : ℕ) → m < n → (ts : List (List Entry)) (ps : List Part) → open_length ps ≤ m → Building files ts ps rest → Closed files ts rest next) → Closed files trees rest next
  close_top trees parts n low b again = ⊎_elim
      (λ none. stays trees parts b (λ front part is. absurd (no_last front part (sym none ∙ is))))
      (λ (l : (front : List Part) × (x : Part) × (parts ≡ front ++ x ∷ [])). elim (starts_with nat_eq next l.1.folder.now) as (λ t. starts_with nat_eq next l.1.folder.now ≡ t → Closed files trees rest next) [
        | true ↦ λ begun. stays trees parts b (inside_last parts l.1 next (ap (λ (k : List Part). slice_get k (length k - 1)) l.2 ∙ last_get l.0 l.1) begun)
        | false ↦ λ not_in. close_last trees parts n low b again l.0 l.1 l.2 not_in
      ] refl)
      (by_last parts)
    where
      no_last : (fs : List Part) (g : Part) → [] ≡ fs ++ g ∷ [] → ⊥
      no_last [] g e = cc e
      no_last (f ∷ fs) g e = cc e

  close_below : (n : ℕ) (m : ℕ) → m < n → (trees : List (List Entry)) (parts : List Part) → open_length parts ≤ m → Building files trees parts rest → Closed files trees rest next
  close_below zero m below trees parts low b = absurd (omega (arith, below))
  close_below (suc n) m below trees parts low b = close_top trees parts m low b (λ k less. close_below n k (omega (arith, below, less)))

  close_all : (trees : List (List Entry)) (parts : List Part) → Building files trees parts rest → Closed files trees rest next
  close_all trees parts b = close_below (suc (open_length parts)) (open_length parts) (omega arith) trees parts (omega arith) b

-- ---- to the end
-- a front of the index's first trees is one too
pub first_more : (files : IndexMap) (trees more : List (List Entry)) → AreFirstTrees files (trees ++ more) → AreFirstTrees files trees
first_more files trees more h = record { rest = more ++ h.rest; root = h.root; listed = subst (λ (ts : List (List Entry)). AreIndexTrees files ts h.root) (append_assoc trees more h.rest) h.listed; more = λ none. h.more (no_back more h.rest none) }
  where
    no_back : (xs ys : List (List Entry)) → xs ++ ys ≡ [] → ys ≡ []
    no_back [] ys e = e
    no_back (x ∷ xs) ys e = absurd (cc e)

pub completes : (files : IndexMap) (rest : List Pair) (trees : List (List Entry)) (parts : List Part) → Building files trees parts rest → AreFirstTrees files trees
completes files [] trees parts b =
    let c = close_all files [] [] tt trees parts b in
    first_more files trees c.more (record { rest = map part_entry c.parts ∷ []; root = map part_entry c.parts; listed = root_listed files (trees ++ c.more) c.parts c.building c.inside; more = λ e. cc e })
completes files (e ∷ rest) trees parts b =
    let next = next_is files b.walked.0 rest e.0 e.1 e.0 b.index b.walked.1 refl in
    let c = close_all files (e ∷ rest) e.0 next trees parts b in
    first_more files trees c.more (completes files rest (trees ++ c.more) (c.parts ++ new_part e.0 e.1 ∷ [])
    (pushed files (trees ++ c.more) b.walked.0 c.parts (new_part e.0 e.1) e.0 e.1 rest b.index b.walked.1 c.building c.inside (cut_path e.0).is (cut_path e.0).plain (cut_path e.0).ends refl))

-- each index has its list of trees
pub has_trees : (files : IndexMap) → IsIndex files → (trees : List (List Entry)) × (root : List Entry) × AreIndexTrees files trees root
has_trees files sound = let h = completes files (entries files) [] [] (building_starts files sound) in (h.rest, h.root, h.listed)
