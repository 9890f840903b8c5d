-- The order of the parts of folders, and that the entries of a folder are a tree's.
use Rattle.std.proofs.Common.{◌≡◌, ◌≢◌, ℕ, ◌<◌, List, [], ◌∷◌, ◌++◌, map, refl, ap, sym, ◌∙◌, subst, ⊎_elim, ◌⊎◌, inl, inr, append_assoc, append-nil, Some}
use Rattle.std.specs.Prelude.{is_some}
use Rattle.std.specs.Ordering.{nat_cmp, ordering_then}
use Rattle.std.specs.Cmp.{tied_itself}
use Rattle.std.specs.Cmp.Lexicographic.{slice_cmp, nat_list_cmp_total}
use Rattle.std.specs.FinMap.{get, entries}
use Rattle.std.specs.List.{AllByRecursion}
use Rattle.std.specs.declared.cmp.Ordering.TheVariants.{Less}
use Rattle.std.proofs.lemmas.Cmp.{ranked, by_ranked, nat_cmp_total}
use Rattle.vc_object.specs.Tree.{ComesBefore, InOrder, key, tail}
use Rattle.vc_object.specs.declared.id.ObjectId.{ObjectId}
use Rattle.vc_object.specs.declared.mode.Mode.{Mode}
use Rattle.vc_object.specs.declared.mode.Mode.TheVariants as modes
use Rattle.vc_index.specs.Building.{Begins, place, ComesFirst, InPlaces, IsLeft}
use Rattle.vc_index.specs.HeldFiles.{Pair}
use Rattle.vc_index.specs.IndexMap.{IndexMap, IsIndex, index_entry}
use Rattle.vc_index.specs.Part.{part_entry, part_pair}
use Rattle.vc_index.specs.declared.trees.Part.{Part}
use Rattle.vc_object.proofs.Texts.{agreeing}
use Rattle.vc_object.proofs.Order.{All-push}
use Rattle.vc_index.proofs.EntriesLemmas.{mid_before, get_mid, AllBefore}

-- ---- texts in order
abbrev IsLess : List ℕ → List ℕ → Type 0
IsLess a b = slice_cmp nat_cmp a b ≡ Less

pub not_itself : (a : List ℕ) → IsLess a a → ⊥
not_itself a e = let z = sym e ∙ tied_itself nat_list_cmp_total a in cc z

less_cases : (x y : ℕ) (xs ys : List ℕ) → IsLess (x ∷ xs) (y ∷ ys) → (nat_cmp x y ≡ Less) ⊎ ((x ≡ y) × IsLess xs ys)
less_cases x y xs ys h = by_ranked (x < y) (x ≡ y) (y < x) (nat_cmp x y) (ranked x y (nat_cmp x y) refl)
    (λ o p. inl o)
    (λ o p. inr (p, rw o at h))
    (λ o p. let z = rw o at h in absurd (cc z))

less_first : (x y : ℕ) (xs ys : List ℕ) → nat_cmp x y ≡ Less → IsLess (x ∷ xs) (y ∷ ys)
less_first x y xs ys e = ap (λ o. ordering_then o (slice_cmp nat_cmp xs ys)) e

cmp_same : (x : ℕ) (xs ys : List ℕ) → slice_cmp nat_cmp (x ∷ xs) (x ∷ ys) ≡ slice_cmp nat_cmp xs ys
cmp_same x xs ys = ap (λ o. ordering_then o (slice_cmp nat_cmp xs ys)) (tied_itself nat_cmp_total x)

less_second : (x y : ℕ) (xs ys : List ℕ) → x ≡ y → IsLess xs ys → IsLess (x ∷ xs) (y ∷ ys)
less_second x y xs ys e h = subst (λ (z : ℕ). IsLess (x ∷ xs) (z ∷ ys)) e (cmp_same x xs ys ∙ h)

-- texts with one front compare as what follows it
cmp_behind : (f a b : List ℕ) → slice_cmp nat_cmp (f ++ a) (f ++ b) ≡ slice_cmp nat_cmp a b
cmp_behind [] a b = refl
cmp_behind (x ∷ f) a b = cmp_same x (f ++ a) (f ++ b) ∙ cmp_behind f a b

-- what comes before a longer text comes before its front, or has this front
below_or_in : (f x k : List ℕ) → IsLess k (f ++ x) → IsLess k f ⊎ Begins f k
below_or_in [] x k h = inr (k, refl)
below_or_in (c ∷ f) x [] h = inl refl
below_or_in (c ∷ f) x (y ∷ k) h = ⊎_elim
    (λ o. inl (less_first y c k f o))
    (λ p. ⊎_elim
    (λ q. inl (less_second y c k f p.0 q))
    (λ q. inr (q.0, λ i. p.0 i ∷ q.1 i))
    (below_or_in f x k p.1))
    (less_cases y c k (f ++ x) h)

-- a front comes before all that the text comes before
pub front_below : (f x k : List ℕ) → IsLess (f ++ x) k → IsLess f k
front_below [] [] [] h = h
front_below [] (c ∷ x) [] h = absurd (cc h)
front_below [] x (y ∷ k) h = refl
front_below (c ∷ f) x [] h = absurd (cc h)
front_below (c ∷ f) x (y ∷ k) h = ⊎_elim
    (λ o. less_first c y f k o)
    (λ p. less_second c y f k p.0 (front_below f x k p.1))
    (less_cases c y (f ++ x) k h)

-- between two texts with one front stand only texts with that front
between : (f a b k : List ℕ) → IsLess (f ++ a) k → IsLess k (f ++ b) → Begins f k
between f a b k low high = ⊎_elim
    (λ below. absurd (not_itself f (nat_list_cmp_total.trans f k f (front_below f a k low) below)))
    (λ begins. begins)
    (below_or_in f b k high)

-- ---- what stands behind a name
pub tail_cases : (m : Mode) → (tail m ≡ 47 ∷ []) ⊎ (tail m ≡ [])
tail_cases modes.Tree = inl refl
tail_cases modes.File = inr refl
tail_cases modes.SharedFile = inr refl
tail_cases modes.Executable = inr refl
tail_cases modes.Link = inr refl
tail_cases modes.Commit = inr refl

file_tail : (m : Mode) → m ≢ modes.Tree → tail m ≡ []
file_tail modes.Tree n = absurd (n refl)
file_tail modes.File n = refl
file_tail modes.SharedFile n = refl
file_tail modes.Executable n = refl
file_tail modes.Link n = refl
file_tail modes.Commit n = refl

-- a file stands in the order where its path does
pub file_place : (e : Pair) → e.1.mode ≢ modes.Tree → place e ≡ e.0
file_place e n = ap (λ t. e.0 ++ t) (file_tail e.1.mode n) ∙ append-nil e.0

pub part_place : (g : Part) → place (part_pair g) ≡ g.folder.now ++ key g.entry.mode g.name.now
part_place g = append_assoc g.folder.now g.name.now (tail g.entry.mode)

-- ---- lists in order
pub places_parts : (xs ys : List Pair) → InPlaces (xs ++ ys) → InPlaces xs × AllByRecursion (λ x. AllByRecursion (ComesFirst x) ys) xs × InPlaces ys
places_parts [] ys h = (tt, tt, h)
places_parts (x ∷ xs) ys h =
    let all = parts (ComesFirst x) xs ys h.0 in
    let r = places_parts xs ys h.1 in
    ((all.0, r.0), (all.1, r.1), r.2)
  where
    parts : (P : Pair → Type 0) (xs ys : List Pair) → AllByRecursion P (xs ++ ys) → AllByRecursion P xs × AllByRecursion P ys
    parts P [] ys a = (tt, a)
    parts P (x ∷ xs) ys a = let r = parts P xs ys a.1 in ((a.0, r.0), r.1)

places_join : (xs ys : List Pair) → InPlaces xs → AllByRecursion (λ x. AllByRecursion (ComesFirst x) ys) xs → InPlaces ys → InPlaces (xs ++ ys)
places_join [] ys a c b = b
places_join (x ∷ xs) ys a c b = (join (ComesFirst x) xs ys a.0 c.0, places_join xs ys a.1 c.1 b)
  where
    join : (P : Pair → Type 0) (xs ys : List Pair) → AllByRecursion P xs → AllByRecursion P ys → AllByRecursion P (xs ++ ys)
    join P [] ys a b = b
    join P (x ∷ xs) ys a b = (a.0, join P xs ys a.1 b)

pub front_places : (xs ys : List Pair) → InPlaces (xs ++ ys) → InPlaces xs
front_places xs ys h = (places_parts xs ys h).0

pub back_places : (xs ys : List Pair) → InPlaces (xs ++ ys) → InPlaces ys
back_places xs ys h = (places_parts xs ys h).2

-- ---- the entries of one folder
module _ (folder : List ℕ) (g h : Part) (at_g : g.folder.now ≡ folder) (at_h : h.folder.now ≡ folder) (first : ComesFirst (part_pair g) (part_pair h)) where
  placed_g : place (part_pair g) ≡ folder ++ key g.entry.mode g.name.now
  placed_g = part_place g ∙ ap (λ f. f ++ key g.entry.mode g.name.now) at_g

  placed_h : place (part_pair h) ≡ folder ++ key h.entry.mode h.name.now
  placed_h = part_place h ∙ ap (λ f. f ++ key h.entry.mode h.name.now) at_h

  entry_below : IsLess (key g.entry.mode g.name.now) (key h.entry.mode h.name.now)
  entry_below = sym (cmp_behind folder (key g.entry.mode g.name.now) (key h.entry.mode h.name.now)) ∙ (λ i. slice_cmp nat_cmp (sym placed_g i) (sym placed_h i)) ∙ first.below

  -- a file and a folder have not one name
  entry_apart : g.name.now ≡ h.name.now → ⊥
  entry_apart same = ⊎_elim
      (λ slash. first.apart ([], ap (λ t. (h.folder.now ++ h.name.now) ++ t) slash ∙ (λ i. ((at_h ∙ sym at_g) i ++ sym same i) ++ 47 ∷ [])))
      (λ none.
      let k : key h.entry.mode h.name.now ≡ g.name.now = ap (λ t. h.name.now ++ t) none ∙ append-nil h.name.now ∙ sym same in
      not_itself g.name.now (front_below g.name.now (tail g.entry.mode) g.name.now (subst (λ (t : List ℕ). IsLess (key g.entry.mode g.name.now) t) k entry_below)))
      (tail_cases h.entry.mode)

  entry_before : ComesBefore (part_entry g) (part_entry h)
  entry_before = record { below = entry_below; apart = entry_apart }

pub entries_order : (folder : List ℕ) (run : List Part) → AllByRecursion (λ g. g.folder.now ≡ folder) run → InPlaces (map part_pair run) → InOrder (map part_entry run)
entries_order folder [] at order = tt
entries_order folder (g ∷ run) at order = (behind run at.1 order.0, entries_order folder run at.1 order.1)
  where
    behind : (hs : List Part) → AllByRecursion (λ h. h.folder.now ≡ folder) hs → AllByRecursion (ComesFirst (part_pair g)) (map part_pair hs) → AllByRecursion (ComesBefore (part_entry g)) (map part_entry hs)
    behind [] a c = tt
    behind (h ∷ hs) a c = (entry_before folder g h at.0 a.0 c.0, behind hs a.1 c.1)

-- ---- a folder is closed: its tree stands in the order where its parts stood
module _ (d : List ℕ) (r : Pair) (x : List ℕ) (in_folder : place r ≡ (d ++ 47 ∷ []) ++ x) (id : ObjectId) where
  abbrev new : Pair
  new = (d, index_entry modes.Tree id)

  begins_in : (a : Pair) → ComesFirst a r → (Begins (d ++ 47 ∷ []) a.0 → ⊥) → Begins (d ++ 47 ∷ []) (place a) → ⊥
  begins_in a first outside b = ⊎_elim
      (λ slash. ⊎_elim
      (λ h. outside (h.0, h.1))
      (λ h. shorter h.0 h.1 h.2)
      (agreeing a.0 (d ++ 47 ∷ []) (47 ∷ []) b.0 (ap (λ t. a.0 ++ t) (sym slash) ∙ b.1)))
      (λ none. outside (b.0, sym (append-nil a.0) ∙ ap (λ t. a.0 ++ t) (sym none) ∙ b.1))
      (tail_cases a.1.mode)
    where
      shorter : (z : List ℕ) → d ++ 47 ∷ [] ≡ a.0 ++ z → 47 ∷ [] ≡ z ++ b.0 → ⊥
      shorter [] e f = outside ([], sym (append-nil a.0) ∙ sym e ∙ sym (append-nil (d ++ 47 ∷ [])))
      shorter (c ∷ []) e f =
          let slash : 47 ≡ c = cc f in
          first.apart (x, in_folder ∙ ap (λ t. t ++ x) (e ∙ ap (λ s. a.0 ++ s ∷ []) (sym slash)) ∙ append_assoc a.0 (47 ∷ []) x)
      shorter (c ∷ k ∷ z) e f = absurd (cc f)

  first_new : (a : Pair) → ComesFirst a r → (Begins (d ++ 47 ∷ []) a.0 → ⊥) → ComesFirst a new
  first_new a first outside = record {
    below = ⊎_elim
        (λ below. below)
        (λ begins. absurd (begins_in a first outside begins))
        (below_or_in (d ++ 47 ∷ []) x (place a) (subst (λ (t : List ℕ). IsLess (place a) t) in_folder first.below));
    apart = λ above. first.apart (above.0 ++ x, in_folder ∙ ap (λ t. t ++ x) above.1 ∙ append_assoc a.0 (47 ∷ above.0) x);
  }

  new_first : (q : Pair) → ComesFirst r q → (Begins (d ++ 47 ∷ []) (place q) → ⊥) → ComesFirst new q
  new_first q first left = record {
    below = front_below (d ++ 47 ∷ []) x (place q) (subst (λ (t : List ℕ). IsLess t (place q)) in_folder first.below);
    apart = λ above. left (above.0, above.1 ∙ sym (append_assoc d (47 ∷ []) above.0));
  }

  -- where the next path lies not in the folder, none does
  all_left : (rest : List Pair) → IsLeft (d ++ 47 ∷ []) rest → AllByRecursion (ComesFirst r) rest → InPlaces rest → AllByRecursion (ComesFirst new) rest
  all_left [] left first order = tt
  all_left (q ∷ rest) left first order = (new_first q first.0 left, others rest first.1 order.0)
    where
      others : (qs : List Pair) → AllByRecursion (ComesFirst r) qs → AllByRecursion (ComesFirst q) qs → AllByRecursion (ComesFirst new) qs
      others [] a b = tt
      others (p ∷ qs) a b = (
        new_first p a.0 (λ begins. left (between (d ++ 47 ∷ []) x begins.0 (place q) (subst (λ (t : List ℕ). IsLess t (place q)) in_folder first.0.below) (subst (λ (t : List ℕ). IsLess (place q) t) begins.1 b.0.below))),
        others qs a.1 b.1,
      )

  all_first : (fronts : List Pair) (inner rest : List Pair) → AllByRecursion (λ a. AllByRecursion (ComesFirst a) (inner ++ r ∷ rest)) fronts → AllByRecursion (λ a. Begins (d ++ 47 ∷ []) a.0 → ⊥) fronts → AllByRecursion (λ a. AllByRecursion (ComesFirst a) (new ∷ rest)) fronts
  all_first [] inner rest all outside = tt
  all_first (a ∷ fronts) inner rest all outside =
      let behind = from inner (r ∷ rest) all.0 in
      ((first_new a behind.0 outside.0, behind.1), all_first fronts inner rest all.1 outside.1)
    where
      from : (xs ys : List Pair) → AllByRecursion (ComesFirst a) (xs ++ ys) → AllByRecursion (ComesFirst a) ys
      from [] ys h = h
      from (x ∷ xs) ys h = from xs ys h.1

  pub places_closed : (fronts inner rest : List Pair) → InPlaces (fronts ++ (inner ++ r ∷ rest)) → AllByRecursion (λ a. Begins (d ++ 47 ∷ []) a.0 → ⊥) fronts → IsLeft (d ++ 47 ∷ []) rest → InPlaces (fronts ++ new ∷ rest)
  places_closed fronts inner rest order outside left =
      let parts = places_parts fronts (inner ++ r ∷ rest) order in
      let behind = (places_parts inner (r ∷ rest) parts.2).2 in
      places_join fronts (new ∷ rest) parts.0 (all_first fronts inner rest parts.1 outside) (all_left rest left behind.0 behind.1, behind.1)

-- ---- the files of an index, in the order of their paths
module _ (files : IndexMap) (sound : IsIndex files) where
  files_first : (e f : Pair) → get files e.0 ≡ Some e.1 → get files f.0 ≡ Some f.1 → IsLess e.0 f.0 → ComesFirst e f
  files_first e f at_e at_f below =
      let place_e = file_place e (sound.file e.0 e.1 at_e).mode in
      let place_f = file_place f (sound.file f.0 f.1 at_f).mode in
      record {
        below = (λ i. slice_cmp nat_cmp (place_e i) (place_f i)) ∙ below;
        apart = λ above. sound.apart e.0 f.0 (ap is_some at_e) (ap is_some at_f) (above.0, sym place_f ∙ above.1);
      }

  files_before : (front : List Pair) (f : Pair) → AllByRecursion (λ e. get files e.0 ≡ Some e.1) front → get files f.0 ≡ Some f.1 → AllBefore f.0 front → AllByRecursion (λ e. AllByRecursion (ComesFirst e) (f ∷ [])) front
  files_before [] f at_front at_f before = tt
  files_before (e ∷ front) f at_front at_f before = ((files_first e f at_front.0 at_f before.0, tt), files_before front f at_front.1 at_f before.1)

  files_from : (front rest : List Pair) → entries files ≡ front ++ rest → AllByRecursion (λ e. get files e.0 ≡ Some e.1) front → InPlaces front → InPlaces (entries files)
  files_from front [] at each order = subst InPlaces (sym (at ∙ append-nil front)) order
  files_from front (f ∷ rest) at each order =
      let there = get_mid files front rest f.0 f.1 at in
      files_from (front ++ f ∷ []) rest (at ∙ sym (append_assoc front (f ∷ []) rest)) (All-push (λ (e : Pair). get files e.0 ≡ Some e.1) front f each there)
      (places_join front (f ∷ []) order (files_before front f each there (mid_before files front rest f.0 f.1 at)) (tt, tt))

  pub files_order : InPlaces (entries files)
  files_order = files_from [] (entries files) refl tt tt
