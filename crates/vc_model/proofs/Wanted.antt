-- What a clone wants of an advertisement and has, and that less is open where more is closed.
use Rattle.std.proofs.Common.{◌≡◌, ◌≤◌, ◌<◌, Bool, true, false, List, ◌∷◌, ◌++◌, map, ◌⊎◌, inl, inr, refl, sym, ap, ◌∙◌, subst, arith, nat_cmp, Contains, length, option_to_list, if◌then◌else◌, []}
use Rattle.std.specs.FinMap.{entries, values}
use Rattle.std.specs.List.{AllByRecursion, list_any}
use Rattle.std.specs.Ordering.{eq_by_cmp}
use Rattle.std.specs.Cmp.Lexicographic.{slice_cmp, nat_list_cmp_total}
use Rattle.std.proofs.lemmas.List.Elements.{Contains-append_right}
use Rattle.vc_lemmas.proofs.Lists.{all_append, all_map}
use Rattle.vc_model.specs.Object.{Id, Format, Lookup, stored}
use Rattle.vc_model.specs.Reach.{IsClosed}
use Rattle.vc_model.specs.Refs.{RefName}
use Rattle.vc_model.specs.Repository.{Repository, IsSound}
use Rattle.vc_model.specs.Shared.{head_value}
use Rattle.vc_model.specs.Clone.{AreOpen, IsGoodCommit, once, haves_of}
use Rattle.vc_model.proofs.Entries.{all_entries}
use Rattle.vc_model.proofs.Commits.{contains_cons, head_good}
use Rattle.vc_model.proofs.Sound.{all_taken}

none_in : (x : Id) → Contains [] x → ⊥
none_in x c = let k : c.0 < 0 = c.1 in omega arith

-- ---- what is open

module _ (fmt : Format) (at later : Lookup) (up : (x : Id) → IsClosed fmt at x → IsClosed fmt later x) where
  no_more : (seen before : List Id) → ((x : Id) → Contains before x → Contains seen x) → ((x : Id) → Contains seen x → IsClosed fmt later x ⊎ Contains before x)
      → (rs : List (RefName × Id)) (xs ys : List Id) → AreOpen fmt at seen rs xs → AreOpen fmt later before rs ys → length ys ≤ length xs
  no_more seen before within over [] xs ys g h = let p : length xs ≡ 0 = ap length g in let q : length ys ≡ 0 = ap length h in omega arith
  no_more seen before within over (r ∷ rs) xs ys (inl g) (inl h) = no_more seen before within over rs xs ys g.1 h.1
  no_more seen before within over (r ∷ rs) xs ys (inl g) (inr h) = absurd (elim (g.0) [
    | inl c ↦ h.0 (up r.1 c)
    | inr k ↦ elim (over r.1 k) [ inl c ↦ h.0 c | inr m ↦ h.1 m ]
  ])
  no_more seen before within over (r ∷ rs) xs ys (inr g) (inl h) =
      let closed : IsClosed fmt later r.1 = elim (h.0) [ inl c ↦ c | inr k ↦ absurd (g.1 (within r.1 k)) ] in
      let k : length ys ≤ length g.2 = no_more (r.1 ∷ seen) before (λ x c. Contains-append_right (r.1 ∷ []) seen x (within x c))
      (λ x c. elim (contains_cons r.1 seen x c) [ inl e ↦ inl (subst (IsClosed fmt later) e closed) | inr m ↦ over x m ]) rs g.2 ys g.4 h.1 in
      let p : length xs ≡ length (r.1 ∷ g.2) = ap length g.3 in omega arith
  no_more seen before within over (r ∷ rs) xs ys (inr g) (inr h) =
      let k : length h.2 ≤ length g.2 = no_more (r.1 ∷ seen) (r.1 ∷ before)
      (λ x c. elim (contains_cons r.1 before x c) [ inl e ↦ (0, omega arith, e) | inr m ↦ Contains-append_right (r.1 ∷ []) seen x (within x m) ])
      (λ x c. elim (contains_cons r.1 seen x c) [
        | inl e ↦ inr (0, omega arith, e)
        | inr m ↦ elim (over x m) [ inl d ↦ inl d | inr n ↦ inr (Contains-append_right (r.1 ∷ []) before x n) ]
      ]) rs g.2 h.2 g.4 h.4 in
      let p : length xs ≡ length (r.1 ∷ g.2) = ap length g.3 in
      let q : length ys ≡ length (r.1 ∷ h.2) = ap length h.3 in omega arith

  first_same : (x y : Id) (xs ys : List Id) → x ∷ xs ≡ y ∷ ys → x ≡ y
  first_same x y xs ys e = cc

  -- where the first of them is closed later, fewer are open
  pub fewer : (rs : List (RefName × Id)) (xs ys : List Id) → AreOpen fmt at [] rs xs → AreOpen fmt later [] rs ys → (x : Id) (more : List Id) → xs ≡ x ∷ more → IsClosed fmt later x → length ys < length xs
  fewer [] xs ys g h x more e c = absurd (let k = g in cc)
  fewer (r ∷ rs) xs ys (inl g) (inl h) x more e c = fewer rs xs ys g.1 h.1 x more e c
  fewer (r ∷ rs) xs ys (inl g) (inr h) x more e c = absurd (elim (g.0) [ inl d ↦ h.0 (up r.1 d) | inr k ↦ none_in r.1 k ])
  fewer (r ∷ rs) xs ys (inr g) (inl h) x more e c =
      let closed : IsClosed fmt later r.1 = elim (h.0) [ inl d ↦ d | inr k ↦ absurd (none_in r.1 k) ] in
      let k : length ys ≤ length g.2 = no_more (r.1 ∷ []) [] (λ y m. absurd (none_in y m))
      (λ y m. elim (contains_cons r.1 [] y m) [ inl f ↦ inl (subst (IsClosed fmt later) f closed) | inr n ↦ inr n ]) rs g.2 ys g.4 h.1 in
      let p : length xs ≡ length (r.1 ∷ g.2) = ap length g.3 in omega arith
  fewer (r ∷ rs) xs ys (inr g) (inr h) x more e c = absurd (h.0 (subst (IsClosed fmt later) (sym (first_same r.1 x g.2 more (sym g.3 ∙ e))) c))

-- what holds of each value holds of each that is open
pub open_values : (fmt : Format) (at : Lookup) (P : Id → Type 0) (seen : List Id) (rs : List (RefName × Id)) (xs : List Id) → AreOpen fmt at seen rs xs → AllByRecursion (λ r. P r.1) rs → AllByRecursion P xs
open_values fmt at P seen [] xs g a = subst (AllByRecursion P) (sym g) tt
open_values fmt at P seen (r ∷ rs) xs (inl g) a = open_values fmt at P seen rs xs g.1 a.1
open_values fmt at P seen (r ∷ rs) xs (inr g) a = subst (AllByRecursion P) (sym g.3) (a.0, open_values fmt at P (r.1 ∷ seen) rs g.2 g.4 a.1)

-- where none is open all are closed
pub none_open : (fmt : Format) (at : Lookup) (rs : List (RefName × Id)) (xs : List Id) → AreOpen fmt at [] rs xs → xs ≡ [] → AllByRecursion (λ r. IsClosed fmt at r.1) rs
none_open fmt at [] xs g e = tt
none_open fmt at (r ∷ rs) xs (inl g) e = (elim (g.0) [ inl c ↦ c | inr k ↦ absurd (none_in r.1 k) ], none_open fmt at rs xs g.1 e)
none_open fmt at (r ∷ rs) xs (inr g) e = absurd (let k = g.3 in cc)

-- ---- what the clone has

all_once : (P : Id → Type 0) (seen xs : List Id) → AllByRecursion P xs → AllByRecursion P (once seen xs)
all_once P seen [] a = tt
all_once P seen (x ∷ xs) a = go (list_any (λ y. eq_by_cmp (slice_cmp nat_cmp) x y) seen) (all_once P seen xs a.1) (all_once P (x ∷ seen) xs a.1)
  where
    go : (b : Bool) → AllByRecursion P (once seen xs) → AllByRecursion P (once (x ∷ seen) xs) → AllByRecursion P (if b then once seen xs else x ∷ once (x ∷ seen) xs)
    go true p q = p
    go false p q = (a.0, q)

all_values : (P : Id → Type 0) (es : List (RefName × Id)) → AllByRecursion (λ e. P e.1) es → AllByRecursion P (map (λ e. e.1) es)
all_values P [] a = tt
all_values P (e ∷ es) a = (a.0, all_values P es a.1)

pub haves_closed : (fmt : Format) (c : Repository) → IsSound fmt c → AllByRecursion (IsClosed fmt (stored c.objects)) (haves_of c)
haves_closed fmt c sound =
    let P : Id → Type 0 = IsClosed fmt (stored c.objects) in
    all_taken P 256 (once [] (values c.refs ++ option_to_list (head_value c))) (all_once P [] (values c.refs ++ option_to_list (head_value c))
    (all_append P (values c.refs) (option_to_list (head_value c))
    (all_values P (entries c.refs) (all_entries nat_list_cmp_total (λ e. P e.1) c.refs (λ n x g. (sound.refs n x g).closed)))
    (all_map (IsGoodCommit fmt (stored c.objects)) P (option_to_list (head_value c)) (λ x g. g.0) (head_good fmt c sound (head_value c) refl))))
