-- When a path conflicts with a file of an index.
use Rattle.std.proofs.Common.{◌≡◌, ℕ, ◌<◌, Bool, false, zero, suc, List, [], ◌∷◌, ◌++◌, Option, Some, None, sym, ap, refl, ◌∙◌, subst, length, take, drop, get_or, arith, append_assoc, length-append, nat_eq, ◌↔◌, IsTrue}
use Rattle.std.specs.Prelude.{Vec, IsSome}
use Rattle.std.specs.Global.{Global}
use Rattle.std.specs.BTreeMap.{BTreeMap, get_by, is_at}
use Rattle.std.specs.BTreeMap.Range.{IsRangeOf}
use Rattle.std.specs.FinMap as paths
use Rattle.std.specs.Ordering.{nat_cmp, is_gt}
use Rattle.std.specs.declared.cmp.Ordering.TheVariants.{Equal}
use Rattle.std.specs.declared.ops.Bound.TheVariants.{Included, Unbounded}
use Rattle.std.specs.Cmp.Lexicographic.{slice_cmp}
use Rattle.std.specs.List.{starts_with}
use Rattle.std.proofs.lemmas.Cmp.{tied_itself, nat_cmp_total, ranked, by_ranked}
use Rattle.std.proofs.lemmas.Map.Entries.{place_from_lookup}
use Rattle.std.proofs.lemmas.Slice.Eq.{starts_is}
use Rattle.std.proofs.lemmas.Bool.Decides.{Decides-eqb}
use Rattle.std.proofs.lemmas.List.{take_at}
use Rattle.vc_index.specs.IndexMap.{index_of}
use Rattle.vc_index.specs.Path.{IsAbove}
use Rattle.vc_index.specs.declared.entry.IndexEntry.{IndexEntry}
use Rattle.vc_index.proofs.MapLemmas.{key_cmp, Entries, get-index_of, same_text, no_some}

-- a text comes not after one that begins with it
pub not_after : (a b : List ℕ) → is_gt (slice_cmp nat_cmp a (a ++ b)) ≡ false
not_after [] [] = refl
not_after [] (y ∷ b) = refl
not_after (x ∷ a) b = rw (tied_itself nat_cmp_total x) (not_after a b)

-- what comes neither before a text nor after one that begins with it begins with it
pub begins_between : (n k t : List ℕ) → is_gt (slice_cmp nat_cmp n k) ≡ false → is_gt (slice_cmp nat_cmp k (n ++ t)) ≡ false → (z : List ℕ) × (k ≡ n ++ z)
begins_between [] k t a b = (k, refl)
begins_between (x ∷ n) [] t a b = absurd (cc a)
begins_between (x ∷ n) (y ∷ k) t a b = by_ranked (x < y) (x ≡ y) (y < x) (nat_cmp x y) (ranked x y (nat_cmp x y) refl)
    (λ o less. by_ranked (y < x) (y ≡ x) (x < y) (nat_cmp y x) (ranked y x (nat_cmp y x) refl)
    (λ q p. absurd (omega arith))
    (λ q p. absurd (omega arith))
    (λ q p. let z = rw q at b in absurd (cc z)))
    (λ o same. let first : is_gt (slice_cmp nat_cmp n k) ≡ false = rw o at a in
    let back : nat_cmp y x ≡ Equal = ap (λ u. nat_cmp y u) same ∙ tied_itself nat_cmp_total y in
    let second : is_gt (slice_cmp nat_cmp k (n ++ t)) ≡ false = rw back at b in
    let r = begins_between n k t first second in
    (r.0, let e = r.1 in cc (e, same)))
    (λ o more. let z = rw o at a in absurd (cc z))

-- ---- a file above
pub above_cut : (path other rest : List ℕ) → path ≡ other ++ 47 ∷ rest → (length other < length path) × (get_or path (length other) 0 ≡ 47) × (take (length other) path ≡ other)
above_cut path other rest e = (
  omega (arith, ap length e, length-append other (47 ∷ rest)),
  subst (λ (p : List ℕ). get_or p (length other) 0 ≡ 47) (sym e) (at_end other rest),
  ap (take (length other)) e ∙ take_at other (47 ∷ rest) (length other) refl,
)
  where
    at_end : (a b : List ℕ) → get_or (a ++ 47 ∷ b) (length a) 0 ≡ 47
    at_end [] b = refl
    at_end (x ∷ a) b = at_end a b

pub cut_above : (path : List ℕ) (i : ℕ) → i < length path → get_or path i 0 ≡ 47 → IsAbove (take i path) path
cut_above [] i inside is = absurd (omega arith)
cut_above (x ∷ path) zero inside is = (path, let e = is in cc e)
cut_above (x ∷ path) (suc i) inside is =
    let r = cut_above path i (omega arith) is in
    (r.0, ap (λ t. x ∷ t) r.1)

-- ---- a file below
pub key_of : (m : BTreeMap (Vec ℕ Global) IndexEntry) (other : List ℕ) → IsSome (paths.get (index_of m) other) → (k : Vec ℕ Global) × (k.items ≡ other) × IsSome (get_by (key_cmp k) m)
key_of m other some =
    let found = some_value (get_by (λ k. slice_cmp nat_cmp other k.items) m) (subst IsSome (get-index_of m other) some) in
    let place = place_from_lookup (is_at (λ k. slice_cmp nat_cmp other k.items)) m.entries found.0 found.1 in
    let same : other ≡ place.1.items = same_text other place.1.items place.3 in
    (place.1, sym same, subst (λ (t : List ℕ). IsSome (get_by (λ k. slice_cmp nat_cmp t k.items) m)) same (subst IsSome (get-index_of m other) some))
  where
    some_value : (o : Option IndexEntry) → IsSome o → (v : IndexEntry) × (o ≡ Some v)
    some_value None s = absurd (no_some None refl s)
    some_value (Some v) s = (v, refl)

module _ (m : BTreeMap (Vec ℕ Global) IndexEntry) (folder : Vec ℕ Global) (path : List ℕ) (is : folder.items ≡ path ++ 47 ∷ []) where
  parted : (rest : List ℕ) → path ++ 47 ∷ rest ≡ folder.items ++ rest
  parted rest = sym (append_assoc path (47 ∷ []) rest) ∙ ap (λ f. f ++ rest) (sym is)

  -- a file below comes not before the folder
  from_folder : (k : Vec ℕ Global) (other : List ℕ) → k.items ≡ other → IsAbove path other → is_gt (key_cmp folder k) ≡ false
  from_folder k other same above = subst (λ (t : List ℕ). is_gt (slice_cmp nat_cmp folder.items t) ≡ false) (sym (same ∙ above.1 ∙ parted above.0)) (not_after folder.items above.0)

  pub none_below : (r : Entries) → r ≡ [] → IsRangeOf key_cmp (Included folder) Unbounded m r → (other : List ℕ) → IsSome (paths.get (index_of m) other) → IsAbove path other → ⊥
  none_below r none range other some above =
      let k = key_of m other some in
      no_some _ (range.5 none k.0 (from_folder k.0 other k.1 above, tt)) k.2

  pub first_below : (r : Entries) (e : Vec ℕ Global × IndexEntry) (t : Entries) → r ≡ e ∷ t → IsRangeOf key_cmp (Included folder) Unbounded m r → (b : Bool) → b ≡ starts_with nat_eq e.0.items folder.items
      → IsTrue b ↔ ((other : List ℕ) × IsSome (paths.get (index_of m) other) × IsAbove path other)
  first_below r e t first range b test =
      let begins = starts_is Decides-eqb e.0.items folder.items b test in
      let range' = subst (λ (es : Entries). IsRangeOf key_cmp (Included folder) Unbounded m es) first range in (
        λ yes. (
          e.0.items,
          subst IsSome (sym (get-index_of m e.0.items ∙ range'.1.1)) refl,
          (drop (length folder.items) e.0.items, begins.0 yes ∙ sym (parted (drop (length folder.items) e.0.items))),
        ),
        λ (other, some, above).
            let k = key_of m other some in
            let le = range'.2 k.0 (from_folder k.0 other k.1 above, tt) k.2 in
            let z = begins_between folder.items e.0.items above.0 range'.1.0.0 (subst (λ (u : List ℕ). is_gt (slice_cmp nat_cmp e.0.items u) ≡ false) (k.1 ∙ above.1 ∙ parted above.0) le) in
            begins.1 z.0 z.1,
      )
