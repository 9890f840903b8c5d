-- For who lists the files of a map in memory: what begins with a prefix does not come before it.
use Rattle.std.proofs.Common.{◌≡◌, ℕ, Bool, true, false, cond, List, [], ◌∷◌, map, refl, sym, ap, ◌∙◌, true≢false, nat_eq}
use Rattle.std.specs.Prelude.{String, Vec, filter, string_bytes, string_cmp, ◌&&◌}
use Rattle.std.specs.BTreeMap.Range.{entries_between}
use Rattle.std.specs.Cmp.{unsigned_ties}
use Rattle.std.specs.Cmp.Lexicographic.{slice_cmp}
use Rattle.std.specs.Global.{Global}
use Rattle.std.specs.List.{starts_with}
use Rattle.std.specs.Map.{keys_of}
use Rattle.std.specs.Ordering.{nat_cmp, is_eq, is_le, ordering_then}
use Rattle.std.specs.declared.cmp.Ordering.{Ordering}
use Rattle.std.specs.declared.cmp.Ordering.TheVariants.{Less, Equal, Greater}
use Rattle.std.specs.declared.ops.Bound.TheVariants.{Included, Unbounded}
use Rattle.std.proofs.lemmas.Bool.{and_parts}

le_then : (o r : Ordering) → is_eq o ≡ true → is_le r ≡ true → is_le (ordering_then o r) ≡ true
le_then Less r e h = absurd (true≢false (sym e))
le_then Equal r e h = h
le_then Greater r e h = absurd (true≢false (sym e))

-- a text that begins with another is not less
pub prefix_first : (p k : List ℕ) → starts_with nat_eq k p ≡ true → is_le (slice_cmp nat_cmp p k) ≡ true
prefix_first [] [] h = refl
prefix_first [] (y ∷ ys) h = refl
prefix_first (x ∷ xs) [] h = absurd (true≢false (sym h))
prefix_first (x ∷ xs) (y ∷ ys) h =
    let parts = and_parts (nat_eq x y) (starts_with nat_eq ys xs) h in
    le_then (nat_cmp x y) (slice_cmp nat_cmp xs ys) (sym (unsigned_ties x y) ∙ parts.0) (prefix_first xs ys parts.1)

module _ {E K : Type 0} (P : K → Bool) (Q : E → Bool) (name : E → K) (implied : (e : E) → P (name e) ≡ true → Q e ≡ true) where
  -- what a test picks by the names is among what a weaker test picks
  pub filter-filter : (es : List E) → filter P (map name (filter Q es)) ≡ filter P (map name es)
  filter-filter [] = refl
  filter-filter (e ∷ es) = by (filter-filter es) (Q e) (P (name e)) refl refl
    where
      by : (filter P (map name (filter Q es)) ≡ filter P (map name es)) → (q p : Bool) → Q e ≡ q → P (name e) ≡ p → filter P (map name (cond q (e ∷ filter Q es) (filter Q es))) ≡ cond p (name e ∷ filter P (map name es)) (filter P (map name es))
      by rest true true qe pe = ap (λ b. cond b (name e ∷ filter P (map name (filter Q es))) (filter P (map name (filter Q es)))) pe ∙ ap (λ l. name e ∷ l) rest
      by rest true false qe pe = ap (λ b. cond b (name e ∷ filter P (map name (filter Q es))) (filter P (map name (filter Q es)))) pe ∙ rest
      by rest false true qe pe = absurd (true≢false (sym (implied e pe) ∙ qe))
      by rest false false qe pe = rest

-- the names of entries are their keys
pub names_of_keys : (es : List (String Global × Vec ℕ Global)) → map (λ (e : String Global × Vec ℕ Global). string_bytes e.0) es ≡ map string_bytes (keys_of es)
names_of_keys [] = refl
names_of_keys (e ∷ es) = ap (λ l. string_bytes e.0 ∷ l) (names_of_keys es)

-- the paths that begin so are among those of the entries from there on
pub filter_from : (first : String Global) (p : List ℕ) (es : List (String Global × Vec ℕ Global)) → string_bytes first ≡ p
    → filter (λ path. starts_with nat_eq path p) (map (λ (e : String Global × Vec ℕ Global). string_bytes e.0) (entries_between string_cmp (Included first) Unbounded es)) ≡ filter (λ path. starts_with nat_eq path p) (map string_bytes (keys_of es))
filter_from first p es same =
    filter-filter (λ path. starts_with nat_eq path p) (λ (e : String Global × Vec ℕ Global). is_le (string_cmp first e.0) && true) (λ (e : String Global × Vec ℕ Global). string_bytes e.0)
    (λ e begins. ap (λ b. b && true) (ap (λ (t : List ℕ). is_le (slice_cmp nat_cmp t (string_bytes e.0))) same ∙ prefix_first p (string_bytes e.0) begins)) es
    ∙ ap (filter (λ path. starts_with nat_eq path p)) (names_of_keys es)
