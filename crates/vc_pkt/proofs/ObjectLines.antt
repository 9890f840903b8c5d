-- The line that begins an object, as the function that reads it sees it.
use Rattle.std.proofs.Common.{◌≡◌, ℕ, ◌+◌, ◌-◌, ◌*◌, ◌≤◌, min, Bool, true, false, cond, List, ◌∷◌, ◌++◌, Option, Some, None, refl, ap, ◌∙◌, arith, ◌⊎◌, inl, inr, ⊎_elim, []}
use Rattle.std.specs.Prelude.{codes, nat_lt, ◌==◌, ◌||◌}
use Rattle.std.specs.List.{AllByRecursion}
use Rattle.std.proofs.lemmas.Bool.Decides.{nat_tests}
use Rattle.std.proofs.lemmas.Option.{same_Some}
use Rattle.vc_object.specs.Header.{IsDigit, IsSize, number_after, number}
use Rattle.vc_object.specs.Kind.{word}
use Rattle.vc_object.specs.Lines.{after_word}
use Rattle.vc_object.specs.Items.{◌>>=◌}
use Rattle.vc_object.specs.declared.kind.Kind.{Kind}
use Rattle.vc_object.specs.declared.kind.Kind.TheVariants.{Blob, Tree, Commit, Tag}
use Rattle.vc_object.proofs.LineTexts.{after_word_some}
use Rattle.vc_object.proofs.Reading.{chosen}
use Rattle.vc_object.proofs.Sizes.{capped, is_size}
use Rattle.vc_pkt.specs.TextLine.{without_lf}
use Rattle.vc_pkt.specs.ObjectLine.{IsObjectLine, or_else, kind_at, size_after, size_of, object_line}

abbrev named : Kind → List ℕ → List ℕ
named kind digits = codes "obj " ++ (word kind ++ 32 ∷ digits)

kind_again : (kind : Kind) (digits : List ℕ) → kind_at (named kind digits) ≡ Some (kind, digits)
unfolding kind_at
kind_again Blob digits = refl
kind_again Tree digits = refl
kind_again Commit digits = refl
kind_again Tag digits = refl

abbrev NamesKind : List ℕ → Option (Kind × List ℕ) → Type 0
NamesKind line None = Unit {0}
NamesKind line (Some found) = line ≡ named found.0 found.1

or_names : (kind : Kind) (line : List ℕ) (o : Option (List ℕ)) (other : Option (Kind × List ℕ)) → ((rest : List ℕ) → o ≡ Some rest → line ≡ named kind rest) → NamesKind line other → NamesKind line (or_else kind o other)
or_names kind line (Some rest) other h g = h rest refl
or_names kind line None other h g = g

kind_names : (line : List ℕ) → NamesKind line (kind_at line)
unfolding kind_at
kind_names line =
    or_names Blob line (after_word (codes "obj blob ") line) _ (λ rest e. after_word_some (codes "obj blob ") line rest e)
    (or_names Tree line (after_word (codes "obj tree ") line) _ (λ rest e. after_word_some (codes "obj tree ") line rest e)
    (or_names Commit line (after_word (codes "obj commit ") line) _ (λ rest e. after_word_some (codes "obj commit ") line rest e)
    (or_names Tag line (after_word (codes "obj tag ") line) None (λ rest e. after_word_some (codes "obj tag ") line rest e) tt)))

-- ---- sizes
bounds : (d : ℕ) → (nat_lt d 48 || nat_lt 57 d) ≡ false → IsDigit d
bounds d e = ((grind (arith, nat_tests)), (grind (arith, nat_tests)))

no_bounds : (d : ℕ) → IsDigit d → (nat_lt d 48 || nat_lt 57 d) ≡ false
no_bounds d h = let l = h.0 in let r = h.1 in grind (arith, nat_tests)

after_some : (n : ℕ) (ds : List ℕ) (k : ℕ) → n ≤ 16777217 → size_after n ds ≡ Some k → AllByRecursion IsDigit ds × (k ≡ min (number_after n ds) 16777217)
after_some n [] k small e = let s = same_Some n k e in (tt, omega arith)
after_some n (d ∷ ds) k small e = ⊎_elim
    (λ bad. absurd (let h = bad.1 in cc h))
    (λ good.
    let m = n * 10 + (d - 48) in
    let r = after_some (min m 16777217) ds k (omega arith) good.1 in
    ((bounds d good.0, r.0), r.1 ∙ capped 16777217 ds m))
    (chosen (nat_lt d 48 || nat_lt 57 d) _ _ _ e)

after_again : (n : ℕ) (ds : List ℕ) → n ≤ 16777217 → AllByRecursion IsDigit ds → size_after n ds ≡ Some (min (number_after n ds) 16777217)
after_again n [] small a = ap Some (omega arith)
after_again n (d ∷ ds) small a =
    let m = n * 10 + (d - 48) in
    ap (λ b. cond b None (size_after (min m 16777217) ds)) (no_bounds d a.0) ∙ after_again (min m 16777217) ds (omega arith) a.1 ∙ ap Some (capped 16777217 ds m)

size_some : (ds : List ℕ) (k : ℕ) → size_of ds ≡ Some k → IsSize ds × (k ≡ min (number ds) 16777217)
size_some [] k e = absurd (cc e)
size_some (d ∷ []) k e =
    let r = after_some 0 (d ∷ []) k (omega arith) e in
    (is_size (d ∷ []) r.0 (λ z. cc z) (λ l. absurd (omega arith)), r.1)
size_some (d ∷ f ∷ ds) k e = ⊎_elim
    (λ bad. absurd (let h = bad.1 in cc h))
    (λ good.
    let r = after_some 0 (d ∷ f ∷ ds) k (omega arith) good.1 in
    let t = good.0 in
    (is_size (d ∷ f ∷ ds) r.0 (λ z. cc z) (λ l z. grind (arith, nat_tests)), r.1))
    (chosen (d == 48) _ _ _ e)

first_not : (d f : ℕ) (ds : List ℕ) → IsSize (d ∷ f ∷ ds) → (d == 48) ≡ false
first_not d f ds s = ⊎_elim
    (λ z. let more : f ∷ ds ≡ [] = s.short (f ∷ ds) (ap (λ x. x ∷ f ∷ ds) (let t = z in grind (arith, nat_tests))) in absurd (cc more))
    (λ z. z)
    (either (d == 48))
  where
    either : (b : Bool) → (b ≡ true) ⊎ (b ≡ false)
    either true = inl refl
    either false = inr refl

size_again : (ds : List ℕ) → IsSize ds → size_of ds ≡ Some (min (number ds) 16777217)
size_again [] s = absurd (s.some refl)
size_again (d ∷ []) s = after_again 0 (d ∷ []) (omega arith) s.all
size_again (d ∷ f ∷ ds) s = ap (λ b. cond b None (size_after 0 (d ∷ f ∷ ds))) (first_not d f ds s) ∙ after_again 0 (d ∷ f ∷ ds) (omega arith) s.all

-- ---- the whole line
abbrev pair_of : Kind → ℕ → Option (Kind × ℕ)
pair_of kind size = Some (kind, size)

abbrev sized : Kind × List ℕ → Option (Kind × ℕ)
sized found = do
  size ← size_of found.1
  Some (found.0, size)

line_some : (line : List ℕ) (o : Option (Kind × List ℕ)) (kind : Kind) (size : ℕ) → NamesKind (without_lf line) o → (o >>= sized) ≡ Some (kind, size) → size ≤ 16777216 → IsObjectLine kind size line
line_some line None kind size h e small = absurd (cc e)
line_some line (Some found) kind size h e small = with_size found (size_of found.1) refl h e
  where
    with_size : (found : Kind × List ℕ) (o : Option ℕ) → size_of found.1 ≡ o → without_lf line ≡ named found.0 found.1 → (o >>= pair_of found.0) ≡ Some (kind, size) → IsObjectLine kind size line
    with_size found None is h e = absurd (cc e)
    with_size found (Some n) is h e =
        let pair = same_Some (found.0, n) (kind, size) e in
        let k : found.0 ≡ kind = ap (λ (p : Kind × ℕ). p.0) pair in
        let m : n ≡ size = ap (λ (p : Kind × ℕ). p.1) pair in
        let s = size_some found.1 n is in
        record { digits = found.1; decimal = s.0; states = omega (arith, s.1); spelled = h ∙ ap (λ t. named t found.1) k }

pub line_of : (line : List ℕ) (kind : Kind) (size : ℕ) → object_line line ≡ Some (kind, size) → size ≤ 16777216 → IsObjectLine kind size line
unfolding object_line
line_of line kind size e small = line_some line (kind_at (without_lf line)) kind size (kind_names (without_lf line)) e small

pub line_again : (line : List ℕ) (kind : Kind) (size : ℕ) → IsObjectLine kind size line → size ≤ 16777216 → object_line line ≡ Some (kind, size)
unfolding object_line
line_again line kind size h small =
    let s : min (number h.digits) 16777217 ≡ size = let e = h.states in omega arith in
    ap (λ t. kind_at t >>= sized) h.spelled ∙ ap (λ o. o >>= sized) (kind_again kind h.digits)
    ∙ ap (λ o. o >>= pair_of kind) (size_again h.digits h.decimal) ∙ ap (λ n. Some (kind, n)) s
