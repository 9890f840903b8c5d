-- Steps that are read one after another.
use Rattle.std.proofs.Common.{◌≡◌, ℕ, ◌<◌, List, [], ◌∷◌, ◌++◌, length, refl, sym, ap, subst, ◌∙◌, append_assoc, arith}
use Rattle.std.proofs.lemmas.List.{length-append}
use Rattle.vc_expression.specs.Seen.{Found}
use Rattle.vc_expression.specs.Steps.{step_at}
use Rattle.vc_expression.specs.Grammar.{IsSteps}
use Rattle.vc_expression.specs.Faults.{Reads}
use Rattle.vc_expression.specs.declared.token.Step.{Step}
use Rattle.vc_expression.proofs.StepLemmas.{Ends, step_front, step_some, step_again, step_ends}

pub reads_more : (text : List ℕ) (ss : List Step) (rest : List ℕ) (s : Step) (after : List ℕ) → Reads text ss rest → step_at rest ≡ Found s after → Reads text (ss ++ s ∷ []) after
reads_more text [] rest s after e f = (after, ap step_at e ∙ f, refl)
reads_more text (t ∷ ts) rest s after r f = (r.0, r.1, reads_more r.0 ts rest s after r.2 f)

pub shorter : (text : List ℕ) (s : Step) (rest : List ℕ) → step_at text ≡ Found s rest → length rest < length text
shorter text s rest e =
    let f = step_front text s rest e in
    omega (arith, step_some f.0 s f.1, ap length f.2, length-append f.0 rest)

-- steps that are read are spelled so
pub reads_front : (text : List ℕ) (ss : List Step) (rest : List ℕ) → Reads text ss rest → (a : List ℕ) × IsSteps a ss × (text ≡ a ++ rest)
reads_front text [] rest e = ([], refl, e)
reads_front text (s ∷ ss) rest r =
    let f = step_front text s r.0 r.1 in
    let g = reads_front r.0 ss rest r.2 in
    (f.0 ++ g.0, (f.0, g.0, f.1, g.1, refl), f.2 ∙ ap (λ t. f.0 ++ t) g.2 ∙ sym (append_assoc f.0 g.0 rest))

steps_end : (a : List ℕ) (ss : List Step) (rest : List ℕ) → IsSteps a ss → Ends rest → Ends (a ++ rest)
steps_end a [] rest i e = rw i e
steps_end a (s ∷ ss) rest i e = rw (i.4, append_assoc) (step_ends i.0 s (i.1 ++ rest) i.2)

-- steps that are spelled are read
pub reads_again : (a : List ℕ) (ss : List Step) (rest : List ℕ) → IsSteps a ss → Ends rest → Reads (a ++ rest) ss rest
reads_again a [] rest i e = ap (λ t. t ++ rest) i
reads_again a (s ∷ ss) rest i e =
    let text : a ++ rest ≡ i.0 ++ (i.1 ++ rest) = ap (λ t. t ++ rest) i.4 ∙ append_assoc i.0 i.1 rest in
    (i.1 ++ rest, ap step_at text ∙ step_again i.0 s (i.1 ++ rest) i.2 (steps_end i.1 ss rest i.3 e), reads_again i.1 ss rest i.3 e)

abbrev pub NoStep : List ℕ → Type 0
NoStep text = (s : Step) (rest : List ℕ) → step_at text ≡ Found s rest → ⊥

-- there is one way to read them
pub reads_same : (text : List ℕ) (ss ts : List Step) (r q : List ℕ) → Reads text ss r → Reads text ts q → NoStep r → NoStep q → (ss ≡ ts) × (r ≡ q)
reads_same text [] [] r q x y n m = (refl, sym x ∙ y)
reads_same text [] (t ∷ ts) r q x y n m = absurd (n t y.0 (ap step_at (sym x) ∙ y.1))
reads_same text (s ∷ ss) [] r q x y n m = absurd (m s x.0 (ap step_at (sym y) ∙ x.1))
reads_same text (s ∷ ss) (t ∷ ts) r q x y n m =
    let both : Found s x.0 ≡ Found t y.0 = sym x.1 ∙ y.1 in
    let step : s ≡ t = cc both in
    let after : x.0 ≡ y.0 = cc both in
    let others = reads_same y.0 ss ts r q (subst (λ (a : List ℕ). Reads a ss r) after x.2) y.2 n m in
    (cc (step, others.0), others.1)
