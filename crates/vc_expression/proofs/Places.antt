-- Ends of a source, and slices of it.
use Rattle.std.proofs.Common.{◌≡◌, ◌⊎◌, inl, inr, ℕ, ◌+◌, ◌-◌, codes, List, [], ◌∷◌, ◌++◌, length, take, refl, sym, ap, subst, ◌∙◌, append_assoc, arith}
use Rattle.std.proofs.lemmas.List.{length-append, take_at}
use Rattle.vc_expression.specs.Grammar.{IsStep, IsPlainPath}
use Rattle.vc_expression.specs.Views.{IsEnd, StandsSteps}
use Rattle.vc_expression.specs.declared.token.StepToken.{StepToken}
use Rattle.vc_expression.specs.Outcome.{IsPlace}

-- the end of an end is an end
pub end_on : (source text front rest : List ℕ) → IsEnd text source → text ≡ front ++ rest → IsEnd rest source
end_on source text front rest i e = (i.0 ++ front, i.1 ∙ ap (λ t. i.0 ++ t) e ∙ sym (append_assoc i.0 front rest))

pub end_short : (source text : List ℕ) (i : IsEnd text source) → length source ≡ length i.0 + length text
end_short source text i = ap length i.1 ∙ length-append i.0 text

pub front_taken : (text a rest : List ℕ) → text ≡ a ++ rest → take (length text - length rest) text ≡ a
front_taken text a rest e =
    let sized : length a ≡ length text - length rest = omega (arith, ap length e, length-append a rest) in
    ap (λ t. take (length text - length rest) t) e ∙ take_at a rest (length text - length rest) sized

pub place_of : (source text : List ℕ) → IsEnd text source → IsPlace source text (length source - length text)
place_of source text i = omega (arith, end_short source text i)

-- one more step behind the others
pub stand_more : (source text : List ℕ) (tokens : List StepToken) (rest : List ℕ) (token : StepToken) (after : List ℕ) → StandsSteps source text tokens rest → rest ≡ token.text.now ++ after
    → IsPlace source rest token.start → IsStep token.text.now token.step → StandsSteps source text (tokens ++ token ∷ []) after
stand_more source text [] rest token after e is place step = (after, e ∙ is, subst (λ (t : List ℕ). IsPlace source t token.start) (sym e) place, step, refl)
stand_more source text (t ∷ ts) rest token after s is place step = (s.0, s.1, s.2, s.3, stand_more source s.0 ts rest token after s.4 is place step)

-- what a colon at the start names ends the source
pub index_stands : (source path text : List ℕ) (start : ℕ) → source ≡ codes ":" ++ path → ((start ≡ 3) × (path ≡ codes "0:" ++ text)) ⊎ ((start ≡ 1) × (text ≡ path) × IsPlainPath path) → IsEnd text source × IsPlace source text start
index_stands source path text start e (inl h) =
    let is : source ≡ codes ":0:" ++ text = e ∙ ap (λ p. 58 ∷ p) h.1 in
    let place = h.0 in
    ((codes ":0:", is), omega (arith, place, ap length is))
index_stands source path text start e (inr h) =
    let is : source ≡ codes ":" ++ text = e ∙ ap (λ p. 58 ∷ p) (sym h.1) in
    let place = h.0 in
    ((codes ":", is), omega (arith, place, ap length is))
