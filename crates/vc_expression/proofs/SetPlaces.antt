-- Where the tokens of terms stand.
use Rattle.std.proofs.Common.{◌≡◌, ◌≢◌, ℕ, List, [], ◌∷◌, ◌++◌, codes, length, true, nat_eq, ap, subst, ◌∙◌, arith}
use Rattle.std.specs.List.{starts_with}
use Rattle.vc_expression.specs.SetReading.{after_spaces}
use Rattle.vc_expression.specs.SetViews.{StandsTerm, StandTerms}
use Rattle.vc_expression.specs.declared.token.Term.{Term}
use Rattle.vc_expression.proofs.SetLemmas.{spaces_front, spaces_shorter}

-- a term, and behind its spaces others
pub terms_stand : (source text after : List ℕ) (term : Term) (others : List Term) → StandsTerm source text term after → starts_with nat_eq after (codes " ") ≡ true → StandTerms source (after_spaces after) others → StandTerms source text (term ∷ others)
terms_stand source text after term [] stands space h = absurd h
terms_stand source text after term (other ∷ others) stands space h =
    let s = spaces_front after in
    let some : s.0 ≢ [] = λ e. let shorter = spaces_shorter after space in let same : after ≡ after_spaces after = s.2 ∙ ap (λ x. x ++ after_spaces after) e in omega (arith, shorter, ap length same) in
    (s.0, after_spaces after, subst (λ (r : List ℕ). StandsTerm source text term r) s.2 stands, (some, s.1), h)
