-- A text has one value at most.
use Rattle.std.proofs.Common.{◌≡◌, inl, inr, ℕ, List, Result, Ok, Err, sym, ap, subst, ◌∙◌}
use Rattle.vc_object.specs.declared.id.ObjectId.{ObjectId}
use Rattle.vc_expression.specs.Faults.{IsBadAt}
use Rattle.vc_expression.specs.Grammar.{ExprText, IsExpr}
use Rattle.vc_rev.specs.Meaning.{Answer, Denotes}
use Rattle.vc_rev.specs.Source.{Source}
use Rattle.vc_rev.specs.Value.{HasValue, HasOneValue, whole_source, refusal_number}
use Rattle.vc_rev.specs.declared.refusal.Refusal.{Refusal}
use Rattle.vc_expression.proofs.ExprLemmas.{expr_again, expr_same, bad_none}
use Rattle.vc_rev.proofs.SameAnswer.{denotes_one}

one_expr : (text : List ℕ) (e f : ExprText) → IsExpr text e → IsExpr text f → e ≡ f
one_expr text e f i j = expr_same text e f (expr_again text e i) (expr_again text f j)

one_answer : (s : Source) (text : List ℕ) (e f : ExprText) (a b : Answer) → IsExpr text e → IsExpr text f → Denotes s e a → Denotes s f b → a ≡ b
one_answer s text e f a b i j p q = denotes_one s f a b (subst (λ (e : ExprText). Denotes s e a) (one_expr text e f i j) p) q

no_expr : (text : List ℕ) (e : ExprText) → IsExpr text e → (place : ℕ) × IsBadAt text place → ⊥
no_expr text e i bad = bad_none text bad.1.0 e (expr_again text e i) bad.1.1

found_apart : (x : ObjectId) (r : Refusal) → ◌≡◌ {A = Answer} (Ok x) (Err r) → ⊥
found_apart x r e = absurd (cc)

pub value_once : (s : Source) (text : List ℕ) (v w : Result ObjectId ℕ) → HasValue s text v → HasValue s text w → v ≡ w
value_once s text (Ok x) (Ok y) p q = let same = one_answer s text p.0 q.0 (Ok x) (Ok y) p.1 q.1 p.2 q.2 in let e : x ≡ y = cc in ap Ok e
value_once s text (Ok x) (Err n) p (inl q) = absurd (no_expr text p.0 p.1 q.0)
value_once s text (Ok x) (Err n) p (inr q) = absurd (found_apart x q.1 (one_answer s text p.0 q.0 (Ok x) (Err q.1) p.1 q.2 p.2 q.3))
value_once s text (Err n) (Ok y) (inl p) q = absurd (no_expr text q.0 q.1 p.0)
value_once s text (Err n) (Ok y) (inr p) q = absurd (found_apart y p.1 (one_answer s text q.0 p.0 (Ok y) (Err p.1) q.1 p.2 q.2 p.3))
value_once s text (Err n) (Err k) (inl p) (inl q) = ap Err (p.1 ∙ sym q.1)
value_once s text (Err n) (Err k) (inl p) (inr q) = absurd (no_expr text q.0 q.2 p.0)
value_once s text (Err n) (Err k) (inr p) (inl q) = absurd (no_expr text p.0 p.2 q.0)
value_once s text (Err n) (Err k) (inr p) (inr q) =
    let same = one_answer s text p.0 q.0 (Err p.1) (Err q.1) p.2 q.2 p.3 q.3 in
    let e : p.1 ≡ q.1 = cc in ap Err (p.4 ∙ (ap refusal_number e ∙ sym q.4))

pub has_one_value : HasOneValue
has_one_value names objects text v w p q = value_once (whole_source names objects) text v w p q
