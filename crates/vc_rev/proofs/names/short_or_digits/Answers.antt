use Rattle.std.proofs.Common.{Some, None, inl, inr, refl}
use Rattle.std.proofs.lemmas.Result.{err_from_is_err_and, IfOk-weaker, IfErr-weaker}
use Rattle.vc_rev.specs.Answer.{IsNoAnswer}
use Rattle.vc_rev.specs.Asking.{DigitsAsk, FirstValueAsks, ShortAsks}
use Rattle.vc_rev.specs.Meaning.{ShortGives, DigitsGive, places}
use Rattle.vc_rev.proofs.AnswerLemmas.{told_same}
use Rattle.vc_rev.proofs.names.short_or_digits.Goals as goal

pub returns-in_err-found-clause-refused : goal.returns-in_err-found-clause-refused
returns-in_err-found-clause-refused g c =
    let s = g.R.Repository.source (g.R.Repository.view_of c.args.repo.now) in
    let blames = g.R.Repository.blames (g.R.Repository.view_of c.args.repo.now) in
    let p = err_from_is_err_and c.from_residual.result c.from_residual.ensures.1 in
    rw (p.1, p.2) (λ honest. told_same blames (FirstValueAsks s (places c.args.name.now)) (ShortAsks s c.args.name.now) IsNoAnswer (ShortGives s c.args.name.now) c.in_err-found.field-0.0 (λ question h. inl h) (λ r h. absurd h) (c.in_err-found.ensures.refused honest))

pub returns-in-Some-clause-ok : goal.returns-in-Some-clause-ok
returns-in-Some-clause-ok g c = λ honest. (Some c.in-Some.id, rw c.in-Some.is at (c.in_ok-found.ensures.ok honest), refl)

pub returns-in-None-clause-ok : goal.returns-in-None-clause-ok
returns-in-None-clause-ok g c =
    let first = rw c.in-None.is at c.in_ok-found.ensures.ok in
    let then = rw c.in_ok-found.ensures.seen at c.digits_value.ensures.ok in
    IfOk-weaker c.digits_value.result _ _ (λ found h honest. (None, first honest, h honest)) then

pub returns-in-None-clause-refused : goal.returns-in-None-clause-refused
returns-in-None-clause-refused g c =
    let s = g.R.Repository.source (g.R.Repository.view_of c.args.repo.now) in
    let blames = g.R.Repository.blames (g.R.Repository.view_of c.args.repo.now) in
    let first = rw c.in-None.is at c.in_ok-found.ensures.ok in
    let then = rw c.in_ok-found.ensures.seen at c.digits_value.ensures.refused in
    IfErr-weaker c.digits_value.result _ _ (λ e h honest. told_same blames (DigitsAsk c.args.name.now) (ShortAsks s c.args.name.now) (DigitsGive s c.args.name.now) (ShortGives s c.args.name.now) e (λ question k. inr (first honest, k)) (λ r t. (None, first honest, t)) (h honest)) then
