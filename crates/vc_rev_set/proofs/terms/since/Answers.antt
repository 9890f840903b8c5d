use Rattle.std.proofs.Common.{◌≡◌, [], ◌∷◌, Ok, ap, subst}
use Rattle.std.proofs.lemmas.Result.{err_from_is_err_and}
use Rattle.vc_rev.specs.Answer.{IsTold}
use Rattle.vc_expression.specs.Grammar.{RevText}
use Rattle.vc_rev_set.specs.Selection.{BothAsk, BothGive, selection, nth_of}
use Rattle.vc_expression.specs.Views.{rev_view}
use Rattle.vc_rev.proofs.AnswerLemmas.{told_only}
use Rattle.vc_rev_set.proofs.terms.since.Goals as goal

pub returns-in_err-first-clause-refused : goal.returns-in_err-first-clause-refused
returns-in_err-first-clause-refused g c =
    let s = g.R.Repository.source (g.R.Repository.view_of c.args.repo.now) in
    let blames = g.R.Repository.blames (g.R.Repository.view_of c.args.repo.now) in
    let told = λ (honest : g.R.Objects.is_honest). subst (λ (rev : RevText). IsTold blames (BothAsk s rev (rev_view c.args.rev.now)) (BothGive s rev (rev_view c.args.rev.now)) c.in_err-first.field-0.0) c.in_ok-parent.ensures (c.in_err-first.ensures.refused honest) in
    let p = err_from_is_err_and c.from_residual-in_err-first.result c.from_residual-in_err-first.ensures.1 in
    rw (p.1, p.2) (λ honest. told_only blames (BothAsk s (nth_of (rev_view c.args.rev.now) c.args.n) (rev_view c.args.rev.now)) (BothGive s (nth_of (rev_view c.args.rev.now) c.args.n) (rev_view c.args.rev.now)) (λ ends r. r ≡ Ok (selection (ends.1 ∷ []) (ends.0 ∷ []) [])) c.in_err-first.field-0.0 (told honest))

pub returns-clause-ok : goal.returns-clause-ok
returns-clause-ok g c honest =
    let s = g.R.Repository.source (g.R.Repository.view_of c.args.repo.now) in
    let both = λ (h : g.R.Objects.is_honest). subst (λ (rev : RevText). BothGive s rev (rev_view c.args.rev.now) (Ok (c.in_ok-first.first, c.in_ok-first.second))) c.in_ok-parent.ensures (c.in_ok-first.ensures.ok h) in
    (Ok (c.in_ok-first.first, c.in_ok-first.second), both honest, ap Ok c.in_ok-between.ensures)
