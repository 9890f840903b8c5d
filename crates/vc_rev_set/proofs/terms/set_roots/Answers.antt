use Rattle.std.proofs.Common.{Ok, subst, rules, ◌∙◌}
use Rattle.std.proofs.lemmas.Result.{err_from_is_err_and}
use Rattle.vc_rev.specs.Answer.{IsTold}
use Rattle.vc_rev_set.specs.RootsView.{roots_view}
use Rattle.vc_rev_set.specs.Selection.{TermAsks, TermGives}
use Rattle.vc_expression.specs.SetViews.{term_view}
use Rattle.vc_expression.specs.declared.token.Term.{Term}
use Rattle.vc_rev_set.proofs.SelectionLemmas.{terms_told, terms_more, terms_asked}
use Rattle.vc_rev_set.proofs.terms.set_roots.Goals as goal

pub returns-in_err-more-clause-refused : goal.returns-in_err-more-clause-refused
returns-in_err-more-clause-refused g c =
    let s = g.R.Repository.source (g.R.Repository.view_of c.args.repo.now) in
    let blames = g.R.Repository.blames (g.R.Repository.view_of c.args.repo.now) in
    let i = c.terms.invariant in
    let told = rw i.seen at c.in_err-more.ensures.refused in
    let p = err_from_is_err_and c.from_residual.result c.from_residual.ensures.1 in
    rw (p.1, p.2) (λ honest. terms_told s blames c.args.terms.now c.terms.term-index c.term-item.result (roots_view c.terms.roots) c.in_err-more.field-0.0 c.terms-test.true (i.asked honest) (i.onward honest)
    (subst (λ (t : Term). IsTold blames (TermAsks s (term_view t)) (TermGives s (term_view t)) c.in_err-more.field-0.0) c.term-item.is (told honest)))

pub terms-preserved : goal.terms-preserved
terms-preserved g c =
    let s = g.R.Repository.source (g.R.Repository.view_of c.args.repo.now) in
    let i = c.terms.invariant in
    let more = rw i.seen at c.in_ok-more.ensures.ok in
    record {
      kept = c.in_ok-more.ensures.kept ∙ i.kept;
      seen = c.in_ok-more.ensures.seen ∙ i.seen;
      wear = search rules;
      onward = λ honest answer h. i.onward honest answer (terms_more s c.args.terms.now c.terms.term-index c.term-item.result (roots_view c.terms.roots) _ (roots_view c.in_ok-more.more) answer c.terms-test.true
          (subst (λ (t : Term). TermGives s (term_view t) (Ok (roots_view c.in_ok-more.more))) c.term-item.is (more honest)) c.in_ok-append.ensures h);
      asked = λ honest question h. i.asked honest question (terms_asked s c.args.terms.now c.terms.term-index c.term-item.result (roots_view c.in_ok-more.more) question c.terms-test.true
          (subst (λ (t : Term). TermGives s (term_view t) (Ok (roots_view c.in_ok-more.more))) c.term-item.is (more honest)) h);
    }
