use Rattle.std.proofs.Common.{rules, ◌≡◌, ◌≢◌, ◌∙◌, Ok, Err, arith}
use Rattle.std.proofs.lemmas.Result.{err_from_is_err_and}
use Rattle.vc_rev.specs.Asking.{AncestorAsks, PeelingAsks}
use Rattle.vc_rev.specs.Meaning.{PicksFrom, AncestorGives}
use Rattle.vc_expression.specs.declared.token.Step.TheVariants as steps
use Rattle.vc_rev.proofs.AnswerLemmas.{told_same}
use Rattle.vc_rev.proofs.StepsLemmas.{parents_more, parents_end, parents_none, ancestor_some, ancestor_asked, parents_asked, parents_asked-first}
use Rattle.vc_rev.proofs.steps.ancestor.Goals as goal

pub returns-then-n-eq0-clause-refused : goal.returns-then-n-eq0-clause-refused
returns-then-n-eq0-clause-refused g c = rw c.if-n-eq0.true c.pick_from.ensures.refused

pub returns-in_err-at-clause-refused : goal.returns-in_err-at-clause-refused
returns-in_err-at-clause-refused g c =
    let s = g.R.Repository.source (g.R.Repository.view_of c.args.repo.now) in
    let blames = g.R.Repository.blames (g.R.Repository.view_of c.args.repo.now) in
    let i = c.parents.invariant in
    let some : c.args.n ≢ 0 = c.if-n-eq0.false in
    let left : c.parents.left ≢ 0 = omega arith in
    let told = rw i.seen at c.in_err-at.ensures.refused in
    let p = err_from_is_err_and c.from_residual.result c.from_residual.ensures.1 in
    rw (p.1, p.2) (λ honest.
    told_same blames (PeelingAsks s c.parents.at) (AncestorAsks s c.args.n c.args.id) (PicksFrom s (steps.Parent 1) c.parents.at) (AncestorGives s c.args.n c.args.id) c.in_err-at.field-0.0
    (λ question h. ancestor_asked s c.args.n c.args.id question some (i.asked honest question (parents_asked-first s c.parents.left c.parents.at question left h)))
    (λ r h. ancestor_some s c.args.n c.args.id (Err r) some (i.onward honest (Err r) (parents_end s c.parents.left c.parents.at r left h))) (told honest))

pub parents-preserved : goal.parents-preserved
parents-preserved g c =
    let s = g.R.Repository.source (g.R.Repository.view_of c.args.repo.now) in
    let i = c.parents.invariant in
    let left : c.parents.left ≢ 0 = omega arith in
    let picked = rw i.seen at c.in_ok-at.ensures.ok in
    record {
      kept = c.in_ok-at.ensures.kept ∙ i.kept;
      seen = c.in_ok-at.ensures.seen ∙ i.seen;
      wear = search rules;
      onward = λ honest answer h. i.onward honest answer (parents_more s c.parents.left c.parents.at c.in_ok-at.at answer left (picked honest) h);
      asked = λ honest question h. i.asked honest question (parents_asked s c.parents.left c.parents.at c.in_ok-at.at question left (picked honest) h);
    }

pub returns-clause-ok : goal.returns-clause-ok
returns-clause-ok g c honest =
    let s = g.R.Repository.source (g.R.Repository.view_of c.args.repo.now) in
    let some : c.args.n ≢ 0 = c.if-n-eq0.false in
    let none : c.parents.left ≡ 0 = omega arith in
    ancestor_some s c.args.n c.args.id (Ok c.parents.at) some (c.parents.invariant.onward honest (Ok c.parents.at) (parents_none s c.parents.left c.parents.at none))
