use Rattle.std.proofs.Common.{Ok}
use Rattle.std.proofs.lemmas.Result.{err_from_is_err_and, IfOk-weaker, IfErr-weaker}
use Rattle.vc_object.specs.declared.kind.Kind.TheVariants as kinds
use Rattle.vc_object.specs.declared.mode.Mode.TheVariants as modes
use Rattle.vc_rev.specs.Asking.{EntryAsks, PeelingAsks}
use Rattle.vc_rev.specs.Meaning.{PicksFrom, EntryGives, components}
use Rattle.vc_expression.specs.declared.token.Step.TheVariants as steps
use Rattle.vc_rev.proofs.AnswerLemmas.{told_first, told_next}
use Rattle.vc_rev.proofs.value.path_value.Goals as goal

pub returns-in_err-tree-clause-refused : goal.returns-in_err-tree-clause-refused
returns-in_err-tree-clause-refused g c =
    let s = g.R.Repository.source (g.R.Repository.view_of c.args.repo.now) in
    let blames = g.R.Repository.blames (g.R.Repository.view_of c.args.repo.now) in
    let p = err_from_is_err_and c.from_residual.result c.from_residual.ensures.1 in
    rw (p.1, p.2) (λ honest. told_first blames (PeelingAsks s c.args.id) (PicksFrom s (steps.PeelTo kinds.Tree) c.args.id) (EntryAsks s (components c.args.path.now) modes.Tree) (EntryGives s (components c.args.path.now) modes.Tree) c.in_err-tree.field-0.0 (c.in_err-tree.ensures.refused honest))

pub returns-clause-ok : goal.returns-clause-ok
returns-clause-ok g c =
    let then = rw (c.deref.ensures.value, c.in_ok-parts.ensures, c.in_ok-tree.ensures.seen) at c.entry_value.ensures.ok in
    IfOk-weaker c.entry_value.result _ _ (λ found h honest. (Ok c.in_ok-tree.tree, c.in_ok-tree.ensures.ok honest, h honest)) then

pub returns-clause-refused : goal.returns-clause-refused
returns-clause-refused g c =
    let s = g.R.Repository.source (g.R.Repository.view_of c.args.repo.now) in
    let blames = g.R.Repository.blames (g.R.Repository.view_of c.args.repo.now) in
    let then = rw (c.deref.ensures.value, c.in_ok-parts.ensures, c.in_ok-tree.ensures.seen) at c.entry_value.ensures.refused in
    IfErr-weaker c.entry_value.result _ _ (λ e h honest. told_next blames (PeelingAsks s c.args.id) (PicksFrom s (steps.PeelTo kinds.Tree) c.args.id) (EntryAsks s (components c.args.path.now) modes.Tree) (EntryGives s (components c.args.path.now) modes.Tree) c.in_ok-tree.tree e (c.in_ok-tree.ensures.ok honest) (h honest)) then
