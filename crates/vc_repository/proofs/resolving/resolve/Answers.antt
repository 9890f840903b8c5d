use Rattle.std.proofs.Common.{◌∙◌, ap, inl, subst, sym}
use Rattle.vc_repository.specs.Resolving.{IsIndexFor}
use Rattle.vc_repository.specs.State.{state}
use Rattle.vc_expression.specs.Views.{expr_view}
use Rattle.vc_repository.proofs.resolving.resolve.Goals as goal

pub returns-in-Ok-resolve-clause-value : goal.returns-in-Ok-resolve-clause-value
returns-in-Ok-resolve-clause-value g c = λ honest.
    let repository = c.new-repository.result in
    let s = state repository.files.ghost_name (g.F.Files.content repository.files.now) repository.index.now in (
      s,
      record {
        files = ap g.F.Files.content c.new-repository.ensures.files ∙ c.index_for.ensures.same;
        index = subst (λ index. IsIndexFor (g.F.Files.content c.args.files.now) (expr_view c.args.expr.now) index) (sym c.new-repository.ensures.index) (c.in-Ok.ensures.index honest);
      },
      c.in-Ok-resolve.ensures.ok honest,
    )

pub returns-clause-refused : goal.returns-clause-refused
returns-clause-refused g c = λ honest.
    let repository = c.new-repository.result in
    let s = state repository.files.ghost_name (g.F.Files.content repository.files.now) repository.index.now in
    inl (
      s,
      record {
        files = ap g.F.Files.content c.new-repository.ensures.files ∙ c.index_for.ensures.same;
        index = subst (λ index. IsIndexFor (g.F.Files.content c.args.files.now) (expr_view c.args.expr.now) index) (sym c.new-repository.ensures.index) (c.in-Ok.ensures.index honest);
      },
      c.in-Err-resolve.ensures.refused honest,
    )
