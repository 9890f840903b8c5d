use Rattle.std.proofs.Common.{rules, ◌≡◌, ◌∙◌, ap, map, take, length, arith}
use Rattle.std.proofs.Math.Seq.{take-length}
use Rattle.vc_files.specs.declared.faults.Fault.TheVariants.{Memory}
use Rattle.vc_committing.specs.Steps.{IsOfRevisions}
use Rattle.vc_cli.specs.declared.failure.Failure.TheVariants.{Fault}
use Rattle.vc_cli.proofs.ToldLemmas.{handed_on}
use Rattle.vc_committing.proofs.StepLemmas.{named_fault, named_more, named_stop}
use Rattle.vc_committing.proofs.clone.parents_named.Goals as goal

pub loop-revision-preserved : goal.loop-revision-preserved
loop-revision-preserved g c =
    let i = c.loop-revision.invariant in
    let value = rw i.same at c.in_ok-id.ensures.value in
    record {
      same = c.in_ok-id.ensures.same ∙ i.same;
      named = λ honest. named_more (g.F.Files.content c.args.files.now) c.args.revisions.now c.loop-revision.revision-index _ c.loop-revision-test.true c.loop-revision.parents.items c.in_ok-id.id _ (i.named honest) (value honest) c.in_ok-push.ensures.items;
      wear = search rules;
    }

pub returns-clause-named : goal.returns-clause-named
returns-clause-named g c =
    let all : take c.loop-revision.revision-index c.args.revisions.now ≡ c.args.revisions.now = ap (λ i. take i c.args.revisions.now) (let last : c.loop-revision.revision-index ≡ length c.args.revisions.now = omega arith in last) ∙ take-length c.args.revisions.now in
    rw all at c.loop-revision.invariant.named

pub returns-in_err-id-clause-same : goal.returns-in_err-id-clause-same
returns-in_err-id-clause-same g c = c.in_err-id.ensures.same ∙ c.loop-revision.invariant.same

pub returns-in_err-id-clause-refused : goal.returns-in_err-id-clause-refused
returns-in_err-id-clause-refused g c = λ honest.
    let i = c.loop-revision.invariant in
    let content = g.F.Files.content in
    let failure = c.in_err-id.field-0.0 in
    handed_on (IsOfRevisions (content c.args.files.now) (map (λ revision. revision.now) c.args.revisions.now)) failure c.from_residual.result c.from_residual.ensures.1
    (named_stop (content c.args.files.now) c.args.revisions.now c.loop-revision.revision-index _ c.loop-revision-test.true c.loop-revision.parents.items failure (i.named honest) (rw i.same at (c.in_err-id.ensures.refused honest)))

pub returns-in_err-push-clause-refused : goal.returns-in_err-push-clause-refused
returns-in_err-push-clause-refused g c = λ honest.
    let i = c.loop-revision.invariant in
    let content = g.F.Files.content in
    let value = rw i.same at c.in_ok-id.ensures.value in
    handed_on (IsOfRevisions (content c.args.files.now) (map (λ revision. revision.now) c.args.revisions.now)) (Fault Memory) c.from_residual-in_err-push.result c.from_residual-in_err-push.ensures.1
    (named_fault (content c.args.files.now) c.args.revisions.now c.loop-revision.revision-index _ c.loop-revision-test.true c.loop-revision.parents.items c.in_ok-id.id (i.named honest) (value honest))
