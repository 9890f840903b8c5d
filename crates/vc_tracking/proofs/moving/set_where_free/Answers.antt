use Rattle.std.proofs.Common.{inl, inr, sym, subst, Bool, Result}
use Rattle.std.specs.Prelude.{IfErr, IfOk, IsErrOf, codes}
use Rattle.vc_files.specs.declared.faults.Fault.TheVariants.{Device}
use Rattle.vc_refs.specs.declared.faults.RefFault.{RefFault}
use Rattle.vc_refs.specs.declared.faults.RefFault.TheVariants.{Fault}
use Rattle.vc_refs.proofs.RefsLemmas.{outside_from_only}
use Rattle.vc_quarantine.proofs.CleanLemmas.{bad_ref}
use Rattle.vc_quarantine.proofs.WearLemmas.{wears_told}
use Rattle.vc_tracking.specs.Faults.{BlamesRefs}
use Rattle.vc_tracking.specs.Moving.{IsSetWhereFree}
use Rattle.vc_tracking.proofs.MovingLemmas.{device_meant, free_among, passed_blames, passed_set}
use Rattle.vc_tracking.proofs.moving.set_where_free.Goals as goal

pub returns-in-Ok-clause-set : goal.returns-in-Ok-clause-set
returns-in-Ok-clause-set g c = λ honest. (free_among (g.F.Files.content c.args.files.now) c.args.to.now (c.in-Ok.ensures.allowed honest).free, c.in-Ok.ensures.sets.set honest)

pub returns-in-Ok-clause-bad : goal.returns-in-Ok-clause-bad
returns-in-Ok-clause-bad g c = λ honest. bad_ref _ _ c.args.to.now (c.in-Ok.ensures.sets.rest honest)

pub returns-in-Ok-clause-outside : goal.returns-in-Ok-clause-outside
returns-in-Ok-clause-outside g c = λ honest. outside_from_only (codes "refs/") (c.in-Ok.ensures.sets.only honest) c.requires.inside

pub returns-in-Ok-clause-looks : goal.returns-in-Ok-clause-looks
returns-in-Ok-clause-looks g c = λ honest. inl (free_among (g.F.Files.content c.args.files.now) c.args.to.now (c.in-Ok.ensures.allowed honest).free)

pub returns-in-Err-clause-set : goal.returns-in-Err-clause-set
returns-in-Err-clause-set g c = λ honest.
    let content = g.F.Files.content in
    subst (λ (r : Result Bool RefFault). IfOk r (IsSetWhereFree (content c.args.files.now) (content c.set_over.new.files) c.args.to.now c.args.id)) (sym c.passed_over.ensures)
    (passed_set (content c.args.files.now) c.args.to.now c.args.current (content c.set_over.new.files) c.args.id c.in-Err.fault (c.in-Err.ensures.sets.err honest) (c.in-Err.ensures.refused honest))

pub returns-in-Err-clause-refused : goal.returns-in-Err-clause-refused
returns-in-Err-clause-refused g c = λ honest is.
    let content = g.F.Files.content c.args.files.now in
    subst (λ (r : Result Bool RefFault). IfErr r (BlamesRefs content)) (sym c.passed_over.ensures) (passed_blames content c.args.to.now c.args.current c.in-Err.fault is (c.in-Err.ensures.refused honest))

pub returns-in-Err-clause-looks : goal.returns-in-Err-clause-looks
returns-in-Err-clause-looks g c = λ honest. elim (c.in-Err.ensures.looks honest) [
  | inl may ↦ inl (free_among (g.F.Files.content c.args.files.now) c.args.to.now may.1.free)
  | inr wears ↦ inr (wears_told wears (λ told. device_meant (Unit {0}) c.in-Err.fault (subst (λ (r : Result Bool RefFault). IsErrOf r (Fault Device)) c.passed_over.ensures told)))
]

pub set_over-requires-clause-read : goal.set_over-requires-clause-read
set_over-requires-clause-read g c = c.requires.read
