use Rattle.std.proofs.Common.{inl, inr, subst}
use Rattle.std.proofs.KnownBytes.{Keeps-refl}
use Rattle.std.specs.Prelude.{IfErr, Option, Result}
use Rattle.vc_cli.proofs.StoreLemmas.{gave}
use Rattle.vc_cli.proofs.ToldLemmas.{handed_on}
use Rattle.vc_cli.specs.Stores.{IsUntoldOr}
use Rattle.vc_cli.specs.declared.failure.Failure.{Failure}
use Rattle.vc_committing.specs.Steps.{SetsBranch}
use Rattle.vc_committing.specs.Told.{IsOfOldTold, IsOfReplacing}
use Rattle.vc_files.specs.FileMap.{FileMap}
use Rattle.vc_object.specs.declared.id.ObjectId.{ObjectId}
use Rattle.vc_committing.proofs.commands.branch.Goals as goal

pub returns-in_err-was-clause-refused : goal.returns-in_err-was-clause-refused
returns-in_err-was-clause-refused g c = λ honest.
    let content = g.S.Files.Files.content in
    let stores = g.S.Stores.content in
    let store = g.S.Stores.of c.args.lock.now in
    let old = stores c.args.stores.now in
    let new = stores c.close_locked.new.self in
    let name = c.args.name.now in
    let revision = c.args.revision.now in
    let files = content c.in_ok-files.files in
    let back = content c.replace_branch-files.result.0 in
    let before = g.E.Write.contents c.args.faults.now.stream in
    let e = c.in_err-was.field-0.0 in
    let refused : IsOfReplacing files name revision back e = subst (λ (r : Result (Option ObjectId) Failure). IfErr r (IsOfReplacing files name revision back)) c.in_err-was.was (c.replace_branch-files.ensures.refused honest) in
    handed_on (IsUntoldOr old new before before (IsOfOldTold (IsOfReplacing (old store) name revision (new store)) (SetsBranch (old store) name revision (new store)) c.args.faults.now.is_terminal before before)) e c.from_residual-in_err-was.result c.from_residual-in_err-was.ensures.1
    (inr (inl (gave (λ (s t : FileMap). IsOfReplacing s name revision t e) store files back old (stores c.open_locked.new.self) new c.in_ok-files.ensures.opened c.close_locked.ensures.back refused, Keeps-refl before)))
