use Rattle.vc_files.proofs.WearLemmas.{wears_then, wears_writes, writes_told}
use Rattle.std.proofs.Common.{rules, ◌≡◌, subst, sym}
use Rattle.vc_refs.specs.RefFault.{BlamesRemove}
use Rattle.vc_local.specs.Blames.{BlamesRemoved}
use Rattle.vc_local.specs.Reads.{IsItsFile, NoneRead, TellsRead}
use Rattle.vc_local.specs.declared.fault.NodeFault.TheVariants.{Ref}
use Rattle.vc_local.proofs.RefBlames.{look_file, look_removed, remove_file, remove_removed}
use Rattle.vc_files.specs.FileMap.{FileMap}
use Rattle.vc_refs.specs.RefMap.{without_ref}
use Rattle.vc_refs.specs.Refs.{refs}
use Rattle.vc_local.specs.Shown.{shown, with_refs_shown}
use Rattle.vc_local.proofs.ShownLemmas.{shown_refs}
use Rattle.vc_local.proofs.CleanLemmas.{clean_from, clean_ref, clean_same}
use Rattle.vc_local.proofs.local.remove_ref.Goals as goal

pub returns-clause-removed : goal.returns-clause-removed
returns-clause-removed g c = λ honest.
    let name = c.args.name.now in
    let content = g.F.Files.content in
    subst (λ (m : FileMap). shown (content c.remove.new.files) ≡ with_refs_shown (shown m) (without_ref (refs m) name)) c.in_ok-current.ensures.same
    (shown_refs _ _ name _ (c.in_ok-remove.ensures.removes.rest honest) (c.in_ok-remove.ensures.removes.removed honest))

pub returns-in_err-current-clause-clean : goal.returns-in_err-current-clause-clean
returns-in_err-current-clause-clean g c = λ honest. clean_same _ _ c.in_err-current.ensures.same

pub returns-in_err-remove-clause-clean : goal.returns-in_err-remove-clause-clean
returns-in_err-remove-clause-clean g c = λ honest. clean_from _ _ _ c.in_ok-current.ensures.same (clean_ref _ _ c.args.name.now (c.in_err-remove.ensures.removes.rest honest) (c.in_err-remove.ensures.removes.unpacks honest))

-- the refs are as before, and so is all else that is shown
pub returns-in_err-remove-clause-err : goal.returns-in_err-remove-clause-err
returns-in_err-remove-clause-err g c = λ honest.
    let content = g.F.Files.content in
    let told : shown (content c.remove.new.files) ≡ shown (content c.args.files.now) =
    subst (λ (m : FileMap). shown (content c.remove.new.files) ≡ shown m) c.in_ok-current.ensures.same
    (shown_refs _ _ c.args.name.now _ (c.in_err-remove.ensures.removes.rest honest) (c.in_err-remove.ensures.removes.err honest)) in
    search (rules, told)

pub returns-clause-clean : goal.returns-clause-clean
returns-clause-clean g c = λ honest. clean_from _ _ _ c.in_ok-current.ensures.same (clean_ref _ _ c.args.name.now (c.in_ok-remove.ensures.removes.rest honest) (c.in_ok-remove.ensures.removes.unpacks honest))

pub returns-in_err-current-clause-wear : goal.returns-in_err-current-clause-wear
returns-in_err-current-clause-wear g c = writes_told (wears_writes c.in_err-current.ensures.wear (search rules)) (search rules) (search rules)

pub returns-in_err-remove-clause-wear : goal.returns-in_err-remove-clause-wear
returns-in_err-remove-clause-wear g c = wears_then c.in_ok-current.ensures.wear (search rules) (search rules) (writes_told c.in_err-remove.ensures.wear (search rules) (search rules))

pub returns-clause-wear : goal.returns-clause-wear
returns-clause-wear g c = wears_then c.in_ok-current.ensures.wear (search rules) (search rules) (writes_told c.in_ok-remove.ensures.wear (search rules) (search rules))

pub returns-in_err-current-clause-refused : goal.returns-in_err-current-clause-refused
returns-in_err-current-clause-refused g c = λ honest.
    let told : BlamesRemoved (g.F.Files.content c.args.files.now) (Ref c.in_err-current.field-0.0) = look_removed _ c.args.name.now _ (c.in_err-current.ensures.refused honest) in
    search (rules, told)

pub returns-in_err-remove-clause-refused : goal.returns-in_err-remove-clause-refused
returns-in_err-remove-clause-refused g c = λ honest.
    let content = g.F.Files.content c.args.files.now in
    let blames : BlamesRemove content c.args.name.now c.in_ok-current.current c.in_err-remove.field-0.0 = rw c.in_ok-current.ensures.same at (c.in_err-remove.ensures.refused honest) in
    let told : BlamesRemoved content (Ref c.in_err-remove.field-0.0) = remove_removed _ c.args.name.now _ (sym (c.in_ok-current.ensures.found honest)) _ blames in
    search (rules, told)

pub returns-in_err-current-clause-file : goal.returns-in_err-current-clause-file
returns-in_err-current-clause-file g c = λ honest.
    let told : TellsRead NoneRead (IsItsFile c.args.name.now) (Ref c.in_err-current.field-0.0) = look_file _ _ _ (c.in_err-current.ensures.refused honest) in
    search (rules, told)

pub returns-in_err-remove-clause-file : goal.returns-in_err-remove-clause-file
returns-in_err-remove-clause-file g c = λ honest.
    let told : TellsRead NoneRead (IsItsFile c.args.name.now) (Ref c.in_err-remove.field-0.0) = remove_file _ _ c.in_ok-current.current _ (c.in_err-remove.ensures.refused honest) in
    search (rules, told)
