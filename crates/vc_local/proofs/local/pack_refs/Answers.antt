use Rattle.std.proofs.Common.{◌≡◌, ◌⊎◌, true, rules}
use Rattle.vc_local.specs.Blames.{BlamesPacking}
use Rattle.vc_local.specs.NodeFault.{is_fault}
use Rattle.vc_local.specs.declared.fault.NodeFault.TheVariants.{Ref}
use Rattle.vc_local.proofs.RefBlames.{packing_unwritten}
use Rattle.vc_local.proofs.CleanLemmas.{packs_only}
use Rattle.vc_local.proofs.local.pack_refs.Goals as goal

pub returns-in_err-pack-clause-kept : goal.returns-in_err-pack-clause-kept
returns-in_err-pack-clause-kept g c = λ honest. packs_only _ _ (c.in_err-pack.ensures.packs.rest honest) (c.in_err-pack.ensures.packs.kept honest)

pub returns-clause-kept : goal.returns-clause-kept
returns-clause-kept g c = λ honest. packs_only _ _ (c.in_ok-pack.ensures.packs.rest honest) (c.in_ok-pack.ensures.packs.kept honest)

pub returns-in_err-pack-clause-refused : goal.returns-in_err-pack-clause-refused
returns-in_err-pack-clause-refused g c = λ honest.
    let told : BlamesPacking (g.F.Files.content c.args.files.now) (Ref c.in_err-pack.field-0.0) = c.in_err-pack.ensures.refused honest in
    search (rules, told)

pub returns-in_err-pack-clause-err : goal.returns-in_err-pack-clause-err
returns-in_err-pack-clause-err g c = λ honest.
    let content = g.F.Files.content in
    let fault = c.in_err-pack.field-0.0 in
    let unwritten : (is_fault (Ref fault) ≡ true) ⊎ (content c.pack.new.files ≡ content c.args.files.now) = packing_unwritten fault (c.in_err-pack.ensures.packs.err honest) in
    search (rules, unwritten)
