use Rattle.std.proofs.Common.{rules}
use Rattle.vc_local.specs.Making.{BlamesLook}
use Rattle.vc_local.specs.declared.fault.NodeFault.TheVariants.{Ref}
use Rattle.vc_local.proofs.RefusalLemmas.{of_head_value}
use Rattle.vc_local.specs.Reads.{IsAtHead, NoneRead, TellsRead}
use Rattle.vc_local.proofs.CommitReads.{value_read}
use Rattle.vc_local.proofs.committing.parents_with.Goals as goal

pub returns-in_err-id-clause-refused : goal.returns-in_err-id-clause-refused
returns-in_err-id-clause-refused g c = λ honest.
    let content = g.F.Files.content c.args.files.now in
    let blames : BlamesLook content (Ref c.in_err-id.field-0.0) = of_head_value content c.in_err-id.field-0.0 (c.in_err-id.ensures.refused honest) in
    search (rules, blames)

pub returns-in_err-id-clause-file : goal.returns-in_err-id-clause-file
returns-in_err-id-clause-file g c = λ honest.
    let content = g.F.Files.content c.args.files.now in
    let read : TellsRead NoneRead (IsAtHead content) (Ref c.in_err-id.field-0.0) = value_read content c.in_err-id.field-0.0 (c.in_err-id.ensures.refused honest) in
    search (rules, read)
