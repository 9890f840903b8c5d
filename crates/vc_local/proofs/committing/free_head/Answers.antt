use Rattle.std.proofs.Common.{rules, inl}
use Rattle.vc_local.specs.Making.{BlamesFreeHead}
use Rattle.vc_local.specs.declared.fault.NodeFault.TheVariants.{Ref}
use Rattle.vc_local.proofs.RefusalLemmas.{of_head}
use Rattle.vc_local.specs.Reads.{IsAtHead, NoneRead, TellsRead}
use Rattle.vc_local.proofs.CommitReads.{head_read}
use Rattle.vc_local.proofs.committing.free_head.Goals as goal

pub returns-in_err-head-clause-refused : goal.returns-in_err-head-clause-refused
returns-in_err-head-clause-refused g c = λ honest.
    let content = g.F.Files.content c.args.files.now in
    let blames : BlamesFreeHead content (Ref c.in_err-head.field-0.0) = inl (of_head content c.in_err-head.field-0.0 (c.in_err-head.ensures.refused honest)) in
    search (rules, blames)

pub returns-in_err-head-clause-file : goal.returns-in_err-head-clause-file
returns-in_err-head-clause-file g c = λ honest.
    let content = g.F.Files.content c.args.files.now in
    let read : TellsRead NoneRead (IsAtHead content) (Ref c.in_err-head.field-0.0) = head_read content c.in_err-head.field-0.0 (c.in_err-head.ensures.refused honest) in
    search (rules, read)
