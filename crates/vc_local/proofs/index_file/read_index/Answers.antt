use Rattle.std.proofs.Common.{rules, ◌∙◌}
use Rattle.vc_local.proofs.IndexLemmas.{text_blamed}
use Rattle.vc_local.specs.IndexFile.{BlamesIndex}
use Rattle.vc_local.specs.NodeFault.{of_index}
use Rattle.vc_local.proofs.index_file.read_index.Goals as goal

pub returns-in_err-index-clause-refused : goal.returns-in_err-index-clause-refused
returns-in_err-index-clause-refused g c = λ honest.
    let content = g.F.Files.content c.args.files.now in
    let bytes = c.deref.ensures.value ∙ c.in_ok-bytes.ensures.found honest in
    let blames : BlamesIndex content (of_index c.in_err-index.field-0.0) = text_blamed content _ c.in_err-index.field-0.0 bytes c.in_err-index.ensures.refused in
    search (rules, blames)
