use Rattle.std.proofs.Common.{None, Some, arith}
use Rattle.std.proofs.lemmas.Str.Pattern.{rfind_char}
use Rattle.vc_work_tree.proofs.FolderLemmas.{none_above, lowest_at}
use Rattle.vc_work_tree.proofs.folder.folder_of.Goals as goal

pub returns-in_err-end : goal.returns-in_err-end
returns-in_err-end c = rw c.from_residual.ensures (none_above c.args.path.now (rfind_char 47 c.args.path.now None c.in_err-end.ensures.cases (omega arith)))

pub returns : goal.returns
returns c =
    let at = rfind_char 47 c.args.path.now (Some c.in_ok-end.end) c.in_ok-end.ensures.cases (omega arith) in
    rw c.split_at.ensures.front (lowest_at c.args.path.now c.in_ok-end.end at.0 at.1 at.2)
