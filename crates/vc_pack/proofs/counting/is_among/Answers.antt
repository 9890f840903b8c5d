use Rattle.std.proofs.Common.{rules}
use Rattle.vc_pack.proofs.AmongLemmas.{found_name}
use Rattle.vc_pack.proofs.counting.is_among.Goals as goal

pub returns : goal.returns
returns c =
    let found = found_name c.args.ids.now c.args.id.now c.requires c.binary_search.result c.binary_search.ensures.position c.binary_search.ensures.bound in
    search (rules, found)
