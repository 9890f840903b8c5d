use Rattle.std.proofs.Common.{rules, sym, subst}
use Rattle.std.specs.BTreeMap.{IsFromIterResult}
use Rattle.vc_index.specs.IndexMap.{IsIndex, IndexMap}
use Rattle.vc_index.proofs.CollectLemmas.{index_of-collected}
use Rattle.vc_index.proofs.MapLemmas.{key_cmp}
use Rattle.vc_index.proofs.index.Index.of_files.Goals as goal

pub invariant_of-result : goal.invariant_of-result
invariant_of-result c =
    let made : IsFromIterResult key_cmp c.args.files.items c.in_ok-map.map = search rules in
    subst (λ (m : IndexMap). IsIndex m) (sym (index_of-collected c.args.files.items c.in_ok-map.map c.requires.order made)) c.requires.index

pub returns : goal.returns
returns c =
    let made : IsFromIterResult key_cmp c.args.files.items c.in_ok-map.map = search rules in
    index_of-collected c.args.files.items c.in_ok-map.map c.requires.order made
