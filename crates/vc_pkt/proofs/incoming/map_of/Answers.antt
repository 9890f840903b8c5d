use Rattle.std.proofs.Common.{rules}
use Rattle.std.specs.BTreeMap.{IsFromIterResult}
use Rattle.std.proofs.lemmas.Iterator.Adapters.{fact_from_collect, YieldsList-from_vec}
use Rattle.vc_object.specs.ObjectId.{id_cmp}
use Rattle.vc_pkt.proofs.incoming.map_of.Goals as goal

pub returns : goal.returns
returns c = fact_from_collect (IsFromIterResult id_cmp) c.collect.result c.collect.ensures.ran (YieldsList-from_vec {s = c.into_iter.result} c.args.items.items (search rules) (search rules))
