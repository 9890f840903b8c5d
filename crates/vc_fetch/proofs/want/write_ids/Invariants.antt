use Rattle.std.proofs.Common.{◌≡◌, ◌++◌, map, take}
use Rattle.std.specs.List.{flat_map}
use Rattle.vc_pkt.specs.Line.{spelling}
use Rattle.vc_fetch.specs.Want.{written_id}
use Rattle.vc_fetch.proofs.want.write_ids.Given as goal

abbrev pub invariant-ids : goal.invariant-ids
invariant-ids l = l.out.items ≡ l.fn.out.items ++ flat_map spelling (map (written_id l.word) (take l.id-index l.ids))
