use Rattle.std.proofs.Common.{◌≡◌, take}
use Rattle.std.specs.List.{AllByRecursion}
use Rattle.vc_object.specs.Lines.{IsId}
use Rattle.vc_exchange.proofs.wanting.first_ids.Given as goal

abbrev pub invariant-loop-id : goal.invariant-loop-id
invariant-loop-id l = record {
  first : l.first.items ≡ take l.id-index l.id-items;
  ids : AllByRecursion IsId l.first.items;
}
