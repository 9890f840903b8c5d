use Rattle.std.proofs.Common.{◌≡◌, [], map, take}
use Rattle.vc_format.specs.Git.{bytes_of_id}
use Rattle.vc_model.specs.Clone.{once}
use Rattle.vc_exchange.proofs.WantingHaves.{values_told}
use Rattle.vc_exchange.proofs.wanting.haves.Given as goal

abbrev pub invariant-loop-id : goal.invariant-loop-id
invariant-loop-id g l = map bytes_of_id l.ids.keys ≡ once [] (values_told (take l.id-index l.id-items))
