use Rattle.std.proofs.Common.{◌≡◌, ◌++◌, take, is_some}
use Rattle.std.specs.Prelude.{filter}
use Rattle.vc_known.specs.Known.{layer_in}
use Rattle.vc_pack.proofs.ours.add_known.Given as goal

abbrev pub invariant-loop-name : goal.invariant-loop-name
invariant-loop-name l = l.ids.items ≡ l.initial.ids.items ++ filter (λ id. is_some (layer_in l.known id)) (take l.name-index l.names)
