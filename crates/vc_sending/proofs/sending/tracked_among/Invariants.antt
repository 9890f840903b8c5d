use Rattle.std.proofs.Common.{◌≡◌, take}
use Rattle.std.specs.Prelude.{filter_map}
use Rattle.vc_sending.specs.Sending.{tracked_in}
use Rattle.vc_sending.proofs.sending.tracked_among.Given as goal

abbrev pub invariant-loop-name : goal.invariant-loop-name
invariant-loop-name l = l.ids.items ≡ filter_map tracked_in (take l.name-index l.listed)
