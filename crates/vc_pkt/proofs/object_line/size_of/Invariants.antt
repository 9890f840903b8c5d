use Rattle.std.proofs.Common.{◌≡◌, ◌≤◌, drop}
use Rattle.vc_pkt.specs.ObjectLine.{size_of, size_after}
use Rattle.vc_pkt.proofs.object_line.size_of.Given as goal

abbrev pub invariant-digits : goal.invariant-digits
invariant-digits l = record { small : l.size ≤ 16777217; same : size_of l.digits ≡ size_after l.size (drop l.d-index l.digits) }
