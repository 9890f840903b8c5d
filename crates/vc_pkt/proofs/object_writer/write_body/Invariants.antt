use Rattle.std.proofs.Common.{◌≡◌, ◌++◌, ℕ, List, length}
use Rattle.vc_pkt.proofs.Bodies.{Left}
use Rattle.vc_pkt.proofs.object_writer.write_body.Given as goal

abbrev pub invariant-pieces : goal.invariant-pieces
invariant-pieces l = record {
  left : Left 65516 l.fn.out.items l.out.items l.body l.rest;
  grown : (more : List ℕ) × (l.out.items ≡ l.fn.out.items ++ more);
}

abbrev pub decreases-pieces : goal.decreases-pieces
decreases-pieces l = length l.rest
