use Rattle.vc_object.specs.declared.kind.Kind.TheVariants.{Blob}
use Rattle.vc_reading.proofs.PieceLemmas.{HasRead}
use Rattle.vc_reading.proofs.pieces.hash_pieces.Given as goal

abbrev pub invariant-loop : goal.invariant-loop
invariant-loop g l = HasRead (g.I.Read.remaining l.fn.input) (g.I.Read.remaining l.input) l.hasher Blob l.fn.size l.left
