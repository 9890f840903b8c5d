use Rattle.std.proofs.Common.{◌≡◌, length, arith}
use Rattle.vc_index.proofs.PartLemmas.{more_inside}
use Rattle.vc_index.proofs.trees.start_of.Goals as goal

pub loop-start-preserved : goal.loop-start-preserved
loop-start-preserved c = record {
  bound = omega arith;
  inside = more_inside (λ part. length part.folder.now ≡ length c.args.folder.now) c.args.parts.now c.loop-start.start _ (omega arith) (omega arith) c.if-parts-start.true c.loop-start.invariant.inside;
}
