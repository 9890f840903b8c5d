use Rattle.std.proofs.Common.{arith, ap, ◌∙◌, take, drop}
use Rattle.vc_pkt.proofs.Bodies.{one_less, none_left, done, positive, grown_twice}
use Rattle.vc_pkt.proofs.MessageLaws.{no_bytes, some_bytes}
use Rattle.vc_pkt.proofs.object_writer.write_body.Goals as goal

pub pieces-preserved : goal.pieces-preserved
pieces-preserved c =
    let m = c.min.ensures in
    let i = c.pieces.invariant in
    let wrote = c.in_ok-write_line.ensures.ok in
    record {
      left =
          one_less 65516 _ _ _ _ c.pieces.rest.now _ _ (omega arith) i.left (positive _ (some_bytes _ c.pieces-test.ensures))
          (c.split_at.ensures.front ∙ ap (λ n. take n c.pieces.rest.now) m) (c.split_at.ensures.back ∙ ap (λ n. drop n c.pieces.rest.now) m) wrote;
      grown = grown_twice _ _ _ i.grown (_, wrote);
    }

pub returns-clause-ok : goal.returns-clause-ok
returns-clause-ok c = done _ _ _ (none_left 65516 _ _ _ _ c.pieces.invariant.left (no_bytes _ c.pieces-test.ensures))
