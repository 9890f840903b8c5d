use Rattle.std.proofs.Common.{false}
use denote.Exit.{unseen}
use denote.Param.Send.{Quiet-if}
use mir.Syntax.{of_param}
use Rattle.vc_desk.proofs.pool.serve_in_scope.Goals as goal

-- What the types of the node, of the ports and of their connections may leave to another thread, they may leave at the closure's lifetimes too.
pub scoped-requires : goal.scoped-requires
scoped-requires g c =
    let b = c.type_bounds in
    let n = b.send-N.leaving (λ x. false) in
    let p = b.send-P.leaving (λ x. false) in
    let r = b.send-R.leaving (λ x. false) in
    let w = b.send-W.leaving (λ x. false) in
    record {
      at = λ scope. (
        (c.requires.begun.0, c.requires.begun.1, c.requires.served.0, c.requires.served.1),
        (
          record { owned = b.send-N.owned; leaving = λ k. Quiet-if (k (of_param 0)) unseen unseen n n },
          record { owned = b.send-P.owned; leaving = λ k. Quiet-if (k (of_param 1)) unseen unseen p p },
          record { owned = b.send-R.owned; leaving = λ k. Quiet-if (k (of_param 2)) unseen unseen r r },
          record { owned = b.send-W.owned; leaving = λ k. Quiet-if (k (of_param 3)) unseen unseen w w },
          record { shared = b.sync-G.shared },
          record { shared = b.sync-T.shared },
        ),
      );
    }
