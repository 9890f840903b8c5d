use Rattle.std.proofs.Common.{false}
use denote.Exit.{unseen}
use denote.Param.Send.{Quiet-if}
use mir.Syntax.{of_param}
use Rattle.vc_desk.proofs.serve.serve_in_scope.Goals as goal

-- What the types of the connections and of the node may leave to another thread, they may leave at the closure's lifetimes too.
pub scoped-requires : goal.scoped-requires
scoped-requires g c =
    let b = c.type_bounds in
    let f = b.send-F.leaving (λ x. false) in
    let j = b.send-J.leaving (λ x. false) in
    let r = b.send-R.leaving (λ x. false) in
    let w = b.send-W.leaving (λ x. false) in
    record {
      at = λ scope. (
        (c.requires.begun.0, c.requires.begun.1, c.requires.begun.2, c.requires.ends.0, c.requires.ends.1),
        (
          record { owned = b.send-F.owned; leaving = λ k. Quiet-if (k (of_param 0)) unseen unseen f f },
          record { owned = b.send-J.owned; leaving = λ k. Quiet-if (k (of_param 1)) unseen unseen j j },
          record { owned = b.send-R.owned; leaving = λ k. Quiet-if (k (of_param 2)) unseen unseen r r },
          record { owned = b.send-W.owned; leaving = λ k. Quiet-if (k (of_param 3)) unseen unseen w w },
          record { shared = b.sync-J.shared },
          record { shared = b.sync-G.shared },
          record { shared = b.sync-T.shared },
        ),
      );
    }
