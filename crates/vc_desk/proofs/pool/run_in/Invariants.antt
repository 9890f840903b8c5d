use Rattle.std.specs.Prelude.{◌+◌, ◌≡◌, ◌≤◌, List, ◌++◌, vec_capacity, vec_len}
use Rattle.std.specs.List.{AllZip}
use Rattle.std.specs.Vec.Iter.{into_iter_items, into_iter_len}
use Rattle.vc_desk.specs.declared.pool.Begun.{Begun}
use Rattle.vc_desk.specs.Pool.{IsPortBegun, IsPortServed}
use Rattle.vc_desk.proofs.pool.run_in.Given as goal

-- what is begun so far, and what is left to begin, are all ports
abbrev pub invariant-starts : goal.invariant-starts
invariant-starts g l =
    (vec_len l.begun + into_iter_len l.port-iterator ≡ vec_len l.fn.ports)
    × (vec_len l.fn.ports ≤ vec_capacity l.begun)
    × ((bs : List (Begun _ _)) → AllZip (IsPortBegun g.N.Desk.made l.limit g.R.Source.can_fail g.R.Source.remaining g.W.Write.contents g.P.Port.came g.P.Port.told g.P.Port.closed) (into_iter_items l.port-iterator) bs
    → AllZip (IsPortBegun g.N.Desk.made l.limit g.R.Source.can_fail g.R.Source.remaining g.W.Write.contents g.P.Port.came g.P.Port.told g.P.Port.closed) l.fn.ports.items (l.begun.items ++ bs))

-- what is served so far, and what is left to join, are all ports
abbrev pub invariant-joins : goal.invariant-joins
invariant-joins g l =
    (left : List _)
    × (vec_len l.served + into_iter_len l.worker-iterator ≡ vec_len l.fn.ports)
    × (vec_len l.fn.ports ≤ vec_capacity l.served)
    × AllZip (IsPortBegun g.N.Desk.made l.limit g.R.Source.can_fail g.R.Source.remaining g.W.Write.contents g.P.Port.came g.P.Port.told g.P.Port.closed) left (into_iter_items l.worker-iterator)
    × ((qs : List _) → AllZip (IsPortServed g.N.Desk.made l.limit g.R.Source.can_fail g.R.Source.remaining g.W.Write.contents g.P.Port.came g.P.Port.told g.P.Port.closed) left qs
    → AllZip (IsPortServed g.N.Desk.made l.limit g.R.Source.can_fail g.R.Source.remaining g.W.Write.contents g.P.Port.came g.P.Port.told g.P.Port.closed) l.fn.ports.items (l.served.items ++ qs))
