use Rattle.std.specs.Prelude.{◌≡◌, ◌+◌, ◌≤◌, List, ◌++◌, vec_capacity, vec_len}
use Rattle.std.specs.Vec.Iter.{into_iter_items, into_iter_len}
use Rattle.vc_desk.specs.declared.serve.Started.{Started}
use Rattle.vc_desk.specs.declared.work.End.{End}
use Rattle.vc_desk.specs.Served.{AllBegun, AllServed}
use Rattle.vc_desk.proofs.serve.run_in.Given as goal

-- what is begun so far, and what is left to begin, are all connections
abbrev pub invariant-starts : goal.invariant-starts
invariant-starts g l =
    (l.name ≡ vec_len l.started)
    × (vec_len l.started + into_iter_len l.connection-iterator ≡ vec_len l.fn.connections)
    × (vec_len l.fn.connections ≤ vec_capacity l.started)
    × ((ss : List (Started _ _)) → AllBegun l.limit g.R.Source.can_fail g.R.Source.remaining g.W.Write.contents l.name (into_iter_items l.connection-iterator) ss
    → AllBegun l.limit g.R.Source.can_fail g.R.Source.remaining g.W.Write.contents 0 l.fn.connections.items (l.started.items ++ ss))

-- what has ended so far, and what is left to join, are all connections
abbrev pub invariant-joins : goal.invariant-joins
invariant-joins g l =
    (name : _) × (cs : List _)
    × (vec_len l.ends + into_iter_len l.worker-iterator ≡ vec_len l.fn.connections)
    × (vec_len l.fn.connections ≤ vec_capacity l.ends)
    × AllBegun l.limit g.R.Source.can_fail g.R.Source.remaining g.W.Write.contents name cs (into_iter_items l.worker-iterator)
    × ((es : List (End _)) → AllServed l.limit g.R.Source.can_fail g.R.Source.remaining g.W.Write.contents name cs es
    → AllServed l.limit g.R.Source.can_fail g.R.Source.remaining g.W.Write.contents 0 l.fn.connections.items (l.ends.items ++ es))
