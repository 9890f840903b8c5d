use denote.Param.{param}
use denote.Param.Send.{sendable}
use Rattle.std.proofs.Crossing.{crosses}
use Rattle.vc_desk.proofs.Crossing.{watched_send}
use Rattle.vc_desk.proofs.pool.serve_at.Goals as goal

pub serve_in_scope-ports-requires-send-N : goal.serve_in_scope-ports-requires-send-N
serve_in_scope-ports-requires-send-N g c κs within =
    let b = c.type_bounds in
    let node = watched_send (param 1 g.row.F) g.F.Files b.send-F (param 0 g.row.J) g.J.Origin b.send-J in search (sendable, crosses) depth 20 parts 0
