use denote.Param.{param}
use denote.Param.Send.{IsSend, IsSync, sendable}
use Rattle.std.proofs.Crossing.{crosses}
use Rattle.vc_desk.proofs.Crossing.{desk_sync}
use Rattle.vc_desk.proofs.serve.start.Goals as goal

pub spawn_with-requires-send-F : goal.spawn_with-requires-send-F
spawn_with-requires-send-F g c κs within =
    let b = c.type_bounds in
    let desk = desk_sync (param 1 g.row.F) g.F.Files b.send-F (param 2 g.row.J) g.J.Origin b.send-J in
    let reader : IsSend (param 3 g.row.R) = b.send-R in
    let writer : IsSend (param 4 g.row.W) = b.send-W in
    let gate : IsSync (param 5 g.row.G) = b.sync-G in
    let rt : IsSync (param 6 g.row.T) = b.sync-T in search (sendable, crosses) depth 20 parts 0
