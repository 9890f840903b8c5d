use Rattle.std.proofs.Common.{Err, inl}
use Rattle.vc_files.proofs.WearLemmas.{writes_both, writes_told}
use Rattle.vc_message.proofs.SourceLaws.{tells_none}
use Rattle.vc_server.proofs.TurnLemmas.{device_from, device_to, lost_from}
use Rattle.vc_serving.proofs.TurnLemmas.{opened_turn, unopened_turn}
use Rattle.vc_shared.proofs.LossLemmas.{node_is_no_loss}
use Rattle.vc_shared.specs.declared.accept_fault.AcceptFault.TheVariants.{Node}
use Rattle.vc_shared.specs.declared.fault.SharedFault.TheVariants.{Node as Unopened}
use Rattle.vc_serving.proofs.turn.serve_once.Goals as goal

pub returns-in-Err-clause-turn : goal.returns-in-Err-clause-turn
returns-in-Err-clause-turn g c = unopened_turn _ _ _ _ _ _ _ _ _ _ _ c.tell_unopened.ensures c.in-Err.ensures.refused c.in-Err.ensures.err

pub returns-in-Err-clause-failures : goal.returns-in-Err-clause-failures
returns-in-Err-clause-failures g c = inl (tells_none (λ is. node_is_no_loss {e = Unopened c.in-Err.fault} (lost_from g.W.Write.contents c.args.writer.now c.tell_unopened.new.writer (Err (Node (Unopened c.in-Err.fault))) c.tell_unopened.result c.tell_unopened.ensures is)))

pub returns-in-Err-clause-wear : goal.returns-in-Err-clause-wear
returns-in-Err-clause-wear g c =
    let writer = c.args.writer.now in
    let after = c.tell_unopened.new.writer in
    let answered = Err (Node (Unopened c.in-Err.fault)) in
    writes_told c.in-Err.ensures.wear_err (device_to g.W.Write.contents writer after answered c.tell_unopened.result c.tell_unopened.ensures) (device_from g.W.Write.contents writer after answered c.tell_unopened.result c.tell_unopened.ensures)

pub returns-clause-turn : goal.returns-clause-turn
returns-clause-turn g c =
    rw c.close.ensures (opened_turn _ _ _ _ _ _ _ _ _ _ _ _ c.in-Ok.ensures.up c.in-Ok.ensures.fresh.free c.in-Ok.ensures.opens c.in-Ok.ensures.clean c.serve_message-served.ensures.turn c.serve_message-served.ensures.clean)

pub returns-clause-failures : goal.returns-clause-failures
returns-clause-failures g c = c.serve_message-served.ensures.lost

pub returns-clause-wear : goal.returns-clause-wear
returns-clause-wear g c = rw c.close.ensures (writes_both c.in-Ok.ensures.wear (λ never. never) c.serve_message-served.ensures.wear)
