use Rattle.vc_cli.proofs.PrintLemmas.{appended_kept, appended_more}
use Rattle.vc_cli.proofs.output.write_text.Goals as goal
use Rattle.vc_cli.proofs.output.write_text.Goals.{in-Ok, in-Err+else-ne}

pub loop-preserved : goal.loop-preserved
loop-preserved g c =
    let contents = g.O.Write.contents in
    let old = contents c.args.output.now in
    let mid = contents c.loop.output in
    let new = contents c.write.new.self in
    elim c.match-write.branch [
      | in-Ok w ↦ rw w.rest-is (appended_more old mid new c.args.text.now c.loop.rest.now w.in-Ok.count c.loop.invariant w.in-Ok.ensures.bytes)
      | in-Err+else-ne w ↦ rw w.rest-is (appended_kept old mid new c.args.text.now c.loop.rest.now c.loop.invariant w.in-Err.ensures.bytes)
    ]
