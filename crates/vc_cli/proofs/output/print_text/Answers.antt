use Rattle.vc_cli.proofs.PrintLemmas.{front_kept, on_err}
use Rattle.vc_cli.proofs.output.print_text.Goals as goal

pub returns-in_err-flush-clause-front : goal.returns-in_err-flush-clause-front
returns-in_err-flush-clause-front g c =
    let contents = g.O.Write.contents in
    on_err c.from_residual-in_err-flush.result (front_kept (contents c.args.output.now) (contents c.write_text.new.output) (contents c.flush.new.self) c.args.text.now c.in_ok-write_text.ensures.text c.in_err-flush.ensures.bytes)
