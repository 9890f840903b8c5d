use Rattle.std.proofs.Common.{rules, ◌≡◌, ◌∙◌, ap, false}
use Rattle.std.specs.Prelude.{is_none}
use Rattle.vc_cli.proofs.PrintLemmas.{on_err}
use Rattle.vc_working.proofs.StatusLemmas.{cut_told, status_whole}
use Rattle.vc_working.specs.Begun.{begun_in}
use Rattle.vc_working.proofs.work.show_status.Goals as goal

pub returns-in_err-begun-clause-front : goal.returns-in_err-begun-clause-front
returns-in_err-begun-clause-front g c = λ work_honest honest.
    on_err c.from_residual-in_err-begun.result
    (status_whole (g.F.Files.content c.args.files.now) (g.W.WorkTree.content c.args.work.now) c.args.own.now (g.O.Write.contents c.args.output.now) (g.O.Write.contents c.print_status.new.output)
    (c.in_ok-print_status.ensures.printed work_honest honest))

pub returns-in_err-tell-clause-front : goal.returns-in_err-tell-clause-front
returns-in_err-tell-clause-front g c = λ work_honest honest.
    on_err c.from_residual-in_err-tell.result
    (status_whole (g.F.Files.content c.args.files.now) (g.W.WorkTree.content c.args.work.now) c.args.own.now (g.O.Write.contents c.args.output.now) (g.O.Write.contents c.print_status.new.output)
    (c.in_ok-print_status.ensures.printed work_honest honest))

pub returns-clause-told : goal.returns-clause-told
returns-clause-told g c = λ honest.
    let content = g.F.Files.content in
    let contents = g.E.Write.contents in
    let some : is_none c.in_ok-begun.field-0 ≡ false = search rules in
    cut_told c.args.faults.now.is_terminal (contents c.args.faults.now.stream) (contents c.tell.new.self.stream) c.in_ok-begun.field-0 (begun_in (content c.args.files.now)) some
    (c.in_ok-begun.ensures.found honest ∙ ap begun_in c.in_ok-print_status.ensures.files)
    c.in_ok-tell.ensures.told
