use Rattle.std.proofs.Common.{◌≡◌, ◌∙◌, ap, subst}
use Rattle.std.specs.Prelude.{List, ℕ}
use Rattle.std.specs.List.{flat_map}
use Rattle.std.specs.Io.KnownBytes.{Appends}
use Rattle.vc_cli.specs.Printed.{id_line}
use Rattle.vc_reading.proofs.rev_list.print_selected.Goals as goal

pub returns-clause-printed : goal.returns-clause-printed
returns-clause-printed g c = λ honest.
    let ids = c.in-Ok.ids.items in
    let contents = g.O.Write.contents in
    let lines : c.in_ok-lines.lines.items ≡ flat_map id_line ids = c.in_ok-lines.ensures ∙ ap (flat_map id_line) c.deref.ensures.value in
    record {
      ids = ids;
      selected = c.in-Ok.ensures.selected honest;
      sorted = c.in-Ok.ensures.sorted;
      text = subst (λ (text : List ℕ). Appends (contents c.args.output.now) (contents c.print_text.new.output) text) (c.deref-2.ensures.value ∙ lines) c.in_ok-print_text.ensures.text;
    }
