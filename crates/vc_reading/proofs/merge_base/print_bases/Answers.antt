use Rattle.std.proofs.Common.{rules, ◌≡◌, ◌∙◌, ap, inr, refl, sym, subst}
use Rattle.std.specs.Prelude.{List, ℕ, length, ◌==◌, not, ◌↔◌, Contains}
use Rattle.std.specs.List.{flat_map}
use Rattle.std.specs.Io.KnownBytes.{Appends}
use Rattle.vc_history.proofs.GenerationLemmas.{agrees_where_none}
use Rattle.vc_object_map.specs.History.{IsBestCommonAncestor}
use Rattle.vc_history.specs.Numbering.{numbers}
use Rattle.vc_files.specs.FileMap.{FileMap}
use Rattle.vc_object.specs.ObjectMap.{parents_in}
use Rattle.vc_object.specs.declared.id.ObjectId.{ObjectId}
use Rattle.vc_object_map.specs.Store.{objects}
use Rattle.vc_cli.proofs.PrintLemmas.{on_err}
use Rattle.vc_cli.specs.Printed.{AppendsFront, id_line}
use Rattle.vc_reading.proofs.merge_base.print_bases.Goals as goal

pub returns-clause-printed : goal.returns-clause-printed
returns-clause-printed g c = λ honest.
    let bases = c.in-Ok.bases.items in
    let contents = g.O.Write.contents in
    let lines : c.in_ok-lines.lines.items ≡ flat_map id_line bases = c.in_ok-lines.ensures ∙ ap (flat_map id_line) c.deref.ensures.value in
    let len = sym c.deref.ensures.len ∙ ap length c.deref.ensures.value in
    record {
      bases = bases;
      best = subst (λ (m : FileMap). (id : ObjectId) → Contains bases id ↔ IsBestCommonAncestor (parents_in (objects m)) c.args.first.now c.args.second.now id) (ap g.F.Files.content c.new-commits.ensures.files) (c.in-Ok.ensures.best honest (agrees_where_none _ (numbers c.new-generations.result) c.new-generations.ensures.none));
      sorted = c.in-Ok.ensures.sorted;
      text = subst (λ (text : List ℕ). Appends (contents c.args.output.now) (contents c.print_text.new.output) text) (c.deref-2.ensures.value ∙ lines) c.in_ok-print_text.ensures.text;
      told = ap not (c.is_empty.ensures ∙ ap (λ (n : ℕ). n == 0) len);
    }

pub returns-in_err-print_text-clause-front : goal.returns-in_err-print_text-clause-front
returns-in_err-print_text-clause-front g c = λ honest.
    let bases = c.in-Ok.bases.items in
    let contents = g.O.Write.contents in
    let lines : c.in_ok-lines.lines.items ≡ flat_map id_line bases = c.in_ok-lines.ensures ∙ ap (flat_map id_line) c.deref.ensures.value in
    on_err _ (inr (
      not (length bases == 0),
      record {
        bases = bases;
        best = subst (λ (m : FileMap). (id : ObjectId) → Contains bases id ↔ IsBestCommonAncestor (parents_in (objects m)) c.args.first.now c.args.second.now id) (ap g.F.Files.content c.new-commits.ensures.files) (c.in-Ok.ensures.best honest (agrees_where_none _ (numbers c.new-generations.result) c.new-generations.ensures.none));
        sorted = c.in-Ok.ensures.sorted;
        text = subst (λ (text : List ℕ). AppendsFront (contents c.args.output.now) (contents c.print_text.new.output) text) (c.deref-2.ensures.value ∙ lines) c.in_err-print_text.ensures.front;
        told = refl;
      },
    ))

pub returns-in-Err-clause-refused : goal.returns-in-Err-clause-refused
returns-in-Err-clause-refused g c = λ honest.
    let told = c.in-Err.ensures.refused honest (agrees_where_none _ (numbers c.new-generations.result) c.new-generations.ensures.none) in
    search (rules, told)
