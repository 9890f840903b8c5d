use Rattle.std.proofs.Common.{rules, ◌≡◌, ◌∙◌, inr, subst, Contains}
use Rattle.std.specs.Prelude.{List, ℕ}
use Rattle.std.specs.List.{flat_map}
use Rattle.std.specs.Io.KnownBytes.{Appends}
use Rattle.vc_cli.proofs.PrintLemmas.{on_err}
use Rattle.vc_cli.specs.Printed.{AppendsFront}
use Rattle.vc_files.specs.FileMap.{FileMap}
use Rattle.vc_local.specs.declared.fault.NodeFault.TheVariants.{Store}
use Rattle.vc_object.specs.declared.id.ObjectId.{ObjectId}
use Rattle.vc_object_map.specs.Store.{stored_names}
use Rattle.vc_pruning.proofs.PruningLemmas.{blames_met, blames_needed}
use Rattle.vc_pruning.specs.Roots.{BlamesPrune}
use Rattle.vc_store.proofs.NamesLemmas.{stored_names-sorted}
use Rattle.vc_reading.specs.Pruned.{going_line}
use Rattle.vc_reading.proofs.prune.print_going.Goals as goal

pub returns-in_err-kept-clause-refused : goal.returns-in_err-kept-clause-refused
returns-in_err-kept-clause-refused g c = λ honest.
    let old = g.F.Files.content c.args.files.now in
    let told : BlamesPrune old c.in_err-kept.field-0.0 = blames_needed old c.in_err-kept.field-0.0 (c.in_err-kept.ensures.refused honest) in
    search (rules, told)

pub returns-in-Err-clause-refused : goal.returns-in-Err-clause-refused
returns-in-Err-clause-refused g c = λ honest.
    let content = g.F.Files.content in
    let e = c.in-Err.fault in
    subst (λ (m : FileMap). BlamesPrune m (Store e)) c.in_ok-kept.ensures.same
    (blames_met (content c.needed.new.files) (λ q. ¬ Contains c.deref.result.now q) e (c.in-Err.ensures.refused honest))

pub returns-clause-printed : goal.returns-clause-printed
returns-clause-printed g c = λ honest.
    let old = g.F.Files.content c.args.files.now in
    let mid = g.F.Files.content c.needed.new.files in
    let kept = c.in_ok-kept.kept.items in
    let text = c.in-Ok.lines.items in
    let contents = g.O.Write.contents in
    let own : text ≡ flat_map (going_line mid kept) (stored_names mid) =
    subst (λ (ids : List ObjectId). text ≡ flat_map (going_line mid ids) (stored_names mid)) c.deref.ensures.value (c.in-Ok.ensures.lines honest) in
    let lines : text ≡ flat_map (going_line old kept) (stored_names old) =
    subst (λ (m : FileMap). text ≡ flat_map (going_line m kept) (stored_names m)) c.in_ok-kept.ensures.same own in
    record {
      kept = kept;
      needed = c.in_ok-kept.ensures.needed honest;
      sorted = stored_names-sorted old;
      text = subst (λ (told : List ℕ). Appends (contents c.args.output.now) (contents c.print_text.new.output) told) (c.deref-2.ensures.value ∙ lines) c.in_ok-print_text.ensures.text;
    }

pub returns-in_err-print_text-clause-front : goal.returns-in_err-print_text-clause-front
returns-in_err-print_text-clause-front g c = λ honest.
    let old = g.F.Files.content c.args.files.now in
    let mid = g.F.Files.content c.needed.new.files in
    let kept = c.in_ok-kept.kept.items in
    let text = c.in-Ok.lines.items in
    let contents = g.O.Write.contents in
    let own : text ≡ flat_map (going_line mid kept) (stored_names mid) =
    subst (λ (ids : List ObjectId). text ≡ flat_map (going_line mid ids) (stored_names mid)) c.deref.ensures.value (c.in-Ok.ensures.lines honest) in
    let lines : text ≡ flat_map (going_line old kept) (stored_names old) =
    subst (λ (m : FileMap). text ≡ flat_map (going_line m kept) (stored_names m)) c.in_ok-kept.ensures.same own in
    on_err _ (inr (record {
      kept = kept;
      needed = c.in_ok-kept.ensures.needed honest;
      sorted = stored_names-sorted old;
      text = subst (λ (told : List ℕ). AppendsFront (contents c.args.output.now) (contents c.print_text.new.output) told) (c.deref-2.ensures.value ∙ lines) c.in_err-print_text.ensures.front;
    }))
