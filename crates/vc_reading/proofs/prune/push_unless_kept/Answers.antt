use Rattle.std.proofs.Common.{rules, ◌≡◌, ◌∙◌, ◌++◌, Some, None, List, ℕ, ap, sym, Contains}
use Rattle.vc_object.specs.Decoding.{stored_object}
use Rattle.vc_object_map.proofs.FaultLemmas.{IsMet-from_refused}
use Rattle.vc_object_map.specs.Store.{IsDamaged, objects}
use Rattle.vc_pruning.proofs.RemovingLemmas.{not_among}
use Rattle.vc_reading.proofs.GoingLemmas.{adds_none, kept_line, other_line}
use Rattle.vc_reading.specs.Pruned.{going_line, line_of, object_line}
use Rattle.vc_reading.proofs.prune.push_unless_kept.Goals as goal

pub returns-then-is_among-clause-line : goal.returns-then-is_among-clause-line
returns-then-is_among-clause-line g c = λ honest.
    let content = g.F.Files.content c.args.files.now in
    adds_none c.args.lines.now.items (going_line content c.args.kept.now c.args.id.now) (kept_line content c.args.kept.now c.args.id.now (c.is_among.ensures.0 c.if-is_among.true))

pub returns-in_err-object-clause-refused : goal.returns-in_err-object-clause-refused
returns-in_err-object-clause-refused g c = λ honest.
    let content = g.F.Files.content c.args.files.now in
    let kept = c.args.kept.now in
    let id = c.args.id.now in
    let free = not_among kept id c.is_among.ensures c.if-is_among.false in
    let told = IsMet-from_refused (λ q. ¬ Contains kept q) (IsDamaged content) g.F.Files.honest id c.in_err-object.field-0.0 c.in_err-object.ensures.finds.refused free honest in
    search (rules, told)

pub returns-in_default-clause-line : goal.returns-in_default-clause-line
returns-in_default-clause-line g c = λ honest.
    let content = g.F.Files.content c.args.files.now in
    let kept = c.args.kept.now in
    let id = c.args.id.now in
    let free = not_among kept id c.is_among.ensures c.if-is_among.false in
    let none : objects content id ≡ None = search (rules, c.in_ok-object.ensures.finds.found honest, c.in_default.is) in
    adds_none c.args.lines.now.items (going_line content kept id) (other_line content kept id free ∙ ap (line_of id) none)

pub returns-clause-line : goal.returns-clause-line
returns-clause-line g c = λ honest.
    let content = g.F.Files.content c.args.files.now in
    let kept = c.args.kept.now in
    let id = c.args.id.now in
    let free = not_among kept id c.is_among.ensures c.if-is_among.false in
    let kind = c.in-Some.object.kind in
    let found : objects content id ≡ Some (stored_object kind c.in-Some.object.body.items) = search (rules, c.in_ok-object.ensures.finds.found honest, c.in-Some.is) in
    let line : going_line content kept id ≡ object_line id kind = other_line content kept id free ∙ ap (line_of id) found in
    c.in_ok-push_line.ensures ∙ ap (λ (l : List ℕ). c.args.lines.now.items ++ l) (sym line)
