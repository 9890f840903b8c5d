use Rattle.std.proofs.Common.{◌≡◌, ◌-◌, List, ◌++◌, Some, length, sym, ap, ◌∙◌, nat_eq, true, false}
use Rattle.std.specs.Prelude.{slice_get}
use Rattle.std.specs.List.{starts_with}
use Rattle.vc_index.specs.FolderTrees.{Fits}
use Rattle.vc_index.specs.WrittenTrees.{IsOfWrite}
use Rattle.vc_index.specs.declared.trees.Part.{Part}
use Rattle.vc_index.proofs.ClosingLemmas.{inside_last, left_of, handed_on}
use Rattle.vc_index.proofs.FittingLemmas.{joins_none, joins_then}
use Rattle.vc_index.proofs.trees.join_folders.Goals as goal
use Rattle.vc_lemmas.proofs.Lists.{all_append}

pub returns-then-starts_with-clause-inside : goal.returns-then-starts_with-clause-inside
returns-then-starts_with-clause-inside c =
    let at : slice_get c.loop-last.parts.items (length c.loop-last.parts.items - 1) ≡ Some c.in-Some.last.now = ap (λ (ps : List Part). slice_get ps (length ps - 1)) (sym c.deref.ensures.value) ∙ sym c.in-Some.ensures.value in
    let begun : starts_with nat_eq c.args.next.now c.in-Some.last.now.folder.now ≡ true = sym c.starts_with.ensures.value ∙ c.if-starts_with.true in
    inside_last c.loop-last.parts.items c.in-Some.last.now c.args.next.now at begun

pub loop-last-init : goal.loop-last-init
loop-last-init c = λ m trees rest named n same b. joins_none m rest trees c.args.parts.now.items named same b

pub loop-last-preserved : goal.loop-last-preserved
loop-last-preserved c = λ m trees rest named n same b.
    let not_in : starts_with nat_eq c.args.next.now c.in-Some.last.now.folder.now ≡ false = sym c.starts_with.ensures.value ∙ c.if-starts_with.false in
    let first = c.loop-last.invariant m trees rest named n same b in
    joins_then m rest trees c.loop-last.parts.items c.join_folder.new.parts.items first
    (c.in_ok-join_folder.ensures.joins m (trees ++ first.closes.more) rest first.named (left_of c.args.next.now c.in-Some.last.now.folder.now rest n not_in) first.same first.closes.building)

pub returns-in_err-join_folder-clause-refused : goal.returns-in_err-join_folder-clause-refused
returns-in_err-join_folder-clause-refused c = λ m trees rest named n fits same b.
    let first = c.loop-last.invariant m trees rest named n same b in
    let more = first.closes.more in
    handed_on (IsOfWrite m (λ _. ⊥)) c.in_err-join_folder.field-0.0 c.from_residual.result c.from_residual.ensures.1
    (c.in_err-join_folder.ensures.refused m (trees ++ more) rest first.named (left_of c.args.next.now c.in-Some.last.now.folder.now rest n (sym c.starts_with.ensures.value ∙ c.if-starts_with.false)) (all_append Fits trees more fits first.closes.fits) first.same first.closes.building)
