use Rattle.std.proofs.Common.{rules, ◌≡◌, true, false, [], ◌∷◌, sym, ap, ◌∙◌}
use Rattle.std.specs.Prelude.{string_bytes}
use Rattle.std.specs.List.{list_any}
use Rattle.vc_files.specs.Path.{is_above}
use Rattle.vc_work_tree.proofs.HeldLemmas.{any_first, any_rest, holds_any}
use Rattle.vc_work_tree.proofs.memory.has_file_below.Goals as goal

pub returns-then-is_below : goal.returns-then-is_below
returns-then-is_below c =
    let first : c.loop-path.path-iterator ≡ c.in-Some.path.now ∷ c.next.new.self = search rules in
    let below : is_above c.args.folder.now (string_bytes c.in-Some.path.now) ≡ true = search rules in
    holds_any c.args.files.now c.args.folder.now c.keys-path-items.ensures.ordered true (any_first c.args.folder.now c.in-Some.path.now _ _ first below ∙ c.loop-path.invariant.left)

pub loop-path-preserved : goal.loop-path-preserved
loop-path-preserved c =
    let first : c.loop-path.path-iterator ≡ c.in-Some.path.now ∷ c.next.new.self = search rules in
    let other : is_above c.args.folder.now (string_bytes c.in-Some.path.now) ≡ false = search rules in
    record {
      can = tt;
      finite = tt;
      left = any_rest c.args.folder.now c.in-Some.path.now _ _ first other ∙ c.loop-path.invariant.left;
    }

pub returns : goal.returns
returns c =
    let none : c.loop-path.path-iterator ≡ [] = search rules in
    holds_any c.args.files.now c.args.folder.now c.keys-path-items.ensures.ordered false (ap (list_any (λ k. is_above c.args.folder.now (string_bytes k))) (sym none) ∙ c.loop-path.invariant.left)
