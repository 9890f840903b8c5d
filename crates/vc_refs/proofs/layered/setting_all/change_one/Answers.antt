use Rattle.std.proofs.Common.{rules, ◌≡◌, List, ℕ, None, Some, sym, ap, ◌∙◌, subst}
use Rattle.std.specs.FinMap.{insert}
use Rattle.vc_refs.specs.RefMap.{IsInRefs}
use Rattle.vc_refs.proofs.ChangesLemmas.{change_removed, change_set}
use Rattle.vc_refs.proofs.layered.setting_all.change_one.Goals as goal

pub returns-in_default : goal.returns-in_default
returns-in_default c =
    let none : c.args.change.now.new ≡ None = search rules in
    change_removed c.args.refs.now _ c.args.change.now none c.remove.ensures

pub insert-requires : goal.insert-requires
insert-requires c =
    let same : c.in_ok-name.name ≡ c.args.change.now.name = search rules in
    subst IsInRefs (sym same) c.requires

pub returns : goal.returns
returns c =
    let some : c.args.change.now.new ≡ Some c.in-Some.id = search rules in
    let same : c.in_ok-name.name ≡ c.args.change.now.name = search rules in
    let made : c.insert.new.self ≡ insert c.args.refs.now c.args.change.now.name c.in-Some.id = c.in_ok-insert.ensures.ok ∙ ap (λ (n : List ℕ). insert c.args.refs.now n c.in-Some.id) same in
    change_set c.args.refs.now _ c.args.change.now c.in-Some.id some made
