use Rattle.std.proofs.Common.{arith, rules, ◌≡◌, true, List, sym, ap, ◌∙◌}
use Rattle.std.specs.List.{list_any}
use Rattle.std.proofs.lemmas.List.{take_all}
use Rattle.std.proofs.lemmas.List.Folds.{list_any_at}
use Rattle.vc_push.specs.declared.command.Command.{Command}
use Rattle.vc_session.proofs.TurnLemmas.{names_it}
use Rattle.vc_session.proofs.updating_all.is_named.Goals as goal

pub returns-then-eq : goal.returns-then-eq
returns-then-eq c =
    let command = c.command-item.result in
    let here : names_it c.args.name.now command ≡ true = search rules in
    sym (list_any_at (names_it c.args.name.now) c.args.earlier.now c.loop-command.command-index command c.loop-command-test.true (ap (names_it c.args.name.now) (sym c.command-item.is) ∙ here))

pub returns : goal.returns
returns c = sym c.loop-command.invariant ∙ ap (λ (cs : List Command). list_any (names_it c.args.name.now) cs) (take_all c.loop-command.command-index c.args.earlier.now (omega (arith, c.loop-command-test.false)))
