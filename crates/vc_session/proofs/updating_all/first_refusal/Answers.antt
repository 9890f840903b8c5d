use Rattle.std.proofs.Common.{arith, rules, ◌≡◌, true, List, None, Option, Some, get_or, slice_get, sym, ap, ◌∙◌, subst}
use Rattle.std.specs.Prelude.{option_map}
use Rattle.std.proofs.lemmas.List.{take_all}
use Rattle.std.proofs.lemmas.Option.{slice_get-get_or, slice_get-map}
use Rattle.vc_push.specs.PushView.{command_of, commands_of}
use Rattle.vc_push.specs.declared.command.Command.{Command}
use Rattle.vc_push.specs.declared.reason.Reason.{Reason}
use Rattle.vc_push_rules.proofs.TurnLemmas.{none_refused}
use Rattle.vc_push_rules.specs.Turn.{all_pass}
use Rattle.vc_session.proofs.TurnLemmas.{told_at}
use Rattle.vc_session.proofs.updating_all.first_refusal.Goals as goal

pub returns : goal.returns
returns c =
    sym (none_refused (commands_of c.args.commands.now) c.args.founds.now (subst (λ (fs : List (Option Reason)). all_pass fs ≡ true) (take_all c.loop-i.i c.args.founds.now (omega (arith, c.requires, c.loop-i-test.false))) c.loop-i.invariant))

pub returns-in-Some : goal.returns-in-Some
returns-in-Some c =
    let cs = commands_of c.args.commands.now in
    let founds = c.args.founds.now in
    let i = c.loop-i.i in
    let command = c.index-commands-i.result in
    let reason = c.in-Some.reason in
    let within = c.loop-i-test.true in
    let here : get_or founds i None ≡ Some reason = search rules in
    let found_is : slice_get founds i ≡ Some (Some reason) = slice_get-get_or founds i None (omega (arith, c.requires, within)) ∙ ap (λ (x : Option Reason). Some x) here in
    let held_is : slice_get c.args.commands.now i ≡ Some command = slice_get-get_or c.args.commands.now i command within ∙ ap (λ (x : Command). Some x) (sym c.index-commands-i.is) in
    let command_is : slice_get cs i ≡ Some (command_of command) = slice_get-map command_of c.args.commands.now i ∙ ap (option_map command_of) held_is in
    let name : c.in_ok-name.name.items ≡ command.name.items = search rules in
    told_at cs founds i (command_of command) reason c.in_ok-name.name.items name c.loop-i.invariant found_is command_is
