use Rattle.std.proofs.Common.{◌≡◌, ◌++◌, ◌+◌, ◌∙◌, Some, ap, arith, get_or, rules, slice_get, sym, take}
use Rattle.std.proofs.lemmas.List.{append_assoc}
use Rattle.std.proofs.lemmas.Option.{slice_get-get_or}
use Rattle.vc_push.specs.PushView.{command_of, commands_of}
use Rattle.vc_session.proofs.LearningLemmas.{tips_next}
use Rattle.vc_session.specs.Learning.{tip_of, tips_of}
use Rattle.vc_push_rules.specs.declared.stage.Verdict.TheVariants.{Passing}
use Rattle.vc_session.proofs.tips.add_tips.Goals as goal

pub loop-i-preserved : goal.loop-i-preserved
loop-i-preserved c =
    let commands = c.args.commands.now in
    let verdicts = c.args.verdicts.now in
    let i = c.loop-i.i in
    let command = c.index-commands-i.result in
    let verdict = get_or verdicts i Passing in
    let command_is : slice_get commands i ≡ Some command = slice_get-get_or commands i command c.loop-i-test.true ∙ ap Some (sym c.index-commands-i.is) in
    let verdict_is : slice_get verdicts i ≡ Some verdict = slice_get-get_or verdicts i Passing (omega (arith, c.requires.paired, c.loop-i-test.true)) in
    let added : c.add_tip.new.tips.items ≡ c.loop-i.tips.items ++ tip_of (command_of command) verdict = search rules in
    added ∙ ap (λ front. front ++ tip_of (command_of command) verdict) c.loop-i.invariant
    ∙ append_assoc c.args.tips.now.items (tips_of (commands_of (take i commands)) (take i verdicts)) (tip_of (command_of command) verdict)
    ∙ ap (λ tips. c.args.tips.now.items ++ tips) (sym (tips_next commands verdicts i command verdict c.requires.paired command_is verdict_is))
