use Rattle.std.proofs.Common.{◌≡◌, ◌++◌, ◌∙◌, Some, ap, arith, get_or, rules, slice_get, sym}
use Rattle.std.proofs.lemmas.Option.{slice_get-get_or}
use Rattle.vc_push.specs.PushView.{command_of}
use Rattle.vc_session.proofs.NeedingLemmas.{unrefused_next}
use Rattle.vc_session.specs.Needing.{unrefused_id}
use Rattle.vc_push_rules.specs.declared.stage.Verdict.TheVariants.{Passing}
use Rattle.vc_session.proofs.session.needing.unrefused_ids.Goals as goal

pub loop-i-preserved : goal.loop-i-preserved
loop-i-preserved c =
    let commands = c.args.commands.now in
    let verdicts = c.args.verdicts.now in
    let i = c.loop-i.i in
    let command = c.index-commands-i.result in
    let verdict = get_or verdicts i Passing in
    let command_is : slice_get commands i ≡ Some command = slice_get-get_or commands i command c.loop-i-test.true ∙ ap Some (sym c.index-commands-i.is) in
    let verdict_is : slice_get verdicts i ≡ Some verdict = slice_get-get_or verdicts i Passing (omega (arith, c.requires.paired, c.loop-i-test.true)) in
    let added : c.push_unrefused.new.ids.items ≡ c.loop-i.ids.items ++ unrefused_id (command_of command) verdict = search rules in
    added ∙ ap (λ front. front ++ unrefused_id (command_of command) verdict) c.loop-i.invariant
    ∙ sym (unrefused_next commands verdicts i command verdict c.requires.paired command_is verdict_is)
