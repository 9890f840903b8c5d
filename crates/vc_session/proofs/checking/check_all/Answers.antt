use Rattle.std.proofs.Common.{arith, rules, ◌≡◌, ◌+◌, ◌++◌, [], ◌∷◌, List, Some, Err, slice_get, get_or, take, length, length-append, sym, ap, ◌∙◌, subst}
use Rattle.std.proofs.lemmas.List.{take_all}
use Rattle.std.proofs.lemmas.Option.{slice_get-get_or}
use Rattle.vc_push.specs.PushView.{commands_of}
use Rattle.vc_session.proofs.CheckingLemmas.{checks_more, legal_more, passes_may}
use Rattle.vc_push_rules.specs.Session.{MayBeSetWhere}
use Rattle.vc_push_rules.specs.Steps.{ChecksAll}
use Rattle.vc_push_rules.specs.Verdict.{MayBeSet}
use Rattle.vc_push_rules.specs.declared.stage.Verdict.{Verdict}
use Rattle.vc_push_rules.specs.declared.stage.Verdict.TheVariants.{Passing}
use Rattle.vc_session.proofs.checking.check_all.Goals as goal

pub loop-i-preserved : goal.loop-i-preserved
loop-i-preserved g c =
    let objects = g.C.Objects.objects (g.C.Objects.state_of c.args.commits.now) in
    let commands = c.args.commands.now in
    let verdicts = c.args.verdicts.now in
    let i = c.loop-i.i in
    let before = c.loop-i.invariant in
    let after = c.loop-i.after.items in
    let found = c.in_ok-verdict.verdict in
    let command = c.index-commands-i.result in
    let verdict = get_or verdicts i Passing in
    let command_is : slice_get commands i ≡ Some command = slice_get-get_or commands i command c.loop-i-test.true ∙ ap Some (sym c.index-commands-i.is) in
    let verdict_is : slice_get verdicts i ≡ Some verdict = slice_get-get_or verdicts i Passing (omega (arith, c.requires.paired, c.loop-i-test.true)) in
    let pushed : c.push.new.self.items ≡ after ++ found ∷ [] = search rules in
    let may = passes_may (MayBeSet command.name.items) verdict found c.in_ok-verdict.ensures.legal c.in_ok-verdict.ensures.settled in
    record {
      kept = c.in_ok-verdict.ensures.kept ∙ before.kept;
      wear = search rules;
      known = λ honest whole. (rw before.kept at (c.in_ok-verdict.ensures.known honest)) (before.known honest whole);
      checks = λ honest agrees whole.
          let one = (rw before.kept at (c.in_ok-verdict.ensures.checks honest)) agrees (before.known honest whole) in
          subst (λ (ws : List Verdict). ChecksAll objects (commands_of (take (i + 1) commands)) (take (i + 1) verdicts) ws) (sym pushed)
          (checks_more commands verdicts after i found objects command verdict command_is verdict_is (before.checks honest agrees whole) one);
      legal =
          subst (λ (ws : List Verdict). MayBeSetWhere (commands_of (take (i + 1) commands)) ws) (sym pushed)
          (legal_more commands verdicts after i found command command_is before.count before.legal may);
      count = omega (arith, ap length pushed, length-append after (found ∷ []), before.count);
    }

pub returns-clause-checks : goal.returns-clause-checks
returns-clause-checks g c honest agrees whole =
    let objects = g.C.Objects.objects (g.C.Objects.state_of c.args.commits.now) in
    let all_commands = take_all c.loop-i.i c.args.commands.now c.loop-i-test.false in
    let all_verdicts = take_all c.loop-i.i c.args.verdicts.now (omega (arith, c.requires.paired, c.loop-i-test.false)) in
    rw (all_commands, all_verdicts) at (c.loop-i.invariant.checks honest agrees whole)

pub returns-clause-legal : goal.returns-clause-legal
returns-clause-legal g c =
    let all_commands = take_all c.loop-i.i c.args.commands.now c.loop-i-test.false in
    rw all_commands at c.loop-i.invariant.legal

pub returns-in_err-verdict-clause-refused : goal.returns-in_err-verdict-clause-refused
returns-in_err-verdict-clause-refused g c =
    let e = c.in_err-verdict.field-0.0 in
    let is : c.from_residual.result ≡ Err e = search rules in
    let told = rw c.loop-i.invariant.kept at c.in_err-verdict.ensures.refused in
    rw is told
