use Rattle.std.proofs.Common.{arith, ◌≡◌, ◌+◌, ◌<◌, ◌≤◌, ◌++◌, [], ◌∷◌, get_or, length, map, take, ap, sym, ◌∙◌}
use Rattle.std.proofs.Math.ListN.{get_or-map}
use Rattle.std.proofs.lemmas.List.{take_all, take_more, map-append, length-map}
use Rattle.vc_push.specs.PushView.{command_of, commands_of}
use Rattle.vc_push.specs.ReportView.{told_of}
use Rattle.vc_push_rules.specs.declared.stage.Verdict.TheVariants.{Passing}
use Rattle.vc_session.proofs.ReportLemmas.{settled_at, tells-push}
use Rattle.vc_session.proofs.reporting.report.Goals as goal

pub loop-i-preserved : goal.loop-i-preserved
loop-i-preserved c = record {
  unpack = c.loop-i.invariant.unpack;
  told = λ none.
      let i = c.loop-i.i in
      let commands = commands_of c.args.commands.now in
      let verdicts = c.args.verdicts.now in
      let command = c.index-commands-i.result in
      let verdict = get_or verdicts i Passing in
      let within : i < length verdicts = omega (arith, c.requires.paired, c.loop-i-test.true) in
      let here : i < length commands = omega (arith, length-map c.args.commands.now command_of, c.loop-i-test.true) in
      let is : get_or commands i (command_of command) ≡ command_of command = get_or-map command_of c.args.commands.now i command ∙ ap command_of (sym c.index-commands-i.is) in
      let some : take (i + 1) commands ≡ take i commands ++ command_of command ∷ [] = take_more commands i (command_of command) here ∙ ap (λ x. take i commands ++ x ∷ []) is in
      let judged : take (i + 1) verdicts ≡ take i verdicts ++ verdict ∷ [] = take_more verdicts i Passing within in
      let told : map told_of c.push.new.self.items ≡ map told_of c.loop-i.all.items ++ told_of c.in_ok-one.one ∷ [] = ap (map told_of) c.in_ok-push.ensures.items ∙ map-append told_of c.loop-i.all.items (c.in_ok-one.one ∷ []) in
      let one = c.in_ok-one.ensures (settled_at verdicts i Passing within none) in
      let all = tells-push (take i commands) (take i verdicts) (map told_of c.loop-i.all.items) (command_of command) verdict (told_of c.in_ok-one.one) (c.loop-i.invariant.told none) one in
      rw (some, judged, told) all;
}

pub returns-clause-told : goal.returns-clause-told
returns-clause-told c = λ none.
    let i = c.loop-i.i in
    let commands = commands_of c.args.commands.now in
    let verdicts = c.args.verdicts.now in
    let past : length commands ≤ i = omega (arith, length-map c.args.commands.now command_of, c.loop-i-test.false) in
    let over : length verdicts ≤ i = omega (arith, c.requires.paired, c.loop-i-test.false) in
    rw (take_all i commands past, take_all i verdicts over) at (c.loop-i.invariant.told none)
