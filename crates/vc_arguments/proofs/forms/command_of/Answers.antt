use Rattle.std.proofs.Common.{◌∙◌, ◌||◌, Bool, ap₂}
use Rattle.vc_arguments.proofs.FormLemmas.{all_arguments, one_more_argument}
use Rattle.vc_arguments.proofs.forms.command_of.Goals as goal

pub loop-argument-preserved : goal.loop-argument-preserved
loop-argument-preserved c =
    let added = c.in_ok-command.ensures in
    let made = c.in_ok-arg_of.ensures in
    let before = c.loop-argument.invariant in
    record {
      app = added.shape made.local ∙ one_more_argument _ _ c.args.form.now.arguments.now c.loop-argument.argument-index _ _
          c.loop-argument-test.true before.app made.rule;
      local = added.globals ∙ ap₂ (λ (a b : Bool). a || b) before.local made.local;
    }

pub returns-clause-app : goal.returns-clause-app
returns-clause-app c =
    c.loop-argument.invariant.app ∙ all_arguments _ c.args.form.now.arguments.now c.loop-argument.argument-index c.loop-argument-test.false
