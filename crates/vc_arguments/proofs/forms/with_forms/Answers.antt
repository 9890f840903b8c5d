use Rattle.std.proofs.Common.{◌∙◌, ◌||◌, Bool, ap₂}
use Rattle.std.proofs.Math.Bool.{or-false}
use Rattle.vc_arguments.proofs.FormLemmas.{all_forms, one_more_form}
use Rattle.vc_arguments.proofs.forms.with_forms.Goals as goal

pub loop-form-preserved : goal.loop-form-preserved
loop-form-preserved c =
    let added = c.in_ok-made.ensures in
    let made = c.in_ok-command_of.ensures in
    let before = c.loop-form.invariant in
    record {
      app = added.shape made.local ∙ one_more_form _ _ c.args.forms.now c.loop-form.form-index _ _ c.loop-form-test.true before.app made.app;
      local = added.globals ∙ (ap₂ (λ (a b : Bool). a || b) before.local made.local ∙ or-false _);
    }

pub returns-clause-app : goal.returns-clause-app
returns-clause-app c = c.loop-form.invariant.app ∙ all_forms _ c.args.forms.now c.loop-form.form-index c.loop-form-test.false
