use Rattle.std.proofs.Common.{◌≡◌, ℕ, ◌-◌, ◌++◌, List, length, take, map, sym, ap, subst, ◌∙◌, arith}
use Rattle.std.proofs.lemmas.List.{map_push}
use Rattle.vc_expression.specs.Seen.{Found}
use Rattle.vc_expression.specs.Steps.{step_at}
use Rattle.vc_expression.specs.Reading.{seen}
use Rattle.vc_expression.specs.Grammar.{IsStep}
use Rattle.vc_expression.specs.Views.{StandsSteps, steps_view}
use Rattle.vc_expression.specs.Faults.{Reads}
use Rattle.vc_expression.specs.declared.token.Step.{Step}
use Rattle.vc_expression.specs.declared.token.StepToken.{StepToken}
use Rattle.vc_expression.proofs.StepLemmas.{step_front}
use Rattle.vc_expression.proofs.ReadLemmas.{shorter, reads_more}
use Rattle.vc_expression.proofs.Places.{end_on, front_taken, place_of, stand_more}
use Rattle.vc_expression.proofs.expr.read_steps.Goals as goal

pub slice_bounds-text-count : goal.slice_bounds-text-count
slice_bounds-text-count c =
    let found : step_at c.steps.rest.now ≡ Found c.in-Found.step c.in-Found.after.now = sym c.read_step.ensures ∙ ap seen c.in-Found.is in
    let less = shorter c.steps.rest.now c.in-Found.step c.in-Found.after.now found in omega (arith, less)

pub steps-smaller : goal.steps-smaller
steps-smaller c =
    let found : step_at c.steps.rest.now ≡ Found c.in-Found.step c.in-Found.after.now = sym c.read_step.ensures ∙ ap seen c.in-Found.is in
    shorter c.steps.rest.now c.in-Found.step c.in-Found.after.now found

pub steps-preserved : goal.steps-preserved
steps-preserved c =
    let i = c.steps.invariant in
    let found : step_at c.steps.rest.now ≡ Found c.in-Found.step c.in-Found.after.now = sym c.read_step.ensures ∙ ap seen c.in-Found.is in
    let f = step_front c.steps.rest.now c.in-Found.step c.in-Found.after.now found in
    let taken : take (length c.steps.rest.now - length c.in-Found.after.now) c.steps.rest.now ≡ f.0 = front_taken c.steps.rest.now f.0 c.in-Found.after.now f.2 in
    let items = c.in_ok-push-in-Found.ensures.items in record {
      read = subst (λ (ss : List Step). Reads c.args.text.now ss c.in-Found.after.now) (sym (ap (map (λ (t : StepToken). t.step)) items ∙ map_push (λ (t : StepToken). t.step) c.steps.tokens.items _)) (reads_more c.args.text.now (steps_view c.steps.tokens) c.steps.rest.now c.in-Found.step c.in-Found.after.now i.read found);
      rest = end_on c.args.source.now c.steps.rest.now f.0 c.in-Found.after.now i.rest f.2;
      slices = subst (λ (ts : List StepToken). StandsSteps c.args.source.now c.args.text.now ts c.in-Found.after.now) (sym items)
          (stand_more c.args.source.now c.args.text.now c.steps.tokens.items c.steps.rest.now _ c.in-Found.after.now i.slices (f.2 ∙ ap (λ t. t ++ c.in-Found.after.now) (sym taken)) (place_of c.args.source.now c.steps.rest.now i.rest)
          (subst (λ (t : List ℕ). IsStep t c.in-Found.step) (sym taken) f.1));
    }
