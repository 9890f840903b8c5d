use Rattle.std.proofs.Common.{◌≡◌, drop}
use Rattle.vc_files.specs.Failures.{Wears}
use Rattle.vc_rev.specs.Asking.{StepsAsk}
use Rattle.vc_rev.specs.Question.{Question}
use Rattle.vc_rev.specs.Meaning.{Answer, StepsGive}
use Rattle.vc_expression.specs.Views.{steps_of}
use Rattle.vc_rev.proofs.steps.steps_value.Given as goal

-- what comes of the steps that are left is what comes of all, and what they ask all ask
abbrev pub invariant-steps : goal.invariant-steps
invariant-steps g l =
    let s = g.R.Repository.source (g.R.Repository.view_of l.initial.repo) in record {
      kept : g.R.Objects.state_of l.repo ≡ g.R.Objects.state_of l.initial.repo;
      seen : g.R.Repository.view_of l.repo ≡ g.R.Repository.view_of l.initial.repo;
      wear : Wears g.R.Objects.failed g.R.Objects.can_fail g.R.Objects.left l.initial.repo l.repo ⊥;
      onward : g.R.Objects.is_honest → (answer : Answer) → StepsGive s (steps_of (drop l.token-index l.steps)) l.at answer → StepsGive s (steps_of l.steps) l.fn.id answer;
      asked : g.R.Objects.is_honest → (question : Question) → StepsAsk s (steps_of (drop l.token-index l.steps)) l.at question → StepsAsk s (steps_of l.steps) l.fn.id question;
    }
