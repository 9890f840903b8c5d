use Rattle.std.proofs.Common.{◌≡◌}
use Rattle.vc_files.specs.Failures.{Wears}
use Rattle.vc_rev.specs.Asking.{FirstParentsAsk}
use Rattle.vc_rev.specs.Question.{Question}
use Rattle.vc_rev.specs.Meaning.{Answer, FirstParents}
use Rattle.vc_rev.proofs.steps.ancestor.Given as goal

-- what comes of the parents that are left is what comes of all, and what they ask all ask
abbrev pub invariant-parents : goal.invariant-parents
invariant-parents g l =
    let s = g.R.Repository.source (g.R.Repository.view_of l.initial.repo) in record {
      kept : g.R.Objects.state_of l.repo ≡ g.R.Objects.state_of l.initial.repo;
      seen : g.R.Repository.view_of l.repo ≡ g.R.Repository.view_of l.initial.repo;
      wear : Wears g.R.Objects.failed g.R.Objects.can_fail g.R.Objects.left l.initial.repo l.repo ⊥;
      onward : g.R.Objects.is_honest → (answer : Answer) → FirstParents s l.left l.at answer → FirstParents s l.fn.n l.fn.id answer;
      asked : g.R.Objects.is_honest → (question : Question) → FirstParentsAsk s l.left l.at question → FirstParentsAsk s l.fn.n l.fn.id question;
    }

abbrev pub decreases-parents : goal.decreases-parents
decreases-parents g l = l.left
