use Rattle.std.proofs.Common.{◌≡◌, drop}
use Rattle.vc_files.specs.Failures.{Wears}
use Rattle.vc_object.specs.declared.mode.Mode.TheVariants as modes
use Rattle.vc_rev.specs.Asking.{EntryAsks}
use Rattle.vc_rev.specs.Question.{Question}
use Rattle.vc_rev.specs.Meaning.{Answer, EntryGives}
use Rattle.vc_expression.specs.Views.{parts_of}
use Rattle.vc_rev.proofs.value.entry_value.Given as goal

-- what comes of the components that are left is what comes of all, and what they ask all ask
abbrev pub invariant-loop-part : goal.invariant-loop-part
invariant-loop-part g l =
    let s = g.R.Repository.source (g.R.Repository.view_of l.initial.repo) in record {
      kept : g.R.Objects.state_of l.repo ≡ g.R.Objects.state_of l.initial.repo;
      seen : g.R.Repository.view_of l.repo ≡ g.R.Repository.view_of l.initial.repo;
      wear : Wears g.R.Objects.failed g.R.Objects.can_fail g.R.Objects.left l.initial.repo l.repo ⊥;
      onward : g.R.Objects.is_honest → (answer : Answer) → EntryGives s (parts_of (drop l.part-index l.parts)) l.mode l.at answer → EntryGives s (parts_of l.parts) modes.Tree l.fn.tree answer;
      asked : g.R.Objects.is_honest → (question : Question) → EntryAsks s (parts_of (drop l.part-index l.parts)) l.mode l.at question → EntryAsks s (parts_of l.parts) modes.Tree l.fn.tree question;
    }
