use Rattle.std.proofs.Common.{◌≡◌, Option, map, drop}
use Rattle.vc_files.specs.Failures.{Wears}
use Rattle.vc_object.specs.declared.id.ObjectId.{ObjectId}
use Rattle.vc_rev.specs.Asking.{FirstValueAsks}
use Rattle.vc_rev.specs.Question.{Question}
use Rattle.vc_rev.specs.Meaning.{FirstValue}
use Rattle.vc_rev.proofs.names.first_value.Given as goal

-- the first value among the names that are left is the first of all, and what they ask all ask
abbrev pub invariant-loop-name : goal.invariant-loop-name
invariant-loop-name g l =
    let s = g.R.Repository.source (g.R.Repository.view_of l.initial.repo) in record {
      kept : g.R.Objects.state_of l.repo ≡ g.R.Objects.state_of l.initial.repo;
      seen : g.R.Repository.view_of l.repo ≡ g.R.Repository.view_of l.initial.repo;
      wear : Wears g.R.Objects.failed g.R.Objects.can_fail g.R.Objects.left l.initial.repo l.repo ⊥;
      onward : g.R.Objects.is_honest → (value : Option ObjectId) → FirstValue s (map (λ name. name.items) (drop l.name-index l.names)) value → FirstValue s (map (λ name. name.items) l.names) value;
      asked : g.R.Objects.is_honest → (question : Question) → FirstValueAsks s (map (λ name. name.items) (drop l.name-index l.names)) question → FirstValueAsks s (map (λ name. name.items) l.names) question;
    }
