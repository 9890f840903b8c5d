-- What a clone answers to a prune is the machine's answer.
use Rattle.std.proofs.Common.{◌≡◌, ℕ, Bool, true, false, cond, Option, Some, None, Result, inl, refl, ap, ◌∙◌}
use Rattle.std.specs.Prelude.{IfErr, IfOk}
use Rattle.vc_files.specs.FileMap.{FileMap}
use Rattle.vc_local.specs.Machine.{live_of, up_after}
use Rattle.vc_local.specs.declared.fault.NodeFault.{NodeFault}
use Rattle.vc_model.specs.Clone.{Awaited, IsReached}
use Rattle.vc_model.specs.CloneCall.{CloneAnswers}
use Rattle.vc_model.specs.CloneCall.CloneCall.{Prune}
use Rattle.vc_model.specs.Repository.{with_objects}
use Rattle.vc_pruning.proofs.PruneEnds.{prune_ends}
use Rattle.vc_pruning.specs.Pruning.{Prunes, PrunesSome, PrunedAs, prune_answer}
use Rattle.vc_pruning.specs.Roots.{BlamesPrune}
use Rattle.vc_rules.specs.Git.{git}
use Rattle.vc_node.specs.Awaited.{AwaitedText}
use Rattle.vc_node.specs.CloneCalls.{AnswersClone, MayOr}

-- what is awaited stays, unless the node is down then
live_then : (live : Option Awaited) (awaited : Awaited) (up : Bool) → live ≡ Some awaited → cond up live None ≡ live_of up awaited
live_then live awaited true is = is
live_then live awaited false is = refl

module _ (old new : FileMap) (waits : AwaitedText) where
  -- whatever it returns
  pub pruning_answers : (result : Result ℕ NodeFault) → IfOk result (Prunes (IsReached git) old new) → PrunesSome (IsReached git) old new → IfErr result (BlamesPrune old)
      → AnswersClone Prune (PrunedAs result) old new waits waits true (up_after result)
  pruning_answers result all some why = record {
    each = λ awaited n waited held.
        let ends = prune_ends (IsReached git) old new n result held.shows.spells held.clean all some why in (
          awaited,
          record { repository = with_objects n.repository ends.0; live = cond (up_after result) n.live None },
          prune_answer result,
          None,
          waited,
          record { shows = record { spells = ends.1; live = live_then n.live awaited (up_after result) held.shows.live }; clean = ends.2 },
          record { answer = refl; sent = refl },
          λ sound. CloneAnswers.pruned awaited held.shows.live refl ends.3 refl,
        );
  }

-- a node that is up may write
pub pruning_may : {IsLook : Type 0} (waits : AwaitedText) (was : Bool) (content : FileMap) → was ≡ true → MayOr Prune waits was content IsLook
pruning_may waits was content up = λ awaited n waiting held. inl (λ sound. (awaited, held.shows.live ∙ ap (λ (u : Bool). live_of u awaited) up, tt))
