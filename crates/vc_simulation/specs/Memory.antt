-- A world in memory: the machine's nodes that its nodes are, and what is played in it from its beginning.
use Rattle.std.specs.Prelude.{◌≡◌, ℕ, false, List, [], if◌then◌else◌, take, vec_len}
use Rattle.vc_events.specs.Calls.{Seen}
use Rattle.vc_events.specs.Running.{AreApart, IsLengthened}
use Rattle.vc_events.specs.World.{HoldsWorld}
use Rattle.vc_events.specs.declared.answers.Answer.{Answer as WorldAnswer}
use Rattle.vc_events.specs.declared.events.Event.{Event}
use Rattle.vc_events.specs.declared.world.World.{World}
use Rattle.vc_files.specs.Failures.{unstopped}
use Rattle.vc_files.specs.FileMap.{FileMap}
use Rattle.vc_files.specs.Fused.{Fused}
use Rattle.vc_wire.proofs.WireLaws.{message_wire}
use Rattle.vc_model.specs.Clone.{CloneNode}
use Rattle.vc_model.specs.Exact.{IsUnfused, Shadows}
use Rattle.vc_model.specs.ExactWorld.{ExactHistory, ExactRun, FusedWorld, NothingForgedExactly, fused_after}
use Rattle.vc_model.specs.Run.{History}
use Rattle.vc_model.specs.Safe.{IsGuarded, IsSafe}
use Rattle.vc_model.specs.Shared.{SharedNode}
use Rattle.vc_model.specs.World.{IsNew}
use Rattle.vc_rules.specs.Git.{git}
use Rattle.vc_simulation.specs.Nodes.{seen_cloned, seen_served}
use Rattle.vc_simulation.specs.declared.memory_world.Played.{Played}
use Rattle.vc_simulation.specs.declared.world_clone.WorldClone.{WorldClone}
use Rattle.vc_simulation.specs.declared.world_shared.WorldShared.{WorldShared}

-- ---- the nodes, over files in memory with a fuse

abbrev pub memory_shared : Seen (WorldShared (Fused FileMap)) SharedNode
memory_shared = seen_served (λ files. files) (λ _. ⊥) unstopped

abbrev pub memory_clone : Seen (WorldClone (Fused FileMap)) CloneNode
memory_clone = seen_cloned (λ files. files) (λ _. ⊥) unstopped

-- ---- a play

-- the events that were done
abbrev pub done_by : List Event → Played → List Event
done_by events played = if played.is_whole then events else take (vec_len played.answers) events

-- The headline, from the beginning. A new world of n clones, whose devices fail only after a stop, was led by these events and answers
-- to the world that is held: in a run in which each node answers by the written rules, and a guarded one; and if nobody forged what a
-- clone received, a safe one.
pub record PlaysSafely (n : ℕ) (es : List Event) (said : List WorldAnswer) (world : World (WorldShared (Fused FileMap)) (WorldClone (Fused FileMap))) : Type 0 where
  pub start : FusedWorld
  pub is_new : IsNew start.world n
  pub calm : start.frail ≡ false
  pub unstopped_yet : IsUnfused start
  pub history : ExactHistory
  pub lengthened : IsLengthened start [] es said history
  pub held : HoldsWorld memory_shared memory_clone world (fused_after start history)
  pub safe : AreApart start history → ExactRun git message_wire start history
      × ((p : History) × Shadows git message_wire start history p × IsGuarded git start.world p × (NothingForgedExactly git message_wire history → IsSafe git start.world p))
