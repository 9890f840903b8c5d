-- Scripts that are played in a new world, and what is told of them.
use Rattle.std.specs.Prelude.{◌≡◌, ◌++◌, ℕ, List, Some, map}
use Rattle.vc_events.specs.Events.{event_of}
use Rattle.vc_events.specs.declared.answers.Answer.{Answer as WorldAnswer}
use Rattle.vc_events.specs.declared.events.Event.{Event}
use Rattle.vc_events.specs.declared.world.World.{World}
use Rattle.vc_files.specs.FileMap.{FileMap}
use Rattle.vc_files.specs.Fused.{Fused}
use Rattle.vc_script.specs.Printing.{AddsFirst, AddsLines}
use Rattle.vc_script.specs.Script.{script_of}
use Rattle.vc_simulation.specs.Memory.{PlaysSafely}
use Rattle.vc_simulation.specs.declared.world_clone.WorldClone.{WorldClone}
use Rattle.vc_simulation.specs.declared.world_shared.WorldShared.{WorldShared}

-- The text is a script, and a new world of its clones was led by its events to these answers, in a run by the written rules, and a
-- safe one. Behind what was told stands a line for each answer. (Each message that was sent is a letter of the world.)
pub record Plays (text old new : List ℕ) : Type 0 where
  pub clones : ℕ
  pub events : List Event
  pub script : script_of text ≡ Some (clones, map event_of events)
  pub said : List WorldAnswer
  pub world : World (WorldShared (Fused FileMap)) (WorldClone (Fused FileMap))
  pub plays : PlaysSafely clones events said world
  pub told : AddsLines world.letters.items said old new

-- The same of a front of the events, and of the first of their answers.
pub record PlaysFront (text old new : List ℕ) : Type 0 where
  pub clones : ℕ
  pub events : List Event
  pub script : script_of text ≡ Some (clones, map event_of events)
  pub done : List Event
  pub others : List Event
  pub front : done ++ others ≡ events
  pub said : List WorldAnswer
  pub world : World (WorldShared (Fused FileMap)) (WorldClone (Fused FileMap))
  pub plays : PlaysSafely clones done said world
  pub told : AddsFirst world.letters.items said old new
