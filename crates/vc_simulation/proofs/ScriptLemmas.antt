-- What is told of a script that was played.
use Rattle.std.proofs.Common.{◌≡◌, ◌++◌, ℕ, Bool, true, false, List, [], length, take, drop, Ok, Err, OnErr, Some, subst, sym, if◌then◌else◌}
use Rattle.std.proofs.Math.Seq.{take-length}
use Rattle.std.proofs.lemmas.List.{append-nil, take-append-drop}
use Rattle.std.specs.Prelude.{Result, vec_len}
use Rattle.vc_events.specs.declared.answers.Answer.{Answer as WorldAnswer}
use Rattle.vc_events.specs.declared.events.Event.{Event}
use Rattle.vc_events.specs.declared.letters.Letter.{Letter}
use Rattle.vc_script.specs.Printing.{AddsFirst, AddsLines}
use Rattle.vc_script.specs.Script.{script_of, script_view}
use Rattle.vc_script.specs.declared.script.Script.{Script}
use Rattle.vc_simulation.specs.Memory.{PlaysSafely, done_by}
use Rattle.vc_simulation.specs.Playing.{Plays, PlaysFront}
use Rattle.vc_simulation.specs.declared.memory_world.Played.{Played}

-- the events that were not done
front_of : (whole : Bool) (n : ℕ) (events : List Event) → (others : List Event) × ((if whole then events else take n events) ++ others ≡ events)
front_of true n events = ([], append-nil events)
front_of false n events = (drop n events, take-append-drop n events)

-- all answers are the first of them
pub all_first : (letters : List Letter) (answers : List WorldAnswer) (old new : List ℕ) → AddsLines letters answers old new → AddsFirst letters answers old new
all_first letters answers old new told = (length answers, subst (λ (first : List WorldAnswer). AddsLines letters first old new) (sym (take-length answers)) told)

-- all events were done, and all answers told
pub told_whole : (text old new : List ℕ) (script : Script) (played : Played) → script_of text ≡ Some (script_view script)
    → PlaysSafely script.clones (done_by script.events.items played) played.answers.items played.world → played.is_whole ≡ true
    → AddsLines played.world.letters.items played.answers.items old new → Plays text old new
told_whole text old new script played is plays whole told = record {
  clones = script.clones;
  events = script.events.items;
  script = is;
  said = played.answers.items;
  world = played.world;
  plays = subst (λ (b : Bool). PlaysSafely script.clones (if b then script.events.items else take (vec_len played.answers) script.events.items) played.answers.items played.world) whole plays;
  told = told;
}

-- those events were done that were, and the first answers told
pub told_front : (text old new : List ℕ) (script : Script) (played : Played) → script_of text ≡ Some (script_view script)
    → PlaysSafely script.clones (done_by script.events.items played) played.answers.items played.world
    → AddsFirst played.world.letters.items played.answers.items old new → PlaysFront text old new
told_front text old new script played is plays told =
    let front = front_of played.is_whole (vec_len played.answers) script.events.items in
    record {
      clones = script.clones;
      events = script.events.items;
      script = is;
      done = done_by script.events.items played;
      others = front.0;
      front = front.1;
      said = played.answers.items;
      world = played.world;
      plays = plays;
      told = told;
    }

-- what holds whatever the error is
pub on_error : {X E P : Type 0} (r : Result X E) → P → OnErr r P
on_error (Ok x) holds = tt
on_error (Err e) holds = holds
