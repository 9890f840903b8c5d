-- Scripts of a world: a first line that tells how many clones there are, and a line for each event.
use Rattle.std.specs.List.{slice_split}
use Rattle.std.specs.Prelude.{◌≡◌, ◌==◌, ℕ, nat_lt, List, [], ◌∷◌, codes, map, Option, Some, None, if◌then◌else◌}
use Rattle.std.specs.Str.{bytes_eq}
use Rattle.vc_events.specs.Events.{event_of}
use Rattle.vc_files.specs.declared.faults.Fault.TheVariants as fault
use Rattle.vc_model.specs.ExactWorld.{WorldEvent}
use Rattle.vc_object.specs.Items.{◌>>=◌}
use Rattle.vc_pkt.specs.TextLine.{without_lf}
use Rattle.vc_script.specs.Lines.{line_event}
use Rattle.vc_script.specs.Words.{all_in, number_in, pair, words_of}
use Rattle.vc_script.specs.declared.fault.ScriptFault.{ScriptFault}
use Rattle.vc_script.specs.declared.fault.ScriptFault.TheVariants.{BadScript, Fault}
use Rattle.vc_script.specs.declared.script.Script.{Script}

-- Each line ends in a line feed (10), which the last one may lack.
abbrev pub lines : List ℕ → List (List ℕ)
lines text = slice_split (λ byte. byte == 10) (without_lf text)

-- from 1 to 16
unfoldable pub clones_in : List ℕ → Option ℕ
clones_in word = do
  n ← number_in word
  if nat_lt n 1 then None else if nat_lt 16 n then None else Some n

-- the first line: `world` and the number of clones
unfoldable pub world_in : List ℕ → Option ℕ
world_in line = do
  parts ← pair (words_of line)
  if bytes_eq parts.0 (codes "world") then clones_in parts.1 else None

-- the events of the other lines
abbrev pub events_in : ℕ → List (List ℕ) → Option (List WorldEvent)
events_in n lines = all_in (line_event n) lines

-- how many clones there are, and the events
unfoldable pub script_in : List (List ℕ) → Option (ℕ × List WorldEvent)
script_in [] = None
script_in (first ∷ others) = do
  n ← world_in first
  events ← events_in n others
  Some (n, events)

-- the script that the text is
unfoldable pub script_of : List ℕ → Option (ℕ × List WorldEvent)
script_of text = script_in (lines text)

abbrev pub IsNoScript : List ℕ → Type 0
IsNoScript text = script_of text ≡ None

-- what a script that was read says
abbrev pub script_view : Script → ℕ × List WorldEvent
script_view script = (script.clones, map event_of script.events.items)

-- reading fails for want of memory alone
abbrev pub IsReadFault : ScriptFault → Type 0
IsReadFault BadScript = Unit {0}
IsReadFault (Fault why) = why ≡ fault.Memory
