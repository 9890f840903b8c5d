use Rattle.std.proofs.Common.{◌≡◌, drop, map, All}
use Rattle.vc_events.specs.Events.{event_of, IsInWorld}
use Rattle.vc_script.proofs.ListLemmas.{behind}
use Rattle.vc_script.specs.Lines.{line_event}
use Rattle.vc_script.specs.Words.{all_in}
use Rattle.vc_script.proofs.script.events_in.Given as goal

abbrev pub invariant-loop-line : goal.invariant-loop-line
invariant-loop-line l = record {
  same : all_in (line_event l.clones) (map (λ line. line.now) l.lines) ≡ behind (line_event l.clones) event_of (λ line. line.now) l.events.items (drop l.line-index l.lines);
  in_world : All (IsInWorld l.clones) l.events.items;
}
