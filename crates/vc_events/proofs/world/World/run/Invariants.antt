use Rattle.std.proofs.Common.{◌≡◌, take, length, vec_len}
use Rattle.vc_events.specs.Running.{Lengthens}
use Rattle.vc_events.proofs.world.World.run.Given as goal

abbrev pub invariant-loop-event : goal.invariant-loop-event
invariant-loop-event g l = record {
  run : g.S.SharedCalls.honest → g.C.CloneCalls.honest → Lengthens g.S.SharedCalls.seen g.C.CloneCalls.seen l.fn.self (take l.event-index l.events) l.answers.items l.self;
  count : g.S.SharedCalls.honest → g.C.CloneCalls.honest → length l.answers.items ≡ l.event-index;
  clones : vec_len l.self.clones ≡ vec_len l.fn.self.clones;
}
