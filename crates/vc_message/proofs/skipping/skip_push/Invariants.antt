use Rattle.std.proofs.Common.{◌-◌, ◌^◌, ◌<◌, ℕ, List, Option, [], Ok}
use Rattle.vc_pkt.specs.ObjectStream.{between}
use Rattle.vc_push.specs.Push.{Carried, HeadText}
use Rattle.vc_message.specs.AnyMessage.{any_step, beginning}
use Rattle.vc_message.specs.Source.{TellsFailures}
use Rattle.vc_message.specs.Streaming.{LeadsTo, of_push, state_at}
use Rattle.vc_message.proofs.skipping.skip_push.Given as goal

abbrev pub invariant-objects : goal.invariant-objects
invariant-objects g l = record {
  leads : (before : Option (List ℕ)) (head : HeadText) → LeadsTo any_step beginning before (g.R.Source.remaining l.initial.reader) l.initial.taken.bytes l.initial.taken.lines (state_at (of_push head (Ok [])) between)
      → (carried : Carried) × LeadsTo any_step beginning before (g.R.Source.remaining l.reader) l.taken.bytes l.taken.lines (state_at (of_push head carried) between);
  few : l.taken.lines < l.taken.bytes;
  failures : TellsFailures g.R.Source.failed g.R.Source.can_fail l.initial.reader l.reader ⊥;
}

abbrev pub decreases-objects : goal.decreases-objects
decreases-objects g l = 2 ^ 64 - l.taken.bytes
