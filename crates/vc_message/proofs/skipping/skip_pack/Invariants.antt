use Rattle.std.proofs.Common.{◌-◌, ◌^◌, ◌<◌, ℕ, List, Option, []}
use Rattle.vc_object.specs.Decoding.{StoredObject}
use Rattle.vc_object.specs.declared.id.ObjectId.{ObjectId}
use Rattle.vc_pkt.specs.ObjectStream.{between}
use Rattle.vc_message.specs.AnyMessage.{any_step, beginning}
use Rattle.vc_message.specs.Source.{TellsFailures}
use Rattle.vc_message.specs.Streaming.{LeadsTo, of_pack, state_at}
use Rattle.vc_message.proofs.skipping.skip_pack.Given as goal

abbrev pub invariant-objects : goal.invariant-objects
invariant-objects g l = record {
  leads : (before : Option (List ℕ)) (ack : Option ObjectId) → LeadsTo any_step beginning before (g.R.Source.remaining l.initial.reader) l.initial.taken.bytes l.initial.taken.lines (state_at (of_pack ack []) between)
      → (objects : List StoredObject) × LeadsTo any_step beginning before (g.R.Source.remaining l.reader) l.taken.bytes l.taken.lines (state_at (of_pack ack objects) between);
  few : l.taken.lines < l.taken.bytes;
  failures : TellsFailures g.R.Source.failed g.R.Source.can_fail l.initial.reader l.reader ⊥;
}

abbrev pub decreases-objects : goal.decreases-objects
decreases-objects g l = 2 ^ 64 - l.taken.bytes
