use Rattle.std.proofs.Common.{◌-◌, ◌^◌, ◌≡◌, ◌<◌, ℕ, List, Option}
use Rattle.vc_files.specs.Failures.{Writes}
use Rattle.vc_files.specs.FileMap.{SameOutside}
use Rattle.vc_message.specs.AnyMessage.{any_step, beginning}
use Rattle.vc_message.specs.Source.{TellsFailures}
use Rattle.vc_message.specs.Streaming.{LeadsTo, of_push, state_at}
use Rattle.vc_pkt.specs.ObjectStream.{between}
use Rattle.vc_push.specs.Push.{Carried}
use Rattle.vc_push.specs.PushView.{head_text}
use Rattle.vc_quarantine.specs.Arrival.{HasArrived}
use Rattle.vc_quarantine.specs.Clean.{IsQuarantineClean, MakesNoneBad}
use Rattle.vc_push_rules.specs.Quarantine.{quarantine_folder}
use Rattle.vc_shared.specs.Arriving.{BeginsPush}
use Rattle.vc_shared.proofs.arriving.arrive.Given as goal

abbrev pub invariant-objects : goal.invariant-objects
invariant-objects g l = record {
  leads : (before : Option (List ℕ)) → BeginsPush before (g.R.Source.remaining l.fn.reader) l.fn.taken.bytes l.fn.taken.lines (head_text l.fn.head)
      → (carried : Carried) × LeadsTo any_step beginning before (g.R.Source.remaining l.reader) l.taken.bytes l.taken.lines (state_at (of_push (head_text l.fn.head) carried) between)
      × (g.F.Files.honest → HasArrived (g.F.Files.content l.files) l.arriving.slot l.arriving.names.keys l.arriving.fault carried);
  few : l.taken.lines < l.taken.bytes;
  slot : l.arriving.slot ≡ l.fn.slot;
  outside : g.F.Files.honest → SameOutside (quarantine_folder l.fn.slot) (g.F.Files.content l.fn.files) (g.F.Files.content l.files);
  bad : g.F.Files.honest → MakesNoneBad (g.F.Files.content l.fn.files) (g.F.Files.content l.files);
  clean : g.F.Files.honest → IsQuarantineClean (g.F.Files.content l.files) l.fn.slot;
  wear : Writes g.F.Files.honest g.F.Files.content g.F.Files.failed g.F.Files.can_fail g.F.Files.left l.fn.files l.files ⊥;
  failures : TellsFailures g.R.Source.failed g.R.Source.can_fail l.fn.reader l.reader ⊥;
}

abbrev pub decreases-objects : goal.decreases-objects
decreases-objects g l = 2 ^ 64 - l.taken.bytes
