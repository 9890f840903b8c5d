use Rattle.std.proofs.Common.{map}
use Rattle.vc_files.specs.FileMap.{SameOutside}
use Rattle.vc_files.specs.Failures.{Writes}
use Rattle.vc_object.specs.ObjectId.{IsSortedByName}
use Rattle.vc_pkt.specs.Carried.{stored_name}
use Rattle.vc_pkt.specs.ObjectStreamView.{carried}
use Rattle.vc_pkt.specs.StreamObjectView.{stored}
use Rattle.vc_quarantine.specs.Clean.{MakesNoneBad}
use Rattle.vc_push_rules.specs.Quarantine.{IsDropped, quarantine_folder}
use Rattle.vc_push_rules.proofs.CarryingLemmas.{IsHeld}
use Rattle.vc_session.proofs.opening.put_all.Given as goal

abbrev pub invariant-loop-object : goal.invariant-loop-object
invariant-loop-object g l = record {
  held : g.F.Files.honest → IsDropped l.slot (g.F.Files.content l.initial.files) → IsHeld (g.F.Files.content l.files) l.slot l.names.items (carried l.objects) (map stored l.object-iterator);
  sorted : IsSortedByName (map stored_name (map stored l.object-iterator));
  outside : g.F.Files.honest → SameOutside (quarantine_folder l.slot) (g.F.Files.content l.initial.files) (g.F.Files.content l.files);
  bad : g.F.Files.honest → MakesNoneBad (g.F.Files.content l.initial.files) (g.F.Files.content l.files);
  wear : Writes g.F.Files.honest g.F.Files.content g.F.Files.failed g.F.Files.can_fail g.F.Files.left l.initial.files l.files ⊥;
}
