use Rattle.std.proofs.Common.{map}
use Rattle.std.specs.Prelude.{codes}
use Rattle.vc_files.specs.FileMap.{SameOutside}
use Rattle.vc_files.specs.Failures.{Writes}
use Rattle.vc_object.specs.ObjectId.{IsSortedByName}
use Rattle.vc_pkt.specs.Carried.{stored_name}
use Rattle.vc_pkt.specs.ObjectStreamView.{carried}
use Rattle.vc_pkt.specs.StreamObjectView.{AreNamed, objects_of}
use Rattle.vc_quarantine.specs.Clean.{MakesNoneBad}
use Rattle.vc_tracking.proofs.StoringLemmas.{IsStoring}
use Rattle.vc_tracking.proofs.storing.store_all.Given as goal

abbrev pub invariant-loop-id : goal.invariant-loop-id
invariant-loop-id g l = record {
  storing : g.F.Files.honest → IsStoring (g.F.Files.content l.initial.files) (g.F.Files.content l.files) (carried l.objects) (objects_of l.id-iterator);
  sorted : IsSortedByName (map stored_name (objects_of l.id-iterator));
  named : AreNamed l.id-iterator;
  outside : g.F.Files.honest → SameOutside (codes "objects/") (g.F.Files.content l.initial.files) (g.F.Files.content l.files);
  bad : g.F.Files.honest → MakesNoneBad (g.F.Files.content l.initial.files) (g.F.Files.content l.files);
  wear : Writes g.F.Files.honest g.F.Files.content g.F.Files.failed g.F.Files.can_fail g.F.Files.left l.initial.files l.files ⊥;
}
