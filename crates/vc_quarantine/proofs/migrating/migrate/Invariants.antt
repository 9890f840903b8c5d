use Rattle.std.proofs.Common.{◌≡◌, [], take}
use Rattle.std.specs.Prelude.{codes}
use Rattle.vc_files.specs.FileMap.{SameOutside}
use Rattle.vc_files.specs.Failures.{Writes}
use Rattle.vc_object.specs.declared.id.ObjectId.{ObjectId}
use Rattle.vc_object_map.specs.Store.{IsDamaged, objects}
use Rattle.vc_quarantine.specs.Migrating.{migrated}
use Rattle.vc_quarantine.proofs.migrating.migrate.Given as goal

abbrev pub invariant-loop-id : goal.invariant-loop-id
invariant-loop-id g l = record {
  stored : g.F.Files.honest → (q : ObjectId) → objects (g.F.Files.content l.files) q ≡ migrated (g.F.Files.content l.initial.files) l.slot (take l.id-index l.names) q;
  outside : g.F.Files.honest → SameOutside (codes "objects/") (g.F.Files.content l.initial.files) (g.F.Files.content l.files);
  undamaged : g.F.Files.honest → (q : ObjectId) → IsDamaged (g.F.Files.content l.files) q → IsDamaged (g.F.Files.content l.initial.files) q;
  unread : l.names ≡ [] → l.files ≡ l.initial.files;
  wear : Writes g.F.Files.honest g.F.Files.content g.F.Files.failed g.F.Files.can_fail g.F.Files.left l.initial.files l.files ⊥;
}
