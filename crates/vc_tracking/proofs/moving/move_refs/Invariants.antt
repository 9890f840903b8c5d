use Rattle.std.proofs.Common.{Some, ◌≡◌, ◌⊎◌, ◌≤◌, ◌+◌, length, take}
use Rattle.std.specs.Prelude.{codes}
use Rattle.vc_files.specs.FileMap.{SameOutside}
use Rattle.vc_files.specs.Failures.{Wears, Writes}
use Rattle.vc_history.specs.Stored.{AgreesIn}
use Rattle.vc_model.specs.Repository.{Repository}
use Rattle.vc_rules.specs.OpenPushes.{HoldsContent}
use Rattle.vc_quarantine.specs.Clean.{MakesNoneBad}
use Rattle.vc_refs.specs.Refs.{packed_map, refs}
use Rattle.vc_tracking.specs.Learning.{AreNoted}
use Rattle.vc_tracking.specs.Moving.{AreMoved, IsRight, told_in}
use Rattle.vc_tracking.proofs.moving.move_refs.Given as goal

abbrev pub invariant-loop-name : goal.invariant-loop-name
invariant-loop-name g l = record {
  moves : g.F.Files.honest → (r : Repository) → HoldsContent (g.F.Files.content l.fn.files) r → AreMoved (IsRight (g.F.Files.content l.fn.files) l.fn.known l.generations) l.fn.followed (told_in (take l.name-index l.told)) r (g.F.Files.content l.files) l.moved;
  noted : g.F.Files.honest → AreNoted (refs (g.F.Files.content l.fn.files)) (refs (g.F.Files.content l.files)) l.fn.due.items l.due.items;
  taken : length l.due.items ≡ length l.fn.due.items + l.moved;
  known : g.F.Files.honest → IsRight (g.F.Files.content l.fn.files) l.fn.known l.generations → IsRight (g.F.Files.content l.files) l.known l.generations;
  agrees : g.F.Files.honest → AgreesIn (g.F.Files.content l.fn.files) l.generations → AgreesIn (g.F.Files.content l.files) l.generations;
  read : g.F.Files.honest → packed_map (g.F.Files.content l.files) ≡ Some l.packed;
  outside : g.F.Files.honest → SameOutside (codes "refs/") (g.F.Files.content l.fn.files) (g.F.Files.content l.files);
  bad : g.F.Files.honest → MakesNoneBad (g.F.Files.content l.fn.files) (g.F.Files.content l.files);
  counted : l.moved ≤ l.name-index;
  looked : g.F.Files.honest → l.moved ≡ 0 → (¬ IsRight (g.F.Files.content l.fn.files) l.fn.known l.generations) ⊎ Wears g.F.Files.failed g.F.Files.can_fail g.F.Files.left l.fn.files l.files ⊥;
  wear : Writes g.F.Files.honest g.F.Files.content g.F.Files.failed g.F.Files.can_fail g.F.Files.left l.fn.files l.files ⊥;
}
