use Rattle.std.proofs.Common.{◌≡◌, take}
use Rattle.vc_files.specs.Failures.{Wears}
use Rattle.vc_object_map.specs.Graph.{IsClosedUnder}
use Rattle.vc_model.specs.Repository.{Repository}
use Rattle.vc_object.specs.ObjectMap.{links_in}
use Rattle.vc_rules.specs.OpenPushes.{HoldsContent}
use Rattle.vc_object_map.specs.Store.{objects}
use Rattle.vc_tracking.specs.Moving.{told_in}
use Rattle.vc_exchange.specs.Wanting.{AreOpenTold}
use Rattle.vc_exchange.proofs.wanting.open_ids.Given as goal

abbrev pub invariant-loop-id : goal.invariant-loop-id
invariant-loop-id g l = record {
  wanted : g.F.Files.honest → IsClosedUnder (links_in (objects (g.F.Files.content l.initial.files))) l.initial.known.keys → (r : Repository) → HoldsContent (g.F.Files.content l.initial.files) r → AreOpenTold r (told_in (take l.id-index l.told)) l.wanted.keys;
  known : g.F.Files.honest → IsClosedUnder (links_in (objects (g.F.Files.content l.initial.files))) l.initial.known.keys → IsClosedUnder (links_in (objects (g.F.Files.content l.initial.files))) l.known.keys;
  same : g.F.Files.content l.files ≡ g.F.Files.content l.initial.files;
  wear : Wears g.F.Files.failed g.F.Files.can_fail g.F.Files.left l.initial.files l.files ⊥;
}
