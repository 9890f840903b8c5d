use Rattle.std.proofs.Common.{◌≡◌, ◌-◌, ◌^◌}
use Rattle.vc_pack.proofs.SentLemmas.{Keeps}
use Rattle.vc_pack.specs.Sent.{links_beyond}
use Rattle.vc_known.specs.Reach.{has_in}
use Rattle.vc_files.specs.Failures.{Wears}
use Rattle.vc_object_map.proofs.WalkLemmas.{Walks}
use Rattle.vc_object.specs.ObjectMap.{links_in}
use Rattle.vc_pkt.specs.StreamObjectView.{objects_of}
use Rattle.vc_object_map.specs.Store.{objects}
use Rattle.vc_pack.proofs.reading.sent_beyond.Given as goal

abbrev pub invariant-loop-next : goal.invariant-loop-next
invariant-loop-next g l = record {
  same : g.F.Files.content l.files ≡ g.F.Files.content l.fn.files;
  wear : Wears g.F.Files.failed g.F.Files.can_fail g.F.Files.left l.fn.files l.files ⊥;
  walks : g.F.Files.honest → Walks (links_beyond (links_in (objects (g.F.Files.content l.fn.files))) (has_in l.fn.reach)) l.wants l.met.keys l.next;
  keeps : g.F.Files.honest → Keeps (g.F.Files.content l.fn.files) (has_in l.fn.reach) l.met.keys l.next (objects_of l.sent.by_name.entries);
}

abbrev pub decreases-loop-next : goal.decreases-loop-next
decreases-loop-next g l = 2 ^ 63 - l.next
