use Rattle.std.proofs.Common.{◌^◌, Some, None}
use Rattle.vc_files.specs.Failures.{Wears, Writes, unstopped}
use Rattle.vc_node.specs.Stored.{KeepsOwn}
use Rattle.vc_world.specs.Exchanging.{HoldsClone, Leads}
use Rattle.vc_world.specs.Alone.{LeadsAlone}
use Rattle.vc_world.proofs.AloneRounds.{GoesAlone}
use Rattle.vc_world.proofs.FetchRounds.{GoesOn}
use Rattle.vc_world.proofs.fetching.exchange_fetch.Given as goal

abbrev pub invariant-rounds : goal.invariant-rounds
invariant-rounds g l = record {
  so_far : g.P.Peer.honest → g.F.Files.honest → Leads g.P.Peer.holds (HoldsClone g.F.Files.content) l.initial.shared l.shared l.initial.clone l.clone (GoesOn l.before l.moved);
  alone : g.F.Files.honest → LeadsAlone (HoldsClone g.F.Files.content) l.initial.clone l.clone (GoesAlone g.P.Peer.says g.P.Answer.Source.remaining g.F.Files.content l.before l.moved l.initial.shared l.shared);
  kept : g.F.Files.honest → KeepsOwn (g.F.Files.content l.initial.clone.files) (g.F.Files.content l.clone.files);
  wear : Writes g.F.Files.honest g.F.Files.content g.F.Files.failed g.F.Files.can_fail g.F.Files.left l.initial.clone.files l.clone.files ⊥;
  peer_wear : Wears g.P.Peer.failed g.P.Peer.can_fail unstopped l.initial.shared l.shared ⊥;
}

abbrev pub decreases-rounds : goal.decreases-rounds
decreases-rounds g l = elim (l.before) [ None ↦ 2 ^ 64 | Some before ↦ before ]
