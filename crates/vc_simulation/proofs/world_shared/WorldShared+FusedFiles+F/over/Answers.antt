use Rattle.std.proofs.Common.{◌∙◌, ap, subst, sym}
use Rattle.vc_events.specs.World.{fresh_shared}
use Rattle.vc_files.specs.Fused.{FusedCanFail, fused_left}
use Rattle.vc_local.specs.Blames.{BlamesOpen}
use Rattle.vc_local.specs.Opening.{IsOpenable}
use Rattle.vc_rules.specs.Stops.{IsBelow}
use Rattle.vc_simulation.proofs.FuseLemmas.{begins_in, fuse_ready}
use Rattle.vc_simulation.proofs.OpenLemmas.{in_err, in_ok}
use Rattle.vc_simulation.specs.Nodes.{BeginsAs, IsFaultOf, opened_shared, seen_shared}
use Rattle.vc_simulation.proofs.world_shared.WorldShared+FusedFiles+F.over.Goals as goal

pub returns-in-Ok-clause-opens : goal.returns-in-Ok-clause-opens
returns-in-Ok-clause-opens g c honest frail below r openable = begins_in (λ frail. IsBelow g.F.Files.can_fail g.F.Files.left frail) (λ w. w.node) (seen_shared (λ s. g.F.Files.content s.files) (FusedCanFail g.F.Files.can_fail g.F.Files.left) (fused_left g.F.Files.left)) frail c.in-Ok.shared (opened_shared r) below
    (in_ok (λ w. BeginsAs (seen_shared (λ s. g.F.Files.content s.files) (FusedCanFail g.F.Files.can_fail g.F.Files.left) (fused_left g.F.Files.left)) frail w.node (opened_shared r)) c.open.result c.in-Ok.shared c.in-Ok.is (c.open.ensures.opens honest frail (fuse_ready g.F.Files.can_fail g.F.Files.left frail c.new-device.result below c.new-device.ensures.fuse) r (subst (λ f. IsOpenable (g.F.Files.content f) r) (sym c.new-device.ensures.files) openable)))

pub returns-in-Ok-clause-new : goal.returns-in-Ok-clause-new
returns-in-Ok-clause-new g c honest frail below none = begins_in (λ frail. IsBelow g.F.Files.can_fail g.F.Files.left frail) (λ w. w.node) (seen_shared (λ s. g.F.Files.content s.files) (FusedCanFail g.F.Files.can_fail g.F.Files.left) (fused_left g.F.Files.left)) frail c.in-Ok.shared fresh_shared below
    (in_ok (λ w. BeginsAs (seen_shared (λ s. g.F.Files.content s.files) (FusedCanFail g.F.Files.can_fail g.F.Files.left) (fused_left g.F.Files.left)) frail w.node fresh_shared) c.open.result c.in-Ok.shared c.in-Ok.is (c.open.ensures.new honest frail (fuse_ready g.F.Files.can_fail g.F.Files.left frail c.new-device.result below c.new-device.ensures.fuse) (ap g.F.Files.content c.new-device.ensures.files ∙ none)))

pub returns-in-Err-clause-fault : goal.returns-in-Err-clause-fault
returns-in-Err-clause-fault g c honest frail below r openable =
    in_err (λ e. IsFaultOf frail e.1) c.open.result (c.in-Err.device, c.in-Err.fault) c.in-Err.is
    (c.open.ensures.fault honest frail (fuse_ready g.F.Files.can_fail g.F.Files.left frail c.new-device.result below c.new-device.ensures.fuse) r (subst (λ f. IsOpenable (g.F.Files.content f) r) (sym c.new-device.ensures.files) openable))

pub returns-in-Err-clause-refused : goal.returns-in-Err-clause-refused
returns-in-Err-clause-refused g c honest =
    subst (λ f. BlamesOpen (g.F.Files.content f) c.in-Err.fault) c.new-device.ensures.files (in_err (λ e. BlamesOpen (g.F.Files.content c.new-device.result.files) e.1) c.open.result (c.in-Err.device, c.in-Err.fault) c.in-Err.is (c.open.ensures.refused honest))

pub returns-in-Err-clause-err : goal.returns-in-Err-clause-err
returns-in-Err-clause-err g c honest r openable =
    subst (λ f. IsOpenable (g.F.Files.content f) r) (sym c.into_inner.ensures)
    (in_err (λ e. IsOpenable (g.F.Files.content e.0.files) r) c.open.result (c.in-Err.device, c.in-Err.fault) c.in-Err.is
    (c.open.ensures.err honest r (subst (λ f. IsOpenable (g.F.Files.content f) r) (sym c.new-device.ensures.files) openable)))
