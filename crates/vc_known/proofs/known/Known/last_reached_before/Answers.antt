use Rattle.std.proofs.Common.{arith}
use Rattle.std.proofs.Math.ListN.{length-map}
use Rattle.vc_object.specs.ObjectMap.{links_in}
use Rattle.vc_known.proofs.CommonLemmas.{IsLastCommon-least, ReachesLayers-common, names-both}
use Rattle.vc_known.specs.Known.{moments_in}
use Rattle.vc_known.proofs.known.Known.last_reached_before.Goals as goal

pub returns-then-branch-clause-common : goal.returns-then-branch-clause-common
returns-then-branch-clause-common g c common is =
    let long = length-map c.args.self.now.moments.items (λ roots. roots.items) in
    let least = IsLastCommon-least (moments_in c.args.self.now) c.add_names.new.set.keys c.args.roots.now
    (names-both c.new-names.result.keys c.args.roots.now c.add_names.new.set.keys c.new-names.ensures.empty c.in_ok-add_names.ensures.added) c.last_common-common.result c.last_common-common.ensures common is in
    omega (arith, least, long, c.loop-back-test.true)

pub returns-clause-reached : goal.returns-clause-reached
returns-clause-reached g c honest =
    ReachesLayers-common (moments_in c.args.self.now) c.add_names.new.set.keys c.args.roots.now
    (names-both c.new-names.result.keys c.args.roots.now c.add_names.new.set.keys c.new-names.ensures.empty c.in_ok-add_names.ensures.added) c.last_common-common.result c.last_common-common.ensures
    (links_in (g.C.Objects.objects (g.C.Objects.state_of c.args.commits.now)))

pub returns-clause-common : goal.returns-clause-common
returns-clause-common g c =
    IsLastCommon-least (moments_in c.args.self.now) c.add_names.new.set.keys c.args.roots.now
    (names-both c.new-names.result.keys c.args.roots.now c.add_names.new.set.keys c.new-names.ensures.empty c.in_ok-add_names.ensures.added) c.last_common-common.result c.last_common-common.ensures
