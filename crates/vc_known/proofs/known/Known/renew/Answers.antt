use Rattle.std.proofs.Common.{◌≡◌, subst, arith}
use Rattle.std.proofs.Math.ListN.{length-map}
use Rattle.vc_object.specs.ObjectMap.{links_in}
use Rattle.vc_known.proofs.ReachOfLemmas.{Agrees-known_same, closed_last, last_roots-added, last_roots-same}
use Rattle.vc_known.specs.Known.{ReachesLast, count_in, moments_in}
use Rattle.vc_known.specs.Layers.{ReachesLayers}
use Rattle.vc_known.proofs.known.Known.renew.Goals as goal

pub returns-then-eq-clause-last : goal.returns-then-eq-clause-last
returns-then-eq-clause-last g c =
    let known = c.args.self.now in
    let count : c.len-count.result ≡ count_in known = omega (arith, c.len-count.ensures, length-map known.moments.items (λ roots. roots.items)) in
    last_roots-same (moments_in known) c.last_roots.result.now c.args.roots.now c.len-count.result c.eq.result c.last_roots.ensures count c.eq.ensures c.if-eq.true

pub returns-then-eq-clause-closed : goal.returns-then-eq-clause-closed
returns-then-eq-clause-closed g c honest agrees =
    let objects = g.C.Objects.objects (g.C.Objects.state_of c.args.objects.now) in
    let known = c.args.self.now in
    let count : c.len-count.result ≡ count_in known = omega (arith, c.len-count.ensures, length-map known.moments.items (λ roots. roots.items)) in
    closed_last objects known c.args.roots.now agrees
    (last_roots-same (moments_in known) c.last_roots.result.now c.args.roots.now c.len-count.result c.eq.result c.last_roots.ensures count c.eq.ensures c.if-eq.true)

pub returns-in_err-add_layer-clause-agrees : goal.returns-in_err-add_layer-clause-agrees
returns-in_err-add_layer-clause-agrees g c honest agrees =
    let objects = g.C.Objects.objects (g.C.Objects.state_of c.args.objects.now) in
    Agrees-known_same objects c.args.self.now c.add_layer.new.self c.in_err-add_layer.ensures.err agrees

pub returns-then-branch-count-clause-agrees : goal.returns-then-branch-count-clause-agrees
returns-then-branch-count-clause-agrees g c honest agrees =
    let objects = g.C.Objects.objects (g.C.Objects.state_of c.args.objects.now) in
    let known = c.args.self.now in
    let links = links_in objects in
    let roots = c.args.roots.now in
    let all : c.in_ok-last_reached.field-0 ≡ count_in known = omega (arith, c.if-branch-count.true, c.len-count.ensures, length-map known.moments.items (λ roots. roots.items)) in
    let reach : ReachesLast objects known roots = subst (λ n. ReachesLayers links (moments_in known) n roots) all (c.in_ok-last_reached.ensures.reached honest) in
    rw c.in_ok-last_reached.ensures.kept at c.in_ok-add_layer.ensures.agrees honest agrees reach

pub returns-then-branch-count-clause-last : goal.returns-then-branch-count-clause-last
returns-then-branch-count-clause-last g c = last_roots-added (moments_in c.add_layer.new.self) (moments_in c.args.self.now) c.args.roots.now c.in_ok-add_layer.ensures.moments
