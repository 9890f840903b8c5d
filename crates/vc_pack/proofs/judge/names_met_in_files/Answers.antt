use Rattle.std.proofs.Common.{rules}
use Rattle.vc_object_map.proofs.OverlayLemmas.{IsClosedUnder-with_carried}
use Rattle.vc_pack.proofs.JudgeLemmas.{all_under, err_under, ok_under}
use Rattle.vc_fetch.specs.PackObjects.{objects_in}
use Rattle.vc_object_map.specs.Graph.{IsClosedUnder, ReachedFrom}
use Rattle.vc_object_map.specs.StoreFault.{IsMet}
use Rattle.vc_graph.specs.Incomplete.{IsFirstIncomplete}
use Rattle.vc_object_map.specs.Overlay.{with_carried}
use Rattle.vc_object.specs.ObjectMap.{links_in}
use Rattle.vc_pkt.specs.ObjectStreamView.{carried}
use Rattle.vc_object_map.specs.Store.{objects, IsDamaged}
use Rattle.vc_pack.proofs.judge.names_met_in_files.Goals as goal

pub returns-clause-complete : goal.returns-clause-complete
returns-clause-complete g c honest whole =
    let stored = objects (g.F.Files.content c.args.files.now) in
    let brought = objects_in (carried c.args.carried.now.objects.now) in
    let links = links_in (with_carried stored brought) in
    all_under (IsClosedUnder links c.args.wants.now) c.in_ok-found.found (rw c.new.ensures.files at c.in_ok-found.ensures.complete) honest (IsClosedUnder-with_carried stored brought c.args.known.keys whole)

pub returns-clause-met : goal.returns-clause-met
returns-clause-met g c honest whole =
    let stored = objects (g.F.Files.content c.args.files.now) in
    let brought = objects_in (carried c.args.carried.now.objects.now) in
    let links = links_in (with_carried stored brought) in
    ok_under (λ met. IsClosedUnder links met.keys) c.in_ok-found.found (rw c.new.ensures.files at c.in_ok-found.ensures.met) honest (IsClosedUnder-with_carried stored brought c.args.known.keys whole)

pub returns-clause-first : goal.returns-clause-first
returns-clause-first g c honest =
    let links = links_in (with_carried (objects (g.F.Files.content c.args.files.now)) (objects_in (carried c.args.carried.now.objects.now))) in
    err_under (IsFirstIncomplete links c.args.wants.now) c.in_ok-found.found (rw c.new.ensures.files at c.in_ok-found.ensures.first) honest

pub returns-in_err-found-clause-refused : goal.returns-in_err-found-clause-refused
returns-in_err-found-clause-refused g c honest =
    let content = g.F.Files.content c.args.files.now in
    let links = links_in (with_carried (objects content) (objects_in (carried c.args.carried.now.objects.now))) in
    let blames : IsMet (ReachedFrom links c.args.wants.now) (IsDamaged content) c.in_err-found.field-0.0 = rw c.new.ensures.files at (c.in_err-found.ensures.refused honest) in
    search (rules, blames)
