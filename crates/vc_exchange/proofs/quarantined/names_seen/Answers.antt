use Rattle.vc_object_map.proofs.OverlayLemmas.{IsClosedUnder-with_carried}
use Rattle.vc_pack.proofs.JudgeLemmas.{all_under, err_under, ok_under}
use Rattle.vc_object_map.specs.Graph.{IsClosedUnder}
use Rattle.vc_graph.specs.Incomplete.{IsFirstIncomplete}
use Rattle.vc_object.specs.ObjectMap.{links_in}
use Rattle.vc_push_rules.specs.Quarantine.{objects_seen, quarantined}
use Rattle.vc_object_map.specs.Store.{objects}
use Rattle.vc_exchange.proofs.quarantined.names_seen.Goals as goal

pub returns-clause-complete : goal.returns-clause-complete
returns-clause-complete g c honest whole =
    let content = g.F.Files.content c.args.files.now in
    let links = links_in (objects_seen content 0) in
    all_under (IsClosedUnder links c.args.wants.now) c.in_ok-found.found c.in_ok-found.ensures.complete honest (IsClosedUnder-with_carried (objects content) (quarantined content 0) c.args.known.keys whole)

pub returns-clause-met : goal.returns-clause-met
returns-clause-met g c honest whole =
    let content = g.F.Files.content c.args.files.now in
    let links = links_in (objects_seen content 0) in
    ok_under (λ met. IsClosedUnder links met.keys) c.in_ok-found.found c.in_ok-found.ensures.met honest (IsClosedUnder-with_carried (objects content) (quarantined content 0) c.args.known.keys whole)

pub returns-clause-first : goal.returns-clause-first
returns-clause-first g c honest =
    let links = links_in (objects_seen (g.F.Files.content c.args.files.now) 0) in
    err_under (IsFirstIncomplete links c.args.wants.now) c.in_ok-found.found c.in_ok-found.ensures.first honest
