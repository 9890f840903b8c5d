use Rattle.std.proofs.Common.{rules, ◌++◌}
use Rattle.vc_graph.proofs.FaultLemmas.{IsTold-more}
use Rattle.vc_object_map.proofs.WalkLemmas.{ReachedFrom-append_left, ReachedFrom-append_right}
use Rattle.vc_object.specs.ObjectMap.{links_in}
use Rattle.vc_object_map.specs.Store.{objects, IsDamaged}
use Rattle.vc_pack.proofs.answer.sent_objects.Goals as goal

pub returns-in_err-lacked-clause-refused : goal.returns-in_err-lacked-clause-refused
returns-in_err-lacked-clause-refused g c honest =
    let content = g.F.Files.content c.args.files.now in
    let links = links_in (objects content) in
    let told = IsTold-more (objects content) (IsDamaged content) c.args.counted.now (c.args.wants.now ++ c.args.counted.now) (ReachedFrom-append_right links c.args.wants.now c.args.counted.now) c.in_err-lacked.field-0.0 (c.in_err-lacked.ensures.refused honest) in
    search (rules, told)

pub returns-in_err-sent-clause-refused : goal.returns-in_err-sent-clause-refused
returns-in_err-sent-clause-refused g c honest =
    let content = g.F.Files.content c.args.files.now in
    let links = links_in (objects content) in
    let refused = rw c.in_ok-lacked.ensures.same at (c.in_err-sent.ensures.refused honest) in
    let told = IsTold-more (objects content) (IsDamaged content) c.args.wants.now (c.args.wants.now ++ c.args.counted.now) (ReachedFrom-append_left links c.args.wants.now c.args.counted.now) c.in_err-sent.field-0.0 refused in
    search (rules, told)

pub returns-clause-sent : goal.returns-clause-sent
returns-clause-sent g c honest agrees =
    let sent = rw c.in_ok-lacked.ensures.same at c.in_ok-sent.ensures.sent in
    sent honest c.args.counted.now (c.in_ok-lacked.ensures.reach honest agrees)
