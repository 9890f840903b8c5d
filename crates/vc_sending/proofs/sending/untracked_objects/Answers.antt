use Rattle.std.proofs.Common.{◌≡◌, ◌++◌, ◌∙◌, rules}
use Rattle.vc_known.specs.Known.{Agrees, count_in, moments_in}
use Rattle.vc_known.specs.Layers.{last_roots}
use Rattle.vc_known.specs.Reach.{IsReachOf}
use Rattle.vc_sending.proofs.SendingLemmas.{closed_front, refused_graph, sent_less}
use Rattle.vc_sending.specs.SendFault.{IsRefusedSend, from_graph}
use Rattle.vc_graph.proofs.FaultLemmas.{IsTold-more}
use Rattle.vc_object_map.proofs.WalkLemmas.{ReachedFrom-append_left, ReachedFrom-append_right}
use Rattle.vc_object.specs.ObjectMap.{links_in}
use Rattle.vc_pkt.specs.ObjectStreamView.{carried}
use Rattle.vc_object_map.specs.Store.{IsDamaged, objects}
use Rattle.vc_sending.proofs.sending.untracked_objects.Goals as goal

pub returns-in_err-renew-clause-refused : goal.returns-in_err-renew-clause-refused
returns-in_err-renew-clause-refused g c honest closed =
    let content = g.F.Files.content c.args.files.now in
    let links = links_in (objects content) in
    let ids = c.args.ids.now in
    let tracked = c.in_ok-tracked.tracked.items in
    let e = c.in_err-renew.field-0.0 in
    let met = rw (c.deref.ensures.value, c.in_ok-tracked.ensures.same) at (c.in_err-renew.ensures.refused honest) in
    let told = IsTold-more (objects content) (IsDamaged content) tracked (ids ++ tracked) (ReachedFrom-append_right links ids tracked) e met in
    let own : IsRefusedSend content ids (from_graph e) = refused_graph content ids tracked (c.in_ok-tracked.ensures.tracked honest) closed e told in
    search (rules, own)

pub returns-in_err-objects-clause-refused : goal.returns-in_err-objects-clause-refused
returns-in_err-objects-clause-refused g c honest closed =
    let content = g.F.Files.content c.args.files.now in
    let links = links_in (objects content) in
    let ids = c.args.ids.now in
    let tracked = c.in_ok-tracked.tracked.items in
    let e = c.in_err-objects.field-0.0 in
    let met = rw (c.in_ok-renew.ensures.same, c.in_ok-tracked.ensures.same) at (c.in_err-objects.ensures.refused honest) in
    let told = IsTold-more (objects content) (IsDamaged content) ids (ids ++ tracked) (ReachedFrom-append_left links ids tracked) e met in
    let own : IsRefusedSend content ids (from_graph e) = refused_graph content ids tracked (c.in_ok-tracked.ensures.tracked honest) closed e told in
    search (rules, own)

pub returns-in_err-renew-clause-agrees : goal.returns-in_err-renew-clause-agrees
returns-in_err-renew-clause-agrees g c honest agrees = rw c.in_ok-tracked.ensures.same at (c.in_err-renew.ensures.agrees honest (rw c.in_ok-tracked.ensures.same agrees))

pub returns-in_err-objects-clause-agrees : goal.returns-in_err-objects-clause-agrees
returns-in_err-objects-clause-agrees g c honest agrees = rw c.in_ok-tracked.ensures.same at (c.in_ok-renew.ensures.agrees honest (rw c.in_ok-tracked.ensures.same agrees))

pub returns-clause-agrees : goal.returns-clause-agrees
returns-clause-agrees g c honest agrees = rw c.in_ok-tracked.ensures.same at (c.in_ok-renew.ensures.agrees honest (rw c.in_ok-tracked.ensures.same agrees))

pub returns-clause-sent : goal.returns-clause-sent
returns-clause-sent g c honest before =
    let content = g.F.Files.content in
    let known = c.renew.new.known in
    let tracked = c.in_ok-tracked.tracked.items in
    let now : content c.renew.new.files ≡ content c.args.files.now = c.in_ok-renew.ensures.same ∙ c.in_ok-tracked.ensures.same in
    let roots : last_roots (moments_in known) (count_in known) ≡ tracked = c.in_ok-renew.ensures.last ∙ c.deref.ensures.value in
    let agrees : Agrees (objects (content c.args.files.now)) known = returns-clause-agrees g c honest before in
    let reach : IsReachOf (objects (content c.args.files.now)) c.reach_of_last.result tracked = rw roots at (c.reach_of_last.ensures (objects (content c.args.files.now)) agrees) in
    let sent = rw now at (c.in_ok-objects.ensures.sent honest tracked (rw now reach)) in
    sent_less (content c.args.files.now) c.args.ids.now tracked (c.in_ok-tracked.ensures.tracked honest) (carried c.in_ok-objects.objects) sent

pub returns-clause-complete : goal.returns-clause-complete
returns-clause-complete g c honest before =
    let content = g.F.Files.content in
    let known = c.renew.new.known in
    let tracked = c.in_ok-tracked.tracked.items in
    let now : content c.renew.new.files ≡ content c.args.files.now = c.in_ok-renew.ensures.same ∙ c.in_ok-tracked.ensures.same in
    let roots : last_roots (moments_in known) (count_in known) ≡ tracked = c.in_ok-renew.ensures.last ∙ c.deref.ensures.value in
    let agrees : Agrees (objects (content c.args.files.now)) known = returns-clause-agrees g c honest before in
    let reach : IsReachOf (objects (content c.args.files.now)) c.reach_of_last.result tracked = rw roots at (c.reach_of_last.ensures (objects (content c.args.files.now)) agrees) in
    let closed = rw now at (c.in_ok-objects.ensures.closed honest tracked (rw now reach)) in
    closed_front (content c.args.files.now) c.args.ids.now tracked closed
