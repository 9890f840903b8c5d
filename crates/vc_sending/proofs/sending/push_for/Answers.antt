use Rattle.std.proofs.Common.{◌≡◌, map, refl}
use Rattle.vc_sending.specs.Sending.{AreSent, command_for, item_ids}
use Rattle.vc_object_map.specs.Graph.{IsClosedUnder}
use Rattle.vc_object.specs.ObjectMap.{links_in}
use Rattle.vc_pkt.specs.ObjectStreamView.{carried}
use Rattle.vc_push.specs.PushView.{commands_of}
use Rattle.vc_object_map.specs.Store.{objects}
use Rattle.vc_sending.proofs.sending.push_for.Goals as goal

pub returns-clause-push : goal.returns-clause-push
returns-clause-push g c honest stands =
    let content = g.F.Files.content c.args.files.now in
    let items = c.args.items.now in
    let ids : c.in_ok-ids.ids.items ≡ item_ids items = c.in_ok-ids.ensures in
    let closed : IsClosedUnder (links_in (objects content)) (item_ids items) = rw (c.deref.ensures.value, ids) at (c.in_ok-objects.ensures.complete honest stands) in
    let sent : AreSent content (item_ids items) (carried c.in_ok-objects.objects) = rw (c.deref.ensures.value, ids) at (c.in_ok-objects.ensures.sent honest stands) in
    let commands : commands_of c.in_ok-commands.commands.items ≡ map (command_for content) items =
    rw c.in_ok-objects.ensures.same at (c.in_ok-commands.ensures.commands honest) in
    record {
      complete = closed;
      commands = commands;
      set = carried c.in_ok-objects.objects;
      carried = refl;
      sorted = c.in_ok-objects.ensures.sorted honest;
      sent = sent;
    }
