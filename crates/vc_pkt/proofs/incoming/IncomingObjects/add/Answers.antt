use Rattle.std.proofs.Common.{rules, ap, sym, ◌∙◌}
use Rattle.vc_object.specs.Object.{object_name}
use Rattle.vc_pkt.specs.Carried.{with_object}
use Rattle.vc_pkt.specs.StreamObjectView.{stored, objects_of}
use Rattle.vc_pkt.specs.Incoming.{incoming}
use Rattle.vc_pkt.proofs.Rows.{objects_more}
use Rattle.vc_pkt.proofs.incoming.IncomingObjects.add.Goals as goal

pub returns-then-is_below : goal.returns-then-is_below
returns-then-is_below c =
    let own = c.name_of-id.ensures.name ∙ ap (λ b. object_name c.args.object.kind b) c.deref.ensures.value in
    let row = c.in-Ascending.row in
    ap objects_of c.in_ok-row-in-Ascending.ensures ∙ objects_more c.name_of-id.result c.args.object row.items.items row.named own (search rules)
    ∙ ap (λ (s : _). with_object (stored c.args.object) (incoming s)) (sym c.in-Ascending.is)
