use Rattle.std.proofs.Common.{rules, ◌≡◌, [], Ok, Option, refl, ap, sym, ◌∙◌}
use Rattle.std.specs.Prelude.{Result}
use Rattle.vc_fetch.specs.Pack as pack
use Rattle.vc_fetch.specs.PackView.{pack_state}
use Rattle.vc_fetch.specs.declared.pack.PackReader.{PackReader}
use Rattle.vc_pkt.specs.Incoming.{incoming}
use Rattle.vc_object.specs.declared.id.ObjectId.{ObjectId}
use Rattle.vc_pkt.specs.ObjectStreamView.{progress_of, set_state}
use Rattle.vc_pkt.specs.declared.carried.StreamObject.{StreamObject}
use Rattle.vc_pkt.specs.declared.incoming.IncomingObjects.{IncomingObjects}
use Rattle.vc_push.specs.Push as push
use Rattle.vc_push.specs.PushView.{head_text, incoming_view, push_state}
use Rattle.vc_push.specs.declared.push.PushReader.{PushReader}
use Rattle.vc_message.specs.AnyMessage.{in_pack, in_push}
use Rattle.vc_message.specs.AnyView.{reader_state}
use Rattle.vc_message.specs.Streaming.{of_pack, of_push}
use Rattle.vc_message.proofs.StreamingLaws.{pack_begins, push_begins}
use Rattle.vc_message.proofs.streaming.head_of.Goals as goal

pub returns-then-is_at_start : goal.returns-then-is_at_start
returns-then-is_at_start c =
    let at = c.in-Push-Objects in
    let head = head_text at.head in
    let start = c.is_at_start.ensures (search rules) in (
      of_push head (Ok []),
      refl,
      ap reader_state at.is ∙ ap (λ (r : PushReader). in_push (push_state r)) at.field-0-is
          ∙ ap (λ (carried : Result IncomingObjects StreamObject). in_push (push.streaming head (record { set = incoming_view carried; progress = progress_of at.stream.progress }))) c.in-Ok.is
          ∙ push_begins head (incoming c.in-Ok.objects) (progress_of at.stream.progress) start.0 start.1,
    )

pub returns-then-is_at_start-2 : goal.returns-then-is_at_start-2
returns-then-is_at_start-2 c =
    let at = c.in-Pack-Objects in
    let start = c.is_at_start-in-Pack-Objects.ensures (search rules) in (
      of_pack c.deref.result.now [],
      refl,
      ap reader_state at.is ∙ ap (λ (r : PackReader). in_pack (pack_state r)) at.field-0-is
          ∙ ap (λ (ack : Option ObjectId). in_pack (pack.streaming ack (set_state at.stream))) (sym c.deref.ensures)
          ∙ pack_begins c.deref.result.now (incoming at.stream.objects) (progress_of at.stream.progress) start.0 start.1,
    )
