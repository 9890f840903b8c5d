use Rattle.std.proofs.Common.{refl, subst, sym}
use Rattle.vc_fetch.specs.WantView.{want_text}
use Rattle.vc_files.proofs.WearLemmas.{wears_writes}
use Rattle.std.specs.Prelude.{IfErr, IfOk}
use Rattle.vc_history.proofs.StoredLemmas.{keeps_same}
use Rattle.vc_known.proofs.StoredLemmas.{known_kept}
use Rattle.vc_message.specs.AnyMessage.{SpellsMessage, a_list, a_push, a_want}
use Rattle.vc_message.specs.AnyView.{message_text}
use Rattle.vc_message.specs.Machine.{TextOf}
use Rattle.vc_message.specs.Read.{WasRead}
use Rattle.vc_message.specs.declared.message.Message.{Message}
use Rattle.vc_pkt.specs.Message.{IsSpelledBy}
use Rattle.vc_push.specs.PushView.{push_text}
use Rattle.vc_shared.proofs.AcceptingLemmas.{advert_declined, error_declined, list_told, pack_declined, push_told, reply_answered, reply_refused, reply_wears, report_declined, slot_answered, slot_refused, want_told}
use Rattle.vc_shared.proofs.ArrivingLemmas.{changes_none, changes_same}
use Rattle.vc_shared.proofs.PushingTexts.{reads_tellable}
use Rattle.vc_shared.specs.Accepting.{IsAnsweredMessage, IsRefusedMessage}
use Rattle.vc_shared.specs.Pushing.{IsRefusedPush, OpensSlot}
use Rattle.vc_shared.specs.Serving.{IsAnswered, IsListed, RefusesWant}
use Rattle.vc_shared.proofs.accepting.take.Goals as goal

pub returns-in-List-clause-answers : goal.returns-in-List-clause-answers
returns-in-List-clause-answers g c = λ honest m is.
    list_told m (g.F.Files.content c.args.files.now) (g.F.Files.content c.list.new.files) c.args.slots.now c.args.slots.now c.replied.result c.list.result c.replied.ensures (subst (λ (x : Message). TextOf m (message_text x)) c.in-List.is is) (c.list.ensures.listed honest) (c.list.ensures.refused honest) c.list.ensures.same refl

pub returns-in-List-clause-wear : goal.returns-in-List-clause-wear
returns-in-List-clause-wear g c = wears_writes (reply_wears c.list.result c.replied.result c.replied.ensures c.list.ensures.wear) (λ honest. c.list.ensures.same)

pub returns-in-Want-clause-answers : goal.returns-in-Want-clause-answers
returns-in-Want-clause-answers g c = λ honest m is.
    want_told m (g.F.Files.content c.args.files.now) (g.F.Files.content c.answer.new.files) c.args.slots.now c.args.slots.now c.replied-in-Want.result (want_text c.in-Want.want) c.answer.result c.replied-in-Want.ensures (subst (λ (x : Message). WasRead (message_text x)) c.in-Want.is c.requires.read) (subst (λ (x : Message). TextOf m (message_text x)) c.in-Want.is is) (c.answer.ensures.answered honest) (c.answer.ensures.refused honest) c.answer.ensures.same refl

pub returns-in-Want-clause-refused : goal.returns-in-Want-clause-refused
returns-in-Want-clause-refused g c = λ honest.
    subst (λ (x : Message). IfErr c.replied-in-Want.result (IsRefusedMessage (g.F.Files.content c.args.files.now) c.args.slots.now (message_text x))) (sym c.in-Want.is)
    (reply_refused (RefusesWant (g.F.Files.content c.args.files.now) (want_text c.in-Want.want)) c.answer.result c.replied-in-Want.result c.replied-in-Want.ensures (c.answer.ensures.refused honest))

pub returns-in-Want-clause-wear : goal.returns-in-Want-clause-wear
returns-in-Want-clause-wear g c = wears_writes (reply_wears c.answer.result c.replied-in-Want.result c.replied-in-Want.ensures c.answer.ensures.wear) (λ honest. c.answer.ensures.same)

pub open_push-requires-clause-told : goal.open_push-requires-clause-told
open_push-requires-clause-told g c = reads_tellable (push_text c.in-Push.push) c.requires.read.0 (subst (λ (x : Message). IsSpelledBy SpellsMessage (message_text x) c.requires.read.0) c.in-Push.is c.requires.read.1)

pub returns-in-Push-clause-answers : goal.returns-in-Push-clause-answers
returns-in-Push-clause-answers g c = λ honest m is.
    push_told m (g.F.Files.content c.args.files.now) (g.F.Files.content c.open_push.new.files) c.args.slots.now c.open_push.new.slots c.opened.result (push_text c.in-Push.push) c.open_push.result c.opened.ensures (subst (λ (x : Message). TextOf m (message_text x)) c.in-Push.is is)
    (c.open_push.ensures.opened honest) c.open_push.ensures.unchanged c.open_push.ensures.refused (c.open_push.ensures.outside honest) (c.open_push.ensures.good honest).bad

pub returns-in-Push-clause-refused : goal.returns-in-Push-clause-refused
returns-in-Push-clause-refused g c = λ honest.
    subst (λ (x : Message). IfErr c.opened.result (IsRefusedMessage (g.F.Files.content c.args.files.now) c.args.slots.now (message_text x))) (sym c.in-Push.is)
    (slot_refused (IsRefusedPush c.args.slots.now) c.open_push.result c.opened.result c.opened.ensures c.open_push.ensures.refused)

pub returns-in-Advert-clause-answers : goal.returns-in-Advert-clause-answers
returns-in-Advert-clause-answers g c = λ honest m is. advert_declined (g.F.Files.content c.args.files.now) c.args.slots.now m _ (subst (λ (x : Message). TextOf m (message_text x)) c.in-Advert.is is)

pub returns-in-Pack-clause-answers : goal.returns-in-Pack-clause-answers
returns-in-Pack-clause-answers g c = λ honest m is. pack_declined (g.F.Files.content c.args.files.now) c.args.slots.now m _ (subst (λ (x : Message). TextOf m (message_text x)) c.in-Pack.is is)

pub returns-in-Report-clause-answers : goal.returns-in-Report-clause-answers
returns-in-Report-clause-answers g c = λ honest m is. report_declined (g.F.Files.content c.args.files.now) c.args.slots.now m _ (subst (λ (x : Message). TextOf m (message_text x)) c.in-Report.is is)

pub returns-clause-answers : goal.returns-clause-answers
returns-clause-answers g c = λ honest m is. error_declined (g.F.Files.content c.args.files.now) c.args.slots.now m _ (subst (λ (x : Message). TextOf m (message_text x)) c.in-Error.is is)

pub returns-in-List-clause-outside : goal.returns-in-List-clause-outside
returns-in-List-clause-outside g c = λ honest. changes_same _ _ _ c.list.ensures.same

pub returns-in-Want-clause-outside : goal.returns-in-Want-clause-outside
returns-in-Want-clause-outside g c = λ honest. changes_same _ _ _ c.answer.ensures.same

pub returns-in-Advert-clause-outside : goal.returns-in-Advert-clause-outside
returns-in-Advert-clause-outside g c = λ honest. changes_none _ _

pub returns-in-Pack-clause-outside : goal.returns-in-Pack-clause-outside
returns-in-Pack-clause-outside g c = λ honest. changes_none _ _

pub returns-in-Report-clause-outside : goal.returns-in-Report-clause-outside
returns-in-Report-clause-outside g c = λ honest. changes_none _ _

pub returns-clause-outside : goal.returns-clause-outside
returns-clause-outside g c = λ honest. changes_none _ _

pub returns-in-List-clause-answered : goal.returns-in-List-clause-answered
returns-in-List-clause-answered g c = λ honest.
    let old = g.F.Files.content c.args.files.now in
    let new = g.F.Files.content c.list.new.files in
    let slots = c.args.slots.now in
    subst (λ (x : Message). IfOk c.replied.result (IsAnsweredMessage old new slots slots (message_text x))) (sym c.in-List.is)
    (reply_answered (λ bytes. IsListed old bytes.items) (IsAnsweredMessage old new slots slots a_list) c.list.result c.replied.result c.replied.ensures (λ bytes so. so) (c.list.ensures.listed honest))

pub returns-in-Want-clause-answered : goal.returns-in-Want-clause-answered
returns-in-Want-clause-answered g c = λ honest.
    let old = g.F.Files.content c.args.files.now in
    let new = g.F.Files.content c.answer.new.files in
    let slots = c.args.slots.now in
    subst (λ (x : Message). IfOk c.replied-in-Want.result (IsAnsweredMessage old new slots slots (message_text x))) (sym c.in-Want.is)
    (reply_answered (λ bytes. IsAnswered old (want_text c.in-Want.want) bytes.items) (IsAnsweredMessage old new slots slots (a_want (want_text c.in-Want.want))) c.answer.result c.replied-in-Want.result c.replied-in-Want.ensures (λ bytes so. so) (c.answer.ensures.answered honest))

pub returns-in-Push-clause-answered : goal.returns-in-Push-clause-answered
returns-in-Push-clause-answered g c = λ honest.
    let old = g.F.Files.content c.args.files.now in
    let new = g.F.Files.content c.open_push.new.files in
    let slots = c.args.slots.now in
    let after = c.open_push.new.slots in
    subst (λ (x : Message). IfOk c.opened.result (IsAnsweredMessage old new slots after (message_text x))) (sym c.in-Push.is)
    (slot_answered (OpensSlot new slots after (push_text c.in-Push.push)) (IsAnsweredMessage old new slots after (a_push (push_text c.in-Push.push))) c.open_push.result c.opened.result c.opened.ensures (λ k so. so) (c.open_push.ensures.opened honest))

pub returns-in-List-clause-known : goal.returns-in-List-clause-known
returns-in-List-clause-known g c = λ honest. known_kept _ _ c.args.known.now (keeps_same _ _ c.list.ensures.same) (c.requires.agrees honest)

pub returns-in-Want-clause-known : goal.returns-in-Want-clause-known
returns-in-Want-clause-known g c = λ honest. known_kept _ _ c.answer.new.known (keeps_same _ _ c.answer.ensures.same) (c.answer.ensures.known honest)

pub returns-in-Push-clause-known : goal.returns-in-Push-clause-known
returns-in-Push-clause-known g c = λ honest. known_kept _ _ c.args.known.now (c.open_push.ensures.good honest).objects (c.requires.agrees honest)
