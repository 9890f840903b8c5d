use Rattle.std.proofs.Common.{inl, refl, Err, None, Ok}
use Rattle.std.proofs.lemmas.Result.{err_from_is_err_and}
use Rattle.vc_files.proofs.WearLemmas.{writes_none}
use Rattle.vc_fetch.specs.Pack.{PackText}
use Rattle.vc_message.specs.AnyView.{message_text}
use Rattle.vc_message.specs.AnyMessage.{a_pack}
use Rattle.vc_known.proofs.StoredLemmas.{known_kept}
use Rattle.vc_push.specs.PushView.{head_text}
use Rattle.vc_shared.proofs.AcceptingLemmas.{pack_declined}
use Rattle.vc_shared.proofs.ArrivingLemmas.{changes_none, no_device, stopped_by}
use Rattle.vc_shared.proofs.ComingLemmas.{head_tellable, kept_none, message_accepts, message_lost, nothing_accepts, opened_writes, push_accepts, push_lost, stopped_accepts, told_writes, was_read}
use Rattle.vc_shared.proofs.HoldingLemmas.{good_same}
use Rattle.vc_shared.specs.AcceptFault.{of_incoming}
use Rattle.vc_shared.specs.declared.accept_fault.AcceptFault.TheVariants.{Node}
use Rattle.vc_shared.specs.declared.fault.SharedFault.TheVariants.{Unexpected}
use Rattle.vc_message.proofs.SourceLaws.{loss_then, ok_is_no_error, tells_error, tells_not, tells_ok, tells_then}
use Rattle.vc_shared.proofs.LossLemmas.{loss_came, loss_of_slot, loss_told, message_is_no_loss, node_is_no_loss}
use Rattle.vc_shared.proofs.arriving.take_next.Goals as goal

pub returns-in_err-found-clause-accepts : goal.returns-in_err-found-clause-accepts
returns-in_err-found-clause-accepts g c =
    let content = g.F.Files.content c.args.files.now in
    let p = err_from_is_err_and c.from_residual.result c.from_residual.ensures.1 in
    rw (p.1, p.2) (stopped_accepts g.F.Files.honest (g.R.Source.remaining c.args.reader.now) (g.R.Source.remaining c.read_head.new.reader) content content c.args.slots.now (of_incoming c.in_err-found.field-0.0)
    (λ honest is_up calm. kept_none content c.args.slots.now is_up) (stopped_by _ _ c.in_err-found.field-0.0 c.in_err-found.ensures.fault))

pub returns-in_err-found-clause-lost : goal.returns-in_err-found-clause-lost
returns-in_err-found-clause-lost g c =
    let p = err_from_is_err_and c.from_residual.result c.from_residual.ensures.1 in
    rw (p.1, p.2) (record {
      failures = inl (tells_error c.in_err-found.ensures.failures (loss_told c.in_err-found.field-0.0) (loss_came c.in_err-found.field-0.0));
      kept = λ honest which is_up. kept_none _ _ is_up;
    })

pub returns-in_err-found-clause-outside : goal.returns-in_err-found-clause-outside
returns-in_err-found-clause-outside g c = λ honest. changes_none _ _

pub returns-in_err-found-clause-good : goal.returns-in_err-found-clause-good
returns-in_err-found-clause-good g c = λ honest. good_same _ _ refl

pub returns-in_err-found-clause-wear : goal.returns-in_err-found-clause-wear
returns-in_err-found-clause-wear g c = writes_none (no_device c.in_err-found.field-0.0 c.from_residual.result c.from_residual.ensures.1)

pub returns-in_default-clause-accepts : goal.returns-in_default-clause-accepts
returns-in_default-clause-accepts g c = nothing_accepts _ _ _ _ _ _ _ (Ok None) (rw c.in_default.is at c.in_ok-found.ensures.end) refl

pub returns-in_default-clause-lost : goal.returns-in_default-clause-lost
returns-in_default-clause-lost g c = record { failures = inl (tells_ok c.in_ok-found.ensures.failures ok_is_no_error); kept = λ honest. tt }

pub returns-in_default-clause-outside : goal.returns-in_default-clause-outside
returns-in_default-clause-outside g c = λ honest. changes_none _ _

pub returns-in_default-clause-good : goal.returns-in_default-clause-good
returns-in_default-clause-good g c = λ honest. good_same _ _ refl

pub returns-in_default-clause-wear : goal.returns-in_default-clause-wear
returns-in_default-clause-wear g c = writes_none (λ device. device)

pub take-requires : goal.take-requires
take-requires g c = record { read = was_read _ _ (message_text c.in-Message.message) (rw c.in-Message.is at (rw c.in-Some.is at c.in_ok-found.ensures.head)); tellable = c.requires.tellable; agrees = c.requires.agrees }

pub returns-in-Message-clause-accepts : goal.returns-in-Message-clause-accepts
returns-in-Message-clause-accepts g c =
    let content = g.F.Files.content in
    message_accepts g.F.Files.honest (g.R.Source.remaining c.args.reader.now) (g.R.Source.remaining c.read_head.new.reader) (content c.args.files.now) (content c.take.new.files) c.args.slots.now c.take.new.slots c.told.result
    (message_text c.in-Message.message) (rw c.in-Message.is at (rw c.in-Some.is at c.in_ok-found.ensures.head)) c.take.result c.told.ensures c.take.ensures.answered c.take.ensures.refused c.take.ensures.answers

pub returns-in-Message-clause-lost : goal.returns-in-Message-clause-lost
returns-in-Message-clause-lost g c = record {
  failures = inl (tells_not c.in_ok-found.ensures.failures ok_is_no_error (message_is_no_loss c.take.result c.told.result c.told.ensures));
  kept = λ honest. message_lost (g.F.Files.content c.args.files.now) (g.F.Files.content c.take.new.files) c.args.slots.now c.take.new.slots c.take.result c.told.result c.told.ensures;
}

pub returns-in-Message-clause-wear : goal.returns-in-Message-clause-wear
returns-in-Message-clause-wear g c = told_writes c.take.result c.told.result c.told.ensures c.take.ensures.wear

pub take_push-requires : goal.take_push-requires
take_push-requires g c =
    let head = rw c.in-Push.is at (rw c.in-Some.is at c.in_ok-found.ensures.head) in
    record { few = rw c.in-Some.is at c.in_ok-found.ensures.few; told = head_tellable _ _ _ _ (head_text c.in-Push.asked) head; tellable = c.requires.tellable }

pub returns-in-Push-clause-accepts : goal.returns-in-Push-clause-accepts
returns-in-Push-clause-accepts g c =
    let content = g.F.Files.content in
    let head = rw c.in-Push.is at (rw c.in-Some.is at c.in_ok-found.ensures.head) in
    push_accepts g.F.Files.honest (g.R.Source.remaining c.args.reader.now) (g.R.Source.remaining c.read_head.new.reader) (g.R.Source.remaining c.take_push.new.reader) c.in-Some.found.1.bytes c.in-Some.found.1.lines (head_text c.in-Push.asked) head
    (content c.args.files.now) (content c.take_push.new.files) c.args.slots.now c.take_push.new.slots c.take_push.result c.opened.result c.opened.ensures c.take_push.ensures.opened c.take_push.ensures.unchanged c.take_push.ensures.refused.why
    c.take_push.ensures.cleared c.take_push.ensures.outside (λ honest. (c.take_push.ensures.good honest).bad)

pub returns-in-Push-clause-lost : goal.returns-in-Push-clause-lost
returns-in-Push-clause-lost g c = record {
  failures = loss_of_slot c.take_push.result c.opened.result c.opened.ensures (loss_then c.in_ok-found.ensures.failures ok_is_no_error c.take_push.ensures.refused.failures);
  kept = λ honest.
      push_lost (g.F.Files.content c.args.files.now) (g.F.Files.content c.take_push.new.files) c.args.slots.now c.take_push.new.slots c.take_push.result c.opened.result c.opened.ensures c.take_push.ensures.unchanged
      (c.take_push.ensures.cleared honest) (c.take_push.ensures.outside honest) (c.take_push.ensures.good honest).bad;
}

pub returns-in-Push-clause-wear : goal.returns-in-Push-clause-wear
returns-in-Push-clause-wear g c = opened_writes c.take_push.result c.opened.result c.opened.ensures c.take_push.ensures.wear

pub returns-in_err-skip_pack-in-Pack-clause-accepts : goal.returns-in_err-skip_pack-in-Pack-clause-accepts
returns-in_err-skip_pack-in-Pack-clause-accepts g c =
    let content = g.F.Files.content c.args.files.now in
    let head = rw c.in-Pack.is at (rw c.in-Some.is at c.in_ok-found.ensures.head) in
    let p = err_from_is_err_and c.from_residual-in_err-skip_pack-in-Pack.result c.from_residual-in_err-skip_pack-in-Pack.ensures.1 in
    rw (p.1, p.2) (stopped_accepts g.F.Files.honest (g.R.Source.remaining c.args.reader.now) (g.R.Source.remaining c.skip_pack.new.reader) content content c.args.slots.now (of_incoming c.in_err-skip_pack-in-Pack.field-0.0)
    (λ honest is_up calm. kept_none content c.args.slots.now is_up)
    (stopped_by _ _ c.in_err-skip_pack-in-Pack.field-0.0 (c.in_err-skip_pack-in-Pack.ensures.fault (g.R.Source.remaining c.args.reader.now) c.in-Pack.field-0 head)))

pub returns-in_err-skip_pack-in-Pack-clause-lost : goal.returns-in_err-skip_pack-in-Pack-clause-lost
returns-in_err-skip_pack-in-Pack-clause-lost g c =
    let p = err_from_is_err_and c.from_residual-in_err-skip_pack-in-Pack.result c.from_residual-in_err-skip_pack-in-Pack.ensures.1 in
    let call = tells_then c.in_ok-found.ensures.failures ok_is_no_error c.in_err-skip_pack-in-Pack.ensures.failures in
    rw (p.1, p.2) (record {
      failures = inl (tells_error call (loss_told c.in_err-skip_pack-in-Pack.field-0.0) (loss_came c.in_err-skip_pack-in-Pack.field-0.0));
      kept = λ honest which is_up. kept_none _ _ is_up;
    })

pub returns-in_err-skip_pack-in-Pack-clause-outside : goal.returns-in_err-skip_pack-in-Pack-clause-outside
returns-in_err-skip_pack-in-Pack-clause-outside g c = λ honest. changes_none _ _

pub returns-in_err-skip_pack-in-Pack-clause-good : goal.returns-in_err-skip_pack-in-Pack-clause-good
returns-in_err-skip_pack-in-Pack-clause-good g c = λ honest. good_same _ _ refl

pub returns-in_err-skip_pack-in-Pack-clause-wear : goal.returns-in_err-skip_pack-in-Pack-clause-wear
returns-in_err-skip_pack-in-Pack-clause-wear g c =
    writes_none (no_device c.in_err-skip_pack-in-Pack.field-0.0 c.from_residual-in_err-skip_pack-in-Pack.result c.from_residual-in_err-skip_pack-in-Pack.ensures.1)

pub returns-in_ok-skip_pack-in-Pack-clause-accepts : goal.returns-in_ok-skip_pack-in-Pack-clause-accepts
returns-in_ok-skip_pack-in-Pack-clause-accepts g c =
    let content = g.F.Files.content c.args.files.now in
    let head = rw c.in-Pack.is at (rw c.in-Some.is at c.in_ok-found.ensures.head) in
    let all = c.in_ok-skip_pack-in-Pack.ensures.end (g.R.Source.remaining c.args.reader.now) c.in-Pack.field-0 head in
    let pack : PackText = record { ack = c.in-Pack.field-0; objects = all.0 } in
    message_accepts g.F.Files.honest (g.R.Source.remaining c.args.reader.now) (g.R.Source.remaining c.skip_pack.new.reader) content content c.args.slots.now c.args.slots.now (Err (Node Unexpected))
    (a_pack pack) all.1 (Err Unexpected) refl (λ honest. tt) (λ honest. refl) (λ honest m text. pack_declined content c.args.slots.now m pack text)

pub returns-in_ok-skip_pack-in-Pack-clause-lost : goal.returns-in_ok-skip_pack-in-Pack-clause-lost
returns-in_ok-skip_pack-in-Pack-clause-lost g c = record {
  failures = inl (tells_not (tells_then c.in_ok-found.ensures.failures ok_is_no_error c.in_ok-skip_pack-in-Pack.ensures.failures) ok_is_no_error node_is_no_loss);
  kept = λ honest never. absurd (cc never);
}

pub returns-in_ok-skip_pack-in-Pack-clause-outside : goal.returns-in_ok-skip_pack-in-Pack-clause-outside
returns-in_ok-skip_pack-in-Pack-clause-outside g c = λ honest. changes_none _ _

pub returns-in_ok-skip_pack-in-Pack-clause-good : goal.returns-in_ok-skip_pack-in-Pack-clause-good
returns-in_ok-skip_pack-in-Pack-clause-good g c = λ honest. good_same _ _ refl

pub returns-in_ok-skip_pack-in-Pack-clause-wear : goal.returns-in_ok-skip_pack-in-Pack-clause-wear
returns-in_ok-skip_pack-in-Pack-clause-wear g c = writes_none (λ device. device)

pub returns-in-Push-clause-known : goal.returns-in-Push-clause-known
returns-in-Push-clause-known g c = λ honest. known_kept _ _ c.args.known.now (c.take_push.ensures.good honest).objects (c.requires.agrees honest)
