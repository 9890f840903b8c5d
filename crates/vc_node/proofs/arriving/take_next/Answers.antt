use Rattle.std.proofs.Common.{inl, refl}
use Rattle.std.proofs.lemmas.Result.{err_from_is_err_and}
use Rattle.vc_exchange.proofs.QuarantinedLemmas.{others_same}
use Rattle.vc_files.proofs.FileMapLemmas.{outside_same}
use Rattle.vc_files.proofs.WearLemmas.{writes_none}
use Rattle.vc_quarantine.proofs.CleanLemmas.{bad_same}
use Rattle.vc_node.proofs.ArrivingLemmas.{no_device, stopped_by}
use Rattle.vc_node.proofs.ComingLemmas.{comes_lost, comes_receives, nothing_receives, stopped_receives, told_cleared, told_none, told_receives, told_lost, told_writes}
use Rattle.vc_quarantine.specs.Learning.{learnt_in}
use Rattle.vc_node.proofs.KeepingLemmas.{good_same}
use Rattle.vc_node.proofs.LearningLemmas.{learns_none, told_leaves}
use Rattle.vc_node.specs.Awaited.{awaited_text}
use Rattle.vc_node.specs.ReceiveFault.{of_incoming}
use Rattle.vc_message.proofs.SourceLaws.{loss_then, ok_is_no_error, tells_error, tells_ok}
use Rattle.vc_node.proofs.LossLemmas.{loss_came, loss_of_some, loss_told}
use Rattle.vc_node.proofs.arriving.take_next.Goals as goal

-- ---- no message
pub returns-in_err-found-clause-receives : goal.returns-in_err-found-clause-receives
returns-in_err-found-clause-receives g c =
    let content = g.F.Files.content c.args.files.now in
    let p = err_from_is_err_and c.from_residual.result c.from_residual.ensures.1 in
    rw (p.1, p.2) (stopped_receives g.F.Files.honest (g.R.Source.remaining c.args.reader.now) (g.R.Source.remaining c.read_head.new.reader) content content (awaited_text c.args.awaited.now) (λ honest. bad_same _ _ refl) (λ honest. outside_same _ _)
    (of_incoming c.in_err-found.field-0.0) (stopped_by _ _ c.in_err-found.field-0.0 c.in_err-found.ensures.fault))

pub returns-in_err-found-clause-lost : goal.returns-in_err-found-clause-lost
returns-in_err-found-clause-lost g c =
    let p = err_from_is_err_and c.from_residual.result c.from_residual.ensures.1 in
    rw (p.1, p.2) (record {
      failures = inl (tells_error c.in_err-found.ensures.failures (loss_told c.in_err-found.field-0.0) (loss_came c.in_err-found.field-0.0));
      kept = λ honest which awaited n waiting held. (waiting, held);
    })

pub returns-in_err-found-clause-cleared : goal.returns-in_err-found-clause-cleared
returns-in_err-found-clause-cleared g c = λ honest up dropped. dropped

pub returns-in_err-found-clause-beside : goal.returns-in_err-found-clause-beside
returns-in_err-found-clause-beside g c = λ honest. others_same _ _ refl

pub returns-in_err-found-clause-good : goal.returns-in_err-found-clause-good
returns-in_err-found-clause-good g c = λ honest. good_same _ _ refl

pub returns-in_err-found-clause-wear : goal.returns-in_err-found-clause-wear
returns-in_err-found-clause-wear g c = writes_none (no_device c.in_err-found.field-0.0 c.from_residual.result c.from_residual.ensures.1)

pub returns-in_default-clause-receives : goal.returns-in_default-clause-receives
returns-in_default-clause-receives g c = nothing_receives g.F.Files.honest _ _ (g.F.Files.content c.args.files.now) (awaited_text c.args.awaited.now) (rw c.in_default.is at c.in_ok-found.ensures.end)

pub returns-in_default-clause-cleared : goal.returns-in_default-clause-cleared
returns-in_default-clause-cleared g c = λ honest up dropped. dropped

pub returns-in_default-clause-beside : goal.returns-in_default-clause-beside
returns-in_default-clause-beside g c = λ honest. others_same _ _ refl

pub returns-in_default-clause-good : goal.returns-in_default-clause-good
returns-in_default-clause-good g c = λ honest. good_same _ _ refl

pub returns-in_default-clause-wear : goal.returns-in_default-clause-wear
returns-in_default-clause-wear g c = writes_none (λ device. device)

-- ---- at least some of one
pub returns-clause-receives : goal.returns-clause-receives
returns-clause-receives g c =
    let content = g.F.Files.content in
    let head = rw c.in-Some.is at c.in_ok-found.ensures.head in
    told_receives g.F.Files.honest (g.R.Source.remaining c.args.reader.now) (g.R.Source.remaining c.take_rest-received.new.reader) (content c.args.files.now) (content c.take_rest-received.new.files) (awaited_text c.args.awaited.now) (awaited_text c.take_rest-received.new.awaited)
    c.take_rest-received.result c.told.result c.told.ensures (comes_receives g.F.Files.honest _ _ _ _ _ (λ honest. (c.take_rest-received.ensures.good honest).bad) _ c.take_rest-received.result (c.take_rest-received.ensures.comes (g.R.Source.remaining c.args.reader.now) head))

pub returns-clause-none : goal.returns-clause-none
returns-clause-none g c = told_none _ c.take_rest-received.result c.told.result c.told.ensures

pub returns-clause-lost : goal.returns-clause-lost
returns-clause-lost g c =
    let content = g.F.Files.content in
    let head = rw c.in-Some.is at c.in_ok-found.ensures.head in
    record {
      failures = loss_of_some c.take_rest-received.result c.told.result c.told.ensures (loss_then c.in_ok-found.ensures.failures ok_is_no_error c.take_rest-received.ensures.failures);
      kept = λ honest. told_lost (content c.args.files.now) (content c.take_rest-received.new.files) (awaited_text c.args.awaited.now) (awaited_text c.take_rest-received.new.awaited) c.take_rest-received.result c.told.result c.told.ensures
          (comes_lost g.F.Files.honest _ _ _ _ _ (λ honest. (c.take_rest-received.ensures.good honest).bad) honest _ c.take_rest-received.result (c.take_rest-received.ensures.comes (g.R.Source.remaining c.args.reader.now) head));
    }

-- ---- what is awaited and learnt
pub returns-in_err-found-clause-leaves : goal.returns-in_err-found-clause-leaves
returns-in_err-found-clause-leaves g c =
    let p = err_from_is_err_and c.from_residual.result c.from_residual.ensures.1 in
    rw (p.1, p.2) (record { awaits = refl; learnt = λ honest. learns_none _ _ _ _ refl (c.requires.agrees honest) })

pub returns-in_default-clause-leaves : goal.returns-in_default-clause-leaves
returns-in_default-clause-leaves g c = record { awaits = tt; learnt = λ honest. record { agrees = c.requires.agrees honest; learns = λ up. record { stayed = refl; same = refl } } }

pub returns-in_default-clause-none : goal.returns-in_default-clause-none
returns-in_default-clause-none g c = (refl, refl, refl)

pub returns-clause-leaves : goal.returns-clause-leaves
returns-clause-leaves g c =
    told_leaves g.F.Files.honest (g.F.Files.content c.args.files.now) (g.F.Files.content c.take_rest-received.new.files) (awaited_text c.args.awaited.now) (awaited_text c.take_rest-received.new.awaited) (learnt_in c.args.generations.now c.args.due.now)
    (learnt_in c.take_rest-received.new.generations c.take_rest-received.new.due) c.take_rest-received.result c.told.result c.told.ensures c.take_rest-received.ensures.leaves

pub returns-clause-cleared : goal.returns-clause-cleared
returns-clause-cleared g c = λ honest. told_cleared c.take_rest-received.result c.told.result c.told.ensures (c.take_rest-received.ensures.cleared honest)

pub returns-clause-wear : goal.returns-clause-wear
returns-clause-wear g c = told_writes c.take_rest-received.result c.told.result c.told.ensures c.take_rest-received.ensures.wear

pub returns-in_default-clause-lost : goal.returns-in_default-clause-lost
returns-in_default-clause-lost g c = record { failures = inl (tells_ok c.in_ok-found.ensures.failures ok_is_no_error); kept = λ honest. tt }
