use Rattle.std.proofs.Common.{List, refl, sym, subst, rules}
use Rattle.std.proofs.lemmas.Result.{err_from_is_err_and}
use Rattle.vc_exchange.proofs.QuarantinedLemmas.{held_beside, keeps_beside_slot, others_slot, others_then}
use Rattle.vc_exchange.specs.Quarantined.{HoldsPack}
use Rattle.vc_files.proofs.WearLemmas.{writes_both, writes_told}
use Rattle.vc_files.specs.FileMap.{FileMap, SameOutside}
use Rattle.vc_object.specs.declared.id.ObjectId.{ObjectId}
use Rattle.vc_push_rules.proofs.FrameLemmas.{refs-of_slot}
use Rattle.vc_push_rules.specs.Quarantine.{quarantine_folder}
use Rattle.vc_node.proofs.ArrivedLemmas.{blames_before, exchange_writes}
use Rattle.vc_node.proofs.KeepingLemmas.{good_then}
use Rattle.vc_node.proofs.LearningLemmas.{agrees_beside, learns_none, pack_failed, pack_taken}
use Rattle.vc_node.specs.Arriving.{all_of_it, not_all}
use Rattle.vc_message.proofs.SourceLaws.{ok_is_no_error, tells_error, tells_not, tells_ok}
use Rattle.vc_node.proofs.LossLemmas.{node_is_no_loss}
use Rattle.vc_node.proofs.arriving.take_awaited.Goals as goal

pub returns-in_err-arrived-clause-left : goal.returns-in_err-arrived-clause-left
returns-in_err-arrived-clause-left g c =
    let p = err_from_is_err_and c.from_residual.result c.from_residual.ensures.1 in
    rw (p.1, p.2) (λ before ack so. not_all (c.in_err-arrived.ensures.stopped before ack so) c.in_err-arrived.ensures.outside)

pub returns-in_err-arrived-clause-beside : goal.returns-in_err-arrived-clause-beside
returns-in_err-arrived-clause-beside g c = λ honest. others_slot _ _ (c.in_err-arrived.ensures.outside honest)

pub returns-in_err-arrived-clause-good : goal.returns-in_err-arrived-clause-good
returns-in_err-arrived-clause-good g c = λ honest. record { objects = keeps_beside_slot _ _ (c.in_err-arrived.ensures.outside honest); bad = search rules }

pub returns-in_err-moves-clause-left : goal.returns-in_err-moves-clause-left
returns-in_err-moves-clause-left g c =
    let content = g.F.Files.content in
    let old = content c.args.files.now in
    let mid = content c.arrive.new.files in
    let new = content c.receive_quarantined.new.files in
    let outside = c.in_ok-arrived.ensures.outside in
    let p = err_from_is_err_and c.from_residual-in_err-moves.result c.from_residual-in_err-moves.ensures.1 in
    rw (p.1, p.2) (λ before ack so.
    let a = c.in_ok-arrived.ensures.arrived before ack so in
    let holds : g.F.Files.honest → HoldsPack mid c.as_slice.result.now a.pack = λ honest. subst (λ (names : List ObjectId). HoldsPack mid names a.pack) (sym c.as_slice.ensures.keys) (a.holds honest) in
    all_of_it c.in_err-moves.field-0.0 refl (record {
      pack = a.pack;
      taken = a.taken;
      blames = λ honest m is. blames_before old mid (outside honest) (c.in_ok-arrived.ensures.bad honest) c.args.wants.now m _ (c.in_err-moves.ensures.refused honest (agrees_beside old mid (outside honest) c.args.generations.now (c.requires.agrees honest)) a.pack (holds honest) m is);
      same = λ honest id lacks. subst (λ (f : FileMap). SameOutside (quarantine_folder 0) old f) (sym (c.in_err-moves.ensures.unchanged honest (agrees_beside old mid (outside honest) c.args.generations.now (c.requires.agrees honest)) id lacks)) (outside honest);
      cut = λ honest r held m is refs same. c.in_err-moves.ensures.cut honest (agrees_beside old mid (outside honest) c.args.generations.now (c.requires.agrees honest)) a.pack (holds honest) r (held_beside old mid (outside honest) r held) m is refs same;
    }))

pub returns-in_err-moves-clause-beside : goal.returns-in_err-moves-clause-beside
returns-in_err-moves-clause-beside g c = λ honest. others_then _ _ _ (others_slot _ _ (c.in_ok-arrived.ensures.outside honest)) (c.in_err-moves.ensures.kept honest).others

pub returns-in_err-moves-clause-good : goal.returns-in_err-moves-clause-good
returns-in_err-moves-clause-good g c = λ honest. good_then (record { objects = keeps_beside_slot _ _ (c.in_ok-arrived.ensures.outside honest); bad = c.in_ok-arrived.ensures.bad honest }) (c.in_err-moves.ensures.kept honest).good

pub returns-in_err-moves-clause-wear : goal.returns-in_err-moves-clause-wear
returns-in_err-moves-clause-wear g c =
    writes_both c.in_ok-arrived.ensures.wear (λ never. never) (exchange_writes c.in_err-moves.field-0.0 c.from_residual-in_err-moves.result c.from_residual-in_err-moves.ensures.1 c.in_err-moves.ensures.wear)

pub returns-clause-taken : goal.returns-clause-taken
returns-clause-taken g c = λ before ack so.
    let content = g.F.Files.content in
    let old = content c.args.files.now in
    let mid = content c.arrive.new.files in
    let outside = c.in_ok-arrived.ensures.outside in
    let a = c.in_ok-arrived.ensures.arrived before ack so in
    let holds : g.F.Files.honest → HoldsPack mid c.as_slice.result.now a.pack = λ honest. subst (λ (names : List ObjectId). HoldsPack mid names a.pack) (sym c.as_slice.ensures.keys) (a.holds honest) in
    record {
      pack = a.pack;
      taken = a.taken;
      received = λ honest r held m is refs same. c.in_ok-moves.ensures.taken honest (agrees_beside old mid (outside honest) c.args.generations.now (c.requires.agrees honest)) a.pack (holds honest) r (held_beside old mid (outside honest) r held) m is refs same;
    }

pub returns-clause-beside : goal.returns-clause-beside
returns-clause-beside g c = λ honest. others_then _ _ _ (others_slot _ _ (c.in_ok-arrived.ensures.outside honest)) (c.in_ok-moves.ensures.kept honest).others

pub returns-clause-good : goal.returns-clause-good
returns-clause-good g c = λ honest. good_then (record { objects = keeps_beside_slot _ _ (c.in_ok-arrived.ensures.outside honest); bad = c.in_ok-arrived.ensures.bad honest }) (c.in_ok-moves.ensures.kept honest).good

pub returns-clause-wear : goal.returns-clause-wear
returns-clause-wear g c = writes_both c.in_ok-arrived.ensures.wear (λ never. never) (writes_told c.in_ok-moves.ensures.wear (λ never. absurd (cc never)) (λ never. absurd never))

pub returns-in_err-arrived-clause-failures : goal.returns-in_err-arrived-clause-failures
returns-in_err-arrived-clause-failures g c =
    let p = err_from_is_err_and c.from_residual.result c.from_residual.ensures.1 in
    rw (p.1, p.2) (tells_error c.in_err-arrived.ensures.failures (λ is. is) (λ is. is))

pub returns-in_err-moves-clause-failures : goal.returns-in_err-moves-clause-failures
returns-in_err-moves-clause-failures g c =
    let p = err_from_is_err_and c.from_residual-in_err-moves.result c.from_residual-in_err-moves.ensures.1 in
    rw (p.1, p.2) (tells_not c.in_ok-arrived.ensures.failures ok_is_no_error node_is_no_loss)

pub returns-clause-failures : goal.returns-clause-failures
returns-clause-failures g c = tells_ok c.in_ok-arrived.ensures.failures ok_is_no_error

-- ---- what is learnt
pub returns-in_err-arrived-clause-learns : goal.returns-in_err-arrived-clause-learns
returns-in_err-arrived-clause-learns g c = λ honest.
    let p = err_from_is_err_and c.from_residual.result c.from_residual.ensures.1 in
    let outside = c.in_err-arrived.ensures.outside honest in
    rw (p.1, p.2) (learns_none _ _ _ _ (refs-of_slot 0 _ _ outside) (agrees_beside _ _ outside c.args.generations.now (c.requires.agrees honest)))

pub returns-in_err-moves-clause-learns : goal.returns-in_err-moves-clause-learns
returns-in_err-moves-clause-learns g c = λ honest.
    let content = g.F.Files.content in
    let old = content c.args.files.now in
    let mid = content c.arrive.new.files in
    let outside = c.in_ok-arrived.ensures.outside honest in
    let p = err_from_is_err_and c.from_residual-in_err-moves.result c.from_residual-in_err-moves.ensures.1 in
    rw (p.1, p.2) (pack_failed old mid (content c.receive_quarantined.new.files) outside _ _ c.receive_quarantined.result (c.receive_quarantined.ensures.learns honest (agrees_beside old mid outside c.args.generations.now (c.requires.agrees honest)))
    (c.receive_quarantined.ensures.kept honest).good.objects c.in_err-moves.field-0.0 c.in_err-moves.was)

pub returns-clause-learns : goal.returns-clause-learns
returns-clause-learns g c = λ honest.
    let content = g.F.Files.content in
    let old = content c.args.files.now in
    let mid = content c.arrive.new.files in
    let outside = c.in_ok-arrived.ensures.outside honest in
    pack_taken old mid (content c.receive_quarantined.new.files) outside _ _ c.receive_quarantined.result (c.receive_quarantined.ensures.learns honest (agrees_beside old mid outside c.args.generations.now (c.requires.agrees honest)))
    (c.receive_quarantined.ensures.kept honest).good.objects c.in_ok-moves.was
