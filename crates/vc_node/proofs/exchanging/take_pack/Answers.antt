use Rattle.std.proofs.Common.{Ok, ap, inr, refl, subst, sym, true, ◌∙◌}
use Rattle.vc_tracking.specs.Moving.{told_in}
use Rattle.vc_fetch.specs.PackView.{pack_text}
use Rattle.vc_files.proofs.WearLemmas.{writes_none}
use Rattle.vc_files.specs.FileMap.{FileMap}
use Rattle.vc_model.specs.CloneCall.CloneCall.{Receive}
use Rattle.vc_node.proofs.ExchangingLemmas.{awaiting, err_is, pack_blamed, pack_failed, pack_refused, pack_taken, pack_unexpected, same_pack, still_awaiting}
use Rattle.vc_node.proofs.KeepingLemmas.{good_same}
use Rattle.vc_lemmas.proofs.Lists.{on_err}
use Rattle.vc_node.proofs.LearningLemmas.{learns_failed, learns_none, learns_taken}
use Rattle.vc_local.proofs.LookLemmas.{looks_none}
use Rattle.vc_node.proofs.ReceivingClone.{beside_kept, nothing_beside}
use Rattle.vc_node.proofs.ReceivingFaults.{incomplete_alone, kept_as}
use Rattle.vc_node.specs.Awaited.{awaited_text}
use Rattle.vc_local.specs.Machine.{HoldsNode}
use Rattle.vc_node.specs.declared.exchanging.Received.TheVariants.{Moved}
use Rattle.vc_node.proofs.exchanging.take_pack.Goals as goal

pub returns-in_default : goal.returns-in_default
returns-in_default g c = record {
  answers = λ honest m is. pack_unexpected (g.F.Files.content c.args.files.now) m c.args.awaited.now (pack_text c.args.pack.now) is c.in_default.not-Pack;
  leaves = record { awaits = refl; learnt = λ honest. learns_none _ _ _ _ refl (c.requires.agrees honest) };
  refused = λ honest. pack_refused (g.F.Files.content c.args.files.now) c.args.awaited.now (pack_text c.args.pack.now) c.in_default.not-Pack;
  kept = λ honest told. refl;
  beside = λ honest. nothing_beside (g.F.Files.content c.args.files.now);
  good = λ honest. good_same _ _ refl;
  wear = writes_none (λ never. never);
  looks = λ honest m is awaited n waiting held. inr (looks_none (λ never. never));
}

pub returns-in_err-moves-clause-answers : goal.returns-in_err-moves-clause-answers
returns-in_err-moves-clause-answers g c = λ honest m is.
    awaiting (Receive m) _ _ _ _ _ (ap awaited_text c.in-Pack.is) _
    (still_awaiting (Receive m) _ _ _ _ _ (same_pack _ _ _ _ (sym c.deref.ensures.value) (sym c.deref-2.ensures.value))
    (pack_failed (g.F.Files.content c.args.files.now) (g.F.Files.content c.receive_pack.new.files) c.deref.result.now (told_in c.deref-2.result.now) m (pack_text c.args.pack.now) is
    (beside_kept _ _ (c.receive_pack.ensures.beside honest)) (c.receive_pack.ensures.good honest).bad c.in_err-moves.field-0.0 c.from_residual.result c.from_residual.ensures.1 (c.in_err-moves.ensures.refused honest (c.requires.agrees honest))
    (λ id lacks awaited n. subst (λ (m : FileMap). HoldsNode m true awaited n) (sym (c.in_err-moves.ensures.unchanged honest (c.requires.agrees honest) id lacks))) (c.in_err-moves.ensures.cut honest (c.requires.agrees honest))))

pub returns-in_err-moves-clause-refused : goal.returns-in_err-moves-clause-refused
returns-in_err-moves-clause-refused g c = λ honest.
    pack_blamed (g.F.Files.content c.args.files.now) (awaited_text c.args.awaited.now) c.deref.result.now (told_in c.deref-2.result.now) (pack_text c.args.pack.now) c.in_err-moves.field-0.0 c.from_residual.result
    (ap awaited_text c.in-Pack.is ∙ same_pack _ _ _ _ (sym c.deref.ensures.value) (sym c.deref-2.ensures.value)) c.from_residual.ensures.1 (c.in_err-moves.ensures.refused honest (c.requires.agrees honest))

pub returns-in_err-moves-clause-kept : goal.returns-in_err-moves-clause-kept
returns-in_err-moves-clause-kept g c = λ honest.
    kept_as c.in_err-moves.field-0.0 c.from_residual.result c.from_residual.ensures.1
    (λ told. let one = incomplete_alone c.in_err-moves.field-0.0 told in c.in_err-moves.ensures.unchanged honest (c.requires.agrees honest) one.0 one.1)

pub returns-clause-answers : goal.returns-clause-answers
returns-clause-answers g c = λ honest m is.
    awaiting (Receive m) (Ok (Moved c.in_ok-moves.moves.moved c.in_ok-moves.moves.left)) _ _ _ _ (ap awaited_text c.in-Pack.is ∙ same_pack _ _ _ _ (sym c.deref.ensures.value) (sym c.deref-2.ensures.value)) _
    (pack_taken (g.F.Files.content c.args.files.now) (g.F.Files.content c.receive_pack.new.files) c.deref.result.now (told_in c.deref-2.result.now) m (pack_text c.args.pack.now) is
    (beside_kept _ _ (c.receive_pack.ensures.beside honest)) (c.receive_pack.ensures.good honest).bad c.in_ok-moves.moves.moved c.in_ok-moves.moves.left (c.in_ok-moves.ensures.taken honest (c.requires.agrees honest)))

pub returns-in_err-moves-clause-leaves : goal.returns-in_err-moves-clause-leaves
returns-in_err-moves-clause-leaves g c = record {
  awaits = on_err c.from_residual.result _ (sym (ap awaited_text c.in-Pack.is));
  learnt = λ honest.
      learns_failed _ _ _ _ c.receive_pack.result (c.receive_pack.ensures.learns honest (c.requires.agrees honest)) (c.receive_pack.ensures.good honest).objects c.in_err-moves.field-0.0 c.in_err-moves.was
      c.from_residual.result (err_is _ c.from_residual.result c.from_residual.ensures.1);
}

pub returns-clause-leaves : goal.returns-clause-leaves
returns-clause-leaves g c = record { awaits = tt; learnt = λ honest. learns_taken _ _ _ _ c.receive_pack.result (c.receive_pack.ensures.learns honest (c.requires.agrees honest)) (c.receive_pack.ensures.good honest).objects c.in_ok-moves.was }
