use Rattle.std.proofs.Common.{Ok, ap, inr, refl, subst, rules}
use Rattle.vc_exchange.proofs.KeptLemmas.{keeps_beside_refs}
use Rattle.vc_tracking.specs.Moving.{told_in}
use Rattle.vc_exchange.specs.Receiving.{IsAdvertTaken}
use Rattle.vc_exchange.specs.declared.receiving.Advertised.{Advertised}
use Rattle.vc_fetch.specs.AdvertView.{advert_text}
use Rattle.vc_files.proofs.WearLemmas.{writes_none}
use Rattle.vc_model.specs.CloneCall.CloneCall.{Receive}
use Rattle.vc_node.proofs.ExchangingLemmas.{advert_blamed, advert_failed, advert_followed, advert_may, advert_no_message, advert_refused, advert_unexpected, advert_wanted, awaiting, err_is, still_awaiting}
use Rattle.vc_node.proofs.KeepingLemmas.{good_same}
use Rattle.vc_lemmas.proofs.Lists.{on_err}
use Rattle.vc_node.proofs.LearningLemmas.{learns_failed, learns_none, learns_taken}
use Rattle.vc_local.proofs.LookLemmas.{looks_none, or_told}
use Rattle.vc_node.proofs.ReceivingClone.{nothing_beside, refs_beside}
use Rattle.vc_node.proofs.ReceivingFaults.{device_from, kept_as}
use Rattle.vc_node.specs.Awaited.{awaited_text}
use Rattle.vc_node.specs.declared.exchanging.Received.TheVariants.{Moved, Send}
use Rattle.vc_node.proofs.exchanging.take_advert.Goals as goal

pub returns-in_default : goal.returns-in_default
returns-in_default g c = record {
  answers = λ honest m is. advert_unexpected (g.F.Files.content c.args.files.now) m c.args.awaited.now (advert_text c.args.advert) is c.in_default.not-Advert;
  leaves = record { awaits = refl; learnt = λ honest. learns_none _ _ _ _ refl (c.requires.agrees honest) };
  refused = λ honest. advert_refused (g.F.Files.content c.args.files.now) c.args.awaited.now (advert_text c.args.advert) c.in_default.not-Advert;
  kept = λ honest told. refl;
  beside = λ honest. nothing_beside (g.F.Files.content c.args.files.now);
  good = λ honest. good_same _ _ refl;
  wear = writes_none (λ never. never);
  looks = λ honest m is awaited n waiting held. inr (looks_none (λ never. never));
}

pub returns-in_err-asked-clause-answers : goal.returns-in_err-asked-clause-answers
returns-in_err-asked-clause-answers g c = λ honest m is.
    still_awaiting (Receive m) _ _ _ _ _ (ap awaited_text c.in-Advert.is)
    (advert_failed (g.F.Files.content c.args.files.now) (g.F.Files.content c.receive_advert.new.files) m (advert_text c.args.advert) is (c.receive_advert.ensures.outside honest) (c.receive_advert.ensures.bad honest)
    c.in_err-asked.field-0.0 c.from_residual.result c.from_residual.ensures.1 (c.in_err-asked.ensures.refused honest (c.requires.agrees honest)) (c.in_err-asked.ensures.cut honest (c.requires.agrees honest)))

pub returns-in_err-asked-clause-refused : goal.returns-in_err-asked-clause-refused
returns-in_err-asked-clause-refused g c = λ honest.
    advert_blamed (g.F.Files.content c.args.files.now) (awaited_text c.args.awaited.now) (advert_text c.args.advert) c.in_err-asked.field-0.0 c.from_residual.result (ap awaited_text c.in-Advert.is) c.from_residual.ensures.1
    (c.in_err-asked.ensures.refused honest (c.requires.agrees honest))

pub returns-in_err-asked-clause-kept : goal.returns-in_err-asked-clause-kept
returns-in_err-asked-clause-kept g c = λ honest.
    kept_as c.in_err-asked.field-0.0 c.from_residual.result c.from_residual.ensures.1
    (λ told. absurd (advert_no_message (g.F.Files.content c.args.files.now) c.in_err-asked.field-0.0 (c.in_err-asked.ensures.refused honest (c.requires.agrees honest)) told))

pub returns-in_err-asked-clause-looks : goal.returns-in_err-asked-clause-looks
returns-in_err-asked-clause-looks g c = λ honest m is.
    advert_may (g.F.Files.content c.args.files.now) m (awaited_text c.args.awaited.now) (ap awaited_text c.in-Advert.is) (λ r holds.
    or_told (c.receive_advert.ensures.looks honest (c.requires.agrees honest) r holds m is) (λ may. may)
    (device_from c.receive_advert.result c.in_err-asked.field-0.0 c.in_err-asked.was c.from_residual.result c.from_residual.ensures.1))

pub returns-in-Wanted-clause-answers : goal.returns-in-Wanted-clause-answers
returns-in-Wanted-clause-answers g c = λ honest m is.
    awaiting (Receive m) (Ok (Send c.in-Wanted.asked.bytes)) _ _ _ _ (ap awaited_text c.in-Advert.is) _
    (advert_wanted (g.F.Files.content c.args.files.now) (g.F.Files.content c.receive_advert.new.files) m (advert_text c.args.advert) is (c.receive_advert.ensures.outside honest) (c.receive_advert.ensures.bad honest)
    c.in-Wanted.asked.wants.items (told_in c.in-Wanted.asked.refs.items) c.in-Wanted.asked.bytes
    (λ r holds head k advert. subst (λ (x : Advertised). IsAdvertTaken r k (g.F.Files.content c.receive_advert.new.files) x) c.in-Wanted.is (c.in_ok-asked.ensures.taken honest (c.requires.agrees honest) r holds head k advert)))

pub returns-in-Wanted-clause-looks : goal.returns-in-Wanted-clause-looks
returns-in-Wanted-clause-looks g c = λ honest m is.
    advert_may (g.F.Files.content c.args.files.now) m (awaited_text c.args.awaited.now) (ap awaited_text c.in-Advert.is) (λ r holds. or_told (c.in_ok-asked.ensures.looks honest (c.requires.agrees honest) r holds m is) (λ may. may) (λ never. absurd never))

pub returns-in-Followed-clause-answers : goal.returns-in-Followed-clause-answers
returns-in-Followed-clause-answers g c = λ honest m is.
    awaiting (Receive m) (Ok (Moved c.in-Followed.moves.moved c.in-Followed.moves.left)) _ _ _ _ (ap awaited_text c.in-Advert.is) _
    (advert_followed (g.F.Files.content c.args.files.now) (g.F.Files.content c.receive_advert.new.files) m (advert_text c.args.advert) is (c.receive_advert.ensures.outside honest) (c.receive_advert.ensures.bad honest)
    c.in-Followed.moves.moved c.in-Followed.moves.left
    (λ r holds head k advert. subst (λ (x : Advertised). IsAdvertTaken r k (g.F.Files.content c.receive_advert.new.files) x) c.in-Followed.is (c.in_ok-asked.ensures.taken honest (c.requires.agrees honest) r holds head k advert)))

pub returns-in-Followed-clause-looks : goal.returns-in-Followed-clause-looks
returns-in-Followed-clause-looks g c = λ honest m is.
    advert_may (g.F.Files.content c.args.files.now) m (awaited_text c.args.awaited.now) (ap awaited_text c.in-Advert.is) (λ r holds. or_told (c.in_ok-asked.ensures.looks honest (c.requires.agrees honest) r holds m is) (λ may. may) (λ never. absurd never))

pub returns-in-Followed-clause-good : goal.returns-in-Followed-clause-good
returns-in-Followed-clause-good g c = λ honest. record { objects = keeps_beside_refs _ _ (c.receive_advert.ensures.outside honest); bad = search rules }

pub returns-in-Wanted-clause-good : goal.returns-in-Wanted-clause-good
returns-in-Wanted-clause-good g c = λ honest. record { objects = keeps_beside_refs _ _ (c.receive_advert.ensures.outside honest); bad = search rules }

pub returns-in_err-asked-clause-good : goal.returns-in_err-asked-clause-good
returns-in_err-asked-clause-good g c = λ honest. record { objects = keeps_beside_refs _ _ (c.receive_advert.ensures.outside honest); bad = search rules }

pub returns-in-Followed-clause-beside : goal.returns-in-Followed-clause-beside
returns-in-Followed-clause-beside g c = λ honest. refs_beside _ _ (c.receive_advert.ensures.outside honest)

pub returns-in-Wanted-clause-beside : goal.returns-in-Wanted-clause-beside
returns-in-Wanted-clause-beside g c = λ honest. refs_beside _ _ (c.receive_advert.ensures.outside honest)

pub returns-in_err-asked-clause-beside : goal.returns-in_err-asked-clause-beside
returns-in_err-asked-clause-beside g c = λ honest. refs_beside _ _ (c.receive_advert.ensures.outside honest)

pub returns-in_err-asked-clause-leaves : goal.returns-in_err-asked-clause-leaves
returns-in_err-asked-clause-leaves g c = record {
  awaits = on_err c.from_residual.result _ refl;
  learnt = λ honest.
      learns_failed _ _ _ _ c.receive_advert.result (c.receive_advert.ensures.learns honest (c.requires.agrees honest)) (keeps_beside_refs _ _ (c.receive_advert.ensures.outside honest)) c.in_err-asked.field-0.0 c.in_err-asked.was
      c.from_residual.result (err_is _ c.from_residual.result c.from_residual.ensures.1);
}

pub returns-in-Wanted-clause-leaves : goal.returns-in-Wanted-clause-leaves
returns-in-Wanted-clause-leaves g c = record { awaits = tt; learnt = λ honest. learns_taken _ _ _ _ c.receive_advert.result (c.receive_advert.ensures.learns honest (c.requires.agrees honest)) (keeps_beside_refs _ _ (c.receive_advert.ensures.outside honest)) c.in_ok-asked.was }

pub returns-in-Followed-clause-leaves : goal.returns-in-Followed-clause-leaves
returns-in-Followed-clause-leaves g c = record { awaits = tt; learnt = λ honest. learns_taken _ _ _ _ c.receive_advert.result (c.receive_advert.ensures.learns honest (c.requires.agrees honest)) (keeps_beside_refs _ _ (c.receive_advert.ensures.outside honest)) c.in_ok-asked.was }
