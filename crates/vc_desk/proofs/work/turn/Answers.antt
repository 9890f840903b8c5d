use Rattle.std.proofs.Common.{◌≡◌, None, ap, map, refl, rules, subst, sym}
use Rattle.std.specs.List.{AllByRecursion}
use Rattle.vc_message.specs.Incoming.{TakesNothing}
use Rattle.vc_message.specs.Keeping.{KeepsMessage, KeepsNone}
use Rattle.vc_desk.specs.Entry.EventText.{Accepts, Steps}
use Rattle.vc_desk.specs.Talk.{receipt_text}
use Rattle.vc_desk.specs.Talk.Came.{no_message, nothing_came}
use Rattle.vc_desk.specs.Talk.Turns.{closes}
use Rattle.vc_desk.proofs.Making.{made_more}
use Rattle.vc_desk.proofs.Talking.{stepped, took}
use Rattle.vc_desk.proofs.work.turn.Goals as goal

pub returns-in-Some-clause-turns : goal.returns-in-Some-clause-turns
returns-in-Some-clause-turns g c =
    stepped c.args.limit (g.R.Source.can_fail c.args.reader) c.args.name c.args.current c.in-Some.slot _ _ _ _ _ _ _ c.in-Some.is (ap (map receipt_text) c.reserve.ensures.items)
    (c.settle-next.ensures.settles (Steps c.in-Some.slot) c.step-took.ensures.mine)

pub returns-in-Ok-Some-clause-turns : goal.returns-in-Ok-Some-clause-turns
returns-in-Ok-Some-clause-turns g c =
    let idle : c.args.current ≡ None = search rules in
    let lent : c.as_slice-in-Ok-Some.result.now ≡ c.in-Ok-Some.bytes.items = search rules in
    let come : KeepsMessage c.args.limit (g.R.Source.remaining c.args.reader) (g.R.Source.remaining c.keep_message-rest.result.0) c.in-Ok-Some.bytes.items = search rules in
    took c.args.limit (g.R.Source.can_fail c.args.reader) c.args.name c.args.current c.in-Ok-Some.bytes.items c.as_slice-in-Ok-Some.result.now _ _ _ _ _ _ _ _ idle lent come
    (ap (map receipt_text) c.reserve.ensures.items) (c.settle-next-in-Ok-Some.ensures.settles (Accepts c.as_slice-in-Ok-Some.result.now) c.accept-took.ensures.mine)

pub returns-in-Ok-None-clause-turns : goal.returns-in-Ok-None-clause-turns
returns-in-Ok-None-clause-turns g c =
    let idle : c.args.current ≡ None = search rules in
    let come : TakesNothing (g.R.Source.remaining c.args.reader) (g.R.Source.remaining c.keep_message-rest.result.0) = search rules in
    closes nothing_came idle come (ap (map receipt_text) c.reserve.ensures.items) (refl, refl)

pub returns-in-Err-clause-turns : goal.returns-in-Err-clause-turns
returns-in-Err-clause-turns g c =
    let idle : c.args.current ≡ None = search rules in
    let come : KeepsNone c.args.limit (g.R.Source.remaining c.args.reader) (g.R.Source.remaining c.keep_message-rest.result.0) c.in-Err.fault = search rules in
    closes (no_message c.in-Err.fault) idle (come, λ is. c.keep_message-rest.ensures.failures.could (search rules)) (ap (map receipt_text) c.reserve.ensures.items) c.close-next.ensures

pub returns-in-Some-clause-made : goal.returns-in-Some-clause-made
returns-in-Some-clause-made g c h = made_more g.N.Desk.made c.step-took.result _ _ _ c.reserve.ensures.items c.step-took.ensures.made c.settle-next.ensures.kept h

pub returns-in-Ok-Some-clause-made : goal.returns-in-Ok-Some-clause-made
returns-in-Ok-Some-clause-made g c h = made_more g.N.Desk.made c.accept-took.result _ _ _ c.reserve.ensures.items c.accept-took.ensures.made c.settle-next-in-Ok-Some.ensures.kept h

pub returns-in-Ok-None-clause-made : goal.returns-in-Ok-None-clause-made
returns-in-Ok-None-clause-made g c h = subst (λ l. AllByRecursion g.N.Desk.made (map receipt_text l)) (sym c.reserve.ensures.items) h

pub returns-in-Err-clause-made : goal.returns-in-Err-clause-made
returns-in-Err-clause-made g c h = subst (λ l. AllByRecursion g.N.Desk.made (map receipt_text l)) (sym c.reserve.ensures.items) h
