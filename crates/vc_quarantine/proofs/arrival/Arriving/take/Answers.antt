use Rattle.std.proofs.Common.{rules, ◌≡◌, List, [], Option, Some, None, IsSome, sym, subst, true≢false}
use Rattle.vc_files.proofs.WearLemmas.{writes_both, writes_told}
use Rattle.vc_object.specs.declared.fault.ObjectFault.{ObjectFault}
use Rattle.vc_object.specs.declared.id.ObjectId.{ObjectId}
use Rattle.vc_pkt.specs.StreamObjectView.{stored}
use Rattle.vc_push.specs.Push.{carry}
use Rattle.vc_quarantine.specs.Arrival.{HasArrived}
use Rattle.vc_quarantine.proofs.ArrivalLemmas.{brought_after, brought_bad, brought_more}
use Rattle.vc_quarantine.proofs.CleanLemmas.{bad_then}
use Rattle.vc_quarantine.proofs.arrival.Arriving.take.Goals as goal

pub returns-then-is_some-clause-brought : goal.returns-then-is_some-clause-brought
returns-then-is_some-clause-brought g c = λ honest carried brought.
    let some : IsSome c.args.self.now.fault = search rules in
    brought_after _ _ _ _ carried (stored c.args.object.now) some brought

pub returns-in_default-clause-brought : goal.returns-in_default-clause-brought
returns-in_default-clause-brought g c = λ honest carried brought.
    let none : c.args.self.now.fault ≡ None = search rules in
    brought_more _ _ _ _ carried (stored c.args.object.now) _ _ none (rw c.in_default.is at c.in_ok-fault.ensures.good) (rw c.in_default.is at (c.in_ok-fault.ensures.brought honest)) brought

pub returns-in_err-drop_quarantine-clause-bad : goal.returns-in_err-drop_quarantine-clause-bad
returns-in_err-drop_quarantine-clause-bad g c = λ honest. bad_then (c.in_ok-fault.ensures.bad honest) (c.in_err-drop_quarantine.ensures.bad honest)

pub returns-in_err-drop_quarantine-clause-wear : goal.returns-in_err-drop_quarantine-clause-wear
returns-in_err-drop_quarantine-clause-wear g c = writes_both c.in_ok-fault.ensures.wear (λ never. absurd (cc never)) (writes_told c.in_err-drop_quarantine.ensures.wear (search rules) (search rules))

pub returns-clause-brought : goal.returns-clause-brought
returns-clause-brought g c = λ honest carried brought.
    let none : c.args.self.now.fault ≡ None = search rules in
    let why = rw c.in-Some.is at c.in_ok-fault.ensures.bad_body in
    let empty : c.new.result.keys ≡ [] = search rules in
    subst (λ (ids : List ObjectId). HasArrived (g.F.Files.content c.drop_quarantine.new.files) c.args.self.now.slot ids (Some c.in-Some.fault) (carry (stored c.args.object.now) carried)) (sym empty)
    (brought_bad _ _ _ _ carried (stored c.args.object.now) _ c.in-Some.fault none why.0 why.1 (c.in_ok-drop_quarantine.ensures.dropped honest) brought)

pub returns-clause-wear : goal.returns-clause-wear
returns-clause-wear g c = writes_both c.in_ok-fault.ensures.wear (λ never. absurd (cc never)) (writes_told c.in_ok-drop_quarantine.ensures.wear (λ never. absurd (cc never)) (λ never. absurd (cc never)))

pub returns-then-is_some-clause-good : goal.returns-then-is_some-clause-good
returns-then-is_some-clause-good g c = λ none.
    let some : IsSome c.args.self.now.fault = search rules in
    absurd (true≢false (sym (subst (λ (found : Option ObjectFault). IsSome found) none some)))

pub returns-then-is_some-clause-wrong : goal.returns-then-is_some-clause-wrong
returns-then-is_some-clause-wrong g c = λ none.
    let some : IsSome c.args.self.now.fault = search rules in
    absurd (true≢false (sym (subst (λ (found : Option ObjectFault). IsSome found) none some)))

pub returns-in_default-clause-good : goal.returns-in_default-clause-good
returns-in_default-clause-good g c = λ none. rw none (rw c.in_default.is at c.in_ok-fault.ensures.good)

pub returns-in_default-clause-wrong : goal.returns-in_default-clause-wrong
returns-in_default-clause-wrong g c = λ none. rw none tt

pub returns-clause-wrong : goal.returns-clause-wrong
returns-clause-wrong g c = λ none. (rw c.in-Some.is at c.in_ok-fault.ensures.bad_body).0
