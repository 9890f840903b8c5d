use Rattle.std.proofs.Common.{arith, ◌≡◌, ℕ, List, true, false, sym, subst, refl, Result, true≢false}
use Rattle.std.specs.Prelude.{IsOk}
use Rattle.vc_fetch.proofs.Packs.{ok_object, err_object}
use Rattle.vc_fetch.specs.Pack.{is_object}
use Rattle.vc_object.specs.Decoding.{stored_object}
use Rattle.vc_object.specs.Object.{IsObject}
use Rattle.vc_object.specs.declared.fault.ObjectFault.{ObjectFault}
use Rattle.vc_object.specs.declared.object.Object.{Object}
use Rattle.vc_message.proofs.skipping.admit.Goals as goal

pub returns-in-Ok-clause-ok : goal.returns-in-Ok-clause-ok
returns-in-Ok-clause-ok c =
    let kind = c.args.object.now.kind in
    sym (subst (λ (b : List ℕ). true ≡ is_object (stored_object kind b)) c.deref.ensures.value (ok_object kind c.deref.result.now (c.in-Ok.ensures.exact.0 refl)))

pub returns-in-Err-clause-fault : goal.returns-in-Err-clause-fault
returns-in-Err-clause-fault c =
    let kind = c.args.object.now.kind in
    let not_ok : IsOk c.check.result → ⊥ = λ ok. true≢false (sym (subst (λ (r : Result Object ObjectFault). IsOk r) c.in-Err.is ok)) in
    let none : IsObject kind c.deref.result.now → ⊥ = λ object. not_ok (c.check.ensures.exact.1 object) in
    (refl, subst (λ (b : List ℕ). is_object (stored_object kind b) ≡ false) c.deref.ensures.value (sym (err_object kind c.deref.result.now (omega arith) none)))
