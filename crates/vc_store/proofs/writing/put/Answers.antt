use Rattle.std.proofs.Common.{rules, ◌≡◌, ℕ, List, Result, Err, refl, inl, inr}
use Rattle.vc_object.specs.Object.{IsObject}
use Rattle.vc_object.specs.ObjectFault.{BodyFault}
use Rattle.vc_object.specs.declared.fault.ObjectFault.{ObjectFault}
use Rattle.vc_object.specs.declared.id.ObjectId.{ObjectId}
use Rattle.vc_object.specs.declared.kind.Kind.{Kind}
use Rattle.vc_object.proofs.OneFault.{no_body_fault, two_bodies}
use Rattle.vc_object_map.specs.declared.faults.StoreFault.TheVariants.{BadObject}
use Rattle.vc_object_map.specs.declared.faults.StoreFault.{StoreFault}
use Rattle.vc_store.proofs.writing.put.Goals as goal

-- the body was found to be an object's, so it has no fault
never : (kind : Kind) (body : List ℕ) → IsObject kind body → (r : Result ObjectId StoreFault) (e : ObjectFault) → BodyFault kind body e → r ≡ Err (BadObject e)
never kind body object r e fault = absurd (no_body_fault kind body e object fault)

pub returns-in_err-object-clause-answers : goal.returns-in_err-object-clause-answers
returns-in_err-object-clause-answers g c =
    let same = λ (e : ObjectFault). two_bodies c.args.kind c.args.body.now c.in_err-object.field-0.0 e c.in_err-object.ensures.fault in
    record { name = search rules; legal = search rules; refused = search rules; only = λ e fault. search (rules, same e fault) }

pub returns-in_err-put_named-clause-answers : goal.returns-in_err-put_named-clause-answers
returns-in_err-put_named-clause-answers g c =
    let object = c.in_ok-object.ensures.exact.0 refl in
    record { name = search rules; legal = search rules; refused = search rules; only = λ e. never c.args.kind c.args.body.now object _ e }

pub returns-clause-answers : goal.returns-clause-answers
returns-clause-answers g c =
    let object = c.in_ok-object.ensures.exact.0 refl in
    record { name = search rules; legal = search rules; refused = search rules; only = λ e. never c.args.kind c.args.body.now object _ e }

-- only what is no object is refused before anything is looked for
pub returns-in_err-object-clause-looks : goal.returns-in_err-object-clause-looks
returns-in_err-object-clause-looks g c = inr (search rules)

pub returns-in_err-put_named-clause-looks : goal.returns-in_err-put_named-clause-looks
returns-in_err-put_named-clause-looks g c = inl (c.in_ok-object.ensures.exact.0 refl)

pub returns-clause-looks : goal.returns-clause-looks
returns-clause-looks g c = inl (c.in_ok-object.ensures.exact.0 refl)
