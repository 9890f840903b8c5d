use Rattle.std.proofs.Common.{arith, rules, ◌≡◌, ℕ, List, true, false, sym, ap, subst, refl, ◌∙◌, Result, Ok, Err, true≢false}
use Rattle.std.specs.Prelude.{Contains, IsOk}
use Rattle.std.specs.List.{list_any}
use Rattle.std.proofs.lemmas.Map.Views.{Contains-from_any, list_any-from_Contains}
use Rattle.indexmap.specs.IndexSet.{insert_key}
use Rattle.vc_fetch.proofs.Packs.{ok_object, err_object}
use Rattle.vc_fetch.specs.Pack.{is_object}
use Rattle.vc_object.proofs.IdLemmas.{id_eq-same, id_eq_equiv}
use Rattle.vc_object.specs.Decoding.{stored_object}
use Rattle.vc_object.specs.Object.{IsObject, object_name}
use Rattle.vc_object.specs.ObjectFault.{BodyFault}
use Rattle.vc_object.specs.declared.fault.ObjectFault.{ObjectFault}
use Rattle.vc_object.specs.declared.object.Object.{Object}
use Rattle.vc_object.specs.ObjectId.{id_eq}
use Rattle.vc_object.specs.declared.kind.Kind.{Kind}
use Rattle.vc_pkt.specs.Carried.{stored_name}
use Rattle.vc_pkt.specs.StreamObjectView.{stored}
use Rattle.vc_quarantine.proofs.ArrivalLemmas.{brings_again, brings_put}
use Rattle.vc_quarantine.proofs.arrival.keep_arrived.Goals as goal

pub returns-in-Err-clause-bad_body : goal.returns-in-Err-clause-bad_body
returns-in-Err-clause-bad_body g c =
    let kind = c.args.object.now.kind in
    let not_ok : IsOk c.check.result → ⊥ = λ ok. true≢false (sym (subst (λ (r : Result Object ObjectFault). IsOk r) c.in-Err.is ok)) in
    let none : IsObject kind c.deref.result.now → ⊥ = λ object. not_ok (c.check.ensures.exact.1 object) in (
      subst (λ (b : List ℕ). is_object (stored_object kind b) ≡ false) c.deref.ensures.value (sym (err_object kind c.deref.result.now (omega arith) none)),
      subst (λ (b : List ℕ). BodyFault kind b c.in-Err.fault) c.deref.ensures.value c.in-Err.ensures.fault,
    )

pub returns-then-contains-clause-good : goal.returns-then-contains-clause-good
returns-then-contains-clause-good g c =
    let kind = c.args.object.now.kind in
    sym (subst (λ (b : List ℕ). true ≡ is_object (stored_object kind b)) c.deref.ensures.value (ok_object kind c.deref.result.now (c.in-Ok.ensures.exact.0 refl)))

pub returns-then-contains-clause-brought : goal.returns-then-contains-clause-brought
returns-then-contains-clause-brought g c = λ honest before brings.
    let o = stored c.args.object.now in
    let name : c.name_of-id.result ≡ stored_name o = c.name_of-id.ensures.name ∙ ap (object_name c.args.object.now.kind) c.deref-2.ensures.value in
    let found : list_any (id_eq c.name_of-id.result) c.args.names.now.keys ≡ true = search rules in
    let among : Contains c.args.names.now.keys (stored_name o) = subst (Contains c.args.names.now.keys) name (Contains-from_any id_eq-same c.name_of-id.result c.args.names.now.keys found) in
    brings_again c.args.slot c.args.names.now.keys before o (g.F.Files.content c.args.files.now) among brings

pub returns-clause-good : goal.returns-clause-good
returns-clause-good g c =
    let kind = c.args.object.now.kind in
    sym (subst (λ (b : List ℕ). true ≡ is_object (stored_object kind b)) c.deref.ensures.value (ok_object kind c.deref.result.now (c.in-Ok.ensures.exact.0 refl)))

pub returns-clause-brought : goal.returns-clause-brought
returns-clause-brought g c = λ honest before brings.
    let o = stored c.args.object.now in
    let p = stored_object c.in-Ok.checked.kind c.in-Ok.checked.body.now in
    let names = c.args.names.now.keys in
    let id = c.name_of-id.result in
    let name : id ≡ stored_name o = c.name_of-id.ensures.name ∙ ap (object_name c.args.object.now.kind) c.deref-2.ensures.value in
    let body : c.in-Ok.checked.body.now ≡ c.args.object.now.body.items = c.in-Ok.ensures.ok.1 ∙ c.deref.ensures.value in
    let is : p ≡ o = ap (λ (k : Kind). stored_object k c.in-Ok.checked.body.now) c.in-Ok.ensures.ok.0 ∙ ap (stored_object c.args.object.now.kind) body in
    let missed : list_any (id_eq id) names ≡ false = search rules in
    let first : Contains names id → ⊥ = λ among. true≢false (sym (list_any-from_Contains id_eq_equiv id names among) ∙ missed) in
    let after : c.insert.new.self.keys ≡ insert_key id_eq names id = search (rules, c.in_ok-insert.ensures.keys) in
    brings_put c.args.slot names c.insert.new.self.keys before o p id (g.F.Files.content c.args.files.now) (g.F.Files.content c.put_named.new.files) name is after first (c.in_ok-put_named.ensures.objects honest) brings
