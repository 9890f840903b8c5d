use Rattle.std.proofs.Common.{rules, ◌≡◌, Some, None, sym, refl, arith, true, false}
use Rattle.std.specs.Map.{lookup}
use Rattle.std.specs.BTreeMap.{is_at}
use Rattle.vc_pack.proofs.PackLemmas.{found_none, found_object, found_other}
use Rattle.vc_fetch.proofs.Packs.{ok_object, err_object}
use Rattle.vc_fetch.specs.Pack.{is_object}
use Rattle.vc_object.specs.ObjectId.{id_cmp}
use Rattle.vc_pkt.specs.StreamObjectView.{stored}
use Rattle.vc_pack.proofs.pack_objects.PackObjectsCarried.find.Goals as goal

pub returns-in_err-object : goal.returns-in_err-object
returns-in_err-object c =
    let es = c.args.self.now.objects.now.by_name.entries in
    let absent : lookup (is_at (id_cmp c.args.id.now)) es ≡ None = search (rules, c.get.ensures.value, c.in_err-object.is) in
    let none = found_none c.args.id.now es c.args.self.now.objects.now.named absent in
    search (rules, none)

pub returns-in-Ok : goal.returns-in-Ok
returns-in-Ok c =
    let es = c.args.self.now.objects.now.by_name.entries in
    let object = c.in_ok-object.object.now in
    let found : lookup (is_at (id_cmp c.args.id.now)) es ≡ Some object = search (rules, c.get.ensures.value, c.in_ok-object.is, c.in_ok-object.object-is) in
    let is : is_object (stored object) ≡ true = sym (rw c.deref.ensures.value at (ok_object object.kind c.deref.result.now (c.in-Ok.ensures.exact.0 refl))) in
    let there = found_object c.args.id.now es c.args.self.now.objects.now.named object found is in
    search (rules, there, c.in-Ok.ensures.ok, c.deref.ensures.value)

pub returns-in-Err : goal.returns-in-Err
returns-in-Err c =
    let es = c.args.self.now.objects.now.by_name.entries in
    let object = c.in_ok-object.object.now in
    let found : lookup (is_at (id_cmp c.args.id.now)) es ≡ Some object = search (rules, c.get.ensures.value, c.in_ok-object.is, c.in_ok-object.object-is) in
    let is : is_object (stored object) ≡ false = sym (rw c.deref.ensures.value at (err_object object.kind c.deref.result.now (omega arith) (λ h. let e = c.in-Err.ensures.exact.1 h in cc e))) in
    sym (found_other c.args.id.now es c.args.self.now.objects.now.named object found is)
