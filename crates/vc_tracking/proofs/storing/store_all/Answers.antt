use Rattle.std.proofs.Common.{arith, rules, ◌≡◌, ◌∷◌, ℕ, List, map, true, false, sym, subst, refl, ◌∙◌}
use Rattle.std.specs.Prelude.{IsOk}
use Rattle.std.specs.Map.Iter.{deref_pair}
use Rattle.std.proofs.lemmas.Map.Iter.{rest_more, rest_all}
use Rattle.vc_fetch.proofs.Packs.{ok_object, err_object}
use Rattle.vc_fetch.specs.Pack.{is_object}
use Rattle.vc_files.specs.FileMap.{FileMap}
use Rattle.vc_files.proofs.FileMapLemmas.{outside_same, outside_then}
use Rattle.vc_files.proofs.WearLemmas.{writes_both, writes_none, writes_told}
use Rattle.vc_object.specs.Decoding.{StoredObject, stored_object}
use Rattle.vc_object.specs.Object.{IsObject}
use Rattle.vc_object.specs.ObjectId.{IsSortedByName}
use Rattle.vc_object.specs.declared.id.ObjectId.{ObjectId}
use Rattle.vc_pkt.specs.Carried.{stored_name}
use Rattle.vc_pkt.specs.ObjectStreamView.{carried}
use Rattle.vc_pkt.specs.StreamObjectView.{AreNamed, objects_of, stored}
use Rattle.vc_pkt.specs.declared.carried.StreamObject.{StreamObject}
use Rattle.vc_push_rules.proofs.CarryingLemmas.{fewer}
use Rattle.vc_quarantine.proofs.CleanLemmas.{bad_same, bad_then}
use Rattle.vc_object_map.specs.Store.{objects, with_file, with_object}
use Rattle.vc_tracking.specs.Storing.{AreSomeStored}
use Rattle.vc_tracking.proofs.StoringLemmas.{IsStoring, first_named, later_named, put_bad, storing_all, storing_none, storing_passed, storing_put, storing_some}
use Rattle.vc_tracking.proofs.storing.store_all.Goals as goal
use Rattle.vc_lemmas.proofs.Lists.{on_err}

pub loop-id-init : goal.loop-id-init
loop-id-init g c =
    let rest = c.into_iter-id-iterator.ensures.into_iter_gives ∙ c.iter-id-items.ensures.rest in
    let content = g.F.Files.content c.args.files.now in
    let all = carried c.args.objects.now in
    record {
      storing = λ honest. subst (λ (rest : List (ObjectId × StreamObject)). IsStoring content content all (objects_of rest)) (sym rest) (storing_none content all);
      sorted =
          subst (λ (rest : List (ObjectId × StreamObject)). IsSortedByName (map stored_name (objects_of rest))) (sym rest)
          (subst (λ (ids : List ObjectId). IsSortedByName ids) c.args.objects.now.named c.iter-id-items.ensures.ordered);
      named = subst (λ (rest : List (ObjectId × StreamObject)). AreNamed rest) (sym rest) c.args.objects.now.named;
      outside = λ honest. outside_same _ _;
      bad = λ honest. bad_same _ _ refl;
      wear = writes_none (λ never. never);
    }

pub put_named-requires : goal.put_named-requires
put_named-requires g c = search rules

pub loop-id-preserved-in-Continue-1 : goal.loop-id-preserved-in-Continue-1
loop-id-preserved-in-Continue-1 g c =
    let content = g.F.Files.content in
    let now = content c.loop-id.files in
    let new = content c.put_named.new.files in
    let all = carried c.args.objects.now in
    let id = c.in-Some.id.now in
    let o = stored c.in-Some.object.now in
    let entry : ObjectId × StreamObject = (id, c.in-Some.object.now) in
    let next : c.loop-id.id-iterator ≡ entry ∷ c.next.new.self = rest_more deref_pair _ _ _ (c.in-Some.id, c.in-Some.object) c.in-Some.is c.next.ensures.steps in
    let all_named : AreNamed (entry ∷ c.next.new.self) = subst (λ (rest : List (ObjectId × StreamObject)). AreNamed rest) next c.loop-id.invariant.named in
    let named : id ≡ stored_name o = first_named entry c.next.new.self all_named in
    let ok : IsOk c.check.result = search rules in
    let good : is_object o ≡ true = subst (λ (b : List ℕ). is_object (stored_object o.kind b) ≡ true) c.deref.ensures.value (sym (ok_object o.kind c.deref.result.now (c.check.ensures.exact.0 ok))) in
    let same : stored_object c.in-Ok.object.kind c.in-Ok.object.body.now ≡ o = search rules in
    let sorted : IsSortedByName (map stored_name (o ∷ objects_of c.next.new.self)) = subst (λ (rest : List (ObjectId × StreamObject)). IsSortedByName (map stored_name (objects_of rest))) next c.loop-id.invariant.sorted in
    let file : g.F.Files.honest → new ≡ with_file now o = λ honest. subst (λ (x : StoredObject). new ≡ with_file now x) same (c.in_ok-put_named.ensures.files honest) in
    let made : g.F.Files.honest → objects new ≡ with_object (objects now) id o = λ honest. subst (λ (x : StoredObject). objects new ≡ with_object (objects now) id x) same (c.in_ok-put_named.ensures.objects honest) in
    record {
      storing = λ honest.
          storing_put all (objects_of c.next.new.self) o (content c.args.files.now) now new id good named (made honest)
          (subst (λ (rest : List (ObjectId × StreamObject)). IsStoring (content c.args.files.now) now all (objects_of rest)) next (c.loop-id.invariant.storing honest));
      sorted = fewer o (objects_of c.next.new.self) sorted;
      named = later_named entry c.next.new.self all_named;
      outside = λ honest. outside_then (c.loop-id.invariant.outside honest) (c.in_ok-put_named.ensures.outside honest);
      bad = λ honest. bad_then (c.loop-id.invariant.bad honest) (put_bad now new id o.kind o.body named (c.in_ok-put_named.ensures.outside honest) (file honest) (made honest));
      wear = writes_both c.loop-id.invariant.wear (λ never. never) (writes_told c.in_ok-put_named.ensures.wear (search rules) (λ never. absurd never));
    }

pub loop-id-preserved : goal.loop-id-preserved
loop-id-preserved g c =
    let content = g.F.Files.content in
    let now = content c.loop-id.files in
    let all = carried c.args.objects.now in
    let o = stored c.in-Some.object.now in
    let entry : ObjectId × StreamObject = (c.in-Some.id.now, c.in-Some.object.now) in
    let next : c.loop-id.id-iterator ≡ entry ∷ c.next.new.self = rest_more deref_pair _ _ _ (c.in-Some.id, c.in-Some.object) c.in-Some.is c.next.ensures.steps in
    let all_named : AreNamed (entry ∷ c.next.new.self) = subst (λ (rest : List (ObjectId × StreamObject)). AreNamed rest) next c.loop-id.invariant.named in
    let none : IsObject o.kind c.deref.result.now → ⊥ = λ object.
    let ok : IsOk c.check.result = c.check.ensures.exact.1 object in
    search (rules, ok)
    in
    let bad : is_object o ≡ false = subst (λ (b : List ℕ). is_object (stored_object o.kind b) ≡ false) c.deref.ensures.value (sym (err_object o.kind c.deref.result.now (omega arith) none)) in
    let sorted : IsSortedByName (map stored_name (o ∷ objects_of c.next.new.self)) = subst (λ (rest : List (ObjectId × StreamObject)). IsSortedByName (map stored_name (objects_of rest))) next c.loop-id.invariant.sorted in
    record {
      storing = λ honest.
          storing_passed all (objects_of c.next.new.self) o (content c.args.files.now) now sorted bad
          (subst (λ (rest : List (ObjectId × StreamObject)). IsStoring (content c.args.files.now) now all (objects_of rest)) next (c.loop-id.invariant.storing honest));
      sorted = fewer o (objects_of c.next.new.self) sorted;
      named = later_named entry c.next.new.self all_named;
      outside = c.loop-id.invariant.outside;
      bad = c.loop-id.invariant.bad;
      wear = c.loop-id.invariant.wear;
    }

pub returns-in_err-put_named-clause-left : goal.returns-in_err-put_named-clause-left
returns-in_err-put_named-clause-left g c = λ honest.
    let content = g.F.Files.content in
    let old = content c.args.files.now in
    let all = carried c.args.objects.now in
    let same : content c.put_named.new.files ≡ content c.loop-id.files = search (rules, c.in_err-put_named.ensures.err honest) in
    let some : AreSomeStored old (content c.loop-id.files) all = storing_some old (content c.loop-id.files) all (objects_of c.loop-id.id-iterator) (c.loop-id.invariant.storing honest) in
    on_err c.from_residual.result _ (subst (λ (m : FileMap). AreSomeStored old m all) (sym same) some)

pub returns-in_err-put_named-clause-wear : goal.returns-in_err-put_named-clause-wear
returns-in_err-put_named-clause-wear g c = writes_both c.loop-id.invariant.wear (λ never. never) (writes_told c.in_err-put_named.ensures.wear (search rules) (search rules))

pub returns-clause-stored : goal.returns-clause-stored
returns-clause-stored g c = λ honest.
    let content = g.F.Files.content in
    let none = rest_all deref_pair _ _ _ c.in-None.is c.next.ensures.steps in
    storing_all (content c.args.files.now) (content c.loop-id.files) (carried c.args.objects.now)
    (subst (λ (rest : List (ObjectId × StreamObject)). IsStoring (content c.args.files.now) (content c.loop-id.files) (carried c.args.objects.now) (objects_of rest)) none (c.loop-id.invariant.storing honest))
