use Rattle.std.proofs.Common.{arith, rules, ◌≡◌, ℕ, ◌∷◌, List, map, true, false, sym, ap, subst, refl, ◌∙◌, Result, Ok, Err, true≢false}
use Rattle.std.specs.Prelude.{IsOk}
use Rattle.std.specs.Map.Iter.{deref}
use Rattle.std.proofs.lemmas.Map.Iter.{rest_more, rest_all}
use Rattle.vc_fetch.proofs.Packs.{ok_object, err_object}
use Rattle.vc_fetch.specs.Pack.{is_object}
use Rattle.vc_files.proofs.FileMapLemmas.{outside_same, outside_then}
use Rattle.vc_files.proofs.WearLemmas.{writes_both, writes_none, writes_told}
use Rattle.vc_object.specs.Decoding.{stored_object}
use Rattle.vc_object.specs.Object.{IsObject}
use Rattle.vc_object.specs.declared.kind.Kind.{Kind}
use Rattle.vc_object.specs.ObjectId.{IsSortedByName}
use Rattle.vc_object.specs.declared.id.ObjectId.{ObjectId}
use Rattle.vc_pkt.specs.Carried.{stored_name}
use Rattle.vc_pkt.specs.ObjectStreamView.{carried}
use Rattle.vc_pkt.specs.StreamObjectView.{stored}
use Rattle.vc_pkt.specs.declared.carried.StreamObject.{StreamObject}
use Rattle.vc_push_rules.proofs.CarryingLemmas.{IsHeld, fewer, held_all, held_none, held_passed, held_put}
use Rattle.vc_quarantine.proofs.CleanLemmas.{bad_same, bad_then}
use Rattle.vc_session.proofs.opening.put_all.Goals as goal

never_ok : {A E : Type 0} (r : Result A E) → ((a : A) → r ≡ Ok a → ⊥) → IsOk r → ⊥
never_ok (Ok a) none ok = none a refl
never_ok (Err e) none ok = true≢false (sym ok)

pub loop-object-init : goal.loop-object-init
loop-object-init g c =
    let rest = c.into_iter-object-iterator.ensures.into_iter_gives ∙ c.values-object-items.ensures.rest in
    record {
      held = λ honest dropped.
          subst (λ (rest : List StreamObject). IsHeld (g.F.Files.content c.args.files.now) c.args.slot c.new-names.result.items (carried c.args.objects.now) (map stored rest)) (sym rest)
          (subst (λ (names : List ObjectId). IsHeld (g.F.Files.content c.args.files.now) c.args.slot names (carried c.args.objects.now) (carried c.args.objects.now)) (sym c.new-names.ensures.items) (held_none (g.F.Files.content c.args.files.now) c.args.slot (carried c.args.objects.now) dropped));
      sorted =
          subst (λ (rest : List StreamObject). IsSortedByName (map stored_name (map stored rest))) (sym rest)
          (subst (λ (ids : List ObjectId). IsSortedByName ids) c.args.objects.now.named c.values-object-items.ensures.ordered);
      outside = λ honest. outside_same _ _;
      bad = λ honest. bad_same _ _ refl;
      wear = writes_none (λ never. never);
    }

pub returns-in_err-id-clause-outside : goal.returns-in_err-id-clause-outside
returns-in_err-id-clause-outside g c = λ honest. outside_then (c.loop-object.invariant.outside honest) (c.in_err-id.ensures.outside honest)

pub returns-in_err-id-clause-bad : goal.returns-in_err-id-clause-bad
returns-in_err-id-clause-bad g c = λ honest. bad_then (c.loop-object.invariant.bad honest) (c.in_err-id.ensures.bad honest)

pub returns-in_err-id-clause-wear : goal.returns-in_err-id-clause-wear
returns-in_err-id-clause-wear g c = writes_both c.loop-object.invariant.wear (λ never. never) (writes_told c.in_err-id.ensures.wear (search rules) (search rules))

pub loop-object-preserved-in-Continue-branch-2 : goal.loop-object-preserved-in-Continue-branch-2
loop-object-preserved-in-Continue-branch-2 g c =
    let content = g.F.Files.content in
    let all = carried c.args.objects.now in
    let o = stored c.in-Some.object.now in
    let p = stored_object c.in-Ok.object.kind c.in-Ok.object.body.now in
    let next = rest_more deref _ _ _ c.in-Some.object c.in-Some.is c.next.ensures.steps in
    let body : c.in-Ok.object.body.now ≡ c.in-Some.object.now.body.items = c.in-Ok.ensures.ok.1 ∙ c.deref.ensures.value in
    let is : p ≡ o = ap (λ (k : Kind). stored_object k c.in-Ok.object.body.now) c.in-Ok.ensures.ok.0 ∙ ap (stored_object c.in-Some.object.now.kind) body in
    let good : is_object o ≡ true =
    subst (λ (b : List ℕ). is_object (stored_object c.in-Some.object.now.kind b) ≡ true) c.deref.ensures.value (sym (ok_object c.in-Some.object.now.kind c.deref.result.now (c.in-Ok.ensures.exact.0 refl))) in
    let sorted : IsSortedByName (map stored_name (o ∷ map stored c.next.new.self)) = subst (λ (rest : List StreamObject). IsSortedByName (map stored_name (map stored rest))) next c.loop-object.invariant.sorted in
    record {
      held = λ honest dropped.
          let before : IsHeld (content c.loop-object.files) c.args.slot c.loop-object.names.items all (o ∷ map stored c.next.new.self) =
          subst (λ (rest : List StreamObject). IsHeld (content c.loop-object.files) c.args.slot c.loop-object.names.items all (map stored rest)) next (c.loop-object.invariant.held honest dropped) in
          subst (λ (names : List ObjectId). IsHeld (content c.put_in_quarantine.new.files) c.args.slot names all (map stored c.next.new.self)) (sym c.in_ok-push.ensures.items)
          (held_put c.args.slot c.loop-object.names.items all (map stored c.next.new.self) o p c.in_ok-id.id (content c.loop-object.files) (content c.put_in_quarantine.new.files) is c.in_ok-id.ensures.name good sorted (c.in_ok-id.ensures.objects honest) before);
      sorted = fewer o (map stored c.next.new.self) sorted;
      outside = λ honest. outside_then (c.loop-object.invariant.outside honest) (c.in_ok-id.ensures.outside honest);
      bad = λ honest. bad_then (c.loop-object.invariant.bad honest) (c.in_ok-id.ensures.bad honest);
      wear = writes_both c.loop-object.invariant.wear (λ never. never) (writes_told c.in_ok-id.ensures.wear (search rules) (λ never. absurd never));
    }

pub returns-in_err-push-clause-outside : goal.returns-in_err-push-clause-outside
returns-in_err-push-clause-outside g c = λ honest. outside_then (c.loop-object.invariant.outside honest) (c.in_ok-id.ensures.outside honest)

pub returns-in_err-push-clause-bad : goal.returns-in_err-push-clause-bad
returns-in_err-push-clause-bad g c = λ honest. bad_then (c.loop-object.invariant.bad honest) (c.in_ok-id.ensures.bad honest)

pub returns-in_err-push-clause-wear : goal.returns-in_err-push-clause-wear
returns-in_err-push-clause-wear g c = writes_both c.loop-object.invariant.wear (λ never. never) (writes_told c.in_ok-id.ensures.wear (search rules) (search rules))

pub loop-object-preserved : goal.loop-object-preserved
loop-object-preserved g c =
    let content = g.F.Files.content in
    let all = carried c.args.objects.now in
    let o = stored c.in-Some.object.now in
    let next = rest_more deref _ _ _ c.in-Some.object c.in-Some.is c.next.ensures.steps in
    let none : IsObject c.in-Some.object.now.kind c.deref.result.now → ⊥ = λ object. never_ok c.check.result c.in_default.not-Ok (c.check.ensures.exact.1 object) in
    let bad : is_object o ≡ false =
    subst (λ (b : List ℕ). is_object (stored_object c.in-Some.object.now.kind b) ≡ false) c.deref.ensures.value (sym (err_object c.in-Some.object.now.kind c.deref.result.now (omega arith) none)) in
    let sorted : IsSortedByName (map stored_name (o ∷ map stored c.next.new.self)) = subst (λ (rest : List StreamObject). IsSortedByName (map stored_name (map stored rest))) next c.loop-object.invariant.sorted in
    record {
      held = λ honest dropped.
          held_passed c.args.slot c.loop-object.names.items all (map stored c.next.new.self) o sorted (content c.loop-object.files) bad
          (subst (λ (rest : List StreamObject). IsHeld (content c.loop-object.files) c.args.slot c.loop-object.names.items all (map stored rest)) next (c.loop-object.invariant.held honest dropped));
      sorted = fewer o (map stored c.next.new.self) sorted;
      outside = c.loop-object.invariant.outside;
      bad = c.loop-object.invariant.bad;
      wear = c.loop-object.invariant.wear;
    }

pub returns-clause-carried : goal.returns-clause-carried
returns-clause-carried g c = λ honest dropped.
    let none = rest_all deref _ _ _ c.in-None.is c.next.ensures.steps in
    held_all (g.F.Files.content c.loop-object.files) c.args.slot c.loop-object.names.items (carried c.args.objects.now)
    (subst (λ (rest : List StreamObject). IsHeld (g.F.Files.content c.loop-object.files) c.args.slot c.loop-object.names.items (carried c.args.objects.now) (map stored rest)) none (c.loop-object.invariant.held honest dropped))

pub returns-clause-outside : goal.returns-clause-outside
returns-clause-outside g c = c.loop-object.invariant.outside

pub returns-clause-bad : goal.returns-clause-bad
returns-clause-bad g c = c.loop-object.invariant.bad

pub returns-clause-wear : goal.returns-clause-wear
returns-clause-wear g c = writes_told c.loop-object.invariant.wear (λ never. absurd never) (search rules)
