use Rattle.std.proofs.Common.{arith, rules, ◌≡◌, ◌++◌, [], List, length, take, refl, sym, ap, ◌∙◌, subst}
use Rattle.std.proofs.lemmas.List.{length-take-le, take_all}
use Rattle.vc_refs.specs.Packed.{PackedRef}
use Rattle.vc_refs.specs.Packing.{loose_at, with_first, AreInRefs}
use Rattle.vc_refs.specs.RefMap.{entry_at}
use Rattle.vc_refs.specs.Refs.{loose_refs}
use Rattle.vc_refs.specs.SetAll.{names_of, BlamesNext, BlamesSetAll, MayChange, MayChangeAfter}
use Rattle.vc_refs.specs.declared.changes.RefChange.{RefChange}
use Rattle.vc_refs.proofs.ChangesLemmas.{may_push, named_at, names_next, next_blames, taken_next}
use Rattle.vc_refs.proofs.LayeredLemmas.{good_packed_file}
use Rattle.vc_refs.proofs.LayeredListingLemmas.{loose_at-push}
use Rattle.vc_refs.proofs.layered.checking_all.check_all.Goals as goal

pub loop-place-init : goal.loop-place-init
loop-place-init g c = record {
  found = λ honest read. c.new-loose.ensures.items;
  inside = subst AreInRefs (sym c.new-loose.ensures.items) tt;
  may = λ honest read. tt;
  same = refl;
  wear = record { later = omega arith; calm = λ can. can; could = λ never. absurd never; failed_now = λ never. absurd never; unspent = refl };
}

pub add_checked-requires : goal.add_checked-requires
add_checked-requires g c = named_at c.args.changes.now c.loop-place.place c.index-changes-place.result c.requires c.loop-place-test.true c.index-changes-place.is

pub returns-in_err-add_checked-clause-refused : goal.returns-in_err-add_checked-clause-refused
returns-in_err-add_checked-clause-refused g c = λ honest read.
    let content = g.F.Files.content c.args.files.now in
    let changes = c.args.changes.now in
    let i = c.loop-place.place in
    let change = c.index-changes-place.result in
    let e = c.in_err-add_checked.field-0.0 in
    let long : length (take i changes) ≡ i = length-take-le i changes (omega (arith, c.loop-place-test.true)) in
    let blames : BlamesNext content (take i changes) change e =
    rw (c.loop-place.invariant.same, c.split_at.ensures.front) at (c.in_err-add_checked.ensures.refused honest (rw c.loop-place.invariant.same read)) in
    let told : BlamesSetAll content changes e =
    next_blames content changes i change (good_packed_file content c.args.packed.now read) c.loop-place-test.true c.index-changes-place.is long (c.loop-place.invariant.may honest read) e blames in
    search (rules, told)

pub loop-place-preserved : goal.loop-place-preserved
loop-place-preserved g c =
    let content = g.F.Files.content c.args.files.now in
    let changes = c.args.changes.now in
    let i = c.loop-place.place in
    let change = c.index-changes-place.result in
    let next = taken_next changes i change c.loop-place-test.true c.index-changes-place.is in
    let names = names_next changes i change c.loop-place-test.true c.index-changes-place.is in
    record {
      found = λ honest read.
          let added : c.add_checked.new.loose.items ≡ c.loop-place.loose.items ++ with_first (entry_at (loose_refs content) change.name) [] =
          rw c.loop-place.invariant.same at (c.in_ok-add_checked.ensures.added honest (rw c.loop-place.invariant.same read)) in
          rw names (added ∙ ap (λ (l : List PackedRef). l ++ with_first (entry_at (loose_refs content) change.name) []) (c.loop-place.invariant.found honest read) ∙ sym (loose_at-push content (names_of (take i changes)) change.name));
      inside = c.in_ok-add_checked.ensures.inside c.loop-place.invariant.inside;
      may = λ honest read.
          let one : MayChange content (take i changes) change =
          rw (c.loop-place.invariant.same, c.split_at.ensures.front) at (c.in_ok-add_checked.ensures.allowed honest (rw c.loop-place.invariant.same read)) in
          rw next (may_push content [] (take i changes) change (c.loop-place.invariant.may honest read) one);
      same = search rules;
      wear = search rules;
    }

pub returns-clause-found : goal.returns-clause-found
returns-clause-found g c = λ honest read.
    c.loop-place.invariant.found honest read ∙ ap (λ (cs : List RefChange). loose_at (g.F.Files.content c.args.files.now) (names_of cs)) (take_all c.loop-place.place c.args.changes.now (omega (arith, c.loop-place-test.false)))

pub returns-clause-allowed : goal.returns-clause-allowed
returns-clause-allowed g c = λ honest read.
    let content = g.F.Files.content c.args.files.now in
    let each : MayChangeAfter content [] c.args.changes.now = rw (take_all c.loop-place.place c.args.changes.now (omega (arith, c.loop-place-test.false))) at (c.loop-place.invariant.may honest read) in
    record { packed = good_packed_file content c.args.packed.now read; each = each }
