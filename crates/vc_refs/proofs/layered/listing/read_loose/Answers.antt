use Rattle.std.proofs.Common.{arith, rules, ◌≡◌, suc, ◌∷◌, ◌++◌, [], List, ℕ, take, drop, map, refl, sym, ap, ◌∙◌, subst}
use Rattle.std.specs.Prelude.{codes, string_bytes}
use Rattle.vc_files.specs.FileMap.{paths_under}
use Rattle.vc_refs.specs.LooseFault as own
use Rattle.vc_refs.specs.Packed.{PackedRef}
use Rattle.vc_refs.specs.Packing.{loose_at, with_first, AreGood, AreInRefs}
use Rattle.vc_refs.specs.RefMap.{entry_at}
use Rattle.vc_refs.specs.Refs.{loose_refs, IsBadLoose}
use Rattle.vc_refs.proofs.LayeredListingLemmas.{loose_at-push}
use Rattle.vc_refs.proofs.ListingLemmas.{none_good_yet, of_list, one_more_good, paths_more, paths_split, paths_all}
use Rattle.vc_refs.proofs.layered.listing.read_loose.Goals as goal

pub loop-path-init : goal.loop-path-init
loop-path-init g c = record {
  found = λ honest. c.new-loose.ensures.items;
  inside = subst AreInRefs (sym c.new-loose.ensures.items) tt;
  good = λ honest. none_good_yet (g.F.Files.content c.args.files.now);
  same = refl;
  wear = record { later = omega arith; calm = λ can. can; could = λ never. absurd never; failed_now = λ never. absurd never; unspent = refl };
}

pub returns-in_err-add_loose-clause-refused : goal.returns-in_err-add_loose-clause-refused
returns-in_err-add_loose-clause-refused g c = λ honest listed.
    let content = g.F.Files.content c.args.files.now in
    let items = c.args.paths.now in
    let path = string_bytes c.path-item.result in
    let all : paths_under content (codes "refs/") ≡ map string_bytes (take c.loop-path.path-index items) ++ path ∷ map string_bytes (drop (suc c.loop-path.path-index) items) =
    sym listed ∙ paths_split items c.loop-path.path-index c.path-item.result c.loop-path-test.true c.path-item.is in
    let blames : own.BlamesPath content path c.in_err-add_loose.field-0.0 = rw (← c.loop-path.invariant.same, ← c.as_str.ensures.value) (c.in_err-add_loose.ensures.refused honest) in
    let told : own.BlamesList content c.in_err-add_loose.field-0.0 = of_list content _ path _ all (c.loop-path.invariant.good honest) c.in_err-add_loose.field-0.0 blames in
    search (rules, told)

pub loop-path-preserved : goal.loop-path-preserved
loop-path-preserved g c =
    let content = g.F.Files.content c.args.files.now in
    let items = c.args.paths.now in
    let path = string_bytes c.path-item.result in
    let front : List (List ℕ) = map string_bytes (take c.loop-path.path-index items) in
    let more = paths_more items c.loop-path.path-index c.path-item.result c.loop-path-test.true c.path-item.is in
    record {
      found = λ honest.
          let added : c.add_loose.new.loose.items ≡ c.loop-path.loose.items ++ with_first (entry_at (loose_refs content) path) [] = rw (← c.loop-path.invariant.same, ← c.as_str.ensures.value) (c.in_ok-add_loose.ensures.added honest) in
          rw more (added ∙ ap (λ (l : List PackedRef). l ++ with_first (entry_at (loose_refs content) path) []) (c.loop-path.invariant.found honest) ∙ sym (loose_at-push content front path));
      inside = c.in_ok-add_loose.ensures.inside c.loop-path.invariant.inside;
      good = λ honest.
          let here : IsBadLoose content path → ⊥ = rw (← c.loop-path.invariant.same, ← c.as_str.ensures.value) (c.in_ok-add_loose.ensures.good honest) in
          rw more (one_more_good content front path (c.loop-path.invariant.good honest) here);
      same = search rules;
      wear = search rules;
    }

pub returns-clause-found : goal.returns-clause-found
returns-clause-found g c = λ honest.
    let whole : map string_bytes (take c.loop-path.path-index c.args.paths.now) ≡ map string_bytes c.args.paths.now = paths_all _ _ _ c.loop-path-test.false refl in
    c.loop-path.invariant.found honest ∙ ap (loose_at (g.F.Files.content c.args.files.now)) whole

pub returns-clause-good : goal.returns-clause-good
returns-clause-good g c = λ honest.
    let whole : map string_bytes (take c.loop-path.path-index c.args.paths.now) ≡ map string_bytes c.args.paths.now = paths_all _ _ _ c.loop-path-test.false refl in
    subst (AreGood (g.F.Files.content c.args.files.now)) whole (c.loop-path.invariant.good honest).each
