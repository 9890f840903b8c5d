use Rattle.std.proofs.Common.{rules, ◌≡◌, suc, ◌∷◌, List, ℕ, take, drop, map, refl, subst}
use Rattle.std.specs.FinMap as files
use Rattle.std.specs.Prelude.{string_bytes}
use Rattle.vc_files.proofs.WearLemmas.{writes_both, writes_none, writes_told}
use Rattle.vc_refs.specs.Packing.{AreGone, LosesSome}
use Rattle.vc_refs.proofs.LayeredListingLemmas.{more_lost, none_gone, none_lost, one_gone, one_lost}
use Rattle.vc_refs.proofs.ListingLemmas.{paths_all, paths_more, paths_split}
use Rattle.vc_refs.proofs.layered.packing.remove_all.Goals as goal

pub loop-path-init : goal.loop-path-init
loop-path-init g c = record { lost = λ honest. none_lost _; gone = λ honest. none_gone _; wear = writes_none (λ never. never) }

pub returns-in_err-remove-clause-lost : goal.returns-in_err-remove-clause-lost
returns-in_err-remove-clause-lost g c = λ honest.
    let content = g.F.Files.content in
    let items = c.args.paths.now in
    let path = string_bytes c.path-item.result in
    let split = paths_split items c.loop-path.path-index c.path-item.result c.loop-path-test.true c.path-item.is in
    let same : content c.remove.new.self ≡ content c.loop-path.files = search (rules, c.in_err-remove.ensures.err honest) in
    rw (split, same) (more_lost (map string_bytes (take c.loop-path.path-index items)) (path ∷ map string_bytes (drop (suc c.loop-path.path-index) items)) (content c.args.files.now) (content c.loop-path.files) (c.loop-path.invariant.lost honest))

pub returns-in_err-remove-clause-wear : goal.returns-in_err-remove-clause-wear
returns-in_err-remove-clause-wear g c = writes_both c.loop-path.invariant.wear (λ never. never) (writes_told c.in_err-remove.ensures.wear (search rules) (search rules))

pub loop-path-preserved : goal.loop-path-preserved
loop-path-preserved g c =
    let content = g.F.Files.content in
    let items = c.args.paths.now in
    let path = string_bytes c.path-item.result in
    let front = map string_bytes (take c.loop-path.path-index items) in
    let more = paths_more items c.loop-path.path-index c.path-item.result c.loop-path-test.true c.path-item.is in
    record {
      lost = λ honest.
          let made : content c.remove.new.self ≡ files.remove (content c.loop-path.files) path = rw c.as_str.ensures.value at (c.in_ok-remove.ensures.ok honest) in
          rw (more, made) (one_lost front path (content c.args.files.now) (content c.loop-path.files) (c.loop-path.invariant.lost honest));
      gone = λ honest.
          let made : content c.remove.new.self ≡ files.remove (content c.loop-path.files) path = rw c.as_str.ensures.value at (c.in_ok-remove.ensures.ok honest) in
          rw (more, made) (one_gone front path (content c.args.files.now) (content c.loop-path.files) (c.loop-path.invariant.gone honest));
      wear = writes_both c.loop-path.invariant.wear (λ never. never) (writes_told c.in_ok-remove.ensures.wear (search rules) (λ never. absurd never));
    }

pub returns-clause-lost : goal.returns-clause-lost
returns-clause-lost g c = λ honest.
    let whole : map string_bytes (take c.loop-path.path-index c.args.paths.now) ≡ map string_bytes c.args.paths.now = paths_all _ _ _ c.loop-path-test.false refl in
    subst (λ (l : List (List ℕ)). LosesSome l (g.F.Files.content c.args.files.now) (g.F.Files.content c.loop-path.files)) whole (c.loop-path.invariant.lost honest)

pub returns-clause-gone : goal.returns-clause-gone
returns-clause-gone g c = λ honest.
    let whole : map string_bytes (take c.loop-path.path-index c.args.paths.now) ≡ map string_bytes c.args.paths.now = paths_all _ _ _ c.loop-path-test.false refl in
    subst (λ (l : List (List ℕ)). AreGone l (g.F.Files.content c.loop-path.files)) whole (c.loop-path.invariant.gone honest)

pub returns-clause-wear : goal.returns-clause-wear
returns-clause-wear g c = writes_told c.loop-path.invariant.wear (λ never. absurd never) (search rules)
