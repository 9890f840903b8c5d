use Rattle.std.proofs.Common.{arith, rules, ◌≡◌, ℕ, ◌+◌, ◌++◌, List, [], ◌∷◌, take, map, sym, ap, ◌∙◌, subst}
use Rattle.std.specs.Prelude.{string_bytes}
use Rattle.std.specs.FinMap as files
use Rattle.std.proofs.lemmas.List.{map_more, take_all}
use Rattle.vc_files.proofs.WearLemmas.{wears_then, writes_both, writes_told}
use Rattle.vc_files.specs.FileMap.{FileMap, paths_under}
use Rattle.vc_push_rules.specs.Quarantine.{OnlyLoses, quarantine_folder}
use Rattle.vc_quarantine.proofs.CleanLemmas.{bad_loses}
use Rattle.vc_push_rules.proofs.QuarantineLemmas.{Taken, taken_none, taken_more, taken_all, taken_left, taken_outside}
use Rattle.vc_quarantine.proofs.quarantine.drop_quarantine.Goals as goal

pub loop-path-init : goal.loop-path-init
loop-path-init g c = record { taken = λ honest. taken_none (g.F.Files.content c.list.new.self); wear = search rules }

pub loop-path-preserved : goal.loop-path-preserved
loop-path-preserved g c = record {
  taken = λ honest.
      let content = g.F.Files.content in
      let items = c.deref-path-items.result.now in
      let front : List (List ℕ) = map string_bytes (take c.loop-path.path-index items) in
      let path : List ℕ = string_bytes c.path-item.result in
      let more : map string_bytes (take (c.loop-path.path-index + 1) items) ≡ front ++ path ∷ [] = map_more string_bytes items c.loop-path.path-index c.path-item.result c.loop-path-test.true ∙ ap (λ s. front ++ string_bytes s ∷ []) (sym c.path-item.is) in
      let made : content c.remove.new.self ≡ files.remove (content c.loop-path.files) path = search (rules, c.in_ok-remove.ensures.ok honest) in
      subst (λ (paths : List (List ℕ)). Taken (content c.list.new.self) (content c.remove.new.self) paths) (sym more)
      (subst (λ (m : FileMap). Taken (content c.list.new.self) m (front ++ path ∷ [])) (sym made)
      (taken_more (content c.list.new.self) (content c.loop-path.files) front path (c.loop-path.invariant.taken honest)));
  wear = writes_both c.loop-path.invariant.wear (λ never. never) (writes_told c.in_ok-remove.ensures.wear (search rules) (λ never. absurd never));
}

pub returns-clause-outside : goal.returns-clause-outside
returns-clause-outside g c = λ honest.
    let content = g.F.Files.content in
    let listed : map string_bytes c.deref-path-items.result.now ≡ paths_under (content c.args.files.now) (quarantine_folder c.args.slot) = search (rules, c.in_ok-paths.ensures.listed honest) in
    taken_outside (content c.args.files.now) (content c.loop-path.files) c.args.slot c.deref-path-items.result.now c.loop-path.path-index listed
    (rw (sym c.in_ok-paths.ensures.same) (c.loop-path.invariant.taken honest))

pub returns-clause-dropped : goal.returns-clause-dropped
returns-clause-dropped g c = λ honest.
    let content = g.F.Files.content in
    let items = c.deref-path-items.result.now in
    let listed : map string_bytes items ≡ paths_under (content c.args.files.now) (quarantine_folder c.args.slot) = search (rules, c.in_ok-paths.ensures.listed honest) in
    let all : take c.loop-path.path-index items ≡ items = take_all c.loop-path.path-index items (omega (arith, c.loop-path-test.false)) in
    taken_all (content c.args.files.now) (content c.loop-path.files) c.args.slot
    (subst (λ (paths : List (List ℕ)). Taken (content c.args.files.now) (content c.loop-path.files) paths) (ap (map string_bytes) all ∙ listed)
    (rw (sym c.in_ok-paths.ensures.same) (c.loop-path.invariant.taken honest)))

pub returns-in_err-remove-clause-outside : goal.returns-in_err-remove-clause-outside
returns-in_err-remove-clause-outside g c = λ honest.
    let content = g.F.Files.content in
    let listed : map string_bytes c.deref-path-items.result.now ≡ paths_under (content c.args.files.now) (quarantine_folder c.args.slot) = search (rules, c.in_ok-paths.ensures.listed honest) in
    let same : content c.remove.new.self ≡ content c.loop-path.files = search (rules, c.in_err-remove.ensures.err honest) in
    rw same (taken_outside (content c.args.files.now) (content c.loop-path.files) c.args.slot c.deref-path-items.result.now c.loop-path.path-index listed
    (rw (sym c.in_ok-paths.ensures.same) (c.loop-path.invariant.taken honest)))

pub returns-in_err-remove-clause-wear : goal.returns-in_err-remove-clause-wear
returns-in_err-remove-clause-wear g c =
    wears_then c.in_ok-paths.ensures.wear (λ _. c.in_ok-paths.ensures.same) (search rules)
    (writes_both c.loop-path.invariant.wear (λ never. never) (writes_told c.in_err-remove.ensures.wear (search rules) (search rules)))

pub returns-clause-wear : goal.returns-clause-wear
returns-clause-wear g c =
    wears_then c.in_ok-paths.ensures.wear (λ _. c.in_ok-paths.ensures.same) (search rules)
    (writes_told c.loop-path.invariant.wear (λ never. absurd never) (search rules))

pub returns-in_err-remove-clause-left : goal.returns-in_err-remove-clause-left
returns-in_err-remove-clause-left g c = λ honest.
    let content = g.F.Files.content in
    let same : content c.remove.new.self ≡ content c.loop-path.files = search (rules, c.in_err-remove.ensures.err honest) in
    subst (λ (m : FileMap). OnlyLoses m (content c.remove.new.self)) c.in_ok-paths.ensures.same
    (subst (λ (m : FileMap). OnlyLoses (content c.list.new.self) m) (sym same) (taken_left (c.loop-path.invariant.taken honest)))

pub returns-clause-left : goal.returns-clause-left
returns-clause-left g c = λ honest.
    let content = g.F.Files.content in
    subst (λ (m : FileMap). OnlyLoses m (content c.loop-path.files)) c.in_ok-paths.ensures.same (taken_left (c.loop-path.invariant.taken honest))

pub returns-in_err-remove-clause-bad : goal.returns-in_err-remove-clause-bad
returns-in_err-remove-clause-bad g c = λ honest. bad_loses _ _ (returns-in_err-remove-clause-left g c honest)

pub returns-clause-bad : goal.returns-clause-bad
returns-clause-bad g c = λ honest. bad_loses _ _ (returns-clause-left g c honest)
