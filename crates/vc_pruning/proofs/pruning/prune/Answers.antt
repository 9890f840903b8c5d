use Rattle.std.proofs.Common.{rules, ◌≡◌, ◌⊎◌, Err, inl, inr}
use Rattle.vc_files.proofs.WearLemmas.{wears_then, wears_writes, writes_told}
use Rattle.vc_local.specs.declared.fault.NodeFault.TheVariants.{Store}
use Rattle.vc_pruning.proofs.PruningLemmas.{all_whole, blames_met, blames_needed, ends_met, prunes_all, prunes_none, prunes_some}
use Rattle.vc_pruning.proofs.RootLemmas.{knows_reached}
use Rattle.vc_pruning.specs.Roots.{BlamesPrune, EndsRemoval}
use Rattle.vc_pruning.proofs.pruning.prune.Goals as goal

pub returns-in_err-kept-clause-some : goal.returns-in_err-kept-clause-some
returns-in_err-kept-clause-some g c = λ honest. prunes_none _ _ _ c.in_err-kept.ensures.same

pub returns-in_err-kept-clause-refused : goal.returns-in_err-kept-clause-refused
returns-in_err-kept-clause-refused g c = λ honest.
    let old = g.F.Files.content c.args.files.now in
    let e = c.in_err-kept.field-0.0 in
    let told : BlamesPrune old e = blames_needed _ _ (c.in_err-kept.ensures.refused honest) in
    let is : c.from_residual.result ≡ Err e = search rules in
    rw is told

pub returns-in_err-kept-clause-err : goal.returns-in_err-kept-clause-err
returns-in_err-kept-clause-err g c = λ honest.
    let old = g.F.Files.content c.args.files.now in
    let e = c.in_err-kept.field-0.0 in
    let told : EndsRemoval e ⊎ (g.F.Files.content c.needed.new.files ≡ old) = inr c.in_err-kept.ensures.same in
    let is : c.from_residual.result ≡ Err e = search rules in
    rw is told

pub returns-in_err-removed-clause-some : goal.returns-in_err-removed-clause-some
returns-in_err-removed-clause-some g c = λ honest.
    let old = g.F.Files.content c.args.files.now in
    prunes_some _ old _ (λ r spells. knows_reached old r _ spells (c.in_ok-kept.ensures.needed honest)) _ (rw (c.in_ok-kept.ensures.same, c.deref.ensures.value) at (c.in_err-removed.ensures.some honest))

pub returns-in_err-removed-clause-refused : goal.returns-in_err-removed-clause-refused
returns-in_err-removed-clause-refused g c = λ honest.
    let old = g.F.Files.content c.args.files.now in
    let e = c.in_err-removed.field-0.0 in
    let told : BlamesPrune old (Store e) = blames_met _ _ _ (rw c.in_ok-kept.ensures.same at (c.in_err-removed.ensures.refused honest)) in
    let is : c.from_residual-in_err-removed.result ≡ Err (Store e) = search rules in
    rw is told

pub returns-in_err-removed-clause-err : goal.returns-in_err-removed-clause-err
returns-in_err-removed-clause-err g c = λ honest.
    let old = g.F.Files.content c.args.files.now in
    let e = c.in_err-removed.field-0.0 in
    let told : EndsRemoval (Store e) ⊎ (g.F.Files.content c.remove_others.new.files ≡ old) = inl (ends_met _ _ _ (c.in_err-removed.ensures.refused honest)) in
    let is : c.from_residual-in_err-removed.result ≡ Err (Store e) = search rules in
    rw is told

pub returns-clause-some : goal.returns-clause-some
returns-clause-some g c = λ honest.
    let old = g.F.Files.content c.args.files.now in
    prunes_some _ old _ (λ r spells. knows_reached old r _ spells (c.in_ok-kept.ensures.needed honest)) _ (rw (c.in_ok-kept.ensures.same, c.deref.ensures.value) at (c.in_ok-removed.ensures.some honest))

pub returns-clause-pruned : goal.returns-clause-pruned
returns-clause-pruned g c = λ honest.
    let old = g.F.Files.content c.args.files.now in
    prunes_all _ old _ (λ r spells. knows_reached old r _ spells (c.in_ok-kept.ensures.needed honest)) _ _ (rw (c.in_ok-kept.ensures.same, c.deref.ensures.value) at (c.in_ok-removed.ensures.all honest))

pub returns-clause-read : goal.returns-clause-read
returns-clause-read g c = λ honest.
    let needed = c.in_ok-kept.ensures.needed honest in
    (needed.are_roots.readable, all_whole _ _ _ _ needed (rw (c.in_ok-kept.ensures.same, c.deref.ensures.value) at (c.in_ok-removed.ensures.all honest)))

pub returns-in_err-kept-clause-wear : goal.returns-in_err-kept-clause-wear
returns-in_err-kept-clause-wear g c = writes_told (wears_writes c.in_err-kept.ensures.wear (λ _. c.in_err-kept.ensures.same)) (search rules) (search rules)

pub returns-in_err-removed-clause-wear : goal.returns-in_err-removed-clause-wear
returns-in_err-removed-clause-wear g c = wears_then c.in_ok-kept.ensures.wear (λ _. c.in_ok-kept.ensures.same) (search rules) (writes_told c.in_err-removed.ensures.wear (search rules) (search rules))

pub returns-clause-wear : goal.returns-clause-wear
returns-clause-wear g c = wears_then c.in_ok-kept.ensures.wear (λ _. c.in_ok-kept.ensures.same) (search rules) (writes_told c.in_ok-removed.ensures.wear (search rules) (search rules))
