use Rattle.std.proofs.Common.{◌≡◌, Err, inl, inr, rules}
use Rattle.vc_files.proofs.WearLemmas.{wears_then, wears_writes, writes_told}
use Rattle.vc_local.specs.declared.fault.NodeFault.TheVariants.{Store}
use Rattle.vc_pruning.proofs.PruningLemmas.{blames_met, ends_met}
use Rattle.vc_shared.proofs.pruning.prune.Goals as goal
use Rattle.vc_shared.specs.Pruning.{BlamesNeeds, EndsPrune}

pub returns-clause-pruned : goal.returns-clause-pruned
returns-clause-pruned g c = λ honest. record {
  kept = c.in_ok-kept.kept.items;
  needed = c.in_ok-kept.ensures.needed honest;
  takes = rw (c.in_ok-kept.ensures.same, c.deref.ensures.value) at (c.in_ok-removed.ensures.all honest);
}

pub returns-in_err-kept-clause-early : goal.returns-in_err-kept-clause-early
returns-in_err-kept-clause-early g c = λ honest.
    let told : EndsPrune (g.F.Files.content c.args.files.now) c.args.slots.now (g.F.Files.content c.needed_names.new.files) c.in_err-kept.field-0.0 = inl c.in_err-kept.ensures.same in
    let is : c.from_residual.result ≡ Err c.in_err-kept.field-0.0 = search rules in
    rw is told

pub returns-in_err-removed-clause-early : goal.returns-in_err-removed-clause-early
returns-in_err-removed-clause-early g c = λ honest.
    let e = c.in_err-removed.field-0.0 in
    let told : EndsPrune (g.F.Files.content c.args.files.now) c.args.slots.now (g.F.Files.content c.remove_others.new.files) (Store e) = inr (
      ends_met _ _ e (c.in_err-removed.ensures.refused honest),
      record {
        kept = c.in_ok-kept.kept.items;
        needed = c.in_ok-kept.ensures.needed honest;
        takes = rw (c.in_ok-kept.ensures.same, c.deref.ensures.value) at (c.in_err-removed.ensures.some honest);
      },
    ) in
    let is : c.from_residual-in_err-removed.result ≡ Err (Store e) = search rules in
    rw is told

pub returns-in_err-kept-clause-refused : goal.returns-in_err-kept-clause-refused
returns-in_err-kept-clause-refused g c = λ honest.
    let told : BlamesNeeds (g.F.Files.content c.args.files.now) c.args.slots.now c.in_err-kept.field-0.0 = c.in_err-kept.ensures.refused honest in
    let is : c.from_residual.result ≡ Err c.in_err-kept.field-0.0 = search rules in
    rw is told

pub returns-in_err-removed-clause-refused : goal.returns-in_err-removed-clause-refused
returns-in_err-removed-clause-refused g c = λ honest.
    let e = c.in_err-removed.field-0.0 in
    let told : BlamesNeeds (g.F.Files.content c.args.files.now) c.args.slots.now (Store e) = inl (blames_met (g.F.Files.content c.args.files.now) _ e (rw c.in_ok-kept.ensures.same at (c.in_err-removed.ensures.refused honest))) in
    let is : c.from_residual-in_err-removed.result ≡ Err (Store e) = search rules in
    rw is told

pub returns-in_err-kept-clause-wear : goal.returns-in_err-kept-clause-wear
returns-in_err-kept-clause-wear g c = writes_told (wears_writes c.in_err-kept.ensures.wear (λ _. c.in_err-kept.ensures.same)) (search rules) (search rules)

pub returns-in_err-removed-clause-wear : goal.returns-in_err-removed-clause-wear
returns-in_err-removed-clause-wear g c = wears_then c.in_ok-kept.ensures.wear (λ _. c.in_ok-kept.ensures.same) (search rules) (writes_told c.in_err-removed.ensures.wear (search rules) (search rules))

pub returns-clause-wear : goal.returns-clause-wear
returns-clause-wear g c = wears_then c.in_ok-kept.ensures.wear (λ _. c.in_ok-kept.ensures.same) (search rules) (writes_told c.in_ok-removed.ensures.wear (search rules) (search rules))
