use Rattle.std.proofs.Common.{◌≡◌, ◌∙◌, ◌++◌, ap, take, length, refl, rules, arith}
use Rattle.std.proofs.Math.Seq.{take-length}
use Rattle.std.proofs.lemmas.Result.{err_from_is_err_and}
use Rattle.vc_rev_set.specs.Selection.{IsMetByPairs}
use Rattle.vc_rev_set.proofs.SelectionLemmas.{common_more, walked_more, pair_met, walk_told, no_pairs_common, no_pairs_walked}
use Rattle.vc_rev_set.proofs.selected.common_of_pairs.Goals as goal

pub loop-pair-init : goal.loop-pair-init
loop-pair-init g c = record {
  kept = refl;
  wear = search rules;
  common = λ honest. no_pairs_common (g.R.Objects.objects (g.R.Objects.state_of c.args.repo.now)) c.new-found.result.items c.new-found.ensures.items;
  walked = λ honest. no_pairs_walked (g.R.Objects.objects (g.R.Objects.state_of c.args.repo.now));
}

pub loop-pair-preserved : goal.loop-pair-preserved
loop-pair-preserved g c =
    let objects = g.R.Objects.objects (g.R.Objects.state_of c.args.repo.now) in
    let i = c.loop-pair.invariant in
    let common = rw i.kept at c.in_ok-common.ensures.common in
    let closed = rw i.kept at c.in_ok-common.ensures.closed in
    let added = c.in_ok-extend_from_slice.ensures.items ∙ ap (λ l. c.loop-pair.found.items ++ l) c.deref.ensures.value in
    record {
      kept = c.in_ok-common.ensures.kept ∙ i.kept;
      wear = search rules;
      common = λ honest. common_more objects c.args.pairs.now c.loop-pair.pair-index _ c.loop-pair-test.true c.loop-pair.found.items c.in_ok-common.common.items _ (i.common honest) (common honest) added;
      walked = λ honest. walked_more objects c.args.pairs.now c.loop-pair.pair-index _ c.loop-pair-test.true (i.walked honest) (closed honest);
    }

pub returns-in_err-common-clause-refused : goal.returns-in_err-common-clause-refused
returns-in_err-common-clause-refused g c =
    let objects = g.R.Objects.objects (g.R.Objects.state_of c.args.repo.now) in
    let damaged = g.R.Objects.damaged (g.R.Objects.state_of c.args.repo.now) in
    let i = c.loop-pair.invariant in
    let told = rw i.kept at c.in_err-common.ensures.refused in
    let p = err_from_is_err_and c.from_residual.result c.from_residual.ensures.1 in
    rw (p.1, p.2) (λ honest. walk_told objects damaged _ (IsMetByPairs objects c.args.pairs.now) (pair_met objects c.args.pairs.now c.loop-pair.pair-index _ c.loop-pair-test.true) c.in_err-common.field-0.0 (told honest))

pub returns-clause-common : goal.returns-clause-common
returns-clause-common g c =
    let all : take c.loop-pair.pair-index c.args.pairs.now ≡ c.args.pairs.now = ap (λ i. take i c.args.pairs.now) (let last : c.loop-pair.pair-index ≡ length c.args.pairs.now = omega arith in last) ∙ take-length c.args.pairs.now in
    rw all at c.loop-pair.invariant.common

pub returns-clause-closed : goal.returns-clause-closed
returns-clause-closed g c =
    let all : take c.loop-pair.pair-index c.args.pairs.now ≡ c.args.pairs.now = ap (λ i. take i c.args.pairs.now) (let last : c.loop-pair.pair-index ≡ length c.args.pairs.now = omega arith in last) ∙ take-length c.args.pairs.now in
    rw all at c.loop-pair.invariant.walked
