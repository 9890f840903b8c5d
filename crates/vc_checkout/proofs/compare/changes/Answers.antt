use Rattle.std.proofs.Common.{rules, ◌≡◌, None, Some, [], ◌∷◌, map, ap, sym, ◌∙◌, subst, List, ℕ}
use Rattle.vc_files.specs.FileMap.{FileMap}
use Rattle.vc_checkout.specs.Status.{IsChangeAt, Differs, seen}
use Rattle.vc_checkout.proofs.PathSetLemmas.{set_sorted, all_listed}
use Rattle.vc_checkout.proofs.StatusLemmas.{status_start, status_same, status_more, status_ends, seen_more}
use Rattle.vc_checkout.proofs.compare.changes.Goals as goal

pub loop-path-init : goal.loop-path-init
loop-path-init g c =
    let keys = c.into_iter-path-iterator.ensures.into_iter_gives.0 in
    record {
      can = tt;
      finite = tt;
      staged = search rules;
      listed = search rules;
      so_far = λ honest. status_start c.args.tree.now c.args.index.now (g.T.WorkTree.content c.args.work.now) _ _ (ap (map seen) c.new-changes.ensures.items)
          (set_sorted c.into_iter-path-iterator.result (rw keys c.into_iter-path-iterator.ensures.into_iter_gives.4))
          (all_listed c.into_iter-path-iterator.result c.in_ok-paths.paths c.in_ok-untracked.untracked c.args.index.now c.args.tree.now (g.T.WorkTree.content c.args.work.now) keys c.in_ok-paths.ensures (c.in_ok-untracked.ensures.untracked honest));
      same = search rules;
      folders = search rules;
      wear = search rules;
    }

pub loop-path-preserved-in_default : goal.loop-path-preserved-in_default
loop-path-preserved-in_default g c =
    record {
      can = tt;
      finite = tt;
      staged = search rules;
      listed = search rules;
      so_far = λ honest.
          let work = g.T.WorkTree.content c.args.work.now in
          let path = c.deref.result.now in
          let none : c.in_ok-change.field-0 ≡ None = search rules in
          let told = subst (λ (w : FileMap). IsChangeAt c.args.tree.now c.args.index.now w path c.in_ok-change.field-0) c.loop-path.invariant.same (rw (← c.loop-path.invariant.staged, ← c.loop-path.invariant.listed) (c.in_ok-change.ensures.change honest)) in
          let first : map (λ k. k.items) c.loop-path.path-iterator ≡ path ∷ map (λ k. k.items) c.next.new.self = search rules in
          status_same c.args.tree.now c.args.index.now work _ _ _ path first (subst (IsChangeAt c.args.tree.now c.args.index.now work path) none told) (c.loop-path.invariant.so_far honest);
      same = search rules;
      folders = search rules;
      wear = search rules;
    }

pub loop-path-preserved : goal.loop-path-preserved
loop-path-preserved g c =
    record {
      can = tt;
      finite = tt;
      staged = search rules;
      listed = search rules;
      so_far = λ honest.
          let work = g.T.WorkTree.content c.args.work.now in
          let path = c.deref.result.now in
          let change = c.in-Some-2.change in
          let some : c.in_ok-change.field-0 ≡ Some change = search rules in
          let told = subst (λ (w : FileMap). IsChangeAt c.args.tree.now c.args.index.now w path c.in_ok-change.field-0) c.loop-path.invariant.same (rw (← c.loop-path.invariant.staged, ← c.loop-path.invariant.listed) (c.in_ok-change.ensures.change honest)) in
          let at = subst (IsChangeAt c.args.tree.now c.args.index.now work path) some told in
          let first : map (λ k. k.items) c.loop-path.path-iterator ≡ path ∷ map (λ k. k.items) c.next.new.self = search rules in
          status_more c.args.tree.now c.args.index.now work (map seen c.loop-path.changes.items) (map seen c.push.new.self.items) _ _ (seen change) (first ∙ ap (λ (p : List ℕ). p ∷ map (λ k. k.items) c.next.new.self) (sym at.0))
          (seen_more c.loop-path.changes.items c.push.new.self.items change (search rules)) (subst (λ (p : List ℕ). Differs c.args.tree.now c.args.index.now work p change.index change.work) (sym at.0) at.1) (c.loop-path.invariant.so_far honest);
      same = search rules;
      folders = search rules;
      wear = search rules;
    }

pub returns-clause-status : goal.returns-clause-status
returns-clause-status g c = λ honest.
    let none : c.loop-path.path-iterator ≡ [] = search rules in
    status_ends c.args.tree.now c.args.index.now (g.T.WorkTree.content c.args.work.now) _ _ (ap (map (λ k. k.items)) none) (c.loop-path.invariant.so_far honest)
