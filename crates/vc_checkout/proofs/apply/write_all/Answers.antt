use Rattle.std.proofs.Common.{rules, ◌≡◌, [], ◌∷◌, map, refl, ap, subst, List, ℕ}
use Rattle.std.specs.FinMap.{get}
use Rattle.vc_files.specs.FileMap.{FileMap}
use Rattle.vc_object_map.specs.Store.{objects}
use Rattle.vc_checkout.specs.CheckedOut.{IsWritten, StepAt, StepOrNone}
use Rattle.vc_index.specs.IndexMap.{IsIndex}
use Rattle.vc_work_tree.specs.Folders.{IsFolder}
use Rattle.vc_checkout.proofs.MakingLemmas.{cases, filed_there, making_begins, making_between, making_ends, making_more, making_start, not_filed, written_lost}
use Rattle.vc_checkout.proofs.ApplyLemmas.{working_start, working_more, working_stop, written_again, written_none, no_entry}
use Rattle.vc_checkout.proofs.apply.write_all.Goals as goal

pub loop-path-init : goal.loop-path-init
loop-path-init g c =
    let i = λ (q : List ℕ). get c.args.index.now q in
    let t = λ (q : List ℕ). get c.args.tree.now q in
    let old = g.T.WorkTree.content c.args.work.now in
    let was = g.T.WorkTree.folders c.args.work.now in
    let all = objects (g.F.Files.content c.args.files.now) in
    record {
      old = search rules;
      new = search rules;
      working = λ honest stored. working_start (λ q. IsWritten all (i q) (t q)) (λ q. written_again all (i q) (t q)) old old _ refl
          (λ q lacks. written_none all (i q) (t q) (get old q) (no_entry c.into_iter-path-iterator.result c.args.tree.now (search rules) q lacks));
      making = λ _ _. making_start c.args.index.now c.args.tree.now old was _ (no_entry c.into_iter-path-iterator.result c.args.tree.now (search rules));
      between = λ _. making_begins c.args.index.now c.args.tree.now old was;
      same = refl;
      wear = search rules;
    }

pub loop-path-preserved : goal.loop-path-preserved
loop-path-preserved g c =
    let i = λ (q : List ℕ). get c.args.index.now q in
    let t = λ (q : List ℕ). get c.args.tree.now q in
    let old = g.T.WorkTree.content c.args.work.now in
    let mid = g.T.WorkTree.content c.loop-path.work in
    let now = g.T.WorkTree.content c.write_path.new.work in
    let was = g.T.WorkTree.folders c.args.work.now in
    let held = g.T.WorkTree.folders c.loop-path.work in
    let new = g.T.WorkTree.folders c.write_path.new.work in
    let index : IsIndex c.args.tree.now = search rules in
    let all = objects (g.F.Files.content c.args.files.now) in
    let path = c.deref.result.now in
    let first : map (λ e. e.0.items) c.loop-path.path-iterator ≡ path ∷ map (λ e. e.0.items) c.next.new.self = search rules in
    record {
      old = search rules;
      new = search rules;
      working = λ honest stored. working_more (λ q. IsWritten all (i q) (t q)) (λ q. written_again all (i q) (t q)) old mid now _ _ path first
          (subst (λ (f : FileMap). StepAt (IsWritten (objects f) (get c.args.index.now path) (get c.args.tree.now path)) path mid now) c.loop-path.invariant.same (rw (← c.loop-path.invariant.old, ← c.loop-path.invariant.new) (c.in_ok-write_path.ensures.done honest stored))) (c.loop-path.invariant.working honest stored);
      making = λ honest stored.
          let step : StepAt (IsWritten all (i path) (t path)) path mid now = (subst (λ (f : FileMap). StepAt (IsWritten (objects f) (get c.args.index.now path) (get c.args.tree.now path)) path mid now) c.loop-path.invariant.same (rw (← c.loop-path.invariant.old, ← c.loop-path.invariant.new) (c.in_ok-write_path.ensures.done honest stored))) in
          let how = cases (i path) (t path) path (rw (← c.loop-path.invariant.old, ← c.loop-path.invariant.new) c.in_ok-write_path.ensures.due) in
          making_more c.args.index.now c.args.tree.now old was mid now held new _ _ path index first (written_lost (i path) (t path) path all (c.requires.blobs stored path) mid now step how) (filed_there (i path) (t path) path all (c.requires.blobs stored path) mid now step)
          (not_filed c.args.index.now c.args.tree.now path how) (rw (← c.loop-path.invariant.old, ← c.loop-path.invariant.new) (c.in_ok-write_path.ensures.folders honest)) (c.loop-path.invariant.making honest stored);
      between = λ honest. making_between c.args.index.now c.args.tree.now (IsFolder old was) mid now held new path (c.loop-path.invariant.between honest) (rw (← c.loop-path.invariant.old, ← c.loop-path.invariant.new) (c.write_path.ensures.between honest));
      same = search rules;
      wear = search rules;
    }

pub returns-in_err-write_path-clause-begun : goal.returns-in_err-write_path-clause-begun
returns-in_err-write_path-clause-begun g c = λ honest stored.
    let mid = g.T.WorkTree.content c.loop-path.work in
    let now = g.T.WorkTree.content c.write_path.new.work in
    let all = objects (g.F.Files.content c.args.files.now) in
    let path = c.deref.result.now in
    working_stop (λ q. IsWritten all (get c.args.index.now q) (get c.args.tree.now q)) (λ q. written_again all (get c.args.index.now q) (get c.args.tree.now q)) (g.T.WorkTree.content c.args.work.now) mid now _ path
    (subst (λ (f : FileMap). StepOrNone (IsWritten (objects f) (get c.args.index.now path) (get c.args.tree.now path)) path mid now) c.loop-path.invariant.same (rw (← c.loop-path.invariant.old, ← c.loop-path.invariant.new) (c.in_err-write_path.ensures.begun honest stored))) (c.loop-path.invariant.working honest stored)

pub returns-in_err-write_path-clause-between : goal.returns-in_err-write_path-clause-between
returns-in_err-write_path-clause-between g c = λ honest.
    making_between c.args.index.now c.args.tree.now (IsFolder (g.T.WorkTree.content c.args.work.now) (g.T.WorkTree.folders c.args.work.now)) (g.T.WorkTree.content c.loop-path.work) (g.T.WorkTree.content c.write_path.new.work) (g.T.WorkTree.folders c.loop-path.work) (g.T.WorkTree.folders c.write_path.new.work) c.deref.result.now
    (c.loop-path.invariant.between honest) (rw (← c.loop-path.invariant.old, ← c.loop-path.invariant.new) (c.write_path.ensures.between honest))

pub returns-clause-folders : goal.returns-clause-folders
returns-clause-folders g c = λ honest stored.
    let none : c.loop-path.path-iterator ≡ [] = search rules in
    making_ends c.args.index.now c.args.tree.now (g.T.WorkTree.content c.args.work.now) (g.T.WorkTree.folders c.args.work.now) _ _ _ (ap (map (λ e. e.0.items)) none) (c.loop-path.invariant.making honest stored)
