use Rattle.std.proofs.Common.{rules, ◌≡◌, [], ◌∷◌, map, refl, ap, List, ℕ}
use Rattle.std.specs.FinMap.{get}
use Rattle.vc_checkout.specs.CheckedOut.{IsCleared}
use Rattle.vc_work_tree.specs.Folders.{IsFolder}
use Rattle.vc_checkout.specs.FoldersAfter.{IsLeft, IsLeftBy}
use Rattle.vc_work_tree.proofs.FolderLemmas.{still_folders}
use Rattle.vc_checkout.proofs.LeavingLemmas.{between_same, between_then, clear_lost, leaving_ends, leaving_more, leaving_start, left_above, left_unknown}
use Rattle.vc_checkout.proofs.ApplyLemmas.{Working, working_start, working_more, working_stop, cleared_again, cleared_unknown, cleared_texts, no_entry}
use Rattle.vc_checkout.proofs.apply.clear_all.Goals as goal

pub loop-path-init : goal.loop-path-init
loop-path-init g c =
    let i = λ (q : List ℕ). get c.args.index.now q in
    let t = λ (q : List ℕ). get c.args.tree.now q in
    let old = g.T.WorkTree.content c.args.work.now in
    let was = g.T.WorkTree.folders c.args.work.now in
    record {
      old = search rules;
      new = search rules;
      working = λ honest. working_start (λ q. IsCleared (i q) (t q)) (λ q. cleared_again (i q) (t q)) old old _ refl
          (λ q lacks. cleared_unknown (i q) (t q) (get old q) (no_entry c.into_iter-path-iterator.result c.args.index.now (search rules) q lacks));
      texts = c.requires;
      leaving = λ _. leaving_start (IsFolder old was) (λ q. IsLeft (i q) (t q) q) old was _
          (λ q lacks d. left_unknown (i q) (t q) q d (no_entry c.into_iter-path-iterator.result c.args.index.now (search rules) q lacks)) (still_folders old was);
      between = λ _. between_same old _ was _ (λ d. IsFolder old was d × (IsLeftBy c.args.index.now c.args.tree.now d → ⊥)) refl refl (λ d is. is.0);
      wear = search rules;
    }

pub loop-path-preserved : goal.loop-path-preserved
loop-path-preserved g c =
    let i = λ (q : List ℕ). get c.args.index.now q in
    let t = λ (q : List ℕ). get c.args.tree.now q in
    let old = g.T.WorkTree.content c.args.work.now in
    let was = g.T.WorkTree.folders c.args.work.now in
    let mid = g.T.WorkTree.content c.loop-path.work in
    let held = g.T.WorkTree.folders c.loop-path.work in
    let now = g.T.WorkTree.content c.clear_path.new.work in
    let new = g.T.WorkTree.folders c.clear_path.new.work in
    let path = c.deref.result.now in
    let first : map (λ e. e.0.items) c.loop-path.path-iterator ≡ path ∷ map (λ e. e.0.items) c.next.new.self = search rules in
    let working : g.T.WorkTree.honest → Working (λ q. IsCleared (get c.args.index.now q) (get c.args.tree.now q)) old now (map (λ e. e.0.items) c.next.new.self) =
    λ honest. working_more (λ q. IsCleared (i q) (t q)) (λ q. cleared_again (i q) (t q)) old _ now _ _ path first (rw (← c.loop-path.invariant.old, ← c.loop-path.invariant.new) (c.in_ok-clear_path.ensures.done honest)) (c.loop-path.invariant.working honest) in
    record {
      old = search rules;
      new = search rules;
      working = working;
      texts = λ honest. cleared_texts c.args.index.now c.args.tree.now old now (c.requires honest) (working honest).between;
      leaving = λ honest. leaving_more (IsFolder old was) (λ q. IsLeft (i q) (t q) q) mid now held new _ _ path first (clear_lost (i path) (t path) path mid now (c.loop-path.invariant.texts honest) (rw (← c.loop-path.invariant.old, ← c.loop-path.invariant.new) (c.in_ok-clear_path.ensures.done honest)))
          (left_above (i path) (t path) path) (rw (← c.loop-path.invariant.old, ← c.loop-path.invariant.new) (c.in_ok-clear_path.ensures.folders honest)) (c.loop-path.invariant.leaving honest);
      between = λ honest. between_then mid now held new _ (IsFolder old was) (IsLeft (i path) (t path) path) _ (c.loop-path.invariant.between honest) (rw (← c.loop-path.invariant.old, ← c.loop-path.invariant.new) (c.clear_path.ensures.between honest)) (λ d is. is) (λ d is left. is.1 (path, left));
      wear = search rules;
    }

pub returns-in_err-clear_path-clause-begun : goal.returns-in_err-clear_path-clause-begun
returns-in_err-clear_path-clause-begun g c = λ honest.
    working_stop (λ q. IsCleared (get c.args.index.now q) (get c.args.tree.now q)) (λ q. cleared_again (get c.args.index.now q) (get c.args.tree.now q)) (g.T.WorkTree.content c.args.work.now) _ _ _ c.deref.result.now
    (rw (← c.loop-path.invariant.old, ← c.loop-path.invariant.new) (c.in_err-clear_path.ensures.begun honest)) (c.loop-path.invariant.working honest)

pub returns-in_err-clear_path-clause-between : goal.returns-in_err-clear_path-clause-between
returns-in_err-clear_path-clause-between g c = λ honest.
    let path = c.deref.result.now in
    between_then (g.T.WorkTree.content c.loop-path.work) (g.T.WorkTree.content c.clear_path.new.work) (g.T.WorkTree.folders c.loop-path.work) (g.T.WorkTree.folders c.clear_path.new.work) _ (IsFolder (g.T.WorkTree.content c.args.work.now) (g.T.WorkTree.folders c.args.work.now))
    (IsLeft (get c.args.index.now path) (get c.args.tree.now path) path) _ (c.loop-path.invariant.between honest) (rw (← c.loop-path.invariant.old, ← c.loop-path.invariant.new) (c.clear_path.ensures.between honest)) (λ d is. is) (λ d is left. is.1 (path, left))

pub returns-clause-folders : goal.returns-clause-folders
returns-clause-folders g c = λ honest.
    let none : c.loop-path.path-iterator ≡ [] = search rules in
    leaving_ends (IsFolder (g.T.WorkTree.content c.args.work.now) (g.T.WorkTree.folders c.args.work.now)) (λ q. IsLeft (get c.args.index.now q) (get c.args.tree.now q) q) _ _ _ (ap (map (λ e. e.0.items)) none) (c.loop-path.invariant.leaving honest)
