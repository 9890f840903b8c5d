use Rattle.std.proofs.Common.{rules, ◌≡◌, ◌∙◌, false, inl, inr, refl}
use Rattle.vc_work_tree.proofs.FolderLemmas.{above_in}
use Rattle.vc_checkout.proofs.LeavingLemmas.{chain_between, chain_ends, chain_more, chain_start, chain_stops, kept_same, keeps_same, moved_folders}
use Rattle.vc_checkout.proofs.apply.remove_empty_above.Goals as goal

pub loop-folder-init : goal.loop-folder-init
loop-folder-init g c = record {
  text = c.utf8.path;
  inside = inl refl;
  chain = λ _. chain_start (g.T.WorkTree.content c.args.work.now) _ (g.T.WorkTree.folders c.args.work.now) _ c.args.path.now refl refl;
  same = refl;
  wear = search rules;
}

pub loop-folder-preserved : goal.loop-folder-preserved
loop-folder-preserved g c =
    let content = g.T.WorkTree.content in
    let folders = g.T.WorkTree.folders in
    record {
      text = search rules;
      inside = inr (above_in c.in-Some.folder.now c.loop-folder.below.now c.args.path.now c.in-Some.ensures.above c.loop-folder.invariant.inside);
      chain = λ honest. chain_more (content c.args.work.now) (content c.loop-folder.work) (content c.remove_folder.new.self) (folders c.args.work.now) (folders c.loop-folder.work) (folders c.remove_folder.new.self) c.args.path.now c.loop-folder.below.now
          (kept_same _ _ c.loop-folder.invariant.same) (keeps_same _ _ c.in_ok-remove_folder.ensures.same) c.in-Some.folder.now c.in-Some.ensures c.loop-folder.invariant.inside (c.loop-folder.invariant.chain honest) (c.in_ok-remove_folder.ensures.folders honest);
      same = search rules;
      wear = search rules;
    }

pub returns-then-not-branch-clause-folders : goal.returns-then-not-branch-clause-folders
returns-then-not-branch-clause-folders g c = λ honest.
    let content = g.T.WorkTree.content in
    let folders = g.T.WorkTree.folders in
    let stands : c.in_ok-remove_folder.field-0 ≡ false = search rules in
    chain_stops (content c.args.work.now) (content c.remove_folder.new.self) (folders c.args.work.now) (folders c.remove_folder.new.self) c.args.path.now c.in-Some.folder.now
    (chain_more (content c.args.work.now) (content c.loop-folder.work) (content c.remove_folder.new.self) (folders c.args.work.now) (folders c.loop-folder.work) (folders c.remove_folder.new.self) c.args.path.now c.loop-folder.below.now
    (kept_same _ _ c.loop-folder.invariant.same) (keeps_same _ _ c.in_ok-remove_folder.ensures.same) c.in-Some.folder.now c.in-Some.ensures c.loop-folder.invariant.inside (c.loop-folder.invariant.chain honest) (c.in_ok-remove_folder.ensures.folders honest))
    ((c.in_ok-remove_folder.ensures.gone honest).0 stands)

pub returns-then-not-branch-clause-between : goal.returns-then-not-branch-clause-between
returns-then-not-branch-clause-between g c = λ honest.
    let content = g.T.WorkTree.content in
    let folders = g.T.WorkTree.folders in
    chain_between (content c.args.work.now) (content c.remove_folder.new.self) (folders c.args.work.now) (folders c.remove_folder.new.self) c.args.path.now c.in-Some.folder.now (kept_same _ _ (c.in_ok-remove_folder.ensures.same ∙ c.loop-folder.invariant.same))
    (chain_more (content c.args.work.now) (content c.loop-folder.work) (content c.remove_folder.new.self) (folders c.args.work.now) (folders c.loop-folder.work) (folders c.remove_folder.new.self) c.args.path.now c.loop-folder.below.now
    (kept_same _ _ c.loop-folder.invariant.same) (keeps_same _ _ c.in_ok-remove_folder.ensures.same) c.in-Some.folder.now c.in-Some.ensures c.loop-folder.invariant.inside (c.loop-folder.invariant.chain honest) (c.in_ok-remove_folder.ensures.folders honest))

pub returns-in_err-remove_folder-clause-between : goal.returns-in_err-remove_folder-clause-between
returns-in_err-remove_folder-clause-between g c = λ honest.
    let content = g.T.WorkTree.content in
    let folders = g.T.WorkTree.folders in
    chain_between (content c.args.work.now) (content c.remove_folder.new.self) (folders c.args.work.now) (folders c.remove_folder.new.self) c.args.path.now c.loop-folder.below.now (kept_same _ _ (c.in_err-remove_folder.ensures.same ∙ c.loop-folder.invariant.same))
    (moved_folders (content c.loop-folder.work) (content c.remove_folder.new.self) (folders c.loop-folder.work) (folders c.remove_folder.new.self) c.in_err-remove_folder.ensures.same (c.in_err-remove_folder.ensures.err_folders honest) _ (c.loop-folder.invariant.chain honest))

pub returns-clause-folders : goal.returns-clause-folders
returns-clause-folders g c = λ honest.
    let content = g.T.WorkTree.content in
    let folders = g.T.WorkTree.folders in
    chain_ends (content c.args.work.now) (content c.loop-folder.work) (folders c.args.work.now) (folders c.loop-folder.work) c.args.path.now c.loop-folder.below.now c.in_default.ensures (c.loop-folder.invariant.chain honest)

pub returns-clause-between : goal.returns-clause-between
returns-clause-between g c = λ honest.
    let content = g.T.WorkTree.content in
    let folders = g.T.WorkTree.folders in
    chain_between (content c.args.work.now) (content c.loop-folder.work) (folders c.args.work.now) (folders c.loop-folder.work) c.args.path.now c.loop-folder.below.now (kept_same _ _ c.loop-folder.invariant.same) (c.loop-folder.invariant.chain honest)
