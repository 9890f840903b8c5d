use Rattle.std.proofs.Common.{rules, ◌≡◌, Option, Some, None, List, ℕ}
use Rattle.std.specs.FinMap.{get}
use Rattle.vc_checkout.specs.CheckedOut.{IsCleared, left_of}
use Rattle.vc_checkout.proofs.ApplyLemmas.{step_or_none_map, cleared_gone}
use Rattle.std.specs.Prelude.{IsSome, IsUtf8}
use Rattle.vc_work_tree.specs.Folders.{IsFolder}
use Rattle.vc_checkout.specs.FoldersAfter.{IsFolderFor, IsLeft}
use Rattle.vc_checkout.proofs.LeavingLemmas.{between_less, left_as, left_kept, left_unknown, left_was, less_same, still_unless}
use Rattle.vc_checkout.proofs.apply.clear_path.Goals as goal
use Rattle.vc_lemmas.proofs.Lists.{on_err}

pub returns-in_err-take_out-clause-begun : goal.returns-in_err-take_out-clause-begun
returns-in_err-take_out-clause-begun g c = λ honest.
    let i = get c.args.index.now c.args.path.now in
    let t = get c.args.tree.now c.args.path.now in
    let old = c.in-Some.old in
    let is : i ≡ Some old = search rules in
    let none : t ≡ None = search rules in
    on_err _ _ (step_or_none_map (λ (file after : Option (List ℕ)). after ≡ left_of old.mode file) (IsCleared i t) c.args.path.now _ _ (cleared_gone i t old _ _ is none) (c.in_err-take_out.ensures.begun honest))

pub returns-in_default-clause-folders : goal.returns-in_default-clause-folders
returns-in_default-clause-folders g c = λ honest.
    let none : get c.args.index.now c.args.path.now ≡ None = search rules in
    still_unless (g.T.WorkTree.content c.args.work.now) (g.T.WorkTree.folders c.args.work.now) (IsLeft (get c.args.index.now c.args.path.now) (get c.args.tree.now c.args.path.now) c.args.path.now) (λ d. left_unknown (get c.args.index.now c.args.path.now) (get c.args.tree.now c.args.path.now) c.args.path.now d none)

pub returns-then-is_some-clause-folders : goal.returns-then-is_some-clause-folders
returns-then-is_some-clause-folders g c = λ honest.
    let some : IsSome (get c.args.tree.now c.args.path.now) = search rules in
    still_unless (g.T.WorkTree.content c.args.work.now) (g.T.WorkTree.folders c.args.work.now) (IsLeft (get c.args.index.now c.args.path.now) (get c.args.tree.now c.args.path.now) c.args.path.now) (λ d. left_kept (get c.args.index.now c.args.path.now) (get c.args.tree.now c.args.path.now) c.args.path.now d some)

pub returns-in_err-take_out-clause-between : goal.returns-in_err-take_out-clause-between
returns-in_err-take_out-clause-between g c = λ honest.
    let i = get c.args.index.now c.args.path.now in
    let t = get c.args.tree.now c.args.path.now in
    let path = c.args.path.now in
    let is : i ≡ Some c.in-Some.old = search rules in
    let none : t ≡ None = search rules in
    let was = IsFolder (g.T.WorkTree.content c.args.work.now) (g.T.WorkTree.folders c.args.work.now) in
    between_less _ _ was (λ d. IsUtf8 path × IsFolderFor c.in-Some.old path d) (IsLeft i t path) was (λ d. left_as i t c.in-Some.old path d is none) (c.take_out.ensures.between honest)

pub returns-clause-folders : goal.returns-clause-folders
returns-clause-folders g c = λ honest.
    let i = get c.args.index.now c.args.path.now in
    let t = get c.args.tree.now c.args.path.now in
    let path = c.args.path.now in
    let is : i ≡ Some c.in-Some.old = search rules in
    let none : t ≡ None = search rules in
    let was = IsFolder (g.T.WorkTree.content c.args.work.now) (g.T.WorkTree.folders c.args.work.now) in
    less_same _ _ was (λ d. IsUtf8 path × IsFolderFor c.in-Some.old path d) (IsLeft i t path) (λ d. left_as i t c.in-Some.old path d is none) (λ d. left_was i t c.in-Some.old path d is) (c.in_ok-take_out.ensures.folders honest)

pub returns-clause-between : goal.returns-clause-between
returns-clause-between g c = λ honest.
    let i = get c.args.index.now c.args.path.now in
    let t = get c.args.tree.now c.args.path.now in
    let path = c.args.path.now in
    let is : i ≡ Some c.in-Some.old = search rules in
    let none : t ≡ None = search rules in
    let was = IsFolder (g.T.WorkTree.content c.args.work.now) (g.T.WorkTree.folders c.args.work.now) in
    between_less _ _ was (λ d. IsUtf8 path × IsFolderFor c.in-Some.old path d) (IsLeft i t path) was (λ d. left_as i t c.in-Some.old path d is none) (c.take_out.ensures.between honest)
