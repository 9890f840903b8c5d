use Rattle.std.proofs.Common.{rules, ◌≡◌, ◌≢◌, inl, inr, Option, Some, None, List, ℕ}
use Rattle.std.specs.FinMap.{get}
use Rattle.vc_object_map.specs.Store.{objects}
use Rattle.vc_checkout.specs.CheckedOut.{IsWritten, file_of}
use Rattle.vc_checkout.proofs.ApplyLemmas.{step_or_none_map, written_due}
use Rattle.vc_work_tree.specs.Folders.{IsFolder}
use Rattle.vc_checkout.proofs.MakingLemmas.{due_between, due_exact, idle_exact}
use Rattle.vc_checkout.proofs.apply.write_path.Goals as goal
use Rattle.vc_lemmas.proofs.Lists.{on_err}

pub returns-in_err-put_in-clause-begun : goal.returns-in_err-put_in-clause-begun
returns-in_err-put_in-clause-begun g c = λ honest stored.
    let all = objects (g.F.Files.content c.args.files.now) in
    let i = get c.args.index.now c.args.path.now in
    let t = get c.args.tree.now c.args.path.now in
    let new = c.in-Some.new in
    let is : t ≡ Some new = search rules in
    let apart : i ≢ t = search rules in
    on_err _ _ (step_or_none_map (λ (_ after : Option (List ℕ)). after ≡ file_of all new.mode new.id) (IsWritten all i t) c.args.path.now _ _ (written_due all i t new _ _ is apart) (c.in_err-put_in.ensures.begun honest stored))

pub returns-in_default-clause-folders : goal.returns-in_default-clause-folders
returns-in_default-clause-folders g c = λ honest.
    let i = get c.args.index.now c.args.path.now in
    let t = get c.args.tree.now c.args.path.now in
    let path = c.args.path.now in
    let none : t ≡ None = search rules in
    idle_exact i t path (inr none) (g.T.WorkTree.content c.args.work.now) (g.T.WorkTree.folders c.args.work.now)

pub returns-then-eq-clause-folders : goal.returns-then-eq-clause-folders
returns-then-eq-clause-folders g c = λ honest.
    let i = get c.args.index.now c.args.path.now in
    let t = get c.args.tree.now c.args.path.now in
    let path = c.args.path.now in
    let same : i ≡ t = search rules in
    idle_exact i t path (inl same) (g.T.WorkTree.content c.args.work.now) (g.T.WorkTree.folders c.args.work.now)

pub returns-in_err-put_in-clause-between : goal.returns-in_err-put_in-clause-between
returns-in_err-put_in-clause-between g c = λ honest.
    let i = get c.args.index.now c.args.path.now in
    let t = get c.args.tree.now c.args.path.now in
    let path = c.args.path.now in
    let is : t ≡ Some c.in-Some.new = search rules in
    let apart : i ≢ t = search rules in
    let was = IsFolder (g.T.WorkTree.content c.args.work.now) (g.T.WorkTree.folders c.args.work.now) in
    due_between i t path c.in-Some.new is apart _ _ was (c.put_in.ensures.between honest)

pub returns-clause-folders : goal.returns-clause-folders
returns-clause-folders g c = λ honest.
    let i = get c.args.index.now c.args.path.now in
    let t = get c.args.tree.now c.args.path.now in
    let path = c.args.path.now in
    let is : t ≡ Some c.in-Some.new = search rules in
    let apart : i ≢ t = search rules in
    let was = IsFolder (g.T.WorkTree.content c.args.work.now) (g.T.WorkTree.folders c.args.work.now) in
    due_exact i t path c.in-Some.new is apart _ _ was (c.in_ok-put_in.ensures.folders honest)

pub returns-clause-between : goal.returns-clause-between
returns-clause-between g c = λ honest.
    let i = get c.args.index.now c.args.path.now in
    let t = get c.args.tree.now c.args.path.now in
    let path = c.args.path.now in
    let is : t ≡ Some c.in-Some.new = search rules in
    let apart : i ≢ t = search rules in
    let was = IsFolder (g.T.WorkTree.content c.args.work.now) (g.T.WorkTree.folders c.args.work.now) in
    due_between i t path c.in-Some.new is apart _ _ was (c.put_in.ensures.between honest)

pub returns-in_default-clause-due : goal.returns-in_default-clause-due
returns-in_default-clause-due g c = inl (inr (search rules))

pub returns-then-eq-clause-due : goal.returns-then-eq-clause-due
returns-then-eq-clause-due g c = inl (inl (search rules))

pub returns-clause-due : goal.returns-clause-due
returns-clause-due g c = inr (search rules, search rules)
