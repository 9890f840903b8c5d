use Rattle.std.proofs.Common.{rules, ◌≡◌, ◌⊎◌, inr, List, ℕ}
use Rattle.std.specs.FinMap.{get}
use Rattle.vc_object_map.specs.Store.{objects}
use Rattle.vc_checkout.specs.CheckedOut.{IsCleared, IsWritten}
use Rattle.vc_checkout.specs.Steps.{Begins}
use Rattle.vc_checkout.proofs.MakingLemmas.{both_between, first_between}
use Rattle.vc_checkout.proofs.ApplyLemmas.{old_or_cleared, old_or_written}
use Rattle.vc_checkout.proofs.ApartLemmas.{apart_cleared, apart_written, stands_alone}
use Rattle.vc_checkout.proofs.apply.bring.Goals as goal
use Rattle.vc_lemmas.proofs.Lists.{on_err}

pub returns-in_err-clear_all-clause-begun : goal.returns-in_err-clear_all-clause-begun
returns-in_err-clear_all-clause-begun g c = λ honest stored.
    let content = g.T.WorkTree.content in
    let folders = g.T.WorkTree.folders in
    let index = c.args.index.now in
    let tree = c.args.tree.now in
    let old = content c.args.work.now in
    let now = content c.clear_all.new.work in
    let so = c.clear_all.ensures.begun honest in
    let part : Begins content folders (objects (g.F.Files.content c.args.files.now)) index tree c.args.work.now c.clear_all.new.work = record {
      files = old_or_cleared (objects (g.F.Files.content c.args.files.now)) index tree old now so;
      apart = apart_cleared index tree old now so;
      folders = first_between index tree old now (folders c.args.work.now) (folders c.clear_all.new.work) (c.clear_all.ensures.between honest);
    } in
    on_err _ _ part

pub returns-in_err-write_all-clause-begun : goal.returns-in_err-write_all-clause-begun
returns-in_err-write_all-clause-begun g c = λ honest stored.
    let content = g.T.WorkTree.content in
    let folders = g.T.WorkTree.folders in
    let index = c.args.index.now in
    let tree = c.args.tree.now in
    let old = content c.args.work.now in
    let mid = content c.clear_all.new.work in
    let now = content c.write_all.new.work in
    let all = objects (g.F.Files.content c.args.files.now) in
    let cleared : (q : List ℕ) → IsCleared (get index q) (get tree q) (get old q) (get mid q) = c.in_ok-clear_all.ensures.done honest in
    let written : (q : List ℕ) → (get now q ≡ get mid q) ⊎ IsWritten all (get index q) (get tree q) (get mid q) (get now q) = c.write_all.ensures.begun honest stored in
    let part : Begins content folders all index tree c.args.work.now c.write_all.new.work = record {
      files = old_or_written all index tree old mid now cleared written;
      apart = apart_written all index tree old mid now c.write_all.ensures.index (c.requires.clear honest) cleared written;
      folders = both_between index tree old mid now (folders c.args.work.now) (folders c.clear_all.new.work) (folders c.write_all.new.work) (c.clear_all.ensures.between honest) (c.write_all.ensures.between honest);
    } in
    on_err _ _ part

pub returns-clause-brought : goal.returns-clause-brought
returns-clause-brought g c = λ honest stored.
    let content = g.T.WorkTree.content in
    let folders = g.T.WorkTree.folders in
    let index = c.args.index.now in
    let tree = c.args.tree.now in
    let old = content c.args.work.now in
    let mid = content c.clear_all.new.work in
    let now = content c.write_all.new.work in
    let cleared : (q : List ℕ) → IsCleared (get index q) (get tree q) (get old q) (get mid q) = c.in_ok-clear_all.ensures.done honest in
    record {
      files = search rules;
      alone = stands_alone (objects (g.F.Files.content c.args.files.now)) index tree old mid now c.write_all.ensures.index (c.requires.clear honest) cleared (λ q. inr (c.in_ok-write_all.ensures.done honest stored q));
      folders = c.in_ok-write_all.ensures.folders honest stored old (folders c.args.work.now) (c.in_ok-clear_all.ensures.folders honest);
    }
