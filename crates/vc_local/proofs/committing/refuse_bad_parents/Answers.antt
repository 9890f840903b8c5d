use Rattle.std.proofs.Common.{◌∙◌, ◌<◌, ◌≤◌, [], List, length, sym, subst, get_or, rules, arith}
use Rattle.std.specs.List.{AllByRecursion}
use Rattle.std.proofs.lemmas.List.{take_all}
use Rattle.vc_files.specs.FileMap.{FileMap}
use Rattle.vc_object.specs.declared.id.ObjectId.{ObjectId}
use Rattle.vc_push_rules.specs.Known.{AreRefsWhole}
use Rattle.vc_quarantine.specs.Known.{AreWhole}
use Rattle.vc_object_map.specs.Store.{objects}
use Rattle.vc_object_map.specs.declared.faults.StoreFault.TheVariants as store
use Rattle.vc_local.specs.Commit.{IsGoodParent}
use Rattle.vc_local.specs.GoodCommit.{BlamesCommit, BlamesCommitBeyond, IsComplete, IsHistory}
use Rattle.vc_local.specs.Making.{BlamesParents}
use Rattle.vc_local.specs.declared.fault.NodeFault.TheVariants.{Store}
use Rattle.vc_local.proofs.CommitLemmas.{blames_beyond}
use Rattle.vc_local.proofs.LookLemmas.{looks_then, looks_told}
use Rattle.vc_local.proofs.MakingLemmas.{all_more, fault_blamed, parents_blamed}
use Rattle.vc_local.specs.Reads.{IsReached, IsReachedByOne, NoneRead, TellsRead}
use Rattle.vc_local.proofs.CommitReads.{parent_of_many}
use Rattle.vc_local.proofs.committing.refuse_bad_parents.Goals as goal

pub loop-parent-preserved : goal.loop-parent-preserved
loop-parent-preserved g c =
    let content = g.F.Files.content in
    let old = content c.args.files.now in
    let d : ObjectId = record { 0 = [] } in
    let id : ObjectId = get_or c.args.parents.now c.loop-parent.parent-index d in
    let before = c.loop-parent.invariant in
    let known : g.F.Files.honest → AreRefsWhole old → AreWhole (objects (content c.loop-parent.files)) c.loop-parent.known = λ honest whole. subst (λ (m : FileMap). AreWhole (objects m) c.loop-parent.known) (sym before.same) (before.known honest whole) in
    record {
      good = λ honest. all_more (IsGoodParent old) c.args.parents.now c.loop-parent.parent-index d c.loop-parent-test.true (before.good honest)
          (λ whole. (
            subst (λ (m : FileMap). IsComplete m id) before.same (c.in_ok-refuse_beyond.ensures.complete honest (known honest whole)),
            subst (λ (m : FileMap). IsHistory m id) before.same (c.in_ok-refuse_beyond.ensures.history honest (known honest whole)),
          ));
      known = λ honest whole. subst (λ (m : FileMap). AreWhole (objects m) c.refuse_beyond.new.known) before.same (c.in_ok-refuse_beyond.ensures.known honest (known honest whole));
      wear = search rules;
      same = c.in_ok-refuse_beyond.ensures.same ∙ before.same;
    }

pub returns-in_err-refuse_beyond-clause-refused : goal.returns-in_err-refuse_beyond-clause-refused
returns-in_err-refuse_beyond-clause-refused g c = λ honest.
    let content = g.F.Files.content in
    let old = content c.args.files.now in
    let d : ObjectId = record { 0 = [] } in
    let id : ObjectId = get_or c.args.parents.now c.loop-parent.parent-index d in
    let e = c.in_err-refuse_beyond.field-0.0 in
    let before = c.loop-parent.invariant in
    let told : BlamesCommitBeyond (AreWhole (objects old) c.loop-parent.known) old id e = subst (λ (m : FileMap). BlamesCommitBeyond (AreWhole (objects m) c.loop-parent.known) m id e) before.same (c.in_err-refuse_beyond.ensures.refused honest) in
    let commit : BlamesCommit old id e = blames_beyond (AreWhole (objects old) c.loop-parent.known) (AreRefsWhole old) old id e (before.known honest) told in
    let blames : BlamesParents old c.args.parents.now e = parents_blamed old c.args.parents.now c.loop-parent.parent-index d e c.loop-parent-test.true (before.good honest) commit in
    search (rules, blames)

pub returns-in_err-refuse_beyond-clause-file : goal.returns-in_err-refuse_beyond-clause-file
returns-in_err-refuse_beyond-clause-file g c = λ honest.
    let content = g.F.Files.content in
    let d : ObjectId = record { 0 = [] } in
    let id : ObjectId = get_or c.args.parents.now c.loop-parent.parent-index d in
    let e = c.in_err-refuse_beyond.field-0.0 in
    let told : TellsRead (IsReached (content c.args.files.now) id) NoneRead e = subst (λ (m : FileMap). TellsRead (IsReached m id) NoneRead e) c.loop-parent.invariant.same (c.in_err-refuse_beyond.ensures.file honest) in
    let read : TellsRead (IsReachedByOne (content c.args.files.now) c.args.parents.now) NoneRead e = parent_of_many (content c.args.files.now) c.args.parents.now c.loop-parent.parent-index d c.loop-parent-test.true e told in
    search (rules, read)

pub returns-in_err-known-clause-refused : goal.returns-in_err-known-clause-refused
returns-in_err-known-clause-refused g c = λ honest.
    let old = g.F.Files.content c.args.files.now in
    let f = c.in_err-known.field-0.0 in
    let some : 0 < length c.args.parents.now = search (rules, arith) in
    let blames : BlamesParents old c.args.parents.now (Store (store.Fault f)) = fault_blamed old c.args.parents.now f some in
    search (rules, blames)

pub returns-in_err-refuse_beyond-clause-wear : goal.returns-in_err-refuse_beyond-clause-wear
returns-in_err-refuse_beyond-clause-wear g c = looks_then c.loop-parent.invariant.wear (looks_told c.in_err-refuse_beyond.ensures.wear (search rules))

pub returns-clause-good : goal.returns-clause-good
returns-clause-good g c = λ honest.
    let old = g.F.Files.content c.args.files.now in
    let parents : List ObjectId = c.args.parents.now in
    let all : length parents ≤ c.loop-parent.parent-index = search (rules, arith) in
    subst (λ (ids : List ObjectId). AllByRecursion (IsGoodParent old) ids) (take_all c.loop-parent.parent-index parents all) (c.loop-parent.invariant.good honest)
