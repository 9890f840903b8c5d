use Rattle.vc_files.proofs.WearLemmas.{writes_both, writes_told}
use Rattle.std.proofs.Common.{rules, inr, ap, ◌∙◌}
use Rattle.vc_object_map.specs.Store.{IsDamaged, objects}
use Rattle.vc_local.specs.Making.{BlamesObjects, StoresTrees}
use Rattle.vc_local.specs.NodeFault.{of_index}
use Rattle.vc_local.specs.declared.fault.NodeFault.TheVariants.{Store}
use Rattle.vc_local.proofs.StoringLemmas.{root_of, written_still, tree_blamed, body_blamed}
use Rattle.vc_object.specs.declared.kind.Kind.TheVariants as kinds
use Rattle.vc_local.proofs.CleanLemmas.{clean_objects, clean_on, clean_then, clean_put}
use Rattle.vc_object.specs.declared.id.ObjectId.{ObjectId}
use Rattle.vc_local.specs.Reads.{IsMade, NoneRead, TellsRead}
use Rattle.vc_local.proofs.CommitReads.{trees_read, body_read}
use Rattle.vc_local.proofs.committing.write_objects.Goals as goal

pub returns-in_err-tree-clause-refused : goal.returns-in_err-tree-clause-refused
returns-in_err-tree-clause-refused g c =
    let content = g.F.Files.content in
    let w = c.args.words in
    let e = c.in_err-tree.field-0.0 in
    let blames : BlamesObjects g.F.Files.honest (content c.args.files.now) c.args.index.now c.args.parents.now w.author.now w.committer.now w.message.now (of_index e) =
    tree_blamed g.F.Files.honest (content c.args.files.now) (content c.write_tree.new.files) c.args.index.now c.args.parents.now w.author.now w.committer.now w.message.now c.in_err-tree.ensures.undamaged e c.in_err-tree.ensures.refused in
    search (rules, blames)

pub returns-in_err-id-clause-refused : goal.returns-in_err-id-clause-refused
returns-in_err-id-clause-refused g c =
    let content = g.F.Files.content in
    let w = c.args.words in
    let e = c.in_err-id.field-0.0 in
    let blames : BlamesObjects g.F.Files.honest (content c.args.files.now) c.args.index.now c.args.parents.now w.author.now w.committer.now w.message.now (Store e) =
    body_blamed g.F.Files.honest (content c.args.files.now) (content c.write_tree.new.files) c.args.index.now c.args.parents.now w.author.now w.committer.now w.message.now c.in_ok-tree.ensures.undamaged
    c.in_ok-tree.tree (root_of c.in_ok-tree.ensures.written) c.deref.result.now (c.deref.ensures.value ∙ c.in_ok-body.ensures) e c.in_err-id.ensures.answers.refused c.in_err-id.ensures.puts.damaged in
    search (rules, blames)

pub returns-in_err-id-clause-left : goal.returns-in_err-id-clause-left
returns-in_err-id-clause-left g c =
    let content = g.F.Files.content in
    let left : StoresTrees g.F.Files.honest c.args.index.now (objects (content c.args.files.now)) (objects (content c.put.new.files)) =
    inr (c.in_ok-tree.tree, written_still g.F.Files.honest c.args.index.now (objects (content c.args.files.now)) (objects (content c.write_tree.new.files)) (objects (content c.put.new.files)) c.in_ok-tree.tree c.in_ok-tree.ensures.written (λ h. ap objects (c.in_err-id.ensures.puts.err h))) in
    search (rules, left)

-- ---- no file becomes bad

pub returns-in_err-tree-clause-clean : goal.returns-in_err-tree-clause-clean
returns-in_err-tree-clause-clean g c = λ honest. clean_objects _ _ (c.in_err-tree.ensures.undamaged honest) (c.in_err-tree.ensures.outside honest)

pub returns-in_err-body-clause-clean : goal.returns-in_err-body-clause-clean
returns-in_err-body-clause-clean g c = λ honest. clean_objects _ _ (c.in_ok-tree.ensures.undamaged honest) (c.in_ok-tree.ensures.outside honest)

pub returns-in_err-id-clause-clean : goal.returns-in_err-id-clause-clean
returns-in_err-id-clause-clean g c = λ honest. clean_on _ _ _ (clean_objects _ _ (c.in_ok-tree.ensures.undamaged honest) (c.in_ok-tree.ensures.outside honest)) (c.in_err-id.ensures.puts.err honest)

pub returns-clause-clean : goal.returns-clause-clean
returns-clause-clean g c = λ honest.
    clean_then _ _ _ (clean_objects _ _ (c.in_ok-tree.ensures.undamaged honest) (c.in_ok-tree.ensures.outside honest))
    (clean_put _ _ kinds.Commit c.deref.result.now c.in_ok-id.id c.in_ok-id.ensures.answers.name (c.in_ok-id.ensures.puts.files honest) (c.in_ok-id.ensures.puts.objects honest) (c.in_ok-id.ensures.puts.outside honest))

pub returns-in_err-id-clause-wear : goal.returns-in_err-id-clause-wear
returns-in_err-id-clause-wear g c = writes_both c.in_ok-tree.ensures.wear (search rules) (writes_told c.in_err-id.ensures.wear (search rules) (search rules))

pub returns-clause-wear : goal.returns-clause-wear
returns-clause-wear g c = writes_both c.in_ok-tree.ensures.wear (search rules) (writes_told c.in_ok-id.ensures.wear (search rules) (search rules))

-- ---- a bad file that is told

pub returns-in_err-tree-clause-file : goal.returns-in_err-tree-clause-file
returns-in_err-tree-clause-file g c =
    let w = c.args.words in
    let e = c.in_err-tree.field-0.0 in
    let read : TellsRead (IsMade c.args.index.now c.args.parents.now w.author.now w.committer.now w.message.now) NoneRead (of_index e) =
    trees_read c.args.index.now c.args.parents.now w.author.now w.committer.now w.message.now (λ (id : ObjectId). g.F.Files.honest → IsDamaged (g.F.Files.content c.write_tree.new.files) id) e c.in_err-tree.ensures.refused in
    search (rules, read)

pub returns-in_err-id-clause-file : goal.returns-in_err-id-clause-file
returns-in_err-id-clause-file g c =
    let w = c.args.words in
    let e = c.in_err-id.field-0.0 in
    let read : TellsRead (IsMade c.args.index.now c.args.parents.now w.author.now w.committer.now w.message.now) NoneRead (Store e) =
    body_read c.args.index.now c.args.parents.now w.author.now w.committer.now w.message.now
    c.in_ok-tree.tree (root_of c.in_ok-tree.ensures.written) c.deref.result.now (c.deref.ensures.value ∙ c.in_ok-body.ensures) e c.in_err-id.ensures.answers.refused in
    search (rules, read)
