use Rattle.std.proofs.Common.{subst}
use Rattle.std.specs.Prelude.{IfOk, IfErr, OnErr}
use Rattle.vc_object.specs.declared.id.ObjectId.{ObjectId}
use Rattle.vc_object_map.specs.Store.{objects, IsDamaged}
use Rattle.vc_index.specs.IndexMap.{IndexMap}
use Rattle.vc_index.specs.WrittenTrees.{IsWritten, IsBegun, IsOfWrite}
use Rattle.vc_index.proofs.index.Index.write_tree.Goals as goal

pub returns-clause-written : goal.returns-clause-written
returns-clause-written g c = subst (λ (m : IndexMap). IfOk c.write_trees.result (IsWritten g.F.Files.honest m (objects (g.F.Files.content c.args.files.now)) (objects (g.F.Files.content c.write_trees.new.files)))) c.self.view_is c.write_trees.ensures.written

pub returns-clause-begun : goal.returns-clause-begun
returns-clause-begun g c = subst (λ (m : IndexMap). OnErr c.write_trees.result (IsBegun g.F.Files.honest m (objects (g.F.Files.content c.args.files.now)) (objects (g.F.Files.content c.write_trees.new.files)))) c.self.view_is c.write_trees.ensures.begun

pub returns-clause-refused : goal.returns-clause-refused
returns-clause-refused g c = subst (λ (m : IndexMap). IfErr c.write_trees.result (IsOfWrite m (λ (id : ObjectId). g.F.Files.honest → IsDamaged (g.F.Files.content c.write_trees.new.files) id))) c.self.view_is c.write_trees.ensures.refused
