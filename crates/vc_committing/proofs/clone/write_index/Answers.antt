use Rattle.std.proofs.Common.{rules, inr, subst}
use Rattle.vc_files.proofs.WearLemmas.{wears_then, wears_writes, writes_told}
use Rattle.vc_files.specs.FileMap.{FileMap}
use Rattle.vc_index.specs.Damage.{KeepsDamage}
use Rattle.vc_index.specs.WrittenTrees.{IsBegun, IsWritten}
use Rattle.vc_object_map.specs.Store.{objects}
use Rattle.vc_committing.proofs.StepLemmas.{write_before}
use Rattle.vc_committing.proofs.clone.write_index.Goals as goal

pub returns-in-Ok-write_tree-clause-written : goal.returns-in-Ok-write_tree-clause-written
returns-in-Ok-write_tree-clause-written g c = λ honest.
    let new = objects (g.F.Files.content c.write_tree.new.files) in
    (c.in-Ok.index, c.in-Ok.ensures.found honest, subst (λ (f : FileMap). IsWritten g.F.Files.honest c.in-Ok.index (objects f) new c.in-Ok-write_tree.id) c.read_index.ensures.same c.in-Ok-write_tree.ensures.written)

pub returns-clause-refused : goal.returns-clause-refused
returns-clause-refused g c = λ honest.
    let content = g.F.Files.content in
    let old = content c.args.files.now in
    let keeps = subst (λ (f : FileMap). KeepsDamage f (content c.write_tree.new.files)) c.read_index.ensures.same (c.write_tree.ensures.undamaged honest) in
    (c.in-Ok.index, c.in-Err-write_tree.fault, c.in-Ok.ensures.found honest, write_before g.F.Files.honest honest c.in-Ok.index old (content c.write_tree.new.files) c.in-Err-write_tree.fault keeps c.in-Err-write_tree.ensures.refused, c.from.ensures)

pub returns-clause-begun : goal.returns-clause-begun
returns-clause-begun g c = λ honest.
    let content = g.F.Files.content in
    let begun = subst (λ (f : FileMap). IsBegun g.F.Files.honest c.in-Ok.index (objects f) (objects (content c.write_tree.new.files))) c.read_index.ensures.same c.in-Err-write_tree.ensures.begun in
    inr (c.in-Ok.index, c.in-Ok.ensures.found honest, begun)

pub returns-in-Err-clause-wear : goal.returns-in-Err-clause-wear
returns-in-Err-clause-wear g c = writes_told (wears_writes c.in-Err.ensures.wear (search rules)) (search rules) (search rules)

pub returns-in-Ok-write_tree-clause-wear : goal.returns-in-Ok-write_tree-clause-wear
returns-in-Ok-write_tree-clause-wear g c = wears_then c.in-Ok.ensures.wear (search rules) (search rules) (writes_told c.in-Ok-write_tree.ensures.wear (search rules) (search rules))

pub returns-clause-wear : goal.returns-clause-wear
returns-clause-wear g c = wears_then c.in-Ok.ensures.wear (search rules) (search rules) (writes_told c.in-Err-write_tree.ensures.wear (search rules) (search rules))
