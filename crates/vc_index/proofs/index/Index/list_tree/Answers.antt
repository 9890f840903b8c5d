use Rattle.vc_object_map.specs.Store.{objects}
use Rattle.vc_index.specs.declared.loading.Look.TheVariants as looks
use Rattle.vc_index.proofs.ReadingLemmas.{only_reading}
use Rattle.vc_index.proofs.index.Index.list_tree.Goals as goal

pub returns-clause-only : goal.returns-clause-only
returns-clause-only g c = λ honest. only_reading looks.Trees (objects (g.F.Files.content c.args.files.now)) c.args.root.now c.load.result (c.load.ensures.reading honest) (c.load.ensures.first honest)
