use Rattle.std.proofs.Common.{map, ℕ, ap, sym, ◌∙◌}
use Rattle.std.specs.Prelude.{Vec}
use Rattle.std.specs.Global.{Global}
use Rattle.std.specs.FinMap.{entries}
use Rattle.vc_index.specs.HeldFiles.{Pair}
use Rattle.vc_index.specs.declared.entry.IndexEntry.{IndexEntry}
use Rattle.vc_index.proofs.MapLemmas.{entries-index_of}
use Rattle.vc_index.proofs.index.Index.iter.Goals as goal

abbrev view : Vec ℕ Global × IndexEntry → Pair
view e = (e.0.items, e.1)

pub returns-clause-files : goal.returns-clause-files
returns-clause-files c = ap (map view) c.iter.ensures.rest ∙ sym (entries-index_of c.self.inside.map c.iter.ensures.ordered) ∙ ap entries c.self.view_is
