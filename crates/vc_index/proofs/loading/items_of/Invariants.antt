use Rattle.std.proofs.Common.{◌≡◌, ◌≤◌, ◌+◌, ◌++◌, map, length}
use Rattle.vc_object.specs.Entries.{entries_of}
use Rattle.vc_object.specs.EntryView.{entries_left}
use Rattle.vc_index.specs.HeldFiles.{placed}
use Rattle.vc_index.specs.Loading.{item_pair}
use Rattle.vc_index.proofs.loading.items_of.Given as goal

abbrev pub invariant-loop-entry : goal.invariant-loop-entry
invariant-loop-entry l = record {
  can : goal.iterator-loop-entry.can_next l.entry-iterator;
  finite : goal.iterator-loop-entry.is_finite l.entry-iterator;
  items : map item_pair l.items.items ++ map (placed l.folder.items) (entries_left l.entry-iterator) ≡ map (placed l.folder.items) (entries_of l.fn.tree.body.now);
  few : length l.items.items + length (entries_left l.entry-iterator) ≤ length l.fn.tree.body.now;
}
