use Rattle.std.proofs.Common.{◌≡◌}
use Rattle.vc_object.specs.Entries.{entries_of}
use Rattle.vc_object.specs.EntryView.{entries_left}
use Rattle.vc_rev.specs.Meaning.{entry_named}
use Rattle.vc_rev.proofs.object.find_entry.Given as goal

abbrev pub invariant-loop-entry : goal.invariant-loop-entry
invariant-loop-entry l = record {
  can : goal.iterator-loop-entry.can_next l.entry-iterator;
  finite : goal.iterator-loop-entry.is_finite l.entry-iterator;
  left : entry_named l.name (entries_left l.entry-iterator) ≡ entry_named l.name (entries_of l.fn.tree.body.now);
}
