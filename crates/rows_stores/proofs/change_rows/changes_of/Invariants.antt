use Rattle.vc_refs.specs.SetAll.{AreNamedInRefs}
use Rattle.rows_stores.proofs.change_rows.changes_of.Given as goal

-- those so far are
abbrev pub invariant-loop-part : goal.invariant-loop-part
invariant-loop-part l = AreNamedInRefs l.changes.items
