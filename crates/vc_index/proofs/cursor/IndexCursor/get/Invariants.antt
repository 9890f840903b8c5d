use Rattle.std.proofs.Common.{◌≡◌, length}
use Rattle.std.specs.Cmp.Lexicographic.{slice_cmp}
use Rattle.std.specs.Ordering.{nat_cmp}
use Rattle.std.specs.declared.cmp.Ordering.TheVariants.{Less}
use Rattle.vc_index.specs.Cursor.{IsCursor, ahead}
use Rattle.vc_index.proofs.cursor.IndexCursor.get.Given as goal

abbrev pub invariant-loop-self : goal.invariant-loop-self
invariant-loop-self l = IsCursor l.self-inside.index.now l.self-inside.last.now l.self-inside.here l.self-inside.rest × (slice_cmp nat_cmp l.self-inside.last.now l.path ≡ Less) × (l.self-inside.index.now ≡ l.fn.self)

abbrev pub decreases-loop-self : goal.decreases-loop-self
decreases-loop-self l = length (ahead l.self-inside.here l.self-inside.rest)
