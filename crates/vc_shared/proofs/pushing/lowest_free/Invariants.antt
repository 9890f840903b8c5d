use Rattle.std.proofs.Common.{◌<◌, ◌≢◌, ℕ, None}
use Rattle.vc_shared.specs.Slots.{slot_of}
use Rattle.vc_shared.proofs.pushing.lowest_free.Given as goal

abbrev pub invariant-loop-slot : goal.invariant-loop-slot
invariant-loop-slot l = (j : ℕ) → j < l.slot → slot_of l.slots j ≢ None
