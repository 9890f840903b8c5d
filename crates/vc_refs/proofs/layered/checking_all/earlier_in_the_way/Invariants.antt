use Rattle.std.proofs.Common.{◌≡◌, None, take}
use Rattle.vc_refs.specs.SetAll.{first_conflicting}
use Rattle.vc_refs.proofs.layered.checking_all.earlier_in_the_way.Given as goal

-- none of those so far conflicts
abbrev pub invariant-loop-change : goal.invariant-loop-change
invariant-loop-change l = first_conflicting (take l.change-index l.earlier) l.name ≡ None
