use Rattle.std.proofs.Common.{◌≡◌, [], take, Some}
use Rattle.vc_files.specs.Failures.{Wears}
use Rattle.vc_refs.specs.Packing.{loose_at, AreInRefs}
use Rattle.vc_refs.specs.Refs.{packed_map}
use Rattle.vc_refs.specs.SetAll.{names_of, MayChangeAfter}
use Rattle.vc_refs.proofs.layered.checking_all.check_all.Given as goal

-- those so far may be made, and the loose ones of them are there
abbrev pub invariant-loop-place : goal.invariant-loop-place
invariant-loop-place g l =
    let content = g.F.Files.content l.fn.files in
    record {
      found : g.F.Files.honest → packed_map content ≡ Some l.packed → l.loose.items ≡ loose_at content (names_of (take l.place l.changes));
      inside : AreInRefs l.loose.items;
      may : g.F.Files.honest → packed_map content ≡ Some l.packed → MayChangeAfter content [] (take l.place l.changes);
      same : g.F.Files.content l.files ≡ content;
      wear : Wears g.F.Files.failed g.F.Files.can_fail g.F.Files.left l.fn.files l.files ⊥;
    }
