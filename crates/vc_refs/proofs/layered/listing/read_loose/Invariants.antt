use Rattle.std.proofs.Common.{◌≡◌, take, map}
use Rattle.std.specs.Prelude.{string_bytes}
use Rattle.vc_files.specs.Failures.{Wears}
use Rattle.vc_refs.specs.Packing.{loose_at, AreInRefs}
use Rattle.vc_refs.proofs.ListingLemmas.{AllGood}
use Rattle.vc_refs.proofs.layered.listing.read_loose.Given as goal

abbrev pub invariant-loop-path : goal.invariant-loop-path
invariant-loop-path g l =
    let content = g.F.Files.content l.fn.files in
    record {
      found : g.F.Files.honest → l.loose.items ≡ loose_at content (map string_bytes (take l.path-index l.paths));
      inside : AreInRefs l.loose.items;
      good : g.F.Files.honest → AllGood content (map string_bytes (take l.path-index l.paths));
      same : g.F.Files.content l.files ≡ content;
      wear : Wears g.F.Files.failed g.F.Files.can_fail g.F.Files.left l.fn.files l.files ⊥;
    }
