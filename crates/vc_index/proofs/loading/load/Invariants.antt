use Rattle.std.proofs.Common.{◌≡◌, map}
use Rattle.std.specs.List.{AllByRecursion}
use Rattle.vc_files.specs.Failures.{Wears}
use Rattle.vc_object_map.specs.Store.{objects}
use Rattle.vc_index.specs.IndexMap.{IsFile, IsIndex}
use Rattle.vc_index.specs.Reading.{pairs, with_files}
use Rattle.vc_index.specs.Loading.{HasBlobs, item_pair}
use Rattle.vc_index.specs.declared.loading.Look.TheVariants as looks
use Rattle.vc_index.proofs.LoadLemmas.{Loading, IsNamed, work}
use Rattle.vc_index.proofs.ReadingLemmas.{Walks}
use Rattle.vc_index.proofs.loading.load.Given as goal

abbrev pub invariant-loop-item : goal.invariant-loop-item
invariant-loop-item g l =
    let content = g.F.Files.content in
    record {
      named : AllByRecursion IsNamed (map item_pair l.items.items);
      loading : g.F.Files.honest → Loading (objects (content l.fn.files)) l.root (map item_pair l.items.items) (with_files (pairs l.found.items));
      blobs : g.F.Files.honest → l.look ≡ looks.All → HasBlobs (objects (content l.fn.files)) (with_files (pairs l.found.items));
      walks : g.F.Files.honest → Walks l.look (objects (content l.fn.files)) l.root (map item_pair l.items.items);
      each : AllByRecursion (λ e. IsFile e.0 e.1) (pairs l.found.items);
      apart : g.F.Files.honest → IsIndex (with_files (pairs l.found.items));
      same : content l.files ≡ content l.fn.files;
      wear : Wears g.F.Files.failed g.F.Files.can_fail g.F.Files.left l.fn.files l.files ⊥;
    }

abbrev pub decreases-loop-item : goal.decreases-loop-item
decreases-loop-item g l = work (map item_pair l.items.items)
