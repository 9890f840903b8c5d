-- The index that files hold.
use Rattle.std.specs.Prelude.{◌≡◌, ℕ, List, Some, MatchOption, codes}
use Rattle.std.specs.FinMap as paths
use Rattle.vc_files.specs.FileMap.{FileMap}
use Rattle.vc_files.specs.declared.faults.Fault.TheVariants as devices
use Rattle.vc_index.specs.IndexMap.{IndexMap, IsIndex}
use Rattle.vc_index.specs.IndexText.{index_text, TextFault}
use Rattle.vc_index.specs.declared.faults.IndexFault.{IndexFault}
use Rattle.vc_index.specs.declared.faults.IndexFault.TheVariants as indexes
use Rattle.vc_rev.specs.declared.refusal.SourceFault.{SourceFault}
use Rattle.vc_rev.specs.declared.refusal.SourceFault.TheVariants.{Store, BadIndex}
use Rattle.vc_object_map.specs.declared.faults.StoreFault.TheVariants as stores

-- the file `index` spells it; without that file it is empty
abbrev pub IsIndexOf : FileMap → IndexMap → Type 0
IsIndexOf content index = MatchOption (paths.get content (codes "index")) (index ≡ paths.empty) (λ bytes. (bytes ≡ index_text index) × IsIndex index)

abbrev pub of_index : IndexFault → SourceFault
of_index (indexes.BadIndex place) = BadIndex place
of_index (indexes.Store fault) = Store fault
of_index _ = Store (stores.Fault devices.Memory)

-- a text goes wrong at the place, or memory runs out
abbrev pub IsOfText : List ℕ → SourceFault → Type 0
IsOfText bytes (BadIndex place) = TextFault bytes place
IsOfText bytes (Store fault) = fault ≡ stores.Fault devices.Memory
IsOfText bytes _ = ⊥

-- the file `index` goes wrong at the place, or a fault
abbrev pub IsOfIndexFile : FileMap → SourceFault → Type 0
IsOfIndexFile content (BadIndex place) = (bytes : List ℕ) × (paths.get content (codes "index") ≡ Some bytes) × TextFault bytes place
IsOfIndexFile content (Store (stores.Fault fault)) = Unit {0}
IsOfIndexFile content _ = ⊥
