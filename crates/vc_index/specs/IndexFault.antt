-- What a refusal of an index says.
use Rattle.std.specs.Prelude.{◌≡◌, ℕ, List}
use Rattle.vc_files.specs.declared.faults.Fault.TheVariants.{Memory}
use Rattle.vc_object_map.specs.declared.faults.StoreFault.TheVariants.{Fault}
use Rattle.vc_index.specs.IndexMap.{IndexMap, HasConflict}
use Rattle.vc_index.specs.Path.{IsPath}
use Rattle.vc_index.specs.declared.faults.IndexFault.{IndexFault}
use Rattle.vc_index.specs.declared.faults.IndexFault.TheVariants.{BadPath, PathConflict, BadIndex, WrongEntry, Missing, Store}

-- why a path was not added
abbrev pub IsOfAdd : IndexMap → List ℕ → IndexFault → Type 0
IsOfAdd m path BadPath = ¬ IsPath path
IsOfAdd m path PathConflict = IsPath path × HasConflict m path
IsOfAdd m path (BadIndex place) = ⊥
IsOfAdd m path (WrongEntry at) = ⊥
IsOfAdd m path (Missing id) = ⊥
IsOfAdd m path (Store fault) = IsPath path × (fault ≡ Fault Memory)

-- a growth was refused
abbrev pub IsMemory : IndexFault → Type 0
IsMemory fault = fault ≡ Store (Fault Memory)
