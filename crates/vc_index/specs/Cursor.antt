-- Where a cursor stands in an index.
use Rattle.std.specs.Prelude.{◌≡◌, ℕ, false, List, [], ◌∷◌, ◌++◌, Option, Some, None, Vec}
use Rattle.std.specs.FinMap.{entries}
use Rattle.std.specs.Global.{Global}
use Rattle.std.specs.List.{AllByRecursion}
use Rattle.std.specs.Ordering.{nat_cmp, is_gt}
use Rattle.std.specs.Cmp.Lexicographic.{slice_cmp}
use Rattle.vc_index.specs.IndexMap.{IndexMap}
use Rattle.vc_index.specs.Reading.{pairs}
use Rattle.vc_index.specs.declared.entry.IndexEntry.{IndexEntry}
use denote.Ref.{Bor}

-- the entry that it stands at, and those behind
abbrev pub ahead : Option (Bor (Vec ℕ Global) × Bor IndexEntry) → List (Vec ℕ Global × IndexEntry) → List (List ℕ × IndexEntry)
ahead None rest = pairs rest
ahead (Some here) rest = (here.0.now.items, here.1.now) ∷ pairs rest

-- the entries that it has passed come not behind the last path
pub record IsCursor (m : IndexMap) (last : List ℕ) (here : Option (Bor (Vec ℕ Global) × Bor IndexEntry)) (rest : List (Vec ℕ Global × IndexEntry)) : Type 0 where
  pub passed : List (List ℕ × IndexEntry)
  pub whole : entries m ≡ passed ++ ahead here rest
  pub below : AllByRecursion (λ (e : List ℕ × IndexEntry). is_gt (slice_cmp nat_cmp e.0 last) ≡ false) passed
  pub ends : here ≡ None → rest ≡ []
