-- Objects that are carried, over objects that are stored.
use Rattle.std.specs.Prelude.{ℕ}
use Rattle.std.specs.Option.{option_or}
use Rattle.vc_object.specs.ObjectMap.{ObjectMap}

-- the stored objects and, for names that are absent there, the carried ones
unfoldable pub with_carried : ObjectMap → ObjectMap → ObjectMap
with_carried stored carried = λ id. option_or (stored id) (carried id)

-- the reference by which the store was lent, what the store holds, and what is carried
pub record OverlayState (S : Type 0) : Type 0 where
  pub lender : ℕ
  pub stored : S
  pub carried : ObjectMap

abbrev pub overlay_state : {S : Type 0} → ℕ → S → ObjectMap → OverlayState S
overlay_state lender stored carried = record { lender = lender; stored = stored; carried = carried }
