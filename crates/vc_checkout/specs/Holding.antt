-- The paths that a work tree can hold, and which of them refuses a checkout.
use Rattle.std.specs.Prelude.{◌≡◌, ℕ, Bool, true, false, List}
use Rattle.std.specs.Cmp.Lexicographic.{slice_cmp}
use Rattle.std.specs.FinMap.{get}
use Rattle.std.specs.Ordering.{nat_cmp}
use Rattle.std.specs.declared.cmp.Ordering.TheVariants.{Less}
use Rattle.vc_index.specs.IndexMap.{IndexMap}
use Rattle.vc_checkout.specs.Refusal.{IsDue}
use Rattle.vc_checkout.specs.declared.faults.CheckoutFault.{CheckoutFault}
use Rattle.vc_checkout.specs.declared.faults.CheckoutFault.TheVariants.{BadPath}

-- if something is due at the path, it can be held there
abbrev pub HoldsDueAt : (List ℕ → Bool) → IndexMap → IndexMap → List ℕ → Type 0
HoldsDueAt can_hold index tree path = IsDue (get index path) (get tree path) → can_hold path ≡ true

-- all that is due can be held
abbrev pub HoldsDue : (List ℕ → Bool) → IndexMap → IndexMap → Type 0
HoldsDue can_hold index tree = (path : List ℕ) → HoldsDueAt can_hold index tree path

-- something is due at the path, and can't be held there
abbrev pub BlamesPathAt : (List ℕ → Bool) → IndexMap → IndexMap → List ℕ → CheckoutFault → Type 0
BlamesPathAt can_hold index tree path (BadPath at) = (at.items ≡ path) × IsDue (get index path) (get tree path) × (can_hold path ≡ false)
BlamesPathAt can_hold index tree path _ = ⊥

-- the first path by bytes at which that is so
abbrev pub BlamesPath : (List ℕ → Bool) → IndexMap → IndexMap → CheckoutFault → Type 0
BlamesPath can_hold index tree fault =
    (path : List ℕ) × BlamesPathAt can_hold index tree path fault × ((before : List ℕ) → slice_cmp nat_cmp before path ≡ Less → HoldsDueAt can_hold index tree before)
