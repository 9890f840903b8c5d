-- The tracking value of a clone that is there.
use Rattle.std.proofs.Common.{◌≡◌, ℕ, List, Option, Some, None, ap, ◌∙◌, refl}
use Rattle.std.specs.FinMap.{get}
use Rattle.std.specs.Option.{option_and_then}
use Rattle.vc_model.specs.Object.{Id}
use Rattle.vc_model.specs.Refs.{tracking}
use Rattle.vc_model.specs.Clone.{CloneNode}
use Rattle.vc_model.specs.World.{World}
use Rattle.vc_model.specs.Safe.{branch_value, tracking_value}

abbrev pub IsValue : World → List ℕ → Id → Type 0
IsValue w b x = branch_value w b ≡ Some x

-- clone c is there, and has this tracking value of b
abbrev pub IsTracking : World → ℕ → List ℕ → Id → Type 0
IsTracking w c b x = (n : CloneNode) × (get w.clones c ≡ Some n) × (get n.repository.refs (tracking b) ≡ Some x)

then_some : {X Y : Type 0} (f : X → Option Y) (o : Option X) (y : Y) → option_and_then f o ≡ Some y → (x : X) × (o ≡ Some x) × (f x ≡ Some y)
then_some f None y e = absurd (cc)
then_some f (Some x) y e = (x, refl, e)

pub at_clone_value : (w : World) (c : ℕ) (b : List ℕ) (x : Id) → tracking_value w c b ≡ Some x → IsTracking w c b x
at_clone_value w c b x e = then_some (λ (n : CloneNode). get n.repository.refs (tracking b)) (get w.clones c) x e

pub value_at_clone : (w : World) (c : ℕ) (b : List ℕ) (x : Id) → IsTracking w c b x → tracking_value w c b ≡ Some x
value_at_clone w c b x t = ap (option_and_then (λ (n : CloneNode). get n.repository.refs (tracking b))) t.1 ∙ t.2
