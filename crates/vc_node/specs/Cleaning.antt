-- What a prune does to the node itself.
use Rattle.std.specs.Prelude.{◌≡◌, Bool, true, false}
use Rattle.vc_quarantine.specs.Learning.{IsNothing}
use Rattle.vc_node.specs.Held.{Held}

-- One that is down answers so and stays as it is, one that is up is up after it or not, and what it awaits stays. What is known of
-- generations, and what is due, is forgotten.
pub record SettlesForgetting {F : Type 0} (IsDown : Type 0) (is_up : Bool) (old new : Held F) : Type 0 where
  pub down : old.is_up ≡ false → IsDown
  pub unchanged : old.is_up ≡ false → new ≡ old
  pub up : old.is_up ≡ true → new.is_up ≡ is_up
  pub awaits : new.awaited ≡ old.awaited
  pub forgets : old.is_up ≡ true → IsNothing new.learnt
