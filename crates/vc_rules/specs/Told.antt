-- What a call of a node tells that sends nothing, as an answer of the machine.
use Rattle.std.specs.Prelude.{◌≡◌, Option, None}
use Rattle.vc_model.specs.Message.{Message}
use Rattle.vc_model.specs.Node.{Answer}

-- nothing is sent
pub record Quietly (b a : Answer) (sends : Option Message) : Type 0 where
  pub answer : a ≡ b
  pub sent : sends ≡ None
