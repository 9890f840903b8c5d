-- What a node holds.
use Rattle.std.specs.Prelude.{Bool}
use Rattle.vc_quarantine.specs.Learning.{Learnt}
use Rattle.vc_node.specs.Awaited.{AwaitedText}

-- the files of a node, what it awaits, whether it is up, and what it has learnt of the generations of commits
pub record Held (F : Type 0) : Type 0 where
  pub files : F
  pub awaited : AwaitedText
  pub is_up : Bool
  pub learnt : Learnt
