-- Files that are read for their bodies.
use Rattle.std.specs.Prelude.{⊤}
use Rattle.vc_cli.specs.declared.failure.Failure.{Failure}
use Rattle.vc_cli.specs.declared.failure.Failure.TheVariants.{Fault, NoSuchPath}

-- nothing can be read at a path, or a fault
abbrev pub IsUnread : Failure → Type 0
IsUnread NoSuchPath = ⊤
IsUnread (Fault fault) = ⊤
IsUnread _ = ⊥
