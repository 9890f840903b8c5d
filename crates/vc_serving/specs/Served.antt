-- A store that is made ready to be served: why it is not, and what is printed of its port.
use Rattle.std.specs.Prelude.{⊤, ℕ, List, [], ◌∷◌, ◌++◌, Option, codes, decimal}
use Rattle.vc_cli.specs.Printed.{PrintsFront}
use Rattle.vc_cli.specs.declared.failure.Failure.{Failure}
use Rattle.vc_cli.specs.declared.failure.Failure.TheVariants.{Fault, Node, Usage}
use Rattle.vc_files.specs.FileMap.{FileMap}
use Rattle.vc_local.specs.Blames.{BlamesOpen}

-- the line of a port that is open
abbrev pub listening_line : ℕ → List ℕ
listening_line port = codes "listening " ++ (decimal port ++ 10 ∷ [])

-- nothing of it was printed, or a front
abbrev pub PrintsListening : ℕ → Option (List ℕ) → Option (List ℕ) → Type 0
PrintsListening port before after = PrintsFront (λ Prints. Prints (listening_line port)) before after

-- why a store is not made a shared node's: it can't be opened, or its files are none's
abbrev pub IsUnready : FileMap → Failure → Type 0
IsUnready content (Usage text) = ⊤
IsUnready content (Fault fault) = ⊤
IsUnready content (Node fault) = BlamesOpen content fault
IsUnready content _ = ⊥
