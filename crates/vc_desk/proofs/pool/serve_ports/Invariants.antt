use Rattle.vc_desk.specs.Runs.{Held}
use Rattle.vc_desk.proofs.pool.serve_ports.Given as goal

-- what the node held that was handed in
abbrev pub ghosts-serve_at : goal.ghosts-serve_at
ghosts-serve_at g a = record { held = λ n. (Held g.F.Files.content) a.shared n }
