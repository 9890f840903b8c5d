use Rattle.vc_files.specs.Failures.{Writes}
use Rattle.vc_local.specs.Clean.{StaysClean}
use Rattle.vc_server.proofs.ServingLemmas.{HasStepped}
use Rattle.std.proofs.Common.{◌≡◌, true}
use Rattle.vc_server.proofs.answering.finish.Given as goal

abbrev pub invariant-steps : goal.invariant-steps
invariant-steps g l =
    let content = g.F.Files.content in
    (l.shared.is_up ≡ true)
    × Writes g.F.Files.honest content g.F.Files.failed g.F.Files.can_fail g.F.Files.left l.fn.shared.files l.shared.files ⊥
    × (g.F.Files.honest → StaysClean (content l.fn.shared.files) (content l.shared.files))
    × (g.F.Files.honest → HasStepped (content l.fn.shared.files) (content l.shared.files) l.fn.shared.slots l.shared.slots l.slot l.counter)
