use Rattle.std.proofs.Common.{ℕ, List, take}
use Rattle.std.specs.Fmt.{HasWritten, IsPlainFormatter}
use Rattle.vc_cli.specs.Told.{shown_text}
use Rattle.vc_cli.proofs.failure.write_shown.Given as goal

abbrev pub invariant-bytes : goal.invariant-bytes
invariant-bytes g l = IsPlainFormatter l.fn.f → HasWritten g.W.Write.write_str_gives l.fn.f (shown_text (take l.byte-index l.fn.text)) l.f
