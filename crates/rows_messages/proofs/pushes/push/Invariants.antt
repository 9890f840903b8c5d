use Rattle.std.specs.List.{All}
use Rattle.vc_push.specs.Push.{IsShort}
use Rattle.vc_push.specs.PushView.{command_of}
use Rattle.rows_messages.proofs.pushes.push.Given as goal

abbrev pub invariant-words : goal.invariant-words
invariant-words l = All (λ c. IsShort (command_of c)) l.commands.items
