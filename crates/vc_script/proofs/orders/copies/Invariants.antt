use Rattle.std.proofs.Common.{◌≡◌, map, take}
use Rattle.vc_events.specs.Events.{bytes_in}
use Rattle.vc_script.proofs.orders.copies.Given as goal

abbrev pub invariant-loop-word : goal.invariant-loop-word
invariant-loop-word l = map bytes_in l.found.items ≡ map (λ word. word.now) (take l.word-index l.words)
