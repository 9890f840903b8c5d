use Rattle.std.proofs.Common.{◌≡◌, drop, map}
use Rattle.vc_events.specs.Events.{item_of}
use Rattle.vc_script.proofs.ListLemmas.{behind}
use Rattle.vc_script.specs.Words.{all_in, item_in}
use Rattle.vc_script.proofs.items.items_in.Given as goal

abbrev pub invariant-loop-word : goal.invariant-loop-word
invariant-loop-word l = all_in item_in (map (λ word. word.now) l.words) ≡ behind item_in item_of (λ word. word.now) l.items.items (drop l.word-index l.words)
