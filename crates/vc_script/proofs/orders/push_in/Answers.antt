use Rattle.std.proofs.Common.{rules, ◌≡◌, ◌==◌, ◌∙◌, Some, false, length, map, ap, sym}
use Rattle.vc_events.specs.Events.{item_of}
use Rattle.vc_script.specs.Words.{all_in, item_in}
use Rattle.vc_script.proofs.ListLemmas.{all_in-some}
use Rattle.vc_script.proofs.orders.push_in.Goals as goal

pub returns-clause-in_order : goal.returns-clause-in_order
returns-clause-in_order c =
    let some : (length c.args.words.now == 0) ≡ false = search rules in
    let told : Some (map item_of c.in-Some.items.items) ≡ all_in item_in (map (λ word. word.now) c.args.words.now) = search rules in
    λ nil. all_in-some item_in (λ word. word.now) c.args.words.now some (ap (λ items. Some (map item_of items)) (sym nil) ∙ told)
