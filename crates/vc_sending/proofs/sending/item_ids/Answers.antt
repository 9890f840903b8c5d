use Rattle.std.proofs.Common.{rules, ◌≡◌, None, Some, [], ◌∷◌, ◌++◌, ap, sym, ◌∙◌}
use Rattle.vc_sending.proofs.SendingLemmas.{found_none, found_some}
use Rattle.vc_sending.specs.declared.item.PushItem.{PushItem}
use Rattle.vc_sending.proofs.sending.item_ids.Goals.{in-Some+in_ok-push, in_default}
use Rattle.vc_sending.proofs.sending.item_ids.Goals as goal

pub loop-item-preserved : goal.loop-item-preserved
loop-item-preserved c =
    let item = c.item-item.result in
    elim c.match-item.branch [
      | in-Some+in_ok-push w ↦
          let some : item.id ≡ Some w.in-Some.id = search rules in
          let pushed : c.match-item.ids.items ≡ c.loop-item.ids.items ++ w.in-Some.id ∷ [] = search rules in
          pushed ∙ ap (λ front. front ++ w.in-Some.id ∷ []) c.loop-item.invariant
          ∙ sym (found_some (λ (i : PushItem). i.id) c.args.items.now c.loop-item.item-index item c.loop-item-test.true c.item-item.is w.in-Some.id some)
      | in_default w ↦
          let none : item.id ≡ None = search rules in
          let kept : c.match-item.ids.items ≡ c.loop-item.ids.items = search rules in
          kept ∙ c.loop-item.invariant ∙ sym (found_none (λ (i : PushItem). i.id) c.args.items.now c.loop-item.item-index item c.loop-item-test.true c.item-item.is none)
    ]
