use Rattle.std.proofs.Common.{rules, ◌≡◌, None, Some, [], ◌∷◌, ◌++◌, true, false, cond, ap, sym, ◌∙◌}
use Rattle.std.specs.List.{starts_with}
use Rattle.std.specs.Prelude.{codes, nat_eq}
use Rattle.vc_sending.proofs.SendingLemmas.{found_none, found_some}
use Rattle.vc_sending.specs.Sending.{tracked_in}
use Rattle.vc_sending.proofs.sending.tracked_among.Goals.{then-is_tracking+in_ok-push, else-is_tracking}
use Rattle.vc_sending.proofs.sending.tracked_among.Goals as goal

pub loop-name-preserved : goal.loop-name-preserved
loop-name-preserved c =
    let entry = c.loop-name-item.result in
    elim c.if-is_tracking.branch [
      | then-is_tracking+in_ok-push w ↦
          let starts : starts_with nat_eq entry.0 (codes "refs/remotes/origin/") ≡ true = sym c.is_tracking.ensures ∙ w.if-is_tracking.true in
          let pushed : c.if-is_tracking.ids.items ≡ c.loop-name.ids.items ++ entry.1 ∷ [] = search rules in
          pushed ∙ ap (λ front. front ++ entry.1 ∷ []) c.loop-name.invariant
          ∙ sym (found_some tracked_in c.args.listed.now c.loop-name.name-index entry c.loop-name-test.true c.loop-name-item.is entry.1 (ap (λ b. cond b (Some entry.1) None) starts))
      | else-is_tracking w ↦
          let starts : starts_with nat_eq entry.0 (codes "refs/remotes/origin/") ≡ false = sym c.is_tracking.ensures ∙ w.if-is_tracking.false in
          let kept : c.if-is_tracking.ids.items ≡ c.loop-name.ids.items = search rules in
          kept ∙ c.loop-name.invariant ∙ sym (found_none tracked_in c.args.listed.now c.loop-name.name-index entry c.loop-name-test.true c.loop-name-item.is (ap (λ b. cond b (Some entry.1) None) starts))
    ]
