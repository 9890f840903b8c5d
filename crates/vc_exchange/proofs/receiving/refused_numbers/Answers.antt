use Rattle.std.proofs.Common.{◌≡◌, ◌∷◌, [], ◌++◌, ℕ, List, Vec, Result, sym, ap, ◌∙◌}
use Rattle.std.specs.Global.{Global}
use Rattle.std.proofs.lemmas.List.{append-nil}
use Rattle.vc_message.specs.Machine.{machine_outcome}
use Rattle.vc_model.specs.Clone.{refused_reasons}
use Rattle.vc_object.specs.declared.id.ObjectId.{ObjectId}
use Rattle.vc_push.specs.Reason.{text_number}
use Rattle.vc_push.specs.ReportView.{outcome_of}
use Rattle.vc_exchange.proofs.ReceivingLemmas.{next_refused}
use Rattle.vc_exchange.proofs.receiving.refused_numbers.Goals.{in-Err+in_ok-push, in_default}
use Rattle.vc_exchange.proofs.receiving.refused_numbers.Goals as goal

pub loop-command-preserved : goal.loop-command-preserved
loop-command-preserved c =
    let command = c.command-item.result in
    let of : Result ObjectId (Vec ℕ Global) → List ℕ = λ o. refused_reasons (record { name = command.name.items; outcome = machine_outcome (outcome_of o) } ∷ []) in
    let so_far = c.loop-command.numbers.items in
    let more : c.match-command.numbers.items ≡ so_far ++ of command.outcome = elim c.match-command.branch [
      | in-Err+in_ok-push w ↦
          ap (λ (v : Vec ℕ Global). v.items) w.numbers-is ∙ w.in_ok-push.ensures.items ∙ ap (λ (n : ℕ). so_far ++ n ∷ []) (w.number_of_text.ensures ∙ ap text_number w.deref.ensures.value) ∙ ap (λ (l : List ℕ). so_far ++ l) (sym (ap of w.in-Err.is))
      | in_default w ↦ ap (λ (v : Vec ℕ Global). v.items) w.numbers-is ∙ sym (append-nil so_far) ∙ ap (λ (l : List ℕ). so_far ++ l) (sym (ap of w.in_default.is))
    ] in
    more ∙ ap (λ (l : List ℕ). l ++ of command.outcome) c.loop-command.invariant ∙ next_refused c.args.told.now c.loop-command.command-index command c.loop-command-test.true c.command-item.is
