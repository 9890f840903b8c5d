use Rattle.std.proofs.Common.{◌∙◌, ap, codes}
use Rattle.std.specs.Borrow.{Bor}
use Rattle.std.specs.List.{join_by}
use Rattle.std.proofs.lemmas.Result.{IfOk-weaker}
use Rattle.clap.specs.Walk.{Text}
use Rattle.vc_arguments.proofs.RowLemmas.{joined}
use Rattle.vc_arguments.proofs.reading.terms_of.Goals as goal

pub returns : goal.returns
returns c =
    IfOk-weaker c.join.result _ _ (λ text is. is ∙ (ap (join_by (λ (s : Bor Text). s.now) (codes " ")) c.deref.ensures.value
    ∙ (joined (codes " ") c.in_ok-terms.terms.items ∙ ap (join_by (λ (t : Text). t) (codes " ")) c.in_ok-terms.ensures))) c.join.ensures.ok
