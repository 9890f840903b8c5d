use Rattle.std.proofs.Common.{sym, ◌∙◌}
use Rattle.std.proofs.lemmas.Result.{IfErr-weaker}
use Rattle.vc_rev.specs.Asking.{NameAsks, ShortAsks}
use Rattle.vc_rev.specs.Meaning.{NameGives, ShortGives}
use Rattle.vc_rev.proofs.AnswerLemmas.{told_same}
use Rattle.vc_rev.proofs.names.name_value.Goals as goal

pub returns-in-None-clause-refused : goal.returns-in-None-clause-refused
returns-in-None-clause-refused g c =
    let s = g.R.Repository.source (g.R.Repository.view_of c.args.repo.now) in
    let blames = g.R.Repository.blames (g.R.Repository.view_of c.args.repo.now) in
    let name = c.args.name.now in
    let other = sym c.is_head.ensures ∙ c.if-is_head.false in
    let no_id = sym c.id_of.ensures ∙ c.in-None.is in
    IfErr-weaker c.short_or_digits.result _ _ (λ e h honest.
    told_same blames (ShortAsks s name) (NameAsks s name) (ShortGives s name) (NameGives s name) e (λ question k. rw (other, no_id) k) (λ r k. rw (other, no_id) k) (h honest)) c.short_or_digits.ensures.refused
