use Rattle.std.proofs.Common.{ℕ, List, codes, sym, ap, subst, ◌∙◌}
use Rattle.vc_expression.specs.SetGrammar.{dots_text}
use Rattle.vc_expression.specs.SetReading.{Front}
use Rattle.std.proofs.lemmas.Result.{IfOk-weaker}
use Rattle.vc_expression.specs.SetViews.{StandsTerm}
use Rattle.vc_expression.specs.BehindView.{front_view}
use Rattle.vc_expression.proofs.Places.{end_on}
use Rattle.vc_expression.proofs.SetLemmas.{FrontText, front_text}
use Rattle.vc_expression.proofs.set.read_term.Goals as goal

pub read_excluded-requires : goal.read_excluded-requires
read_excluded-requires c =
    let f = sym c.prefix_at.ensures ∙ ap front_view c.in-Excludes.is in
    end_on c.args.source.now c.args.text.now (codes "^") c.in-Excludes.rest.now c.requires (subst (λ (x : Front). FrontText c.args.text.now x) f (front_text c.args.text.now))

pub read_to-requires : goal.read_to-requires
read_to-requires c =
    let f = sym c.prefix_at.ensures ∙ ap front_view c.in-Dots.is in
    end_on c.args.source.now c.args.text.now (dots_text c.in-Dots.dots) c.in-Dots.rest.now c.requires (subst (λ (x : Front). FrontText c.args.text.now x) f (front_text c.args.text.now))

pub returns-in-Excludes-clause-stands : goal.returns-in-Excludes-clause-stands
returns-in-Excludes-clause-stands c =
    let f = sym c.prefix_at.ensures ∙ ap front_view c.in-Excludes.is in
    let t = subst (λ (x : Front). FrontText c.args.text.now x) f (front_text c.args.text.now) in
    IfOk-weaker c.read_excluded.result _ _ (λ found h. subst (λ (text : List ℕ). StandsTerm c.args.source.now text found.0 found.1.now) (sym t) h) c.read_excluded.ensures.stands

pub returns-in-Dots-clause-stands : goal.returns-in-Dots-clause-stands
returns-in-Dots-clause-stands c =
    let f = sym c.prefix_at.ensures ∙ ap front_view c.in-Dots.is in
    let t = subst (λ (x : Front). FrontText c.args.text.now x) f (front_text c.args.text.now) in
    IfOk-weaker c.read_to.result _ _ (λ found h. subst (λ (text : List ℕ). StandsTerm c.args.source.now text found.0 found.1.now) (sym t) h) c.read_to.ensures.stands
