use Rattle.std.proofs.Common.{ℕ, List, sym, ap, subst, ◌∙◌}
use Rattle.vc_expression.specs.SetGrammar.{dots_text}
use Rattle.vc_expression.specs.SetReading.{Behind}
use Rattle.std.proofs.lemmas.Result.{IfOk-weaker}
use Rattle.vc_expression.specs.Views.{StandsRev}
use Rattle.vc_expression.specs.BehindView.{behind_view}
use Rattle.vc_expression.proofs.Places.{end_on}
use Rattle.vc_expression.proofs.SetLemmas.{BehindText, behind_text}
use Rattle.vc_expression.proofs.set.read_behind.Goals as goal

pub read_from-requires : goal.read_from-requires
read_from-requires c =
    let b = sym c.suffix_at.ensures ∙ ap behind_view c.in-Dots.is in
    end_on c.args.source.now c.args.text.now (dots_text c.in-Dots.dots) c.in-Dots.rest.now c.requires (subst (λ (x : Behind). BehindText c.args.text.now x) b (behind_text c.args.text.now))

pub returns-in-Parents-clause-stands : goal.returns-in-Parents-clause-stands
returns-in-Parents-clause-stands c = λ front h.
    let b = sym c.suffix_at.ensures ∙ ap behind_view c.in-Parents.is in
    let t = subst (λ (x : Behind). BehindText c.args.text.now x) b (behind_text c.args.text.now) in
    subst (λ (r : List ℕ). StandsRev c.args.source.now front c.args.rev r) t h

pub returns-in-Only-clause-stands : goal.returns-in-Only-clause-stands
returns-in-Only-clause-stands c = λ front h.
    let b = sym c.suffix_at.ensures ∙ ap behind_view c.in-Only.is in
    let t = subst (λ (x : Behind). BehindText c.args.text.now x) b (behind_text c.args.text.now) in
    subst (λ (r : List ℕ). StandsRev c.args.source.now front c.args.rev r) t h

pub returns-in-Since-clause-stands : goal.returns-in-Since-clause-stands
returns-in-Since-clause-stands c = λ front h.
    let b = sym c.suffix_at.ensures ∙ ap behind_view c.in-Since.is in
    let t = subst (λ (x : Behind). BehindText c.args.text.now x) b (behind_text c.args.text.now) in
    (t.0, t.1, subst (λ (r : List ℕ). StandsRev c.args.source.now front c.args.rev r) t.3 h)

pub returns-in-Dots-clause-stands : goal.returns-in-Dots-clause-stands
returns-in-Dots-clause-stands c =
    let b = sym c.suffix_at.ensures ∙ ap behind_view c.in-Dots.is in
    let t = subst (λ (x : Behind). BehindText c.args.text.now x) b (behind_text c.args.text.now) in
    IfOk-weaker c.read_from.result _ _ (λ found go front h. go front (subst (λ (r : List ℕ). StandsRev c.args.source.now front c.args.rev r) t h)) c.read_from.ensures.stands
