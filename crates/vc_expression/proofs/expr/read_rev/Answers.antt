use Rattle.std.proofs.Common.{◌++◌, refl, sym, ap, ◌∙◌, inl, true≢false}
use Rattle.vc_expression.specs.Base.{after_name}
use Rattle.vc_expression.proofs.NameLemmas.{name_parts}
use Rattle.vc_expression.proofs.Places.{end_on, place_of}
use Rattle.vc_expression.proofs.expr.read_rev.Goals as goal

pub returns-then-not-branch-clause-fault : goal.returns-then-not-branch-clause-fault
returns-then-not-branch-clause-fault c = (c.args.text.now, inl (refl, λ h. true≢false (sym (c.in_ok-is_base.ensures.1 (rw c.split_name.ensures.name h)) ∙ c.if-not-branch.true)), place_of c.args.source.now c.args.text.now c.requires)

pub read_steps-requires : goal.read_steps-requires
read_steps-requires c =
    end_on c.args.source.now c.args.text.now c.split_name.result.0.now c.split_name.result.1.now c.requires
    (sym (name_parts c.args.text.now) ∙ ap (λ n. n ++ after_name c.args.text.now) (sym c.split_name.ensures.name) ∙ ap (λ r. c.split_name.result.0.now ++ r) (sym c.split_name.ensures.rest))

pub returns-clause-stands : goal.returns-clause-stands
returns-clause-stands c = (
  c.split_name.result.1.now,
  sym (name_parts c.args.text.now) ∙ ap (λ n. n ++ after_name c.args.text.now) (sym c.split_name.ensures.name) ∙ ap (λ r. c.split_name.result.0.now ++ r) (sym c.split_name.ensures.rest),
  place_of c.args.source.now c.args.text.now c.requires,
  c.in_ok-steps.ensures.slices,
)
