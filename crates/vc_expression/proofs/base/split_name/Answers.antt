use Rattle.std.proofs.Common.{◌≡◌, ◌++◌, take, drop, false, true, sym, ap, ◌∙◌}
use Rattle.std.proofs.lemmas.List.{append-nil, take_rest}
use Rattle.vc_expression.specs.Base.{after_name, name_of, is_stop}
use Rattle.vc_expression.proofs.NameLemmas.{name_ends, name_goes_on}
use Rattle.vc_expression.proofs.Parts.{part_step, rest_step}
use Rattle.vc_expression.proofs.base.split_name.Goals as goal

pub loop-i-preserved : goal.loop-i-preserved
loop-i-preserved c =
    let text = c.args.text.now in
    let i = c.loop-i.i in
    let goes : is_stop (drop i text) ≡ false = ap is_stop (sym (take_rest text i)) ∙ sym c.ends_name.ensures ∙ c.if-ends_name.false in record {
      name = part_step name_of text i c.loop-i-test.true (λ b bs e. (name_goes_on (drop i text) b bs goes e).0) c.loop-i.invariant.name;
      rest = rest_step after_name text i c.loop-i-test.true (λ b bs e. (name_goes_on (drop i text) b bs goes e).1) c.loop-i.invariant.rest;
    }

pub returns-then-ends_name-clause-name : goal.returns-then-ends_name-clause-name
returns-then-ends_name-clause-name c =
    let text = c.args.text.now in
    let i = c.loop-i.i in
    let ends : is_stop (drop i text) ≡ true = ap is_stop (sym (take_rest text i)) ∙ sym c.ends_name.ensures ∙ c.if-ends_name.true in
    sym (c.loop-i.invariant.name ∙ ap (λ r. take i text ++ r) (name_ends (drop i text) ends).0 ∙ append-nil (take i text))

pub returns-then-ends_name-clause-rest : goal.returns-then-ends_name-clause-rest
returns-then-ends_name-clause-rest c =
    let text = c.args.text.now in
    let i = c.loop-i.i in
    let ends : is_stop (drop i text) ≡ true = ap is_stop (sym (take_rest text i)) ∙ sym c.ends_name.ensures ∙ c.if-ends_name.true in
    take_rest text i ∙ sym (name_ends (drop i text) ends).1 ∙ c.loop-i.invariant.rest
