use Rattle.std.proofs.Common.{rules, sym, ◌∙◌}
use Rattle.std.specs.BTreeMap.{IsFromIterResult}
use Rattle.std.specs.Cmp.Lexicographic.{slice_cmp}
use Rattle.std.specs.Ordering.{nat_cmp}
use Rattle.vc_refs.proofs.PackedLemmas.{all_collected, collected_twice, collected-IsPackedMap}
use Rattle.vc_refs.proofs.packed.map_of.Goals as goal

pub returns-then-len-count-clause-found : goal.returns-then-len-count-clause-found
returns-then-len-count-clause-found c =
    let made : IsFromIterResult (slice_cmp nat_cmp) c.args.refs.items c.in_ok-by_name.by_name = search rules in
    sym (collected_twice c.args.refs.items c.in_ok-by_name.by_name made (λ same. c.if-len-count.true (c.len.ensures.len ∙ same ∙ sym (c.len-count.ensures ∙ c.args.refs.ok.0))))

pub invariant_of-result : goal.invariant_of-result
invariant_of-result c =
    let made : IsFromIterResult (slice_cmp nat_cmp) c.args.refs.items c.in_ok-by_name.by_name = search rules in
    collected-IsPackedMap c.args.refs.items c.in_ok-by_name.by_name made (sym c.len.ensures.len ∙ c.if-len-count.false ∙ c.len-count.ensures ∙ c.args.refs.ok.0) c.requires

pub returns-clause-found : goal.returns-clause-found
returns-clause-found c =
    let made : IsFromIterResult (slice_cmp nat_cmp) c.args.refs.items c.in_ok-by_name.by_name = search rules in
    sym (all_collected c.args.refs.items c.in_ok-by_name.by_name made (sym c.len.ensures.len ∙ c.if-len-count.false ∙ c.len-count.ensures ∙ c.args.refs.ok.0))

pub returns-clause-packed : goal.returns-clause-packed
returns-clause-packed c =
    let made : IsFromIterResult (slice_cmp nat_cmp) c.args.refs.items c.in_ok-by_name.by_name = search rules in
    collected-IsPackedMap c.args.refs.items c.in_ok-by_name.by_name made (sym c.len.ensures.len ∙ c.if-len-count.false ∙ c.len-count.ensures ∙ c.args.refs.ok.0) c.requires
