use Rattle.std.proofs.Common.{rules, ◌≡◌, ap, ◌∙◌}
use Rattle.std.specs.Option.{option_map}
use Rattle.vc_fetch.specs.Advert.{one_more_ref}
use Rattle.vc_fetch.specs.AdvertView.{ref_ids}
use Rattle.vc_fetch.proofs.RefMaps.{listed_twice, listed_once}
use Rattle.vc_fetch.proofs.advert.list_ref.Goals as goal

pub returns-then-is_some : goal.returns-then-is_some
returns-then-is_some c =
    let key : c.in_ok-to_vec.field-0.items ≡ c.in-Some.name.now = search rules in
    ap (λ o. one_more_ref c.args.number (ref_ids c.args.listed.now) (option_map (λ ref. (ref.0.now, ref.1)) o)) c.in-Some.is
    ∙ listed_twice c.args.number c.args.listed.now c.in_ok-to_vec.field-0 c.in-Some.name.now c.in-Some.id c.in_ok-before.before key c.in_ok-before.ensures.old (search rules)

pub returns : goal.returns
returns c =
    let key : c.in_ok-to_vec.field-0.items ≡ c.in-Some.name.now = search rules in
    ap (λ o. one_more_ref c.args.number (ref_ids c.args.listed.now) (option_map (λ ref. (ref.0.now, ref.1)) o)) c.in-Some.is
    ∙ listed_once c.args.number c.args.listed.now c.in_ok-to_vec.field-0 c.in-Some.name.now c.in-Some.id c.in_ok-before.before key c.in_ok-before.ensures.old c.insert.new.self c.in_ok-before.ensures.updates (search rules)
