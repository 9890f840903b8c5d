use Rattle.std.proofs.Common.{rules, ◌≡◌, ◌∷◌, ◌++◌, []}
use Rattle.vc_checkout.proofs.HindranceLemmas.{first_below, none_below}
use Rattle.vc_checkout.proofs.hindrance.has_below.Goals as goal

pub returns-in-Some : goal.returns-in-Some
returns-in-Some c =
    let folder : c.push.new.self.items ≡ c.args.path.now ++ 47 ∷ [] = search rules in
    first_below c.args.paths.now c.push.new.self c.args.path.now folder c.range.result c.in-Some.first.now c.next.new.self c.in-Some.ensures.steps (c.range.ensures.in_range tt) c.starts_with.result (search rules)

pub returns : goal.returns
returns c =
    let folder : c.push.new.self.items ≡ c.args.path.now ++ 47 ∷ [] = search rules in
    (λ no. absurd (cc no), λ (other, some, above). absurd (none_below c.args.paths.now c.push.new.self c.args.path.now folder c.range.result (c.in-None.ensures.steps).0 (c.range.ensures.in_range tt) other some above))
