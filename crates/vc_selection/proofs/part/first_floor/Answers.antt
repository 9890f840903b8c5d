use Rattle.std.proofs.Common.{◌≡◌, ◌⊎◌, ◌+◌, ◌-◌, ◌<◌, ◌≤◌, ℕ, ⊎_elim, ◌∷◌, [], ◌++◌, Some, None, Contains, take, ap, sym, ◌∙◌, subst, arith, rules, get_or, length}
use Rattle.std.proofs.Math.Seq.{take-length}
use Rattle.std.proofs.lemmas.List.{take_more}
use Rattle.std.proofs.lemmas.List.Elements.{Contains-push_cases}
use Rattle.vc_object.specs.declared.id.ObjectId.{ObjectId}
use Rattle.vc_history.specs.Numbering.{numbers}
use Rattle.vc_selection.proofs.part.first_floor.Goals as goal
use Rattle.vc_selection.proofs.part.first_floor.Goals.{in-Some+then-number-floor, in-Some+else-number-floor, in_default}

pub loop-root-init : goal.loop-root-init
loop-root-init c r n at is positive = absurd (omega (arith, at.1))

pub loop-root-preserved : goal.loop-root-preserved
loop-root-preserved c r n at is positive =
    let none : ObjectId = record { 0 = [] } in
    let i = c.loop-root.root-index in
    let roots = c.args.roots.now in
    let known = numbers c.args.generations.now in
    let root : ObjectId = get_or roots i none in
    let more : take (i + 1) roots ≡ take i roots ++ root ∷ [] = take_more roots i none (omega arith) in
    let which : Contains (take i roots) r ⊎ (root ≡ r) = Contains-push_cases (take i roots) root r (subst (λ l. Contains l r) more at) in
    let older : Contains (take i roots) r → c.loop-root.floor < n = λ before. c.loop-root.invariant r n before is positive in
    elim c.match-get.branch [
      | in-Some+then-number-floor w ↦
          let number : ℕ = w.in-Some.number in
          let found : known root ≡ Some number = search rules in
          let low : c.match-get.floor ≡ number - 1 = search rules in
          let under : number ≤ c.loop-root.floor = search rules in
          ⊎_elim (λ before. let old = older before in omega (arith, low, under, old))
          (λ (here : root ≡ r). let same : number ≡ n = let e : Some number ≡ Some n = sym found ∙ ap known here ∙ is in cc in omega (arith, low, same, positive))
          which
      | in-Some+else-number-floor w ↦
          let number : ℕ = w.in-Some.number in
          let found : known root ≡ Some number = search rules in
          let low : c.match-get.floor ≡ c.loop-root.floor = search rules in
          let over : c.loop-root.floor < number = search rules in
          ⊎_elim (λ before. let old = older before in omega (arith, low, old))
          (λ (here : root ≡ r). let same : number ≡ n = let e : Some number ≡ Some n = sym found ∙ ap known here ∙ is in cc in omega (arith, low, same, over))
          which
      | in_default w ↦
          let found : known root ≡ None = search rules in
          let low : c.match-get.floor ≡ c.loop-root.floor = search rules in
          ⊎_elim (λ before. let old = older before in omega (arith, low, old))
          (λ (here : root ≡ r). let e : None ≡ Some n = sym found ∙ ap known here ∙ is in absurd (cc))
          which
    ]

pub returns : goal.returns
returns c =
    let roots = c.args.roots.now in
    let all : take c.loop-root.root-index roots ≡ roots = ap (λ i. take i roots) (let last : c.loop-root.root-index ≡ length roots = omega arith in last) ∙ take-length roots in
    record { below = rw all at c.loop-root.invariant }
