use Rattle.std.proofs.Common.{◌≡◌, ◌-◌, ◌++◌, ◌∷◌, [], Contains, map, inl, inr, sym, ap, ◌∙◌, subst, arith}
use Rattle.std.proofs.lemmas.Bool.{cases_lt}
use Rattle.std.proofs.lemmas.List.{map-append}
use Rattle.std.proofs.lemmas.List.Elements.{Contains-append_left, Contains-push}
use Rattle.vc_history.specs.declared.numbering.Look.{Look}
use Rattle.vc_history.specs.Numbering.{places}
use Rattle.vc_history.proofs.numbering.first_looks.Goals as goal

pub loop-place-preserved : goal.loop-place-preserved
loop-place-preserved c k from below =
    let place = c.loop-place.place - 1 in
    let look : Look = record { place = place; from = 0 } in
    let old = places c.loop-place.looks in
    let grown : places c.push.new.self ≡ old ++ place ∷ [] =
    ap (map (λ l. l.place)) c.in_ok-push.ensures.items ∙ map-append (λ l. l.place) c.loop-place.looks.items (look ∷ []) in
    subst (λ l. Contains l k) (sym grown) (elim (cases_lt place k) [
      | inl above ↦ Contains-append_left old (place ∷ []) k (c.loop-place.invariant k (omega (arith, above)) below)
      | inr last ↦ let is : place ≡ k = omega (arith, from, last) in subst (Contains (old ++ place ∷ [])) is (Contains-push old place)
    ])
