use Rattle.std.proofs.Common.{◌≡◌, ◌+◌, ◌⊎◌, inl, inr, ⊎_elim, ◌∷◌, [], ◌++◌, Contains, take, ap, ◌∙◌, subst, arith, rules, get_or, length}
use Rattle.std.proofs.Math.Seq.{take-length}
use Rattle.std.proofs.lemmas.List.{take_more}
use Rattle.std.proofs.lemmas.List.Elements.{Contains-push_cases}
use Rattle.indexmap.proofs.CallerLemmas.{Contains-list_any}
use Rattle.vc_object.proofs.IdLemmas.{id_eq-same}
use Rattle.vc_object.specs.ObjectId.{id_eq}
use Rattle.vc_object.specs.declared.id.ObjectId.{ObjectId}
use Rattle.vc_selection.proofs.part.each_is_among.Goals as goal
use Rattle.vc_selection.proofs.part.each_is_among.Goals.{then-not-contains+else-not-contains-2, else-not-contains}

pub loop-name-preserved : goal.loop-name-preserved
loop-name-preserved c =
    let none : ObjectId = record { 0 = [] } in
    let i = c.loop-name.name-index in
    let names = c.args.names.now in
    let name : ObjectId = get_or names i none in
    let some = c.args.some.now.keys in
    let others = c.args.others.now.keys in
    let more : take (i + 1) names ≡ take i names ++ name ∷ [] = take_more names i none (omega arith) in
    let here : Contains some name ⊎ Contains others name = elim c.if-not-contains.branch [
      | then-not-contains+else-not-contains-2 w ↦ inr (Contains-list_any id_eq id_eq-same others name (search rules))
      | else-not-contains w ↦ inl (Contains-list_any id_eq id_eq-same some name (search rules))
    ] in
    λ x at. ⊎_elim (c.loop-name.invariant x) (λ (is : name ≡ x). subst (λ (y : ObjectId). Contains some y ⊎ Contains others y) is here) (Contains-push_cases (take i names) name x (subst (λ l. Contains l x) more at))

pub returns : goal.returns
returns c all_are =
    let names = c.args.names.now in
    let all : take c.loop-name.name-index names ≡ names = ap (λ i. take i names) (let last : c.loop-name.name-index ≡ length names = omega arith in last) ∙ take-length names in
    rw all at c.loop-name.invariant
