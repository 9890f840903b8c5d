-- An expression has one value at a repository.
use Rattle.std.proofs.Common.{◌≡◌, ℕ, Result, Ok, Err, refl, sym, ap, ◌∙◌}
use Rattle.vc_model.specs.Object.{Id}
use Rattle.vc_object.specs.declared.id.ObjectId.{ObjectId}
use Rattle.vc_rev.proofs.ValueLemmas.{has_one_value}
use Rattle.vc_rules.specs.Git.{layer_objects}
use Rattle.vc_values.specs.Laws.{ExpressionsHaveOneValue}
use Rattle.vc_values.specs.Values.{names_at, id_found}

found_of : Result ObjectId ℕ → Result Id ℕ
found_of (Ok id) = Ok id.0
found_of (Err n) = Err n

found_back : (v : Result Id ℕ) → found_of (id_found v) ≡ v
unfolding found_of
found_back (Ok x) = refl
found_back (Err n) = refl

pub expressions_have_one_value : ExpressionsHaveOneValue
expressions_have_one_value r text v w p q =
    let same = has_one_value (names_at r) (layer_objects r.objects) text (id_found v) (id_found w) p q in
    sym (found_back v) ∙ (ap found_of same ∙ found_back w)
