-- Commands that are judged one after another: the refusals that were found, in their order.
use Rattle.std.proofs.Common.{arith, ◌≡◌, ℕ, suc, true, false, true≢false, List, [], ◌∷◌, length, Option, Some, None, is_none, refl, ap, sym}
use Rattle.vc_push.specs.Push.{CommandText}
use Rattle.vc_push.specs.declared.reason.Reason.{Reason}
use Rattle.vc_refs.specs.RefMap.{RefMap}
use Rattle.vc_push_rules.specs.Turn.{all_pass, first_refusal, JudgesInTurn}
use Rattle.vc_push_rules.specs.Verdict.{refs_after}

-- each command has its own
pub judged_length : (m : RefMap) (named : List (List ℕ)) (cs : List CommandText) (founds : List (Option Reason)) → JudgesInTurn m named cs founds → length founds ≡ length cs
judged_length m named [] [] judged = refl
judged_length m named [] (found ∷ founds) judged = absurd judged
judged_length m named (c ∷ cs) [] judged = absurd judged
judged_length m named (c ∷ cs) (found ∷ founds) judged = ap suc (judged_length (refs_after m c found) (c.name ∷ named) cs founds judged.1)

-- if one is the first, not all pass
pub some_refused : (cs : List CommandText) (founds : List (Option Reason)) (told : List ℕ × Reason) → first_refusal cs founds ≡ Some told → all_pass founds ≡ false
some_refused [] founds told is = absurd (cc is)
some_refused (c ∷ cs) [] told is = absurd (cc is)
some_refused (c ∷ cs) (None ∷ founds) told is = some_refused cs founds told is
some_refused (c ∷ cs) (Some r ∷ founds) told is = refl

-- if all pass, none is
pub none_refused : (cs : List CommandText) (founds : List (Option Reason)) → all_pass founds ≡ true → first_refusal cs founds ≡ None
none_refused [] founds passed = refl
none_refused (c ∷ cs) [] passed = refl
none_refused (c ∷ cs) (None ∷ founds) passed = none_refused cs founds passed
none_refused (c ∷ cs) (Some r ∷ founds) passed = absurd (true≢false (sym passed))

-- so it shows if all pass
pub passes_if_none : (cs : List CommandText) (founds : List (Option Reason)) → length founds ≡ length cs → all_pass founds ≡ is_none (first_refusal cs founds)
passes_if_none [] [] paired = refl
passes_if_none [] (found ∷ founds) paired = absurd (omega (arith, paired))
passes_if_none (c ∷ cs) [] paired = refl
passes_if_none (c ∷ cs) (None ∷ founds) paired = passes_if_none cs founds (omega (arith, paired))
passes_if_none (c ∷ cs) (Some r ∷ founds) paired = refl
