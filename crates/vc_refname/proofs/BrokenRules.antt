use Rattle.std.proofs.Common.{◌≡◌, ℕ, Bool, true, false, List, ◌∷◌, Option, Some, None, is_none, nat_eq, refl, sym, ◌∙◌, true≢false, find, []}
use Rattle.std.specs.List.{AllByRecursion, starts_with}
use Rattle.vc_lemmas.proofs.Lists.{found_passes, none_parts}
use Rattle.vc_refname.specs.RefName.{occurs, breaks, all_rules, first_broken_rule, is_ref_name, IsRefName}
use Rattle.vc_refname.specs.declared.fault.NameFault.{NameFault}
use Rattle.vc_refname.specs.declared.fault.NameFault.TheVariants as rules

pub occurs_here : (part text : List ℕ) → starts_with nat_eq text part ≡ true → occurs part text ≡ true
occurs_here part [] h = h
occurs_here part (b ∷ bs) h = rw h refl

find_none : {X : Type 0} (p : X → Bool) (xs : List X) → find p xs ≡ None → AllByRecursion (λ x. p x ≡ false) xs
find_none p [] e = tt
find_none p (x ∷ xs) e = let h = none_parts (p x) x (find p xs) e in (h.0, find_none p xs h.1)

by_each : (text : List ℕ) → AllByRecursion (λ rule. breaks rule text ≡ false) all_rules → IsRefName text
by_each text h rules.SingleAt = h.0
by_each text h rules.NoSlash = h.1.0
by_each text h rules.DotBegin = h.1.1.0
by_each text h rules.LockEnd = h.1.1.1.0
by_each text h rules.TwoDots = h.1.1.1.1.0
by_each text h rules.BadByte = h.1.1.1.1.1.0
by_each text h rules.AtBrace = h.1.1.1.1.1.1.0
by_each text h rules.EdgeSlash = h.1.1.1.1.1.1.1.0
by_each text h rules.TwoSlashes = h.1.1.1.1.1.1.1.1.0
by_each text h rules.FinalDot = h.1.1.1.1.1.1.1.1.1.0
by_each text h rules.TooLong = h.1.1.1.1.1.1.1.1.1.1.0

-- where none is found, no rule is broken
pub name_from_none : (text : List ℕ) → first_broken_rule text ≡ None → IsRefName text
unfolding first_broken_rule
name_from_none text e = by_each text (find_none (λ rule. breaks rule text) all_rules e)

-- the rule that is found is broken
pub broken_from_some : (text : List ℕ) (rule : NameFault) → first_broken_rule text ≡ Some rule → breaks rule text ≡ true
unfolding first_broken_rule
broken_from_some text rule e = found_passes (λ rule. breaks rule text) all_rules rule e

none_broken : (text : List ℕ) (found : Option NameFault) → ((rule : NameFault) → found ≡ Some rule → breaks rule text ≡ true) → IsRefName text → is_none found ≡ true
none_broken text None broken legal = refl
none_broken text (Some rule) broken legal = absurd (true≢false (sym (broken rule refl) ∙ legal rule))

-- the test holds of a name
pub is_ref_name-from_legal : (text : List ℕ) → IsRefName text → is_ref_name text ≡ true
is_ref_name-from_legal text legal = none_broken text (first_broken_rule text) (broken_from_some text) legal

found_none : (found : Option NameFault) → is_none found ≡ true → found ≡ None
found_none None h = refl
found_none (Some rule) h = cc

-- of no other text
pub legal_from_is_ref_name : (text : List ℕ) → is_ref_name text ≡ true → IsRefName text
legal_from_is_ref_name text h = name_from_none text (found_none (first_broken_rule text) h)
