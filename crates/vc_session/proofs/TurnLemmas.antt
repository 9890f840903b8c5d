-- Commands of an atomic push, judged one after another, and the verdicts on all of them.
use Rattle.std.proofs.Common.{arith, ◌≡◌, inl, inr, ℕ, zero, suc, ◌<◌, Bool, cond, true, false, true≢false, ◌&&◌, ◌||◌, List, [], ◌∷◌, ◌++◌, length, map, take, get_or, Option, Some, None, is_none, is_some, refl, ap, sym, ◌∙◌, subst}
use Rattle.std.specs.Prelude.{Contains, MatchOption, Vec, bytes_eq, slice_get}
use Rattle.std.specs.Global.{Global}
use Rattle.std.specs.Cmp.Lexicographic.{nat_list_cmp_total}
use Rattle.std.specs.FinMap.{get-insert}
use Rattle.std.specs.FinMap as names
use Rattle.std.specs.List.{list_all, list_any}
use Rattle.std.proofs.lemmas.Bool.{and_parts, false_from_ne_true, or_cases, or_parts}
use Rattle.std.proofs.lemmas.List.{length-map}
use Rattle.std.proofs.lemmas.List.Elements.{Contains-append_right, Contains-push_cases, Contains-append_cases}
use Rattle.std.proofs.lemmas.Map.Text.{is_eq-slice_cmp}
use Rattle.std.proofs.lemmas.Slice.Eq.{bytes_eq-Decides}
use Rattle.vc_object.specs.declared.id.ObjectId.{ObjectId}
use Rattle.vc_push.specs.Push.{CommandText}
use Rattle.vc_push.specs.PushView.{commands_of}
use Rattle.vc_push.specs.declared.command.Command.{Command}
use Rattle.vc_push.specs.declared.reason.Reason.{Reason}
use Rattle.vc_push.specs.declared.reason.Reason.TheVariants.{AlreadyExists, NameConflict, Stale}
use Rattle.vc_refs.specs.Obstacle.{IsFirstPackedInTheWay, IsFreeOfPacked}
use Rattle.vc_refs.specs.Packed.{PackedMap}
use Rattle.vc_refs.specs.Packing.{IsMapOf}
use Rattle.vc_refs.specs.RefMap.{RefMap, with_ref}
use Rattle.vc_push_rules.proofs.VerdictLemmas.{settled_verdict}
use Rattle.vc_push_rules.specs.Session.{MayBeSetWhere, is_passing, verdict_of}
use Rattle.vc_push_rules.specs.Turn.{all_pass, first_refusal, refused_by, JudgesInTurn, TurnNeeds}
use Rattle.vc_push_rules.specs.Verdict.{IsVerdict, MayBeSet, UpdateNeeds, expected, is_branch, is_tag, refs_after, update_reasons}
use Rattle.vc_push_rules.specs.declared.stage.Verdict.{Verdict}
use Rattle.vc_push_rules.specs.declared.stage.Verdict.TheVariants.{Passing, Accepted, Refused}
use Rattle.vc_session.proofs.UpdateLemmas.{none_there, not_there}
use Rattle.vc_session.specs.Together.{named_after, refusal_told, verdicts_together, AreToBeSet}

-- ---- one command in its turn
module _ (packed : PackedMap) (named : List (List ℕ)) (c : CommandText) where
  abbrev pub before : RefMap
  before = names.get packed

  abbrev pub Judged : Option Reason → Type 0
  Judged found = IsVerdict (TurnNeeds before named c) update_reasons found

  pub is_there : (is_tag c.name && is_some (before c.name)) ≡ true → Judged (Some AlreadyExists)
  is_there standing = let parts = and_parts (is_tag c.name) (is_some (before c.name)) standing in inl ((λ needs. none_there (before c.name) parts.1 (needs parts.0)), refl)

  module _ (no_tag : (is_tag c.name && is_some (before c.name)) ≡ false) where
    absent : UpdateNeeds before c AlreadyExists
    absent = not_there (is_tag c.name) (before c.name) no_tag

    pub is_in_the_way : (other : List ℕ) → IsFirstPackedInTheWay packed c.name other → Judged (Some NameConflict)
    is_in_the_way other way = inr (absent, inl ((λ needs. true≢false (sym way.here.conflict ∙ needs other way.here.held)), refl))

    module _ (free : IsFreeOfPacked packed c.name) where
      apart : UpdateNeeds before c NameConflict
      apart other some = false_from_ne_true _ (λ conflict. free other (record { held = some; conflict = conflict }))

      pub is_named_before : is_branch c.name ≡ true → Contains named c.name → Judged (Some Stale)
      is_named_before branch among = inr (absent, inr (apart, inl ((λ needs. needs.1 branch among), refl)))

      pub is_other : (before c.name ≡ expected c.old → ⊥) → Judged (Some Stale)
      is_other other = inr (absent, inr (apart, inl ((λ needs. other needs.0), refl)))

      pub is_passed : before c.name ≡ expected c.old → (is_branch c.name ≡ true → Contains named c.name → ⊥) → Judged None
      is_passed current unnamed = (absent, (apart, ((current, unnamed), tt)))

-- ---- what was found, or was not
pub from_some : {X : Type 0} (found : Option X) (P : Type 0) (Q : X → Type 0) → is_some found ≡ true → MatchOption found P Q → (x : X) × Q x
from_some None P Q some h = absurd (true≢false (sym some))
from_some (Some x) P Q some h = (x, h)

pub from_none : {X : Type 0} (found : Option X) (P : Type 0) (Q : X → Type 0) → is_some found ≡ false → MatchOption found P Q → P
from_none None P Q none h = h
from_none (Some x) P Q none h = absurd (true≢false none)

-- ---- the names before it
abbrev pub names_it : List ℕ → Command → Bool
names_it name c = bytes_eq c.name.items name

still_named : (held : List Command) (named : List (List ℕ)) (name : List ℕ) → Contains named name → Contains (named_after named (commands_of held)) name
still_named [] named name among = among
still_named (c ∷ held) named name among = still_named held (c.name.items ∷ named) name (Contains-append_right (c.name.items ∷ []) named name among)

first_name : (name : List ℕ) (named : List (List ℕ)) → Contains (name ∷ named) name
first_name name named = (0, omega arith, refl)

pub named_before : (held : List Command) (named : List (List ℕ)) (name : List ℕ) → list_any (names_it name) held ≡ true → Contains (named_after named (commands_of held)) name
named_before [] named name some = absurd (true≢false (sym some))
named_before (c ∷ held) named name some = elim (or_cases (names_it name c) (list_any (names_it name) held) some) [
  | inl here ↦ still_named held (c.name.items ∷ named) name (subst (λ (n : List ℕ). Contains (c.name.items ∷ named) n) ((bytes_eq-Decides c.name.items name).0 here) (first_name c.name.items named))
  | inr later ↦ named_before held (c.name.items ∷ named) name later
]

unnamed_before : (held : List Command) (named : List (List ℕ)) (name : List ℕ) → list_any (names_it name) held ≡ false → (Contains named name → ⊥) → Contains (named_after named (commands_of held)) name → ⊥
unnamed_before [] named name none not_yet among = not_yet among
unnamed_before (c ∷ held) named name none not_yet among =
    let parts = or_parts (names_it name c) (list_any (names_it name) held) none in
    unnamed_before held (c.name.items ∷ named) name parts.1 (λ here. elim (Contains-append_cases (c.name.items ∷ []) named name here) [
      | inl first ↦ elim (Contains-push_cases [] c.name.items name first) [
        | inl nowhere ↦ omega (arith, nowhere.1)
        | inr is ↦ true≢false (sym ((bytes_eq-Decides c.name.items name).1 is) ∙ parts.0)
      ]
      | inr more ↦ not_yet more
    ]) among

nothing_named : (name : List ℕ) → Contains [] name → ⊥
nothing_named name among = omega (arith, among.1)

-- a branch that none of these names
pub unnamed_branch : (held : List Command) (name : List ℕ) → (is_branch name && list_any (names_it name) held) ≡ false → is_branch name ≡ true → Contains (named_after [] (commands_of held)) name → ⊥
unnamed_branch held name none branch = unnamed_before held [] name (sym (ap (λ b. b && list_any (names_it name) held) branch) ∙ none) (nothing_named name)

-- ---- one more command
-- the refs as these commands leave them
abbrev pub refs_in_turn : RefMap → List CommandText → List (Option Reason) → RefMap
refs_in_turn m (c ∷ cs) (found ∷ founds) = refs_in_turn (refs_after m c found) cs founds
refs_in_turn m _ _ = m

pub judged_push : (m : RefMap) (named : List (List ℕ)) (cs : List CommandText) (founds : List (Option Reason)) (c : CommandText) (found : Option Reason)
    → JudgesInTurn m named cs founds → IsVerdict (TurnNeeds (refs_in_turn m cs founds) (named_after named cs) c) update_reasons found → JudgesInTurn m named (cs ++ c ∷ []) (founds ++ found ∷ [])
judged_push m named [] [] c found all one = (one, tt)
judged_push m named [] (f ∷ fs) c found all one = absurd all
judged_push m named (d ∷ cs) [] c found all one = absurd all
judged_push m named (d ∷ cs) (f ∷ fs) c found all one = (all.0, judged_push (refs_after m d f) (d.name ∷ named) cs fs c found all.1 one)

pub left_push : (m : RefMap) (named : List (List ℕ)) (cs : List CommandText) (founds : List (Option Reason)) (c : CommandText) (found : Option Reason)
    → JudgesInTurn m named cs founds → refs_in_turn m (cs ++ c ∷ []) (founds ++ found ∷ []) ≡ refs_after (refs_in_turn m cs founds) c found
left_push m named [] [] c found all = refl
left_push m named [] (f ∷ fs) c found all = absurd all
left_push m named (d ∷ cs) [] c found all = absurd all
left_push m named (d ∷ cs) (f ∷ fs) c found all = left_push (refs_after m d f) (d.name ∷ named) cs fs c found all.1

-- the map of the refs, with one of them set
pub set_is : (m : RefMap) (name : List ℕ) (id : ObjectId) (q : List ℕ) → with_ref m name id q ≡ cond (bytes_eq q name) (Some id) (m q)
unfolding with_ref
set_is m name id q = refl

pub set_in_map : (m n : PackedMap) (name : List ℕ) (id : ObjectId) → n ≡ names.insert m name id → IsMapOf (with_ref (names.get m) name id) n
set_in_map m n name id made q =
    ap (λ (k : PackedMap). names.get k q) made ∙ get-insert nat_list_cmp_total m name id q ∙ ap (λ b. cond b (Some id) (names.get m q)) (is_eq-slice_cmp q name) ∙ sym (set_is (names.get m) name id q)

-- each of the commands may be set
pub to_be_set_at : (held : List Command) (k : ℕ) (c : Command) → AreToBeSet (commands_of held) → k < length held → c ≡ get_or held k c → MayBeSet c.name.items
to_be_set_at [] k c all within is = absurd (omega (arith, within))
to_be_set_at (d ∷ held) zero c all within is = subst (λ (x : Command). MayBeSet x.name.items) (sym is) all.0
to_be_set_at (d ∷ held) (suc k) c all within is = to_be_set_at held k c all.1 (omega (arith, within)) is

pub all_to_be_set : (cs : List CommandText) (vs : List Verdict) → length vs ≡ length cs → MayBeSetWhere cs vs → list_all is_passing vs ≡ true → AreToBeSet cs
all_to_be_set [] vs paired may all = tt
all_to_be_set (c ∷ cs) [] paired may all = absurd (omega (arith, paired))
all_to_be_set (c ∷ cs) (Passing ∷ vs) paired may all = (may.0, all_to_be_set cs vs (omega (arith, paired)) may.1 all)
all_to_be_set (c ∷ cs) (Accepted ∷ vs) paired may all = absurd (true≢false (sym all))
all_to_be_set (c ∷ cs) (Refused r ∷ vs) paired may all = absurd (true≢false (sym all))

-- ---- the first that has a cause of its own
no_command : (c : CommandText) → ◌≡◌ {A = Option CommandText} None (Some c) → ⊥
no_command c e = cc e

no_reason : (r : Reason) → ◌≡◌ {A = Option (Option Reason)} None (Some (Some r)) → ⊥
no_reason r e = cc e

none_passed : (r : Reason) → ◌≡◌ {A = Option (Option Reason)} (Some None) (Some (Some r)) → ⊥
none_passed r e = cc e

same_reason : (q r : Reason) → ◌≡◌ {A = Option (Option Reason)} (Some (Some q)) (Some (Some r)) → q ≡ r
same_reason q r e = cc e

same_command : (d c : CommandText) → ◌≡◌ {A = Option CommandText} (Some d) (Some c) → d ≡ c
same_command d c e = cc e

refusal_at : (cs : List CommandText) (founds : List (Option Reason)) (i : ℕ) (c : CommandText) (r : Reason) → all_pass (take i founds) ≡ true → slice_get founds i ≡ Some (Some r) → slice_get cs i ≡ Some c
    → first_refusal cs founds ≡ Some (c.name, r)
refusal_at [] founds i c r passed here there = absurd (no_command c there)
refusal_at (d ∷ cs) [] i c r passed here there = absurd (no_reason r here)
refusal_at (d ∷ cs) (None ∷ fs) zero c r passed here there = absurd (none_passed r here)
refusal_at (d ∷ cs) (Some q ∷ fs) zero c r passed here there =
    ap (λ (x : CommandText). Some (x.name, q)) (same_command d c there) ∙ ap (λ (x : Reason). Some (c.name, x)) (same_reason q r here)
refusal_at (d ∷ cs) (None ∷ fs) (suc i) c r passed here there = refusal_at cs fs i c r passed here there
refusal_at (d ∷ cs) (Some q ∷ fs) (suc i) c r passed here there = absurd (true≢false (sym passed))

-- as it is told
pub told_at : (cs : List CommandText) (founds : List (Option Reason)) (i : ℕ) (c : CommandText) (r : Reason) (name : List ℕ) → name ≡ c.name → all_pass (take i founds) ≡ true → slice_get founds i ≡ Some (Some r) → slice_get cs i ≡ Some c
    → Some (name, r) ≡ first_refusal cs founds
told_at cs founds i c r name named passed here there = ap (λ (n : List ℕ). Some (n, r)) named ∙ sym (refusal_at cs founds i c r passed here there)

pub told_none : (found : Option (Vec ℕ Global × Reason)) → is_none (refusal_told found) ≡ is_none found
told_none None = refl
told_none (Some told) = refl

-- ---- the verdicts on all
abbrev pub verdict_by : Bool → Option Reason → Verdict
verdict_by passes found = cond passes (verdict_of found) (refused_by found)

pub verdicts_by : (founds : List (Option Reason)) (passes : Bool) → all_pass founds ≡ passes → map (verdict_by passes) founds ≡ verdicts_together founds
verdicts_by founds true is = sym (ap (λ b. cond b (map verdict_of founds) (map refused_by founds)) is)
verdicts_by founds false is = sym (ap (λ b. cond b (map verdict_of founds) (map refused_by founds)) is)

each_accepted : (cs : List CommandText) (founds : List (Option Reason)) → length founds ≡ length cs → all_pass founds ≡ true → map verdict_of founds ≡ map (λ (c : CommandText). Accepted) cs
each_accepted [] [] paired passed = refl
each_accepted [] (found ∷ founds) paired passed = absurd (omega (arith, paired))
each_accepted (c ∷ cs) [] paired passed = absurd (omega (arith, paired))
each_accepted (c ∷ cs) (None ∷ founds) paired passed = ap (λ (vs : List Verdict). Accepted ∷ vs) (each_accepted cs founds (omega (arith, paired)) passed)
each_accepted (c ∷ cs) (Some r ∷ founds) paired passed = absurd (true≢false (sym passed))

-- if all pass, each is accepted
pub together_accepted : (cs : List CommandText) (founds : List (Option Reason)) → length founds ≡ length cs → all_pass founds ≡ true → verdicts_together founds ≡ map (λ (c : CommandText). Accepted) cs
together_accepted cs founds paired passed = ap (λ b. cond b (map verdict_of founds) (map refused_by founds)) passed ∙ each_accepted cs founds paired passed

-- and if not, each is refused
pub together_refused : (founds : List (Option Reason)) → all_pass founds ≡ false → verdicts_together founds ≡ map refused_by founds
together_refused founds some = ap (λ b. cond b (map verdict_of founds) (map refused_by founds)) some

none_accepted : (founds : List (Option Reason)) → list_any is_passing (map verdict_of founds) ≡ false
none_accepted [] = refl
none_accepted (found ∷ founds) = ap (λ b. b || list_any is_passing (map verdict_of founds)) (settled_verdict found) ∙ none_accepted founds

each_refused : (founds : List (Option Reason)) → list_any is_passing (map refused_by founds) ≡ false
each_refused [] = refl
each_refused (None ∷ founds) = each_refused founds
each_refused (Some r ∷ founds) = each_refused founds

-- none passes any more
pub settled_together : (founds : List (Option Reason)) → list_any is_passing (verdicts_together founds) ≡ false
settled_together founds =
    elim (all_pass founds) as (λ b. list_any is_passing (cond b (map verdict_of founds) (map refused_by founds)) ≡ false) [ true ↦ none_accepted founds | false ↦ each_refused founds ]

pub length_together : (founds : List (Option Reason)) → length (verdicts_together founds) ≡ length founds
length_together founds = elim (all_pass founds) as (λ b. length (cond b (map verdict_of founds) (map refused_by founds)) ≡ length founds) [
  | true ↦ length-map founds verdict_of
  | false ↦ length-map founds refused_by
]
