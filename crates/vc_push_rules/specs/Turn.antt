-- The commands of an atomic push, judged at their update one after another, and what is made of all of them together.
use Rattle.std.specs.Prelude.{◌≡◌, ℕ, Bool, true, Contains, List, [], ◌∷◌, map, Option, Some, None, is_none, if◌then◌else◌}
use Rattle.std.specs.List.{list_all}
use Rattle.vc_push.specs.Push.{CommandText}
use Rattle.vc_push.specs.declared.reason.Reason.{Reason}
use Rattle.vc_push.specs.declared.reason.Reason.TheVariants.{Stale, AtomicFailure}
use Rattle.vc_refs.specs.RefMap.{RefMap, with_ref}
use Rattle.vc_push_rules.specs.Session.{is_passing}
use Rattle.vc_push_rules.specs.Verdict.{IsVerdict, UpdateNeeds, is_branch, refs_after, update_reasons}
use Rattle.vc_push_rules.specs.declared.stage.Verdict.{Verdict}
use Rattle.vc_push_rules.specs.declared.stage.Verdict.TheVariants.{Refused}

-- a branch that an earlier command names is stale, so that each value which is reported is one that the branch had
abbrev pub TurnNeeds : RefMap → List (List ℕ) → CommandText → Reason → Type 0
TurnNeeds refs named c Stale = UpdateNeeds refs c Stale × (is_branch c.name ≡ true → ¬ Contains named c.name)
TurnNeeds refs named c r = UpdateNeeds refs c r

-- each is judged over the refs as those before it that passed would leave them
abbrev pub JudgesInTurn : RefMap → List (List ℕ) → List CommandText → List (Option Reason) → Type 0
JudgesInTurn refs named [] [] = Unit {0}
JudgesInTurn refs named (c ∷ cs) (found ∷ founds) = IsVerdict (TurnNeeds refs named c) update_reasons found × JudgesInTurn (refs_after refs c found) (c.name ∷ named) cs founds
JudgesInTurn refs named _ _ = ⊥

-- none is refused
abbrev pub all_pass : List (Option Reason) → Bool
all_pass founds = list_all is_none founds

-- and so it is with these commands over these refs
abbrev pub PassInTurn : RefMap → List CommandText → Type 0
PassInTurn refs cs = (founds : List (Option Reason)) × JudgesInTurn refs [] cs founds × (all_pass founds ≡ true)

-- the refs, with the new values of all these commands
abbrev pub with_new : RefMap → List CommandText → RefMap
with_new refs [] = refs
with_new refs (c ∷ cs) = with_new (with_ref refs c.name c.new) cs

-- a command has its own cause, or that another has one
abbrev pub refused_by : Option Reason → Verdict
refused_by None = Refused AtomicFailure
refused_by (Some r) = Refused r

-- the first that has a cause of its own
abbrev pub first_refusal : List CommandText → List (Option Reason) → Option (List ℕ × Reason)
first_refusal (c ∷ cs) (Some r ∷ founds) = Some (c.name, r)
first_refusal (c ∷ cs) (None ∷ founds) = first_refusal cs founds
first_refusal _ _ = None

-- ---- at the check
-- a command that passes is refused for the others
abbrev pub failed_with_others : Verdict → Verdict
failed_with_others v = if is_passing v then Refused AtomicFailure else v

-- all pass, or none does
abbrev pub checked_together : List Verdict → List Verdict
checked_together vs = if list_all is_passing vs then vs else map failed_with_others vs
