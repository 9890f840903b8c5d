-- The commands of an atomic push, as they are judged and set together.
use Rattle.std.specs.Prelude.{◌≡◌, ℕ, List, [], ◌∷◌, map, Option, Some, Vec, option_map, if◌then◌else◌}
use Rattle.std.specs.Global.{Global}
use Rattle.vc_push.specs.Push.{CommandText}
use Rattle.vc_push.specs.declared.reason.Reason.{Reason}
use Rattle.vc_refs.specs.RefMap.{RefMap}
use Rattle.vc_refs.specs.declared.changes.RefChange.{RefChange}
use Rattle.vc_push_rules.specs.Session.{verdict_of}
use Rattle.vc_push_rules.specs.Turn.{all_pass, first_refusal, refused_by, JudgesInTurn}
use Rattle.vc_push_rules.specs.Verdict.{MayBeSet, expected}
use Rattle.vc_push_rules.specs.declared.stage.Verdict.{Verdict}

-- each may be the name of a ref that is set
abbrev pub AreToBeSet : List CommandText → Type 0
AreToBeSet [] = Unit {0}
AreToBeSet (c ∷ cs) = MayBeSet c.name × AreToBeSet cs

-- the names that are named after these commands
abbrev pub named_after : List (List ℕ) → List CommandText → List (List ℕ)
named_after named [] = named
named_after named (c ∷ cs) = named_after (c.name ∷ named) cs

-- what a command asks of its ref
abbrev pub change_of : CommandText → RefChange
change_of c = record { name = c.name; expected = expected c.old; new = Some c.new }

-- the first refusal, as it is told
abbrev pub refusal_told : Option (Vec ℕ Global × Reason) → Option (List ℕ × Reason)
refusal_told found = option_map (λ (told : Vec ℕ Global × Reason). (told.0.items, told.1)) found

-- all commands are accepted, or all are refused
abbrev pub verdicts_together : List (Option Reason) → List Verdict
verdicts_together founds = if all_pass founds then map verdict_of founds else map refused_by founds

-- what becomes of all commands that are judged in turn over these refs, and the first that has a cause of its own
pub record IsJudged (m : RefMap) (cs : List CommandText) (verdicts : List Verdict) (refused : Option (List ℕ × Reason)) : Type 0 where
  pub founds : List (Option Reason)
  pub judged : JudgesInTurn m [] cs founds
  pub verdicts_are : verdicts ≡ verdicts_together founds
  pub refused_is : refused ≡ first_refusal cs founds
