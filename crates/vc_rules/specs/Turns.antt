-- The commands of an atomic push, judged one after another, as the layers and the machine judge them.
use Rattle.std.specs.Prelude.{◌≡◌, ℕ, List, ◌∷◌, length, map, Option, Some, None, option_map}
use Rattle.std.specs.FinMap.{get, insert}
use Rattle.vc_format.specs.Git.{id_of_bytes}
use Rattle.vc_model.specs.Push as machine
use Rattle.vc_model.specs.Push.{Judged}
use Rattle.vc_model.specs.Refs.{RefName, Refs}
use Rattle.vc_push.specs.Push.{CommandText}
use Rattle.vc_push.specs.declared.reason.Reason.{Reason}
use Rattle.vc_refs.specs.RefMap.{RefMap}
use Rattle.vc_push_rules.specs.Turn.{JudgesInTurn}
use Rattle.vc_push_rules.specs.Verdict.{refs_after}
use Rattle.vc_push_rules.specs.declared.stage.Verdict.{Verdict}
use Rattle.vc_rules.specs.OpenPushes.{judged_commands}
use Rattle.vc_rules.specs.Verdicts.{machine_command, machine_reason}

-- what is judged in turn over the refs is what the machine judges in turn
abbrev pub TurnsAgree : Type 0
TurnsAgree = (refs : RefMap) (rs : Refs) → ((n : RefName) → refs n ≡ option_map id_of_bytes (get rs n))
    → (named : List (List ℕ)) (cs : List CommandText) (vs : List Verdict) (founds : List (Option Reason)) → length vs ≡ length cs
    → JudgesInTurn refs named cs founds → machine.JudgesInTurn rs named (judged_commands cs vs) (map (option_map machine_reason) founds)

-- the refs that the machine's next command finds
abbrev pub refs_found_next : Refs → machine.Command → Option machine.Reason → Refs
refs_found_next rs c None = insert rs c.name c.new
refs_found_next rs c (Some r) = rs

-- over these the machine judges those that come next, and they are the refs that the layers leave
pub record NextsAgree : Type 0 where
  pub judged : (rs : Refs) (named : List RefName) (j : Judged) (js : List Judged) (found : Option machine.Reason) (founds : List (Option machine.Reason))
      → machine.JudgesInTurn rs named (j ∷ js) (found ∷ founds) → machine.JudgesInTurn (refs_found_next rs j.command found) (j.command.name ∷ named) js founds
  pub left : (refs : RefMap) (rs : Refs) → ((n : RefName) → refs n ≡ option_map id_of_bytes (get rs n))
      → (c : CommandText) (found : Option Reason) (n : RefName) → refs_after refs c found n ≡ option_map id_of_bytes (get (refs_found_next rs (machine_command c) (option_map machine_reason found)) n)
