-- Commands that are judged one after another are judged as the machine judges them.
use Rattle.std.proofs.Common.{◌≡◌, ◌↔◌, arith, ℕ, List, [], ◌∷◌, Option, Some, None}
use Rattle.std.specs.Prelude.{option_map}
use Rattle.std.specs.FinMap.{get, insert}
use Rattle.vc_format.specs.Git.{id_of_bytes}
use Rattle.vc_model.specs.Push as machine
use Rattle.vc_model.specs.Push.{Judged}
use Rattle.vc_model.specs.Refs.{RefName, Refs}
use Rattle.vc_push.specs.Push.{CommandText}
use Rattle.vc_push.specs.declared.reason.Reason.{Reason}
use Rattle.vc_push.specs.declared.reason.Reason.TheVariants.{BadName, OutsideRefs, DeletionProhibited, MissingObjects, NotACommit, NonFastForward, AlreadyExists, NameConflict, Stale, UnpackerError, AtomicFailure}
use Rattle.vc_push_rules.specs.Turn.{TurnNeeds}
use Rattle.vc_push_rules.specs.Verdict.{refs_after, update_reasons}
use Rattle.vc_refs.specs.RefMap.{RefMap, with_ref}
use Rattle.vc_rules.proofs.RefLemmas.{set_rel}
use Rattle.vc_rules.proofs.UpdateLaws.{needs}
use Rattle.vc_rules.proofs.VerdictLaws.{all_met, branch, first_unmet}
use Rattle.vc_rules.specs.Turns.{refs_found_next, NextsAgree, TurnsAgree}
use Rattle.vc_rules.specs.Verdicts.{machine_command, machine_reason}

-- ---- what is asked of a command in its turn
module _ (refs : RefMap) (rs : Refs) (rel : (n : RefName) → refs n ≡ option_map id_of_bytes (get rs n)) (named : List (List ℕ)) (c : CommandText) where
  turn_needs : (r : Reason) → TurnNeeds refs named c r ↔ machine.TurnNeeds rs named (machine_command c) (machine_reason r)
  turn_needs BadName = needs refs rs rel c BadName
  turn_needs OutsideRefs = needs refs rs rel c OutsideRefs
  turn_needs DeletionProhibited = needs refs rs rel c DeletionProhibited
  turn_needs MissingObjects = needs refs rs rel c MissingObjects
  turn_needs NotACommit = needs refs rs rel c NotACommit
  turn_needs NonFastForward = needs refs rs rel c NonFastForward
  turn_needs AlreadyExists = needs refs rs rel c AlreadyExists
  turn_needs NameConflict = needs refs rs rel c NameConflict
  turn_needs Stale = (
    λ h. ((needs refs rs rel c Stale).0 h.0, λ is. h.1 ((branch c.name).1 is)),
    λ h. ((needs refs rs rel c Stale).1 h.0, λ is. h.1 ((branch c.name).0 is)),
  )
  turn_needs UnpackerError = needs refs rs rel c UnpackerError
  turn_needs AtomicFailure = needs refs rs rel c AtomicFailure

pub turns_agree : TurnsAgree
turns_agree refs rs rel named [] [] [] fits h = tt
turns_agree refs rs rel named [] [] (found ∷ founds) fits h = absurd h
turns_agree refs rs rel named [] (v ∷ vs) founds fits h = absurd (omega (arith, fits))
turns_agree refs rs rel named (c ∷ cs) [] founds fits h = absurd (omega (arith, fits))
turns_agree refs rs rel named (c ∷ cs) (v ∷ vs) [] fits h = absurd h
turns_agree refs rs rel named (c ∷ cs) (v ∷ vs) (None ∷ founds) fits (met, later) = (
  all_met (TurnNeeds refs named c) (machine.TurnNeeds rs named (machine_command c)) (turn_needs refs rs rel named c) update_reasons met,
  turns_agree (with_ref refs c.name c.new) (insert rs c.name c.new.0) (set_rel refs rs rel c.name c.new) (c.name ∷ named) cs vs founds (omega (arith, fits)) later,
)
turns_agree refs rs rel named (c ∷ cs) (v ∷ vs) (Some r ∷ founds) fits (unmet, later) = (
  first_unmet (TurnNeeds refs named c) (machine.TurnNeeds rs named (machine_command c)) (turn_needs refs rs rel named c) update_reasons r unmet,
  turns_agree refs rs rel (c.name ∷ named) cs vs founds (omega (arith, fits)) later,
)

-- ---- the refs that the next one finds
machine_next : (rs : Refs) (named : List RefName) (j : Judged) (js : List Judged) (found : Option machine.Reason) (founds : List (Option machine.Reason))
    → machine.JudgesInTurn rs named (j ∷ js) (found ∷ founds) → machine.JudgesInTurn (refs_found_next rs j.command found) (j.command.name ∷ named) js founds
machine_next rs named j js None founds h = h.1
machine_next rs named j js (Some r) founds h = h.1

left_next : (refs : RefMap) (rs : Refs) → ((n : RefName) → refs n ≡ option_map id_of_bytes (get rs n))
    → (c : CommandText) (found : Option Reason) (n : RefName) → refs_after refs c found n ≡ option_map id_of_bytes (get (refs_found_next rs (machine_command c) (option_map machine_reason found)) n)
left_next refs rs rel c None n = set_rel refs rs rel c.name c.new n
left_next refs rs rel c (Some r) n = rel n

pub nexts_agree : NextsAgree
nexts_agree = record { judged = machine_next; left = left_next }
