-- Commands of an atomic push that are judged together, as a session has them and as the machine does.
use Rattle.std.proofs.Common.{◌≡◌, inl, inr, ℕ, suc, Bool, true, false, cond, ◌&&◌, List, [], ◌∷◌, length, map, Option, Some, None, is_none, refl, ap, sym, ◌∙◌}
use Rattle.std.specs.Prelude.{option_map}
use Rattle.std.specs.FinMap.{get, insert}
use Rattle.std.specs.List.{list_all}
use Rattle.vc_format.specs.Git.{id_of_bytes}
use Rattle.vc_model.specs.Node.Reply.{RefusedAll}
use Rattle.vc_model.specs.Object.{Lookup}
use Rattle.vc_model.specs.Push as machine
use Rattle.vc_model.specs.Push.{Judged}
use Rattle.vc_model.specs.Push.Verdict.{Accepted as MachineAccepted, Refused as MachineRefused}
use Rattle.vc_model.specs.Refs.{RefName, Refs, with_refs}
use Rattle.vc_model.specs.Repository.Change.{SetRefs}
use Rattle.vc_model.specs.Shared as shared
use Rattle.vc_object.specs.ObjectMap.{ObjectMap}
use Rattle.vc_push.specs.Push.{CommandText}
use Rattle.vc_push.specs.declared.reason.Reason.{Reason}
use Rattle.vc_refs.specs.RefMap.{RefMap, with_ref}
use Rattle.vc_push_rules.specs.Session.{is_passing}
use Rattle.vc_push_rules.specs.Steps.{ChecksAll, ChecksPush}
use Rattle.vc_push_rules.proofs.TurnLemmas.{judged_length}
use Rattle.vc_push_rules.specs.Turn.{all_pass, checked_together, failed_with_others, first_refusal, refused_by, with_new, JudgesInTurn}
use Rattle.vc_push_rules.specs.declared.stage.Verdict.{Verdict}
use Rattle.vc_push_rules.specs.declared.stage.Verdict.TheVariants.{Passing, Accepted, Refused}
use Rattle.vc_rules.specs.Git.{git}
use Rattle.vc_rules.specs.OpenPushes.{judged_commands, machine_standing}
use Rattle.vc_rules.specs.Verdicts.{AreFoundAt, machine_command, machine_reason}
use Rattle.vc_rules.proofs.JudgedLemmas.{checks_all, less, passes}
use Rattle.vc_rules.proofs.RefLemmas.{set_rel}
use Rattle.vc_rules.proofs.TurnLaws.{turns_agree}

-- the refusals, as the machine has them
abbrev pub machine_founds : List (Option Reason) → List (Option machine.Reason)
machine_founds founds = map (option_map machine_reason) founds

-- each command has its verdict
pub many_judged : (cs : List CommandText) (vs : List Verdict) → length vs ≡ length cs → length (judged_commands cs vs) ≡ length cs
many_judged [] vs e = refl
many_judged (c ∷ cs) [] e = absurd (cc e)
many_judged (c ∷ cs) (v ∷ vs) e = ap suc (many_judged cs vs (less (length vs) (length cs) e))

-- ---- the check
failed : (c : CommandText) (v : Verdict)
    → machine.failed_with_others (record { command = machine_command c; verdict = machine_standing v }) ≡ record { command = machine_command c; verdict = machine_standing (failed_with_others v) }
failed c Passing = refl
failed c Accepted = refl
failed c (Refused r) = refl

all_failed : (cs : List CommandText) (vs : List Verdict) → judged_commands cs (map failed_with_others vs) ≡ map machine.failed_with_others (judged_commands cs vs)
all_failed [] vs = refl
all_failed (c ∷ cs) [] = refl
all_failed (c ∷ cs) (v ∷ vs) =
    ap (λ (j : Judged). j ∷ judged_commands cs (map failed_with_others vs)) (sym (failed c v))
    ∙ ap (λ (js : List Judged). machine.failed_with_others (record { command = machine_command c; verdict = machine_standing v }) ∷ js) (all_failed cs vs)

all_passing : (cs : List CommandText) (vs : List Verdict) → length vs ≡ length cs → list_all machine.is_passing (judged_commands cs vs) ≡ list_all is_passing vs
all_passing [] [] e = refl
all_passing [] (v ∷ vs) e = absurd (cc e)
all_passing (c ∷ cs) [] e = refl
all_passing (c ∷ cs) (v ∷ vs) e =
    ap (λ b. b && list_all machine.is_passing (judged_commands cs vs)) (passes c v) ∙ ap (λ b. is_passing v && b) (all_passing cs vs (less (length vs) (length cs) e))

passing_together : (cs : List CommandText) (vs : List Verdict) → length vs ≡ length cs
    → judged_commands cs (checked_together vs) ≡ cond (list_all machine.is_passing (judged_commands cs vs)) (judged_commands cs vs) (map machine.failed_with_others (judged_commands cs vs))
passing_together cs vs e =
    by (list_all is_passing vs) ∙ ap (λ b. cond b (judged_commands cs vs) (map machine.failed_with_others (judged_commands cs vs))) (sym (all_passing cs vs e))
  where
    by : (b : Bool) → judged_commands cs (cond b vs (map failed_with_others vs)) ≡ cond b (judged_commands cs vs) (map machine.failed_with_others (judged_commands cs vs))
    by true = refl
    by false = all_failed cs vs

many_checked : (objects : ObjectMap) (cs : List CommandText) (vs ws : List Verdict) → ChecksAll objects cs vs ws → length ws ≡ length cs
many_checked objects [] [] [] h = refl
many_checked objects [] [] (w ∷ ws) h = absurd h
many_checked objects [] (v ∷ vs) ws h = absurd h
many_checked objects (c ∷ cs) [] ws h = absurd h
many_checked objects (c ∷ cs) (v ∷ vs) [] h = absurd h
many_checked objects (c ∷ cs) (v ∷ vs) (w ∷ ws) h = ap suc (many_checked objects cs vs ws h.1)

pub checks_together : (objects : ObjectMap) (at : Lookup) (found : AreFoundAt objects at) (atomic : Bool) (cs : List CommandText) (vs ws : List Verdict)
    → ChecksPush objects atomic cs vs ws → machine.ChecksPush git at atomic (judged_commands cs vs) (judged_commands cs ws)
checks_together objects at found false cs vs ws h = checks_all objects at found cs vs ws h
checks_together objects at found true cs vs ws (us, h, is) =
    (judged_commands cs us, checks_all objects at found cs vs us h, ap (judged_commands cs) is ∙ passing_together cs us (many_checked objects cs vs us h))

-- ---- the update
pub none_found : (founds : List (Option Reason)) → list_all is_none (machine_founds founds) ≡ all_pass founds
none_found [] = refl
none_found (None ∷ founds) = none_found founds
none_found (Some r ∷ founds) = refl

-- all are accepted, whatever they were
all_accepted : (cs : List CommandText) (vs : List Verdict) → length vs ≡ length cs → judged_commands cs (map (λ (c : CommandText). Accepted) cs) ≡ map machine.accepted (judged_commands cs vs)
all_accepted [] vs e = refl
all_accepted (c ∷ cs) [] e = absurd (cc e)
all_accepted (c ∷ cs) (v ∷ vs) e = ap (λ (js : List Judged). record { command = machine_command c; verdict = MachineAccepted } ∷ js) (all_accepted cs vs (less (length vs) (length cs) e))

all_refused : (cs : List CommandText) (vs : List Verdict) (founds : List (Option Reason)) → length vs ≡ length cs → length founds ≡ length cs
    → judged_commands cs (map refused_by founds) ≡ machine.refused_by (judged_commands cs vs) (machine_founds founds)
all_refused [] vs founds e f = refl
all_refused (c ∷ cs) [] founds e f = absurd (cc e)
all_refused (c ∷ cs) (v ∷ vs) [] e f = absurd (cc f)
all_refused (c ∷ cs) (v ∷ vs) (None ∷ founds) e f =
    ap (λ (js : List Judged). record { command = machine_command c; verdict = MachineRefused machine.Reason.AtomicFailure } ∷ js) (all_refused cs vs founds (less (length vs) (length cs) e) (less (length founds) (length cs) f))
all_refused (c ∷ cs) (v ∷ vs) (Some r ∷ founds) e f =
    ap (λ (js : List Judged). record { command = machine_command c; verdict = MachineRefused (machine_reason r) } ∷ js) (all_refused cs vs founds (less (length vs) (length cs) e) (less (length founds) (length cs) f))

-- the first that has a cause of its own is told
pub first_told : (cs : List CommandText) (vs : List Verdict) (founds : List (Option Reason)) (told : List ℕ × Reason) → length vs ≡ length cs → first_refusal cs founds ≡ Some told
    → shared.first_refusal (judged_commands cs vs) (machine_founds founds) ≡ Some (RefusedAll told.0 (machine_reason told.1))
first_told [] vs founds told e is = absurd (cc is)
first_told (c ∷ cs) [] founds told e is = absurd (cc e)
first_told (c ∷ cs) (v ∷ vs) [] told e is = absurd (cc is)
first_told (c ∷ cs) (v ∷ vs) (None ∷ founds) told e is = first_told cs vs founds told (less (length vs) (length cs) e) is
first_told (c ∷ cs) (v ∷ vs) (Some r ∷ founds) told e is = ap (λ (o : Option (List ℕ × Reason)). option_map (λ (t : List ℕ × Reason). RefusedAll t.0 (machine_reason t.1)) o) is

-- the refs, with all new values
pub set_together : (cs : List CommandText) (vs : List Verdict) (m : RefMap) (rs : Refs) → ((n : RefName) → m n ≡ option_map id_of_bytes (get rs n)) → length vs ≡ length cs → (n : RefName)
    → with_new m cs n ≡ option_map id_of_bytes (get (with_refs (map machine.new_value (judged_commands cs vs)) rs) n)
set_together [] vs m rs rel e n = rel n
set_together (c ∷ cs) [] m rs rel e n = absurd (cc e)
set_together (c ∷ cs) (v ∷ vs) m rs rel e n =
    set_together cs vs (with_ref m c.name c.new) (insert rs c.name c.new.0) (set_rel m rs rel c.name c.new) (less (length vs) (length cs) e) n

module _ (m : RefMap) (rs : Refs) (rel : (n : RefName) → m n ≡ option_map id_of_bytes (get rs n)) (cs : List CommandText) (vs : List Verdict) (fits : length vs ≡ length cs) (founds : List (Option Reason)) (judged : JudgesInTurn m [] cs founds) where
  -- if all pass, all refs are set
  pub sets_together : all_pass founds ≡ true
      → machine.UpdatesAll rs (judged_commands cs vs) (machine_founds founds) (judged_commands cs (map (λ (c : CommandText). Accepted) cs)) (SetRefs (map machine.new_value (judged_commands cs vs)) ∷ [])
  sets_together passed = (turns_agree m rs rel [] cs vs founds fits judged, inl (none_found founds ∙ passed, all_accepted cs vs fits, refl))

  -- and else none is
  pub refuses_together : all_pass founds ≡ false → machine.UpdatesAll rs (judged_commands cs vs) (machine_founds founds) (judged_commands cs (map refused_by founds)) []
  refuses_together some = (turns_agree m rs rel [] cs vs founds fits judged, inr (none_found founds ∙ some, all_refused cs vs founds fits (judged_length m [] cs founds judged), refl))
