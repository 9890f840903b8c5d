-- Lists of commands and verdicts, for the loops that go over them.
use Rattle.std.proofs.Common.{◌≡◌, ℕ, ◌+◌, Bool, cond, true, false, List, [], ◌∷◌, ◌++◌, Some, length, map, take, slice_get, refl, sym, ap, subst, ◌∙◌, true≢false, arith}
use Rattle.std.proofs.lemmas.List.{length-map, length-take-le, map_more, take_more}
use Rattle.std.proofs.lemmas.Option.{get_or_from_slice_get, slice_get_within}
use Rattle.std.specs.Prelude.{⊤}
use Rattle.std.specs.List.{list_all, list_any}
use Rattle.vc_files.specs.FileMap.{FileMap}
use Rattle.vc_object_map.specs.StoreFault.{IsMet}
use Rattle.vc_object.specs.ObjectMap.{ObjectMap}
use Rattle.vc_push.specs.Push.{CommandText}
use Rattle.vc_push.specs.PushView.{command_of, commands_of}
use Rattle.vc_push.specs.declared.command.Command.{Command}
use Rattle.vc_refs.specs.RefFault.{BlamesList}
use Rattle.vc_refs.specs.declared.faults.RefFault.{RefFault}
use Rattle.vc_refs.specs.declared.faults.RefFault.TheVariants as of_refs
use Rattle.vc_object_map.specs.declared.faults.StoreFault.{StoreFault}
use Rattle.vc_object_map.specs.declared.faults.StoreFault.TheVariants as of_store
use Rattle.vc_quarantine.specs.PushState.{IsDamagedSeen, SeenState}
use Rattle.vc_session.specs.SessionFault.{IsRefusedCheck, from_refs, from_store}
use Rattle.vc_push_rules.specs.Session.{SessionText, IsInStage, IsSession, MayBeSetWhere, is_passing, stage_while}
use Rattle.vc_push_rules.specs.Steps.{Checks, ChecksAll, ChecksPush}
use Rattle.vc_push_rules.specs.Turn.{checked_together, failed_with_others}
use Rattle.vc_push_rules.specs.Verdict.{MayBeSet}
use Rattle.vc_push_rules.specs.declared.stage.Stage.{Stage}
use Rattle.vc_push_rules.specs.declared.stage.Stage.TheVariants.{Checked}
use Rattle.vc_push_rules.specs.declared.stage.Verdict.{Verdict}
use Rattle.vc_push_rules.specs.declared.stage.Verdict.TheVariants.{Passing, Accepted, Refused}
use Rattle.vc_session.proofs.SessionLemmas.{in_stage}

-- one more command is checked
pub ChecksAll-push : (objects : ObjectMap) (cs : List CommandText) (vs ws : List Verdict) (c : CommandText) (v w : Verdict) → ChecksAll objects cs vs ws → Checks objects c v w → ChecksAll objects (cs ++ c ∷ []) (vs ++ v ∷ []) (ws ++ w ∷ [])
ChecksAll-push objects [] [] [] c v w all one = (one, tt)
ChecksAll-push objects (d ∷ cs) (x ∷ vs) (y ∷ ws) c v w all one = (all.0, ChecksAll-push objects cs vs ws c v w all.1 one)
ChecksAll-push objects [] [] (y ∷ ws) c v w all one = absurd all
ChecksAll-push objects [] (x ∷ vs) ws c v w all one = absurd all
ChecksAll-push objects (d ∷ cs) [] ws c v w all one = absurd all
ChecksAll-push objects (d ∷ cs) (x ∷ vs) [] c v w all one = absurd all

one_set : (c : CommandText) (w : Verdict) → (is_passing w ≡ true → MayBeSet c.name) → MayBeSetWhere (c ∷ []) (w ∷ [])
one_set c Passing h = (h refl, tt)
one_set c Accepted h = tt
one_set c (Refused r) h = tt

-- and where it passes it may be set
pub MayBeSetWhere-push : (cs : List CommandText) (ws : List Verdict) (c : CommandText) (w : Verdict) → length ws ≡ length cs → MayBeSetWhere cs ws → (is_passing w ≡ true → MayBeSet c.name) → MayBeSetWhere (cs ++ c ∷ []) (ws ++ w ∷ [])
MayBeSetWhere-push [] [] c w len all one = one_set c w one
MayBeSetWhere-push [] (y ∷ ws) c w len all one = absurd (cc len)
MayBeSetWhere-push (d ∷ cs) [] c w len all one = absurd (cc len)
MayBeSetWhere-push (d ∷ cs) (Passing ∷ ws) c w len all one = (all.0, MayBeSetWhere-push cs ws c w (cc len) all.1 one)
MayBeSetWhere-push (d ∷ cs) (Accepted ∷ ws) c w len all one = MayBeSetWhere-push cs ws c w (cc len) all one
MayBeSetWhere-push (d ∷ cs) (Refused r ∷ ws) c w len all one = MayBeSetWhere-push cs ws c w (cc len) all one

-- the check lets a command pass only where it passed before
pub passes_may : (P : Type 0) (v w : Verdict) → (v ≡ Passing → is_passing w ≡ true → P) → (is_passing v ≡ false → w ≡ v) → is_passing w ≡ true → P
passes_may P Passing w legal settled h = legal refl h
passes_may P Accepted w legal settled h = absurd (true≢false (sym h ∙ ap is_passing (settled refl)))
passes_may P (Refused r) w legal settled h = absurd (true≢false (sym h ∙ ap is_passing (settled refl)))

module _ (commands : List Command) (verdicts ws : List Verdict) (i : ℕ) (w : Verdict) where
  -- ---- the next command and its verdict
  pub checks_more : (objects : ObjectMap) (c : Command) (v : Verdict) → slice_get commands i ≡ Some c → slice_get verdicts i ≡ Some v → ChecksAll objects (commands_of (take i commands)) (take i verdicts) ws
      → Checks objects (command_of c) v w → ChecksAll objects (commands_of (take (i + 1) commands)) (take (i + 1) verdicts) (ws ++ w ∷ [])
  checks_more objects c v command_is verdict_is all one =
      let next_command : commands_of (take (i + 1) commands) ≡ commands_of (take i commands) ++ command_of c ∷ [] = map_more command_of commands i c (slice_get_within commands i c command_is) ∙ ap (λ x. commands_of (take i commands) ++ command_of x ∷ []) (get_or_from_slice_get commands i c c command_is) in
      let next_verdict : take (i + 1) verdicts ≡ take i verdicts ++ v ∷ [] = take_more verdicts i v (slice_get_within verdicts i v verdict_is) ∙ ap (λ x. take i verdicts ++ x ∷ []) (get_or_from_slice_get verdicts i v v verdict_is) in
      subst (λ cs. ChecksAll objects cs (take (i + 1) verdicts) (ws ++ w ∷ [])) (sym next_command)
      (subst (λ vs. ChecksAll objects (commands_of (take i commands) ++ command_of c ∷ []) vs (ws ++ w ∷ [])) (sym next_verdict)
      (ChecksAll-push objects (commands_of (take i commands)) (take i verdicts) ws (command_of c) v w all one))

  pub legal_more : (c : Command) → slice_get commands i ≡ Some c → length ws ≡ i → MayBeSetWhere (commands_of (take i commands)) ws → (is_passing w ≡ true → MayBeSet c.name.items)
      → MayBeSetWhere (commands_of (take (i + 1) commands)) (ws ++ w ∷ [])
  legal_more c command_is len all one =
      let within = slice_get_within commands i c command_is in
      let next_command : commands_of (take (i + 1) commands) ≡ commands_of (take i commands) ++ command_of c ∷ [] = map_more command_of commands i c within ∙ ap (λ x. commands_of (take i commands) ++ command_of x ∷ []) (get_or_from_slice_get commands i c c command_is) in
      let as_many : length ws ≡ length (commands_of (take i commands)) = len ∙ sym (length-map (take i commands) command_of ∙ length-take-le i commands (omega (arith, within))) in
      subst (λ cs. MayBeSetWhere cs (ws ++ w ∷ [])) (sym next_command)
      (MayBeSetWhere-push (commands_of (take i commands)) ws (command_of c) w as_many all one)

-- ---- refusals of the layers below
pub IsRefusedCheck-from_list : (content : FileMap) (slot : ℕ) (e : RefFault) → BlamesList content e → IsRefusedCheck content slot (from_refs e)
IsRefusedCheck-from_list content slot (of_refs.Stale current) h = h
IsRefusedCheck-from_list content slot (of_refs.Conflict name) h = h
IsRefusedCheck-from_list content slot (of_refs.BadRefFile path) h = h.bad
IsRefusedCheck-from_list content slot of_refs.HeadLoop h = h
IsRefusedCheck-from_list content slot (of_refs.Fault fault) h = tt

pub IsRefusedCheck-from_met : (s : SeenState) (e : StoreFault) → IsMet (λ id. ⊤) (IsDamagedSeen s.content s.slot) e → IsRefusedCheck s.content s.slot (from_store e)
IsRefusedCheck-from_met s (of_store.BadObject fault) h = h
IsRefusedCheck-from_met s (of_store.Absent id) h = h
IsRefusedCheck-from_met s (of_store.Damaged id) h = h.1
IsRefusedCheck-from_met s (of_store.Fault fault) h = tt

-- ---- the whole push
-- one of its verdicts each, and in an atomic one all commands pass if one does
pub record IsCheckedPush (atomic : Bool) (cs : List CommandText) (ws : List Verdict) : Type 0 where
  pub paired : length ws ≡ length cs
  pub may : MayBeSetWhere cs ws
  pub together : atomic ≡ true → list_any is_passing ws ≡ true → list_all is_passing ws ≡ true

none_left : (us : List Verdict) → list_any is_passing (map failed_with_others us) ≡ false
none_left [] = refl
none_left (Passing ∷ us) = none_left us
none_left (Accepted ∷ us) = none_left us
none_left (Refused r ∷ us) = none_left us

failed_may : (cs : List CommandText) (us : List Verdict) → MayBeSetWhere cs (map failed_with_others us)
failed_may [] us = tt
failed_may (c ∷ cs) [] = tt
failed_may (c ∷ cs) (Passing ∷ us) = failed_may cs us
failed_may (c ∷ cs) (Accepted ∷ us) = failed_may cs us
failed_may (c ∷ cs) (Refused r ∷ us) = failed_may cs us

together_push : (cs : List CommandText) (us : List Verdict) → length us ≡ length cs → MayBeSetWhere cs us → IsCheckedPush true cs (checked_together us)
together_push cs us paired may =
    elim (list_all is_passing us) as (λ b. list_all is_passing us ≡ b → IsCheckedPush true cs (cond b us (map failed_with_others us))) [
      | true ↦ λ all. record { paired = paired; may = may; together = λ _ _. all }
      | false ↦ λ _. record { paired = length-map us failed_with_others ∙ paired; may = failed_may cs us; together = λ _ some. absurd (true≢false (sym some ∙ none_left us)) }
    ] refl

pub checked_push : (atomic : Bool) (cs : List CommandText) (us ws : List Verdict) → length us ≡ length cs → MayBeSetWhere cs us → ws ≡ cond atomic (checked_together us) us → IsCheckedPush atomic cs ws
checked_push true cs us ws paired may is = subst (λ (xs : List Verdict). IsCheckedPush true cs xs) (sym is) (together_push cs us paired may)
checked_push false cs us ws paired may is = subst (λ (xs : List Verdict). IsCheckedPush false cs xs) (sym is) (record { paired = paired; may = may; together = λ single. absurd (true≢false (sym single)) })

-- so it is one still
pub session_checked : (t : SessionText) (ws : List Verdict) (stage : Stage) → IsCheckedPush t.atomic t.commands ws → stage ≡ stage_while ws Checked → IsSession (record t { verdicts = ws; stage = stage })
session_checked t ws stage checked is =
    let u : SessionText = record t { verdicts = ws; stage = stage } in
    record {
      paired = checked.paired;
      in_stage = subst (λ (x : Stage). IsInStage u x) (sym is) (in_stage u Checked (λ passes. (checked.may, passes, λ atomic. checked.together atomic passes)));
    }

pub checks_push : (objects : ObjectMap) (atomic : Bool) (cs : List CommandText) (vs us ws : List Verdict) → ChecksAll objects cs vs us → ws ≡ cond atomic (checked_together us) us → ChecksPush objects atomic cs vs ws
checks_push objects true cs vs us ws all is = (us, all, is)
checks_push objects false cs vs us ws all is = subst (λ (xs : List Verdict). ChecksAll objects cs vs xs) (sym is) all
