-- The update of an atomic push, as a step of its session.
use Rattle.std.proofs.Common.{◌≡◌, ℕ, Bool, true, List, [], length, Option, Some, None, is_none, ap, sym, ◌∙◌, subst}
use Rattle.std.specs.FinMap as files
use Rattle.std.specs.List.{list_any}
use Rattle.vc_files.specs.FileMap.{FileMap}
use Rattle.vc_push.specs.Push.{CommandText}
use Rattle.vc_push.specs.PushView.{commands_of}
use Rattle.vc_push.specs.declared.command.Command.{Command}
use Rattle.vc_push.specs.declared.reason.Reason.{Reason}
use Rattle.vc_refs.proofs.LayeredListingLemmas.{keeps_same}
use Rattle.vc_refs.specs.RefMap.{RefMap}
use Rattle.vc_refs.specs.Refs.{refs}
use Rattle.vc_push_rules.proofs.TurnLemmas.{judged_length, passes_if_none, some_refused}
use Rattle.vc_push_rules.specs.Session.{SessionText, IsInStage, IsSession, is_passing}
use Rattle.vc_push_rules.specs.Steps.{names_of, EndsEarly, EndsUpdate, KeepsUnnamed, StepRefusesAll, StepSetsAll}
use Rattle.vc_push_rules.specs.Turn.{all_pass, first_refusal, with_new, PassInTurn}
use Rattle.vc_push_rules.specs.declared.stage.Stage.{Stage}
use Rattle.vc_push_rules.specs.declared.stage.Stage.TheVariants.{Done, Migrated}
use Rattle.vc_push_rules.specs.declared.stage.Verdict.{Verdict}
use Rattle.vc_session.proofs.TurnLemmas.{all_to_be_set, length_together, settled_together, together_accepted, together_refused}
use Rattle.vc_session.specs.Together.{AreToBeSet, IsJudged}

-- ---- what was judged
-- the same refs and the same commands
pub judged_of : (m n : RefMap) (held others : List Command) (ws : List Verdict) (told now : Option (List ℕ × Reason)) → m ≡ n → held ≡ others → told ≡ now → IsJudged m (commands_of held) ws told → IsJudged n (commands_of others) ws now
judged_of m n held others ws told now maps commands refusals j =
    subst (λ (f : RefMap). IsJudged f (commands_of others) ws now) maps
    (subst (λ (cs : List Command). IsJudged m (commands_of cs) ws now) commands
    (subst (λ (o : Option (List ℕ × Reason)). IsJudged m (commands_of held) ws o) refusals j))

module _ (m : RefMap) (cs : List CommandText) (ws : List Verdict) where
  all_passed : (j : IsJudged m cs ws None) → all_pass j.founds ≡ true
  all_passed j = passes_if_none cs j.founds (judged_length m [] cs j.founds j.judged) ∙ ap is_none (sym j.refused_is)

  pub pass_in_turn : IsJudged m cs ws None → PassInTurn m cs
  pass_in_turn j = (j.founds, j.judged, all_passed j)

-- each command of an atomic push that is to be updated may be set
pub to_be_set : (t : SessionText) → IsSession t → t.stage ≡ Migrated → t.atomic ≡ true → AreToBeSet t.commands
to_be_set t session stage atomic =
    let parts = subst (λ (x : Stage). IsInStage t x) stage session.in_stage in
    all_to_be_set t.commands t.verdicts session.paired parts.0 (parts.2 atomic)

-- a session whose commands are all judged is one still
pub session_settled : (t : SessionText) (m : RefMap) (ws : List Verdict) (told : Option (List ℕ × Reason)) → IsJudged m t.commands ws told → IsSession (record t { verdicts = ws; stage = Done })
session_settled t m ws told j = record {
  paired = ap length j.verdicts_are ∙ length_together j.founds ∙ judged_length m [] t.commands j.founds j.judged;
  in_stage = ap (λ (vs : List Verdict). list_any is_passing vs) j.verdicts_are ∙ settled_together j.founds;
}

-- ---- the step
module _ (old new : FileMap) (s : SessionText) (stage : s.stage ≡ Migrated) (atomic : s.atomic ≡ true) (ws : List Verdict) where
  -- if one has a cause of its own, no file has changed
  pub step_refuses : (name : List ℕ) (reason : Reason) → IsJudged (refs old) s.commands ws (Some (name, reason)) → new ≡ old → StepRefusesAll old new s (record s { verdicts = ws; stage = Done }) name reason
  step_refuses name reason j same =
      let first : first_refusal s.commands j.founds ≡ Some (name, reason) = sym j.refused_is in
      record {
        stage = stage;
        atomic = atomic;
        founds = j.founds;
        judged = j.judged;
        first = first;
        session = ap (λ (vs : List Verdict). record s { verdicts = vs; stage = Done }) (j.verdicts_are ∙ together_refused j.founds (some_refused s.commands j.founds (name, reason) first));
        files = same;
      }

  -- and if none has, all refs are set
  pub step_sets : (n : ℕ) → IsJudged (refs old) s.commands ws None → refs new ≡ with_new (refs old) s.commands → KeepsUnnamed (names_of s.commands) old new → n ≡ length s.commands
      → StepSetsAll old new s (record s { verdicts = ws; stage = Done }) n
  step_sets n j set rest count =
      let passed : all_pass j.founds ≡ true = all_passed (refs old) s.commands ws j in
      record {
        stage = stage;
        atomic = atomic;
        passed = (j.founds, j.judged, passed);
        refs_are = set;
        rest = rest;
        session = ap (λ (vs : List Verdict). record s { verdicts = vs; stage = Done }) (j.verdicts_are ∙ together_accepted s.commands j.founds (judged_length (refs old) [] s.commands j.founds j.judged) passed);
        count = count;
      }

-- ---- an early end
-- the refs are as they were
pub early_all : (old new : FileMap) (s : SessionText) → s.atomic ≡ true → refs new ≡ refs old → KeepsUnnamed (names_of s.commands) old new → EndsEarly old new s Migrated
early_all old new s atomic same rest = subst (λ (b : Bool). EndsUpdate b (names_of s.commands) old new) (sym atomic) (same, rest)

-- and no file has changed
pub early_same : (old new : FileMap) (s : SessionText) → s.atomic ≡ true → new ≡ old → EndsEarly old new s Migrated
early_same old new s atomic same =
    early_all old new s atomic (ap refs same) (record { only = λ path other beside. ap (λ (m : FileMap). files.get m path) same; outside = keeps_same old new same })
