-- Commands with their verdicts, as a session has them and as the machine does.
use Rattle.std.proofs.Common.{◌≡◌, inl, inr, ℕ, suc, Bool, true, false, cond, ◌||◌, ◌++◌, ◌+◌, List, [], ◌∷◌, length, drop, Some, None, Ok, Err, refl, ap, sym, ◌∙◌, slice_get}
use Rattle.std.specs.Prelude.{count_by}
use Rattle.std.specs.List.{fold, list_any}
use Rattle.std.proofs.lemmas.Bool.{or_parts, or_from}
use Rattle.vc_model.specs.Message.{Told}
use Rattle.vc_model.specs.Object.{Lookup}
use Rattle.vc_model.specs.Push as machine
use Rattle.vc_model.specs.Push.Stage.{Finished}
use Rattle.vc_model.specs.Shared as shared
use Rattle.vc_object.specs.ObjectMap.{ObjectMap}
use Rattle.vc_push.specs.Push.{CommandText}
use Rattle.vc_push.specs.Reason.{reason_number}
use Rattle.vc_push.specs.Report.{ToldText}
use Rattle.vc_push.specs.declared.reason.Reason.{Reason}
use Rattle.vc_push.specs.declared.reason.Reason.TheVariants.{BadName, OutsideRefs, DeletionProhibited, MissingObjects, NotACommit, NonFastForward, AlreadyExists, NameConflict, Stale, UnpackerError, AtomicFailure}
use Rattle.vc_push_rules.specs.Session.{is_passing, stage_while}
use Rattle.vc_push_rules.specs.Steps.{Checks, ChecksAll, Tells, TellsAll}
use Rattle.vc_push_rules.specs.declared.stage.Stage.{Stage}
use Rattle.vc_push_rules.specs.declared.stage.Stage.TheVariants.{Done as AtItsEnd}
use Rattle.vc_push_rules.specs.declared.stage.Verdict.{Verdict}
use Rattle.vc_push_rules.specs.declared.stage.Verdict.TheVariants.{Passing, Accepted, Refused}
use Rattle.vc_rules.specs.Git.{git}
use Rattle.vc_rules.specs.OpenPushes.{AreToldAs, IsToldAs, judged_commands, machine_stage, machine_standing}
use Rattle.vc_rules.specs.Verdicts.{AreFoundAt, machine_command, machine_reason}
use Rattle.vc_rules.proofs.VerdictLaws.{checks_agree}

-- ---- those that pass
pub passes : (c : CommandText) (v : Verdict) → machine.is_passing (record { command = machine_command c; verdict = machine_standing v }) ≡ is_passing v
passes c Passing = refl
passes c Accepted = refl
passes c (Refused r) = refl

pub less : (m n : ℕ) → suc m ≡ suc n → m ≡ n
less m n e = cc

pub any_judged : (cs : List CommandText) (vs : List Verdict) → length vs ≡ length cs → list_any machine.is_passing (judged_commands cs vs) ≡ list_any is_passing vs
any_judged [] [] e = refl
any_judged [] (v ∷ vs) e = absurd (cc e)
any_judged (c ∷ cs) [] e = refl
any_judged (c ∷ cs) (v ∷ vs) e =
    ap (λ b. b || list_any machine.is_passing (judged_commands cs vs)) (passes c v) ∙ ap (λ b. is_passing v || b) (any_judged cs vs (less (length vs) (length cs) e))

count_from : (n : ℕ) (cs : List CommandText) (vs : List Verdict) → length vs ≡ length cs
    → fold (λ m j. m + cond (machine.is_passing j) 1 0) n (judged_commands cs vs) ≡ fold (λ m v. m + cond (is_passing v) 1 0) n vs
count_from n [] [] e = refl
count_from n [] (v ∷ vs) e = absurd (cc e)
count_from n (c ∷ cs) [] e = refl
count_from n (c ∷ cs) (v ∷ vs) e =
    ap (λ b. fold (λ m j. m + cond (machine.is_passing j) 1 0) (n + cond b 1 0) (judged_commands cs vs)) (passes c v)
    ∙ count_from (n + cond (is_passing v) 1 0) cs vs (less (length vs) (length cs) e)

pub count_judged : (cs : List CommandText) (vs : List Verdict) → length vs ≡ length cs → count_by machine.is_passing (judged_commands cs vs) ≡ count_by is_passing vs
count_judged cs vs e = count_from 0 cs vs e

-- where none passes
pub none_judged : (cs : List CommandText) (vs : List Verdict) → list_any is_passing vs ≡ false → list_any machine.is_passing (judged_commands cs vs) ≡ false
none_judged [] vs e = refl
none_judged (c ∷ cs) [] e = refl
none_judged (c ∷ cs) (v ∷ vs) e =
    let none = or_parts (is_passing v) (list_any is_passing vs) e in
    or_from _ _ (passes c v ∙ none.0) (none_judged cs vs none.1)

-- the stage is the same
pub stage_judged : (cs : List CommandText) (vs : List Verdict) (stage : Stage) → length vs ≡ length cs → machine.stage_while (judged_commands cs vs) (machine_stage stage) ≡ machine_stage (stage_while vs stage)
stage_judged cs vs stage e = ap (λ b. cond b (machine_stage stage) Finished) (any_judged cs vs e) ∙ by (list_any is_passing vs)
  where
    by : (b : Bool) → cond b (machine_stage stage) Finished ≡ machine_stage (cond b stage AtItsEnd)
    by true = refl
    by false = refl

-- ---- one in its place
pub split_judged : (cs : List CommandText) (front : List Verdict) (v : Verdict) (back : List Verdict) (c : CommandText) → slice_get cs (length front) ≡ Some c
    → judged_commands cs (front ++ v ∷ back) ≡ judged_commands cs front ++ record { command = machine_command c; verdict = machine_standing v } ∷ judged_commands (drop (suc (length front)) cs) back
split_judged [] front v back c e = absurd (cc e)
split_judged (d ∷ cs) [] v back c e =
    let same : d ≡ c = cc in
    ap (λ (x : CommandText). record { command = machine_command x; verdict = machine_standing v } ∷ judged_commands cs back) same
split_judged (d ∷ cs) (w ∷ front) v back c e = ap (λ js. record { command = machine_command d; verdict = machine_standing w } ∷ js) (split_judged cs front v back c e)

-- ---- the check
module _ (objects : ObjectMap) (at : Lookup) (found : AreFoundAt objects at) where
  checks : (c : CommandText) (v w : Verdict) → Checks objects c v w → machine.Checks git at (machine_command c) (machine_standing v) (machine_standing w)
  checks c Passing Passing h = checks_agree objects at c None found h
  checks c Passing (Refused r) h = checks_agree objects at c (Some r) found h
  checks c Passing Accepted h = h
  checks c Accepted w h = ap machine_standing h
  checks c (Refused r) w h = ap machine_standing h

  pub checks_all : (cs : List CommandText) (vs ws : List Verdict) → ChecksAll objects cs vs ws → machine.ChecksAll git at (judged_commands cs vs) (judged_commands cs ws)
  checks_all [] [] [] h = tt
  checks_all [] [] (w ∷ ws) h = absurd h
  checks_all [] (v ∷ vs) ws h = absurd h
  checks_all (c ∷ cs) [] ws h = absurd h
  checks_all (c ∷ cs) (v ∷ vs) [] h = absurd h
  checks_all (c ∷ cs) (v ∷ vs) (w ∷ ws) h = (refl, checks c v w h.0, checks_all cs vs ws h.1)

-- ---- the end
number : (r : Reason) → reason_number r ≡ machine.reason_number (machine_reason r)
number BadName = refl
number OutsideRefs = refl
number DeletionProhibited = refl
number MissingObjects = refl
number NotACommit = refl
number NonFastForward = refl
number AlreadyExists = refl
number NameConflict = refl
number Stale = refl
number UnpackerError = refl
number AtomicFailure = refl

tells : (c : CommandText) (v : Verdict) (text : ToldText) → Tells c v text → (t : Told) × shared.Tells (record { command = machine_command c; verdict = machine_standing v }) t × IsToldAs text t
tells c Passing text h = absurd h
tells c Accepted text h = (record { name = c.name; outcome = Ok c.new.0 }, (refl, inl (refl, refl)), (sym (ap (λ (x : ToldText). x.name) h), inl (c.new, ap (λ (x : ToldText). x.outcome) h, refl)))
tells c (Refused r) text h = (
  record { name = c.name; outcome = Err (reason_number r) },
  (refl, inr (machine_reason r, refl, ap Err (number r))),
  (sym (ap (λ (x : ToldText). x.name) h), inr (r, ap (λ (x : ToldText). x.outcome) h, refl)),
)

pub tells_all : (cs : List CommandText) (vs : List Verdict) (texts : List ToldText) → TellsAll cs vs texts → (told : List Told) × shared.TellsAll (judged_commands cs vs) told × AreToldAs texts told
tells_all [] [] [] h = ([], tt, tt)
tells_all [] [] (t ∷ ts) h = absurd h
tells_all [] (v ∷ vs) ts h = absurd h
tells_all (c ∷ cs) [] ts h = absurd h
tells_all (c ∷ cs) (v ∷ vs) [] h = absurd h
tells_all (c ∷ cs) (v ∷ vs) (t ∷ ts) h =
    let one = tells c v t h.0 in
    let rest = tells_all cs vs ts h.1 in
    (one.0 ∷ rest.0, (one.1, rest.1), (one.2, rest.2))
