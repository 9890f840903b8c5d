-- How many steps an open push still takes: for the loop that steps it to its end.
use Rattle.std.proofs.Common.{◌≡◌, ◌≤◌, ◌<◌, ◌+◌, ◌++◌, ◌||◌, ℕ, Bool, true, false, List, [], ◌∷◌, length, Option, Some, None, arith, refl, sym, ap, ◌∙◌, subst, true≢false}
use Rattle.std.specs.Prelude.{cond, count_by, sum_by, if◌then◌else◌}
use Rattle.std.specs.List.{list_any}
use Rattle.std.proofs.lemmas.List.Sums.{count_by-le-length, sum_by-append}
use Rattle.vc_files.specs.FileMap.{FileMap}
use Rattle.vc_push_rules.specs.Session.{IsInStage, IsSession, SessionText, is_passing, stage_while, verdict_of}
use Rattle.vc_push_rules.specs.Steps.{Steps}
use Rattle.vc_push_rules.specs.declared.stage.Stage.{Stage}
use Rattle.vc_push_rules.specs.declared.stage.Stage.TheVariants.{Unpacked, Checked, Migrated, Done}
use Rattle.vc_push_rules.specs.declared.stage.Verdict.{Verdict}
use Rattle.vc_push_rules.specs.declared.stage.Verdict.TheVariants.{Passing}
use Rattle.vc_push_rules.specs.declared.stage.Stepped.{Stepped}
use Rattle.vc_push_rules.specs.declared.stage.Stepped.TheVariants as session
use Rattle.vc_push_rules.proofs.VerdictLemmas.{settled_verdict}
use Rattle.vc_push.specs.declared.reason.Reason.{Reason}

-- so many at most, its report among them
abbrev left_at : Stage → ℕ → ℕ → ℕ
left_at Unpacked commands passing = commands + 3
left_at Checked commands passing = passing + 2
left_at Migrated commands passing = passing + 1
left_at Done commands passing = 1

abbrev pub session_left : SessionText → ℕ
session_left s = left_at s.stage (length s.commands) (count_by is_passing s.verdicts)

-- in an empty slot it is the one that is refused
abbrev pub steps_left : Option SessionText → ℕ
steps_left None = 1
steps_left (Some s) = session_left s

some_left : (stage : Stage) (commands passing : ℕ) → 1 ≤ left_at stage commands passing
some_left Unpacked commands passing = omega arith
some_left Checked commands passing = omega arith
some_left Migrated commands passing = omega arith
some_left Done commands passing = omega arith

-- the step before the report is the last but one
pub one_left : (slot : Option SessionText) → 1 ≤ steps_left slot
one_left None = omega arith
one_left (Some s) = some_left s.stage _ _

at_most : (stage : Stage) (commands passing : ℕ) → passing ≤ commands → left_at stage commands passing ≤ commands + 3
at_most Unpacked commands passing few = omega arith
at_most Checked commands passing few = omega (arith, few)
at_most Migrated commands passing few = omega (arith, few)
at_most Done commands passing few = omega arith

-- a push has a check, the storing of what it carries, an update of each command, and a report
pub few_left : (s : SessionText) → IsSession s → session_left s ≤ length s.commands + 3
few_left s is = at_most s.stage _ _ (omega (arith, count_by-le-length is_passing s.verdicts, is.paired))

-- ---- a stage that is passed over
passed_over : (passes : Bool) (stage : Stage) (commands passing : ℕ) → left_at (if passes then stage else Done) commands passing ≤ left_at stage commands passing
passed_over true stage commands passing = omega arith
passed_over false stage commands passing = some_left stage commands passing

-- ---- an update

one_fewer : (front back : List Verdict) (found : Option Reason) → count_by is_passing (front ++ Passing ∷ back) ≡ count_by is_passing (front ++ verdict_of found ∷ back) + 1
one_fewer front back found =
    let count : Verdict → ℕ = λ v. cond (is_passing v) 1 0 in
    let before = sum_by-append count front (Passing ∷ back) in
    let next = sum_by-append count (Passing ∷ []) back in
    let after = sum_by-append count front (verdict_of found ∷ back) in
    let last = sum_by-append count (verdict_of found ∷ []) back in
    let none : sum_by count (verdict_of found ∷ []) ≡ 0 = ap (λ (b : Bool). 0 + cond {A = ℕ} b 1 0) (settled_verdict found) in
    omega (arith, before, next, after, last, none)

-- ---- a step
-- each step but the last leaves fewer
abbrev pub IsBefore : Stepped → Type 0
IsBefore (session.Finished report) = ⊥
IsBefore _ = Unit {0}

-- one passes at least
some_passing : (vs : List Verdict) → list_any is_passing vs ≡ true → 1 ≤ count_by is_passing vs
some_passing [] h = absurd (true≢false (sym h))
some_passing (v ∷ vs) h = by (some_passing vs) (is_passing v) refl
  where
    by : (list_any is_passing vs ≡ true → 1 ≤ count_by is_passing vs) → (b : Bool) → is_passing v ≡ b → 1 ≤ count_by is_passing (v ∷ vs)
    by more true e =
        let count : Verdict → ℕ = λ w. cond (is_passing w) 1 0 in
        let split = sum_by-append count (v ∷ []) vs in
        let first : sum_by count (v ∷ []) ≡ 1 = ap (λ (b : Bool). 0 + cond {A = ℕ} b 1 0) e in
        omega (arith, split, first)
    by more false e =
        let count : Verdict → ℕ = λ w. cond (is_passing w) 1 0 in
        let split = sum_by-append count (v ∷ []) vs in
        let others = more (ap (λ (b : Bool). b || list_any is_passing vs) (sym e) ∙ h) in
        omega (arith, split, others)

-- once all commands of an atomic push are judged the report alone is left; one passed before, so more than that was
settled_left : (s t : SessionText) (verdicts : List Verdict) → IsSession s → s.stage ≡ Migrated → t ≡ record s { verdicts = verdicts; stage = Done } → session_left t < session_left s
settled_left s t verdicts is stage settled =
    let parts = subst (λ (x : Stage). IsInStage s x) stage is.in_stage in
    let was : session_left s ≡ count_by is_passing s.verdicts + 1 = ap (λ g. left_at g (length s.commands) (count_by is_passing s.verdicts)) stage in
    let now : session_left t ≡ 1 = ap session_left settled in
    omega (arith, was, now, some_passing s.verdicts parts.1)

pub fewer_left : (old new : FileMap) (s t : SessionText) (did : Stepped) → IsSession s → IsSession t → Steps old new s t did → IsBefore did → session_left t < session_left s
fewer_left old new s t (session.Checked n) was_one is h before =
    let stage : t.stage ≡ stage_while t.verdicts Checked = ap (λ (u : SessionText). u.stage) h.session in
    let commands : t.commands ≡ s.commands = ap (λ (u : SessionText). u.commands) h.session in
    let was : session_left s ≡ length s.commands + 3 = ap (λ g. left_at g (length s.commands) (count_by is_passing s.verdicts)) h.stage in
    let now : session_left t ≡ left_at (stage_while t.verdicts Checked) (length t.commands) (count_by is_passing t.verdicts) = ap (λ g. left_at g (length t.commands) (count_by is_passing t.verdicts)) stage in
    let same : length t.commands ≡ length s.commands = ap length commands in
    omega (arith, was, now, same, is.paired, count_by-le-length is_passing t.verdicts, passed_over (list_any is_passing t.verdicts) Checked (length t.commands) (count_by is_passing t.verdicts))
fewer_left old new s t session.Migrated was_one is h before =
    let was : session_left s ≡ count_by is_passing s.verdicts + 2 = ap (λ g. left_at g (length s.commands) (count_by is_passing s.verdicts)) h.stage in
    let now : session_left t ≡ count_by is_passing s.verdicts + 1 = ap session_left h.session in
    omega (arith, was, now)
fewer_left old new s t (session.Updated name found) was_one is h before =
    let stage : t.stage ≡ stage_while t.verdicts Migrated = ap (λ (u : SessionText). u.stage) h.session in
    let was : session_left s ≡ count_by is_passing s.verdicts + 1 = ap (λ g. left_at g (length s.commands) (count_by is_passing s.verdicts)) h.stage in
    let now : session_left t ≡ left_at (stage_while t.verdicts Migrated) (length t.commands) (count_by is_passing t.verdicts) = ap (λ g. left_at g (length t.commands) (count_by is_passing t.verdicts)) stage in
    let u = h.update in
    let fewer : count_by is_passing s.verdicts ≡ count_by is_passing t.verdicts + 1 =
    ap (λ vs. count_by is_passing vs) u.before ∙ one_fewer u.front u.back found ∙ ap (λ vs. count_by is_passing vs + 1) (sym u.after) in
    omega (arith, was, now, fewer, passed_over (list_any is_passing t.verdicts) Migrated (length t.commands) (count_by is_passing t.verdicts))
fewer_left old new s t (session.Atomic n) was_one is h before = settled_left s t _ was_one h.stage h.session
fewer_left old new s t (session.AtomicRefused name reason) was_one is h before = settled_left s t _ was_one h.stage h.session
fewer_left old new s t (session.Finished report) was_one is h before = absurd before
