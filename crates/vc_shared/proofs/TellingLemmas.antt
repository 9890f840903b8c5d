-- A push whose commands can be told of has a report that is written, and is read as it was.
use Rattle.std.proofs.Common.{◌≡◌, ◌≢◌, ℕ, suc, ◌≤◌, ◌+◌, arith, List, [], ◌∷◌, length, map, Option, Some, None, refl, sym, ap, subst, get_or}
use Rattle.std.specs.Prelude.{codes, decimal}
use Rattle.std.specs.List.{AllByRecursion}
use Rattle.std.proofs.lemmas.Fmt.{length-decimal-le}
use Rattle.std.proofs.lemmas.List.{length-append}
use Rattle.std.proofs.lemmas.List.Elements.{All-from_recursion, recursion_from_All}
use Rattle.vc_object.specs.declared.fault.ObjectFault.{ObjectFault}
use Rattle.vc_object.specs.declared.fault.ObjectFault.TheVariants as object
use Rattle.vc_push.specs.Push.{CommandText}
use Rattle.vc_push.specs.Reason.{reason_text}
use Rattle.vc_push.specs.Report.{IsShortTold, IsShortUnpack, IsUnpackText, IsWrittenReport, IsWrittenTold, ReportText, ToldText, unpack_error}
use Rattle.vc_push.specs.ReportView.{report_text, told_of}
use Rattle.vc_push.specs.declared.reason.Reason.{Reason}
use Rattle.vc_push.specs.declared.reason.Reason.TheVariants as reason
use Rattle.vc_push.specs.declared.report.Told.{Told}
use Rattle.vc_push_rules.specs.Session.{SessionText}
use Rattle.vc_push_rules.specs.Steps.{IsReport, Tells, TellsAll, TellsReport, fault_number, unpack_of}
use Rattle.vc_push_rules.specs.declared.stage.Stepped.{Stepped as SessionStep}
use Rattle.vc_push_rules.specs.declared.stage.Stepped.TheVariants as session
use Rattle.vc_push_rules.specs.declared.stage.Verdict.{Verdict}
use Rattle.vc_push_rules.specs.declared.stage.Verdict.TheVariants.{Passing, Accepted, Refused}
use Rattle.vc_shared.specs.Slots.{AreToldInOne, IsTellable}
use Rattle.vc_shared.specs.Stepping.{HasShortReport}

-- ---- the first line
fault_small : (f : ObjectFault) → fault_number f ≤ 10
fault_small object.BadHeader = omega arith
fault_small object.BadSize = omega arith
fault_small object.TooLarge = omega arith
fault_small object.BadMode = omega arith
fault_small object.BadName = omega arith
fault_small object.NotSorted = omega arith
fault_small object.DuplicateName = omega arith
fault_small object.BadCommit = omega arith
fault_small object.BadTag = omega arith
fault_small object.Cut = omega arith

error_short : (n : ℕ) → n ≤ 10 → length (unpack_error n) ≤ 65508
error_short n small =
    let digits : length (decimal n) ≤ 2 = length-decimal-le 2 n (omega arith) (omega (arith, small)) (omega (arith, small)) in
    let whole : length (unpack_error n) ≡ 6 + length (decimal n) = length-append (codes "error ") (decimal n) in
    omega (arith, digits, whole)

error_no_ok : (n : ℕ) → unpack_error n ≢ codes "ok"
error_no_ok n is = let first : ◌≡◌ {A = ℕ} 101 111 = ap (λ (xs : List ℕ). get_or xs 0 0) is in omega (arith, first)

unpack_short : (f : Option ObjectFault) → IsShortUnpack (unpack_of f)
unpack_short None = tt
unpack_short (Some f) = error_short (fault_number f) (fault_small f)

unpack_told : (f : Option ObjectFault) → IsUnpackText (unpack_of f)
unpack_told None = tt
unpack_told (Some f) = error_no_ok (fault_number f)

-- ---- the others
reason_short : (r : Reason) → length (reason_text r) ≤ 32
reason_short reason.BadName = omega arith
reason_short reason.OutsideRefs = omega arith
reason_short reason.DeletionProhibited = omega arith
reason_short reason.MissingObjects = omega arith
reason_short reason.NotACommit = omega arith
reason_short reason.NonFastForward = omega arith
reason_short reason.AlreadyExists = omega arith
reason_short reason.NameConflict = omega arith
reason_short reason.Stale = omega arith
reason_short reason.UnpackerError = omega arith
reason_short reason.AtomicFailure = omega arith

told_written : (c : CommandText) (v : Verdict) (t : ToldText) → IsTellable c → Tells c v t → IsWrittenTold t
told_written c Accepted t h is = subst IsWrittenTold (sym is) (record { name = h.name; id = h.id; short = let short = h.short in omega (arith, short) })
told_written c (Refused r) t h is = subst IsWrittenTold (sym is) (record { name = h.name; id = tt; short = let short = h.short in omega (arith, short, reason_short r) })
told_written c Passing t h is = absurd is

all_written : (cs : List CommandText) (vs : List Verdict) (ts : List ToldText) → AllByRecursion IsTellable cs → TellsAll cs vs ts → AllByRecursion IsWrittenTold ts
all_written [] [] [] h tells = tt
all_written (c ∷ cs) (v ∷ vs) (t ∷ ts) h tells = (told_written c v t h.0 tells.0, all_written cs vs ts h.1 tells.1)
all_written [] [] (t ∷ ts) h tells = absurd tells
all_written [] (v ∷ vs) ts h tells = absurd tells
all_written (c ∷ cs) [] ts h tells = absurd tells
all_written (c ∷ cs) (v ∷ vs) [] h tells = absurd tells

as_many : (cs : List CommandText) (vs : List Verdict) (ts : List ToldText) → TellsAll cs vs ts → length ts ≡ length cs
as_many [] [] [] tells = refl
as_many (c ∷ cs) (v ∷ vs) (t ∷ ts) tells = ap suc (as_many cs vs ts tells.1)
as_many [] [] (t ∷ ts) tells = absurd tells
as_many [] (v ∷ vs) ts tells = absurd tells
as_many (c ∷ cs) [] ts tells = absurd tells
as_many (c ∷ cs) (v ∷ vs) [] tells = absurd tells

pub written_report : (s : SessionText) (report : ReportText) → IsReport s report → AreToldInOne s → IsWrittenReport report
written_report s report is h = record {
  unpack = subst IsUnpackText (sym is.unpack) (unpack_told s.fault);
  short = subst IsShortUnpack (sym is.unpack) (unpack_short s.fault);
  told = all_written s.commands s.verdicts report.told (recursion_from_All IsTellable s.commands h.each) is.told;
  few = let few = h.few in let many = as_many s.commands s.verdicts report.told is.told in omega (arith, few, many);
}

-- ---- as it is written
short_told : (ts : List Told) → AllByRecursion IsWrittenTold (map told_of ts) → AllByRecursion (λ t. IsShortTold (told_of t)) ts
short_told [] h = tt
short_told (t ∷ ts) h = (h.0.short, short_told ts h.1)

pub short_report : (s : SessionText) (did : SessionStep) → TellsReport s did → AreToldInOne s → HasShortReport did
short_report s (session.Checked n) tells h = tt
short_report s session.Migrated tells h = tt
short_report s (session.Updated name found) tells h = tt
short_report s (session.Atomic n) tells h = tt
short_report s (session.AtomicRefused name reason) tells h = tt
short_report s (session.Finished report) tells h =
    let written = written_report s (report_text report) tells h in
    (written.short, All-from_recursion (λ t. IsShortTold (told_of t)) report.told.items (short_told report.told.items written.told))
