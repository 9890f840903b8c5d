-- For what is told of a failure: its line, and a line behind it; what is handed on of a result, and which faults are a stream's.
use Rattle.std.proofs.Common.{◌≡◌, ℕ, List, ◌++◌, Option, Ok, Err, sym, subst}
use Rattle.std.specs.Prelude.{Result, IfErr, IsErrAnd, OnOk}
use Rattle.std.specs.Io.KnownBytes.{Appends}
use Rattle.std.proofs.KnownBytes.{Appends-trans}
use Rattle.vc_cli.specs.Failure.{IsFault, IsOfFiles, TellsOfFiles}
use Rattle.vc_cli.specs.Told.{failure_line}
use Rattle.vc_cli.specs.declared.failure.Failure.{Failure}
use Rattle.vc_cli.specs.declared.failure.Failure.TheVariants.{Fault}

-- what is appended after a line stands after it
pub told_behind : (text : List ℕ) (a b c : Option (List ℕ)) (rest : List ℕ) → Appends a b (failure_line text) → Appends b c rest → Appends a c (failure_line text ++ rest)
told_behind text a b c rest line behind = Appends-trans a b c (failure_line text) rest line behind

-- a failure that is handed on
pub handed_on : {T : Type 0} (P : Failure → Type 0) (failure : Failure) (r : Result T Failure) → IsErrAnd r (λ e. e ≡ failure) → P failure → IfErr r P
handed_on P failure (Ok x) is told = tt
handed_on P failure (Err e) is told = subst P (sym is) told

-- what follows from a fact of an `Ok` holds of it, too
pub OnOk-map : {T E A B : Type 0} (r : Result T E) → (A → B) → OnOk r A → OnOk r B
OnOk-map (Ok x) f h = f h
OnOk-map (Err e) f h = tt

-- a fault of a stream is none of the files'
apart : (e : Failure) → IsFault e → IsOfFiles e → ⊥
apart (Fault fault) is of = of
apart _ is of = is

pub told_apart : {T : Type 0} (r : Result T Failure) → IfErr r IsFault → TellsOfFiles r → ⊥
told_apart (Ok x) is of = of
told_apart (Err e) is of = apart e is of
