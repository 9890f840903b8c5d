-- What is printed of a push.
use Rattle.std.specs.Result.{is_ok}
use Rattle.std.specs.Prelude.{ℕ, Bool, List, [], ◌∷◌, ◌++◌, Result, Ok, Err}
use Rattle.vc_object.specs.declared.id.ObjectId.{ObjectId}
use Rattle.vc_push.specs.declared.report.Told.{Told}
use Rattle.vc_push.specs.Report.{ToldText, ng_text, ok_text}

-- `ok` and the ref, or `ng`, the ref and the reason, each with a line feed
abbrev pub outcome_line : List ℕ → Result ObjectId (List ℕ) → List ℕ
outcome_line name (Ok id) = ok_text name ++ 10 ∷ []
outcome_line name (Err reason) = ng_text name reason ++ 10 ∷ []

abbrev pub told_line : ToldText → List ℕ
told_line told = outcome_line told.name told.outcome

-- the shared node did what the command asks for
abbrev pub is_accepted : Told → Bool
is_accepted told = is_ok told.outcome
