-- What revisions and sets of them stand for over files, and why they may stand for nothing.
use Rattle.std.specs.Prelude.{◌≡◌, ◌↔◌, ⊤, ℕ, List, Result, Ok, Contains}
use Rattle.vc_files.specs.FileMap.{FileMap}
use Rattle.vc_files.specs.declared.faults.Fault.TheVariants.{Memory}
use Rattle.vc_object.specs.declared.id.ObjectId.{ObjectId}
use Rattle.vc_repository.specs.Resolving.{DenotesIn, IsOfExpr, over}
use Rattle.vc_repository.specs.State.{State, IsCause}
use Rattle.vc_expression.specs.Faults.{ExprError}
use Rattle.vc_expression.specs.Grammar.{ExprText, IsExpr}
use Rattle.vc_rev_set.specs.Selection.{Selection, SetGives, IsSelectedBy, IsToldOfSet, IsWalked}
use Rattle.vc_expression.specs.SetGrammar.{TermText, IsSet}
use Rattle.vc_expression.specs.SetReading.{SetError}
use Rattle.vc_rev.specs.declared.refusal.Refusal.{Refusal}
use Rattle.vc_rev.specs.declared.refusal.RevFault.{RevFault}
use Rattle.vc_object_map.specs.Store.{objects, IsDamaged}
use Rattle.vc_cli.specs.declared.failure.Failure.{Failure}
use Rattle.vc_cli.specs.declared.failure.Failure.TheVariants.{Syntax, Revision, Fault}

-- what a revision has over the files: a value, or a refusal
abbrev pub Denoted : FileMap → List ℕ → Result ObjectId Refusal → Type 0
Denoted content text answer = (e : ExprText) × IsExpr text e × DenotesIn content e answer

-- why a revision has no value: it is no expression; it is refused, or what must be read for it gives no answer; or memory runs out
abbrev pub IsOfRevision : FileMap → List ℕ → Failure → Type 0
IsOfRevision content text (Syntax fault) = ExprError text fault
IsOfRevision content text (Revision fault) = (e : ExprText) × IsExpr text e × IsOfExpr content e fault
IsOfRevision content text (Fault fault) = fault ≡ Memory
IsOfRevision content text _ = ⊥

-- the text is a set of terms, and the ids are those of the commits that it selects over the files
pub record IsSelected (content : FileMap) (text : List ℕ) (ids : List ObjectId) : Type 0 where
  pub terms : List TermText
  pub spelled : IsSet text terms
  pub s : State
  pub files : s.content ≡ content
  pub chosen : Selection
  pub gives : SetGives (over s) terms (Ok chosen)
  pub walked : IsWalked (objects content) chosen
  pub exact : (id : ObjectId) → Contains ids id ↔ IsSelectedBy (objects content) chosen id

-- what the repository answers for the set that the text is
abbrev pub IsToldOfTerms : FileMap → List ℕ → RevFault → Type 0
IsToldOfTerms content text fault = (terms : List TermText) × (s : State) × IsSet text terms × (s.content ≡ content) × IsToldOfSet (over s) (IsCause s) (IsDamaged content) terms fault

-- why a set selects nothing: it is no set; it is refused, or what must be read for it gives no answer; or a fault
abbrev pub IsOfTerms : FileMap → List ℕ → Failure → Type 0
IsOfTerms content text (Syntax fault) = SetError text fault
IsOfTerms content text (Revision fault) = IsToldOfTerms content text fault
IsOfTerms content text (Fault fault) = ⊤
IsOfTerms content text _ = ⊥
