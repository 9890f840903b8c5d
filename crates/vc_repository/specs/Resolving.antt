-- What an expression denotes over files, and why it may denote nothing.
use Rattle.std.specs.Prelude.{◌≡◌, ◌⊎◌, Result}
use Rattle.std.specs.FinMap as paths
use Rattle.vc_files.specs.FileMap.{FileMap}
use Rattle.vc_index.specs.IndexMap.{IndexMap}
use Rattle.vc_object.specs.declared.id.ObjectId.{ObjectId}
use Rattle.vc_repository.specs.IndexFile.{IsIndexOf, IsOfIndexFile}
use Rattle.vc_repository.specs.State.{State, names_in, HasFileIn, IsCause}
use Rattle.vc_rev.specs.Answer.{IsTold}
use Rattle.vc_rev.specs.Asking.{ExprAsks}
use Rattle.vc_expression.specs.Grammar.{ExprText, Object, InTree, InIndex}
use Rattle.vc_rev.specs.Meaning.{Denotes}
use Rattle.vc_rev.specs.Source.{Source as Over, source}
use Rattle.vc_rev.specs.declared.refusal.Refusal.{Refusal}
use Rattle.vc_rev.specs.declared.refusal.RevFault.{RevFault}
use Rattle.vc_rev.specs.declared.refusal.RevFault.TheVariants.{Source}
use Rattle.vc_rev.specs.declared.refusal.SourceFault.{SourceFault}
use Rattle.vc_object_map.specs.Store.{objects}

-- the index that an expression is resolved with: the one in its file, or an empty one where it reads none
abbrev pub IsIndexFor : FileMap → ExprText → IndexMap → Type 0
IsIndexFor content (InIndex path) index = IsIndexOf content index
IsIndexFor content (InTree rev path) index = index ≡ paths.empty
IsIndexFor content (Object rev) index = index ≡ paths.empty

-- why there is no such index: the file `index` spells none, or a fault
abbrev pub IsOfIndexFor : FileMap → ExprText → SourceFault → Type 0
IsOfIndexFor content (InIndex path) fault = IsOfIndexFile content fault
IsOfIndexFor content (InTree rev path) fault = ⊥
IsOfIndexFor content (Object rev) fault = ⊥

-- the refs, HEAD, the index and the objects that an expression is over
abbrev pub over : State → Over
over s = source (names_in s) (objects s.content) (HasFileIn s)

-- these are the files, and the index that the expression is over
pub record IsOver (content : FileMap) (e : ExprText) (s : State) : Type 0 where
  pub files : s.content ≡ content
  pub index : IsIndexFor content e s.index

-- what an expression has over the files: a value, or a refusal
abbrev pub DenotesIn : FileMap → ExprText → Result ObjectId Refusal → Type 0
DenotesIn content e answer = (s : State) × IsOver content e s × Denotes (over s) e answer

-- what the repository answers for the expression
abbrev pub IsToldIn : FileMap → ExprText → RevFault → Type 0
IsToldIn content e fault = (s : State) × IsOver content e s × IsTold (IsCause s) (ExprAsks (over s) e) (Denotes (over s) e) fault

-- what reading the index that the expression is over answers
abbrev pub IsToldOfIndex : FileMap → ExprText → RevFault → Type 0
IsToldOfIndex content e (Source fault) = IsOfIndexFor content e fault
IsToldOfIndex content e _ = ⊥

-- why an expression has no value: it is refused, or what must be read for it gives no answer; or a fault
abbrev pub IsOfExpr : FileMap → ExprText → RevFault → Type 0
IsOfExpr content e fault = IsToldIn content e fault ⊎ IsToldOfIndex content e fault
