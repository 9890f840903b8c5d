-- What a repository over files holds.
use Rattle.std.specs.Prelude.{◌≡◌, ⊤, ℕ, option_map}
use Rattle.std.specs.FinMap as paths
use Rattle.vc_files.specs.FileMap.{FileMap}
use Rattle.vc_index.specs.IndexMap.{IndexMap}
use Rattle.vc_index.specs.declared.entry.IndexEntry.{IndexEntry}
use Rattle.vc_object.specs.declared.id.ObjectId.{ObjectId}
use Rattle.vc_refs.specs.Head.{head_of, head_value}
use Rattle.vc_refs.specs.RefFault.{BlamesHeadValue, BlamesRef, IsGoodHeadValue}
use Rattle.vc_refs.specs.Refs.{IsBadRef, deciding_file, refs}
use Rattle.vc_refs.specs.declared.faults.RefFault.{RefFault}
use Rattle.vc_repository.specs.Faults.{of_refs}
use Rattle.vc_rev.specs.Question.{Question, Head, Ref, Entry, Prefix, Object}
use Rattle.vc_rev.specs.Source.{Names}
use Rattle.vc_rev.specs.declared.refusal.SourceFault.{SourceFault}
use Rattle.vc_rev.specs.declared.refusal.SourceFault.TheVariants.{Store}
use Rattle.vc_object_map.specs.Store.{HasFile, IsDamaged}
use Rattle.vc_object_map.specs.StoreFault.{IsFault, IsRefused}
use Rattle.vc_object_map.specs.declared.faults.StoreFault.{StoreFault}

-- the reference by which the files were lent, the files, and the index
pub record State : Type 0 where
  pub lender : ℕ
  pub content : FileMap
  pub index : IndexMap

abbrev pub state : ℕ → FileMap → IndexMap → State
state lender content index = record { lender = lender; content = content; index = index }

-- the refs and HEAD that the files spell, and the ids of the index
abbrev pub names_in : State → Names
names_in s = record {
  ref = refs s.content;
  head = head_value (refs s.content) (head_of s.content);
  index = λ path. option_map (λ (entry : IndexEntry). entry.id) (paths.get s.index path);
}

-- a file stands in the place of the object with that name
abbrev pub HasFileIn : State → ObjectId → Type 0
HasFileIn s id = HasFile s.content id

-- what has to be read to answer the question is in its form: HEAD and the ref that it names, the ref, the object
abbrev pub IsGood : State → Question → Type 0
IsGood s Head = IsGoodHeadValue s.content
IsGood s (Ref name) = IsBadRef s.content (deciding_file s.content name) → ⊥
IsGood s (Entry path) = ⊤
IsGood s (Prefix digits) = ⊤
IsGood s (Object id) = IsDamaged s.content id → ⊥

-- a fault of a look at refs, and one of a look at the store, as a repository's
abbrev pub IsOfRefs : (RefFault → Type 0) → SourceFault → Type 0
IsOfRefs Blames fault = (e : RefFault) × Blames e × (fault ≡ of_refs e)

abbrev pub IsOfStore : (StoreFault → Type 0) → SourceFault → Type 0
IsOfStore Blames fault = (e : StoreFault) × Blames e × (fault ≡ Store e)

-- The fault has its cause in a file that has to be read to answer the question: HEAD's or that of the branch that it names,
-- the one that says the ref's value, the object's own. The index was read before, so it answers without a fault, and a listing of names reads no
-- file. A fault of memory or device needs no cause in the files.
abbrev pub IsCause : State → Question → SourceFault → Type 0
IsCause s Head fault = IsOfRefs (BlamesHeadValue s.content) fault
IsCause s (Ref name) fault = IsOfRefs (BlamesRef s.content name) fault
IsCause s (Entry path) fault = ⊥
IsCause s (Prefix digits) fault = IsOfStore IsFault fault
IsCause s (Object id) fault = IsOfStore (IsRefused id (IsDamaged s.content id)) fault
