-- When a call on refs succeeds, and what each refusal blames.
use Rattle.std.specs.Prelude.{◌≡◌, ◌≢◌, ◌⊎◌, ⊤, ℕ, true, List, Option, Some, IsSome, is_some, Result, IsErrOf, codes, string_bytes}
use Rattle.std.specs.Ordering.{nat_cmp}
use Rattle.std.specs.declared.cmp.Ordering.TheVariants.{Greater}
use Rattle.std.specs.Cmp.Lexicographic.{slice_cmp}
use Rattle.vc_files.specs.FileMap.{FileMap}
use Rattle.vc_files.specs.declared.faults.Fault.TheVariants.{Device, Memory}
use Rattle.vc_object.specs.declared.id.ObjectId.{ObjectId}
use Rattle.vc_refs.specs.Head.{IsHeadLoop, IsBadHead, head_of}
use Rattle.vc_refs.specs.Refs.{packed_path, refs, deciding_file, IsBadLoose, IsBadPackedFile, IsGoodPackedFile, IsBadRef, SpellsRefs}
use Rattle.vc_refs.specs.Obstacle.{IsFirstInTheWay, IsFree}
use Rattle.vc_refs.specs.RefMap.{RefMap, is_ref, IsFirstFolder}
use Rattle.vc_refs.specs.declared.heads.Head.TheVariants.{Branch}
use Rattle.vc_refs.specs.declared.faults.RefFault.{RefFault}
use Rattle.vc_refs.specs.declared.faults.RefFault.TheVariants.{Stale, Conflict, BadRefFile, HeadLoop, Fault}

-- a look at the packed file is refused for that file
abbrev pub BlamesPacked : FileMap → RefFault → Type 0
BlamesPacked content (Stale current) = ⊥
BlamesPacked content (Conflict other) = ⊥
BlamesPacked content (BadRefFile path) = (string_bytes path ≡ packed_path) × IsBadPackedFile content
BlamesPacked content HeadLoop = ⊥
BlamesPacked content (Fault fault) = ⊤

-- a look at one ref is refused for the file that decides
abbrev pub BlamesRef : FileMap → List ℕ → RefFault → Type 0
BlamesRef content name (Stale current) = ⊥
BlamesRef content name (Conflict other) = ⊥
BlamesRef content name (BadRefFile path) = (string_bytes path ≡ deciding_file content name) × IsBadRef content (string_bytes path)
BlamesRef content name HeadLoop = ⊥
BlamesRef content name (Fault fault) = ⊤

-- want of memory, or a device that failed
abbrev pub IsFault : RefFault → Type 0
IsFault (Stale current) = ⊥
IsFault (Conflict other) = ⊥
IsFault (BadRefFile path) = ⊥
IsFault HeadLoop = ⊥
IsFault (Fault fault) = ⊤

-- it answers by the device's fault
abbrev pub TellsDevice : {T : Type 0} → Result T RefFault → Type 0
TellsDevice result = IsErrOf result (Fault Device)

-- the ref may be changed: its value is the expected one, and the packed file and its own can be read
pub record HasExpected (content : FileMap) (name : List ℕ) (expected : Option ObjectId) : Type 0 where
  pub packed : IsGoodPackedFile content
  pub current : refs content name ≡ expected
  pub good : IsBadLoose content name → ⊥

-- the ref may be set: besides, nothing stands in its way
pub record MaySet (content : FileMap) (name : List ℕ) (expected : Option ObjectId) : Type 0 where
  pub free : IsFree content name
  pub value : HasExpected content name expected

-- a set may write: the name is legal, and the ref may be set
abbrev pub MayWriteRef : FileMap → List ℕ → Option ObjectId → Type 0
MayWriteRef content name expected = (is_ref name ≡ true) × MaySet content name expected

-- a removal may write: a value is expected, and the ref has it
abbrev pub MayRemoveRef : FileMap → List ℕ → Option ObjectId → Type 0
MayRemoveRef content name expected = IsSome expected × HasExpected content name expected

-- the value is another than the expected one, and the packed file and its own can be read
pub record IsStale (content : FileMap) (name : List ℕ) (expected current : Option ObjectId) : Type 0 where
  pub packed : IsGoodPackedFile content
  pub is : refs content name ≡ current
  pub other : current ≢ expected
  pub good : IsBadLoose content name → ⊥

-- the packed file comes first, and then the ref's own file or value
abbrev pub BlamesRemove : FileMap → List ℕ → Option ObjectId → RefFault → Type 0
BlamesRemove content name expected (Stale current) = IsStale content name expected current
BlamesRemove content name expected (Conflict other) = ⊥
BlamesRemove content name expected (BadRefFile path) = ((string_bytes path ≡ packed_path) × IsBadPackedFile content) ⊎ (IsGoodPackedFile content × (string_bytes path ≡ name) × IsBadLoose content name)
BlamesRemove content name expected HeadLoop = ⊥
BlamesRemove content name expected (Fault fault) = ⊤

-- between the two comes what stands in the way: a ref there is a conflict, another file a bad one
abbrev pub BlamesSet : FileMap → List ℕ → Option ObjectId → RefFault → Type 0
BlamesSet content name expected (Stale current) = IsFree content name × IsStale content name expected current
BlamesSet content name expected (Conflict other) = IsGoodPackedFile content × IsFirstInTheWay content name other × (is_some (refs content other) ≡ true)
BlamesSet content name expected (BadRefFile path) =
    ((string_bytes path ≡ packed_path) × IsBadPackedFile content)
    ⊎ (IsGoodPackedFile content × IsBadLoose content (string_bytes path) × (IsFirstInTheWay content name (string_bytes path) ⊎ ((string_bytes path ≡ name) × IsFree content name)))
BlamesSet content name expected HeadLoop = ⊥
BlamesSet content name expected (Fault fault) = ⊤

-- the packed file comes first, and then what stands in the way
abbrev pub BlamesObstacle : FileMap → List ℕ → RefFault → Type 0
BlamesObstacle content name (Stale current) = ⊥
BlamesObstacle content name (Conflict other) = IsGoodPackedFile content × IsFirstInTheWay content name other × (is_some (refs content other) ≡ true)
BlamesObstacle content name (BadRefFile path) = ((string_bytes path ≡ packed_path) × IsBadPackedFile content) ⊎ (IsGoodPackedFile content × IsBadLoose content (string_bytes path) × IsFirstInTheWay content name (string_bytes path))
BlamesObstacle content name HeadLoop = ⊥
BlamesObstacle content name (Fault fault) = ⊤

-- the first file of the refs that can't be read, by the bytes of the path
pub record IsFirstBadRef (content : FileMap) (path : List ℕ) : Type 0 where
  pub bad : IsBadRef content path
  pub first : (q : List ℕ) → IsBadRef content q → slice_cmp nat_cmp path q ≢ Greater

-- a listing is refused for the first bad file
abbrev pub BlamesList : FileMap → RefFault → Type 0
BlamesList content (Stale current) = ⊥
BlamesList content (Conflict other) = ⊥
BlamesList content (BadRefFile path) = IsFirstBadRef content (string_bytes path)
BlamesList content HeadLoop = ⊥
BlamesList content (Fault fault) = ⊤

-- refs are kept apart: the first that is a folder of another is a conflict; or memory is short
abbrev pub BlamesFolder : RefMap → RefFault → Type 0
BlamesFolder refs (Stale current) = ⊥
BlamesFolder refs (Conflict other) = IsFirstFolder refs other
BlamesFolder refs (BadRefFile path) = ⊥
BlamesFolder refs HeadLoop = ⊥
BlamesFolder refs (Fault fault) = fault ≡ Memory

-- a packing is refused for the first bad file, and, if there is none, for the first ref that is a folder of another
abbrev pub BlamesPacking : FileMap → RefFault → Type 0
BlamesPacking content (Stale current) = ⊥
BlamesPacking content (Conflict other) = SpellsRefs content × IsFirstFolder (refs content) other
BlamesPacking content (BadRefFile path) = IsFirstBadRef content (string_bytes path)
BlamesPacking content HeadLoop = ⊥
BlamesPacking content (Fault fault) = ⊤

-- HEAD can be read, or it isn't there
pub record IsGoodHead (content : FileMap) : Type 0 where
  pub good : IsBadHead content → ⊥
  pub ends : IsHeadLoop content → ⊥

-- a look at HEAD is refused for its own file
abbrev pub BlamesHead : FileMap → RefFault → Type 0
BlamesHead content (Stale current) = ⊥
BlamesHead content (Conflict other) = ⊥
BlamesHead content (BadRefFile path) = (string_bytes path ≡ codes "HEAD") × IsBadHead content
BlamesHead content HeadLoop = IsHeadLoop content
BlamesHead content (Fault fault) = ⊤

-- a look at the ref that HEAD names is refused for HEAD's own file, or for the file that decides for that ref
abbrev pub BlamesHeadValue : FileMap → RefFault → Type 0
BlamesHeadValue content (Stale current) = ⊥
BlamesHeadValue content (Conflict other) = ⊥
BlamesHeadValue content (BadRefFile path) =
    ((string_bytes path ≡ codes "HEAD") × IsBadHead content)
    ⊎ ((name : List ℕ) × (head_of content ≡ Some (Branch name)) × (string_bytes path ≡ deciding_file content name) × IsBadRef content (string_bytes path))
BlamesHeadValue content HeadLoop = IsHeadLoop content
BlamesHeadValue content (Fault fault) = ⊤

-- HEAD can be read, and so can the ref that it names
pub record IsGoodHeadValue (content : FileMap) : Type 0 where
  pub head : IsGoodHead content
  pub good : (name : List ℕ) → head_of content ≡ Some (Branch name) → IsBadRef content (deciding_file content name) → ⊥
