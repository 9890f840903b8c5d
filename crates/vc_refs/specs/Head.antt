-- HEAD: the ref that is checked out, or an id.
use Rattle.std.specs.Prelude.{◌≡◌, ℕ, true, false, ◌&&◌, nat_eq, bytes_eq, List, [], ◌∷◌, ◌++◌, drop, Option, Some, None, if◌then◌else◌, codes, option_map, option_and_then}
use Rattle.std.specs.List.{starts_with}
use Rattle.std.specs.Str.{is_utf8}
use Rattle.std.specs.FinMap as files
use Rattle.vc_files.specs.FileMap.{FileMap}
use Rattle.vc_object.specs.declared.id.ObjectId.{ObjectId}
use Rattle.vc_refs.specs.RefFile.{without_lf, id_in, id_text}
use Rattle.vc_refs.specs.RefMap.{RefMap, IsInRefs, is_ref}
use Rattle.vc_refs.specs.Refs.{packed_path, IsBadRef}
use Rattle.vc_refs.specs.declared.heads.Head.{Head}
use Rattle.vc_refs.specs.declared.heads.Head.TheVariants as head
use Rattle.vc_refs.specs.declared.heads.HeadText.{HeadText}
use Rattle.vc_refs.specs.declared.heads.HeadText.TheVariants.{Says, NamesHead, SaysNothing}

-- an id, if the text spells one
abbrev pub id_said : Option ObjectId → HeadText
id_said (Some id) = Says (head.Id id)
id_said None = SaysNothing

-- a branch, if the name is a ref's
abbrev pub name_said : List ℕ → HeadText
name_said name =
    if bytes_eq name (codes "HEAD") then NamesHead
    else if is_ref name && is_utf8 name then Says (head.Branch name)
    else SaysNothing

-- `ref: ` and a legal name in `refs/`, or an id; the LF at the end may be missing
abbrev pub read_head : List ℕ → HeadText
read_head text = if starts_with nat_eq text (codes "ref: ") then name_said (without_lf (drop 5 text)) else id_said (id_in text)

abbrev pub said : HeadText → Option Head
said (Says h) = Some h
said NamesHead = None
said SaysNothing = None

-- what HEAD is, if its file is there and says it
unfoldable pub head_of : FileMap → Option Head
head_of content = option_and_then (λ text. said (read_head text)) (files.get content (codes "HEAD"))

-- HEAD names HEAD
abbrev pub IsHeadLoop : FileMap → Type 0
IsHeadLoop content = option_map read_head (files.get content (codes "HEAD")) ≡ Some NamesHead

-- HEAD's file is there, and says neither a ref nor an id
abbrev pub IsBadHead : FileMap → Type 0
IsBadHead content = option_map read_head (files.get content (codes "HEAD")) ≡ Some SaysNothing

-- the id that HEAD leads to, if its ref is there
abbrev pub head_value : RefMap → Option Head → Option ObjectId
head_value refs None = None
head_value refs (Some (head.Branch name)) = refs name
head_value refs (Some (head.Id id)) = Some id

-- what is written for HEAD
abbrev pub head_text : Head → List ℕ
head_text (head.Branch name) = codes "ref: " ++ (name ++ 10 ∷ [])
head_text (head.Id id) = id_text id

-- a branch in `refs/`, or any id
abbrev pub IsHeadInRefs : Head → Type 0
IsHeadInRefs (head.Branch name) = IsInRefs name
IsHeadInRefs (head.Id id) = Unit {0}

-- a ref's name, or any id
abbrev pub IsLegalHead : Head → Type 0
IsLegalHead (head.Branch name) = is_ref name ≡ true
IsLegalHead (head.Id id) = Unit {0}

-- ---- what a change of refs keeps

-- all that lies outside `refs/` but for the packed file, and HEAD, are as before, and no file is bad that wasn't
pub record KeepsOutside (old new : FileMap) : Type 0 where
  pub at : (path : List ℕ) → starts_with nat_eq path (codes "refs/") ≡ false → bytes_eq path packed_path ≡ false → files.get new path ≡ files.get old path
  pub head : head_of new ≡ head_of old
  pub good : (path : List ℕ) → IsBadRef new path → IsBadRef old path

-- so they are after a change of this ref, and each other file in `refs/`, too
pub record KeepsTheRest (name : List ℕ) (old new : FileMap) : Type 0 where
  pub only : (path : List ℕ) → bytes_eq path name ≡ false → bytes_eq path packed_path ≡ false → files.get new path ≡ files.get old path
  pub outside : KeepsOutside old new
