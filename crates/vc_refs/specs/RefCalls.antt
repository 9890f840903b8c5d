-- What the calls that change refs do to the files, said once, for the functions over files and for the view of them: `content` is
-- what the files hold.
use Rattle.std.specs.Prelude.{◌≡◌, ◌⊎◌, ℕ, List, Some, Result, IfErr, OnErr, OnOk, codes}
use Rattle.vc_files.specs.FileMap.{FileMap}
use Rattle.vc_object.specs.declared.id.ObjectId.{ObjectId}
use Rattle.vc_refs.specs.Head.{head_of, KeepsOutside, KeepsTheRest}
use Rattle.vc_refs.specs.Packing.{IsPackedFrom, UnpacksOnly}
use Rattle.vc_refs.specs.RefFault.{IsFault}
use Rattle.vc_refs.specs.RefMap.{IsRefMap, with_ref, without_ref}
use Rattle.vc_refs.specs.Refs.{deciding_file, refs, ChangesOnly, IsBadRef}
use Rattle.vc_refs.specs.declared.faults.RefFault.{RefFault}
use Rattle.vc_refs.specs.declared.heads.Head.{Head}

-- A ref is set: it has this value then, and each other ref the one that it had. No other file changes, names that may stand
-- together still may, and after an error all is as before.
pub record SetsRef {F : Type 0} (honest : Type 0) (content : F → FileMap) (name : List ℕ) (id : ObjectId) (old new : F) (result : Result (Unit {0}) RefFault) : Type 0 where
  pub set : honest → OnOk result (refs (content new) ≡ with_ref (refs (content old)) name id)
  pub kept : honest → IsRefMap (refs (content old)) → IsRefMap (refs (content new))
  pub rest : honest → KeepsTheRest name (content old) (content new)
  pub only : honest → ChangesOnly name (content old) (content new)
  pub err : honest → OnErr result (content new ≡ content old)

-- A ref is removed: it is there no more, and no bad file stands for it. Each other ref has the value that it had, the packed file
-- loses no other line, and after an error each ref is as before: a refusal changes no file, and a fault may leave the packed file
-- without a line that the ref's own file covers.
pub record RemovesRef {F : Type 0} (honest : Type 0) (content : F → FileMap) (name : List ℕ) (old new : F) (result : Result (Unit {0}) RefFault) : Type 0 where
  pub removed : honest → OnOk result (refs (content new) ≡ without_ref (refs (content old)) name)
  pub gone : honest → OnOk result (IsBadRef (content new) (deciding_file (content new) name) → ⊥)
  pub kept : honest → IsRefMap (refs (content old)) → IsRefMap (refs (content new))
  pub rest : honest → KeepsTheRest name (content old) (content new)
  pub unpacks : honest → UnpacksOnly name (content old) (content new)
  pub err : honest → OnErr result (refs (content new) ≡ refs (content old))
  pub unchanged : honest → IfErr result (λ e. IsFault e ⊎ (content new ≡ content old))

-- All refs go into the packed file: each is as before wherever that ends, nothing else changes, and a refusal writes nothing.
pub record PacksRefs {F : Type 0} (honest : Type 0) (content : F → FileMap) (old new : F) (result : Result (Unit {0}) RefFault) : Type 0 where
  pub packed : honest → OnOk result (IsPackedFrom (content old) (content new))
  pub kept : honest → refs (content new) ≡ refs (content old)
  pub rest : honest → KeepsOutside (content old) (content new)
  pub err : honest → IfErr result (λ e. IsFault e ⊎ (content new ≡ content old))

-- HEAD is set: its file alone changes, and no ref does; after an error all is as before.
pub record SetsHead {F : Type 0} (honest : Type 0) (content : F → FileMap) (head : Head) (old new : F) (result : Result (Unit {0}) RefFault) : Type 0 where
  pub set : honest → OnOk result (head_of (content new) ≡ Some head)
  pub refs : honest → refs (content new) ≡ refs (content old)
  pub only : honest → ChangesOnly (codes "HEAD") (content old) (content new)
  pub err : honest → OnErr result (content new ≡ content old)
