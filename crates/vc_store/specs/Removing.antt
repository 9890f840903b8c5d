-- What a removal from a store answers and does, said once, for the function over files and for the view of them: `content` is what
-- the files hold.
use Rattle.std.specs.Prelude.{◌≡◌, ◌⊎◌, Bool, Result, IsSome, IfOk, IfErr, IsErrAnd, OnOk, OnErr, is_some, codes}
use Rattle.std.specs.FinMap as paths
use Rattle.vc_files.specs.FileMap.{FileMap, SameOutside}
use Rattle.vc_object.specs.declared.id.ObjectId.{ObjectId}
use Rattle.vc_object_map.specs.Removal.{without_object}
use Rattle.vc_object_map.specs.Store.{object_path, IsDamaged}
use Rattle.vc_object_map.specs.Store as store
use Rattle.vc_object_map.specs.StoreFault.{IsFault}
use Rattle.vc_object_map.specs.declared.faults.StoreFault.{StoreFault}
use Rattle.vc_object_map.specs.declared.faults.StoreFault.TheVariants.{Damaged}

-- an object has this name
abbrev pub IsThere : {F : Type 0} → Type 0 → (F → FileMap) → ObjectId → F → Type 0
IsThere honest content id files = honest → IsSome (store.objects (content files) id)

-- What a removal answers, and does to the files: whether the object was there, and it is gone, with its file. Every other file stays,
-- and so does that of this name where it is damaged, which is 12, and only there. An error changes nothing.
pub record Removes {F : Type 0} (honest : Type 0) (content : F → FileMap) (id : ObjectId) (old new : F) (result : Result Bool StoreFault) : Type 0 where
  pub there : honest → IfOk result (λ there. there ≡ is_some (store.objects (content old) id))
  pub objects : honest → OnOk result (store.objects (content new) ≡ without_object (store.objects (content old)) id)
  pub files : honest → OnOk result (content new ≡ paths.remove (content old) (object_path id.0))
  pub outside : honest → SameOutside (codes "objects/") (content old) (content new)
  pub undamaged : honest → (q : ObjectId) → IsDamaged (content new) q → IsDamaged (content old) q
  pub damaged : honest → IsDamaged (content old) id → IsErrAnd result (λ e. IsFault e ⊎ (e ≡ Damaged id))
  pub refused : honest → IfErr result (λ e. IsFault e ⊎ ((e ≡ Damaged id) × IsDamaged (content old) id))
  pub of_name : IfErr result (λ e. IsFault e ⊎ (e ≡ Damaged id))
  pub err : honest → OnErr result (content new ≡ content old)
