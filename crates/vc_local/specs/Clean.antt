-- Files of which none is bad, and that a call makes none bad.
use Rattle.std.specs.Prelude.{◌≡◌, ℕ, List, [], Result, IfOk, OnErr, codes}
use Rattle.vc_files.specs.FileMap.{FileMap, SameOutside}
use Rattle.vc_index.specs.Damage.{KeepsDamage}
use Rattle.vc_object.specs.Decoding.{stored_object}
use Rattle.vc_object.specs.declared.id.ObjectId.{ObjectId}
use Rattle.vc_object.specs.declared.kind.Kind.{Kind}
use Rattle.vc_refs.specs.Head.{KeepsOutside}
use Rattle.vc_refs.specs.Packing.{UnpacksOnly}
use Rattle.vc_refs.specs.Refs.{IsBadRef, SpellsRefs}
use Rattle.vc_object_map.specs.Store.{IsDamaged}
use Rattle.vc_local.specs.Shown.{HasObject, shown}

-- Each file in an object's place is that object, and each file of the refs can be read.
pub record IsClean (content : FileMap) : Type 0 where
  pub objects : (id : ObjectId) → ¬ IsDamaged content id
  pub refs : SpellsRefs content

-- What is bad now was so before.
pub record StaysClean (old new : FileMap) : Type 0 where
  pub damage : KeepsDamage old new
  pub refs : (path : List ℕ) → IsBadRef new path → IsBadRef old path

-- The same, and each packed ref but this one is as it was.
pub record KeepsCleanBut (name : List ℕ) (old new : FileMap) : Type 0 where
  pub stays : StaysClean old new
  pub packed : UnpacksOnly name old new

-- What is bad now was so before, and each packed ref is as it was: no ref has no name.
abbrev pub KeepsClean : FileMap → FileMap → Type 0
KeepsClean old new = KeepsCleanBut [] old new

-- an error changes nothing, and no file is made bad
pub record Spares {T E : Type 0} (result : Result T E) (old new : FileMap) : Type 0 where
  pub err : OnErr result (new ≡ old)
  pub clean : KeepsClean old new

-- the same, where nothing but the object is stored, and nothing but files of objects is written
pub record StoresOnly {E : Type 0} (kind : Kind) (body : List ℕ) (result : Result ObjectId E) (old new : FileMap) : Type 0 where
  pub outside : SameOutside (codes "objects/") old new
  pub err : OnErr result (new ≡ old)
  pub clean : KeepsClean old new
  pub stored : IfOk result (λ id. HasObject old id (stored_object kind body) new)

-- only how the refs stand in their files is changed
pub record PacksOnly (old new : FileMap) : Type 0 where
  pub outside : KeepsOutside old new
  pub same : shown new ≡ shown old
  pub clean : IsClean old → IsClean new
