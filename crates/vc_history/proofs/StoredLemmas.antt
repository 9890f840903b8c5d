-- Files that keep their objects. Numbers that agree with objects agree with more of them, and the same numbers agree again: for who
-- keeps numbers while objects are added.
use Rattle.std.proofs.Common.{◌≡◌, ◌∷◌, [], Bool, true, false, cond, ℕ, List, Option, Some, None, IsSome, ap, ◌∙◌, refl, subst, sym}
use Rattle.std.specs.Prelude.{unwrap_or}
use Rattle.std.specs.Option.{option_and_then}
use Rattle.vc_object.proofs.IdLemmas.{id_eq-same}
use Rattle.vc_object.specs.Decoding.{StoredObject}
use Rattle.vc_object.specs.Links.{parents_of}
use Rattle.vc_object.specs.Object.{object_name}
use Rattle.vc_object.specs.ObjectId.{id_eq}
use Rattle.vc_object.specs.ObjectMap.{ObjectMap, parents_in}
use Rattle.vc_object.specs.declared.id.ObjectId.{ObjectId}
use Rattle.vc_files.specs.FileMap.{FileMap}
use Rattle.vc_history.specs.Generation.{Agrees}
use Rattle.vc_history.specs.Numbering.{numbers}
use Rattle.vc_history.specs.Stored.{AgreesIn, KeepsObjects}
use Rattle.vc_history.specs.declared.generations.Generations.{Generations}
use Rattle.vc_object_map.specs.Store.{objects, with_object, with_objects}
use Rattle.vc_history.proofs.GenerationLemmas.{Agrees-stays}

-- ---- objects that stay
pub keeps_map : (old new : FileMap) → objects new ≡ objects old → KeepsObjects old new
keeps_map old new same = record { at = λ id o is. ap (λ (m : ObjectMap). m id) same ∙ is }

pub keeps_same : (old new : FileMap) → new ≡ old → KeepsObjects old new
keeps_same old new same = keeps_map old new (ap objects same)

pub keeps_then : (old mid new : FileMap) → KeepsObjects old mid → KeepsObjects mid new → KeepsObjects old new
keeps_then old mid new first second = record { at = λ id o is. second.at id o (first.at id o is) }

-- one that is put leaves the others, and the one that is there under its name
pub with_object-keeps : (map : ObjectMap) (name : ObjectId) (put : StoredObject) (id : ObjectId) (o : StoredObject) → map id ≡ Some o → with_object map name put id ≡ Some o
unfolding with_object
with_object-keeps map name put id o is = by (id_eq id name) refl
  where
    by : (b : Bool) → id_eq id name ≡ b → cond b (Some (unwrap_or (map name) put)) (map id) ≡ Some o
    by true e = ap (λ (found : Option StoredObject). Some (unwrap_or found put)) (ap map (sym (id_eq-same id name e)) ∙ is)
    by false e = is

pub with_objects-keeps : (map : ObjectMap) (puts : List StoredObject) (id : ObjectId) (o : StoredObject) → map id ≡ Some o → with_objects map puts id ≡ Some o
with_objects-keeps map [] id o is = is
with_objects-keeps map (put ∷ rest) id o is =
    let name = object_name put.kind put.body in
    with_objects-keeps (with_object map name put) rest id o (with_object-keeps map name put id o is)

pub keeps_put : (old new : FileMap) (name : ObjectId) (put : StoredObject) → objects new ≡ with_object (objects old) name put → KeepsObjects old new
keeps_put old new name put made = record { at = λ id o is. ap (λ (m : ObjectMap). m id) made ∙ with_object-keeps (objects old) name put id o is }

-- ---- numbers that agree
parents_stay : (objects more : ObjectMap) → ((id : ObjectId) (o : StoredObject) → objects id ≡ Some o → more id ≡ Some o) → (id : ObjectId) (ys : List ObjectId) → parents_in objects id ≡ Some ys → parents_in more id ≡ Some ys
unfolding parents_in
parents_stay objects more stays id ys is = by (objects id) (more id) (stays id) is
  where
    by : (o p : Option StoredObject) → ((x : StoredObject) → o ≡ Some x → p ≡ Some x) → option_and_then (λ (o : StoredObject). parents_of o.kind o.body) o ≡ Some ys
        → option_and_then (λ (o : StoredObject). parents_of o.kind o.body) p ≡ Some ys
    by None p s h = absurd (cc)
    by (Some x) p s h = let same : p ≡ Some x = s x refl in ap (option_and_then (λ (o : StoredObject). parents_of o.kind o.body)) same ∙ h

pub Agrees-more : (objects more : ObjectMap) (numbers : ObjectId → Option ℕ) → ((id : ObjectId) (o : StoredObject) → objects id ≡ Some o → more id ≡ Some o) → Agrees (parents_in objects) numbers → Agrees (parents_in more) numbers
Agrees-more objects more numbers stays agrees = Agrees-stays (parents_in objects) (parents_in more) (parents_stay objects more stays) numbers agrees

-- where each object stays
pub numbers_kept : (old new : FileMap) → KeepsObjects old new → (generations : Generations) → AgreesIn old generations → AgreesIn new generations
numbers_kept old new keeps generations agrees = Agrees-more (objects old) (objects new) (numbers generations) keeps.at agrees

pub numbers_same : (old new : FileMap) → new ≡ old → (generations : Generations) → AgreesIn old generations → AgreesIn new generations
numbers_same old new same = numbers_kept old new (keeps_same old new same)

pub Agrees-same : (parents : ObjectId → Option (List ObjectId)) (known now : ObjectId → Option ℕ) → ((id : ObjectId) → now id ≡ known id) → Agrees parents known → Agrees parents now
Agrees-same parents known now same agrees = record {
  generation = λ x n is. agrees.generation x n (sym (same x) ∙ is);
  onward = λ x y some link. subst (λ o. IsSome o) (sym (same y)) (agrees.onward x y (subst (λ o. IsSome o) (same x) some) link);
}
