-- What a pack brings is stored, one object after another, in order of name.
use Rattle.std.proofs.Common.{◌≡◌, ◌⊎◌, inl, inr, ℕ, Bool, true, false, cond, List, [], ◌∷◌, map, Option, Some, None, refl, sym, ap, ◌∙◌, subst}
use Rattle.std.specs.Prelude.{codes, unwrap_or}
use Rattle.std.specs.Option.{option_or}
use Rattle.vc_fetch.specs.Pack.{is_object}
use Rattle.vc_files.specs.FileMap.{FileMap, SameOutside}
use Rattle.vc_object_map.specs.Overlay.{with_carried}
use Rattle.vc_object.proofs.IdLemmas.{id_eq-same}
use Rattle.vc_object.specs.Decoding.{StoredObject, stored_object}
use Rattle.vc_object.specs.Object.{object_name}
use Rattle.vc_object.specs.ObjectId.{IsSortedByName, id_eq, is_id}
use Rattle.vc_object.specs.ObjectMap.{ObjectMap}
use Rattle.vc_object.specs.declared.id.ObjectId.{ObjectId}
use Rattle.vc_object.specs.declared.kind.Kind.{Kind}
use Rattle.vc_pkt.specs.Carried.{stored_name}
use Rattle.vc_pkt.specs.StreamObjectView.{AreNamed, stored}
use Rattle.vc_pkt.specs.declared.carried.StreamObject.{StreamObject}
use Rattle.vc_rules.proofs.SoundLemmas.{name_valid}
use Rattle.vc_push_rules.proofs.CarryingLemmas.{in_none, in_step, nothing_in, once, or_none}
use Rattle.vc_quarantine.proofs.CleanLemmas.{bad_objects}
use Rattle.vc_quarantine.proofs.DamageLemmas.{damaged_before}
use Rattle.vc_push_rules.specs.Carrying.{objects_in}
use Rattle.vc_quarantine.specs.Clean.{MakesNoneBad}
use Rattle.vc_object_map.specs.Store.{objects, with_file, with_object}
use Rattle.vc_tracking.specs.Storing.{AreSomeStored, AreStored}

-- ---- so far
-- what is stored, and what is still to come, are all; nothing that was stored is gone
pub record IsStoring (old now : FileMap) (all rest : List StoredObject) : Type 0 where
  pub same : (id : ObjectId) → option_or (objects old id) (objects_in all id) ≡ option_or (objects now id) (objects_in rest id)
  pub none : (id : ObjectId) → objects now id ≡ None → objects old id ≡ None

pub storing_none : (old : FileMap) (all : List StoredObject) → IsStoring old old all all
storing_none old all = record { same = λ id. refl; none = λ id e. e }

pub storing_all : (old now : FileMap) (all : List StoredObject) → IsStoring old now all [] → AreStored old now all
unfolding with_carried
storing_all old now all s = record { each = λ id. sym (s.same id ∙ ap (option_or (objects now id)) (nothing_in id) ∙ or_none (objects now id)) }

pub storing_some : (old now : FileMap) (all rest : List StoredObject) → IsStoring old now all rest → AreSomeStored old now all
unfolding with_carried
storing_some old now all rest s = record { each = λ id. by id (objects now id) refl }
  where
    by : (id : ObjectId) (found : Option StoredObject) → objects now id ≡ found → (objects now id ≡ objects old id) ⊎ (objects now id ≡ option_or (objects old id) (objects_in all id))
    by id None e = inl (e ∙ sym (s.none id e))
    by id (Some o) e = inr (e ∙ sym (s.same id ∙ ap (λ f. option_or f (objects_in rest id)) e))

module _ (all rest : List StoredObject) (o : StoredObject) where
  -- a body at fault is passed over
  pub storing_passed : (old now : FileMap) → IsSortedByName (map stored_name (o ∷ rest)) → is_object o ≡ false → IsStoring old now all (o ∷ rest) → IsStoring old now all rest
  storing_passed old now sorted bad s = record { same = λ id. s.same id ∙ ap (option_or (objects now id)) (by id (id_eq id (stored_name o)) refl); none = s.none }
    where
      by : (id : ObjectId) (b : Bool) → id_eq id (stored_name o) ≡ b → objects_in (o ∷ rest) id ≡ objects_in rest id
      by id true is = in_step id o rest true is ∙ ap (λ b. cond b (Some o) None) bad ∙ sym (in_none id rest (once id o rest sorted is))
      by id false is = in_step id o rest false is

  -- and an object is put under its name
  module _ (old now new : FileMap) (name : ObjectId) (good : is_object o ≡ true) (is_name : name ≡ stored_name o) (put : objects new ≡ with_object (objects now) name o) where
    at : (q : ObjectId) (b : Bool) → id_eq q (stored_name o) ≡ b → objects new q ≡ cond b (Some (unwrap_or (objects now (stored_name o)) o)) (objects now q)
    unfolding with_object
    at q b is = ap (λ (m : ObjectMap). m q) put ∙ ap (λ (n : ObjectId). cond (id_eq q n) (Some (unwrap_or (objects now n) o)) (objects now q)) is_name ∙ ap (λ b. cond b (Some (unwrap_or (objects now (stored_name o)) o)) (objects now q)) is

    or_some : (found : Option StoredObject) → option_or found (Some o) ≡ Some (unwrap_or found o)
    or_some None = refl
    or_some (Some x) = refl

    pub storing_put : IsStoring old now all (o ∷ rest) → IsStoring old new all rest
    storing_put s = record { same = λ q. s.same q ∙ by q (id_eq q (stored_name o)) refl; none = λ q e. s.none q (absent q (id_eq q (stored_name o)) refl e) }
      where
        by : (q : ObjectId) (b : Bool) → id_eq q (stored_name o) ≡ b → option_or (objects now q) (objects_in (o ∷ rest) q) ≡ option_or (objects new q) (objects_in rest q)
        by q true is =
            ap (option_or (objects now q)) (in_step q o rest true is ∙ ap (λ b. cond b (Some o) None) good) ∙ or_some (objects now q)
            ∙ ap (λ (n : ObjectId). Some (unwrap_or (objects now n) o)) (id_eq-same q (stored_name o) is) ∙ sym (ap (λ f. option_or f (objects_in rest q)) (at q true is))
        by q false is = ap (option_or (objects now q)) (in_step q o rest false is) ∙ sym (ap (λ f. option_or f (objects_in rest q)) (at q false is))

        absent : (q : ObjectId) (b : Bool) → id_eq q (stored_name o) ≡ b → objects new q ≡ None → objects now q ≡ None
        absent q true is e = absurd (let bad : Some (unwrap_or (objects now (stored_name o)) o) ≡ None = sym (at q true is) ∙ e in cc bad)
        absent q false is e = sym (at q false is) ∙ e

-- ---- a put makes no file bad
pub put_bad : (old new : FileMap) (id : ObjectId) (kind : Kind) (body : List ℕ) → id ≡ object_name kind body → SameOutside (codes "objects/") old new → new ≡ with_file old (stored_object kind body) → objects new ≡ with_object (objects old) id (stored_object kind body) → MakesNoneBad old new
put_bad old new id kind body named outside file made =
    bad_objects old new outside (damaged_before old new id (stored_object kind body) (subst (λ (n : ObjectId). is_id n ≡ true) (sym named) (name_valid kind body)) (sym named) file made)

-- ---- the entries of a map of objects
-- the first has its own name, and so have those behind it
module _ (entry : ObjectId × StreamObject) (entries : List (ObjectId × StreamObject)) (named : AreNamed (entry ∷ entries)) where
  pub first_named : entry.0 ≡ stored_name (stored entry.1)
  first_named = cc named

  pub later_named : AreNamed entries
  later_named = cc named
