-- A set that is made of a list of names.
use Rattle.std.proofs.Common.{◌≡◌, ⊎_elim, List, [], Contains, ◌↔◌, sym, subst, arith}
use Rattle.indexmap.specs.IndexSet.{insert_all}
use Rattle.vc_object_map.proofs.WalkLemmas.{Contains-insert_all_cases, Contains-insert_all_new}
use Rattle.vc_object.proofs.IdLemmas.{id_eq-same}
use Rattle.vc_object.specs.ObjectId.{id_eq}
use Rattle.vc_object.specs.declared.id.ObjectId.{ObjectId}

-- it has the names of the list, and no others
pub Contains-set_of : (ids keys : List ObjectId) → keys ≡ insert_all id_eq [] ids → (id : ObjectId) → Contains keys id ↔ Contains ids id
Contains-set_of ids keys made id = (
  λ h. ⊎_elim (λ none. absurd (omega (arith, none.1))) (λ one. one) (Contains-insert_all_cases id_eq [] ids id (subst (λ l. Contains l id) made h)),
  λ h. subst (λ l. Contains l id) (sym made) (Contains-insert_all_new id_eq id_eq-same [] ids id h),
)
