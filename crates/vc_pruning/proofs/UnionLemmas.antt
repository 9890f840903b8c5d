-- Lists of names that are put into a set.
use Rattle.std.proofs.Common.{◌≡◌, List, [], Contains, ◌↔◌, ◌⊎◌, inl, inr, sym, ap, ◌∙◌, subst}
use Rattle.indexmap.specs.IndexSet.{insert_all}
use Rattle.vc_object.proofs.IdLemmas.{id_eq-same}
use Rattle.vc_object.specs.ObjectId.{id_eq}
use Rattle.vc_object.specs.declared.id.ObjectId.{ObjectId}
use Rattle.vc_object_map.proofs.WalkLemmas.{Contains-insert_all_cases, Contains-insert_all_new, Contains-insert_all_old}
use Rattle.vc_pack.proofs.SetLemmas.{Contains-set_of}

-- after the first list it has the names of this one
pub added_first : (none keys given names : List ObjectId) → none ≡ [] → given ≡ names → keys ≡ insert_all id_eq none given → (id : ObjectId) → Contains keys id ↔ Contains names id
added_first none keys given names empty same made = Contains-set_of names keys (made ∙ ap (λ (l : List ObjectId). insert_all id_eq l given) empty ∙ ap (insert_all id_eq []) same)

-- after another it has those of both
pub added_all : (old new names : List ObjectId) → new ≡ insert_all id_eq old names → (id : ObjectId) → Contains new id ↔ (Contains old id ⊎ Contains names id)
added_all old new names is id = (
  λ h. Contains-insert_all_cases id_eq old names id (subst (λ l. Contains l id) is h),
  λ either. subst (λ l. Contains l id) (sym is) (elim either [
    | inl before ↦ Contains-insert_all_old id_eq old names id before
    | inr among ↦ Contains-insert_all_new id_eq id_eq-same old names id among
  ]),
)
