-- The refs of a message in order of their names, as they are told and as the machine has them.
use Rattle.std.proofs.Common.{◌≡◌, ℕ, Bool, true, false, cond, ◌&&◌, T, List, [], ◌∷◌, Option, Some, refl, sym, ap, ◌∙◌, subst}
use Rattle.std.specs.Prelude.{option_map}
use Rattle.std.specs.FinMap.{entries, entries_sorted, get, get-entries}
use Rattle.std.specs.FinMap.Entries.{below_all, find, is_sorted, same_entries}
use Rattle.std.specs.Ordering.{is_eq, is_lt, nat_cmp}
use Rattle.std.specs.Cmp.Lexicographic.{nat_list_cmp_total, slice_cmp}
use Rattle.std.specs.declared.cmp.Ordering.{Ordering}
use Rattle.vc_fetch.specs.Advert.{RefIds}
use Rattle.vc_format.specs.Git.{bytes_of_id}
use Rattle.vc_model.proofs.Maps.{bytes_same}
use Rattle.vc_model.specs.Refs.{RefName, Refs}
use Rattle.vc_object.specs.declared.id.ObjectId.{ObjectId}
use Rattle.vc_tracking.specs.Moving.{Told, machine_refs}
use Rattle.vc_exchange.specs.Receiving.{AreRefs}

abbrev by_bytes : List ℕ → List ℕ → Ordering
by_bytes = slice_cmp nat_cmp

pub find_machine : (told : List Told) (name : RefName) → find by_bytes name (machine_refs told) ≡ option_map bytes_of_id (find by_bytes name told)
find_machine [] name = refl
find_machine (t ∷ told) name = by (is_eq (by_bytes name t.0)) (find by_bytes name told) (find_machine told name)
  where
    by : (b : Bool) (found : Option ObjectId) → find by_bytes name (machine_refs told) ≡ option_map bytes_of_id found → cond b (Some t.1.0) (find by_bytes name (machine_refs told)) ≡ option_map bytes_of_id (cond b (Some t.1) found)
    by true found rest = refl
    by false found rest = rest

below_machine : (name : RefName) (told : List Told) → below_all by_bytes name (machine_refs told) ≡ below_all by_bytes name told
below_machine name [] = refl
below_machine name (t ∷ told) = ap (λ b. is_lt (by_bytes name t.0) && b) (below_machine name told)

pub sorted_machine : (told : List Told) → is_sorted by_bytes (machine_refs told) ≡ is_sorted by_bytes told
sorted_machine [] = refl
sorted_machine (t ∷ told) = ap (λ b. b && is_sorted by_bytes (machine_refs told)) (below_machine t.0 told) ∙ ap (λ b. below_all by_bytes t.0 told && b) (sorted_machine told)

-- refs with the same values stand in the same order
pub entries_machine : (refs : Refs) (ids : RefIds) → ((n : RefName) → get refs n ≡ option_map bytes_of_id (get ids n)) → AreRefs refs (entries ids)
entries_machine refs ids same =
    same_entries by_bytes nat_list_cmp_total bytes_same (entries refs) (machine_refs (entries ids)) (entries_sorted refs)
    (subst T (sym (sorted_machine (entries ids))) (entries_sorted ids))
    (λ n. sym (get-entries refs n) ∙ same n ∙ ap (option_map bytes_of_id) (get-entries ids n) ∙ sym (find_machine (entries ids) n))
