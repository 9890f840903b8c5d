-- A list's values, each once: with one more, and as a set of ids has them.
use Rattle.std.proofs.Common.{◌≡◌, Bool, true, false, cond, ◌||◌, List, [], ◌∷◌, ◌++◌, map, refl, sym, ap, ◌∙◌}
use Rattle.std.specs.List.{list_any}
use Rattle.std.specs.Ordering.{eq_by_cmp, nat_cmp}
use Rattle.std.specs.Cmp.Lexicographic.{slice_cmp}
use Rattle.std.proofs.lemmas.List.{map-append}
use Rattle.indexmap.specs.IndexSet.{insert_key}
use Rattle.vc_format.specs.Git.{bytes_of_id}
use Rattle.vc_model.specs.Clone.{once}
use Rattle.vc_model.specs.Object.{Id}
use Rattle.vc_object.proofs.IdLemmas.{id_ties}
use Rattle.vc_object.specs.ObjectId.{id_eq}
use Rattle.vc_object.specs.declared.id.ObjectId.{ObjectId}

abbrev same : Id → Id → Bool
same x y = eq_by_cmp (slice_cmp nat_cmp) x y

-- the values with one more, where it is among them or not
abbrev with_one : Bool → List Id → Id → List Id
with_one met ids x = cond met ids (ids ++ x ∷ [])

none_met : (met : Bool) (x : Id) → cond met [] (x ∷ []) ≡ with_one (met || false) [] x
none_met true x = refl
none_met false x = refl

first_met : (here seen later : Bool) (y : Id) (ids : List Id) (x : Id) → y ∷ with_one ((here || seen) || later) ids x ≡ with_one (seen || (here || later)) (y ∷ ids) x
first_met true true later y ids x = refl
first_met true false later y ids x = refl
first_met false true later y ids x = refl
first_met false false true y ids x = refl
first_met false false false y ids x = refl

-- one more value is added, unless it was seen or stands there
once_more : (xs seen : List Id) (x : Id) → once seen (xs ++ x ∷ []) ≡ with_one (list_any (same x) seen || list_any (same x) (once seen xs)) (once seen xs) x
once_more [] seen x = none_met (list_any (same x) seen) x
once_more (y ∷ ys) seen x = by (list_any (same y) seen) (once_more ys seen x) (once_more ys (y ∷ seen) x)
  where
    by : (met : Bool) → once seen (ys ++ x ∷ []) ≡ with_one (list_any (same x) seen || list_any (same x) (once seen ys)) (once seen ys) x
        → once (y ∷ seen) (ys ++ x ∷ []) ≡ with_one (list_any (same x) (y ∷ seen) || list_any (same x) (once (y ∷ seen) ys)) (once (y ∷ seen) ys) x
        → cond met (once seen (ys ++ x ∷ [])) (y ∷ once (y ∷ seen) (ys ++ x ∷ []))
        ≡ with_one (list_any (same x) seen || list_any (same x) (cond met (once seen ys) (y ∷ once (y ∷ seen) ys))) (cond met (once seen ys) (y ∷ once (y ∷ seen) ys)) x
    by true passed added = passed
    by false passed added = ap (λ (l : List Id). y ∷ l) added ∙ first_met (same x y) (list_any (same x) seen) (list_any (same x) (once (y ∷ seen) ys)) y (once (y ∷ seen) ys) x

-- ---- as a set of ids
any_bytes : (ids : List ObjectId) (id : ObjectId) → list_any (id_eq id) ids ≡ list_any (same id.0) (map bytes_of_id ids)
any_bytes [] id = refl
any_bytes (y ∷ ys) id = ap (λ b. b || list_any (id_eq id) ys) (id_ties id y) ∙ ap (λ b. same id.0 y.0 || b) (any_bytes ys id)

-- an id that is inserted is one more value
pub inserted_once : (xs : List Id) (old new : List ObjectId) (id : ObjectId) → new ≡ insert_key id_eq old id → map bytes_of_id old ≡ once [] xs → map bytes_of_id new ≡ once [] (xs ++ id.0 ∷ [])
inserted_once xs old new id e so_far =
    ap (map bytes_of_id) e ∙ bytes_with (list_any (id_eq id) old)
    ∙ ap (λ b. with_one b (map bytes_of_id old) id.0) (any_bytes old id)
    ∙ ap (λ (l : List Id). with_one (list_any (same id.0) l) l id.0) so_far
    ∙ sym (once_more xs [] id.0)
  where
    bytes_with : (met : Bool) → map bytes_of_id (cond met old (old ++ id ∷ [])) ≡ with_one met (map bytes_of_id old) id.0
    bytes_with true = refl
    bytes_with false = map-append bytes_of_id old (id ∷ [])
