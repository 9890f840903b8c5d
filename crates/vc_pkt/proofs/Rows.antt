-- Objects whose names ascend: for the reader that keeps them as a row and makes a map of it at the end.
use Rattle.std.proofs.Common.{◌≡◌, ◌-◌, true, false, cond, ◌&&◌, List, ◌∷◌, ◌++◌, length, slice_get, Option, Some, is_some, refl, ap, sym, ◌∙◌, arith, []}
use Rattle.std.specs.List.{AllByRecursion}
use Rattle.std.specs.List.Sorted.{IsStrictlySortedBy}
use Rattle.std.specs.Map.{lookup, keys_of}
use Rattle.std.specs.BTreeMap.{BTreeMap, insert_entry, is_at, IsFromIterResult}
use Rattle.std.specs.Ordering.{is_eq, is_lt, eq_by_cmp, match_ordering, ordering_reverse}
use Rattle.std.specs.declared.cmp.Ordering.TheVariants.{Less, Equal, Greater}
use Rattle.std.proofs.lemmas.Cmp.{eq_by_cmp_equiv}
use Rattle.std.proofs.lemmas.Map.Keys.{IsDistinct-from_sorted}
use Rattle.std.proofs.lemmas.Float.{T_from_true}
use Rattle.std.specs.FinMap.Entries.{below_all, is_sorted, find, same_entries}
use Rattle.std.proofs.lemmas.Map.Made.{update_all_none}
use Rattle.vc_lemmas.proofs.Lists.{same_head, same_tail}
use Rattle.vc_object.specs.ObjectId.{id_cmp, IsSortedByName}
use Rattle.vc_object.specs.declared.id.ObjectId.{ObjectId}
use Rattle.vc_object.proofs.IdLemmas.{id_cmp_total, id_ties, id_eq-same}
use Rattle.vc_pkt.specs.Carried.{stored_name, with_object}
use Rattle.vc_pkt.specs.Incoming.{IsAbove}
use Rattle.vc_pkt.specs.StreamObjectView.{stored, objects_of, AreNamed}
use Rattle.vc_pkt.specs.declared.carried.StreamObject.{StreamObject}
use Rattle.vc_pkt.proofs.CarriedLaws.{Entries, added, finds}

-- ---- a name above all
abbrev last_or : ObjectId × StreamObject → Entries → ObjectId × StreamObject
last_or e [] = e
last_or e (f ∷ es) = last_or f es

last_get : (e : ObjectId × StreamObject) (es : Entries) → slice_get (e ∷ es) (length es) ≡ Some (last_or e es)
last_get e [] = refl
last_get e (f ∷ es) = last_get f es

above_last : (id : ObjectId) (e : ObjectId × StreamObject) (es : Entries) → IsSortedByName (keys_of (e ∷ es)) → id_cmp (last_or e es).0 id ≡ Less → IsAbove id (e ∷ es)
unfolding IsStrictlySortedBy
above_last id e [] s h = (h, tt)
above_last id e (f ∷ es) s h =
    let more = above_last id f es s.1 h in
    (id_cmp_total.trans e.0 f.0 id s.0.0 more.0, more)

some_same : (x y : ObjectId × StreamObject) → ◌≡◌ {A = Option (ObjectId × StreamObject)} (Some x) (Some y) → x ≡ y
some_same x y e = cc e

pub above_all : (id : ObjectId) (x : ObjectId × StreamObject) (es : Entries) → IsSortedByName (keys_of es) → slice_get es (length es - 1) ≡ Some x → id_cmp x.0 id ≡ Less → IsAbove id es
above_all id x [] s g h = tt
above_all id x (e ∷ es) s g h =
    let at : length (e ∷ es) - 1 ≡ length es = omega arith in
    let same = some_same (last_or e es) x (sym (last_get e es) ∙ ap (slice_get (e ∷ es)) (sym at) ∙ g) in
    above_last id e es s (ap (λ y. id_cmp y.0 id) same ∙ h)

of_last : (id : ObjectId) (e : ObjectId × StreamObject) (es : Entries) → IsAbove id (e ∷ es) → id_cmp (last_or e es).0 id ≡ Less
of_last id e [] a = a.0
of_last id e (f ∷ es) a = of_last id f es a.1

pub last_below : (id : ObjectId) (x : ObjectId × StreamObject) (es : Entries) → slice_get es (length es - 1) ≡ Some x → IsAbove id es → id_cmp x.0 id ≡ Less
last_below id x [] g a = absurd (cc g)
last_below id x (e ∷ es) g a =
    let at : length (e ∷ es) - 1 ≡ length es = omega arith in
    let same = some_same (last_or e es) x (sym (last_get e es) ∙ ap (slice_get (e ∷ es)) (sym at) ∙ g) in
    ap (λ y. id_cmp y.0 id) (sym same) ∙ of_last id e es a

-- ---- one entry more
greater : (id k : ObjectId) → id_cmp k id ≡ Less → id_cmp id k ≡ Greater
greater id k h = id_cmp_total.antisymm id k ∙ ap ordering_reverse h

all_more : (P : ObjectId → Type 0) (id : ObjectId) (v : StreamObject) (es : Entries) → AllByRecursion P (keys_of es) → P id → AllByRecursion P (keys_of (es ++ (id, v) ∷ []))
all_more P id v [] a h = (h, tt)
all_more P id v (e ∷ es) a h = (a.0, all_more P id v es a.1 h)

pub sorted_more : (id : ObjectId) (v : StreamObject) (es : Entries) → IsSortedByName (keys_of es) → IsAbove id es → IsSortedByName (keys_of (es ++ (id, v) ∷ []))
unfolding IsStrictlySortedBy
sorted_more id v [] s a = (tt, tt)
sorted_more id v (e ∷ es) s a = (all_more (λ y. id_cmp e.0 y ≡ Less) id v es s.0 a.0, sorted_more id v es s.1 a.1)

same_cons : (k l : ObjectId) (ks ls : List ObjectId) → k ≡ l → ks ≡ ls → k ∷ ks ≡ l ∷ ls
same_cons k l ks ls e f = cc

pub named_more : (id : ObjectId) (v : StreamObject) (es : Entries) → AreNamed es → id ≡ stored_name (stored v) → AreNamed (es ++ (id, v) ∷ [])
named_more id v [] n e = ap (λ t. t ∷ []) e
named_more id v ((k, u) ∷ es) n e = same_cons _ _ _ _ (same_head _ _ _ _ n) (named_more id v es (same_tail _ _ _ _ n) e)

insert_last : (id : ObjectId) (v : StreamObject) (es : Entries) → IsAbove id es → insert_entry id_cmp es id v ≡ es ++ (id, v) ∷ []
insert_last id v [] a = refl
insert_last id v (e ∷ es) a =
    ap (λ o. match_ordering o ((id, v) ∷ e ∷ es) ((e.0, v) ∷ es) (e ∷ insert_entry id_cmp es id v)) (greater id e.0 a.0) ∙ ap (λ t. e ∷ t) (insert_last id v es a.1)

not_found : (id : ObjectId) (es : Entries) → IsAbove id es → finds id es ≡ false
not_found id [] a = refl
not_found id (e ∷ es) a = ap (λ o. is_some (cond (is_eq o) (Some e.1) (lookup (is_at (id_cmp id)) es))) (greater id e.0 a.0) ∙ not_found id es a.1

pub objects_more : (id : ObjectId) (v : StreamObject) (es : Entries) → AreNamed es → id ≡ stored_name (stored v) → IsAbove id es → objects_of (es ++ (id, v) ∷ []) ≡ with_object (stored v) (objects_of es)
objects_more id v es n e a = ap objects_of (sym (insert_last id v es a)) ∙ added es id v e n (not_found id es a)

-- ---- a map of them
same_id : (x y : ObjectId) → id_cmp x y ≡ Equal → x ≡ y
same_id x y h = id_eq-same x y (id_ties x y ∙ ap is_eq h)

below_true : (id : ObjectId) (es : Entries) → AllByRecursion (λ k. id_cmp id k ≡ Less) (keys_of es) → below_all id_cmp id es ≡ true
below_true id [] a = refl
below_true id (e ∷ es) a = ap (λ o. is_lt o && below_all id_cmp id es) a.0 ∙ below_true id es a.1

sorted_true : (es : Entries) → IsSortedByName (keys_of es) → is_sorted id_cmp es ≡ true
unfolding IsStrictlySortedBy
sorted_true [] s = refl
sorted_true (e ∷ es) s = ap (λ b. b && is_sorted id_cmp es) (below_true e.0 es s.0) ∙ sorted_true es s.1

find_same : (q : ObjectId) (es : Entries) → find id_cmp q es ≡ lookup (is_at (id_cmp q)) es
find_same q [] = refl
find_same q (e ∷ es) = ap (λ r. cond (is_eq (id_cmp q e.0)) (Some e.1) r) (find_same q es)

pub collected : (es : Entries) (m : BTreeMap ObjectId StreamObject) → IsSortedByName (keys_of es) → IsFromIterResult id_cmp es m → m.entries ≡ es
collected es m s f =
    same_entries id_cmp id_cmp_total same_id m.entries es (T_from_true _ (sorted_true m.entries f.1)) (T_from_true _ (sorted_true es s))
    (λ q. find_same q m.entries ∙ f.0 q ∙ update_all_none (eq_by_cmp_equiv id_cmp_total) (eq_by_cmp id_cmp) (λ x y. refl) es q (IsDistinct-from_sorted id_cmp (keys_of es) s) ∙ sym (find_same q es))
