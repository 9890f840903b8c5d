-- What is known to be whole: what a graph that grows keeps, and what the values of refs and what they link to are.
use Rattle.std.proofs.Common.{◌≡◌, ℕ, true, false, cond, zero, suc, List, ◌∷◌, ◌++◌, length, drop, take, slice_get, ⊎_elim, Option, Some, None, Contains, refl, sym, ap, subst, ◌∙◌, arith, true≢false, []}
use Rattle.std.specs.Bool.{⊤}
use Rattle.std.specs.Cmp.{eq_by_cmp_equiv}
use Rattle.std.specs.FinMap.{find, is_sorted}
use Rattle.std.specs.FinMap.Entries.{below_all}
use Rattle.std.specs.List.{list_any}
use Rattle.std.specs.Cmp.Lexicographic.{slice_cmp, nat_list_cmp_total}
use Rattle.std.specs.Option.{option_or, option_and_then}
use Rattle.std.specs.Ordering.{nat_cmp, is_eq, is_lt, ordering_reverse}
use Rattle.std.specs.declared.cmp.Ordering.{Ordering}
use Rattle.std.specs.declared.cmp.Ordering.TheVariants.{Less, Equal, Greater}
use Rattle.std.proofs.lemmas.Bool.{and_parts}
use Rattle.std.proofs.lemmas.List.{take-append-drop}
use Rattle.std.proofs.lemmas.List.Elements.{Contains-append_right, Contains-push_cases}
use Rattle.std.proofs.lemmas.Map.Views.{Contains-from_any}
use Rattle.std.proofs.lemmas.Option.{same_Some}
use Rattle.indexmap.specs.IndexSet.{insert_key}
use Rattle.vc_history.proofs.GenerationLemmas.{Agrees-stays}
use Rattle.vc_history.specs.Generation.{Agrees}
use Rattle.vc_files.specs.FileMap.{FileMap}
use Rattle.vc_object_map.proofs.OverlayLemmas.{IsClosedUnder-more, IsClosedUnder-with_carried}
use Rattle.vc_object_map.proofs.WalkLemmas.{Contains-insert_key_cases}
use Rattle.vc_object_map.specs.Graph.{IsClosedUnder}
use Rattle.vc_object_map.specs.Overlay.{with_carried}
use Rattle.vc_object.proofs.IdLemmas.{id_eq-same}
use Rattle.vc_object.specs.Decoding.{StoredObject}
use Rattle.vc_object.specs.Links.{parents_of}
use Rattle.vc_object.specs.ObjectId.{id_eq}
use Rattle.vc_object.specs.ObjectMap.{ObjectMap, parents_in}
use Rattle.vc_object.specs.declared.id.ObjectId.{ObjectId}
use Rattle.vc_refs.specs.RefMap.{RefMap, IsListOf}
use Rattle.vc_refs.specs.Refs.{refs}
use Rattle.vc_push_rules.specs.Known.{AreRefsWhole}
use Rattle.vc_quarantine.specs.Known.{AreWhole}
use Rattle.vc_push_rules.specs.Verdict.{is_tag}
use Rattle.vc_quarantine.specs.declared.known.Known.{Known}
use Rattle.vc_object_map.specs.Store.{objects}

-- ---- what is whole as stored is so with what is carried
module _ (stored carried : ObjectMap) where
  parents_more : (x : ObjectId) (ys : List ObjectId) → parents_in stored x ≡ Some ys → parents_in (with_carried stored carried) x ≡ Some ys
  unfolding parents_in with_carried
  parents_more x ys = by (stored x) (carried x)
    where
      by : (o c : Option StoredObject) → option_and_then (λ (o : StoredObject). parents_of o.kind o.body) o ≡ Some ys → option_and_then (λ (o : StoredObject). parents_of o.kind o.body) (option_or o c) ≡ Some ys
      by None c e = absurd (cc e)
      by (Some o) c e = e

  pub AreWhole-with_carried : (known : Known) → AreWhole stored known → AreWhole (with_carried stored carried) known
  AreWhole-with_carried known whole = record {
    closed = IsClosedUnder-with_carried stored carried known.objects.keys whole.closed;
    histories = IsClosedUnder-more (parents_in stored) (parents_in (with_carried stored carried)) parents_more known.histories.keys whole.histories;
  }

  -- numbers that agree with what is stored agree with it and what is carried
  pub Agrees-with_carried : (numbers : ObjectId → Option ℕ) → Agrees (parents_in stored) numbers → Agrees (parents_in (with_carried stored carried)) numbers
  Agrees-with_carried numbers agrees = Agrees-stays (parents_in stored) (parents_in (with_carried stored carried)) parents_more numbers agrees

-- ---- the values of refs
-- each of the ids is the value of a ref whose name is of that kind
pub record AreValues (refs : RefMap) (IsKind : List ℕ → Type 0) (ids : List ObjectId) : Type 0 where
  pub each : (id : ObjectId) → Contains ids id → (name : List ℕ) × IsKind name × (refs name ≡ Some id)

module _ (refs : RefMap) (IsKind : List ℕ → Type 0) where
  pub AreValues-none : (ids : List ObjectId) → ids ≡ [] → AreValues refs IsKind ids
  AreValues-none ids none = record { each = λ id at. absurd (omega (arith, at.1, ap length none)) }

  -- one more
  pub AreValues-insert : (ids later : List ObjectId) (name : List ℕ) (id : ObjectId) → IsKind name → refs name ≡ Some id → later ≡ insert_key id_eq ids id → AreValues refs IsKind ids → AreValues refs IsKind later
  AreValues-insert ids later name id kind is added values = record {
    each = λ q at. ⊎_elim (values.each q) (λ same. (name, kind, is ∙ ap Some same)) (Contains-insert_key_cases id_eq ids id q (subst (λ l. Contains l q) added at));
  }

-- what refs reach is whole, so their values are
pub AreWhole-by_refs : (content : FileMap) (known : Known) → AreValues (refs content) (λ name. ⊤) known.objects.keys → AreValues (refs content) (λ name. is_tag name ≡ false) known.histories.keys → AreRefsWhole content → AreWhole (objects content) known
AreWhole-by_refs content known values others whole = record {
  closed = λ y h. let v = values.each h.root h.is_root in whole.closed v.0 h.root v.2 y h.reaches;
  histories = λ y h. let v = others.each h.root h.is_root in whole.history v.0 h.root v.1 v.2 y h.reaches;
}

-- ---- the entries of a list of refs

apart : (a b : List ℕ) → is_lt (slice_cmp nat_cmp a b) ≡ true → is_eq (slice_cmp nat_cmp b a) ≡ false
apart a b h = ap is_eq (nat_list_cmp_total.antisymm b a) ∙ go (slice_cmp nat_cmp a b) h
  where
    go : (r : Ordering) → is_lt r ≡ true → is_eq (ordering_reverse r) ≡ false
    go Less h = refl
    go Equal h = absurd (true≢false (sym h))
    go Greater h = absurd (true≢false (sym h))

below_at : (q : List ℕ) (es : List (List ℕ × ObjectId)) (k : ℕ) (e : List ℕ × ObjectId) → below_all (slice_cmp nat_cmp) q es ≡ true → slice_get es k ≡ Some e → is_lt (slice_cmp nat_cmp q e.0) ≡ true
below_at q [] k e below at = absurd (cc at)
below_at q (x ∷ es) zero e below at = subst (λ (y : List ℕ × ObjectId). is_lt (slice_cmp nat_cmp q y.0) ≡ true) (same_Some x e at) (and_parts (is_lt (slice_cmp nat_cmp q x.0)) (below_all (slice_cmp nat_cmp) q es) below).0
below_at q (x ∷ es) (suc k) e below at = below_at q es k e (and_parts (is_lt (slice_cmp nat_cmp q x.0)) (below_all (slice_cmp nat_cmp) q es) below).1 at

-- each entry of a sorted list is found under its name
entry_found : (es : List (List ℕ × ObjectId)) (k : ℕ) (e : List ℕ × ObjectId) → is_sorted (slice_cmp nat_cmp) es ≡ true → slice_get es k ≡ Some e → find (slice_cmp nat_cmp) e.0 es ≡ Some e.1
entry_found [] k e sorted at = absurd (cc at)
entry_found (x ∷ es) zero e sorted at =
    subst (λ (y : List ℕ × ObjectId). find (slice_cmp nat_cmp) y.0 (x ∷ es) ≡ Some y.1) (same_Some x e at)
    (ap (λ t. cond t (Some x.1) (find (slice_cmp nat_cmp) x.0 es)) ((eq_by_cmp_equiv nat_list_cmp_total).refl x.0))
entry_found (x ∷ es) (suc k) e sorted at =
    let parts = and_parts (below_all (slice_cmp nat_cmp) x.0 es) (is_sorted (slice_cmp nat_cmp) es) sorted in
    ap (λ t. cond t (Some x.1) (find (slice_cmp nat_cmp) e.0 es)) (apart x.0 e.0 (below_at x.0 es k e parts.0 at)) ∙ entry_found es k e parts.1 at

pub listed_value : (refs : RefMap) (es : List (List ℕ × ObjectId)) (k : ℕ) (e : List ℕ × ObjectId) → IsListOf refs es → slice_get es k ≡ Some e → refs e.0 ≡ Some e.1
listed_value refs es k e list at = sym (list.each e.0) ∙ entry_found es k e list.sorted at

-- ---- names among names
pub record AreAmong (all names : List ObjectId) : Type 0 where
  pub each : (id : ObjectId) → Contains names id → Contains all id

pub AreAmong-none : (all names : List ObjectId) → names ≡ [] → AreAmong all names
AreAmong-none all names none = record { each = λ id at. absurd (omega (arith, at.1, ap length none)) }

pub AreAmong-push : (all names later : List ObjectId) (id : ObjectId) → later ≡ names ++ id ∷ [] → list_any (id_eq id) all ≡ true → AreAmong all names → AreAmong all later
AreAmong-push all names later id pushed here among = record {
  each = λ q at. ⊎_elim (among.each q) (λ same. subst (Contains all) same (Contains-from_any id_eq-same id all here)) (Contains-push_cases names id q (subst (λ l. Contains l q) pushed at));
}

pub AreAmong-drop : (all names : List ObjectId) (n : ℕ) → names ≡ drop n all → AreAmong all names
AreAmong-drop all names n dropped = record {
  each = λ q at. subst (λ l. Contains l q) (take-append-drop n all) (Contains-append_right (take n all) (drop n all) q (subst (λ l. Contains l q) dropped at));
}

-- names among whole ones are whole
pub IsClosedUnder-among : (links : ObjectId → Option (List ObjectId)) (all names : List ObjectId) → AreAmong all names → IsClosedUnder links all → IsClosedUnder links names
IsClosedUnder-among links all names among closed y h = closed y (record { root = h.root; is_root = among.each h.root h.is_root; reaches = h.reaches })
