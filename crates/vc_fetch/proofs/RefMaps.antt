-- Ids by name: what a tree of names holds, seen as a finite map.
use Rattle.std.proofs.Common.{◌≡◌, ℕ, Bool, true, false, cond, List, [], ◌∷◌, map, Option, Some, None, Ok, Err, sym, ap, refl, ◌∙◌, subst, length, arith, ◌≤◌}
use Rattle.std.specs.Prelude.{Vec, filter, is_some}
use Rattle.std.specs.Global.{Global}
use Rattle.std.specs.BTreeMap.{BTreeMap, get_by, is_at, UpdatesBy, IsOrdered}
use Rattle.std.specs.FinMap.{from_entries, find, get, contains_key, insert, empty, get-from_entries, get-insert, same_map, len-entries, len-empty, entries, entries-insert, retain_keys, get-retain_keys, slice_cmp-IsAntisymmetric, nat_cmp-IsAntisymmetric}
use Rattle.std.specs.FinMap.Entries.{put, by_order, where_key, find-where_key}
use Rattle.std.specs.Ordering.{nat_cmp, is_eq, eq_by_cmp}
use Rattle.std.specs.declared.cmp.Ordering.{Ordering}
use Rattle.std.specs.declared.cmp.Ordering.TheVariants.{Less, Equal, Greater}
use Rattle.std.specs.Cmp.{Equal-is, IsTotalOrder, eq_by_cmp_equiv, tied_itself}
use Rattle.std.specs.Cmp.Lexicographic.{slice_cmp, nat_list_cmp_total}
use Rattle.std.specs.Map.{lookup, keys_of, KeepsOthers}
use Rattle.std.specs.List.{AllByRecursion}
use Rattle.std.specs.List.Sorted.{IsStrictlySortedBy}
use Rattle.std.proofs.lemmas.Bool.{false_from_ne_true}
use Rattle.std.proofs.lemmas.List.{nil_from_length}
use Rattle.vc_object.specs.declared.id.ObjectId.{ObjectId}
use Rattle.vc_pkt.specs.Message.{onward}
use Rattle.vc_pkt.specs.declared.fault.PktFault.TheVariants.{BadRecord}
use Rattle.vc_fetch.specs.Advert.{RefIds, Ref, one_more_ref}
use Rattle.vc_fetch.specs.AdvertView.{ref_ids}

abbrev pub Entries : Type 0
Entries = List (Vec ℕ Global × ObjectId)

abbrev pub seen : Entries → List Ref
seen es = map (λ e. (e.0.items, e.1)) es

abbrev pub by_bytes : List ℕ → List ℕ → Ordering
by_bytes a b = slice_cmp nat_cmp a b

abbrev pub key_cmp : Vec ℕ Global → Vec ℕ Global → Ordering
key_cmp x y = by_bytes x.items y.items

pub total : IsTotalOrder by_bytes
total = nat_list_cmp_total

pub tied_same : (a b : List ℕ) → by_bytes a b ≡ Equal → a ≡ b
tied_same a b e = slice_cmp-IsAntisymmetric nat_cmp-IsAntisymmetric a b e

-- two names that compare equal are the same
pub same_name : (a b : List ℕ) → is_eq (by_bytes a b) ≡ true → a ≡ b
same_name a b e = tied_same a b ((Equal-is _).0 e)

pub is_eq-same : (a : List ℕ) → is_eq (by_bytes a a) ≡ true
is_eq-same a = ap is_eq (tied_itself nat_list_cmp_total a)

find_view : (q : List ℕ) (es : Entries) → find by_bytes q (seen es) ≡ lookup (is_at (λ k. by_bytes q k.items)) es
find_view q [] = refl
find_view q (e ∷ es) = ap (cond (is_eq (by_bytes q e.0.items)) (Some e.1)) (find_view q es)

-- what the map has at a name is what the tree of names has
pub get-ref_ids : (m : BTreeMap (Vec ℕ Global) ObjectId) (q : List ℕ) → get (ref_ids m) q ≡ get_by (λ k. by_bytes q k.items) m
get-ref_ids m q = get-from_entries nat_list_cmp_total _ q ∙ find_view q m.entries

updated : (m n : BTreeMap (Vec ℕ Global) ObjectId) (k : List ℕ) (w : Option ObjectId) → UpdatesBy key_cmp (λ s. by_bytes k s.items) m n w
    → (q : List ℕ) → get (ref_ids n) q ≡ cond (eq_by_cmp by_bytes q k) w (get (ref_ids m) q)
unfolding KeepsOthers
updated m n k w change q =
    elim (is_eq (by_bytes q k)) as (λ b. is_eq (by_bytes q k) ≡ b → get (ref_ids n) q ≡ cond b w (get (ref_ids m) q)) [
      | true ↦ λ same. ap (get (ref_ids n)) (same_name q k same) ∙ get-ref_ids n k ∙ change.1
      | false ↦ λ other.
          get-ref_ids n q
          ∙ change.3 (is_at (λ s. by_bytes q s.items))
          (λ x y. (eq_by_cmp_equiv nat_list_cmp_total).congr q x.items y.items)
          (λ x at. false_from_ne_true _ (λ too.
          let e : q ≡ k = same_name q x.items too ∙ sym (same_name k x.items at) in
          let f : is_eq (by_bytes q k) ≡ true = ap (λ t. is_eq (by_bytes q t)) (sym e) ∙ is_eq-same q in
          cc (f, other)))
          ∙ sym (get-ref_ids m q)
    ] refl

pub same_ids : (m n : RefIds) → ((q : List ℕ) → get m q ≡ get n q) → m ≡ n
same_ids m n h = same_map nat_list_cmp_total (slice_cmp-IsAntisymmetric nat_cmp-IsAntisymmetric) m n h

-- an id that is set
pub ref_ids-set : (m n : BTreeMap (Vec ℕ Global) ObjectId) (k : List ℕ) (v : ObjectId) → UpdatesBy key_cmp (λ s. by_bytes k s.items) m n (Some v) → ref_ids n ≡ insert (ref_ids m) k v
ref_ids-set m n k v change = same_ids _ _ (λ q. updated m n k (Some v) change q ∙ sym (get-insert nat_list_cmp_total (ref_ids m) k v q))

-- names that pass a test
seen-filter : (p : List ℕ → Bool) (es : Entries) → seen (filter (λ e. p e.0.items) es) ≡ where_key by_bytes p (seen es)
seen-filter p [] = refl
seen-filter p (e ∷ es) =
    elim (p e.0.items) as (λ b. seen (cond b (e ∷ filter (λ e. p e.0.items) es) (filter (λ e. p e.0.items) es)) ≡ cond b ((e.0.items, e.1) ∷ where_key by_bytes p (seen es)) (where_key by_bytes p (seen es))) [
      | true ↦ ap (λ t. (e.0.items, e.1) ∷ t) (seen-filter p es)
      | false ↦ seen-filter p es
    ]

pub ref_ids-filter : (p : List ℕ → Bool) (m n : BTreeMap (Vec ℕ Global) ObjectId) → n.entries ≡ filter (λ e. p e.0.items) m.entries → ref_ids n ≡ retain_keys (ref_ids m) p
ref_ids-filter p m n is = same_ids _ _
    (λ q.
    let alike : (x : List ℕ) → by_bytes q x ≡ Equal → p x ≡ p q = λ x t. ap p (sym (tied_same q x t)) in
    get-from_entries nat_list_cmp_total _ q
    ∙ ap (λ es. find by_bytes q es) (ap seen is ∙ seen-filter p m.entries)
    ∙ find-where_key by_bytes p q alike (seen m.entries)
    ∙ ap (λ o. cond (p q) o None) (sym (get-from_entries nat_list_cmp_total (seen m.entries) q))
    ∙ sym (get-retain_keys (ref_ids m) p q alike))

-- ---- entries in order
first_in : (k : List ℕ) (v : ObjectId) (es : Entries) → AllByRecursion (λ s. by_bytes k s.items ≡ Less) (keys_of es) → put by_bytes k v (seen es) ≡ (k, v) ∷ seen es
first_in k v [] below = refl
first_in k v (e ∷ es) below = ap (λ r. by_order r ((k, v) ∷ (e.0.items, e.1) ∷ seen es) ((e.0.items, v) ∷ seen es) ((e.0.items, e.1) ∷ put by_bytes k v (seen es))) below.0

pub entries-empty : entries (empty {X = ObjectId} {R = slice_cmp nat_cmp}) ≡ []
entries-empty = nil_from_length _ (sym (len-entries (empty {X = ObjectId} {R = slice_cmp nat_cmp})) ∙ len-empty (slice_cmp nat_cmp) ObjectId)

entries_kept : (es : Entries) → IsStrictlySortedBy key_cmp (keys_of es) → entries (from_entries {R = slice_cmp nat_cmp} (seen es)) ≡ seen es
unfolding IsStrictlySortedBy
entries_kept [] sorted = entries-empty
entries_kept (e ∷ es) sorted =
    entries-insert nat_list_cmp_total (from_entries (seen es)) e.0.items e.1
    ∙ ap (put by_bytes e.0.items e.1) (entries_kept es sorted.1)
    ∙ first_in e.0.items e.1 es sorted.0

-- the refs of the map are those of the tree of names, in order
pub entries-ref_ids : (m : BTreeMap (Vec ℕ Global) ObjectId) → IsOrdered key_cmp m → entries (ref_ids m) ≡ seen m.entries
entries-ref_ids m ordered = entries_kept m.entries ordered

pub ref_ids-new : (m : BTreeMap (Vec ℕ Global) ObjectId) → m.entries ≡ [] → ref_ids m ≡ empty
ref_ids-new m none = ap (λ es. from_entries (seen es)) none

-- ---- a name that is listed
module _ (number : ℕ) (m : BTreeMap (Vec ℕ Global) ObjectId) (key : Vec ℕ Global) (name : List ℕ) (id : ObjectId) (before : Option ObjectId) (is : key.items ≡ name) (had : before ≡ get_by (λ k. by_bytes key.items k.items) m) where
  has : contains_key (ref_ids m) name ≡ is_some before
  has = ap is_some (get-ref_ids m name ∙ ap (λ q. get_by (λ k. by_bytes q k.items) m) (sym is) ∙ sym had)

  pub listed_twice : is_some before ≡ true → one_more_ref number (ref_ids m) (Some (name, id)) ≡ Err (BadRecord number)
  listed_twice some = ap (λ b. cond b (Err (BadRecord number)) (Ok (onward (insert (ref_ids m) name id)))) (has ∙ some)

  pub listed_once : (n : BTreeMap (Vec ℕ Global) ObjectId) → UpdatesBy key_cmp (λ s. by_bytes key.items s.items) m n (Some id) → is_some before ≡ false → one_more_ref number (ref_ids m) (Some (name, id)) ≡ Ok (onward (ref_ids n))
  listed_once n change none =
      ap (λ b. cond b (Err (BadRecord number)) (Ok (onward (insert (ref_ids m) name id)))) (has ∙ none)
      ∙ ap (λ t. Ok (onward t)) (ap (λ q. insert (ref_ids m) q id) (sym is) ∙ sym (ref_ids-set m n key.items id change))

-- ---- whether there are refs
no_refs : (es : Entries) → length es ≡ 0 → entries (from_entries {R = slice_cmp nat_cmp} (seen es)) ≡ []
no_refs [] e = entries-empty
no_refs (x ∷ es) e = absurd (omega arith)

pub entries-none : (m : BTreeMap (Vec ℕ Global) ObjectId) → length m.entries ≡ 0 → entries (ref_ids m) ≡ []
entries-none m none = no_refs m.entries none

put_some : (k : List ℕ) (v : ObjectId) (es : List Ref) → put by_bytes k v es ≡ [] → ⊥
put_some k v [] e = cc e
put_some k v (x ∷ es) e = by (by_bytes k x.0) e
  where
    by : (o : Ordering) → by_order o ((k, v) ∷ x ∷ es) ((x.0, v) ∷ es) (x ∷ put by_bytes k v es) ≡ [] → ⊥
    by Less e = cc e
    by Equal e = cc e
    by Greater e = cc e

some_refs : (es : Entries) → (length es ≡ 0 → ⊥) → entries (from_entries {R = slice_cmp nat_cmp} (seen es)) ≡ [] → ⊥
some_refs [] some e = some refl
some_refs (x ∷ es) some e = put_some x.0.items x.1 (entries (from_entries (seen es))) (sym (entries-insert nat_list_cmp_total (from_entries (seen es)) x.0.items x.1) ∙ e)

pub entries-some : (m : BTreeMap (Vec ℕ Global) ObjectId) → (length m.entries ≡ 0 → ⊥) → entries (ref_ids m) ≡ [] → ⊥
entries-some m some = some_refs m.entries some

-- ---- names that are short
abbrev Short : Ref → Type 0
Short ref = length ref.0 ≤ 65450

short_put : (k : List ℕ) (v : ObjectId) (es : List Ref) → length k ≤ 65450 → AllByRecursion Short es → AllByRecursion Short (put by_bytes k v es)
short_put k v [] h all = (h, tt)
short_put k v (x ∷ es) h all = by (by_bytes k x.0) (short_put k v es h all.1)
  where
    by : (o : Ordering) → AllByRecursion Short (put by_bytes k v es) → AllByRecursion Short (by_order o ((k, v) ∷ x ∷ es) ((x.0, v) ∷ es) (x ∷ put by_bytes k v es))
    by Less rest = (h, all)
    by Equal rest = (all.0, all.1)
    by Greater rest = (all.0, rest)

-- they stay short when a short one is set
pub short_insert : (m : RefIds) (k : List ℕ) (v : ObjectId) → length k ≤ 65450 → AllByRecursion Short (entries m) → AllByRecursion Short (entries (insert m k v))
short_insert m k v h all = subst (λ (es : List Ref). AllByRecursion Short es) (sym (entries-insert nat_list_cmp_total m k v)) (short_put k v (entries m) h all)

pub short_empty : AllByRecursion Short (entries (empty {X = ObjectId} {R = slice_cmp nat_cmp}))
short_empty = subst (λ (es : List Ref). AllByRecursion Short es) (sym entries-empty) tt
