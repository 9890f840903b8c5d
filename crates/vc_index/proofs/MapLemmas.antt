-- A tree of paths, seen as a finite map, and what a change of it does to an index.
use Rattle.std.proofs.Common.{◌≡◌, ℕ, true, false, cond, List, [], ◌∷◌, map, Option, Some, None, sym, ap, refl, ◌∙◌, subst, length, arith, length-append, ◌⊎◌, inl, inr}
use Rattle.std.specs.Prelude.{Vec, IsSome, is_some}
use Rattle.std.specs.Global.{Global}
use Rattle.std.specs.BTreeMap.{BTreeMap, get_by, is_at, UpdatesBy, IsOrdered}
use Rattle.std.specs.FinMap.{from_entries, find, get, insert, remove, empty, get-empty, get-from_entries, get-insert, get-remove, same_map, len-entries, len-empty, entries, entries-insert, slice_cmp-IsAntisymmetric, nat_cmp-IsAntisymmetric}
use Rattle.std.specs.FinMap.Entries.{put, by_order}
use Rattle.std.specs.Ordering.{nat_cmp, is_eq, eq_by_cmp}
use Rattle.std.specs.declared.cmp.Ordering.{Ordering}
use Rattle.std.specs.declared.cmp.Ordering.TheVariants.{Less}
use Rattle.std.specs.Cmp.{Equal-is, eq_by_cmp_equiv, tied_itself}
use Rattle.std.specs.Cmp.Lexicographic.{slice_cmp, nat_list_cmp_total}
use Rattle.std.specs.Map.{lookup, keys_of, KeepsOthers}
use Rattle.std.specs.List.{AllByRecursion}
use Rattle.std.specs.List.Sorted.{IsStrictlySortedBy}
use Rattle.std.proofs.lemmas.Bool.{false_from_ne_true}
use Rattle.std.proofs.lemmas.List.{nil_from_length}
use Rattle.vc_index.specs.IndexMap.{IndexMap, index_of, IsIndex, IsFile, HasConflict}
use Rattle.vc_index.specs.Path.{IsAbove}
use Rattle.vc_index.specs.declared.entry.IndexEntry.{IndexEntry}

abbrev pub Entries : Type 0
Entries = List (Vec ℕ Global × IndexEntry)

abbrev pub key_cmp : Vec ℕ Global → Vec ℕ Global → Ordering
key_cmp x y = slice_cmp nat_cmp x.items y.items

-- two texts that compare equal are the same
pub same_text : (a b : List ℕ) → is_eq (slice_cmp nat_cmp a b) ≡ true → a ≡ b
same_text a b e = slice_cmp-IsAntisymmetric nat_cmp-IsAntisymmetric a b ((Equal-is _).0 e)

pub is_eq-same : (a : List ℕ) → is_eq (slice_cmp nat_cmp a a) ≡ true
is_eq-same a = ap is_eq (tied_itself nat_list_cmp_total a)

pub find_view : (q : List ℕ) (es : Entries) → find (slice_cmp nat_cmp) q (map (λ e. (e.0.items, e.1)) es) ≡ lookup (is_at (λ k. slice_cmp nat_cmp q k.items)) es
find_view q [] = refl
find_view q (e ∷ es) = ap (cond (is_eq (slice_cmp nat_cmp q e.0.items)) (Some e.1)) (find_view q es)

-- what the index has at a path is what the tree of paths has
pub get-index_of : (m : BTreeMap (Vec ℕ Global) IndexEntry) (q : List ℕ) → get (index_of m) q ≡ get_by (λ k. slice_cmp nat_cmp q k.items) m
get-index_of m q = get-from_entries nat_list_cmp_total _ q ∙ find_view q m.entries

updated : (m n : BTreeMap (Vec ℕ Global) IndexEntry) (k : List ℕ) (w : Option IndexEntry) → UpdatesBy key_cmp (λ s. slice_cmp nat_cmp k s.items) m n w
    → (q : List ℕ) → get (index_of n) q ≡ cond (eq_by_cmp (slice_cmp nat_cmp) q k) w (get (index_of m) q)
unfolding KeepsOthers
updated m n k w change q =
    elim (is_eq (slice_cmp nat_cmp q k)) as (λ b. is_eq (slice_cmp nat_cmp q k) ≡ b → get (index_of n) q ≡ cond b w (get (index_of m) q)) [
      | true ↦ λ same. ap (get (index_of n)) (same_text q k same) ∙ get-index_of n k ∙ change.1
      | false ↦ λ other.
          get-index_of n q
          ∙ change.3 (is_at (λ s. slice_cmp nat_cmp q s.items))
          (λ x y. (eq_by_cmp_equiv nat_list_cmp_total).congr q x.items y.items)
          (λ x at. false_from_ne_true _ (λ too.
          let e : q ≡ k = same_text q x.items too ∙ sym (same_text k x.items at) in
          let f : is_eq (slice_cmp nat_cmp q k) ≡ true = ap (λ t. is_eq (slice_cmp nat_cmp q t)) (sym e) ∙ is_eq-same q in
          cc (f, other)))
          ∙ sym (get-index_of m q)
    ] refl

-- an entry that is set
pub index_of-set : (m n : BTreeMap (Vec ℕ Global) IndexEntry) (k : List ℕ) (v : IndexEntry) → UpdatesBy key_cmp (λ s. slice_cmp nat_cmp k s.items) m n (Some v) → index_of n ≡ insert (index_of m) k v
index_of-set m n k v change = same_map nat_list_cmp_total (slice_cmp-IsAntisymmetric nat_cmp-IsAntisymmetric) _ _ (λ q. updated m n k (Some v) change q ∙ sym (get-insert nat_list_cmp_total (index_of m) k v q))

-- an entry that is taken out
pub index_of-unset : (m n : BTreeMap (Vec ℕ Global) IndexEntry) (k : List ℕ) → UpdatesBy key_cmp (λ s. slice_cmp nat_cmp k s.items) m n None → index_of n ≡ remove (index_of m) k
index_of-unset m n k change = same_map nat_list_cmp_total (slice_cmp-IsAntisymmetric nat_cmp-IsAntisymmetric) _ _ (λ q. updated m n k None change q ∙ sym (get-remove nat_list_cmp_total (index_of m) k q))

first_in : (k : List ℕ) (v : IndexEntry) (es : Entries) → AllByRecursion (λ s. slice_cmp nat_cmp k s.items ≡ Less) (keys_of es) → put (slice_cmp nat_cmp) k v (map (λ e. (e.0.items, e.1)) es) ≡ (k, v) ∷ map (λ e. (e.0.items, e.1)) es
first_in k v [] below = refl
first_in k v (e ∷ es) below =
    ap (λ r. by_order r ((k, v) ∷ (e.0.items, e.1) ∷ map (λ e. (e.0.items, e.1)) es) ((e.0.items, v) ∷ map (λ e. (e.0.items, e.1)) es) ((e.0.items, e.1) ∷ put (slice_cmp nat_cmp) k v (map (λ e. (e.0.items, e.1)) es))) below.0

pub entries-empty : entries (empty {X = IndexEntry} {R = slice_cmp nat_cmp}) ≡ []
entries-empty = nil_from_length _ (sym (len-entries (empty {X = IndexEntry} {R = slice_cmp nat_cmp})) ∙ len-empty (slice_cmp nat_cmp) IndexEntry)

entries_kept : (es : Entries) → IsStrictlySortedBy key_cmp (keys_of es) → entries (from_entries {R = slice_cmp nat_cmp} (map (λ e. (e.0.items, e.1)) es)) ≡ map (λ e. (e.0.items, e.1)) es
unfolding IsStrictlySortedBy
entries_kept [] sorted = entries-empty
entries_kept (e ∷ es) sorted =
    entries-insert nat_list_cmp_total (from_entries (map (λ e. (e.0.items, e.1)) es)) e.0.items e.1
    ∙ ap (put (slice_cmp nat_cmp) e.0.items e.1) (entries_kept es sorted.1)
    ∙ first_in e.0.items e.1 es sorted.0

-- the entries of the index are those of the tree of paths, in order
pub entries-index_of : (m : BTreeMap (Vec ℕ Global) IndexEntry) → IsOrdered key_cmp m → entries (index_of m) ≡ map (λ e. (e.0.items, e.1)) m.entries
entries-index_of m ordered = entries_kept m.entries ordered

pub index_of-new : (m : BTreeMap (Vec ℕ Global) IndexEntry) → m.entries ≡ [] → index_of m ≡ empty
index_of-new m none = ap (λ es. from_entries (map (λ e. (e.0.items, e.1)) es)) none

-- ---- what keeps an index one
nothing : {A : Type 0} (x : A) → None ≡ Some x → ⊥
nothing x e = cc e

pub no_some : (o : Option IndexEntry) → o ≡ None → IsSome o → ⊥
no_some o none some = cc

pub empty-IsIndex : IsIndex empty
empty-IsIndex = record {
  file = λ path entry is. absurd (nothing entry (sym (get-empty (slice_cmp nat_cmp) path) ∙ is));
  apart = λ path other p q above. no_some _ (get-empty (slice_cmp nat_cmp) path) p;
}

-- no path is that of a folder above itself
not_above : (path : List ℕ) → IsAbove path path → ⊥
not_above path above = omega (arith, ap length above.1, length-append path (47 ∷ above.0))

pub same_some : (x y : IndexEntry) → Some x ≡ Some y → x ≡ y
same_some x y e = cc e

module _ (m : IndexMap) (k : List ℕ) where
  pub got : (q : List ℕ) (v : IndexEntry) → (q ≡ k) ⊎ (get (insert m k v) q ≡ get m q)
  got q v = elim (is_eq (slice_cmp nat_cmp q k)) as (λ b. is_eq (slice_cmp nat_cmp q k) ≡ b → (q ≡ k) ⊎ (get (insert m k v) q ≡ get m q)) [
    | true ↦ λ same. inl (same_text q k same)
    | false ↦ λ other. inr (get-insert nat_list_cmp_total m k v q ∙ ap (λ b. cond b (Some v) (get m q)) other)
  ] refl

  -- what stands at the path that was set
  pub get-insert_same : (v : IndexEntry) → get (insert m k v) k ≡ Some v
  get-insert_same v = get-insert nat_list_cmp_total m k v k ∙ ap (λ b. cond b (Some v) (get m k)) (is_eq-same k)

  left : (q : List ℕ) → (get (remove m k) q ≡ None) ⊎ (get (remove m k) q ≡ get m q)
  left q = elim (is_eq (slice_cmp nat_cmp q k)) as (λ b. is_eq (slice_cmp nat_cmp q k) ≡ b → (get (remove m k) q ≡ None) ⊎ (get (remove m k) q ≡ get m q)) [
    | true ↦ λ same. inl (get-remove nat_list_cmp_total m k q ∙ ap (λ b. cond b None (get m q)) same)
    | false ↦ λ other. inr (get-remove nat_list_cmp_total m k q ∙ ap (λ b. cond b None (get m q)) other)
  ] refl

  -- a file more, where it conflicts with none
  pub insert-IsIndex : (v : IndexEntry) → IsIndex m → IsFile k v → (HasConflict m k → ⊥) → IsIndex (insert m k v)
  insert-IsIndex v sound new free = record {
    file = λ path entry is. elim (got path v) [
      | inl same ↦
          let e : v ≡ entry = same_some v entry (sym (get-insert_same v) ∙ ap (get (insert m k v)) (sym same) ∙ is) in
          subst (λ (t : IndexEntry). IsFile path t) e (subst (λ (t : List ℕ). IsFile t v) (sym same) new)
      | inr old ↦ sound.file path entry (sym old ∙ is)
    ];
    apart = λ path other p q above. elim (got path v) [
      | inl same ↦ elim (got other v) [
        | inl too ↦ not_above k (subst (λ (t : List ℕ). IsAbove k t) too (subst (λ (t : List ℕ). IsAbove t other) same above))
        | inr old ↦ free (other, subst IsSome old q, inr (subst (λ (t : List ℕ). IsAbove t other) same above))
      ]
      | inr was ↦ elim (got other v) [
        | inl too ↦ free (path, subst IsSome was p, inl (subst (λ (t : List ℕ). IsAbove path t) too above))
        | inr old ↦ sound.apart path other (subst IsSome was p) (subst IsSome old q) above
      ]
    ];
  }

  -- a file less
  pub remove-IsIndex : IsIndex m → IsIndex (remove m k)
  remove-IsIndex sound = record {
    file = λ path entry is. elim (left path) [
      | inl none ↦ absurd (nothing entry (sym none ∙ is))
      | inr old ↦ sound.file path entry (sym old ∙ is)
    ];
    apart = λ path other p q above. elim (left path) [
      | inl none ↦ no_some _ none p
      | inr was ↦ elim (left other) [
        | inl none ↦ no_some _ none q
        | inr old ↦ sound.apart path other (subst IsSome was p) (subst IsSome old q) above
      ]
    ];
  }

pub none_of_test : (o : Option IndexEntry) → is_some o ≡ false → o ≡ None
none_of_test None e = refl
none_of_test (Some v) e = cc e
