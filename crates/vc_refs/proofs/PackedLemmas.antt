-- For the readers and the changes of packed refs: lines, names that stand once, and a map seen without its memory.
use Rattle.std.proofs.Common.{◌≡◌, ◌≢◌, ℕ, Bool, true, false, cond, List, ◌∷◌, ◌++◌, length, Option, Some, None, is_none, sym, ap, refl, ◌∙◌, subst, append_assoc, append-nil, []}
use Rattle.std.specs.Prelude.{IfSome, IfNone, T, option_map, option_and_then}
use Rattle.std.specs.BTreeMap.{BTreeMap, get_by, is_at, UpdatesBy, IsFromIterResult, IsOrdered}
use Rattle.std.specs.FinMap.{from_entries, get, insert, remove, empty, get-from_entries, get-insert, get-remove, same_map, len-entries, len-empty, entries, entries_sorted, get-entries, entries-insert, slice_cmp-IsAntisymmetric, nat_cmp-IsAntisymmetric}
use Rattle.std.specs.FinMap.Entries.{find, put, by_order, below_all, is_sorted}
use Rattle.std.specs.Ordering.{nat_cmp, is_eq, is_lt, eq_by_cmp}
use Rattle.std.specs.declared.cmp.Ordering.{Ordering}
use Rattle.std.specs.declared.cmp.Ordering.TheVariants.{Less, Equal, Greater}
use Rattle.std.specs.Cmp.{Equal-is, eq_by_cmp_equiv, tied_itself}
use Rattle.std.specs.Cmp.Lexicographic.{slice_cmp, nat_list_cmp_total}
use Rattle.std.specs.Map.{lookup, keys_of}
use Rattle.std.specs.List.{AllByRecursion, IsDistinct, list_all}
use Rattle.std.specs.List.Sorted.{IsStrictlySortedBy}
use Rattle.std.specs.Str.{is_utf8}
use Rattle.std.proofs.lemmas.Bool.{and_parts, and_from}
use Rattle.std.proofs.lemmas.Map.Entries.{length-keys_of}
use Rattle.std.proofs.lemmas.Map.Made.{IsDistinct-from_count, distinct_count-from_IsDistinct, update_all_none}
use Rattle.std.proofs.lemmas.Map.Views.{btree_map_len-from_list}
use Rattle.std.proofs.lemmas.List.{nil_from_length}
use Rattle.vc_lemmas.proofs.Lists.{none_parts}
use Rattle.vc_object.specs.declared.id.ObjectId.{ObjectId}
use Rattle.vc_refs.specs.Packed.{PackedMap, PackedRef, IsBadPacked, IsPackedMap, apart_map, is_comment, is_packed_name, is_peeled, lines, map_of, may_be_packed, names_once, packed_name, packed_refs, ref_in, refs_in, with_ref_first}
use Rattle.vc_refs.specs.PackedView.{packed_of}
use Rattle.vc_refs.specs.RefMap.{is_ref}

abbrev by_bytes : List ℕ → List ℕ → Ordering
by_bytes = slice_cmp nat_cmp

-- ---- names
pub packed_name-bad : (text : List ℕ) → is_utf8 text ≡ false → packed_name text ≡ None
packed_name-bad text e = rw e refl

pub packed_name-text : (text : List ℕ) → is_utf8 text ≡ true → packed_name text ≡ cond (is_ref text) (Some text) None
packed_name-text text e = rw e refl

same_some : (a b : List ℕ) → Some a ≡ Some b → a ≡ b
same_some a b e = cc e

valid_at : (text : List ℕ) (b : Bool) → is_packed_name text ≡ b → (found : Option (List ℕ)) → found ≡ cond b (Some text) None → IfSome found (λ name. is_packed_name name ≡ true)
valid_at text b is None e = tt
valid_at text true is (Some name) e = ap is_packed_name (same_some name text e) ∙ is
valid_at text false is (Some name) e = absurd (cc e)

pub packed_name-valid : (text : List ℕ) (found : Option (List ℕ)) → found ≡ packed_name text → IfSome found (λ name. is_packed_name name ≡ true)
packed_name-valid text found e = valid_at text (is_packed_name text) refl found e

-- ---- lines
module _ (done : List PackedRef) where
  -- what the lines give after the refs that are done
  abbrev pub behind_refs : Option (List PackedRef) → Option (List PackedRef)
  behind_refs rest = option_map (λ (refs : List PackedRef). done ++ refs) rest

  one_more : (ref : PackedRef) (rest : Option (List PackedRef)) → behind_refs (with_ref_first (Some ref) rest) ≡ option_map (λ (refs : List PackedRef). (done ++ ref ∷ []) ++ refs) rest
  one_more ref None = refl
  one_more ref (Some refs) = ap Some (sym (append_assoc done (ref ∷ []) refs))

  -- a comment, wherever it stands
  pub line-comment : (behind : Bool) (line : List ℕ) (others : List (List ℕ)) → is_comment line ≡ true → behind_refs (refs_in behind (line ∷ others)) ≡ behind_refs (refs_in false others)
  line-comment behind line others comment = rw comment refl

  -- a peeled line after that of a ref
  pub line-peeled : (line : List ℕ) (others : List (List ℕ)) → is_comment line ≡ false → is_peeled line ≡ true → behind_refs (refs_in true (line ∷ others)) ≡ behind_refs (refs_in false others)
  line-peeled line others comment peeled = rw (comment, peeled) refl

  -- and anywhere else
  pub line-misplaced : (line : List ℕ) (others : List (List ℕ)) → is_comment line ≡ false → is_peeled line ≡ true → behind_refs (refs_in false (line ∷ others)) ≡ None
  line-misplaced line others comment peeled = rw (comment, peeled) refl

  -- the line of a ref
  pub line-ref : (behind : Bool) (line : List ℕ) (others : List (List ℕ)) (ref : PackedRef) → is_comment line ≡ false → is_peeled line ≡ false → ref_in line ≡ Some ref
      → behind_refs (refs_in behind (line ∷ others)) ≡ option_map (λ (refs : List PackedRef). (done ++ ref ∷ []) ++ refs) (refs_in true others)
  line-ref behind line others ref comment peeled found = rw (comment, peeled, found) (one_more ref (refs_in true others))

  -- a line of no kind
  pub line-other : (behind : Bool) (line : List ℕ) (others : List (List ℕ)) → is_comment line ≡ false → is_peeled line ≡ false → ref_in line ≡ None → behind_refs (refs_in behind (line ∷ others)) ≡ None
  line-other behind line others comment peeled found = rw (comment, peeled, found) refl

  pub lines-end : (behind : Bool) → behind_refs (refs_in behind []) ≡ Some done
  lines-end behind = ap Some (append-nil done)

-- ---- names that stand once
-- two texts that compare equal are the same
pub same_name : (a b : List ℕ) → is_eq (by_bytes a b) ≡ true → a ≡ b
same_name a b e = slice_cmp-IsAntisymmetric nat_cmp-IsAntisymmetric a b ((Equal-is _).0 e)

is_eq-same : (a : List ℕ) → is_eq (by_bytes a a) ≡ true
is_eq-same a = ap is_eq (tied_itself nat_list_cmp_total a)

pub map_of-once : (refs : List PackedRef) → names_once refs ≡ true → map_of refs ≡ Some (from_entries refs)
map_of-once refs once = rw once refl

pub map_of-twice : (refs : List PackedRef) → names_once refs ≡ false → map_of refs ≡ None
map_of-twice refs twice = rw twice refl

-- ---- a tree of names, seen as a finite map
find_view : (q : List ℕ) (es : List PackedRef) → find by_bytes q es ≡ lookup (is_at (by_bytes q)) es
find_view q [] = refl
find_view q (e ∷ es) = ap (cond (is_eq (by_bytes q e.0)) (Some e.1)) (find_view q es)

pub get-packed_of : (m : BTreeMap (List ℕ) ObjectId) (q : List ℕ) → get (packed_of m) q ≡ get_by (by_bytes q) m
get-packed_of m q = get-from_entries nat_list_cmp_total _ q ∙ find_view q m.entries

updated : (m n : BTreeMap (List ℕ) ObjectId) (k : List ℕ) (w : Option ObjectId) → UpdatesBy by_bytes (by_bytes k) m n w
    → (q : List ℕ) → get (packed_of n) q ≡ cond (eq_by_cmp by_bytes q k) w (get (packed_of m) q)
updated m n k w change q =
    get-packed_of n q ∙ change.0 q ∙ ap (λ b. cond b w (get_by (by_bytes q) m)) ((eq_by_cmp_equiv nat_list_cmp_total).symm k q) ∙ ap (cond (eq_by_cmp by_bytes q k) w) (sym (get-packed_of m q))

same_packed : (m n : PackedMap) → ((q : List ℕ) → get m q ≡ get n q) → m ≡ n
same_packed m n is = same_map nat_list_cmp_total (slice_cmp-IsAntisymmetric nat_cmp-IsAntisymmetric) m n is

-- a ref that is set
pub packed_of-set : (m n : BTreeMap (List ℕ) ObjectId) (k : List ℕ) (v : ObjectId) → UpdatesBy by_bytes (by_bytes k) m n (Some v) → packed_of n ≡ insert (packed_of m) k v
packed_of-set m n k v change = same_packed _ _ (λ q. updated m n k (Some v) change q ∙ sym (get-insert nat_list_cmp_total (packed_of m) k v q))

-- a ref that is taken away
pub packed_of-unset : (m n : BTreeMap (List ℕ) ObjectId) (k : List ℕ) → UpdatesBy by_bytes (by_bytes k) m n None → packed_of n ≡ remove (packed_of m) k
packed_of-unset m n k change = same_packed _ _ (λ q. updated m n k None change q ∙ sym (get-remove nat_list_cmp_total (packed_of m) k q))

first_in : (k : List ℕ) (v : ObjectId) (es : List PackedRef) → AllByRecursion (λ s. by_bytes k s ≡ Less) (keys_of es) → put by_bytes k v es ≡ (k, v) ∷ es
first_in k v [] below = refl
first_in k v (e ∷ es) below = ap (λ r. by_order r ((k, v) ∷ e ∷ es) ((e.0, v) ∷ es) (e ∷ put by_bytes k v es)) below.0

pub entries-none : entries (empty {X = ObjectId} {R = by_bytes}) ≡ []
entries-none = nil_from_length _ (sym (len-entries (empty {X = ObjectId} {R = by_bytes})) ∙ len-empty by_bytes ObjectId)

entries_kept : (es : List PackedRef) → IsStrictlySortedBy by_bytes (keys_of es) → entries (from_entries {R = by_bytes} es) ≡ es
unfolding IsStrictlySortedBy
entries_kept [] sorted = entries-none
entries_kept (e ∷ es) sorted =
    entries-insert nat_list_cmp_total (from_entries es) e.0 e.1
    ∙ ap (put by_bytes e.0 e.1) (entries_kept es sorted.1)
    ∙ first_in e.0 e.1 es sorted.0

-- the entries of the map are those of the tree, in order
pub entries-packed_of : (m : BTreeMap (List ℕ) ObjectId) → IsOrdered by_bytes m → entries (packed_of m) ≡ m.entries
entries-packed_of m ordered = entries_kept m.entries ordered

-- what is listed are the refs of the map
pub iter_refs : (m : BTreeMap (List ℕ) ObjectId) (refs : PackedMap) (listed : List PackedRef) → packed_of m ≡ refs → IsOrdered by_bytes m → listed ≡ m.entries → listed ≡ entries refs
iter_refs m refs listed seen ordered is = is ∙ sym (entries-packed_of m ordered) ∙ ap entries seen

pub packed_of-new : (m : BTreeMap (List ℕ) ObjectId) → m.entries ≡ [] → packed_of m ≡ empty
packed_of-new m none = ap (λ es. from_entries es) none

-- ---- what may be packed
pub empty-IsPackedMap : IsPackedMap empty
empty-IsPackedMap = ap (list_all may_be_packed) entries-none

module _ (k : List ℕ) (v : ObjectId) (one : may_be_packed (k, v) ≡ true) where
  here_put : (e : PackedRef) (es : List PackedRef) (order : Ordering) → by_bytes k e.0 ≡ order → list_all may_be_packed (e ∷ es) ≡ true → list_all may_be_packed (put by_bytes k v es) ≡ true
      → list_all may_be_packed (by_order order ((k, v) ∷ e ∷ es) ((e.0, v) ∷ es) (e ∷ put by_bytes k v es)) ≡ true
  here_put e es Less is all later = and_from _ _ one all
  here_put e es Equal is all later =
      let same : k ≡ e.0 = same_name k e.0 (ap is_eq is) in
      and_from _ _ (ap (λ n. may_be_packed (n, v)) (sym same) ∙ one) (and_parts (may_be_packed e) (list_all may_be_packed es) all).1
  here_put e es Greater is all later = and_from _ _ (and_parts (may_be_packed e) (list_all may_be_packed es) all).0 later

  all_put : (es : List PackedRef) → list_all may_be_packed es ≡ true → list_all may_be_packed (put by_bytes k v es) ≡ true
  all_put [] all = and_from _ _ one refl
  all_put (e ∷ es) all = here_put e es (by_bytes k e.0) refl all (all_put es (and_parts (may_be_packed e) (list_all may_be_packed es) all).1)

  -- a ref more
  pub insert-IsPackedMap : (m : PackedMap) → IsPackedMap m → IsPackedMap (insert m k v)
  insert-IsPackedMap m all = ap (list_all may_be_packed) (entries-insert nat_list_cmp_total m k v) ∙ all_put (entries m) all

-- refs that may be packed make such a map
pub from_entries-IsPackedMap : (es : List PackedRef) → list_all may_be_packed es ≡ true → IsPackedMap (from_entries es)
from_entries-IsPackedMap [] all = empty-IsPackedMap
from_entries-IsPackedMap (e ∷ es) all =
    let parts = and_parts (may_be_packed e) (list_all may_be_packed es) all in
    insert-IsPackedMap e.0 e.1 parts.0 (from_entries es) (from_entries-IsPackedMap es parts.1)

pub of_T : (b : Bool) → T b → b ≡ true
of_T true h = refl
of_T false h = absurd h

not_equal : (o : Ordering) → is_lt o ≡ true → is_eq o ≡ false
not_equal Less e = refl
not_equal Equal e = absurd (cc e)
not_equal Greater e = absurd (cc e)

-- a name below all others is not among them
pub find_below : (x : List ℕ) (es : List PackedRef) → below_all by_bytes x es ≡ true → find by_bytes x es ≡ None
find_below x [] below = refl
find_below x (e ∷ es) below =
    let parts = and_parts (is_lt (by_bytes x e.0)) (below_all by_bytes x es) below in
    ap (λ b. cond b (Some e.1) (find by_bytes x es)) (not_equal (by_bytes x e.0) parts.0) ∙ find_below x es parts.1

nothing : (v : ObjectId) → None ≡ Some v → ⊥
nothing v e = cc e

same_id : (v w : ObjectId) → Some v ≡ Some w → v ≡ w
same_id v w e = cc e

-- what is found passes if all do
pub all_found : (q : List ℕ) (v : ObjectId) (es : List PackedRef) → list_all may_be_packed es ≡ true → find by_bytes q es ≡ Some v → may_be_packed (q, v) ≡ true
all_found q v [] all is = absurd (nothing v is)
all_found q v (e ∷ es) all is =
    let parts = and_parts (may_be_packed e) (list_all may_be_packed es) all in
    elim (is_eq (by_bytes q e.0)) as (λ b. is_eq (by_bytes q e.0) ≡ b → cond b (Some e.1) (find by_bytes q es) ≡ Some v → may_be_packed (q, v) ≡ true) [
      | true ↦ λ same found. ap (λ (n : List ℕ). may_be_packed (n, v)) (same_name q e.0 same) ∙ ap (λ (i : ObjectId). may_be_packed (e.0, i)) (sym (same_id e.1 v found)) ∙ parts.0
      | false ↦ λ other later. all_found q v es parts.1 later
    ] refl is

-- all pass if each that is found does
found_all : (es : List PackedRef) → is_sorted by_bytes es ≡ true → ((q : List ℕ) (v : ObjectId) → find by_bytes q es ≡ Some v → may_be_packed (q, v) ≡ true) → list_all may_be_packed es ≡ true
found_all [] sorted each = refl
found_all (e ∷ es) sorted each =
    let parts = and_parts (below_all by_bytes e.0 es) (is_sorted by_bytes es) sorted in
    and_from _ _ (each e.0 e.1 (ap (λ b. cond b (Some e.1) (find by_bytes e.0 es)) (is_eq-same e.0))) (found_all es parts.1 (λ q v is. each q v (later parts.0 q v is)))
  where
    later : below_all by_bytes e.0 es ≡ true → (q : List ℕ) (v : ObjectId) → find by_bytes q es ≡ Some v → find by_bytes q (e ∷ es) ≡ Some v
    later below q v is =
        elim (is_eq (by_bytes q e.0)) as (λ b. is_eq (by_bytes q e.0) ≡ b → cond b (Some e.1) (find by_bytes q es) ≡ Some v) [
          | true ↦ λ same. absurd (nothing v (sym (find_below e.0 es below) ∙ ap (λ (n : List ℕ). find by_bytes n es) (sym (same_name q e.0 same)) ∙ is))
          | false ↦ λ other. is
        ] refl

of_kept : (b : Bool) (o : Option ObjectId) (v : ObjectId) → cond b None o ≡ Some v → o ≡ Some v
of_kept true o v is = absurd (nothing v is)
of_kept false o v is = is

-- a ref less
pub remove-IsPackedMap : (m : PackedMap) (k : List ℕ) → IsPackedMap m → IsPackedMap (remove m k)
remove-IsPackedMap m k all =
    found_all (entries (remove m k)) (of_T _ (entries_sorted (remove m k)))
    (λ q v is. all_found q v (entries m) all
    (sym (get-entries m q) ∙ of_kept (eq_by_cmp by_bytes q k) (get m q) v (sym (get-remove nat_list_cmp_total m k q) ∙ get-entries (remove m k) q ∙ is)))

-- ---- a tree that is made of all refs at once
absent_apart : (name : List ℕ) (refs : List PackedRef) → find by_bytes name refs ≡ None → AllByRecursion (λ other. eq_by_cmp by_bytes name other ≡ false) (keys_of refs)
absent_apart name [] none = tt
absent_apart name (ref ∷ refs) none =
    let apart = none_parts (is_eq (by_bytes name ref.0)) ref.1 (find by_bytes name refs) none in
    (apart.0, absent_apart name refs apart.1)

apart_absent : (name : List ℕ) (refs : List PackedRef) → AllByRecursion (λ other. eq_by_cmp by_bytes name other ≡ false) (keys_of refs) → is_none (find by_bytes name refs) ≡ true
apart_absent name [] apart = refl
apart_absent name (ref ∷ refs) apart = ap (λ b. is_none (cond b (Some ref.1) (find by_bytes name refs))) apart.0 ∙ apart_absent name refs apart.1

no_value : (o : Option ObjectId) → is_none o ≡ true → o ≡ None
no_value None e = refl
no_value (Some v) e = absurd (cc e)

-- names that stand once are keys of which no two are equal
once_distinct : (refs : List PackedRef) → names_once refs ≡ true → IsDistinct (eq_by_cmp by_bytes) (keys_of refs)
unfolding IsDistinct
once_distinct [] once = tt
once_distinct (ref ∷ refs) once =
    let parts = and_parts (is_none (find by_bytes ref.0 refs)) (names_once refs) once in
    (absent_apart ref.0 refs (no_value _ parts.0), once_distinct refs parts.1)

distinct_once : (refs : List PackedRef) → IsDistinct (eq_by_cmp by_bytes) (keys_of refs) → names_once refs ≡ true
unfolding IsDistinct
distinct_once [] distinct = refl
distinct_once (ref ∷ refs) distinct = and_from _ _ (apart_absent ref.0 refs distinct.0) (distinct_once refs distinct.1)

module _ (refs : List PackedRef) (m : BTreeMap (List ℕ) ObjectId) (made : IsFromIterResult by_bytes refs m) where
  collected_once : length m.entries ≡ length refs → names_once refs ≡ true
  collected_once same = distinct_once refs (IsDistinct-from_count (eq_by_cmp_equiv nat_list_cmp_total) (keys_of refs) (sym (btree_map_len-from_list nat_list_cmp_total refs m made) ∙ same ∙ sym (length-keys_of refs)))

  -- fewer entries than refs: a name stands twice
  pub collected_twice : length m.entries ≢ length refs → map_of refs ≡ None
  collected_twice fewer = elim (names_once refs) as (λ b. names_once refs ≡ b → map_of refs ≡ None) [
    | true ↦ λ once. absurd (fewer (btree_map_len-from_list nat_list_cmp_total refs m made ∙ distinct_count-from_IsDistinct (eq_by_cmp_equiv nat_list_cmp_total) (keys_of refs) (once_distinct refs once) ∙ length-keys_of refs))
    | false ↦ λ twice. map_of-twice refs twice
  ] refl

  same_refs : names_once refs ≡ true → packed_of m ≡ from_entries refs
  same_refs once =
      same_packed (packed_of m) (from_entries refs) (λ q.
      get-packed_of m q ∙ made.0 q
      ∙ update_all_none (eq_by_cmp_equiv nat_list_cmp_total) (eq_by_cmp by_bytes) (λ a b. refl) refs q (once_distinct refs once)
      ∙ sym (find_view q refs) ∙ sym (get-from_entries nat_list_cmp_total refs q))

  -- as many: each stands once
  pub all_collected : length m.entries ≡ length refs → map_of refs ≡ Some (packed_of m)
  all_collected same = map_of-once refs (collected_once same) ∙ ap Some (sym (same_refs (collected_once same)))

  pub collected-IsPackedMap : length m.entries ≡ length refs → list_all may_be_packed refs ≡ true → IsPackedMap (packed_of m)
  collected-IsPackedMap same valid = subst IsPackedMap (sym (same_refs (collected_once same))) (from_entries-IsPackedMap refs valid)

-- ---- the whole text
pub read_lines : (text : List ℕ) (found_lines : List (List ℕ)) (found : Option (List PackedRef)) → found_lines ≡ lines text → found ≡ refs_in false found_lines → packed_refs text ≡ option_and_then apart_map (option_and_then map_of found)
unfolding packed_refs
read_lines text found_lines found e f = ap (λ l. option_and_then apart_map (option_and_then map_of (refs_in false l))) (sym e) ∙ ap (λ o. option_and_then apart_map (option_and_then map_of o)) (sym f)

pub read_map : (text : List ℕ) (found_lines : List (List ℕ)) (refs : List PackedRef) (m : Option PackedMap) → found_lines ≡ lines text → Some refs ≡ refs_in false found_lines → m ≡ map_of refs → packed_refs text ≡ option_and_then apart_map m
read_map text found_lines refs m e f g = read_lines text found_lines (Some refs) e f ∙ ap (option_and_then apart_map) (sym g)

pub bad_where_none : (text : List ℕ) (found : Option PackedMap) → found ≡ packed_refs text → IfNone found (IsBadPacked text)
bad_where_none text None e = sym e
bad_where_none text (Some m) e = tt
