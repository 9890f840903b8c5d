-- Lists of paths and the names that stand in them.
use Rattle.std.proofs.Common.{◌≡◌, ℕ, ◌<◌, ◌+◌, Bool, true, false, cond, ◌||◌, ◌&&◌, nat_eq, List, [], ◌∷◌, ◌++◌, map, take, length, get_or, Option, Some, None, Result, Ok, Err, option_map, sym, ap, refl, subst, ◌∙◌, ◌⊎◌, inl, inr, append-nil}
use Rattle.std.specs.Prelude.{String, string_bytes, filter_map, filter, bytes_eq, codes, is_some, IsSome, Contains, ◌↔◌}
use Rattle.std.specs.FinMap as files
use Rattle.std.specs.FinMap.{contains_key-keys, entries_sorted}
use Rattle.std.specs.Cmp.Lexicographic.{slice_cmp}
use Rattle.std.specs.Ordering.{nat_cmp, eq_by_cmp}
use Rattle.std.specs.declared.cmp.Ordering.TheVariants.{Less}
use Rattle.std.specs.List.{list_any, list_all, starts_with, AllByRecursion}
use Rattle.std.specs.List.Sorted.{IsStrictlySortedBy}
use Rattle.std.specs.Char.{is_ascii_hexdigit}
use Rattle.std.specs.Str.{str_to_ascii_lowercase}
use Rattle.std.specs.Result.{result_ok}
use Rattle.std.proofs.lemmas.Bool.{false_from_ne_true, or_cases, and_parts, and_from}
use Rattle.std.proofs.lemmas.Slice.Eq.{bytes_eq-Decides}
use Rattle.std.proofs.lemmas.Map.Text.{is_eq-slice_cmp}
use Rattle.std.proofs.lemmas.Map.Views.{list_any-from_Contains, Contains-from_any, any-filter_same}
use Rattle.std.proofs.lemmas.List.Kept.{IsStrictlySortedBy-filter}
use Rattle.vc_files.proofs.KeyLemmas.{keys_rise}
use Rattle.vc_files.specs.FileMap.{FileMap, paths_under}
use Rattle.vc_object.specs.Decoding.{StoredObject, decoded}
use Rattle.vc_object.specs.Object.{object_name}
use Rattle.vc_object.specs.ObjectId.{is_id, id_eq, id_cmp, IsSortedByName}
use Rattle.vc_object.proofs.IdLemmas.{id_eq_equiv, id_eq-same}
use Rattle.std.specs.Global.{Global}
use Rattle.std.proofs.lemmas.List.{map_more}
use Rattle.std.proofs.lemmas.List.Elements.{filter_map-append}
use Rattle.std.specs.List.{cons_option}
use Rattle.vc_object.specs.declared.id.ObjectId.{ObjectId}
use Rattle.vc_object_map.specs.declared.faults.StoreFault.{StoreFault}
use Rattle.vc_object_map.specs.declared.faults.StoreFault.TheVariants.{Damaged}
use Rattle.vc_object_map.specs.Store.{object_path, name_in, stored, stored_in, named, objects, IsDamaged, HasFile, stored_names, has_digits, lower_case, prefix_path}
use Rattle.vc_store.proofs.PathLemmas.{name_in-some, name_in-object_path, slice_cmp-object_path, starts_with-object_path, has_digits-hex}

one_more : (all : List (String Global)) (i : ℕ) (path : String Global) → i < length all → path ≡ get_or all i path
    → filter_map name_in (map string_bytes (take (i + 1) all)) ≡ filter_map name_in (map string_bytes (take i all)) ++ filter_map name_in (string_bytes path ∷ [])
one_more all i path inside is =
    ap (filter_map name_in) (map_more string_bytes all i path inside ∙ ap (λ s. map string_bytes (take i all) ++ string_bytes s ∷ []) (sym is))
    ∙ filter_map-append name_in (map string_bytes (take i all)) (string_bytes path ∷ [])

pub one_more_none : (all : List (String Global)) (i : ℕ) (path : String Global) → i < length all → path ≡ get_or all i path → name_in (string_bytes path) ≡ None
    → filter_map name_in (map string_bytes (take (i + 1) all)) ≡ filter_map name_in (map string_bytes (take i all))
one_more_none all i path inside is none =
    one_more all i path inside is ∙ ap (λ o. filter_map name_in (map string_bytes (take i all)) ++ cons_option o []) none ∙ append-nil _

pub one_more_some : (all : List (String Global)) (i : ℕ) (path : String Global) (name : ObjectId) → i < length all → path ≡ get_or all i path → name_in (string_bytes path) ≡ Some name
    → filter_map name_in (map string_bytes (take (i + 1) all)) ≡ filter_map name_in (map string_bytes (take i all)) ++ name ∷ []
one_more_some all i path name inside is some =
    one_more all i path inside is ∙ ap (λ o. filter_map name_in (map string_bytes (take i all)) ++ cons_option o []) some

-- ---- names in the order of their paths

above_step : (p : List ℕ) (id : ObjectId) → name_in p ≡ Some id → (q : List ℕ) → slice_cmp nat_cmp p q ≡ Less → (found : Option ObjectId) → name_in q ≡ found
    → (rest : List ObjectId) → AllByRecursion (λ y. id_cmp id y ≡ Less) rest → AllByRecursion (λ y. id_cmp id y ≡ Less) (cons_option found rest)
above_step p id at q below None e rest all = all
above_step p id at q below (Some other) e rest all =
    let here = name_in-some p id at in
    let there = name_in-some q other e in
    let paths : slice_cmp nat_cmp (object_path id.0) (object_path other.0) ≡ Less = subst (λ x. slice_cmp nat_cmp x (object_path other.0) ≡ Less) here.0 (subst (λ y. slice_cmp nat_cmp p y ≡ Less) there.0 below) in
    (sym (slice_cmp-object_path id.0 other.0 here.1 there.1) ∙ paths, all)

above : (p : List ℕ) (id : ObjectId) → name_in p ≡ Some id → (qs : List (List ℕ)) → AllByRecursion (λ q. slice_cmp nat_cmp p q ≡ Less) qs → AllByRecursion (λ y. id_cmp id y ≡ Less) (filter_map name_in qs)
above p id at [] below = tt
above p id at (q ∷ qs) below = above_step p id at q below.0 (name_in q) refl (filter_map name_in qs) (above p id at qs below.1)

sorted_step : (p : List ℕ) (found : Option ObjectId) → name_in p ≡ found → (qs : List (List ℕ)) → AllByRecursion (λ q. slice_cmp nat_cmp p q ≡ Less) qs
    → IsSortedByName (filter_map name_in qs) → IsSortedByName (cons_option found (filter_map name_in qs))
unfolding IsStrictlySortedBy
sorted_step p None e qs below sorted = sorted
sorted_step p (Some id) e qs below sorted = (above p id e qs below, sorted)

names_rise : (ps : List (List ℕ)) → IsStrictlySortedBy (slice_cmp nat_cmp) ps → IsSortedByName (filter_map name_in ps)
unfolding IsStrictlySortedBy
names_rise [] sorted = tt
names_rise (p ∷ ps) sorted = sorted_step p (name_in p) refl ps sorted.0 (names_rise ps sorted.1)

-- the names of stored objects are sorted
pub stored_names-sorted : (content : FileMap) → IsSortedByName (stored_names content)
stored_names-sorted content =
    names_rise (paths_under content (codes "objects/"))
    (IsStrictlySortedBy-filter (slice_cmp nat_cmp) (λ path. starts_with nat_eq path (codes "objects/")) (files.keys content) (keys_rise (files.entries content) (entries_sorted content)))

-- ---- which names these are

same_path : (id : ObjectId) (p : List ℕ) → bytes_eq (object_path id.0) p ≡ true → object_path id.0 ≡ p
same_path id p h = (bytes_eq-Decides (object_path id.0) p).0 h

none_there : (id : ObjectId) (p : List ℕ) → is_id id ≡ true → name_in p ≡ None → bytes_eq (object_path id.0) p ≡ false
none_there id p valid none = false_from_ne_true _ (λ same.
    let found : name_in p ≡ Some id = subst (λ q. name_in q ≡ Some id) (same_path id p same) (name_in-object_path id.0 valid) in
    let no : Some id ≡ None = sym found ∙ none in
    cc no)

one_there : (id other : ObjectId) (p : List ℕ) → is_id id ≡ true → name_in p ≡ Some other → (t : Bool) → id_eq id other ≡ t → bytes_eq (object_path id.0) p ≡ t
one_there id other p valid some true e =
    let same : id ≡ other = id_eq-same id other e in
    (bytes_eq-Decides (object_path id.0) p).1 (ap (λ (i : ObjectId). object_path i.0) same ∙ sym (name_in-some p other some).0)
one_there id other p valid some false e = false_from_ne_true _ (λ same.
    let found : name_in p ≡ Some id = subst (λ q. name_in q ≡ Some id) (same_path id p same) (name_in-object_path id.0 valid) in
    let one : id ≡ other = cc (found, some) in
    let yes : id_eq id other ≡ true = subst (λ (i : ObjectId). id_eq id i ≡ true) one (id_eq_equiv.refl id) in
    cc (yes, e))

any_step : (id : ObjectId) (p : List ℕ) → is_id id ≡ true → (found : Option ObjectId) → name_in p ≡ found → (rest : List ObjectId) (ps : List (List ℕ))
    → list_any (id_eq id) rest ≡ list_any (eq_by_cmp (slice_cmp nat_cmp) (object_path id.0)) ps
    → list_any (id_eq id) (cons_option found rest) ≡ (eq_by_cmp (slice_cmp nat_cmp) (object_path id.0) p || list_any (eq_by_cmp (slice_cmp nat_cmp) (object_path id.0)) ps)
any_step id p valid None e rest ps ih =
    ih ∙ sym (ap (λ b. b || list_any (eq_by_cmp (slice_cmp nat_cmp) (object_path id.0)) ps) (is_eq-slice_cmp (object_path id.0) p ∙ none_there id p valid e))
any_step id p valid (Some other) e rest ps ih =
    ap (λ b. id_eq id other || b) ih
    ∙ sym (ap (λ b. b || list_any (eq_by_cmp (slice_cmp nat_cmp) (object_path id.0)) ps) (is_eq-slice_cmp (object_path id.0) p ∙ one_there id other p valid e (id_eq id other) refl))

any_name : (id : ObjectId) → is_id id ≡ true → (ps : List (List ℕ)) → list_any (id_eq id) (filter_map name_in ps) ≡ list_any (eq_by_cmp (slice_cmp nat_cmp) (object_path id.0)) ps
any_name id valid [] = refl
any_name id valid (p ∷ ps) = any_step id p valid (name_in p) refl (filter_map name_in ps) ps (any_name id valid ps)

under_objects : (id : ObjectId) (q : List ℕ) → eq_by_cmp (slice_cmp nat_cmp) (object_path id.0) q ≡ true → starts_with nat_eq q (codes "objects/") ≡ true
under_objects id q same =
    subst (λ p. starts_with nat_eq p (codes "objects/") ≡ true) (same_path id q (sym (is_eq-slice_cmp (object_path id.0) q) ∙ same)) refl

-- a name is listed where a file stands in its place
stored_names-any : (content : FileMap) (id : ObjectId) → is_id id ≡ true → list_any (id_eq id) (stored_names content) ≡ is_some (files.get content (object_path id.0))
stored_names-any content id valid =
    any_name id valid (paths_under content (codes "objects/"))
    ∙ any-filter_same (eq_by_cmp (slice_cmp nat_cmp) (object_path id.0)) (λ path. starts_with nat_eq path (codes "objects/")) true (under_objects id) (files.keys content)
    ∙ sym (contains_key-keys content (object_path id.0))

valid_step : (id : ObjectId) (p : List ℕ) (found : Option ObjectId) → name_in p ≡ found → (rest : List ObjectId)
    → (list_any (id_eq id) rest ≡ true → is_id id ≡ true) → list_any (id_eq id) (cons_option found rest) ≡ true → is_id id ≡ true
valid_step id p None e rest ih h = ih h
valid_step id p (Some other) e rest ih h =
    elim (or_cases (id_eq id other) (list_any (id_eq id) rest) h) [
      | inl here ↦ subst (λ (i : ObjectId). is_id i ≡ true) (sym (id_eq-same id other here)) (name_in-some p other e).1
      | inr later ↦ ih later
    ]

any_valid : (id : ObjectId) (ps : List (List ℕ)) → list_any (id_eq id) (filter_map name_in ps) ≡ true → is_id id ≡ true
any_valid id [] h = cc h
any_valid id (p ∷ ps) h = valid_step id p (name_in p) refl (filter_map name_in ps) (any_valid id ps) h

has_file : (content : FileMap) (id : ObjectId) → list_any (id_eq id) (stored_names content) ≡ true → HasFile content id
has_file content id any =
    let valid = any_valid id (paths_under content (codes "objects/")) any in
    record { valid = valid; file = sym (stored_names-any content id valid) ∙ any }

-- the names of stored objects are those with a file
pub stored_names-exact : (content : FileMap) (id : ObjectId) → Contains (stored_names content) id ↔ HasFile content id
stored_names-exact content id = (
  λ member. has_file content id (list_any-from_Contains id_eq_equiv id (stored_names content) member),
  λ has. Contains-from_any id_eq-same id (stored_names content) (stored_names-any content id has.valid ∙ has.file),
)

-- ---- files and objects

tested : (id : ObjectId) (object : StoredObject) (b : Bool) → IsSome (result_ok (cond b (Ok object) (Err (Damaged id)))) ⊎ (◌≡◌ {A = Result StoredObject StoreFault} (cond b (Ok object) (Err (Damaged id))) (Err (Damaged id)))
tested id object true = inl refl
tested id object false = inr refl

named_or : (id : ObjectId) (object : Option StoredObject) → IsSome (result_ok (named id object)) ⊎ (named id object ≡ Err (Damaged id))
named_or id None = inr refl
named_or id (Some object) = tested id object (bytes_eq (object_name object.kind object.body).0 id.0)

stored_or : (id : ObjectId) (found : Option (List ℕ)) → is_some found ≡ true → IsSome (result_ok (stored_in id found)) ⊎ (stored_in id found ≡ Err (Damaged id))
stored_or id None h = cc h
stored_or id (Some bytes) h = named_or id (decoded bytes)

-- a file is that of an object, or damaged
pub objects-file : (content : FileMap) (id : ObjectId) → HasFile content id → IsSome (objects content id) ⊎ IsDamaged content id
unfolding objects
objects-file content id has =
    elim (stored_or id (files.get content (object_path id.0)) has.file) [
      | inl some ↦ inl (ap (λ b. is_some (cond b (result_ok (stored content id)) None)) has.valid ∙ some)
      | inr damaged ↦ inr damaged
    ]

some_file : (id : ObjectId) (found : Option (List ℕ)) → is_some (result_ok (stored_in id found)) ≡ true → is_some found ≡ true
some_file id None h = cc h
some_file id (Some bytes) h = refl

file_of : (content : FileMap) (id : ObjectId) (valid : Bool) → is_id id ≡ valid → is_some (cond valid (result_ok (stored content id)) None) ≡ true → HasFile content id
file_of content id true e h = record { valid = e; file = some_file id (files.get content (object_path id.0)) h }
file_of content id false e h = cc h

-- an object has a file
pub file-objects : (content : FileMap) (id : ObjectId) → IsSome (objects content id) → HasFile content id
unfolding objects
file-objects content id some = file_of content id (is_id id) refl some

-- ---- names that begin with digits

skipped : (p : List ℕ) → name_in p ≡ None → (b : Bool) (ps : List (List ℕ)) → filter_map name_in (cond b (p ∷ ps) ps) ≡ filter_map name_in ps
skipped p none true ps = ap (λ o. cons_option o (filter_map name_in ps)) none
skipped p none false ps = refl

kept : (p : List ℕ) (id : ObjectId) → name_in p ≡ Some id → (b : Bool) (ps : List (List ℕ)) → filter_map name_in (cond b (p ∷ ps) ps) ≡ cond b (id ∷ filter_map name_in ps) (filter_map name_in ps)
kept p id some true ps = ap (λ o. cons_option o (filter_map name_in ps)) some
kept p id some false ps = refl

begins_as : (p digits : List ℕ) (id : ObjectId) → name_in p ≡ Some id → starts_with nat_eq p (prefix_path (str_to_ascii_lowercase digits)) ≡ has_digits digits id
begins_as p digits id some =
    let at = name_in-some p id some in
    ap (λ q. starts_with nat_eq q (prefix_path (str_to_ascii_lowercase digits))) at.0 ∙ starts_with-object_path id.0 (str_to_ascii_lowercase digits) at.1

filter_step : (p digits : List ℕ) (found : Option ObjectId) → name_in p ≡ found → (ps qs : List (List ℕ))
    → filter_map name_in ps ≡ filter (has_digits digits) (filter_map name_in qs)
    → filter_map name_in (cond (starts_with nat_eq p (prefix_path (str_to_ascii_lowercase digits))) (p ∷ ps) ps)
    ≡ filter (has_digits digits) (filter_map name_in (cond (starts_with nat_eq p (codes "objects/")) (p ∷ qs) qs))
filter_step p digits None none ps qs ih =
    skipped p none (starts_with nat_eq p (prefix_path (str_to_ascii_lowercase digits))) ps
    ∙ ih ∙ sym (ap (filter (has_digits digits)) (skipped p none (starts_with nat_eq p (codes "objects/")) qs))
filter_step p digits (Some id) some ps qs ih =
    let at = name_in-some p id some in
    let inside : starts_with nat_eq p (codes "objects/") ≡ true = ap (λ q. starts_with nat_eq q (codes "objects/")) at.0 in
    kept p id some (starts_with nat_eq p (prefix_path (str_to_ascii_lowercase digits))) ps
    ∙ ap (λ b. cond b (id ∷ filter_map name_in ps) (filter_map name_in ps)) (begins_as p digits id some)
    ∙ ap (λ rest. cond (has_digits digits id) (id ∷ rest) rest) ih
    ∙ sym (ap (filter (has_digits digits)) (kept p id some (starts_with nat_eq p (codes "objects/")) qs ∙ ap (λ b. cond b (id ∷ filter_map name_in qs) (filter_map name_in qs)) inside))

same_filter : (digits : List ℕ) (ps : List (List ℕ)) → filter_map name_in (filter (λ p. starts_with nat_eq p (prefix_path (str_to_ascii_lowercase digits))) ps)
    ≡ filter (has_digits digits) (filter_map name_in (filter (λ p. starts_with nat_eq p (codes "objects/")) ps))
same_filter digits [] = refl
same_filter digits (p ∷ ps) =
    filter_step p digits (name_in p) refl
    (filter (λ q. starts_with nat_eq q (prefix_path (str_to_ascii_lowercase digits))) ps)
    (filter (λ q. starts_with nat_eq q (codes "objects/")) ps)
    (same_filter digits ps)

-- the names that stand under the path of some digits are those of all names that begin so
pub names_under-digits : (content : FileMap) (digits : List ℕ) → filter_map name_in (paths_under content (prefix_path (str_to_ascii_lowercase digits))) ≡ filter (has_digits digits) (stored_names content)
names_under-digits content digits = same_filter digits (files.keys content)

no_digits_step : (digits : List ℕ) → list_all is_ascii_hexdigit digits ≡ false → (p : List ℕ) (found : Option ObjectId) → name_in p ≡ found → (rest : List ObjectId)
    → filter (has_digits digits) rest ≡ [] → filter (has_digits digits) (cons_option found rest) ≡ []
no_digits_step digits other p None at rest ih = ih
no_digits_step digits other p (Some id) at rest ih =
    let none : has_digits digits id ≡ false = false_from_ne_true _ (λ has. let hex = has_digits-hex digits id (name_in-some p id at).1 has in cc (hex, other)) in
    ap (λ b. cond b (id ∷ filter (has_digits digits) rest) (filter (has_digits digits) rest)) none ∙ ih

no_digits : (digits : List ℕ) → list_all is_ascii_hexdigit digits ≡ false → (ps : List (List ℕ)) → filter (has_digits digits) (filter_map name_in ps) ≡ []
no_digits digits other [] = refl
no_digits digits other (p ∷ ps) = no_digits_step digits other p (name_in p) refl (filter_map name_in ps) (no_digits digits other ps)

-- no name begins with a text that isn't all hex digits
pub stored_names-other_text : (content : FileMap) (digits : List ℕ) → list_all is_ascii_hexdigit digits ≡ false → filter (has_digits digits) (stored_names content) ≡ []
stored_names-other_text content digits other = no_digits digits other (paths_under content (codes "objects/"))

pub digits-sorted : (content : FileMap) (digits : List ℕ) → IsSortedByName (filter (has_digits digits) (stored_names content))
digits-sorted content digits = IsStrictlySortedBy-filter id_cmp (has_digits digits) (stored_names content) (stored_names-sorted content)

any_both : (digits : List ℕ) (id : ObjectId) (ids : List ObjectId) → list_any (id_eq id) (filter (has_digits digits) ids) ≡ (has_digits digits id && list_any (id_eq id) ids)
any_both digits id ids = any-filter_same (id_eq id) (has_digits digits) (has_digits digits id) (λ other same. ap (has_digits digits) (sym (id_eq-same id other same))) ids

-- the names that begin with digits are those with a file that begin so
pub digits-exact : (content : FileMap) (digits : List ℕ) (id : ObjectId) → Contains (filter (has_digits digits) (stored_names content)) id ↔ (HasFile content id × (has_digits digits id ≡ true))
digits-exact content digits id = (
  λ member.
      let parts = and_parts (has_digits digits id) (list_any (id_eq id) (stored_names content)) (sym (any_both digits id (stored_names content)) ∙ list_any-from_Contains id_eq_equiv id (filter (has_digits digits) (stored_names content)) member) in
      (has_file content id parts.1, parts.0),
  λ has. Contains-from_any id_eq-same id (filter (has_digits digits) (stored_names content))
      (any_both digits id (stored_names content) ∙ and_from (has_digits digits id) (list_any (id_eq id) (stored_names content)) has.1 (stored_names-any content id has.0.valid ∙ has.0.file)),
)

abbrev prefix_if : List ℕ → Bool → Option (List ℕ)
prefix_if digits b = option_map prefix_path (cond b (Some (str_to_ascii_lowercase digits)) None)

not_hex : (digits : List ℕ) (b : Bool) → prefix_if digits b ≡ None → b ≡ false
not_hex digits true h = cc h
not_hex digits false h = refl

-- where there is no prefix there are no names
pub other_text-names : (content : FileMap) (digits : List ℕ) → option_map prefix_path (lower_case digits) ≡ None → filter (has_digits digits) (stored_names content) ≡ []
other_text-names content digits none = stored_names-other_text content digits (not_hex digits (list_all is_ascii_hexdigit digits) none)

prefix_is : (digits path : List ℕ) (b : Bool) → prefix_if digits b ≡ Some path → prefix_path (str_to_ascii_lowercase digits) ≡ path
prefix_is digits path true h = cc h
prefix_is digits path false h = cc h

-- where there is a prefix, what stands under it are the names that begin so
pub prefix-names : (content : FileMap) (digits path : List ℕ) → option_map prefix_path (lower_case digits) ≡ Some path → filter (has_digits digits) (stored_names content) ≡ filter_map name_in (paths_under content path)
prefix-names content digits path some =
    sym (names_under-digits content digits) ∙ ap (λ prefix. filter_map name_in (paths_under content prefix)) (prefix_is digits path (list_all is_ascii_hexdigit digits) some)
