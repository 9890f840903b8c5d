-- What a write into a quarantine does to what it holds, and what is left as files are taken away.
use Rattle.std.proofs.Common.{◌≡◌, ◌⊎◌, inl, inr, ℕ, Bool, true, false, cond, ◌&&◌, ◌||◌, nat_eq, List, ◌∷◌, ◌++◌, drop, length, map, take, Option, Some, None, Ok, Err, sym, ap, refl, ◌∙◌, subst, []}
use Rattle.std.specs.Prelude.{bytes_eq, codes, is_some, String, string_bytes}
use Rattle.std.specs.FinMap as files
use Rattle.std.specs.List.{starts_with}
use Rattle.std.specs.Ordering.{nat_cmp, eq_by_cmp}
use Rattle.std.specs.Result.{result_ok}
use Rattle.std.specs.Cmp.Lexicographic.{slice_cmp}
use Rattle.std.proofs.Math.Seq.{drop-append_seam}
use Rattle.std.proofs.lemmas.List.{map-append, take-append-drop}
use Rattle.std.specs.Global.{Global}
use Rattle.std.proofs.lemmas.Bool.{false_from_ne_true, or_parts}
use Rattle.std.proofs.lemmas.List.Folds.{list_any-append}
use Rattle.std.proofs.lemmas.Map.Text.{is_eq-slice_cmp}
use Rattle.std.proofs.lemmas.Slice.Eq.{bytes_eq-Decides}
use Rattle.hex.specs.Hex.{encode_lower}
use Rattle.vc_files.proofs.FileMapLemmas.{get-put, get-unput, outside_put}
use Rattle.vc_files.specs.FileMap.{FileMap, SameOutside, paths_under}
use Rattle.vc_lemmas.proofs.Texts.{bytes_eq_same, starts_with-append}
use Rattle.vc_object.proofs.Decoding.{decoded_again}
use Rattle.vc_object.proofs.IdLemmas.{id_eq-same}
use Rattle.vc_object.specs.Decoding.{StoredObject, stored_object}
use Rattle.vc_object.specs.Object.{object_bytes, object_name, IsObject}
use Rattle.vc_object.specs.ObjectId.{id_eq, is_id, is_name}
use Rattle.vc_object.specs.declared.id.ObjectId.{ObjectId}
use Rattle.vc_object.specs.declared.kind.Kind.{Kind}
use Rattle.vc_refs.proofs.PathLemmas.{is_among, is_among-paths_under}
use Rattle.vc_object_map.specs.Store.{named, object_path, stored_in}
use Rattle.vc_object_map.specs.declared.faults.StoreFault.TheVariants.{Damaged}
use Rattle.vc_store.proofs.StoreLemmas.{one_name}
use Rattle.vc_push_rules.specs.Quarantine.{IsDropped, OnlyLoses, quarantine_folder, quarantine_path, quarantined}

-- ---- what a look gives
module _ (content : FileMap) (slot : ℕ) (id : ObjectId) where
  pub quarantined-found : (object : StoredObject) → is_id id ≡ true → stored_in id (files.get content (quarantine_path slot id.0)) ≡ Ok object → quarantined content slot id ≡ Some object
  unfolding quarantined
  quarantined-found object valid h = ap (λ b. cond b (result_ok (stored_in id (files.get content (quarantine_path slot id.0)))) None) valid ∙ ap result_ok h

  pub quarantined-none : files.get content (quarantine_path slot id.0) ≡ None → quarantined content slot id ≡ None
  unfolding quarantined
  quarantined-none h = elim (is_id id) as (λ b. cond b (result_ok (stored_in id (files.get content (quarantine_path slot id.0)))) None ≡ None) [ true ↦ ap (λ found. result_ok (stored_in id found)) h | false ↦ refl ]

-- ---- a write

pub outside_put_there : (content : FileMap) (slot : ℕ) (name bytes : List ℕ) → SameOutside (quarantine_folder slot) content (files.insert content (quarantine_path slot name) bytes)
outside_put_there content slot name bytes =
    outside_put (quarantine_folder slot) content (quarantine_path slot name) bytes (starts_with-append (quarantine_folder slot) (encode_lower (take 1 name) ++ 47 ∷ encode_lower (drop 1 name)))

-- one place there is one place in the store
pub same_place : (slot : ℕ) (a b : List ℕ) → quarantine_path slot a ≡ quarantine_path slot b → object_path a ≡ object_path b
same_place slot a b e =
    let rest : List ℕ → List ℕ = λ name. encode_lower (take 1 name) ++ 47 ∷ encode_lower (drop 1 name) in
    let folder = quarantine_folder slot in
    let same : rest a ≡ rest b = sym (drop-append_seam folder (rest a)) ∙ ap (drop (length folder)) e ∙ drop-append_seam folder (rest b) in
    ap (λ (t : List ℕ). codes "objects/" ++ t) same

pub same_path : (slot : ℕ) (a b : List ℕ) → is_name a ≡ true → is_name b ≡ true → quarantine_path slot a ≡ quarantine_path slot b → a ≡ b
same_path slot a b p q e = one_name a b p q (same_place slot a b e)

-- its file is good
pub put_there : (id : ObjectId) (kind : Kind) (body : List ℕ) → id ≡ object_name kind body → ∥ IsObject kind body ∥₁ → stored_in id (Some (object_bytes kind body)) ≡ Ok (stored_object kind body)
put_there id kind body is object =
    ap (named id) (decoded_again (object_bytes kind body) kind body object refl)
    ∙ ap (λ b. cond b (Ok (stored_object kind body)) (Err (Damaged id))) (subst (λ (n : ObjectId). bytes_eq (object_name kind body).0 n.0 ≡ true) (sym is) (bytes_eq_same (object_name kind body).0))

-- what depends on one file
pub same_at : (old new : FileMap) (slot : ℕ) (q : ObjectId) → (is_id q ≡ true → files.get new (quarantine_path slot q.0) ≡ files.get old (quarantine_path slot q.0)) → quarantined new slot q ≡ quarantined old slot q
unfolding quarantined
same_at old new slot q same =
    elim (is_id q) as (λ b. is_id q ≡ b → cond b (result_ok (stored_in q (files.get new (quarantine_path slot q.0)))) None ≡ cond b (result_ok (stored_in q (files.get old (quarantine_path slot q.0)))) None) [
      | true ↦ λ valid. ap (λ found. result_ok (stored_in q found)) (same valid)
      | false ↦ λ _. refl
    ] refl

module _ (content : FileMap) (slot : ℕ) (id : ObjectId) (kind : Kind) (body : List ℕ) (valid : is_id id ≡ true) (is : id ≡ object_name kind body) (object : ∥ IsObject kind body ∥₁) where
  abbrev path : List ℕ
  path = quarantine_path slot id.0

  abbrev new : FileMap
  new = files.insert content path (object_bytes kind body)

  here : quarantined new slot id ≡ Some (stored_object kind body)
  here = quarantined-found new slot id (stored_object kind body) valid
      (ap (stored_in id) (get-put content path (object_bytes kind body) path ∙ ap (λ b. cond b (Some (object_bytes kind body)) (files.get content path)) (bytes_eq_same path))
      ∙ put_there id kind body is object)

  elsewhere : (q : ObjectId) → id_eq q id ≡ false → quarantined new slot q ≡ quarantined content slot q
  elsewhere q other = same_at content new slot q (λ p.
      let apart : bytes_eq (quarantine_path slot q.0) path ≡ false = false_from_ne_true _ (λ same.
      let e : q.0 ≡ id.0 = same_path slot q.0 id.0 p valid ((bytes_eq-Decides (quarantine_path slot q.0) path).0 same) in
      let yes : id_eq q id ≡ true = (bytes_eq-Decides q.0 id.0).1 e in
      cc) in
      get-put content path (object_bytes kind body) (quarantine_path slot q.0)
      ∙ ap (λ b. cond b (Some (object_bytes kind body)) (files.get content (quarantine_path slot q.0))) apart)

  -- the object's file adds it, in place of what stood under its name
  pub quarantined-put : (q : ObjectId) → quarantined new slot q ≡ cond (id_eq q id) (Some (stored_object kind body)) (quarantined content slot q)
  quarantined-put q =
      elim (id_eq q id) as (λ b. id_eq q id ≡ b → quarantined new slot q ≡ cond b (Some (stored_object kind body)) (quarantined content slot q)) [
        | true ↦ λ same. ap (quarantined new slot) (id_eq-same q id same) ∙ here
        | false ↦ λ other. elsewhere q other
      ] refl

-- ---- files that are taken away
-- these were taken away, and nothing else
pub record Taken (old new : FileMap) (paths : List (List ℕ)) : Type 0 where
  pub at : (q : List ℕ) → files.get new q ≡ cond (is_among q paths) None (files.get old q)

pub taken_none : (content : FileMap) → Taken content content []
taken_none content = record { at = λ q. refl }

both_tests : (a b c : Bool) (x : Option (List ℕ)) → b ≡ c → cond b None (cond a None x) ≡ cond (a || (c || false)) None x
both_tests true true true x e = refl
both_tests true false false x e = refl
both_tests false true true x e = refl
both_tests false false false x e = refl
both_tests a true false x e = cc
both_tests a false true x e = cc

pub taken_more : (old mid : FileMap) (paths : List (List ℕ)) (path : List ℕ) → Taken old mid paths → Taken old (files.remove mid path) (paths ++ path ∷ [])
taken_more old mid paths path t = record { at = at }
  where
    at : (q : List ℕ) → files.get (files.remove mid path) q ≡ cond (is_among q (paths ++ path ∷ [])) None (files.get old q)
    at q =
        get-unput mid path q
        ∙ ap (λ o. cond (bytes_eq q path) None o) (t.at q)
        ∙ both_tests (is_among q paths) (bytes_eq q path) (eq_by_cmp (slice_cmp nat_cmp) q path) (files.get old q) (sym (is_eq-slice_cmp q path))
        ∙ ap (λ b. cond b None (files.get old q)) (sym (list_any-append (eq_by_cmp (slice_cmp nat_cmp) q) paths (path ∷ [])))

one_or_gone : (b : Bool) (o x : Option (List ℕ)) → o ≡ cond b None x → (o ≡ x) ⊎ (o ≡ None)
one_or_gone true o x is = inr is
one_or_gone false o x is = inl is

pub taken_left : {old now : FileMap} {paths : List (List ℕ)} → Taken old now paths → OnlyLoses old now
taken_left {old = old} {now = now} {paths = paths} t = record { at = λ q. one_or_gone (is_among q paths) (files.get now q) (files.get old q) (t.at q) }

pub none_left : (o : Option (List ℕ)) → cond (is_some o) None o ≡ None
none_left None = refl
none_left (Some x) = refl

pub taken_all : (old now : FileMap) (slot : ℕ) → Taken old now (paths_under old (quarantine_folder slot)) → IsDropped slot now
taken_all old now slot t path under =
    t.at path
    ∙ ap (λ b. cond b None (files.get old path)) (is_among-paths_under old (quarantine_folder slot) path ∙ ap (λ b. b && is_some (files.get old path)) under)
    ∙ none_left (files.get old path)

-- as some of the paths of the folder are taken away, what is outside stays
pub taken_outside : (old now : FileMap) (slot : ℕ) (items : List (String Global)) (i : ℕ) → map string_bytes items ≡ paths_under old (quarantine_folder slot) → Taken old now (map string_bytes (take i items)) → SameOutside (quarantine_folder slot) old now
taken_outside old now slot items i listed t = record {
  at = λ path outside.
      let front = map string_bytes (take i items) in
      let back = map string_bytes (drop i items) in
      let whole : front ++ back ≡ paths_under old (quarantine_folder slot) = sym (map-append string_bytes (take i items) (drop i items)) ∙ ap (map string_bytes) (take-append-drop i items) ∙ listed in
      let none : is_among path (front ++ back) ≡ false = ap (is_among path) whole ∙ is_among-paths_under old (quarantine_folder slot) path ∙ ap (λ b. b && is_some (files.get old path)) outside in
      let no : is_among path front ≡ false = (or_parts _ _ (sym (list_any-append (eq_by_cmp (slice_cmp nat_cmp) path) front back) ∙ none)).0 in
      t.at path ∙ ap (λ b. cond b None (files.get old path)) no;
}

not_stored : (slot : ℕ) (name : List ℕ) → starts_with nat_eq (quarantine_path slot name) (codes "objects/") ≡ false
not_stored slot name = refl

-- what changes stored objects alone keeps the quarantine
pub quarantined-same : (old now : FileMap) (slot : ℕ) → SameOutside (codes "objects/") old now → (q : ObjectId) → quarantined now slot q ≡ quarantined old slot q
quarantined-same old now slot same q = same_at old now slot q (λ _. same.at (quarantine_path slot q.0) (not_stored slot q.0))
