-- What HEAD's text says, and what a write of it does.
use Rattle.std.proofs.Common.{◌≡◌, ℕ, Bool, true, false, cond, ◌&&◌, nat_eq, List, ◌∷◌, ◌++◌, drop, length, Option, Some, None, sym, ap, refl, ◌∙◌, subst, arith, rules, []}
use Rattle.std.specs.Prelude.{bytes_eq, codes, option_and_then, if◌then◌else◌}
use Rattle.std.specs.List.{starts_with, AllPass}
use Rattle.std.specs.Str.{is_utf8}
use Rattle.std.specs.FinMap as files
use Rattle.std.proofs.lemmas.Bool.{and_parts, false_from_ne_true}
use Rattle.std.proofs.lemmas.List.Elements.{All-head}
use Rattle.hex.specs.Hex.{encode_lower, is_hex_digit}
use Rattle.vc_files.specs.FileMap.{FileMap}
use Rattle.vc_files.proofs.FileMapLemmas.{get-put}
use Rattle.vc_lemmas.proofs.Texts.{split_from_starts}
use Rattle.vc_object.specs.declared.id.ObjectId.{ObjectId}
use Rattle.vc_object.specs.ObjectId.{is_id}
use Rattle.vc_refname.specs.RefName.{is_ref_name}
use Rattle.vc_refs.specs.declared.heads.Head.{Head}
use Rattle.vc_refs.specs.declared.heads.Head.TheVariants as head
use Rattle.vc_refs.specs.declared.heads.HeadText.TheVariants.{Says, NamesHead, SaysNothing}
use Rattle.vc_refs.specs.RefFile.{id_in, id_text, without_lf}
use Rattle.vc_refs.specs.RefMap.{IsInRefs, is_ref}
use Rattle.vc_refs.specs.Head.{head_of, head_text, id_said, name_said, read_head, said, IsHeadInRefs, IsLegalHead}
use Rattle.vc_refs.specs.Refs.{ChangesOnly}
use Rattle.vc_refs.proofs.RefFileLemmas.{without_lf-line, id_in-id_text, digits_of}

-- what a name says
pub name_said-bad : (name : List ℕ) → bytes_eq name (codes "HEAD") ≡ false → is_utf8 name ≡ false → name_said name ≡ SaysNothing
name_said-bad name other bad = rw (other, bad) (elim (is_ref name) as (λ b. cond (b && false) (Says (head.Branch name)) SaysNothing ≡ SaysNothing) [ true ↦ refl | false ↦ refl ])

-- a name that was found is the path, and a ref's
pub named_ref : (path name : List ℕ) → Some name ≡ (if is_ref path then Some path else None) → (name ≡ path) × (is_ref path ≡ true)
named_ref path name = by (is_ref path)
  where
    by : (b : Bool) → Some name ≡ cond b (Some path) None → (name ≡ path) × (b ≡ true)
    by true e = (cc, refl)
    by false e = cc

pub no_named_ref : (path : List ℕ) → None ≡ (if is_ref path then Some path else None) → is_ref path ≡ false
no_named_ref path = by (is_ref path)
  where
    by : (b : Bool) → ◌≡◌ {A = Option (List ℕ)} None (cond b (Some path) None) → b ≡ false
    by true e = cc
    by false e = refl

pub name_said-branch : (name found : List ℕ) → bytes_eq name (codes "HEAD") ≡ false → is_utf8 name ≡ true → Some found ≡ (if is_ref name then Some name else None) → name_said name ≡ Says (head.Branch found)
name_said-branch name found other text is =
    let parts = named_ref name found is in
    let legal : is_ref name ≡ true = parts.1 in
    rw (other, legal, text) (ap (λ n. Says (head.Branch n)) (sym parts.0))

-- a ref is not HEAD
ref_is_not_head : (name : List ℕ) → IsInRefs name → bytes_eq name (codes "HEAD") ≡ false
ref_is_not_head name inside = ap (λ n. bytes_eq n (codes "HEAD")) (split_from_starts name (codes "refs/") inside)

-- the text that names a branch says that branch
pub read_head-branch : (name : List ℕ) → is_ref name ≡ true → is_utf8 name ≡ true → read_head (head_text (head.Branch name)) ≡ Says (head.Branch name)
read_head-branch name legal text =
    let other : bytes_eq name (codes "HEAD") ≡ false = ref_is_not_head name (and_parts (is_ref_name name) (starts_with nat_eq name (codes "refs/")) legal).1 in
    ap name_said (without_lf-line name) ∙ rw (other, legal, text) refl

no_ref_text : (digits : List ℕ) → AllPass is_hex_digit digits → length digits ≡ 40 → starts_with nat_eq (digits ++ 10 ∷ []) (codes "ref: ") ≡ false
no_ref_text [] all long = absurd (omega arith)
no_ref_text (x ∷ xs) all long = false_from_ne_true _ (λ h.
    let first : nat_eq 114 x ≡ true = (and_parts (nat_eq 114 x) _ h).0 in
    let is : 114 ≡ x = search rules in
    let digit : is_hex_digit 114 ≡ true = subst (λ b. is_hex_digit b ≡ true) (sym is) (All-head (λ b. is_hex_digit b ≡ true) x xs all) in
    cc)

-- the text that writes an id says that id
pub read_head-id : (id : ObjectId) → is_id id ≡ true → read_head (id_text id) ≡ Says (head.Id id)
read_head-id id valid =
    let digits = digits_of id valid in
    let other : starts_with nat_eq (id_text id) (codes "ref: ") ≡ false = no_ref_text (encode_lower id.0) digits.1 digits.0 in
    rw other (ap id_said (id_in-id_text id valid))

-- HEAD is what its file says
pub head_of-absent : (content : FileMap) → files.get content (codes "HEAD") ≡ None → head_of content ≡ None
unfolding head_of
head_of-absent content none = ap (option_and_then (λ text. said (read_head text))) none

pub head_of-there : (content : FileMap) (text : List ℕ) → files.get content (codes "HEAD") ≡ Some text → head_of content ≡ said (read_head text)
unfolding head_of
head_of-there content text there = ap (option_and_then (λ text. said (read_head text))) there

-- HEAD's file that is written makes HEAD what the text says
pub head_of-put : (content : FileMap) (text : List ℕ) (h : Head) → read_head text ≡ Says h → head_of (files.insert content (codes "HEAD") text) ≡ Some h
head_of-put content text h says =
    head_of-there (files.insert content (codes "HEAD") text) text (get-put content (codes "HEAD") text (codes "HEAD")) ∙ ap said says

-- a change at a ref keeps HEAD
pub head_of-kept : (path : List ℕ) (old new : FileMap) → IsInRefs path → ChangesOnly path old new → head_of new ≡ head_of old
unfolding head_of
head_of-kept path old new inside only =
    let other : bytes_eq (codes "HEAD") path ≡ false = ap (λ p. bytes_eq (codes "HEAD") p) (split_from_starts path (codes "refs/") inside) in
    ap (option_and_then (λ text. said (read_head text))) (only.at (codes "HEAD") other)

-- a branch that HEAD names has a ref's name
pub head_legal : (text : List ℕ) (h : Head) → read_head text ≡ Says h → IsLegalHead h
head_legal text h = by_kind (starts_with nat_eq text (codes "ref: ")) refl
  where
    by_id : (o : Option ObjectId) → id_said o ≡ Says h → IsLegalHead h
    by_id (Some id) says = let is : h ≡ head.Id id = cc in subst IsLegalHead (sym is) tt
    by_id None says = cc

    by_name : (name : List ℕ) (self legal text : Bool) → is_ref name ≡ legal → cond self NamesHead (cond (legal && text) (Says (head.Branch name)) SaysNothing) ≡ Says h → IsLegalHead h
    by_name name true legal text e says = cc
    by_name name false true true e says = let is : h ≡ head.Branch name = cc in subst IsLegalHead (sym is) e
    by_name name false true false e says = cc
    by_name name false false text e says = cc

    by_kind : (b : Bool) → starts_with nat_eq text (codes "ref: ") ≡ b → cond b (name_said (without_lf (drop 5 text))) (id_said (id_in text)) ≡ Says h → IsLegalHead h
    by_kind true e says = by_name (without_lf (drop 5 text)) _ _ _ refl says
    by_kind false e says = by_id (id_in text) says

-- so it lies in `refs/`
pub head_inside : (text : List ℕ) (h : Head) → read_head text ≡ Says h → IsHeadInRefs h
head_inside text (head.Branch name) says = (and_parts (is_ref_name name) (starts_with nat_eq name (codes "refs/")) (head_legal text (head.Branch name) says)).1
head_inside text (head.Id id) says = tt

-- the same of what HEAD is
pub head_of-legal : (content : FileMap) (h : Head) → head_of content ≡ Some h → IsLegalHead h
unfolding head_of
head_of-legal content h = by (files.get content (codes "HEAD"))
  where
    by_text : (text : List ℕ) (found : _) → read_head text ≡ found → said found ≡ Some h → IsLegalHead h
    by_text text (Says g) e is = let same : g ≡ h = cc in head_legal text h (e ∙ ap Says same)
    by_text text NamesHead e is = cc
    by_text text SaysNothing e is = cc

    by : (found : Option (List ℕ)) → option_and_then (λ text. said (read_head text)) found ≡ Some h → IsLegalHead h
    by None is = cc
    by (Some text) is = by_text text (read_head text) refl is
