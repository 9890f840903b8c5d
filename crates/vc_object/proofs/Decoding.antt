-- Bytes are an object exactly if the tests say so, for whom decodes.
use Rattle.std.proofs.Common.{◌≡◌, ◌≢◌, ℕ, ◌≤◌, Bool, true, not, ◌&&◌, ◌==◌, nat_le, List, [], ◌∷◌, ◌++◌, length, Option, Some, None, Result, Ok, Err, refl, ap, sym, ◌∙◌, subst, arith, append_assoc, true≢false}
use Rattle.std.specs.Prelude.{codes, decimal, is_some, IfOk, IfErr, OnErr}
use Rattle.std.specs.Bool.{Decides}
use Rattle.std.specs.List.{list_all, AllByRecursion}
use Rattle.std.specs.Ordering.{nat_cmp, is_lt}
use Rattle.std.specs.Cmp.Lexicographic.{slice_cmp}
use Rattle.std.specs.Coded.{Coded-set, coded_bool, le_prop}
use Rattle.std.specs.Str.{bytes_eq, str_to_ascii_lowercase}
use Rattle.std.specs.declared.cmp.Ordering.{Ordering}
use Rattle.std.specs.declared.cmp.Ordering.TheVariants.{Less, Equal, Greater}
use Rattle.std.proofs.Math.Logic.{∥∥₁_elim}
use Rattle.std.proofs.lemmas.Bool.{and_parts, and_from}
use Rattle.std.proofs.lemmas.Bool.Decides.{Decides-and, Decides-not, Decides-like, Decides-eqb, nat_tests}
use Rattle.std.proofs.lemmas.Option.{cond_some}
use Rattle.std.proofs.lemmas.Slice.Eq.{bytes_eq-Decides}
use Rattle.vc_object.specs.Bytes.{Without, cut}
use Rattle.vc_object.specs.Kind.{word, front}
use Rattle.vc_object.specs.Header.{header}
use Rattle.vc_object.specs.Tree.{Entry, IsName, IsEntry, IsTree, IsTreeBody, InOrder, ComesBefore, key, spelling}
use Rattle.vc_object.specs.Entries.{entries_of}
use Rattle.vc_object.specs.Commit.{CommitText, IsCommitBody}
use Rattle.vc_object.specs.CommitReading.{kind_of, commit_of, tag_of}
use Rattle.vc_object.specs.Tag.{TagText, IsTagBody}
use Rattle.vc_object.specs.Links.{AreLinks, links_of, entry_links, commit_links, tag_links}
use Rattle.vc_object.specs.Object.{IsBody, IsObject, object_bytes}
use Rattle.vc_object.specs.ObjectFault.{BytesFault}
use Rattle.vc_object.specs.Decoding.{StoredObject, stored_object, is_without, is_entry_name, is_entry, comes_before, in_order, is_tree, is_body, is_object_of, decoded}
use Rattle.vc_object.specs.declared.id.ObjectId.{ObjectId}
use Rattle.vc_object.specs.declared.kind.Kind.{Kind}
use Rattle.vc_object.specs.declared.kind.Kind.TheVariants.{Blob, Tree, Commit, Tag}
use Rattle.vc_object.specs.declared.fault.ObjectFault.{ObjectFault}
use Rattle.vc_object.specs.declared.object.Object.{Object}
use Rattle.vc_object.proofs.Items.{bind_some}
use Rattle.vc_object.proofs.Texts.{Without-append, Without-test, cut_found}
use Rattle.vc_object.proofs.Reading.{read_again}
use Rattle.vc_object.proofs.Commits.{commit_some, commit_again, tag_some, tag_again, kind_again}
use Rattle.vc_object.proofs.Objects.{decimal_size, digits_no_nul, no_fault}

-- ---- each test decides what it is a test of
differs : (a b : List ℕ) → Decides (not (bytes_eq a b)) (a ≢ b)
differs a b = Decides-not (bytes_eq a b) (bytes_eq-Decides a b)

pub each_decides : {X : Type 0} (p : X → Bool) (P : X → Type 0) → ((x : X) → Decides (p x) (P x)) → (xs : List X) → Decides (list_all p xs) (AllByRecursion P xs)
each_decides p P each [] = (λ _. tt, λ _. refl)
each_decides p P each (x ∷ xs) = Decides-and (p x) (list_all p xs) (each x) (each_decides p P each xs)

without_decides : (byte : ℕ) (text : List ℕ) → Decides (is_without byte text) (Without byte text)
without_decides byte text = each_decides (λ b. not (b == byte)) (λ b. b ≢ byte) (λ b. Decides-not (b == byte) (Decides-eqb b byte)) text

-- the test of a name
pub name_decides : (name : List ℕ) → Decides (is_entry_name name) (IsName name)
name_decides name = Decides-like (is_entry_name name)
    (λ h. record { some = h.0; no_slash = h.1.0; no_nul = h.1.1.0; not_dot = h.1.1.1.0; not_dots = h.1.1.1.1.0; not_git = h.1.1.1.1.1 })
    (λ (h : IsName name). (h.some, (h.no_slash, (h.no_nul, (h.not_dot, (h.not_dots, h.not_git))))))
    (Decides-and _ _ (differs name []) (
    Decides-and _ _ (without_decides 47 name) (
    Decides-and _ _ (without_decides 0 name) (
    Decides-and _ _ (differs name (codes ".")) (
    Decides-and _ _ (differs name (codes "..")) (differs (str_to_ascii_lowercase name) (codes ".git")))))))

entry_decides : (entry : Entry) → Decides (is_entry entry) (IsEntry entry)
entry_decides entry = Decides-like (is_entry entry)
    (λ h. record { name = h.0; id = h.1 })
    (λ (h : IsEntry entry). (h.name, h.id))
    (Decides-and _ _ (name_decides entry.name) (Decides-eqb (length entry.id.0) 20))

less_decides : (o : Ordering) → Decides (is_lt o) (o ≡ Less)
less_decides Less = (λ _. refl, λ _. refl)
less_decides Equal = (λ e. absurd (true≢false (sym e)), λ e. ap is_lt e)
less_decides Greater = (λ e. absurd (true≢false (sym e)), λ e. ap is_lt e)

before_decides : (entry other : Entry) → Decides (comes_before entry other) (ComesBefore entry other)
before_decides entry other = Decides-like (comes_before entry other)
    (λ h. record { below = h.0; apart = h.1 })
    (λ (h : ComesBefore entry other). (h.below, h.apart))
    (Decides-and _ _ (less_decides (slice_cmp nat_cmp (key entry.mode entry.name) (key other.mode other.name))) (differs entry.name other.name))

order_decides : (entries : List Entry) → Decides (in_order entries) (InOrder entries)
order_decides [] = (λ _. tt, λ _. refl)
order_decides (entry ∷ others) =
    Decides-and (list_all (comes_before entry) others) (in_order others) (each_decides (comes_before entry) (λ other. ComesBefore entry other) (before_decides entry) others) (order_decides others)

tree_decides : (entries : List Entry) → Decides (is_tree entries) (IsTree entries)
tree_decides entries = Decides-like (is_tree entries)
    (λ h. record { legal = h.0; order = h.1 })
    (λ (h : IsTree entries). (h.legal, h.order))
    (Decides-and _ _ (each_decides is_entry IsEntry entry_decides entries) (order_decides entries))

-- ---- bodies
commit_body : (body : List ℕ) (o : Option CommitText) → commit_of body ≡ o → is_some o ≡ true → IsCommitBody body
commit_body body None e h = absurd (true≢false (sym h))
commit_body body (Some c) e h = let r = commit_some body c e in (c, r.legal, r.is)

tag_body : (body : List ℕ) (o : Option TagText) → tag_of body ≡ o → is_some o ≡ true → IsTagBody body
tag_body body None e h = absurd (true≢false (sym h))
tag_body body (Some t) e h = let r = tag_some body t e in (t, r.legal, r.is)

tree_again : (body : List ℕ) → IsTreeBody body → (bytes_eq body (spelling (entries_of body)) && is_tree (entries_of body)) ≡ true
tree_again body (es, t, e) =
    let again : entries_of body ≡ es = read_again es body t e in
    and_from _ _ ((bytes_eq-Decides body (spelling (entries_of body))).1 (e ∙ ap spelling (sym again))) (ap is_tree again ∙ (tree_decides es).1 t)

body_decides : (kind : Kind) (body : List ℕ) → Decides (is_body kind body) (IsBody kind body)
body_decides Blob body = (λ _. tt, λ _. refl)
body_decides Tree body = (
  λ h. let p = and_parts _ _ h in (entries_of body, (tree_decides (entries_of body)).0 p.1, (bytes_eq-Decides body (spelling (entries_of body))).0 p.0),
  tree_again body,
)
body_decides Commit body = (commit_body body (commit_of body) refl, λ h. ap is_some (ap commit_of h.2 ∙ commit_again h.0 h.1))
body_decides Tag body = (tag_body body (tag_of body) refl, λ h. ap is_some (ap tag_of h.2 ∙ tag_again h.0 h.1))

le_decides : (a b : ℕ) → Decides (nat_le a b) (a ≤ b)
le_decides a b = (λ h. grind (arith, nat_tests), λ h. grind (arith, nat_tests))

-- these are an object's bytes
pub record Spells (bytes : List ℕ) (kind : Kind) (body : List ℕ) : Type 0 where
  pub is : bytes ≡ object_bytes kind body
  pub object : IsObject kind body

spells_decides : (bytes : List ℕ) (kind : Kind) (body : List ℕ) → Decides (is_object_of bytes kind body) (Spells bytes kind body)
spells_decides bytes kind body = Decides-like (is_object_of bytes kind body)
    (λ h. record { is = h.0; object = record { grammar = h.1.0; size = h.1.1 } })
    (λ (h : Spells bytes kind body). (h.is, (h.object.grammar, h.object.size)))
    (Decides-and _ _ (bytes_eq-Decides bytes (object_bytes kind body)) (Decides-and _ _ (body_decides kind body) (le_decides (length body) 16777216)))

-- ---- what is decoded
pub decoded_some : (bytes : List ℕ) (o : StoredObject) → decoded bytes ≡ Some o → Spells bytes o.kind o.body
unfolding decoded
decoded_some bytes o e =
    let w = bind_some (cut 32 bytes) _ _ e in
    let k = bind_some (kind_of w.0.0) _ _ w.2 in
    let p = bind_some (cut 0 bytes) _ _ k.2 in
    let d = cond_some _ _ _ p.2 in
    subst (λ (x : StoredObject). Spells bytes x.kind x.body) d.1 ((spells_decides bytes k.0 p.0.1).0 d.0)

word_spaceless : (k : Kind) → Without 32 (word k)
word_spaceless Blob = Without-test 32 (word Blob) refl
word_spaceless Tree = Without-test 32 (word Tree) refl
word_spaceless Commit = Without-test 32 (word Commit) refl
word_spaceless Tag = Without-test 32 (word Tag) refl

front_no_nul : (k : Kind) → Without 0 (front k)
front_no_nul Blob = Without-test 0 (front Blob) refl
front_no_nul Tree = Without-test 0 (front Tree) refl
front_no_nul Commit = Without-test 0 (front Commit) refl
front_no_nul Tag = Without-test 0 (front Tag) refl

at_space : (k : Kind) (size body : List ℕ) → header k size ++ body ≡ word k ++ 32 ∷ (size ++ 0 ∷ body)
at_space k size body = simp append_assoc

at_nul : (k : Kind) (size body : List ℕ) → header k size ++ body ≡ (front k ++ size) ++ 0 ∷ body
at_nul k size body = simp append_assoc

decode_steps : (bytes text after before body : List ℕ) (kind : Kind) → cut 32 bytes ≡ Some (text, after) → kind_of text ≡ Some kind → cut 0 bytes ≡ Some (before, body) → is_object_of bytes kind body ≡ true
    → decoded bytes ≡ Some (record { kind = kind; body = body })
unfolding decoded
decode_steps bytes text after before body kind a b c d = rw (a, b, c, d) refl

-- the bytes of an object are decoded to it
pub decoded_again : (bytes : List ℕ) (kind : Kind) (body : List ℕ) → ∥ IsObject kind body ∥₁ → bytes ≡ object_bytes kind body → decoded bytes ≡ Some (record { kind = kind; body = body })
decoded_again bytes kind body object is =
    let fits : length body ≤ 16777216 = ∥∥₁_elim object le_prop (λ i. i.size) in
    let size : List ℕ = decimal (length body) in
    let digits = digits_no_nul size (decimal_size (length body) (omega arith)).all in
    decode_steps bytes (word kind) (size ++ 0 ∷ body) (front kind ++ size) body kind
    (ap (cut 32) (is ∙ at_space kind size body) ∙ cut_found 32 (word kind) (size ++ 0 ∷ body) (word_spaceless kind))
    (kind_again kind)
    (ap (cut 0) (is ∙ at_nul kind size body) ∙ cut_found 0 (front kind ++ size) body (Without-append 0 (front kind) size (front_no_nul kind) digits))
    (∥∥₁_elim object (Coded-set coded_bool (is_object_of bytes kind body) true) (λ o. (spells_decides bytes kind body).1 (record { is = is; object = o })))

none_decoded : (bytes : List ℕ) (e : ObjectFault) → BytesFault bytes e → (o : Option StoredObject) → decoded bytes ≡ o → o ≡ None
none_decoded bytes e fault None is = refl
none_decoded bytes e fault (Some o) is = let s = decoded_some bytes o is in absurd (no_fault o.kind o.body s.object bytes e s.is fault)

pub decoded_law : (bytes : List ℕ) (r : Result Object ObjectFault) → IfOk r (λ o. bytes ≡ object_bytes o.kind o.body.now) → IfOk r (λ o. decoded bytes ≡ Some (stored_object o.kind o.body.now))
decoded_law bytes (Ok o) ok = decoded_again bytes o.kind o.body.now o.sound ok
decoded_law bytes (Err e) ok = tt

pub undecoded_law : (bytes : List ℕ) (r : Result Object ObjectFault) → IfErr r (BytesFault bytes) → OnErr r (decoded bytes ≡ None)
undecoded_law bytes (Ok o) err = tt
undecoded_law bytes (Err e) err = none_decoded bytes e err (decoded bytes) refl

-- ---- links
are_links : (kind : Kind) (body : List ℕ) → AreLinks kind body (links_of kind body)
are_links Blob body = refl
are_links Tree body = λ es t e. ap entry_links (read_again es body t e)
are_links Commit body = λ c i e. ap commit_links (ap commit_of e ∙ commit_again c i)
are_links Tag body = λ t i e. ap tag_links (ap tag_of e ∙ tag_again t i)

pub links_law : (kind : Kind) (body : List ℕ) (ids : List ObjectId) → ids ≡ links_of kind body → AreLinks kind body ids
links_law kind body ids e = subst (λ (l : List ObjectId). AreLinks kind body l) (sym e) (are_links kind body)
