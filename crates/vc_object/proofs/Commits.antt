-- Commits and tags are read as they are written.
use Rattle.std.proofs.Common.{◌≡◌, ◌≢◌, ℕ, ◌<◌, false, List, ◌∷◌, ◌++◌, length, Option, Some, None, refl, ap, sym, ◌∙◌, subst, arith, append_assoc, cond, ⊎_elim, []}
use Rattle.std.proofs.Common.{true≢false}
use Rattle.std.specs.Prelude.{codes, unwrap_or, is_none, ◌==◌, IfSome}
use Rattle.std.specs.Option.{option_map}
use Rattle.vc_object.specs.CommitView.{commit_view, tag_view}
use Rattle.vc_object.specs.declared.commit.Commit.{Commit}
use Rattle.vc_object.specs.declared.tag.Tag.{Tag}
use Rattle.std.specs.Str.{bytes_eq}
use Rattle.std.proofs.lemmas.Slice.Eq.{bytes_eq-Decides}
use Rattle.vc_object.specs.Bytes.{Without}
use Rattle.vc_object.specs.Kind.{word}
use Rattle.vc_object.specs.Tag.{TagText, IsTag, tag_bytes}
use Rattle.vc_object.specs.declared.kind.Kind.{Kind}
use Rattle.vc_object.specs.declared.kind.Kind.TheVariants as kinds
use Rattle.vc_object.proofs.Texts.{Without-test, ne-eqb}
use Rattle.vc_object.proofs.Reading.{chosen, cond_none}
use Rattle.std.specs.List.{flat_map}
use Rattle.vc_lemmas.proofs.Texts.{not_nothing}
use Rattle.vc_object.specs.Items.{after_items}
use Rattle.vc_object.specs.Lines.{IsId, line, id_line, id_line_at, line_at}
use Rattle.vc_object.specs.Commit.{CommitText, IsCommit, commit_bytes}
use Rattle.vc_object.specs.CommitReading.{parent_at, parent_ids, commit_of, kind_of, tag_of}
use Rattle.vc_object.specs.declared.id.ObjectId.{ObjectId}
use Rattle.vc_object.proofs.Items.{bind_some, AreItems, are_items, items_again, after_again}
use Rattle.vc_object.proofs.LineTexts.{id_line_some, id_line_again, id_line_takes, line_some, line_again}

pub parent_takes : (bytes : List ℕ) (id : ObjectId) (r : List ℕ) → parent_at bytes ≡ Some (id, r) → length r < length bytes
parent_takes bytes id r e = id_line_takes (codes "parent ") bytes id r e

are_parents : (bytes : List ℕ) → AreItems parent_at parent_takes (id_line (codes "parent ")) IsId bytes
are_parents bytes = are_items parent_at parent_takes (id_line (codes "parent ")) IsId (λ b id r e. id_line_some (codes "parent ") b id r e) bytes

regroup : (t p a c r : List ℕ) → t ++ (p ++ (a ++ (c ++ r))) ≡ t ++ p ++ a ++ c ++ r
regroup t p a c r = simp append_assoc

pub record ReadsCommit (bytes : List ℕ) (c : CommitText) : Type 0 where
  pub is : bytes ≡ commit_bytes c
  pub legal : IsCommit c

module _ (bytes p b r a m : List ℕ) (tree : ObjectId) where
  made : CommitText
  made = record { tree = tree; parents = parent_ids p; author = a; committer = m; rest = r }

  commit_parts : (bytes ≡ id_line (codes "tree ") tree ++ p) × IsId tree → (after_items parent_at p ≡ line (codes "author ") a ++ b) × Without 10 a → (b ≡ line (codes "committer ") m ++ r) × Without 10 m → ReadsCommit bytes made
  unfolding made
  commit_parts h i j =
      let items = are_parents p in record {
        is =
            h.0
            ∙ ap (λ x. id_line (codes "tree ") tree ++ x) (items.is ∙ ap (λ x. flat_map (id_line (codes "parent ")) (parent_ids p) ++ x) (i.0 ∙ ap (λ x. line (codes "author ") a ++ x) j.0))
            ∙ regroup (id_line (codes "tree ") tree) (flat_map (id_line (codes "parent ")) (parent_ids p)) (line (codes "author ") a) (line (codes "committer ") m) r;
        legal = record { tree = h.1; parents = items.legal; author = i.1; committer = j.1 };
      }

  commit_steps : id_line_at (codes "tree ") bytes ≡ Some (tree, p) → line_at (codes "author ") (after_items parent_at p) ≡ Some (a, b) → line_at (codes "committer ") b ≡ Some (m, r) → commit_of bytes ≡ Some made
  unfolding made commit_of
  commit_steps x y z = rw (x, y, z) refl

same_commit : (bytes : List ℕ) (c d : CommitText) → Some c ≡ Some d → ReadsCommit bytes c → ReadsCommit bytes d
same_commit bytes c d e h = subst (λ (x : CommitText). ReadsCommit bytes x) (ap (λ o. unwrap_or {T = CommitText} o c) e) h

pub commit_some : (bytes : List ℕ) (c : CommitText) → commit_of bytes ≡ Some c → ReadsCommit bytes c
unfolding made commit_of
commit_some bytes c e =
    let t = bind_some (id_line_at (codes "tree ") bytes) _ _ e in
    let a = bind_some (line_at (codes "author ") (after_items parent_at t.0.1)) _ _ t.2 in
    let m = bind_some (line_at (codes "committer ") a.0.1) _ _ a.2 in
    same_commit bytes _ c m.2
    (commit_parts bytes t.0.1 a.0.1 m.0.1 a.0.0 m.0.0 t.0.0 (id_line_some (codes "tree ") bytes t.0.0 t.0.1 t.1) (line_some (codes "author ") (after_items parent_at t.0.1) a.0.0 a.0.1 a.1) (line_some (codes "committer ") a.0.1 m.0.0 m.0.1 m.1))

-- no parent line begins as an author's does
no_parent_first : (x r : List ℕ) → parent_at (line (codes "author ") x ++ r) ≡ None
unfolding id_line_at
no_parent_first x r = refl

pub commit_again : (c : CommitText) → IsCommit c → commit_of (commit_bytes c) ≡ Some c
unfolding made
commit_again c i =
    let tree = id_line (codes "tree ") c.tree in
    let parents = flat_map (id_line (codes "parent ")) c.parents in
    let author = line (codes "author ") c.author in
    let committer = line (codes "committer ") c.committer in
    let legal = λ (x : ObjectId) (r : List ℕ) (h : IsId x). id_line_again (codes "parent ") x r h in
    let none = no_parent_first c.author (committer ++ c.rest) in
    commit_steps (commit_bytes c) (parents ++ (author ++ (committer ++ c.rest))) (committer ++ c.rest) c.rest c.author c.committer c.tree
    (ap (id_line_at (codes "tree ")) (sym (regroup tree parents author committer c.rest)) ∙ id_line_again (codes "tree ") c.tree (parents ++ (author ++ (committer ++ c.rest))) i.tree)
    (ap (line_at (codes "author ")) (after_again parent_at parent_takes (id_line (codes "parent ")) IsId legal c.parents (author ++ (committer ++ c.rest)) i.parents none) ∙ line_again (codes "author ") c.author (committer ++ c.rest) i.author)
    (line_again (codes "committer ") c.committer c.rest i.committer)
    ∙ ap (λ ps. Some (record { tree = c.tree; parents = ps; author = c.author; committer = c.committer; rest = c.rest })) (items_again parent_at parent_takes (id_line (codes "parent ")) IsId legal c.parents (author ++ (committer ++ c.rest)) i.parents none)

-- tags
kind_if : (text : List ℕ) (k n : Kind) (o : Option Kind) → (o ≡ Some k → text ≡ word k) → cond (bytes_eq text (word n)) (Some n) o ≡ Some k → text ≡ word k
kind_if text k n o next e = ⊎_elim
    (λ h. (bytes_eq-Decides text (word n)).0 h.0 ∙ ap word (ap (λ x. unwrap_or {T = Kind} x n) h.1))
    (λ h. next h.1)
    (chosen _ _ _ _ e)

pub kind_some : (text : List ℕ) (k : Kind) → kind_of text ≡ Some k → text ≡ word k
kind_some text k =
    kind_if text k kinds.Blob _ (
    kind_if text k kinds.Tree _ (
    kind_if text k kinds.Commit _ (
    kind_if text k kinds.Tag _ (λ e. absurd (true≢false (ap is_none e))))))

pub kind_again : (k : Kind) → kind_of (word k) ≡ Some k
kind_again kinds.Blob = refl
kind_again kinds.Tree = refl
kind_again kinds.Commit = refl
kind_again kinds.Tag = refl

pub kind_read : (text : List ℕ) (o : Option Kind) → o ≡ kind_of text → IfSome o (λ k. text ≡ word k)
kind_read text None e = tt
kind_read text (Some k) e = kind_some text k (sym e)

pub kind_found : (text : List ℕ) (o : Option Kind) → o ≡ kind_of text → (k : Kind) → text ≡ word k → o ≡ Some k
kind_found text o e k is = e ∙ ap kind_of is ∙ kind_again k

word_line : (k : Kind) → Without 10 (word k)
word_line kinds.Blob = Without-test 10 (word kinds.Blob) refl
word_line kinds.Tree = Without-test 10 (word kinds.Tree) refl
word_line kinds.Commit = Without-test 10 (word kinds.Commit) refl
word_line kinds.Tag = Without-test 10 (word kinds.Tag) refl

regroup_tag : (o t n r : List ℕ) → o ++ (t ++ (n ++ r)) ≡ o ++ t ++ n ++ r
regroup_tag o t n r = simp append_assoc

pub record ReadsTag (bytes : List ℕ) (t : TagText) : Type 0 where
  pub is : bytes ≡ tag_bytes t
  pub legal : IsTag t

module _ (bytes b w d n r : List ℕ) (object : ObjectId) (k : Kind) where
  made_tag : TagText
  made_tag = record { object = object; kind = k; name = n; rest = r }

  tag_parts : (bytes ≡ id_line (codes "object ") object ++ b) × IsId object → (b ≡ line (codes "type ") w ++ d) × Without 10 w → w ≡ word k → (d ≡ line (codes "tag ") n ++ r) × Without 10 n → n ≢ [] → ReadsTag bytes made_tag
  unfolding made_tag
  tag_parts h i same j some = record {
    is =
        h.0
        ∙ ap (λ x. id_line (codes "object ") object ++ x) (i.0 ∙ ap (λ x. line (codes "type ") x ++ d) same ∙ ap (λ x. line (codes "type ") (word k) ++ x) j.0)
        ∙ regroup_tag (id_line (codes "object ") object) (line (codes "type ") (word k)) (line (codes "tag ") n) r;
    legal = record { object = h.1; some = some; name = j.1 };
  }

  tag_steps : id_line_at (codes "object ") bytes ≡ Some (object, b) → line_at (codes "type ") b ≡ Some (w, d) → kind_of w ≡ Some k → line_at (codes "tag ") d ≡ Some (n, r) → (length n == 0) ≡ false → tag_of bytes ≡ Some made_tag
  unfolding made_tag tag_of
  tag_steps x y k z some = rw (x, y, k, z, some) refl

pub tag_some : (bytes : List ℕ) (t : TagText) → tag_of bytes ≡ Some t → ReadsTag bytes t
unfolding made_tag tag_of
tag_some bytes t e =
    let o = bind_some (id_line_at (codes "object ") bytes) _ _ e in
    let w = bind_some (line_at (codes "type ") o.0.1) _ _ o.2 in
    let k = bind_some (kind_of w.0.0) _ _ w.2 in
    let n = bind_some (line_at (codes "tag ") w.0.1) _ _ k.2 in
    let d = cond_none _ _ _ n.2 in
    subst (λ (x : TagText). ReadsTag bytes x) d.1
    (tag_parts bytes o.0.1 w.0.0 w.0.1 n.0.0 n.0.1 o.0.0 k.0 (id_line_some (codes "object ") bytes o.0.0 o.0.1 o.1) (line_some (codes "type ") o.0.1 w.0.0 w.0.1 w.1) (kind_some w.0.0 k.0 k.1) (line_some (codes "tag ") w.0.1 n.0.0 n.0.1 n.1) (not_nothing n.0.0 d.0))

not_nil : (n : List ℕ) → n ≢ [] → (length n == 0) ≡ false
not_nil [] h = absurd (h refl)
not_nil (x ∷ n) h = ne-eqb (length (x ∷ n)) 0 (λ e. omega arith)

pub tag_again : (t : TagText) → IsTag t → tag_of (tag_bytes t) ≡ Some t
unfolding made_tag
tag_again t i =
    let object = id_line (codes "object ") t.object in
    let kind = line (codes "type ") (word t.kind) in
    let name = line (codes "tag ") t.name in
    tag_steps (tag_bytes t) (kind ++ (name ++ t.rest)) (word t.kind) (name ++ t.rest) t.name t.rest t.object t.kind
    (ap (id_line_at (codes "object ")) (sym (regroup_tag object kind name t.rest)) ∙ id_line_again (codes "object ") t.object (kind ++ (name ++ t.rest)) i.object)
    (line_again (codes "type ") (word t.kind) (name ++ t.rest) (word_line t.kind))
    (kind_again t.kind)
    (line_again (codes "tag ") t.name t.rest i.name)
    (not_nil t.name i.some)

pub read_commit_law : (bytes : List ℕ) (r : Option Commit) → option_map commit_view r ≡ commit_of bytes → IfSome r (λ c. IsCommit (commit_view c) × (bytes ≡ commit_bytes (commit_view c)))
read_commit_law bytes None e = tt
read_commit_law bytes (Some c) e = let r = commit_some bytes (commit_view c) (sym e) in (r.legal, r.is)

pub read_tag_law : (bytes : List ℕ) (r : Option Tag) → option_map tag_view r ≡ tag_of bytes → IfSome r (λ t. IsTag (tag_view t) × (bytes ≡ tag_bytes (tag_view t)))
read_tag_law bytes None e = tt
read_tag_law bytes (Some t) e = let r = tag_some bytes (tag_view t) (sym e) in (r.legal, r.is)
