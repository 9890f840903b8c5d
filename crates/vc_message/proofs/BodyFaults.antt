-- A body is an object of its kind, or it has a fault: for whom a message says only that it is one or that it is none.
use Rattle.std.proofs.Common.{◌≡◌, ◌≢◌, ℕ, zero, suc, ◌<◌, ◌≤◌, Bool, true, false, List, [], ◌∷◌, ◌++◌, length, take, drop, Option, Some, None, refl, ap, sym, ◌∙◌, arith, append_assoc, length-append, ◌⊎◌, inl, inr, ⊎_elim, true≢false}
use Rattle.std.specs.Bool.{Decides}
use Rattle.std.specs.Ordering.{nat_cmp}
use Rattle.std.specs.Cmp.Lexicographic.{slice_cmp}
use Rattle.std.specs.Str.{bytes_eq}
use Rattle.std.specs.declared.cmp.Ordering.{Ordering}
use Rattle.std.specs.declared.cmp.Ordering.TheVariants.{Less, Equal, Greater}
use Rattle.std.proofs.lemmas.List.{append-nil, length-take-le, take-append-drop}
use Rattle.std.proofs.lemmas.Slice.Eq.{bytes_eq-Decides}
use Rattle.vc_object.specs.Bytes.{Without}
use Rattle.vc_object.specs.Commit.{CommitText}
use Rattle.vc_object.specs.CommitReading.{commit_of, tag_of}
use Rattle.vc_object.specs.Decoding.{StoredObject, is_entry_name}
use Rattle.vc_object.specs.Entries.{mode_of}
use Rattle.vc_object.specs.Object.{IsBody, IsObject}
use Rattle.vc_object.specs.ObjectFault as fault
use Rattle.vc_object.specs.ObjectFault.{BodyFault, GrammarFault}
use Rattle.vc_object.specs.Tag.{TagText}
use Rattle.vc_object.specs.Tree.{Entry, HasName, IsEntry, IsName, IsTree, IsTreeBody, entry_bytes, key, mode_text, spelling}
use Rattle.vc_object.specs.TreeFault.{AllBelow, EntryFault, Named, NextEntry, TreeFault, of_id, of_mode, of_name, of_place}
use Rattle.vc_object.specs.declared.fault.ObjectFault.{ObjectFault}
use Rattle.vc_object.specs.declared.fault.ObjectFault.TheVariants.{BadCommit, BadMode, BadName, BadTag, Cut, DuplicateName, NotSorted, TooLarge}
use Rattle.vc_object.specs.declared.kind.Kind.{Kind}
use Rattle.vc_object.specs.declared.kind.Kind.TheVariants.{Blob, Tree, Commit, Tag}
use Rattle.vc_object.specs.declared.mode.Mode.{Mode}
use Rattle.vc_object.proofs.Commits.{commit_again, commit_some, tag_again, tag_some}
use Rattle.vc_object.proofs.Decoding.{name_decides}
use Rattle.vc_object.proofs.Faults.{spelling_push}
use Rattle.vc_object.proofs.OneFault.{no_body_fault}
use Rattle.vc_object.proofs.Order.{All-push, all_before, order_push}
use Rattle.vc_object.proofs.Reading.{mode_again, mode_some, regroup}
use Rattle.vc_object.proofs.Texts.{first_cut}
use Rattle.vc_fetch.specs.Pack.{is_object}
use Rattle.vc_fetch.proofs.Packs.{err_object, ok_object}
use Rattle.vc_message.proofs.Totals.{less_or}

-- ---- one way or the other
abbrev Decided : Type 0 → Type 0
Decided P = P ⊎ (P → ⊥)

by_test : {P : Type 0} (b : Bool) → Decides b P → Decided P
by_test true d = inl (d.0 refl)
by_test false d = inr (λ p. true≢false (sym (d.1 p)))

has_name : (es : List Entry) (name : List ℕ) → Decided (HasName es name)
has_name [] name = inr (λ h. h)
has_name (e ∷ es) name = by (by_test (bytes_eq e.name name) (bytes_eq-Decides e.name name)) (has_name es name)
  where
    by : Decided (e.name ≡ name) → Decided (HasName es name) → Decided (HasName (e ∷ es) name)
    by (inl same) there = inl (inl same)
    by (inr other) (inl there) = inl (inr there)
    by (inr other) (inr none) = inr (λ h. ⊎_elim other none h)

is_less : (o : Ordering) → Decided (o ≡ Less)
is_less Less = inl refl
is_less Equal = inr (λ e. cc e)
is_less Greater = inr (λ e. cc e)

all_below : (es : List Entry) (mode : Mode) (name : List ℕ) → Decided (AllBelow es mode name)
all_below [] mode name = inl tt
all_below (e ∷ es) mode name = by (is_less (slice_cmp nat_cmp (key e.mode e.name) (key mode name))) (all_below es mode name)
  where
    by : Decided (slice_cmp nat_cmp (key e.mode e.name) (key mode name) ≡ Less) → Decided (AllBelow es mode name) → Decided (AllBelow (e ∷ es) mode name)
    by (inl below) (inl all) = inl (below, all)
    by (inl below) (inr none) = inr (λ h. none h.1)
    by (inr none) all = inr (λ h. none h.0)

-- ---- trees
-- an entry stands at the front of the bytes, behind these entries, or it is at fault
abbrev Next : List Entry → List ℕ → Type 0
Next before rest = ((entry : Entry) × (more : List ℕ) × NextEntry before rest entry more) ⊎ ((e : ObjectFault) × EntryFault before rest e)

module _ (before : List Entry) (rest : List ℕ) where
  module _ (mode : Mode) (name more : List ℕ) (named : Named rest mode name more) where
    placed : (HasName before name → ⊥) → AllBelow before mode name → (length more < 20) ⊎ (20 ≤ length more) → Next before rest
    placed fresh below (inl short) = inr (Cut, of_id mode name more named fresh below short refl)
    placed fresh below (inr long) =
        let entry : Entry = record { mode = mode; name = name; id = record { 0 = take 20 more } } in
        inl (
          entry,
          drop 20 more,
          record {
            is = named.is ∙ ap (λ t. mode_text mode ++ 32 ∷ (name ++ 0 ∷ t)) (sym (take-append-drop 20 more)) ∙ regroup (mode_text mode) name (take 20 more) (drop 20 more);
            legal = record { name = named.legal; id = length-take-le 20 more long };
            order = all_before before entry fresh below;
          },
        )

    place : Decided (HasName before name) → Decided (AllBelow before mode name) → Next before rest
    place (inl there) below = inr (DuplicateName, of_place mode name more named there)
    place (inr fresh) (inl below) = placed fresh below (less_or (length more) 20)
    place (inr fresh) (inr late) = inr (NotSorted, of_place mode name more named (fresh, late))

  module _ (mode : Mode) (after : List ℕ) (is : rest ≡ mode_text mode ++ 32 ∷ after) where
    by_name : Without 0 after ⊎ ((f : List ℕ) × (r : List ℕ) × Without 0 f × (after ≡ f ++ 0 ∷ r)) → Next before rest
    by_name (inl none) = inr (Cut, of_name mode after is none)
    by_name (inr (f, r, w, cut)) = legal (by_test (is_entry_name f) (name_decides f))
      where
        legal : Decided (IsName f) → Next before rest
        legal (inl good) = place mode f r (record { is = is ∙ ap (λ t. mode_text mode ++ 32 ∷ t) cut; legal = good }) (has_name before f) (all_below before mode f)
        legal (inr bad) = inr (BadName, of_name mode after is (f, r, w, cut, bad))

  by_mode : (text after : List ℕ) → Without 32 text → rest ≡ text ++ 32 ∷ after → (o : Option Mode) → mode_of text ≡ o → Next before rest
  by_mode text after w is (Some mode) e = by_name mode after (is ∙ ap (λ t. t ++ 32 ∷ after) (mode_some text mode e)) (first_cut 0 after)
  by_mode text after w is None e = inr (BadMode, of_mode (text, after, w, is, λ mode same. let found : Some mode ≡ None = sym (mode_again mode) ∙ ap mode_of (sym same) ∙ e in cc found))

  next : Without 32 rest ⊎ ((f : List ℕ) × (r : List ℕ) × Without 32 f × (rest ≡ f ++ 32 ∷ r)) → Next before rest
  next (inl none) = inr (Cut, of_mode none)
  next (inr (f, r, w, cut)) = by_mode f r w cut (mode_of f) refl

abbrev TreeOr : List ℕ → Type 0
TreeOr body = IsTreeBody body ⊎ ((e : ObjectFault) × TreeFault body e)

-- one entry more, where what stands behind it is a tree's rest or at fault
module _ (body : List ℕ) (before : List Entry) (rest : List ℕ) (some : rest ≢ []) (is : body ≡ spelling before ++ rest) (tree : IsTree before) (others : (entries : List Entry) (more : List ℕ) → length more < length rest → body ≡ spelling entries ++ more → IsTree entries → TreeOr body) where
  by_next : Next before rest → TreeOr body
  by_next (inr (e, at)) = inr (e, record { before = before; rest = rest; is = is; tree = tree; some = some; fault = at })
  by_next (inl (entry, more, n)) =
      others (before ++ entry ∷ []) more
      (omega (arith, ap length n.is, length-append (entry_bytes entry) more, length-append (mode_text entry.mode ++ 32 ∷ entry.name) (0 ∷ entry.id.0)))
      (is ∙ ap (λ t. spelling before ++ t) n.is ∙ sym (append_assoc (spelling before) (entry_bytes entry) more) ∙ ap (λ t. t ++ more) (spelling_push before entry))
      (record { legal = All-push IsEntry before entry tree.legal n.legal; order = order_push before entry tree.order n.order })

tree_from : (fuel : ℕ) (body : List ℕ) (before : List Entry) (rest : List ℕ) → length rest < fuel → body ≡ spelling before ++ rest → IsTree before → TreeOr body
tree_from zero body before rest less is tree = absurd (omega arith)
tree_from (suc fuel) body before [] less is tree = inl (before, tree, is ∙ append-nil (spelling before))
tree_from (suc fuel) body before (b ∷ bs) less is tree =
    by_next body before (b ∷ bs) (λ z. cc z) is tree
    (λ entries more shorter at legal. tree_from fuel body entries more (omega (arith, less, shorter)) at legal)
    (next before (b ∷ bs) (first_cut 32 (b ∷ bs)))

-- ---- bodies
commit_or : (body : List ℕ) (o : Option CommitText) → commit_of body ≡ o → IsBody Commit body ⊎ ((e : ObjectFault) × GrammarFault Commit body e)
commit_or body (Some c) e = let r = commit_some body c e in inl (c, r.legal, r.is)
commit_or body None e = inr (BadCommit, (refl, λ b. let found : Some b.0 ≡ None = sym (commit_again b.0 b.1) ∙ ap commit_of (sym b.2) ∙ e in cc found))

tag_or : (body : List ℕ) (o : Option TagText) → tag_of body ≡ o → IsBody Tag body ⊎ ((e : ObjectFault) × GrammarFault Tag body e)
tag_or body (Some t) e = let r = tag_some body t e in inl (t, r.legal, r.is)
tag_or body None e = inr (BadTag, (refl, λ b. let found : Some b.0 ≡ None = sym (tag_again b.0 b.1) ∙ ap tag_of (sym b.2) ∙ e in cc found))

grammar_or : (kind : Kind) (body : List ℕ) → IsBody kind body ⊎ ((e : ObjectFault) × GrammarFault kind body e)
grammar_or Blob body = inl tt
grammar_or Tree body = tree_from (suc (length body)) body [] body (omega arith) refl (record { legal = tt; order = tt })
grammar_or Commit body = commit_or body (commit_of body) refl
grammar_or Tag body = tag_or body (tag_of body) refl

pub object_or_fault : (kind : Kind) (body : List ℕ) → IsObject kind body ⊎ ((e : ObjectFault) × BodyFault kind body e)
object_or_fault kind body = by (less_or 16777216 (length body)) (grammar_or kind body)
  where
    by : (16777216 < length body) ⊎ (length body ≤ 16777216) → IsBody kind body ⊎ ((e : ObjectFault) × GrammarFault kind body e) → IsObject kind body ⊎ ((e : ObjectFault) × BodyFault kind body e)
    by (inl large) grammar = inr (TooLarge, fault.too_large large refl)
    by (inr fits) (inl grammar) = inl (record { grammar = grammar; size = fits })
    by (inr fits) (inr (e, at)) = inr (e, fault.no_grammar fits at)

-- ---- what passes the test is an object, and what doesn't has a fault
pub object_is : (o : StoredObject) → length o.body ≤ 16777216 → is_object o ≡ true → IsObject o.kind o.body
object_is o small passes = by (object_or_fault o.kind o.body)
  where
    by : IsObject o.kind o.body ⊎ ((e : ObjectFault) × BodyFault o.kind o.body e) → IsObject o.kind o.body
    by (inl is) = is
    by (inr (e, at)) = absurd (true≢false (sym passes ∙ sym (err_object o.kind o.body (omega (arith, small)) (λ is. no_body_fault o.kind o.body e is at))))

pub fault_is : (o : StoredObject) → is_object o ≡ false → (e : ObjectFault) × BodyFault o.kind o.body e
fault_is o fails = by (object_or_fault o.kind o.body)
  where
    by : IsObject o.kind o.body ⊎ ((e : ObjectFault) × BodyFault o.kind o.body e) → (e : ObjectFault) × BodyFault o.kind o.body e
    by (inl is) = absurd (true≢false (ok_object o.kind o.body is ∙ fails))
    by (inr at) = at
