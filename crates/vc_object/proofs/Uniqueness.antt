-- Each thing has one spelling, and each spelling one thing: for the laws of the formats.
use Rattle.std.proofs.Common.{◌≡◌, ℕ, ◌≤◌, List, [], ◌∷◌, ◌++◌, zero, suc, length, length-append, Some, refl, ap, sym, ◌∙◌, subst, arith, append_assoc, ◌⊎◌, inl, inr, ⊎_elim}
use Rattle.std.specs.List.{AllByRecursion, Contains}
use Rattle.std.specs.Coded.{le_prop}
use Rattle.std.specs.Prelude.{decimal}
use Rattle.std.proofs.Math.Logic.{∥∥₁_elim}
use Rattle.std.specs.Ordering.{nat_cmp}
use Rattle.std.specs.Cmp.Lexicographic.{slice_cmp}
use Rattle.std.specs.declared.cmp.Ordering.TheVariants.{Less}
use Rattle.std.proofs.lemmas.Cmp.{nat_list_cmp_total}
use Rattle.std.proofs.lemmas.List.Elements.{All-contains, All-from_recursion}
use Rattle.std.proofs.lemmas.List.{nil_from_length}
use Rattle.vc_object.specs.Tree.{Entry, InOrder, ComesBefore, HasSameEntries, key, spelling}
use Rattle.vc_object.specs.CommitReading.{commit_of, tag_of}
use Rattle.vc_object.specs.Header.{header, number}
use Rattle.vc_object.specs.Object.{IsObject}
use Rattle.vc_object.specs.Laws.{ObjectsAreUnique, ObjectsArePrefixFree, TreesAreSets, SetsAreUnique, TreesAreUnique, CommitsAreUnique, TagsAreUnique}
use Rattle.vc_object.specs.declared.kind.Kind.{Kind}
use Rattle.vc_object.proofs.Items.{same_cons}
use Rattle.vc_object.proofs.Reading.{read_again}
use Rattle.vc_object.proofs.Commits.{commit_again, tag_again}
use Rattle.vc_object.proofs.Objects.{header_once, decimal_size, number_decimal}

fits : (k : Kind) (body : List ℕ) → ∥ IsObject k body ∥₁ → length body ≤ 16777216
fits k body o = ∥∥₁_elim o le_prop (λ i. i.size)

pub objects_unique : ObjectsAreUnique
objects_unique j k a b o p e =
    let long = fits j a o in
    let other = fits k b p in
    let once = header_once j k (decimal (length a)) (decimal (length b)) a b (decimal_size (length a) (omega arith)) (decimal_size (length b) (omega arith)) e in
    (once.0, once.2)

pub objects_prefix_free : ObjectsArePrefixFree
objects_prefix_free j k a b more o p e =
    let long = fits j a o in
    let other = fits k b p in
    let once = header_once j k (decimal (length a)) (decimal (length b)) (a ++ more) b (decimal_size (length a) (omega arith)) (decimal_size (length b) (omega arith)) (sym (append_assoc (header j (decimal (length a))) a more) ∙ e) in
    let same : length a ≡ length b = sym (number_decimal (length a) (omega arith)) ∙ ap number once.1 ∙ number_decimal (length b) (omega arith) in
    nil_from_length more (omega (arith, ap length once.2, length-append a more))

-- ---- trees
contains_here : (x : Entry) (xs : List Entry) → Contains (x ∷ xs) x
contains_here x xs = (0, omega arith, refl)

contains_there : (x y : Entry) (xs : List Entry) → Contains xs y → Contains (x ∷ xs) y
contains_there x y xs (k, low, is) = (suc k, omega arith, is)

contains_cases : (x y : Entry) (xs : List Entry) → Contains (x ∷ xs) y → (x ≡ y) ⊎ Contains xs y
contains_cases x y xs (zero, low, is) = inl is
contains_cases x y xs (suc k, low, is) = inr (k, omega arith, is)

contains_none : (x : Entry) → Contains [] x → ⊥
contains_none x (k, low, is) = absurd (omega arith)

behind : (x y : Entry) (xs : List Entry) → AllByRecursion (λ other. ComesBefore x other) xs → Contains xs y → ComesBefore x y
behind x y xs all c = All-contains (λ other. ComesBefore x other) xs y (All-from_recursion (λ other. ComesBefore x other) xs all) c

not_below_itself : (k : List ℕ) → slice_cmp nat_cmp k k ≡ Less → ⊥
not_below_itself k e = let back = nat_list_cmp_total.antisymm k k in cc (rw e at back)

one_way : (x y : Entry) → ComesBefore x y → ComesBefore y x → ⊥
one_way x y a b = not_below_itself (key x.mode x.name) (nat_list_cmp_total.trans (key x.mode x.name) (key y.mode y.name) (key x.mode x.name) a.below b.below)

same_first : (x y : Entry) (xs ys : List Entry) → InOrder (x ∷ xs) → InOrder (y ∷ ys) → HasSameEntries (x ∷ xs) (y ∷ ys) → x ≡ y
same_first x y xs ys o p h = ⊎_elim
    (λ e. sym e)
    (λ later. ⊎_elim
    (λ e. e)
    (λ sooner. absurd (one_way x y (behind x y xs o.0 sooner) (behind y x ys p.0 later)))
    (contains_cases x y xs ((h y).1 (contains_here y ys))))
    (contains_cases y x ys ((h x).0 (contains_here x xs)))

still_there : (x y z : Entry) (xs ys : List Entry) → x ≡ y → AllByRecursion (λ other. ComesBefore x other) xs → (Contains (x ∷ xs) z → Contains (y ∷ ys) z) → Contains xs z → Contains ys z
still_there x y z xs ys e all over c = ⊎_elim
    (λ last. absurd ((behind x z xs all c).apart (ap (λ (i : Entry). i.name) (e ∙ last))))
    (λ there. there)
    (contains_cases y z ys (over (contains_there x z xs c)))

-- lists in order with the same entries are the same
same_order : (xs ys : List Entry) → InOrder xs → InOrder ys → HasSameEntries xs ys → xs ≡ ys
same_order [] [] o p h = refl
same_order [] (y ∷ ys) o p h = absurd (contains_none y ((h y).1 (contains_here y ys)))
same_order (x ∷ xs) [] o p h = absurd (contains_none x ((h x).0 (contains_here x xs)))
same_order (x ∷ xs) (y ∷ ys) o p h =
    let e = same_first x y xs ys o p h in
    same_cons x y xs ys e (same_order xs ys o.1 p.1 (λ z. (still_there x y z xs ys e o.0 (h z).0, still_there y x z ys xs (sym e) p.0 (h z).1)))

pub trees_are_sets : TreesAreSets
trees_are_sets body = (
  λ t. (t.0, record { entries = t.0; tree = t.1; is = t.2; same = λ e. (λ c. c, λ c. c) }),
  λ s. (s.1.entries, s.1.tree, s.1.is),
)

pub sets_unique : SetsAreUnique
sets_unique body xs ys s t = λ e.
    let same : s.entries ≡ t.entries = sym (read_again s.entries body s.tree s.is) ∙ read_again t.entries body t.tree t.is in (
      λ c. (t.same e).0 (subst (λ (es : List Entry). Contains es e) same ((s.same e).1 c)),
      λ c. (s.same e).0 (subst (λ (es : List Entry). Contains es e) (sym same) ((t.same e).1 c)),
    )

pub trees_unique : TreesAreUnique
trees_unique a b xs ys s t h =
    let same : s.entries ≡ t.entries = same_order s.entries t.entries s.tree.order t.tree.order (λ e. (
      λ c. (t.same e).1 ((h e).0 ((s.same e).0 c)),
      λ c. (s.same e).1 ((h e).1 ((t.same e).0 c)),
    )) in
    s.is ∙ ap spelling same ∙ sym t.is

-- ---- commits and tags
pub commits_unique : CommitsAreUnique
commits_unique c d i j e = let same : Some c ≡ Some d = sym (commit_again c i) ∙ ap commit_of e ∙ commit_again d j in cc same

pub tags_unique : TagsAreUnique
tags_unique s t i j e = let same : Some s ≡ Some t = sym (tag_again s i) ∙ ap tag_of e ∙ tag_again t j in cc same
