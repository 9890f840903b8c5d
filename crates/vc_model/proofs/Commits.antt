-- A commit that a clone makes of its index is good: closed, with commits alone along its parent links.
use Rattle.std.proofs.Common.{◌≡◌, ℕ, ◌<◌, List, ◌∷◌, Option, Some, None, Ok, ◌⊎◌, inl, inr, refl, sym, ap, ◌∙◌, subst, arith, Contains, get_or, option_to_list, unwrap_or, []}
use Rattle.std.specs.FinMap.{get}
use Rattle.std.specs.Option.{option_or}
use Rattle.std.specs.List.{AllByRecursion}
use Rattle.std.specs.Cmp.Lexicographic.{nat_list_cmp_total}
use Rattle.std.proofs.lemmas.List.Elements.{Contains-append_cases, Contains-push_cases}
use Rattle.vc_lemmas.proofs.Lists.{all_append, all_map}
use Rattle.vc_model.specs.Object.{Id, Object, IsLine, Format, Objects, Lookup, IsNamed, stored, over}
use Rattle.vc_model.specs.Object.Kind.{Commit}
use Rattle.vc_model.specs.Reach.{Path, Links, HasParent, IsClosed}
use Rattle.vc_model.specs.Refs.{Head, branch, tag, IsBranch}
use Rattle.vc_model.specs.Refs.Head.{OnBranch, Detached}
use Rattle.vc_model.specs.Repository.{Repository, IsSound}
use Rattle.vc_model.specs.Shared.{head_value}
use Rattle.vc_model.specs.Clone.{IsGoodCommit, with_object}
use Rattle.vc_model.specs.Clone.Task.{MakeCommit}
use Rattle.vc_model.specs.Rules.{Rules, AreFound}
use Rattle.vc_model.specs.CloneCall.{Makes, new_commit, parents_with}
use Rattle.vc_model.specs.Exact.{MadeFit}
use Rattle.vc_model.proofs.Maps.{insert_same, insert_other, same_key, bytes_same}
use Rattle.vc_model.proofs.Reaching.{Extends, closed_grows, history_grows}
use Rattle.vc_model.proofs.Sound.{over_extends, named_over}
use Rattle.vc_model.proofs.Clones.{with_object_named}

-- ---- lists

pub contains_first : {X : Type 0} (x y : X) → Contains (x ∷ []) y → x ≡ y
contains_first x y c = elim (Contains-push_cases [] x y c) [ inl n ↦ absurd (let k : n.0 < 0 = n.1 in omega arith) | inr e ↦ e ]

pub contains_cons : {X : Type 0} (x : X) (xs : List X) (y : X) → Contains (x ∷ xs) y → (x ≡ y) ⊎ Contains xs y
contains_cons x xs y c = elim (Contains-append_cases (x ∷ []) xs y c) [ inl f ↦ inl (contains_first x y f) | inr r ↦ inr r ]

-- what holds of each element holds of one that is contained
pub all_holds : {X : Type 0} (P : X → Type 0) (xs : List X) (y : X) → AllByRecursion P xs → Contains xs y → P y
all_holds P [] y a c = absurd (let k : c.0 < 0 = c.1 in omega arith)
all_holds P (x ∷ xs) y a c = elim (contains_cons x xs y c) [ inl e ↦ subst P e a.0 | inr r ↦ all_holds P xs y a.1 r ]

-- ---- HEAD's commit is good

pub branch_tag_apart : (a b : List ℕ) → branch a ≡ tag b → ⊥
branch_tag_apart a b e = let h : ◌≡◌ {A = ℕ} 104 116 = ap (λ (xs : List ℕ). get_or xs 5 0) e in omega arith

head_good_by : (fmt : Format) (r : Repository) → IsSound fmt r → (h : Head) → r.head ≡ h → (x : Id) → elim h [ OnBranch b ↦ get r.refs b | Detached y ↦ Some y ] ≡ Some x → IsGoodCommit fmt (stored r.objects) x
head_good_by fmt r s (OnBranch b) e x g =
    let v = s.refs b x g in
    let named : IsBranch b = (s.on_branch b e).0 in
    (v.closed, elim (v.kind) [ inl t ↦ absurd (branch_tag_apart named.0 t.0 (sym named.1 ∙ t.1)) | inr k ↦ k.1 ])
head_good_by fmt r s (Detached y) e x g = let same : y ≡ x = cc in s.head x (e ∙ ap Detached same)

pub head_good : (fmt : Format) (r : Repository) → IsSound fmt r → (o : Option Id) → head_value r ≡ o → AllByRecursion (IsGoodCommit fmt (stored r.objects)) (option_to_list o)
head_good fmt r s None e = tt
head_good fmt r s (Some x) e = (head_good_by fmt r s r.head refl x e, tt)

-- ---- the new commit

module _ (fmt : Format) (rules : Rules fmt) (r : Repository) (extra : List Id) (author committer message : List ℕ) (t : Objects × Id)
    (sound : IsSound fmt r) (fit : MadeFit fmt rules r (MakeCommit extra author committer message)) (trees : rules.trees_of r.index (Ok t)) where
  abbrev commit : Object
  commit = new_commit fmt r t.1 extra author committer message

  abbrev x : Id
  x = fmt.name_of commit

  abbrev made : Objects
  made = with_object t.0 x commit

  abbrev at : Lookup
  at = over r.objects made

  abbrev IsMade : Object → Type 0
  IsMade o = Makes fmt rules r (MakeCommit extra author committer message) o

  makes_commit : IsMade commit
  makes_commit = (t, trees, inr refl)

  makes_tree : (y : Id) (o : Object) → get t.0 y ≡ Some o → IsMade o
  makes_tree y o g = (t, trees, inl (y, g))

  tree_named : (y : Id) (o : Object) → get t.0 y ≡ Some o → fmt.name_of o ≡ y
  tree_named y o g = (rules.trees_named r.index t trees).named y o g

  pub made_named : IsNamed fmt made
  made_named = with_object_named fmt t.0 x commit (rules.trees_named r.index t trees) refl

  -- a made object is found under its name
  found_made : (o : Object) → IsMade o → get made (fmt.name_of o) ≡ Some o → at (fmt.name_of o) ≡ Some o
  found_made o m g = go (get r.objects (fmt.name_of o)) refl
    where
      go : (b : Option Object) → get r.objects (fmt.name_of o) ≡ b → option_or b (get made (fmt.name_of o)) ≡ Some o
      go None e = g
      go (Some p) e = ap Some (sym (fit.stored o p m e))

  put_here : get made x ≡ Some (unwrap_or (get t.0 x) commit)
  put_here = insert_same nat_list_cmp_total bytes_same t.0 x (unwrap_or (get t.0 x) commit)

  tree_made : (y : Id) (o : Object) → get t.0 y ≡ Some o → get made y ≡ Some o
  tree_made y o g = elim (same_key nat_list_cmp_total bytes_same y x) [
    | inl e ↦ ap (get made) e ∙ (put_here ∙ ap (λ (found : Option Object). Some (unwrap_or found commit)) (sym (ap (get t.0) e) ∙ g))
    | inr e ↦ insert_other nat_list_cmp_total bytes_same t.0 x (unwrap_or (get t.0 x) commit) y e ∙ g
  ]

  pub trees_found : AreFound at t.0
  trees_found y o g =
      let n : fmt.name_of o ≡ y = tree_named y o g in
      subst (λ z. at z ≡ Some o) n (found_made o (makes_tree y o g) (subst (λ z. get made z ≡ Some o) (sym n) (tree_made y o g)))

  -- no tree has the commit's name
  commit_kept : (found : Option Object) → get t.0 x ≡ found → unwrap_or found commit ≡ commit
  commit_kept None e = refl
  commit_kept (Some o) e = sym (fit.apart commit o makes_commit (makes_tree x o e) (sym (tree_named x o e)))

  commit_found : at x ≡ Some commit
  commit_found = found_made commit makes_commit (put_here ∙ ap Some (commit_kept (get t.0 x) refl))

  extends : Extends (stored r.objects) at
  extends = over_extends r.objects made

  root_closed : IsClosed fmt at t.1
  root_closed = rules.trees_closed r.index t at trees trees_found (λ p e g n. closed_grows fmt (stored r.objects) at e.id extends (sound.index p e g n))

  module _ (lines : IsLine author × IsLine committer) (good : AllByRecursion (IsGoodCommit fmt (stored r.objects)) extra) where
    abbrev parents : List Id
    parents = parents_with r extra

    parents_good : AllByRecursion (IsGoodCommit fmt at) parents
    parents_good = all_map (IsGoodCommit fmt (stored r.objects)) (IsGoodCommit fmt at) parents
        (λ y g. (closed_grows fmt (stored r.objects) at y extends g.0, history_grows fmt (stored r.objects) at y extends g.1))
        (all_append (IsGoodCommit fmt (stored r.objects)) (option_to_list (head_value r)) extra (head_good fmt r sound (head_value r) refl) good)

    links_closed : AllByRecursion (IsClosed fmt at) (t.1 ∷ parents)
    links_closed = (root_closed, all_map (IsGoodCommit fmt at) (IsClosed fmt at) parents (λ y g. g.0) parents_good)

    named_link : (y : Id) → Contains (t.1 ∷ parents) y → (o : Object) × (fmt.name_of o ≡ y)
    named_link y c =
        let o = (all_holds (IsClosed fmt at) (t.1 ∷ parents) y links_closed c).there y ([], refl) in
        (o.0, named_over fmt r.objects made y o.0 sound.objects made_named o.1)

    links_are : fmt.links commit ≡ t.1 ∷ parents
    links_are = fmt.commit_links t.1 parents author committer message named_link lines.0 lines.1

    parents_are : fmt.parents commit ≡ parents
    parents_are = fmt.commit_parents t.1 parents author committer message named_link lines.0 lines.1

    commit_closed : (y : Id) (zs : List Id) → Path (Links fmt at) zs x y → (o : Object) × (at y ≡ Some o)
    commit_closed y [] p = (commit, ap at (sym p) ∙ commit_found)
    commit_closed y (z ∷ zs) p =
        let same : p.0.object ≡ commit = let f = p.0.found in let g = commit_found in cc in
        let c : Contains (t.1 ∷ parents) z = subst (λ (xs : List Id). Contains xs z) (ap fmt.links same ∙ links_are) p.0.link in
        (all_holds (IsClosed fmt at) (t.1 ∷ parents) z links_closed c).there y (zs, p.1)

    commit_history : (y : Id) (zs : List Id) → Path (HasParent fmt at) zs x y → (o : Object) × (at y ≡ Some o) × (o.kind ≡ Commit)
    commit_history y [] p = (commit, ap at (sym p) ∙ commit_found, refl)
    commit_history y (z ∷ zs) p =
        let same : p.0.object ≡ commit = let f = p.0.found in let g = commit_found in cc in
        let c : Contains parents z = subst (λ (xs : List Id). Contains xs z) (ap fmt.parents same ∙ parents_are) p.0.parent in
        (all_holds (IsGoodCommit fmt at) parents z parents_good c).1.commits y (zs, p.1)

    pub commit_good : IsGoodCommit fmt at x
    commit_good = (record { there = λ y p. commit_closed y p.0 p.1 }, record { commits = λ y p. commit_history y p.0 p.1 })
