-- For a checkout and a status: paths of which none is the store's own, and what refuses.
use Rattle.std.proofs.Common.{◌≡◌, ℕ, Bool, true, false, ◌||◌, List, ◌∷◌, Some, None, ap, refl, sym, subst, ◌∙◌, ◌⊎◌, inl, inr}
use Rattle.std.specs.Prelude.{Option, Ok, Err, MatchOption, is_some}
use Rattle.std.specs.FinMap.{get}
use Rattle.vc_files.specs.FileMap.{FileMap}
use Rattle.vc_object.specs.ObjectMap.{ObjectMap}
use Rattle.vc_object.specs.declared.id.ObjectId.{ObjectId}
use Rattle.vc_object_map.specs.Store.{objects}
use Rattle.vc_object_map.specs.declared.faults.StoreFault.TheVariants as stores
use Rattle.vc_index.specs.IndexMap.{IndexMap}
use Rattle.vc_index.specs.Loading.{IsOfList}
use Rattle.vc_index.specs.TreeReading.{ListsAs, TreeFault, tree_fault}
use Rattle.vc_index.specs.declared.entry.IndexEntry.{IndexEntry}
use Rattle.vc_index.specs.declared.faults.IndexFault.{IndexFault}
use Rattle.vc_index.specs.declared.faults.IndexFault.TheVariants.{BadPath, PathConflict, BadIndex, WrongEntry, Missing, Store}
use Rattle.vc_index.proofs.MapLemmas.{is_eq-same, same_text}
use Rattle.std.proofs.Math.Bool.{or-true}
use Rattle.vc_work_tree.specs.Paths.{is_listed, is_same}
use Rattle.vc_checkout.specs.CheckoutFault.{IsOfCheckout, IsOfStatus, TellsFirstListed, told_fault}
use Rattle.vc_checkout.specs.declared.faults.CheckoutFault.{CheckoutFault}
use Rattle.vc_local.specs.IndexFile.{SpellsIndex}
use Rattle.vc_local.specs.NodeFault.{of_index}
use Rattle.vc_refs.specs.declared.heads.Head.{Head}
use Rattle.vc_work_folder.specs.Own.{meets_own}
use Rattle.vc_object.specs.declared.kind.Kind.TheVariants as kinds
use Rattle.vc_refs.specs.Head.{head_of, head_value}
use Rattle.vc_refs.specs.RefFault.{IsFault as IsRefFault, IsGoodHeadValue}
use Rattle.vc_refs.specs.Refs.{refs}
use Rattle.vc_refs.specs.declared.faults.RefFault.{RefFault}
use Rattle.vc_refs.specs.declared.faults.RefFault.TheVariants as ref
use Rattle.vc_cli.specs.declared.failure.Failure.TheVariants.{Node, Refs}
use Rattle.vc_working.specs.CloneWords.{branch_ref}
use Rattle.vc_working.specs.Checkout.{HasOwn, IsDetached, IsOfCommit, IsOfStart, IsOfDetached, IsOfTarget, IsOfTreeList, IsOnBranch, IsReadable, IsTarget, MayBring, RefusesCheckout, peeled}
use Rattle.vc_cli.specs.Revisions.{Denoted}
use Rattle.vc_cli.specs.declared.failure.Failure.{Failure}
use Rattle.vc_working.specs.Checkout.RefusesCheckout.{of_fault, of_path, of_work}
use Rattle.vc_cli.specs.Failure.{of_checkout, status_of}
use Rattle.vc_working.specs.StatusLines.{IsHeadTree, RefusesStatus}
use Rattle.vc_working.specs.StatusLines.RefusesStatus.{by_fault, by_tree}

-- one path less is left
pub unmet_more : (own first : List ℕ) (before rest : List (List ℕ)) (X : List ℕ → Type 0) → before ≡ first ∷ rest → meets_own own first ≡ false
    → ((q : List ℕ) → is_listed q before ≡ false → X q → meets_own own q ≡ false)
    → (q : List ℕ) → is_listed q rest ≡ false → X q → meets_own own q ≡ false
unmet_more own first before rest X is unmet so q lacks x =
    elim (is_same q first) as (λ b. is_same q first ≡ b → meets_own own q ≡ false) [
      | true ↦ λ same. ap (meets_own own) (same_text q first same) ∙ unmet
      | false ↦ λ other. so q (ap (is_listed q) is ∙ ap (λ b. b || is_listed q rest) other ∙ lacks) x
    ] refl

-- of what is not there nothing is own
pub unmet_none : (b : Bool) → false ≡ true → b ≡ false
unmet_none b e = cc e

-- the first path is one of the list, and so is each of the rest
pub listed_first : (first : List ℕ) (before rest : List (List ℕ)) → before ≡ first ∷ rest → is_listed first before ≡ true
listed_first first before rest is = ap (is_listed first) is ∙ ap (λ b. b || is_listed first rest) (is_eq-same first)

pub listed_more : (first : List ℕ) (before rest : List (List ℕ)) → before ≡ first ∷ rest → (q : List ℕ) → is_listed q rest ≡ true → is_listed q before ≡ true
listed_more first before rest is q there = ap (is_listed q) is ∙ (ap (λ b. is_same q first || b) there ∙ or-true (is_same q first))

-- what honest files say of a tree that was not listed
list_is : (honest : Type 0) → honest → (content : FileMap) (root : ObjectId) (e : IndexFault) → IsOfList honest content root e → IsOfList (Unit {0}) content root e
list_is honest h content root BadPath = λ is _. is h
list_is honest h content root PathConflict = λ is _. is h
list_is honest h content root (BadIndex place) = λ is. is
list_is honest h content root (WrongEntry at) = λ is _. is h
list_is honest h content root (Missing id) = λ is _. is h
list_is honest h content root (Store (stores.BadObject fault)) = λ is. is
list_is honest h content root (Store (stores.Absent id)) = λ is. is
list_is honest h content root (Store (stores.Damaged id)) = λ is _. is h
list_is honest h content root (Store (stores.Fault fault)) = λ is. tt

pub list_blames : (honest : Type 0) → honest → (content : FileMap) (root : ObjectId) (e : IndexFault) → IsOfList honest content root e → ((fault : TreeFault) → tree_fault e ≡ Some fault → ListsAs (objects content) root (Err fault))
    → IsOfTreeList content root (Node (of_index e))
list_blames honest h content root e is first = (e, refl, list_is honest h content root e is, first)

-- an own file of the index that a tree lists is one of the tree
pub own_of_tree : (objects : ObjectMap) (root : ObjectId) (own : List ℕ) (tree : IndexMap) → ListsAs objects root (Ok tree)
    → (path : List ℕ) → is_some (get tree path) ≡ true → meets_own own path ≡ true → HasOwn objects root own
own_of_tree objects root own tree lists path some meets = by (get tree path) refl some
  where
    by : (found : Option IndexEntry) → get tree path ≡ found → is_some found ≡ true → HasOwn objects root own
    by None at e = cc e
    by (Some entry) at e = record {
      tree = tree;
      lists = lists;
      path = path;
      mode = entry.mode;
      id = entry.id;
      is = (lists.1 path entry.mode entry.id).1 at;
      meets = meets;
    }

-- what a revision leads to, where there is no branch of that name, and where there is one
module _ (content : FileMap) (revision : List ℕ) (readable : IsReadable content (branch_ref revision)) where
  pub target_detached : (head : Head) (root : ObjectId) → refs content (branch_ref revision) ≡ None → IsDetached content revision head root → IsTarget content revision head root
  target_detached head root none is = record {
    readable = readable;
    is = subst (λ (o : Option ObjectId). MatchOption o (IsDetached content revision head root) (IsOnBranch content revision head root)) (sym none) is;
  }

  pub target_branch : (head : Head) (root named : ObjectId) → refs content (branch_ref revision) ≡ Some named → IsOnBranch content revision head root named → IsTarget content revision head root
  target_branch head root named some is = record {
    readable = readable;
    is = subst (λ (o : Option ObjectId). MatchOption o (IsDetached content revision head root) (IsOnBranch content revision head root)) (sym some) is;
  }

  pub no_detached : (e : Failure) → refs content (branch_ref revision) ≡ None → IsOfDetached content revision e → IsOfTarget content revision e
  no_detached e none is = inr (readable, subst (λ (o : Option ObjectId). MatchOption o (IsOfDetached content revision e) (λ named. IsOfCommit content named e)) (sym none) is)

  pub no_branch : (e : Failure) (named : ObjectId) → refs content (branch_ref revision) ≡ Some named → IsOfCommit content named e → IsOfTarget content revision e
  no_branch e named some is = inr (readable, subst (λ (o : Option ObjectId). MatchOption o (IsOfDetached content revision e) (λ other. IsOfCommit content other e)) (sym some) is)

-- the value of a branch that was found
pub value_found : (found : Option (List ℕ × ObjectId)) (branch : List ℕ) (id : ObjectId) (value : Option ObjectId) → found ≡ Some (branch, id) → MatchOption found (value ≡ None) (λ b. value ≡ Some b.1) → value ≡ Some id
value_found found branch id value is so = subst (λ (o : Option (List ℕ × ObjectId)). MatchOption o (value ≡ None) (λ b. value ≡ Some b.1)) is so

-- the tree of the commit that HEAD leads to
pub head_tree_is : (content : FileMap) (tree : Option ObjectId) (commit root : ObjectId) → IsGoodHeadValue content → head_value (refs content) (head_of content) ≡ Some commit → tree ≡ Some root → Denoted content (peeled commit kinds.Tree) (Ok root) → IsHeadTree content tree
head_tree_is content tree commit root readable value told is = record {
  readable = readable;
  is = subst (λ (o : Option ObjectId). MatchOption o (tree ≡ None) (λ other. (r : ObjectId) × (tree ≡ Some r) × Denoted content (peeled other kinds.Tree) (Ok r))) (sym value) (root, told, is);
}

-- what refuses a checkout of the work tree, where all that comes before was good
pub refused_start : (honest : Type 0) (can_hold : List ℕ → Bool) (own revision : List ℕ) (content m work : FileMap) (index tree : IndexMap) (root : ObjectId) (head : Head) (e : Failure)
    → MayBring own revision content index head root tree → m ≡ content → (status_of e ≡ 3) ⊎ IsOfStart honest can_hold m work root index tree e → RefusesCheckout honest can_hold own revision content work e
refused_start honest can_hold own revision content m work index tree root head e may same (inl fault) = of_fault fault
refused_start honest can_hold own revision content m work index tree root head e may same (inr told) = by (subst (λ (f : FileMap). IsOfStart honest can_hold f work root index tree e) same told)
  where
    by : IsOfStart honest can_hold content work root index tree e → RefusesCheckout honest can_hold own revision content work e
    by (is_cut, start, starts, (cause, is, against)) = subst (RefusesCheckout honest can_hold own revision content work) (sym is) (of against)
      where
        of : IsOfCheckout honest can_hold work content start tree cause → RefusesCheckout honest can_hold own revision content work (of_checkout cause)
        of (inl (fault, at)) = of_fault (ap (λ (c : CheckoutFault). status_of (of_checkout c)) at)
        of (inr (inl blames)) = of_path index head root tree is_cut start may starts (cause, refl, blames)
        of (inr (inr (holds, inl (cause', at, blames)))) = of_work index head root tree is_cut start may starts holds (inl (cause', ap of_checkout at, blames))
        of (inr (inr (holds, inr against))) = of_work index head root tree is_cut start may starts holds (inr (cause, refl, against.0, against.1, against.2))

-- what refuses a status behind HEAD's tree
pub refused_status : (honest : Type 0) → honest → (content m : FileMap) (index : IndexMap) (tree : Option ObjectId) (cause : CheckoutFault)
    → SpellsIndex content index → IsHeadTree content tree → m ≡ content → IsOfStatus honest m tree cause → ((root : ObjectId) → tree ≡ Some root → TellsFirstListed (objects m) root cause)
    → RefusesStatus content (of_checkout cause)
refused_status honest h content m index None cause spelled is same (fault, at) first = by_fault (ap (λ (c : CheckoutFault). status_of (of_checkout c)) at)
refused_status honest h content m index (Some root) cause spelled is same because first = by (subst (λ (f : FileMap). IsOfStatus honest f (Some root) cause) same because)
  where
    told : TellsFirstListed (objects content) root cause
    told = subst (λ (f : FileMap). TellsFirstListed (objects f) root cause) same (first root refl)

    by : IsOfStatus honest content (Some root) cause → RefusesStatus content (of_checkout cause)
    by (inl (fault, at)) = by_fault (ap (λ (c : CheckoutFault). status_of (of_checkout c)) at)
    by (inr (e, at, list)) = by_tree index root spelled is (subst (λ (c : CheckoutFault). IsOfTreeList content root (of_checkout c)) (sym at) (list_blames honest h content root e list (λ fault tells. told fault (ap told_fault at ∙ tells))))

-- a fault of refs ends in 3
pub refs_status : (e : RefFault) → IsRefFault e → status_of (Refs e) ≡ 3
refs_status (ref.Stale current) is = absurd is
refs_status (ref.Conflict other) is = absurd is
refs_status (ref.BadRefFile path) is = absurd is
refs_status ref.HeadLoop is = absurd is
refs_status (ref.Fault fault) is = refl
