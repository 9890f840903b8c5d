-- The machine's answers to changes of branches and of HEAD.
use Rattle.std.proofs.Common.{◌≡◌, ◌⊎◌, inl, inr, ℕ, true, cond, nat_eq, List, ◌∷◌, drop, None, refl, sym, ap, ◌∙◌, subst, []}
use Rattle.std.specs.Prelude.{option_map, is_some, bytes_eq, codes}
use Rattle.std.specs.List.{starts_with}
use Rattle.std.specs.FinMap.{get, insert, remove}
use Rattle.vc_files.specs.FileMap.{FileMap}
use Rattle.vc_format.specs.Git.{id_of_bytes}
use Rattle.vc_lemmas.proofs.Texts.{split_from_starts}
use Rattle.vc_model.specs.Object.{stored}
use Rattle.vc_model.specs.Reach.{IsClosed, HasHistory}
use Rattle.vc_model.specs.Refs.{RefName, Refs, IsBranch, IsFree}
use Rattle.vc_model.specs.Refs.Head.{OnBranch, Detached}
use Rattle.vc_model.specs.Repository.{Repository, only_changes}
use Rattle.vc_model.specs.Repository.Change.{RemoveRef, SetRefs, SetHead}
use Rattle.vc_model.specs.Node.{Deed}
use Rattle.vc_model.specs.CloneCall.{Obeys}
use Rattle.vc_model.specs.Node.Answer.{Did}
use Rattle.vc_model.specs.Node.Reply.{Stored}
use Rattle.vc_model.specs.Clone.{Awaited, quietly}
use Rattle.vc_model.specs.Clone.Task.{DeleteBranch, SetBranch, MoveHead}
use Rattle.vc_model.proofs.Maps.{none_added}
use Rattle.vc_object.specs.declared.id.ObjectId.{ObjectId}
use Rattle.vc_refs.specs.RefMap.{RefMap, conflicts, with_ref, without_ref}
use Rattle.vc_refs.specs.Refs.{refs}
use Rattle.vc_refs.specs.Obstacle.{IsFree as IsFreeName}
use Rattle.vc_refs.specs.declared.heads.Head.{Head as RefsHead}
use Rattle.vc_refs.specs.declared.heads.Head.TheVariants as heads
use Rattle.vc_refs.proofs.LayeredChangeLemmas.{held_from_ref}
use Rattle.vc_object_map.specs.Store.{objects}
use Rattle.vc_object_map.specs.declared.faults.StoreFault.TheVariants as store
use Rattle.vc_refs.specs.declared.faults.RefFault.TheVariants as ref
use Rattle.vc_local.specs.declared.fault.NodeFault.{NodeFault}
use Rattle.vc_local.specs.declared.fault.NodeFault.TheVariants.{Store, Ref, Missing, NotACommit, BadPath, PathConflict, BadIndex, WrongEntry, Down}
use Rattle.vc_local.specs.Blames.{BlamesRemoved, BlamesBranch, BlamesHead, MayHead, IsLocalHead}
use Rattle.vc_local.specs.GoodCommit.{IsComplete, IsGoodBeyondRefs, IsHistory}
use Rattle.vc_local.specs.Shown.{Shown, shown, with_refs_shown, with_head_shown}
use Rattle.vc_rules.specs.Git.{git}
use Rattle.vc_values.proofs.GitLaws.{git_rules}
use Rattle.vc_local.specs.Machine.{machine_head, Spells, Follows, FollowsIf, IsBadFile, fault_answer, failure_of}
use Rattle.vc_local.proofs.AnswerLemmas.{faults}
use Rattle.vc_rules.proofs.MapLemmas.{get-unput, map_cond}
use Rattle.vc_rules.proofs.ReachLemmas.{closed_from, closed_to, history_from, history_to}
use Rattle.vc_local.proofs.NameLemmas.{head_named, set_named}
use Rattle.vc_local.proofs.SoundAnswers.{declines_if, faults_if}
use Rattle.vc_rules.proofs.RefLemmas.{conflicts_from, conflicts_to, id_some, set_rel, some_id}
use Rattle.vc_rules.proofs.SoundLemmas.{objects_sound}
use Rattle.vc_push_rules.specs.Known.{AreRefsWhole}

-- a name that begins so is a branch's
pub branch_named : (name : List ℕ) → starts_with nat_eq name (codes "refs/heads/") ≡ true → IsBranch name
branch_named name h = (drop 11 name, split_from_starts name (codes "refs/heads/") h)

-- a repository with other refs
pub spells_refs : (s : Shown) (r : Repository) (map : RefMap) (refs : Refs) → Spells s r → ((n : RefName) → map n ≡ option_map id_of_bytes (get refs n)) → Spells (with_refs_shown s map) (record r { refs = refs })
spells_refs s r map refs p rel = record {
  objects = p.objects;
  refs = rel;
  head = p.head;
  head_shown = p.head_shown;
  head_is = p.head_is;
  map = p.map;
  map_sound = p.map_sound;
  map_shown = p.map_shown;
  index = p.index;
}

removed_rel : (s : Shown) (r : Repository) (name : List ℕ) → Spells s r → (q : RefName) → without_ref s.refs name q ≡ option_map id_of_bytes (get (remove r.refs name) q)
unfolding without_ref
removed_rel s r name p q = ap (cond (bytes_eq q name) None) (p.refs q) ∙ map_cond id_of_bytes (bytes_eq q name) None (get r.refs q) ∙ ap (option_map id_of_bytes) (sym (get-unput r.refs name q))

pub delete_done : (name : List ℕ) (old new : Shown) → starts_with nat_eq name (codes "refs/heads/") ≡ true → new ≡ with_refs_shown old (without_ref old.refs name) → Follows (DeleteBranch name) (Did Stored) old new
delete_done name old new begins is = record {
  goes = λ awaited r p.
      let after = record r { refs = remove r.refs name } in (
        after,
        subst (λ (s : Shown). Spells s after) (sym is) (spells_refs old r (without_ref old.refs name) (remove r.refs name) p (removed_rel old r name p)),
        (quietly awaited (only_changes (RemoveRef name ∷ [])) Stored, (branch_named name begins, refl), (r.objects, none_added r.objects, refl), refl, refl, refl),
      );
}

pub delete_failed : (content : FileMap) (name : List ℕ) (e : NodeFault) → BlamesRemoved content e → IsBadFile content e ⊎ Follows (DeleteBranch name) (fault_answer e) (shown content) (shown content)
delete_failed content name (Ref (ref.Stale current)) blames = absurd blames
delete_failed content name (Ref (ref.Conflict other)) blames = absurd blames
delete_failed content name (Ref (ref.BadRefFile path)) blames = inl blames
delete_failed content name (Ref ref.HeadLoop) blames = absurd blames
delete_failed content name (Ref (ref.Fault f)) blames = inr (faults (DeleteBranch name) (failure_of f) (shown content))
delete_failed content name (Store e) blames = absurd blames
delete_failed content name (Missing id) blames = absurd blames
delete_failed content name (NotACommit id) blames = absurd blames
delete_failed content name BadPath blames = absurd blames
delete_failed content name PathConflict blames = absurd blames
delete_failed content name (BadIndex place) blames = absurd blames
delete_failed content name (WrongEntry at) blames = absurd blames
delete_failed content name Down blames = absurd blames

-- ---- what is in the way of a name

-- a name that no file is in the way of is free
pub free_from : (content : FileMap) (r : Repository) (name : List ℕ) → Spells (shown content) r → IsFreeName content name → IsFree r.refs name
free_from content r name p free m x found conflict =
    let there : is_some (refs content m) ≡ true = ap is_some (p.refs m) ∙ some_id (get r.refs m) x found in
    free.none m (record { held = held_from_ref content m there; conflict = conflicts_to m name conflict })

-- one that a ref is in the way of isn't
pub not_free : (content : FileMap) (r : Repository) (name other : List ℕ) → Spells (shown content) r → conflicts other name ≡ true → is_some (refs content other) ≡ true → ¬ IsFree r.refs name
not_free content r name other p conflict there free =
    let x = id_some (get r.refs other) (sym (ap is_some (p.refs other)) ∙ there) in
    free other x.0 x.1 (conflicts_from other name conflict)

-- ---- good commits

module _ (content : FileMap) (r : Repository) (p : Spells (shown content) r) (id : ObjectId) where
  pub closed : IsComplete content id → IsClosed git (stored r.objects) id.0
  closed h = closed_from (objects content) (stored r.objects) p.objects id.0 h

  pub not_closed : ¬ IsComplete content id → ¬ IsClosed git (stored r.objects) id.0
  not_closed h c = h (closed_to (objects content) (stored r.objects) p.objects id.0 c)

  pub history : IsHistory content id → HasHistory git (stored r.objects) id.0
  history h = history_from (objects content) (stored r.objects) p.objects (objects_sound content) id.0 h

  pub not_history : ¬ IsHistory content id → ¬ HasHistory git (stored r.objects) id.0
  not_history h c = h (history_to (objects content) (stored r.objects) p.objects (objects_sound content) id.0 c)

  pub good_here : IsGoodBeyondRefs content id → AreRefsWhole content → IsClosed git (stored r.objects) id.0 × HasHistory git (stored r.objects) id.0
  good_here good whole = let g = good whole in (closed g.0, history g.1)

pub set_branch_done : (content : FileMap) (name : List ℕ) (id : ObjectId) (new : FileMap) → starts_with nat_eq name (codes "refs/heads/") ≡ true → shown new ≡ with_refs_shown (shown content) (with_ref (refs content) name id)
    → IsFreeName content name → IsGoodBeyondRefs content id → FollowsIf (AreRefsWhole content) (SetBranch name id.0) (Did Stored) (shown content) (shown new)
set_branch_done content name id new begins is free good = record {
  goes = λ awaited r p.
      let after = record r { refs = insert r.refs name id.0 } in (
        after,
        subst (λ (s : Shown). Spells s after) (sym is) (spells_refs (shown content) r (with_ref (refs content) name id) (insert r.refs name id.0) p (set_rel (refs content) r.refs p.refs name id)),
        λ whole. (
          quietly awaited (only_changes (SetRefs ((name, id.0) ∷ []) ∷ [])) Stored,
          ((branch_named name begins, set_named content new name id is), free_from content r name p free, good_here content r p id good whole, refl),
          (r.objects, none_added r.objects, refl),
          refl,
          refl,
          refl,
        ),
      );
}

pub set_branch_failed : (content : FileMap) (name : List ℕ) (id : ObjectId) (e : NodeFault) → BlamesBranch content name id e → IsBadFile content e ⊎ FollowsIf (AreRefsWhole content) (SetBranch name id.0) (fault_answer e) (shown content) (shown content)
set_branch_failed content name id (Ref (ref.Stale current)) blames = absurd blames
set_branch_failed content name id (Ref (ref.Conflict other)) blames = inr (declines_if (AreRefsWhole content) (SetBranch name id.0) 32 (shown content) (λ r p whole. inl (not_free content r name other p blames.1.here.conflict blames.2, refl)))
set_branch_failed content name id (Ref (ref.BadRefFile path)) blames = inl (elim blames [ inl way ↦ elim way [ inl packed ↦ inr packed | inr first ↦ inl first.1 ] | inr own ↦ own.1 ])
set_branch_failed content name id (Ref ref.HeadLoop) blames = absurd blames
set_branch_failed content name id (Ref (ref.Fault f)) blames = inr (faults_if (AreRefsWhole content) (SetBranch name id.0) (failure_of f) (shown content))
set_branch_failed content name id (Missing absent) blames =
    inr (declines_if (AreRefsWhole content) (SetBranch name id.0) 40 (shown content) (λ r p whole. inr (free_from content r name p blames.0, inl (not_closed content r p id (blames.1 whole), refl))))
set_branch_failed content name id (NotACommit other) blames =
    inr (declines_if (AreRefsWhole content) (SetBranch name id.0) 41 (shown content) (λ r p whole. inr (free_from content r name p blames.0, inr (closed content r p id (blames.1 whole).0, inl (not_history content r p id (blames.1 whole).1, refl)))))
set_branch_failed content name id (Store (store.BadObject f)) blames = absurd blames
set_branch_failed content name id (Store (store.Absent absent)) blames = absurd blames
set_branch_failed content name id (Store (store.Damaged damaged)) blames = inl blames
set_branch_failed content name id (Store (store.Fault f)) blames = inr (faults_if (AreRefsWhole content) (SetBranch name id.0) (failure_of f) (shown content))
set_branch_failed content name id BadPath blames = absurd blames
set_branch_failed content name id PathConflict blames = absurd blames
set_branch_failed content name id (BadIndex place) blames = absurd blames
set_branch_failed content name id (WrongEntry at) blames = absurd blames
set_branch_failed content name id Down blames = absurd blames

-- ---- HEAD

-- a repository with another HEAD
pub spells_head : (s : Shown) (r : Repository) (h : RefsHead) → Spells s r → Spells (with_head_shown s h) (record r { head = machine_head h })
spells_head s r h p = record {
  objects = p.objects;
  refs = p.refs;
  head = h;
  head_shown = refl;
  head_is = refl;
  map = p.map;
  map_sound = p.map_sound;
  map_shown = p.map_shown;
  index = p.index;
}

abbrev pub head_deed : Awaited → RefsHead → Deed Awaited
head_deed awaited h = quietly awaited (only_changes (SetHead (machine_head h) ∷ [])) Stored

head_obeyed : (content new : FileMap) (r : Repository) (awaited : Awaited) (h : RefsHead) → Spells (shown content) r → IsLocalHead h → shown new ≡ with_head_shown (shown content) h → MayHead content h → AreRefsWhole content → Obeys git git_rules r awaited (MoveHead (machine_head h)) (head_deed awaited h)
head_obeyed content new r awaited (heads.Branch name) p fits is may whole = ((branch_named name fits, head_named new name (ap (λ (s : Shown). s.head) is)), refl)
head_obeyed content new r awaited (heads.Id id) p fits is may whole = (good_here content r p id may whole, refl)

pub set_head_done : (content : FileMap) (h : RefsHead) (new : FileMap) → IsLocalHead h → shown new ≡ with_head_shown (shown content) h → MayHead content h → FollowsIf (AreRefsWhole content) (MoveHead (machine_head h)) (Did Stored) (shown content) (shown new)
set_head_done content h new fits is may = record {
  goes = λ awaited r p.
      let after = record r { head = machine_head h } in (
        after,
        subst (λ (s : Shown). Spells s after) (sym is) (spells_head (shown content) r h p),
        λ whole. (head_deed awaited h, head_obeyed content new r awaited h p fits is may whole, (r.objects, none_added r.objects, refl), refl, refl, refl),
      );
}

module _ (content : FileMap) where
  id_failed : (id : ObjectId) (e : NodeFault) → BlamesHead content (heads.Id id) e → IsBadFile content e ⊎ FollowsIf (AreRefsWhole content) (MoveHead (Detached id.0)) (fault_answer e) (shown content) (shown content)
  id_failed id (Ref (ref.Stale current)) blames = absurd blames
  id_failed id (Ref (ref.Conflict other)) blames = absurd blames
  id_failed id (Ref (ref.BadRefFile path)) blames = absurd blames
  id_failed id (Ref ref.HeadLoop) blames = absurd blames
  id_failed id (Ref (ref.Fault f)) blames = inr (faults_if (AreRefsWhole content) (MoveHead (Detached id.0)) (failure_of f) (shown content))
  id_failed id (Missing absent) blames = inr (declines_if (AreRefsWhole content) (MoveHead (Detached id.0)) 40 (shown content) (λ r p whole. inl (not_closed content r p id (blames whole), refl)))
  id_failed id (NotACommit other) blames = inr (declines_if (AreRefsWhole content) (MoveHead (Detached id.0)) 41 (shown content) (λ r p whole. inr (closed content r p id (blames whole).0, inl (not_history content r p id (blames whole).1, refl))))
  id_failed id (Store (store.BadObject f)) blames = absurd blames
  id_failed id (Store (store.Absent absent)) blames = absurd blames
  id_failed id (Store (store.Damaged damaged)) blames = inl blames
  id_failed id (Store (store.Fault f)) blames = inr (faults_if (AreRefsWhole content) (MoveHead (Detached id.0)) (failure_of f) (shown content))
  id_failed id BadPath blames = absurd blames
  id_failed id PathConflict blames = absurd blames
  id_failed id (BadIndex place) blames = absurd blames
  id_failed id (WrongEntry at) blames = absurd blames
  id_failed id Down blames = absurd blames

  branch_failed : (name : List ℕ) (e : NodeFault) → BlamesHead content (heads.Branch name) e → IsBadFile content e ⊎ FollowsIf (AreRefsWhole content) (MoveHead (OnBranch name)) (fault_answer e) (shown content) (shown content)
  branch_failed name (Ref (ref.Stale current)) blames = absurd blames
  branch_failed name (Ref (ref.Conflict other)) blames = absurd blames
  branch_failed name (Ref (ref.BadRefFile path)) blames = absurd blames
  branch_failed name (Ref ref.HeadLoop) blames = absurd blames
  branch_failed name (Ref (ref.Fault f)) blames = inr (faults_if (AreRefsWhole content) (MoveHead (OnBranch name)) (failure_of f) (shown content))
  branch_failed name (Missing absent) blames = absurd blames
  branch_failed name (NotACommit other) blames = absurd blames
  branch_failed name (Store e) blames = absurd blames
  branch_failed name BadPath blames = absurd blames
  branch_failed name PathConflict blames = absurd blames
  branch_failed name (BadIndex place) blames = absurd blames
  branch_failed name (WrongEntry at) blames = absurd blames
  branch_failed name Down blames = absurd blames

  pub set_head_failed : (h : RefsHead) (e : NodeFault) → BlamesHead content h e → IsBadFile content e ⊎ FollowsIf (AreRefsWhole content) (MoveHead (machine_head h)) (fault_answer e) (shown content) (shown content)
  set_head_failed (heads.Branch name) e blames = branch_failed name e blames
  set_head_failed (heads.Id id) e blames = id_failed id e blames
