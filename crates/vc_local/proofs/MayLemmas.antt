-- Where the machine's command may write: the deed by which it is obeyed, from what a call finds before its first write.
use Rattle.std.proofs.Common.{◌≡◌, ◌≢◌, ◌⊎◌, inl, inr, ℕ, Bool, true, cond, List, [], ◌∷◌, Option, Some, None, nat_eq, Ok, refl, sym, ap, ◌∙◌, subst, map}
use Rattle.std.specs.Prelude.{codes}
use Rattle.std.specs.FinMap.{get, remove, insert, empty, get-empty}
use Rattle.std.specs.List.{starts_with}
use Rattle.std.specs.Ordering.{nat_cmp}
use Rattle.std.specs.Cmp.Lexicographic.{slice_cmp}
use Rattle.std.proofs.lemmas.Slice.Eq.{bytes_eq-Decides}
use Rattle.vc_files.specs.FileMap.{FileMap}
use Rattle.vc_format.specs.Git.{git_name, bytes_of_id}
use Rattle.vc_model.specs.Object.{Object, Objects}
use Rattle.vc_model.specs.Repository.{Repository, Effect, Change, no_effect, only_changes}
use Rattle.vc_model.specs.Repository.Change.{SetRefs, RemoveRef, SetIndex}
use Rattle.vc_model.specs.Node.Reply.{Stored, Made}
use Rattle.vc_model.specs.Clone.{Awaited, Task, only_object, quietly}
use Rattle.vc_model.specs.Clone.Task.{Write, Stage, Unstage, LoadTree, MakeCommit, SetBranch, DeleteBranch, MoveHead}
use Rattle.vc_model.specs.CloneCall.CloneCall.{Command}
use Rattle.vc_model.specs.Fuse.{CloneWrites}
use Rattle.vc_object.specs.Object.{IsObject}
use Rattle.vc_object.specs.declared.id.ObjectId.{ObjectId}
use Rattle.vc_object.specs.declared.kind.Kind.{Kind as ObjectKind}
use Rattle.vc_object.specs.declared.mode.Mode.{Mode}
use Rattle.vc_refs.specs.Head.{IsLegalHead}
use Rattle.vc_refs.specs.RefMap.{is_ref}
use Rattle.vc_refs.specs.Obstacle.{IsFree as IsFreeName}
use Rattle.vc_refs.specs.declared.heads.Head.{Head as RefsHead}
use Rattle.vc_refs.specs.declared.heads.Head.TheVariants as heads
use Rattle.vc_push_rules.specs.Known.{AreRefsWhole}
use Rattle.vc_local.specs.Blames.{IsLocalHead, MayHead, MayLoad, MayStage}
use Rattle.vc_local.specs.GoodCommit.{IsGoodBeyondRefs}
use Rattle.vc_local.specs.Making.{MayMake}
use Rattle.vc_local.specs.Shown.{shown}
use Rattle.vc_rules.specs.Git.{git, machine_object, mode_number}
use Rattle.vc_values.proofs.GitLaws.{git_rules}
use Rattle.vc_local.specs.Machine.{live_of, machine_head, MayWriteOr, Spells}
use Rattle.vc_rules.proofs.CarriedLemmas.{kind_back}
use Rattle.vc_rules.proofs.MapLemmas.{get-put}
use Rattle.vc_local.proofs.BranchLemmas.{branch_named, free_from, good_here, head_deed}
use Rattle.vc_local.proofs.CommitAnswers.{commit_deed, obeyed}
use Rattle.vc_local.proofs.IndexLemmas.{staged_deed, staged_obeyed}
use Rattle.vc_local.proofs.NameLemmas.{legal_of}
use Rattle.vc_local.proofs.TreeLemmas.{machine_index, machine_index_shows, reads_there}

-- of each node that is held, from what is shown of its repository
pub may_or : (task : Task) (was : Bool) (content : FileMap) {IsLook : Type 0} → was ≡ true → ((awaited : Awaited) (r : Repository) → Spells (shown content) r → CloneWrites git git_rules r awaited (Command task) ⊎ IsLook)
    → MayWriteOr task was content IsLook
may_or task was content up each = λ awaited n holds. elim (each awaited n.repository holds.shows.spells) [
  | inl writes ↦ inl (awaited, holds.shows.live ∙ ap (λ (u : Bool). live_of u awaited) up, writes)
  | inr look ↦ inr look
]

change_some : (objects : Objects) (c : Change) → ◌≢◌ {A = Effect} (record { objects = objects; changes = c ∷ [] }) no_effect
change_some objects c h = let e : ◌≡◌ {A = List Change} (c ∷ []) [] = ap (λ (e : Effect). e.changes) h in cc

object_some : (o : Object) → ◌≢◌ {A = Effect} (record { objects = only_object git o; changes = [] }) no_effect
object_some o h =
    let k = git_name o in
    let nothing : Objects = empty in
    let there : get (insert nothing k o) k ≡ Some o = get-put nothing k k o ∙ ap (λ (b : Bool). cond b (Some o) (get nothing k)) ((bytes_eq-Decides k k).1 refl) in
    let e : ◌≡◌ {A = Option Object} (Some o) None = sym there ∙ ap (λ (e : Effect). get e.objects k) h ∙ get-empty (slice_cmp nat_cmp) k in
    cc

pub write_may : (kind : ObjectKind) (body : List ℕ) → IsObject kind body → (awaited : Awaited) (r : Repository) → CloneWrites git git_rules r awaited (Command (Write (machine_object kind body)))
write_may kind body legal awaited r =
    let o = machine_object kind body in
    (quietly awaited (record { objects = only_object git o; changes = [] }) (Made (git_name o)), (subst (λ (j : ObjectKind). IsObject j body) (sym (kind_back kind)) legal, refl), object_some o)

pub unstage_may : (path : List ℕ) (awaited : Awaited) (r : Repository) → CloneWrites git git_rules r awaited (Command (Unstage path))
unstage_may path awaited r = (quietly awaited (only_changes (SetIndex (remove r.index path) ∷ [])) Stored, refl, change_some empty (SetIndex (remove r.index path)))

pub delete_may : (name : List ℕ) → starts_with nat_eq name (codes "refs/heads/") ≡ true → (awaited : Awaited) (r : Repository) → CloneWrites git git_rules r awaited (Command (DeleteBranch name))
delete_may name begins awaited r = (quietly awaited (only_changes (RemoveRef name ∷ [])) Stored, (branch_named name begins, refl), change_some empty (RemoveRef name))

module _ (content : FileMap) (awaited : Awaited) (r : Repository) (p : Spells (shown content) r) where
  pub add_may : (path bytes : List ℕ) (mode : Mode) → MayStage p.map path bytes → CloneWrites git git_rules r awaited (Command (Stage path (mode_number mode) bytes))
  add_may path bytes mode may = (staged_deed awaited r path mode bytes, staged_obeyed content path bytes mode awaited r p may, change_some _ _)

  pub load_may : (id : ObjectId) → MayLoad content id → CloneWrites git git_rules r awaited (Command (LoadTree id.0))
  load_may id may =
      let i = machine_index may.0 in
      (quietly awaited (only_changes (SetIndex i ∷ [])) Stored, (i, (may.0, reads_there content r p id (Ok may.0) may.1, machine_index_shows may.0), refl), change_some empty (SetIndex i))

  pub set_branch_may : (name : List ℕ) (id : ObjectId) → starts_with nat_eq name (codes "refs/heads/") ≡ true → (is_ref name ≡ true) × IsFreeName content name × IsGoodBeyondRefs content id
      → AreRefsWhole content → CloneWrites git git_rules r awaited (Command (SetBranch name id.0))
  set_branch_may name id begins may whole = (
    quietly awaited (only_changes (SetRefs ((name, id.0) ∷ []) ∷ [])) Stored,
    ((branch_named name begins, legal_of name may.0), free_from content r name p may.1, good_here content r p id may.2 whole, refl),
    change_some empty (SetRefs ((name, id.0) ∷ [])),
  )

  pub set_head_may : (h : RefsHead) → IsLocalHead h → IsLegalHead h × MayHead content h → AreRefsWhole content → CloneWrites git git_rules r awaited (Command (MoveHead (machine_head h)))
  set_head_may (heads.Branch name) fits may whole = (head_deed awaited (heads.Branch name), ((branch_named name fits, legal_of name may.0), refl), change_some _ _)
  set_head_may (heads.Id id) fits may whole = (head_deed awaited (heads.Id id), (good_here content r p id may.1 whole, refl), change_some _ _)

  pub commit_may : (extra : List ObjectId) (author committer message : List ℕ) → MayMake content extra author committer message → AreRefsWhole content → CloneWrites git git_rules r awaited (Command (MakeCommit (map bytes_of_id extra) author committer message))
  commit_may extra author committer message w whole = (
    commit_deed content extra author committer message r p w.map w.spelled awaited w.root.trees w.tree,
    obeyed content extra author committer message r p w.map w.spelled awaited whole w.may w.tree w.root w.legal,
    change_some _ _,
  )
