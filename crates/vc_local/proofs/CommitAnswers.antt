-- The machine's answers to a commit.
use Rattle.std.proofs.Common.{◌≡◌, ◌≤◌, inl, inr, ℕ, List, ◌∷◌, ◌++◌, map, append-nil, length, Some, None, Ok, Err, refl, sym, ap, ◌∙◌, subst, arith, []}
use Rattle.std.specs.Prelude.{option_map}
use Rattle.std.specs.FinMap.{get, insert, empty}
use Rattle.vc_files.specs.FileMap.{FileMap}
use Rattle.vc_format.specs.Git.{bytes_of_id, id_of_bytes, git_name}
use Rattle.vc_index.specs.FolderTrees.{AreIndexTrees, IsFirstLarge}
use Rattle.vc_index.specs.IndexMap.{IndexMap}
use Rattle.vc_index.specs.WrittenTrees.{IsWritten, tree_object}
use Rattle.vc_index.proofs.AgainLemmas.{one_index}
use Rattle.vc_index.proofs.OneListLemmas.{one_list}
use Rattle.vc_index.proofs.PartLemmas.{all_parts}
use Rattle.vc_model.specs.Clone.{Awaited, Task, head_to, quietly, with_object as with_made}
use Rattle.vc_model.specs.Clone.Task.{MakeCommit}
use Rattle.vc_model.specs.CloneCall.{Obeys, new_commit}
use Rattle.vc_model.specs.Node.{Deed}
use Rattle.vc_model.specs.Node.Answer.{Did}
use Rattle.vc_model.specs.Node.Reply.{Made}
use Rattle.vc_model.specs.Object.{Object, Objects, Id}
use Rattle.vc_model.specs.Refs.{Head as MachineHead}
use Rattle.vc_model.specs.Repository.{Repository, AllAdded, SomeAdded, StopsWithin, changed, with_objects as with_all}
use Rattle.vc_model.proofs.Maps.{none_added}
use Rattle.vc_object.specs.Decoding.{stored_object}
use Rattle.vc_object.specs.Object.{IsObject, object_name}
use Rattle.vc_object.specs.ObjectMap.{ObjectMap}
use Rattle.vc_object.specs.Tree.{Entry, spelling}
use Rattle.vc_object.specs.declared.id.ObjectId.{ObjectId}
use Rattle.vc_object.specs.declared.kind.Kind.TheVariants as kinds
use Rattle.vc_refs.specs.Head.{head_of}
use Rattle.vc_refs.specs.declared.heads.Head.{Head}
use Rattle.vc_refs.specs.declared.heads.Head.TheVariants as heads
use Rattle.vc_push_rules.specs.Known.{AreRefsWhole}
use Rattle.vc_object_map.specs.Store.{objects, with_object, with_objects}
use Rattle.vc_local.specs.Commit.{IsCommitted, WritesCommit, made_body, moved, parents_of_commit}
use Rattle.vc_local.specs.IndexFile.{SpellsIndex}
use Rattle.vc_rules.specs.Git.{git, stored_of}
use Rattle.vc_values.specs.Trees.{machine_entry, TreesGive, ShowsIndex, ListsTrees}
use Rattle.vc_values.proofs.GitLaws.{git_rules}
use Rattle.vc_local.specs.Machine.{machine_head, Spells, FollowsIf}
use Rattle.vc_local.specs.Making.{AreLines, HasRoot, IsCut, MayCommit}
use Rattle.vc_local.specs.Shown.{Shown, shown, with_objects_shown}
use Rattle.vc_local.proofs.BranchLemmas.{spells_refs, spells_head}
use Rattle.vc_rules.proofs.RefLemmas.{set_rel}
use Rattle.vc_local.proofs.RefusalLemmas.{same_head, same_body, head_free, parents_good}
use Rattle.vc_local.proofs.TreeObjects.{with_trees, with_trees_show, with_trees_append, trees_held, trees_over, spells_objects, added_over, Keeps, keeps_added, keeps_trees, some_of_more}
use Rattle.vc_local.proofs.WriteLemmas.{added_shows}

-- HEAD's branch, or a detached HEAD, is moved to the id
spells_moved : (s : Shown) (u : Repository) (id : ObjectId) (head : Head) → Spells s u → Spells (moved head id s) (changed (head_to (machine_head head) id.0) u)
spells_moved s u id (heads.Branch name) p = spells_refs s u (Rattle.vc_refs.specs.RefMap.with_ref s.refs name id) (insert u.refs name id.0) p (set_rel s.refs u.refs p.refs name id)
spells_moved s u id (heads.Id was) p = spells_head s u (heads.Id id) p

module _ (content : FileMap) (extra : List ObjectId) (author committer message : List ℕ) where
  abbrev pub commit_task : Task
  commit_task = MakeCommit (map bytes_of_id extra) author committer message

  abbrev body : ObjectId → List ℕ
  body tree = made_body tree (parents_of_commit content extra) author committer message

  module _ (r : Repository) (p : Spells (shown content) r) where
    abbrev pub commit : ObjectId → Object
    commit tree = new_commit git r tree.0 (map bytes_of_id extra) author committer message

    pub body_is : (tree : ObjectId) → (commit tree).body ≡ body tree
    body_is tree = same_body content r p tree extra author committer message

    named : (tree : ObjectId) → git_name (commit tree) ≡ (object_name kinds.Commit (body tree)).0
    named tree = ap (λ (text : List ℕ). (object_name kinds.Commit text).0) (body_is tree)

    module _ (m : IndexMap) (spelled : SpellsIndex content m) where
      shows : ShowsIndex r.index m
      shows q = p.index q ∙ ap (λ (k : IndexMap). option_map machine_entry (get k q)) (sym (one_index m p.map spelled.sound p.map_sound (sym spelled.text ∙ p.map_shown)))

      pub lists : (trees : List (List Entry)) (root : List Entry) → AreIndexTrees m trees root → ListsTrees r.index m trees root
      lists trees root listed = record { sound = spelled.sound; shows = shows; listed = listed }

      pub trees_given : (tree : ObjectId) (root : HasRoot m tree) → TreesGive r.index (Ok (with_trees empty root.trees, tree.0))
      trees_given tree root =
          (m, root.trees, root.root, lists root.trees root.root root.listed, root.fits, trees_held root.trees, ap (λ (id : ObjectId). id.0) root.is)

      pub too_large : (entries : List Entry) → IsFirstLarge m entries → TreesGive r.index (Err 3)
      too_large entries first = (
        m,
        first.before ++ entries ∷ first.after,
        first.root,
        lists (first.before ++ entries ∷ first.after) first.root first.listed,
        λ fit. (let all = all_parts (λ (es : List Entry). length (spelling es) ≤ 16777216) first.before (entries ∷ first.after) fit in let large = first.large in let small = all.1.0 in omega (arith, large, small)),
        refl,
      )

      -- the commit's effect
      abbrev effect_objects : List (List Entry) → ObjectId → Objects
      effect_objects trees tree = with_made (with_trees empty trees) (git_name (commit tree)) (commit tree)

      abbrev pub commit_deed : Awaited → List (List Entry) → ObjectId → Deed Awaited
      commit_deed awaited trees tree = quietly awaited (record { objects = effect_objects trees tree; changes = head_to r.head (git_name (commit tree)) ∷ [] }) (Made (git_name (commit tree)))

      pub obeyed : (awaited : Awaited) → AreRefsWhole content → MayCommit content extra author committer → (tree : ObjectId) (root : HasRoot m tree) → IsObject kinds.Commit (body tree) → Obeys git git_rules r awaited commit_task (commit_deed awaited root.trees tree)
      obeyed awaited whole may tree root legal = (
        may.lines,
        head_free content r p may.head may.head_is may.free,
        parents_good content r p whole extra may.parents,
        ((with_trees empty root.trees, tree.0), trees_given tree root, (subst (λ (text : List ℕ). IsObject kinds.Commit text) (sym (body_is tree)) legal, refl)),
      )

      -- ---- a cut among the trees

      front_kept : (front rest trees : List (List Entry)) (tree : ObjectId) → trees ≡ front ++ rest → Keeps (with_trees empty front) (effect_objects trees tree)
      front_kept front rest trees tree is =
          keeps_added (with_trees empty front) (with_trees empty trees) (git_name (commit tree)) (commit tree)
          (subst (λ (s : Objects). Keeps (with_trees empty front) s) (sym (ap (with_trees empty) is ∙ with_trees_append front rest empty))
          (keeps_trees rest (with_trees empty front) (with_trees empty front) (record { kept = λ x o found. found })))

      front_some : (front rest trees : List (List Entry)) (tree : ObjectId) → trees ≡ front ++ rest → SomeAdded r.objects (effect_objects trees tree) (with_trees r.objects front)
      front_some front rest trees tree is =
          some_of_more r.objects (with_trees empty front) (effect_objects trees tree) (with_trees r.objects front) (trees_over front r.objects empty r.objects (none_added r.objects)) (front_kept front rest trees tree is)

      front_spells : (front : List (List Entry)) (after : ObjectMap) → after ≡ with_objects (objects content) (map tree_object front) → Spells (with_objects_shown (shown content) after) (with_all r (with_trees r.objects front))
      front_spells front after is =
          spells_objects (shown content) r after (with_trees r.objects front) p (λ x. ap (λ (o : ObjectMap). o (id_of_bytes x)) is ∙ with_trees_show front (objects content) r.objects p.objects x)

      -- ---- the commit, whole

      module _ (after : ObjectMap) (id : ObjectId) (w : WritesCommit (Unit {0}) m (parents_of_commit content extra) author committer message (objects content) after id) where
        abbrev written : IsWritten (Unit {0}) m (objects content) w.between w.tree
        written = w.trees tt

        abbrev all : List (List Entry)
        all = written.lower ++ written.root ∷ []

        abbrev pub written_root : HasRoot m w.tree
        written_root = record { trees = all; root = written.root; listed = written.listed; fits = written.fits; is = written.is }

        abbrev stored_all : Objects
        stored_all = with_made (with_trees r.objects all) (git_name (commit w.tree)) (commit w.tree)

        pub name_is : git_name (commit w.tree) ≡ id.0
        name_is = named w.tree ∙ ap (λ (i : ObjectId). i.0) (sym w.name)

        all_over : AllAdded r.objects (effect_objects all w.tree) stored_all
        all_over = added_over r.objects (with_trees empty all) (with_trees r.objects all) (git_name (commit w.tree)) (commit w.tree) (trees_over all r.objects empty r.objects (none_added r.objects))

        put : after ≡ with_object w.between (id_of_bytes (git_name (commit w.tree))) (stored_of (commit w.tree))
        put =
            w.commit tt ∙ ap (λ (x : Id). with_object w.between (id_of_bytes x) (stored_object kinds.Commit (body w.tree))) (sym name_is)
            ∙ ap (λ (text : List ℕ). with_object w.between (id_of_bytes (git_name (commit w.tree))) (stored_object kinds.Commit text)) (sym (body_is w.tree))

        all_spells : Spells (with_objects_shown (shown content) after) (with_all r stored_all)
        all_spells =
            spells_objects (shown content) r after stored_all p (λ x. ap (λ (o : ObjectMap). o (id_of_bytes x)) put
            ∙ added_shows w.between (with_trees r.objects all) (λ y. ap (λ (o : ObjectMap). o (id_of_bytes y)) (written.stored tt) ∙ with_trees_show all (objects content) r.objects p.objects y) (git_name (commit w.tree)) (commit w.tree) x)

        moved_spells : (head : Head) → head_of content ≡ Some head → Spells (moved head id (with_objects_shown (shown content) after)) (changed (head_to r.head (git_name (commit w.tree))) (with_all r stored_all))
        moved_spells head is =
            let e : machine_head head ≡ r.head = ap machine_head (same_head content r p head is) ∙ sym p.head_is in
            subst (λ (h : MachineHead). Spells (moved head id (with_objects_shown (shown content) after)) (changed (head_to h (git_name (commit w.tree))) (with_all r stored_all))) e
            (subst (λ (x : Id). Spells (moved head id (with_objects_shown (shown content) after)) (changed (head_to (machine_head head) x) (with_all r stored_all))) (sym name_is)
            (spells_moved (with_objects_shown (shown content) after) (with_all r stored_all) id head all_spells))

  pub commit_done : (id : ObjectId) (new : FileMap) → AreLines author committer → IsCommitted content extra author committer message id new → FollowsIf (AreRefsWhole content) commit_task (Did (Made id.0)) (shown content) (shown new)
  commit_done id new lines c = record {
    goes = λ awaited r p.
        let w = c.writes in
        let may : MayCommit content extra author committer = record { lines = lines; head = c.head; head_is = c.head_is; free = c.free; parents = c.parents } in
        let u = stored_all r p c.map c.spelled c.after id w in
        let after = changed (head_to r.head (git_name (commit r p w.tree))) (with_all r u) in (
          after,
          subst (λ (s : Shown). Spells s after) (sym c.is) (moved_spells r p c.map c.spelled c.after id w c.head c.head_is),
          λ whole. (
            commit_deed r p c.map c.spelled awaited (all r p c.map c.spelled c.after id w) w.tree,
            obeyed r p c.map c.spelled awaited whole may w.tree (written_root r p c.map c.spelled c.after id w) w.legal,
            (u, all_over r p c.map c.spelled c.after id w, refl),
            refl,
            refl,
            ap Made (sym (name_is r p c.map c.spelled c.after id w)),
          ),
        );
  }

  -- what a cut leaves is what a stop within the commit's effect leaves
  module _ (awaited : Awaited) (r : Repository) (p : Spells (shown content) r) (new : FileMap) (cut : IsCut content extra author committer message new) where
    abbrev CutDeed : Type 0
    CutDeed = (u : Repository) × Spells (shown new) u × (AreRefsWhole content → (d : Deed Awaited) × Obeys git git_rules r awaited commit_task d × StopsWithin r d.effect u × (d.sends ≡ None))

    front_cut : (front rest : List (List Entry)) → cut.root.trees ≡ front ++ rest → cut.after ≡ with_objects (objects content) (map tree_object front) → CutDeed
    front_cut front rest is stored =
        let u = with_all r (with_trees r.objects front) in (
          u,
          subst (λ (s : Shown). Spells s u) (sym cut.is) (front_spells r p cut.map cut.spelled front cut.after stored),
          λ whole. (
            commit_deed r p cut.map cut.spelled awaited cut.root.trees cut.tree,
            obeyed r p cut.map cut.spelled awaited whole cut.may cut.tree cut.root cut.legal,
            inl (with_trees r.objects front, front_some r p cut.map cut.spelled front rest cut.root.trees cut.tree is, refl),
            refl,
          ),
        )

    same_list : (trees : List (List Entry)) (root : List Entry) → AreIndexTrees cut.map trees root → cut.root.trees ≡ trees
    same_list trees root listed = (one_list cut.map cut.spelled.sound cut.root.trees trees cut.root.root root cut.root.listed listed).0

    pub cut_deed : CutDeed
    cut_deed = elim cut.some [
      | inl trees ↦ elim trees [
        | inl begun ↦ front_cut begun.trees begun.first.rest (same_list (begun.trees ++ begun.first.rest) begun.first.root begun.first.listed) (begun.stored tt)
        | inr whole ↦ (let w = whole.1 in let ts = w.lower ++ w.root ∷ [] in front_cut ts [] (same_list ts w.root w.listed ∙ sym (append-nil ts)) (w.stored tt))
      ]
      | inr made ↦ (
          let w = made.1 in
          let s = stored_all r p cut.map cut.spelled cut.after made.0 w in
          let over = all_over r p cut.map cut.spelled cut.after made.0 w in
          let u = with_all r s in (
            u,
            subst (λ (s : Shown). Spells s u) (sym cut.is) (all_spells r p cut.map cut.spelled cut.after made.0 w),
            λ whole. (
              commit_deed r p cut.map cut.spelled awaited (all r p cut.map cut.spelled cut.after made.0 w) w.tree,
              obeyed r p cut.map cut.spelled awaited whole cut.may w.tree (written_root r p cut.map cut.spelled cut.after made.0 w) w.legal,
              inl (s, record { each = λ x. inr (over.each x) }, refl),
              refl,
            ),
          ))
    ]
