-- A work tree that a command opened and handed back; and what a checkout does to one, said of what it has.
use Rattle.std.proofs.Common.{◌≡◌, ℕ, Bool, List, Option, inl, inr, refl, subst, sym}
use Rattle.vc_checkout.specs.Steps.{Brings, BringsPart}
use Rattle.vc_cli.specs.declared.failure.Failure.{Failure}
use Rattle.vc_files.specs.FileMap.{FileMap}
use Rattle.vc_index.specs.IndexMap.{IndexMap}
use Rattle.vc_object.specs.ObjectMap.{ObjectMap}
use Rattle.vc_object.specs.declared.id.ObjectId.{ObjectId}
use Rattle.vc_object_map.specs.Store.{objects}
use Rattle.vc_work_tree.specs.Folders.{Folders}
use Rattle.vc_working.specs.Checkout.{ChecksOut, LeavesNoted, LeavesOrFails, StopsHalfway}
use Rattle.vc_working.specs.Trees.{ChecksOutTree, GivesBackTree, LeavesTree, Tree, Trees, files_of, folders_of, no_stop, tree_of}

-- ---- trees by their names

-- what was done to the work tree that was opened is done to that of the name
pub tree_gave : {W : Type 0} (content : W → FileMap) (held : W → Folders) (P : Tree → Tree → Type 0) (store work : List ℕ) (was now : W) (old mid new : Trees)
    → tree_of content held was ≡ old store work → GivesBackTree store work (tree_of content held now) mid new → P (tree_of content held was) (tree_of content held now) → P (old store work) (new store work)
tree_gave content held P store work was now old mid new opened given h =
    subst (λ (t : Tree). P (old store work) t) (sym given.here) (subst (λ (t : Tree). P t (tree_of content held now)) opened h)

-- ---- a checkout

module _ {W : Type 0} (content : W → FileMap) (held : W → Folders) (left : W → Option ℕ) (can_hold : W → List ℕ → Bool) where
  brings_of : (map : ObjectMap) (start tree : IndexMap) (was now : W) → Brings content held map start tree was now → Brings files_of folders_of map start tree (tree_of content held was) (tree_of content held now)
  brings_of map start tree was now b = record { files = b.files; folders = b.folders; alone = b.alone }

  part_of : (map : ObjectMap) (start tree : IndexMap) (was now : W) → BringsPart content held left can_hold map start tree was now → BringsPart files_of folders_of no_stop (λ t. can_hold was) map start tree (tree_of content held was) (tree_of content held now)
  part_of map start tree was now b = record {
    files = b.files;
    folders = b.folders;
    apart = b.apart;
    allowed = elim b.allowed [ inl unwritten ↦ inl (unwritten.0, refl) | inr allowed ↦ inr allowed ];
  }

  pub checks_out : (own revision : List ℕ) (old new : FileMap) (was now : W) → ChecksOut content held can_hold own revision old new was now → ChecksOutTree (can_hold was) own revision old new (tree_of content held was) (tree_of content held now)
  checks_out own revision old new was now c = record {
    index = c.index;
    head = c.head;
    root = c.root;
    tree = c.tree;
    before = c.before;
    is_cut = c.is_cut;
    start = c.start;
    starts = c.starts;
    may = c.may;
    brought = brings_of (objects old) c.start c.tree was now c.brought;
    sound = c.sound;
    shows = c.shows;
    ended = c.ended;
  }

  stops_of : (honest : Type 0) (old new : FileMap) (is_cut : Bool) (start : IndexMap) (root : ObjectId) (tree : IndexMap) (was now : W)
      → StopsHalfway content held left old new is_cut start root was now (honest → BringsPart content held left can_hold (objects old) start tree was now)
      → StopsHalfway files_of folders_of no_stop old new is_cut start root (tree_of content held was) (tree_of content held now) (honest → BringsPart files_of folders_of no_stop (λ t. can_hold was) (objects old) start tree (tree_of content held was) (tree_of content held now))
  stops_of honest old new is_cut start root tree was now (inl (unwritten, files)) = inl ((unwritten.0, refl), files)
  stops_of honest old new is_cut start root tree was now (inr (noted, begun, part)) = inr (noted, begun, λ h. part_of (objects old) start tree was now (part h))

  noted_of : (honest : Type 0) (own revision : List ℕ) (old new : FileMap) (was now : W)
      → LeavesNoted honest content held left can_hold own revision old new was now → LeavesNoted honest files_of folders_of no_stop (λ t. can_hold was) own revision old new (tree_of content held was) (tree_of content held now)
  noted_of honest own revision old new was now n = record {
    index = n.index;
    head = n.head;
    root = n.root;
    tree = n.tree;
    before = n.before;
    is_cut = n.is_cut;
    start = n.start;
    starts = n.starts;
    may = n.may;
    stage = elim n.stage [
      | inl stopped ↦ inl (stops_of honest old new n.is_cut n.start n.root n.tree was now stopped)
      | inr brought ↦ inr ((λ h. brings_of (objects old) n.start n.tree was now (brought.0 h)), brought.1, brought.2)
    ];
  }

  pub leaves_of : (honest : Type 0) (own revision : List ℕ) (old new : FileMap) (was now : W) (e : Failure)
      → LeavesOrFails honest content held left can_hold own revision old new was now e → LeavesTree honest (can_hold was) own revision old new (tree_of content held was) (tree_of content held now) e
  leaves_of honest own revision old new was now e (inl (unwritten, same)) = inl ((unwritten.0, refl), same)
  leaves_of honest own revision old new was now e (inr (status, noted)) = inr (status, noted_of honest own revision old new was now noted)
