-- Why the objects of a commit were not stored, and what was.
use Rattle.std.proofs.Common.{◌≡◌, inl, inr, ℕ, List, ◌∷◌, ◌++◌, Err, ap, ◌∙◌, subst, []}
use Rattle.std.specs.FinMap.{get, empty, get-empty}
use Rattle.std.specs.Ordering.{nat_cmp}
use Rattle.std.specs.Cmp.Lexicographic.{slice_cmp}
use Rattle.vc_files.specs.FileMap.{FileMap}
use Rattle.vc_index.specs.Damage.{KeepsDamage}
use Rattle.vc_index.specs.IndexMap.{IndexMap}
use Rattle.vc_index.specs.WrittenTrees.{IsWritten, IsOfWrite}
use Rattle.vc_index.specs.declared.faults.IndexFault.{IndexFault}
use Rattle.vc_index.specs.declared.faults.IndexFault.TheVariants as index
use Rattle.vc_object.specs.ObjectFault.{BodyFault}
use Rattle.vc_object.specs.ObjectMap.{ObjectMap}
use Rattle.vc_object.specs.declared.id.ObjectId.{ObjectId}
use Rattle.vc_object.specs.declared.kind.Kind.TheVariants as kinds
use Rattle.vc_object_map.specs.Store.{IsDamaged, object_path, stored_in}
use Rattle.vc_object_map.specs.StoreFault.{IsOfPut, IsOfDamage}
use Rattle.vc_object_map.specs.declared.faults.StoreFault.{StoreFault}
use Rattle.vc_object_map.specs.declared.faults.StoreFault.TheVariants as store
use Rattle.vc_local.specs.Commit.{made_body}
use Rattle.vc_local.specs.Making.{BlamesStored, BlamesObjects, HasRoot}
use Rattle.vc_local.specs.NodeFault.{of_index}
use Rattle.vc_local.specs.declared.fault.NodeFault.{NodeFault}
use Rattle.vc_local.specs.declared.fault.NodeFault.TheVariants.{Store, Ref, Missing, NotACommit, BadPath, PathConflict, BadIndex, WrongEntry, Down}

pub root_of : {honest : Type 0} {m : IndexMap} {old new : ObjectMap} {tree : ObjectId} → IsWritten honest m old new tree → HasRoot m tree
root_of w = record { trees = w.lower ++ w.root ∷ []; root = w.root; listed = w.listed; fits = w.fits; is = w.is }

-- objects that were stored are so after a call that stored none
pub written_still : (honest : Type 0) (m : IndexMap) (old mid new : ObjectMap) (tree : ObjectId) → IsWritten honest m old mid tree → (honest → new ≡ mid) → IsWritten honest m old new tree
written_still honest m old mid new tree w same = record {
  lower = w.lower;
  root = w.root;
  trees = w.trees;
  is = w.is;
  listed = w.listed;
  fits = w.fits;
  stored = λ h. same h ∙ w.stored h;
}

module _ (honest : Type 0) (old mid : FileMap) (m : IndexMap) (parents : List ObjectId) (author committer message : List ℕ) (keeps : honest → KeepsDamage old mid) where
  -- why the trees were not
  trees_blamed : (f : StoreFault) → IsOfWrite m (λ id. honest → IsDamaged mid id) (index.Store f) → BlamesStored honest old m parents author committer message f
  trees_blamed (store.BadObject g) of = inl of
  trees_blamed (store.Absent id) of = absurd of
  trees_blamed (store.Damaged id) of = λ h. (keeps h).before id (of.1 h)
  trees_blamed (store.Fault g) of = tt

  pub tree_blamed : (f : IndexFault) → IsOfWrite m (λ id. honest → IsDamaged mid id) f → BlamesObjects honest old m parents author committer message (of_index f)
  tree_blamed (index.Store f) of = trees_blamed f of
  tree_blamed index.BadPath of = absurd of
  tree_blamed index.PathConflict of = absurd of
  tree_blamed (index.BadIndex place) of = absurd of
  tree_blamed (index.WrongEntry at) of = absurd of
  tree_blamed (index.Missing id) of = absurd of

  -- why the commit was not
  pub body_blamed : (tree : ObjectId) → HasRoot m tree → (body : List ℕ) → body ≡ made_body tree parents author committer message → (f : StoreFault) → IsOfPut kinds.Commit body f → (honest → IsOfDamage mid f) → BlamesObjects honest old m parents author committer message (Store f)
  body_blamed tree root body is (store.BadObject g) of damage = inr (tree, root, subst (λ (text : List ℕ). BodyFault kinds.Commit text g) is of)
  body_blamed tree root body is (store.Absent id) of damage = absurd of
  body_blamed tree root body is (store.Damaged id) of damage = λ h. (keeps h).before id (damage h)
  body_blamed tree root body is (store.Fault g) of damage = tt

-- no file is damaged where there is none, so a commit to files in memory is refused as one to any files is
pub none_damaged : (id : ObjectId) → IsDamaged empty id → ⊥
none_damaged id damaged = let absent : stored_in id (get empty (object_path id.0)) ≡ Err (store.Absent id) = ap (stored_in id) (get-empty (slice_cmp nat_cmp) (object_path id.0)) in cc (absent, damaged)

module _ (honest : Type 0) (there : honest) (memory content : FileMap) (m : IndexMap) (ps qs : List ObjectId) (author committer message : List ℕ) (new : memory ≡ empty) (same : ps ≡ qs) where
  memory_stored : (f : StoreFault) → BlamesStored honest memory m ps author committer message f → BlamesStored (Unit {0}) content m qs author committer message f
  memory_stored (store.BadObject g) (inl large) = inl large
  memory_stored (store.BadObject g) (inr made) = inr (made.0, made.1, subst (λ (xs : List ObjectId). BodyFault kinds.Commit (made_body made.0 xs author committer message) g) same made.2)
  memory_stored (store.Absent id) blames = absurd blames
  memory_stored (store.Damaged id) blames = absurd (none_damaged id (subst (λ (n : FileMap). IsDamaged n id) new (blames there)))
  memory_stored (store.Fault g) blames = tt

  pub memory_blamed : (e : NodeFault) → BlamesObjects honest memory m ps author committer message e → BlamesObjects (Unit {0}) content m qs author committer message e
  memory_blamed (Store f) blames = memory_stored f blames
  memory_blamed (Ref f) blames = absurd blames
  memory_blamed (Missing id) blames = absurd blames
  memory_blamed (NotACommit id) blames = absurd blames
  memory_blamed BadPath blames = absurd blames
  memory_blamed PathConflict blames = absurd blames
  memory_blamed (BadIndex place) blames = absurd blames
  memory_blamed (WrongEntry at) blames = absurd blames
  memory_blamed Down blames = absurd blames

module _ (honest : Type 0) (there : honest) (old content : FileMap) (m : IndexMap) (ps qs : List ObjectId) (author committer message : List ℕ) (is : old ≡ content) (same : ps ≡ qs) where
  files_stored : (f : StoreFault) → BlamesStored honest old m ps author committer message f → BlamesStored (Unit {0}) content m qs author committer message f
  files_stored (store.BadObject g) (inl large) = inl large
  files_stored (store.BadObject g) (inr made) = inr (made.0, made.1, subst (λ (xs : List ObjectId). BodyFault kinds.Commit (made_body made.0 xs author committer message) g) same made.2)
  files_stored (store.Absent id) blames = absurd blames
  files_stored (store.Damaged id) blames = λ u. subst (λ (n : FileMap). IsDamaged n id) is (blames there)
  files_stored (store.Fault g) blames = tt

  pub files_blamed : (e : NodeFault) → BlamesObjects honest old m ps author committer message e → BlamesObjects (Unit {0}) content m qs author committer message e
  files_blamed (Store f) blames = files_stored f blames
  files_blamed (Ref f) blames = absurd blames
  files_blamed (Missing id) blames = absurd blames
  files_blamed (NotACommit id) blames = absurd blames
  files_blamed BadPath blames = absurd blames
  files_blamed PathConflict blames = absurd blames
  files_blamed (BadIndex place) blames = absurd blames
  files_blamed (WrongEntry at) blames = absurd blames
  files_blamed Down blames = absurd blames
