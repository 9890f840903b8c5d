-- What a clone's calls leave of its objects: each stays. For what is kept of the tracking refs' reach.
use Rattle.std.proofs.Common.{◌≡◌, ⊎_elim, List, Some, refl, ap, ◌∙◌, map, ◌++◌, ◌∷◌, [], ℕ}
use Rattle.vc_known.proofs.StoredLemmas.{known_kept}
use Rattle.vc_history.proofs.StoredLemmas.{keeps_map, keeps_same, keeps_then, numbers_kept, with_object-keeps, with_objects-keeps}
use Rattle.vc_tracking.specs.Storing.{KeepsGood}
use Rattle.vc_history.specs.Stored.{AgreesIn, KeepsObjects}
use Rattle.vc_history.specs.declared.generations.Generations.{Generations}
use Rattle.vc_known.specs.Known.{Agrees}
use Rattle.vc_known.specs.declared.known.Known.{Known}
use Rattle.vc_files.specs.FileMap.{FileMap}
use Rattle.vc_index.specs.IndexMap.{IndexMap}
use Rattle.vc_index.specs.WrittenTrees.{IsBegun, IsWritten, tree_object}
use Rattle.vc_object.specs.Decoding.{StoredObject, stored_object}
use Rattle.vc_object.specs.ObjectMap.{ObjectMap}
use Rattle.vc_object.specs.declared.id.ObjectId.{ObjectId}
use Rattle.vc_object.specs.declared.kind.Kind.TheVariants as kinds
use Rattle.vc_refs.specs.declared.heads.Head.{Head}
use Rattle.vc_refs.specs.declared.heads.Head.TheVariants as heads
use Rattle.vc_object_map.specs.Store.{objects, with_objects}
use Rattle.vc_quarantine.proofs.CleanLemmas.{bad_same, bad_then}
use Rattle.vc_local.specs.Commit.{IsCommitted, WritesCommit, made_body, moved}
use Rattle.vc_local.specs.Making.{IsCut, LeftByCommit, StoresTrees}
use Rattle.vc_local.specs.Shown.{Shown, shown}

-- what is shown tells the objects
pub keeps_shown : (old new : FileMap) (s : Shown) → shown new ≡ s → s.objects ≡ objects old → KeepsObjects old new
keeps_shown old new s is same = keeps_map old new (ap (λ (x : Shown). x.objects) is ∙ same)

-- objects that are put leave those that are there
pub keeps_puts : (old new : FileMap) (puts : List StoredObject) → objects new ≡ with_objects (objects old) puts → KeepsObjects old new
keeps_puts old new puts is = record { at = λ id o there. ap (λ (m : ObjectMap). m id) is ∙ with_objects-keeps (objects old) puts id o there }

-- what is known of objects agrees with what is stored then, and so do generations
pub both_kept : (old new : FileMap) (known : Known) (generations : Generations) → KeepsObjects old new → Agrees (objects old) known × AgreesIn old generations → Agrees (objects new) known × AgreesIn new generations
both_kept old new known generations keeps both = (known_kept old new known keeps both.0, numbers_kept old new keeps generations both.1)

-- ---- an exchange
pub good_same : (old new : FileMap) → new ≡ old → KeepsGood old new
good_same old new same = record { objects = keeps_same old new same; bad = bad_same old new same }

pub good_then : {old mid new : FileMap} → KeepsGood old mid → KeepsGood mid new → KeepsGood old new
good_then {old = old} {mid = mid} {new = new} first second = record { objects = keeps_then old mid new first.objects second.objects; bad = bad_then first.bad second.bad }

-- ---- a commit
abbrev Keeps : ObjectMap → ObjectMap → Type 0
Keeps f g = (id : ObjectId) (o : StoredObject) → f id ≡ Some o → g id ≡ Some o

begun : (m : IndexMap) (f g : ObjectMap) → IsBegun (Unit {0}) m f g → Keeps f g
begun m f g b id o is = ap (λ (x : ObjectMap). x id) (b.stored tt) ∙ with_objects-keeps f (map tree_object b.trees) id o is

written : (m : IndexMap) (f g : ObjectMap) (tree : ObjectId) → IsWritten (Unit {0}) m f g tree → Keeps f g
written m f g tree w id o is = ap (λ (x : ObjectMap). x id) (w.stored tt) ∙ with_objects-keeps f (map tree_object (w.lower ++ w.root ∷ [])) id o is

module _ (m : IndexMap) (parents : List ObjectId) (author committer message : List ℕ) where
  trees : (f g : ObjectMap) → StoresTrees (Unit {0}) m f g → Keeps f g
  trees f g = ⊎_elim (begun m f g) (λ (w : (tree : ObjectId) × IsWritten (Unit {0}) m f g tree). written m f g w.0 w.1)

  committed : (f g : ObjectMap) (name : ObjectId) → WritesCommit (Unit {0}) m parents author committer message f g name → Keeps f g
  committed f g name w id o is =
      let body = made_body w.tree parents author committer message in
      ap (λ (x : ObjectMap). x id) (w.commit tt) ∙ with_object-keeps w.between name (stored_object kinds.Commit body) id o (written m f w.between w.tree (w.trees tt) id o is)

moved_objects : (head : Head) (id : ObjectId) (s : Shown) → (moved head id s).objects ≡ s.objects
moved_objects (heads.Branch name) id s = refl
moved_objects (heads.Id was) id s = refl

pub keeps_committed : (old new : FileMap) (extra : List ObjectId) (author committer message : List ℕ) (id : ObjectId) → IsCommitted old extra author committer message id new → KeepsObjects old new
keeps_committed old new extra author committer message id c = record {
  at = λ q o is.
      ap (λ (x : Shown). x.objects q) c.is ∙ ap (λ (x : ObjectMap). x q) (moved_objects c.head id (record (shown old) { objects = c.after }))
      ∙ committed c.map _ author committer message (objects old) c.after id c.writes q o is;
}

pub keeps_left : (old new : FileMap) (extra : List ObjectId) (author committer message : List ℕ) → LeftByCommit old extra author committer message new → KeepsObjects old new
keeps_left old new extra author committer message = ⊎_elim (keeps_same old new) cut
  where
    cut : IsCut old extra author committer message new → KeepsObjects old new
    cut c = record {
      at = λ q o is.
          ap (λ (x : Shown). x.objects q) c.is
          ∙ ⊎_elim (λ some. trees c.map [] author committer message (objects old) c.after some q o is) (λ all. committed c.map _ author committer message (objects old) c.after all.0 all.1 q o is) c.some;
    }
