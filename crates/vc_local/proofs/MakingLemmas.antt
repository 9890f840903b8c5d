-- From the steps of a commit to the whole.
use Rattle.std.proofs.Common.{◌≡◌, ◌⊎◌, ℕ, ◌+◌, ◌<◌, zero, suc, List, [], ◌∷◌, take, get_or, length, refl, sym, ap, ◌∙◌, subst, add-one, arith, inl, inr}
use Rattle.std.specs.Prelude.{Result, Ok, Err, Some, IsErrAnd, IfErr, OnErr, codes}
use Rattle.std.specs.List.{AllByRecursion}
use Rattle.vc_files.specs.FileMap.{FileMap, SameOutside}
use Rattle.vc_files.specs.declared.faults.Fault.{Fault as FilesFault}
use Rattle.vc_index.specs.IndexMap.{IndexMap}
use Rattle.vc_object.specs.Object.{IsObject}
use Rattle.vc_object.specs.ObjectMap.{ObjectMap}
use Rattle.vc_object.specs.declared.id.ObjectId.{ObjectId}
use Rattle.vc_object.specs.declared.kind.Kind.TheVariants as kinds
use Rattle.vc_refs.specs.Head.{head_of}
use Rattle.vc_refs.specs.declared.heads.Head.{Head}
use Rattle.vc_object_map.specs.Store.{objects}
use Rattle.vc_object_map.specs.declared.faults.StoreFault.TheVariants as store
use Rattle.vc_local.specs.Commit.{IsFreeHead, IsGoodParent, WritesCommit, made_body, moved, parents_of_commit}
use Rattle.vc_local.specs.GoodCommit.{BlamesCommit}
use Rattle.vc_local.specs.IndexFile.{SpellsIndex}
use Rattle.vc_local.specs.Making.{AreLines, BlamesParents, LeftByCommit, MayCommit, MayMake, StoresTrees}
use Rattle.vc_local.specs.declared.fault.NodeFault.{NodeFault}
use Rattle.vc_local.specs.declared.fault.NodeFault.TheVariants.{Store}
use Rattle.vc_local.specs.Shown.{shown, with_objects_shown}
use Rattle.vc_local.proofs.ShownLemmas.{shown_objects}
use Rattle.vc_local.proofs.StoringLemmas.{root_of}

-- one more at the end of those that were looked at
all_one_more : {X : Type 0} (P : X → Type 0) (xs : List X) (i : ℕ) (d : X) → i < length xs → AllByRecursion P (take i xs) → P (get_or xs i d) → AllByRecursion P (take (suc i) xs)
all_one_more P [] i d less all p = tt
all_one_more P (x ∷ xs) zero d less all p = (p, tt)
all_one_more P (x ∷ xs) (suc i) d less all p = (all.0, all_one_more P xs i d (omega arith) all.1 p)

pub all_more : {X : Type 0} (P : X → Type 0) (xs : List X) (i : ℕ) (d : X) → i < length xs → AllByRecursion P (take i xs) → P (get_or xs i d) → AllByRecursion P (take (i + 1) xs)
all_more P xs i d less all p = subst (λ n. AllByRecursion P (take n xs)) (sym (add-one i)) (all_one_more P xs i d less all p)

-- the first that is no good parent, behind those that were looked at
pub parents_blamed : (content : FileMap) (xs : List ObjectId) (i : ℕ) (d : ObjectId) (e : NodeFault) → i < length xs → AllByRecursion (IsGoodParent content) (take i xs) → BlamesCommit content (get_or xs i d) e → BlamesParents content xs e
parents_blamed content [] i d e less all blames = absurd (omega arith)
parents_blamed content (x ∷ xs) zero d e less all blames = inl blames
parents_blamed content (x ∷ xs) (suc i) d e less all blames = inr (all.0, parents_blamed content xs i d e (omega arith) all.1 blames)

-- a fault blames one of them, whatever they are
pub fault_blamed : (content : FileMap) (xs : List ObjectId) (f : FilesFault) → 0 < length xs → BlamesParents content xs (Store (store.Fault f))
fault_blamed content [] f some = absurd (omega arith)
fault_blamed content (x ∷ xs) f some = inl tt

-- what is handed on as it came
pub told_on : {T : Type 0} (Reason : NodeFault → Type 0) (fault : NodeFault) (r : Result T NodeFault) → IsErrAnd r (λ e. e ≡ fault) → Reason fault → IfErr r Reason
told_on Reason fault (Ok x) is reason = tt
told_on Reason fault (Err e) is reason = subst Reason (sym is) reason

pub left_on : {T : Type 0} (Left : Type 0) (fault : NodeFault) (r : Result T NodeFault) → IsErrAnd r (λ e. e ≡ fault) → Left → OnErr r Left
left_on Left fault (Ok x) is left = tt
left_on Left fault (Err e) is left = left

-- ---- what a commit found before it stored anything, over files that stayed as they were
pub record Looked (old now : FileMap) (extra parents : List ObjectId) (author committer : List ℕ) (map : IndexMap) : Type 0 where
  pub may : MayCommit old extra author committer
  pub spelled : SpellsIndex old map
  pub parents_are : parents ≡ parents_of_commit old extra
  pub same : now ≡ old

pub looked : {old first second third now : FileMap} {extra parents : List ObjectId} (author committer : List ℕ) {head : Head} {map : IndexMap} → first ≡ old → second ≡ first → third ≡ second → now ≡ third
    → AreLines author committer → head_of old ≡ Some head → IsFreeHead old head → AllByRecursion (IsGoodParent first) extra → parents ≡ parents_of_commit second extra → SpellsIndex third map
    → Looked old now extra parents author committer map
looked {extra = extra} author committer {head = head} {map = map} one two three four lines is free good are spelled = record {
  may = record { lines = lines; head = head; head_is = is; free = free; parents = subst (λ (m : FileMap). AllByRecursion (IsGoodParent m) extra) one good };
  spelled = subst (λ (m : FileMap). SpellsIndex m map) (three ∙ two ∙ one) spelled;
  parents_are = are ∙ ap (λ (m : FileMap). parents_of_commit m extra) (two ∙ one);
  same = four ∙ three ∙ two ∙ one;
}

-- its objects were written to files in memory
module _ {old now : FileMap} {extra parents : List ObjectId} {author committer : List ℕ} {map : IndexMap} (found : Looked old now extra parents author committer map)
    {ps : List ObjectId} {message : List ℕ} {empty made : ObjectMap} {id : ObjectId} (lent : ps ≡ parents) (w : WritesCommit (Unit {0}) map ps author committer message empty made id) where
  legal : IsObject kinds.Commit (made_body w.tree (parents_of_commit old extra) author committer message)
  legal = subst (λ (qs : List ObjectId). IsObject kinds.Commit (made_body w.tree qs author committer message)) (lent ∙ found.parents_are) w.legal

  pub may_make : MayMake old extra author committer message
  may_make = record { may = found.may; map = map; spelled = found.spelled; tree = w.tree; root = root_of (w.trees tt); legal = legal }

  -- and then it was cut
  pub cut_by : (new : FileMap) (after : ObjectMap) → StoresTrees (Unit {0}) map (objects old) after ⊎ ((id : ObjectId) × WritesCommit (Unit {0}) map (parents_of_commit old extra) author committer message (objects old) after id)
      → shown new ≡ with_objects_shown (shown old) after → LeftByCommit old extra author committer message new
  cut_by new after some is = inr (record { may = found.may; map = map; spelled = found.spelled; tree = w.tree; root = root_of (w.trees tt); legal = legal; after = after; some = some; is = is })

-- what was written to honest files
pub writes_there : (honest : Type 0) (m : IndexMap) (ps qs : List ObjectId) (author committer message : List ℕ) (mid old new : ObjectMap) (id : ObjectId) → honest → ps ≡ qs → mid ≡ old
    → WritesCommit honest m ps author committer message mid new id → WritesCommit (Unit {0}) m qs author committer message old new id
writes_there honest m ps qs author committer message mid old new id there same from w =
    subst (λ (xs : List ObjectId). WritesCommit (Unit {0}) m xs author committer message old new id) same
    (subst (λ (o : ObjectMap). WritesCommit (Unit {0}) m ps author committer message o new id) from (record {
      tree = w.tree;
      between = w.between;
      trees = λ _. let t = w.trees there in record { lower = t.lower; root = t.root; trees = t.trees; is = t.is; listed = t.listed; fits = t.fits; stored = λ _. t.stored there };
      legal = w.legal;
      name = w.name;
      commit = λ _. w.commit there;
    }))

-- the trees that were stored in honest files
pub trees_there : (honest : Type 0) (m : IndexMap) (mid old new : ObjectMap) → honest → mid ≡ old → StoresTrees honest m mid new → StoresTrees (Unit {0}) m old new
trees_there honest m mid old new there from (inl b) =
    subst (λ (o : ObjectMap). StoresTrees (Unit {0}) m o new) from (inl (record { trees = b.trees; lower = b.lower; first = b.first; fits = b.fits; stored = λ _. b.stored there }))
trees_there honest m mid old new there from (inr w) =
    let t = w.1 in
    subst (λ (o : ObjectMap). StoresTrees (Unit {0}) m o new) from (inr (w.0, record { lower = t.lower; root = t.root; trees = t.trees; is = t.is; listed = t.listed; fits = t.fits; stored = λ _. t.stored there }))

-- what is shown of files in which objects alone were stored
pub stored_shown : (old mid new : FileMap) → mid ≡ old → SameOutside (codes "objects/") mid new → shown new ≡ with_objects_shown (shown old) (objects new)
stored_shown old mid new same outside = shown_objects mid new (objects new) outside refl ∙ ap (λ (m : FileMap). with_objects_shown (shown m) (objects new)) same

pub committed_shown : (old mid made new : FileMap) (head : Head) (id : ObjectId) → mid ≡ old → SameOutside (codes "objects/") mid made → shown new ≡ moved head id (shown made) → shown new ≡ moved head id (with_objects_shown (shown old) (objects made))
committed_shown old mid made new head id same outside is =
    is ∙ ap (moved head id) (shown_objects mid made (objects made) outside refl ∙ ap (λ (m : FileMap). with_objects_shown (shown m) (objects made)) same)
