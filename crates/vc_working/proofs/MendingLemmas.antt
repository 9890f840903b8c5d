-- For a checkout that mends one that was cut short: from what the index and the files were before it.
use Rattle.std.proofs.Common.{◌≡◌, ◌≢◌, ℕ, Bool, true, false, List, Option, Some, Ok, sym, ◌∙◌, subst, ◌⊎◌, inl, inr}
use Rattle.vc_files.specs.FileMap.{FileMap}
use Rattle.vc_object.specs.declared.id.ObjectId.{ObjectId}
use Rattle.vc_object_map.specs.Store.{objects}
use Rattle.vc_index.specs.IndexMap.{IndexMap}
use Rattle.vc_index.specs.TreeReading.{ListsAs}
use Rattle.vc_checkout.specs.Blobs.{HasDueBlobs}
use Rattle.vc_checkout.specs.CheckoutFault.{IsOfCheckout}
use Rattle.vc_work_tree.specs.Folders.{Folders}
use Rattle.vc_checkout.specs.Holding.{HoldsDue}
use Rattle.vc_checkout.specs.Refusal.{IsClear}
use Rattle.vc_checkout.specs.Steps.{Brings, BringsPart, IsAllowed, IsUnwritten}
use Rattle.vc_checkout.specs.declared.faults.CheckoutFault.{CheckoutFault}
use Rattle.vc_cli.specs.Failure.{status_of}
use Rattle.vc_cli.specs.declared.failure.Failure.{Failure}
use Rattle.vc_working.specs.Begun.{begun_in}
use Rattle.vc_refs.specs.declared.heads.Head.{Head}
use Rattle.vc_working.specs.Checkout.{IsBroughtTo, IsCut, IsOfTreeList, IsStart, IsWhole, LeavesOrFails, MayBring, MayWrite, StopsHalfway}

-- ---- whether a checkout was cut short

same_some : (a b : ObjectId) → Some a ≡ Some b → a ≡ b
same_some a b e = cc e

pub whole_unlisted : (content m : FileMap) (root other : ObjectId) (e : Failure) → Some other ≡ begun_in content → m ≡ content → IsOfTreeList m other e → status_of e ≢ 3 → IsWhole content root
whole_unlisted content m root other e begun same told refused = λ one is. inr (e, subst (λ (id : ObjectId). IsOfTreeList content id e) (same_some other one (begun ∙ is)) (subst (λ (f : FileMap). IsOfTreeList f other e) same told), refused)

pub cut_listed : (content m : FileMap) (root other : ObjectId) (cut : IndexMap) → Some other ≡ begun_in content → m ≡ content → other ≢ root → ListsAs (objects m) other (Ok cut) → IsCut content root cut
cut_listed content m root other cut begun same apart lists = (other, sym begun, apart, subst (λ (f : FileMap). ListsAs (objects f) other (Ok cut)) same lists)

-- over files that are the same
pub starts_same : (honest : Type 0) (content m work : FileMap) (root : ObjectId) (index : IndexMap) (is_cut : Bool) (start : IndexMap) → m ≡ content → IsStart honest m work root index is_cut start → IsStart honest content work root index is_cut start
starts_same honest content m work root index is_cut start same is = subst (λ (f : FileMap). IsStart honest f work root index is_cut start) same is

-- of a work tree that is honest
pub starts_honest : (honest : Type 0) (content work : FileMap) (root : ObjectId) (index : IndexMap) (is_cut : Bool) (start : IndexMap) → honest → IsStart honest content work root index is_cut start → IsStart (Unit {0}) content work root index is_cut start
starts_honest honest content work root index false start h is = is
starts_honest honest content work root index true start h (cut, is, settles) = (cut, is, λ _ apart. settles h apart)

-- ---- what is looked at before the first write

module _ (honest : Type 0) (can_hold held : List ℕ → Bool) (content m work now : FileMap) (start tree : IndexMap) (hold : held ≡ can_hold) (same : m ≡ content) (looked : now ≡ work) where
  pub may_write : HoldsDue held start tree → HasDueBlobs (objects m) start tree → (honest → (path : List ℕ) → IsClear start tree now path) → MayWrite honest can_hold content work start tree
  may_write holds blobs clear = record {
    holds = subst (λ (h : List ℕ → Bool). HoldsDue h start tree) hold holds;
    blobs = subst (λ (f : FileMap). HasDueBlobs (objects f) start tree) same blobs;
    clear = λ h. subst (λ (w : FileMap). (path : List ℕ) → IsClear start tree w path) looked (clear h);
  }

  pub of_check : (cause : CheckoutFault) → IsOfCheckout honest held now m start tree cause → IsOfCheckout honest can_hold work content start tree cause
  of_check cause is =
      subst (λ (h : List ℕ → Bool). IsOfCheckout honest h work content start tree cause) hold
      (subst (λ (f : FileMap). IsOfCheckout honest held work f start tree cause) same (subst (λ (w : FileMap). IsOfCheckout honest held w m start tree cause) looked is))

pub may_same : (honest : Type 0) (can_hold : List ℕ → Bool) (content m work : FileMap) (start tree : IndexMap) → m ≡ content → MayWrite honest can_hold m work start tree → MayWrite honest can_hold content work start tree
may_same honest can_hold content m work start tree same may = subst (λ (f : FileMap). MayWrite honest can_hold f work start tree) same may

pub may_honest : (honest : Type 0) (can_hold : List ℕ → Bool) (content work : FileMap) (start tree : IndexMap) → honest → MayWrite honest can_hold content work start tree → MayWrite (Unit {0}) can_hold content work start tree
may_honest honest can_hold content work start tree h may = record { holds = may.holds; blobs = may.blobs; clear = λ _. may.clear h }

-- ---- what is left

-- a look after which the work tree is as it was, and then another
pub unwritten_then : {W : Type 0} (content : W → FileMap) (held : W → Folders) (left : W → Option ℕ) (was mid now : W) → IsUnwritten content held left was mid → IsUnwritten content held left mid now → IsUnwritten content held left was now
unwritten_then content held left was mid now first then = ((then.0.0 ∙ first.0.0, then.0.1 ∙ first.0.1), then.1 ∙ first.1)

-- of the files before, and of the work tree before the look
pub stops_from : {W : Type 0} (content : W → FileMap) (held : W → Folders) (left : W → Option ℕ) (old m new : FileMap) (is_cut : Bool) (start : IndexMap) (root : ObjectId) (was mid now : W) (P Q : Type 0)
    → m ≡ old → IsUnwritten content held left was mid → (P → Q) → StopsHalfway content held left m new is_cut start root mid now P → StopsHalfway content held left old new is_cut start root was now Q
stops_from content held left old m new is_cut start root was mid now P Q same looked part stops = by (subst (λ (f : FileMap). StopsHalfway content held left f new is_cut start root mid now P) same stops)
  where
    by : StopsHalfway content held left old new is_cut start root mid now P → StopsHalfway content held left old new is_cut start root was now Q
    by (inl (unwritten, files)) = inl (unwritten_then content held left was mid now looked unwritten, files)
    by (inr (is, says, p)) = inr (is, says, part p)

-- what a fault leaves, of what was looked at
pub left_noted : {W : Type 0} (honest : Type 0) (content : W → FileMap) (held : W → Folders) (left : W → Option ℕ) (can_hold : W → List ℕ → Bool) (own revision : List ℕ) (old m new : FileMap) (index : IndexMap) (head : Head) (root : ObjectId) (tree : IndexMap) (is_cut : Bool) (start : IndexMap) (was now : W) (e : Failure)
    → status_of e ≡ 3 → m ≡ old → MayBring own revision old index head root tree → IsStart honest m (content was) root index is_cut start → MayWrite honest (can_hold was) m (content was) start tree
    → StopsHalfway content held left old new is_cut start root was now (honest → BringsPart content held left can_hold (objects old) start tree was now) ⊎ ((honest → Brings content held (objects old) start tree was now) × (begun_in new ≡ Some root) × IsBroughtTo old new is_cut start root tree head)
    → LeavesOrFails honest content held left can_hold own revision old new was now e
left_noted honest content held left can_hold own revision old m new index head root tree is_cut start was now e fault same may starts write stage = inr (
  fault,
  record {
    index = index;
    head = head;
    root = root;
    tree = tree;
    before = may;
    is_cut = is_cut;
    start = start;
    starts = starts_same honest old m (content was) root index is_cut start same starts;
    may = may_same honest (can_hold was) old m (content was) start tree same write;
    stage = stage;
  },
)

pub is_allowed : (honest : Type 0) (can_hold : List ℕ → Bool) (content m work : FileMap) (start tree : IndexMap) → honest → m ≡ content → MayWrite honest can_hold m work start tree → IsAllowed can_hold (objects content) start tree work
is_allowed honest can_hold content m work start tree h same may = subst (λ (f : FileMap). IsAllowed can_hold (objects f) start tree work) same (record { holds = may.holds; blobs = may.blobs; clear = may.clear h })
