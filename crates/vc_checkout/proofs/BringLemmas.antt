-- For a checkout: what it brings behind the look, which leaves the work tree as it was.
use Rattle.std.proofs.Common.{◌≡◌, inl, inr, refl, sym, subst, List, Option, Bool, ℕ}
use Rattle.std.specs.FinMap.{get}
use Rattle.vc_files.specs.FileMap.{FileMap}
use Rattle.vc_object.specs.ObjectMap.{ObjectMap}
use Rattle.vc_index.specs.IndexMap.{IndexMap}
use Rattle.vc_checkout.specs.CheckedOut.{IsCheckedOut, IsOldOrCheckedOut}
use Rattle.vc_work_tree.specs.Folders.{AreFolders, Folders, IsFolder}
use Rattle.vc_checkout.specs.FoldersAfter.{AreFoldersBegun, IsFolderAfter, IsLeftBy}
use Rattle.vc_checkout.specs.Steps.{Begins, Brings, BringsPart, IsAllowed, IsUnwritten}
use Rattle.vc_checkout.specs.WorkTree.{AreApart}
use Rattle.vc_checkout.proofs.MakingLemmas.{first_between}
use Rattle.vc_checkout.proofs.LeavingLemmas.{between_same}

module _ {W : Type 0} (content : W → FileMap) (held : W → Folders) (left : W → Option ℕ) (can_hold : W → List ℕ → Bool) (index tree : IndexMap) (old mid : W) (same : IsUnwritten content held left old mid) where
  -- a work tree that nothing was done to
  pub not_begun : (objects : ObjectMap) → BringsPart content held left can_hold objects index tree old mid
  not_begun objects = record {
    files = λ path. inl (subst (λ (w : FileMap). get w path ≡ get (content old) path) (sym same.0.0) refl);
    folders = first_between index tree (content old) (content mid) (held old) (held mid) (between_same (content old) (content mid) (held old) (held mid) (λ d. IsFolder (content old) (held old) d × (IsLeftBy index tree d → ⊥)) same.0.0 same.0.1 (λ d is. is.0));
    apart = subst AreApart (sym same.0.0);
    allowed = inl same;
  }

  -- one that was brought in part behind the look
  pub begun_behind : (objects mine : ObjectMap) (new : W) → mine ≡ objects → Begins content held mine index tree mid new → IsAllowed (can_hold old) objects index tree (content old) → BringsPart content held left can_hold objects index tree old new
  begun_behind objects mine new is begins allowed = record {
    files = subst (λ (w : FileMap). (path : List ℕ) → IsOldOrCheckedOut objects index tree w (content new) path) same.0.0 (subst (λ (o : ObjectMap). (path : List ℕ) → IsOldOrCheckedOut o index tree (content mid) (content new) path) is begins.files);
    folders = subst (λ (s : Folders). AreFoldersBegun index tree (content old) s (content new) (held new)) same.0.1 (subst (λ (w : FileMap). AreFoldersBegun index tree w (held mid) (content new) (held new)) same.0.0 begins.folders);
    apart = λ were. begins.apart (subst AreApart (sym same.0.0) were);
    allowed = inr allowed;
  }

  pub brought_behind : (objects mine : ObjectMap) (new : W) → mine ≡ objects → Brings content held mine index tree mid new → Brings content held objects index tree old new
  brought_behind objects mine new is brings = record {
    files = subst (λ (w : FileMap). (path : List ℕ) → IsCheckedOut objects (get index path) (get tree path) (get w path) (get (content new) path)) same.0.0 (subst (λ (o : ObjectMap). (path : List ℕ) → IsCheckedOut o (get index path) (get tree path) (get (content mid) path) (get (content new) path)) is brings.files);
    folders = subst (λ (s : Folders). AreFolders (content new) (held new) (IsFolderAfter index tree (IsFolder (content old) s))) same.0.1 (subst (λ (w : FileMap). AreFolders (content new) (held new) (IsFolderAfter index tree (IsFolder w (held mid)))) same.0.0 brings.folders);
    alone = brings.alone;
  }
