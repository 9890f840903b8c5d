-- The machine refuses no command by the number of a file of the node's own that is damaged or gone.
use Rattle.std.proofs.Common.{◌≡◌, inl, inr, ℕ, false, List, [], ◌∷◌, refl, ap, ◌∙◌}
use Rattle.vc_index.specs.TreeReading.{TreeFault}
use Rattle.vc_index.specs.TreeReading.TreeFault.{LongPath, OtherKind, NoObject}
use Rattle.vc_model.specs.Clone.{Task}
use Rattle.vc_model.specs.Clone.Task.{Write, Stage, Unstage, LoadTree, MakeCommit, SetBranch, DeleteBranch, MoveHead, StartFetch, StartPush}
use Rattle.vc_model.specs.CloneCall.{CommitsOr, Refuses, Unless, new_commit}
use Rattle.vc_model.specs.Object.{Id, Lookup, Object, blob}
use Rattle.vc_model.specs.Refs.Head.{OnBranch, Detached}
use Rattle.vc_model.specs.Repository.{Repository}
use Rattle.vc_object.specs.declared.fault.ObjectFault.{ObjectFault}
use Rattle.vc_object.specs.declared.fault.ObjectFault.TheVariants as object
use Rattle.vc_local.specs.NodeFault.{is_of_own_file}
use Rattle.vc_rules.specs.Git.{git}
use Rattle.vc_values.proofs.GitLaws.{git_rules}
use Rattle.vc_values.specs.Faults.{FaultGives, object_number}
use Rattle.vc_values.specs.Trees.{tree_number}
use Rattle.std.specs.Prelude.{Some}

abbrev IsNoFile : ℕ → Type 0
IsNoFile number = is_of_own_file number ≡ false

-- ---- a body, and a tree
pub object_no_file : (e : ObjectFault) → IsNoFile (object_number e)
object_no_file object.BadHeader = refl
object_no_file object.BadSize = refl
object_no_file object.TooLarge = refl
object_no_file object.BadMode = refl
object_no_file object.BadName = refl
object_no_file object.NotSorted = refl
object_no_file object.DuplicateName = refl
object_no_file object.BadCommit = refl
object_no_file object.BadTag = refl
object_no_file object.Cut = refl

tree_no_file : (e : TreeFault) → IsNoFile (tree_number e)
tree_no_file LongPath = refl
tree_no_file (OtherKind path) = refl
tree_no_file (NoObject id) = refl

is_number : (n m : ℕ) → n ≡ m → IsNoFile m → IsNoFile n
is_number n m is none = ap (λ (k : ℕ). is_of_own_file k) is ∙ none

fault_no_file : (o : Object) (n : ℕ) → FaultGives o (Some n) → IsNoFile n
fault_no_file o n (e, body, is) = is_number n (object_number e) is (object_no_file e)

-- ---- a command
unless : {Need Rest : Type 0} (m n : ℕ) → IsNoFile m → (Rest → IsNoFile n) → Unless Need m n Rest → IsNoFile n
unless m n none rest (inl refused) = is_number n m refused.1 none
unless m n none rest (inr more) = rest more.1

commits : {Rest : Type 0} (at : Lookup) (xs : List Id) (n : ℕ) → (Rest → IsNoFile n) → CommitsOr git at xs n Rest → IsNoFile n
commits at [] n rest why = rest why
commits at (x ∷ xs) n rest why = unless 40 n refl (unless 41 n refl (commits at xs n rest)) why

pub refused_by_no_file : (r : Repository) (task : Task) (n : ℕ) → Refuses git git_rules r task n → IsNoFile n
refused_by_no_file r (Write o) n why = fault_no_file o n why
refused_by_no_file r (Stage path mode content) n why = unless 60 n refl (unless 61 n refl (fault_no_file (blob content) n)) why
refused_by_no_file r (LoadTree x) n why = is_number n (tree_number why.0) why.2 (tree_no_file why.0)
refused_by_no_file r (MakeCommit extra author committer message) n why =
    unless 8 n refl (unless 32 n refl (commits _ extra n (λ either. elim either [ inl trees ↦ is_number n 3 trees.5 refl | inr made ↦ fault_no_file (new_commit git r made.0.1 extra author committer message) n made.2 ]))) why
refused_by_no_file r (SetBranch b x) n why = unless 32 n refl (unless 40 n refl (unless 41 n refl (λ never. absurd never))) why
refused_by_no_file r (MoveHead (Detached x)) n why = unless 40 n refl (unless 41 n refl (λ never. absurd never)) why
refused_by_no_file r (MoveHead (OnBranch b)) n why = absurd why
refused_by_no_file r (StartPush atomic items) n why = unless 84 n refl (unless 40 n refl (λ never. absurd never)) why
refused_by_no_file r (Unstage path) n why = absurd why
refused_by_no_file r (DeleteBranch b) n why = absurd why
refused_by_no_file r StartFetch n why = absurd why
