-- What a clone is told to do in a world, where objects are given by expressions, and the call that this comes to.
use Rattle.std.specs.Prelude.{◌≡◌, ℕ, Bool, List, [], ◌∷◌, Option, Some, None, Result, Ok, Err, ◌⊎◌}
use Rattle.vc_model.specs.Object.{Id, Object, Format}
use Rattle.vc_model.specs.Refs.{RefName}
use Rattle.vc_model.specs.Refs.Head.{OnBranch, Detached}
use Rattle.vc_model.specs.Repository.{Repository}
use Rattle.vc_model.specs.Clone.{PushItem, Task}
use Rattle.vc_model.specs.Clone.Task.{Write, Stage, Unstage, LoadTree, MakeCommit, SetBranch, DeleteBranch, MoveHead, StartFetch, StartPush}
use Rattle.vc_model.specs.Rules.{Rules}
use Rattle.vc_model.specs.Question.Question.{Unresolved}
use Rattle.vc_model.specs.CloneCall.{CloneCall}
use Rattle.vc_model.specs.CloneCall.CloneCall.{Command, Asks}

abbrev pub Expression : Type 0
Expression = List ℕ

-- nothing for `value` asks to delete
pub record NamedItem : Type 0 where
  pub value : Option Expression
  pub name : RefName

pub data Order : Type 0 where
  StoreObject : Object → Order
  StageFile : (path : List ℕ) (mode : ℕ) (content : List ℕ) → Order
  UnstageFile : (path : List ℕ) → Order
  CommitIndex : (extra_parents : List Expression) (author committer message : List ℕ) → Order
  BranchAt : RefName → Expression → Order
  DropBranch : RefName → Order
  HeadOn : RefName → Order
  HeadAt : Expression → Order
  LoadIndex : Expression → Order
  Fetch : Order
  PushItems : (atomic : Bool) → List NamedItem → Order

-- the first of them and the others, or the number that refuses the others
abbrev pub with_first : {X : Type 0} → X → Result (List X) ℕ → Result (List X) ℕ
with_first x (Ok xs) = Ok (x ∷ xs)
with_first x (Err n) = Err n

abbrev pub task_by : {X : Type 0} → (X → Task) → Result X ℕ → Result Task ℕ
task_by f (Ok x) = Ok (f x)
task_by f (Err n) = Err n

-- The values of the expressions, or the number that refuses the first that has none.
abbrev pub AreValues : (fmt : Format) → Rules fmt → Repository → List Expression → Result (List Id) ℕ → Type 0
AreValues fmt rules r [] v = v ≡ Ok []
AreValues fmt rules r (e ∷ es) v =
    ((n : ℕ) × rules.denotes r e (Err n) × (v ≡ Err n))
    ⊎ ((x : Id) × (w : Result (List Id) ℕ) × rules.denotes r e (Ok x) × AreValues fmt rules r es w × (v ≡ with_first x w))

abbrev pub AreItems : (fmt : Format) → Rules fmt → Repository → List NamedItem → Result (List PushItem) ℕ → Type 0
AreItems fmt rules r [] v = v ≡ Ok []
AreItems fmt rules r (i ∷ is) v =
    ((i.value ≡ None) × ((w : Result (List PushItem) ℕ) × AreItems fmt rules r is w × (v ≡ with_first (record { id = None; name = i.name }) w)))
    ⊎ ((e : Expression) × (i.value ≡ Some e)
    × (((n : ℕ) × rules.denotes r e (Err n) × (v ≡ Err n))
    ⊎ ((x : Id) × (w : Result (List PushItem) ℕ) × rules.denotes r e (Ok x) × AreItems fmt rules r is w × (v ≡ with_first (record { id = Some x; name = i.name }) w))))

-- The local command that the order is, or the number that refuses one of its expressions.
abbrev pub IsTaskOf : (fmt : Format) → Rules fmt → Repository → Order → Result Task ℕ → Type 0
IsTaskOf fmt rules r (StoreObject o) v = v ≡ Ok (Write o)
IsTaskOf fmt rules r (StageFile path mode content) v = v ≡ Ok (Stage path mode content)
IsTaskOf fmt rules r (UnstageFile path) v = v ≡ Ok (Unstage path)
IsTaskOf fmt rules r (CommitIndex es author committer message) v =
    (w : Result (List Id) ℕ) × AreValues fmt rules r es w × (v ≡ task_by (λ (xs : List Id). MakeCommit xs author committer message) w)
IsTaskOf fmt rules r (BranchAt b e) v = (w : Result Id ℕ) × rules.denotes r e w × (v ≡ task_by (SetBranch b) w)
IsTaskOf fmt rules r (DropBranch b) v = v ≡ Ok (DeleteBranch b)
IsTaskOf fmt rules r (HeadOn b) v = v ≡ Ok (MoveHead (OnBranch b))
IsTaskOf fmt rules r (HeadAt e) v = (w : Result Id ℕ) × rules.denotes r e w × (v ≡ task_by (λ (x : Id). MoveHead (Detached x)) w)
IsTaskOf fmt rules r (LoadIndex e) v = (w : Result Id ℕ) × rules.denotes r e w × (v ≡ task_by LoadTree w)
IsTaskOf fmt rules r Fetch v = v ≡ Ok StartFetch
IsTaskOf fmt rules r (PushItems atomic is) v = (w : Result (List PushItem) ℕ) × AreItems fmt rules r is w × (v ≡ task_by (StartPush atomic) w)

abbrev pub call_of : Result Task ℕ → CloneCall
call_of (Ok t) = Command t
call_of (Err n) = Asks (Unresolved n)
