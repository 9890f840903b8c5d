-- How the refs of a clone follow those of the shared repository (the refspecs `refs/heads/*:refs/remotes/origin/*` and
-- `refs/tags/*:refs/tags/*` of git-fetch).
-- own: no ref is forced, each name is legal, and nothing is followed to an id of which not all is there.
use Rattle.std.specs.Prelude.{◌≡◌, ◌≢◌, ◌⊎◌, ℕ, Bool, true, false, ◌&&◌, not, List, [], map, take, length, Option, Some, None, is_some, Result, Ok, Err, IfOk, OnErr, Vec, if◌then◌else◌}
use Rattle.std.specs.Global.{Global}
use Rattle.std.specs.List.{AllByRecursion}
use Rattle.vc_object_map.specs.History.{IsAncestor}
use Rattle.vc_history.specs.HistoryFault.{IsMetInEither, IsMetInHistory}
use Rattle.vc_history.specs.Right.{AgreesWith}
use Rattle.vc_history.specs.Stored.{AgreesIn}
use Rattle.vc_history.specs.Whole.{AreWhole as AreHistories}
use Rattle.vc_history.specs.declared.generations.Generations.{Generations}
use Rattle.vc_files.specs.FileMap.{FileMap}
use Rattle.vc_format.specs.Git.{git_is_legal}
use Rattle.vc_object_map.specs.Complete.{IsComplete}
use Rattle.vc_model.specs.Clone.{MovesAny, MovesBranch, Moves}
use Rattle.vc_model.specs.Object.{Format, Id, Lookup, stored}
use Rattle.vc_model.specs.Refs.{RefName, Refs}
use Rattle.vc_model.specs.Repository.{Change, Repository, changed_all}
use Rattle.vc_model.specs.Repository.Change.{RemoveRef, SetHead, SetIndex, SetRefs}
use Rattle.vc_object.specs.ObjectId.{id_eq}
use Rattle.vc_object.specs.ObjectMap.{ObjectMap, parents_in}
use Rattle.vc_object.specs.declared.id.ObjectId.{ObjectId}
use Rattle.vc_refname.specs.RefName.{tracking_name}
use Rattle.vc_refs.specs.RefMap.{RefMap, conflicts, with_ref}
use Rattle.vc_refs.specs.Refs.{refs}
use Rattle.vc_refs.specs.declared.faults.RefFault.{RefFault}
use Rattle.vc_refs.specs.declared.faults.RefFault.TheVariants as of_refs
use Rattle.vc_rules.specs.Git.{git}
use Rattle.vc_rules.specs.OpenPushes.{HoldsContent}
use Rattle.vc_quarantine.specs.Known.{AreWhole}
use Rattle.vc_push_rules.specs.Verdict.{HasHistory, is_branch, is_tag}
use Rattle.vc_quarantine.specs.declared.known.Known.{Known}
use Rattle.vc_object_map.specs.Store.{objects}
use Rattle.vc_object_map.specs.declared.faults.StoreFault.{StoreFault}
use Rattle.vc_tracking.specs.declared.fault.ExchangeFault.{ExchangeFault}
use Rattle.vc_tracking.specs.declared.moving.Followed.{Followed}
use Rattle.vc_tracking.specs.declared.moving.Followed.TheVariants.{All, Branches}

-- ---- one ref
abbrev pub has_tags : Followed → Bool
has_tags All = true
has_tags Branches = false

-- the ref that follows one of this name: the tracking ref of a branch, and a tag itself where tags are followed
abbrev pub follower : Followed → List ℕ → Option (List ℕ)
follower followed name = if is_branch name then Some (tracking_name name) else (if has_tags followed && is_tag name then Some name else None)

-- a ref that is absent takes any value, that of a branch any other one, and a tag stays
abbrev pub is_new : Bool → Option ObjectId → ObjectId → Bool
is_new branch None id = true
is_new branch (Some current) id = branch && not (id_eq current id)

-- the id descends from the value, where there is one
abbrev pub Descends : ObjectMap → Option ObjectId → ObjectId → Type 0
Descends objects None id = Unit {0}
Descends objects (Some current) id = IsAncestor (parents_in objects) current id

-- and is a commit with commits alone along its parent links
abbrev pub IsForward : ObjectMap → Option ObjectId → ObjectId → Type 0
IsForward objects current id = HasHistory objects id × Descends objects current id

-- a ref that follows a branch, or a tag, and has this value may take the id
pub record MayTake (objects : ObjectMap) (branch : Bool) (current : Option ObjectId) (id : ObjectId) : Type 0 where
  pub new : is_new branch current id ≡ true
  pub complete : IsComplete objects id
  pub forward : branch ≡ true → IsForward objects current id

-- the ref `to` follows that of this name to the id, if its own name is free
pub record MayFollow (followed : Followed) (objects : ObjectMap) (refs : RefMap) (name : List ℕ) (id : ObjectId) (to : List ℕ) : Type 0 where
  pub legal : git_is_legal name ≡ true
  pub follows : follower followed name ≡ Some to
  pub takes : MayTake objects (is_branch name) (refs to) id

abbrev pub IsFreeAmong : RefMap → List ℕ → Type 0
IsFreeAmong refs name = (other : List ℕ) → is_some (refs other) ≡ true → conflicts other name ≡ false

abbrev pub MayMove : Followed → FileMap → List ℕ → ObjectId → List ℕ → Type 0
MayMove followed content name id to = MayFollow followed (objects content) (refs content) name id to × IsFreeAmong (refs content) to

-- what is known to be whole is so
abbrev pub AreWholeIn : FileMap → Known → Type 0
AreWholeIn content known = AreWhole (objects content) known

-- and the generations that are known agree with what is stored
pub record IsRight (content : FileMap) (known : Known) (generations : Generations) : Type 0 where
  pub whole : AreWhole (objects content) known
  pub agrees : AgreesIn content generations

-- some ref may move where what is known is right, or this holds
abbrev pub MayMoveOne : Followed → FileMap → Known → Generations → List ℕ → ObjectId → Type 0 → Type 0
MayMoveOne followed content known generations name id IsLook = (IsRight content known generations → (to : List ℕ) × MayMove followed content name id to) ⊎ IsLook

-- a ref moved, and it may where what was known is so; or nothing is changed, and then none may
abbrev pub IsMove : Type 0 → Followed → FileMap → FileMap → List ℕ → ObjectId → Bool → Type 0
IsMove known followed old new name id true = (to : List ℕ) × (known → MayMove followed old name id to) × (refs new ≡ with_ref (refs old) to id)
IsMove known followed old new name id false = (known → (to : List ℕ) → ¬ MayMove followed old name id to) × (new ≡ old)

-- ---- by steps
-- so it is, or so it isn't
abbrev pub IsDecided : Bool → Type 0 → Type 0
IsDecided true P = P
IsDecided false P = ¬ P

-- the same of whether an id is forward, where the generations are right, and the histories are whole of the names that are known
abbrev pub DecidesForward : ObjectMap → Generations → List ObjectId → Option ObjectId → ObjectId → Bool → Type 0
DecidesForward objects generations known current id answer = AgreesWith objects generations → AreHistories objects known → IsDecided answer (IsForward objects current id)

-- the same of whether a ref may take an id
abbrev pub DecidesTake : ObjectMap → Generations → Known → Bool → Option ObjectId → ObjectId → Bool → Type 0
DecidesTake objects generations known branch current id answer = AgreesWith objects generations → AreWhole objects known → IsDecided answer (MayTake objects branch current id)

-- what a walk of a history tells where the generations are right, and what a walk of all that an id reaches, or of its history, tells
abbrev pub IsMetWhereRight : Generations → ObjectMap → (ObjectId → Type 0) → List ObjectId → StoreFault → Type 0
IsMetWhereRight generations objects IsDamaged roots e = AgreesWith objects generations → IsMetInHistory objects IsDamaged roots e

abbrev pub IsMetInEitherWhereRight : Generations → ObjectMap → (ObjectId → Type 0) → List ObjectId → StoreFault → Type 0
IsMetInEitherWhereRight generations objects IsDamaged roots e = AgreesWith objects generations → IsMetInEither objects IsDamaged roots e

-- the ref that may follow, with its value, or none
abbrev pub IsFound : Followed → FileMap → List ℕ → ObjectId → Option (List ℕ × Option ObjectId) → Type 0
IsFound followed content name id None = (to : List ℕ) → ¬ MayFollow followed (objects content) (refs content) name id to
IsFound followed content name id (Some found) = MayFollow followed (objects content) (refs content) name id found.0

-- another ref in the way is no refusal
abbrev pub passed_over : RefFault → Result Bool RefFault
passed_over (of_refs.Conflict other) = Ok false
passed_over (of_refs.Stale current) = Err (of_refs.Stale current)
passed_over (of_refs.BadRefFile path) = Err (of_refs.BadRefFile path)
passed_over of_refs.HeadLoop = Err of_refs.HeadLoop
passed_over (of_refs.Fault fault) = Err (of_refs.Fault fault)

-- the ref is set, or another is in its way and nothing is changed
abbrev pub IsSetWhereFree : FileMap → FileMap → List ℕ → ObjectId → Bool → Type 0
IsSetWhereFree old new to id true = IsFreeAmong (refs old) to × (refs new ≡ with_ref (refs old) to id)
IsSetWhereFree old new to id false = (¬ IsFreeAmong (refs old) to) × (new ≡ old)

-- ---- all of them, as the machine has it
-- a name and its id, as they are told
abbrev pub Told : Type 0
Told = List ℕ × ObjectId

abbrev pub told_in : List (Vec ℕ Global × ObjectId) → List Told
told_in told = map (λ r. (r.0.items, r.1)) told

abbrev pub machine_refs : List Told → List (RefName × Id)
machine_refs told = map (λ r. (r.0, r.1.0)) told

abbrev pub rule_of : Followed → Format → Lookup → Refs → RefName → Id → RefName → Type 0
rule_of All fmt at = MovesAny fmt at
rule_of Branches fmt at = MovesBranch fmt at

abbrev pub MovesBy : Followed → Repository → List Told → List Change → Type 0
MovesBy followed r told changes = Moves (rule_of followed git (stored r.objects)) r.refs (machine_refs told) changes

-- a change of refs that sets values alone
abbrev pub SetsRefs : Change → Type 0
SetsRefs (SetRefs rs) = Unit {0}
SetsRefs (RemoveRef n) = ⊥
SetsRefs (SetHead h) = ⊥
SetsRefs (SetIndex i) = ⊥

-- So many refs moved, and nothing else is changed; where what was known is so, the refs of the repository follow what is told.
pub record AreMoved (known : Type 0) (followed : Followed) (told : List Told) (r : Repository) (new : FileMap) (moved : ℕ) : Type 0 where
  pub changes : List Change
  pub set : AllByRecursion SetsRefs changes
  pub moves : known → MovesBy followed r told changes
  pub content : HoldsContent new (changed_all changes r)
  pub counted : moved ≡ length changes

-- some first changes are done
pub record AreFrontMoved (known : Type 0) (followed : Followed) (told : List Told) (r : Repository) (new : FileMap) : Type 0 where
  pub changes : List Change
  pub done : ℕ
  pub set : AllByRecursion SetsRefs changes
  pub moves : known → MovesBy followed r told changes
  pub content : HoldsContent new (changed_all (take done changes) r)

-- some ref moves
abbrev pub MovesSome : Followed → List Told → Repository → Type 0
MovesSome followed told r = (changes : List Change) × MovesBy followed r told changes × (changes ≢ [])

-- ---- of each repository that the files hold, where what is known is right
-- the refs moved that follow what is told
abbrev pub MovesTold : Followed → FileMap → FileMap → Known → Generations → List Told → Result ℕ ExchangeFault → Type 0
MovesTold followed old new known generations told result = (r : Repository) → HoldsContent old r → IfOk result (AreMoved (IsRight old known generations) followed told r new)

-- an error leaves some first of them moved
abbrev pub MovesFront : {T : Type 0} → Followed → FileMap → FileMap → Known → Generations → List Told → Result T ExchangeFault → Type 0
MovesFront followed old new known generations told result = (r : Repository) → HoldsContent old r → OnErr result (AreFrontMoved (IsRight old known generations) followed told r new)

-- some ref moves, or this holds
abbrev pub MayMoveTold : Followed → FileMap → Known → Generations → List Told → Type 0 → Type 0
MayMoveTold followed old known generations told IsLook = (r : Repository) → HoldsContent old r → (IsRight old known generations → MovesSome followed told r) ⊎ IsLook
