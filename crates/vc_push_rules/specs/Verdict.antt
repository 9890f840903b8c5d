-- The verdict on a command: the first reason whose cause holds at its moment (git-receive-pack with denyNonFastForwards and
-- denyDeletes).
-- own: the order of the causes, the bound on a branch's name, that a ref is a branch or a tag, and what is asked of tags.
use Rattle.std.specs.Prelude.{◌≡◌, ◌⊎◌, ℕ, Bool, true, false, ◌||◌, nat_eq, List, [], ◌∷◌, codes, is_some, Option, Some, None, if◌then◌else◌}
use Rattle.std.specs.List.{AllByRecursion, starts_with}
use Rattle.vc_object_map.specs.History.{IsAncestor}
use Rattle.vc_format.specs.Git.{git_is_legal}
use Rattle.vc_object_map.specs.Graph.{IsClosed}
use Rattle.vc_object.specs.ObjectId.{id_eq}
use Rattle.vc_object.specs.ObjectMap.{ObjectMap, links_in, parents_in}
use Rattle.vc_object.specs.declared.id.ObjectId.{ObjectId}
use Rattle.vc_push.specs.Push.{CommandText, zero_id}
use Rattle.vc_push.specs.declared.reason.Reason.{Reason}
use Rattle.vc_push.specs.declared.reason.Reason.TheVariants.{BadName, OutsideRefs, DeletionProhibited, MissingObjects, NotACommit, NonFastForward, AlreadyExists, NameConflict, Stale}
use Rattle.vc_refs.specs.RefMap.{RefMap, conflicts, with_ref}

abbrev pub is_branch : List ℕ → Bool
is_branch name = starts_with nat_eq name (codes "refs/heads/")

abbrev pub is_tag : List ℕ → Bool
is_tag name = starts_with nat_eq name (codes "refs/tags/")

-- a branch or a tag
abbrev pub is_inside : List ℕ → Bool
is_inside name = is_branch name || is_tag name

-- x is a commit that is there, with commits alone along its parent links
abbrev pub HasHistory : ObjectMap → ObjectId → Type 0
HasHistory objects x = IsClosed (parents_in objects) x

-- what the check asks of a command, by the reason that is given where it is not so, over the objects of that moment
abbrev pub CheckNeeds : ObjectMap → CommandText → Reason → Type 0
CheckNeeds objects c BadName = git_is_legal c.name ≡ true
CheckNeeds objects c OutsideRefs = is_inside c.name ≡ true
CheckNeeds objects c DeletionProhibited = id_eq c.new zero_id ≡ false
CheckNeeds objects c MissingObjects = IsClosed (links_in objects) c.new
CheckNeeds objects c NotACommit = is_branch c.name ≡ true → HasHistory objects c.new
CheckNeeds objects c NonFastForward = is_branch c.name ≡ true → (id_eq c.old zero_id ≡ true) ⊎ IsAncestor (parents_in objects) c.old c.new
CheckNeeds objects c _ = Unit {0}

-- the value that a ref is to have: none where the old id is zero
abbrev pub expected : ObjectId → Option ObjectId
expected old = if id_eq old zero_id then None else Some old

-- what its update asks of the refs of that moment
abbrev pub UpdateNeeds : RefMap → CommandText → Reason → Type 0
UpdateNeeds refs c AlreadyExists = is_tag c.name ≡ true → refs c.name ≡ None
UpdateNeeds refs c NameConflict = (other : List ℕ) → is_some (refs other) ≡ true → conflicts other c.name ≡ false
UpdateNeeds refs c Stale = refs c.name ≡ expected c.old
UpdateNeeds refs c _ = Unit {0}

-- in the order of judgement
abbrev pub check_reasons : List Reason
check_reasons = BadName ∷ OutsideRefs ∷ DeletionProhibited ∷ MissingObjects ∷ NotACommit ∷ NonFastForward ∷ []

abbrev pub update_reasons : List Reason
update_reasons = AlreadyExists ∷ NameConflict ∷ Stale ∷ []

-- the first that is not so
abbrev pub FirstUnmet : (Reason → Type 0) → List Reason → Reason → Type 0
FirstUnmet needs [] r = ⊥
FirstUnmet needs (q ∷ qs) r = ((¬ needs q) × (r ≡ q)) ⊎ (needs q × FirstUnmet needs qs r)

-- all are so, or this is the first that is not
abbrev pub IsVerdict : (Reason → Type 0) → List Reason → Option Reason → Type 0
IsVerdict needs reasons None = AllByRecursion needs reasons
IsVerdict needs reasons (Some r) = FirstUnmet needs reasons r

-- a command's verdict at the check
abbrev pub IsVerdictAtCheck : ObjectMap → CommandText → Option Reason → Type 0
IsVerdictAtCheck objects c found = IsVerdict (CheckNeeds objects c) check_reasons found

-- and at its update, and the refs then
abbrev pub IsVerdictAtUpdate : RefMap → CommandText → Option Reason → Type 0
IsVerdictAtUpdate refs c found = IsVerdict (UpdateNeeds refs c) update_reasons found

abbrev pub refs_after : RefMap → CommandText → Option Reason → RefMap
refs_after refs c None = with_ref refs c.name c.new
refs_after refs c (Some r) = refs

-- ---- by tests
-- the first reason that the command alone gives
abbrev pub own_reason : CommandText → Option Reason
own_reason c =
    if git_is_legal c.name then
    (if is_inside c.name then (if id_eq c.new zero_id then Some DeletionProhibited else None) else Some OutsideRefs)
    else Some BadName

abbrev pub history_reasons : List Reason
history_reasons = NotACommit ∷ NonFastForward ∷ []

-- what passed may be the name of a ref that is set
pub record MayBeSet (name : List ℕ) : Type 0 where
  pub legal : git_is_legal name ≡ true
  pub inside : is_inside name ≡ true
