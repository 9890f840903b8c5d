-- What the commands of a clone tell beside what they do, and why they tell nothing.
use Rattle.std.specs.Prelude.{◌≡◌, ◌⊎◌, ℕ, Bool, true, List, Option, option_map}
use Rattle.std.specs.Io.KnownBytes.{Appends, Keeps}
use Rattle.vc_cli.specs.Failure.{IsFault}
use Rattle.vc_cli.specs.Printed.{AppendsFront, id_line}
use Rattle.vc_cli.specs.Told.{line_behind, old_branch_line}
use Rattle.vc_cli.specs.declared.failure.Failure.{Failure}
use Rattle.vc_committing.specs.Steps.{IsOfDeleting, IsOfSetting, IsOfTree, LeavesTrees, WritesTree}
use Rattle.vc_files.specs.FileMap.{FileMap}
use Rattle.vc_object.specs.declared.id.ObjectId.{ObjectId}

-- ---- trees

-- the files of a store that has this content now were made durable
pub record IsSettled {F : Type 0} (content : F → FileMap) (is_durable : F → Type 0) (new : FileMap) : Type 0 where
  pub files : F
  pub durable : is_durable files
  pub has : content files ≡ new

-- the trees of the index were written and made durable, and the id of the root's was printed
pub record PrintsTree (honest : Type 0) {F : Type 0} (content : F → FileMap) (is_durable : F → Type 0) (old new : FileMap) (before after : Option (List ℕ)) : Type 0 where
  pub id : ObjectId
  pub written : WritesTree honest old new id
  pub settled : IsSettled content is_durable new
  pub text : Appends before after (id_line id)

-- why none is printed: not all were written, and nothing was printed; or they were, and a fault kept them from being durable, and
-- nothing was printed; or they are durable, and it kept the id from being printed whole
pub data IsOfPrintedTree (honest : Type 0) {F : Type 0} (content : F → FileMap) (is_durable : F → Type 0) (old new : FileMap) (before after : Option (List ℕ)) (e : Failure) : Type 0 where
  of_writing : IsOfTree old e → LeavesTrees honest old new → Keeps before after → IsOfPrintedTree honest content is_durable old new before after e
  unsettled : (id : ObjectId) → IsFault e → WritesTree honest old new id → Keeps before after → IsOfPrintedTree honest content is_durable old new before after e
  untold : (id : ObjectId) → IsFault e → WritesTree honest old new id → IsSettled content is_durable new → AppendsFront before after (id_line id) → IsOfPrintedTree honest content is_durable old new before after e

-- ---- branches

-- why a branch isn't set that was looked at before: a fault, and the files are as they were; or what keeps it from being set
abbrev pub IsOfReplacing : FileMap → (name revision : List ℕ) → FileMap → Failure → Type 0
IsOfReplacing old name revision new e = (IsFault e × (new ≡ old)) ⊎ IsOfSetting old name revision new e

-- the same of one that isn't removed
abbrev pub IsOfTaking : List ℕ → FileMap → FileMap → Failure → Type 0
IsOfTaking name old new e = (IsFault e × (new ≡ old)) ⊎ IsOfDeleting name old new e

-- what a person is told, on a terminal: what the branch was, if it was there
abbrev pub told_before : Bool → List ℕ → Option ObjectId → List ℕ
told_before is_terminal name was = line_behind is_terminal (option_map (old_branch_line name) was)

-- a person could not be told
abbrev pub IsUntoldOnTerminal : Bool → Failure → Type 0
IsUntoldOnTerminal is_terminal e = IsFault e × (is_terminal ≡ true)

-- why a change of a branch is not told as done: it was not made, and nothing was told; or it was, and a person could not be told what
-- the branch was
abbrev pub IsOfOldTold : (Failure → Type 0) → Type 0 → (is_terminal : Bool) → (before after : Option (List ℕ)) → Failure → Type 0
IsOfOldTold Cause Done is_terminal before after e = (Cause e × Keeps before after) ⊎ (IsUntoldOnTerminal is_terminal e × Done)
