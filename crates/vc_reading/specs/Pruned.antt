-- What `prune` prints and removes, and why it may do neither.
use Rattle.std.specs.Prelude.{◌≡◌, ◌⊎◌, ⊤, ℕ, List, [], ◌∷◌, ◌++◌, Option, Some, None, Result, Ok, Err, if◌then◌else◌, codes, decimal}
use Rattle.std.specs.Io.KnownBytes.{Appends, Keeps}
use Rattle.std.specs.List.{flat_map, list_any}
use Rattle.hex.specs.Hex.{encode_lower}
use Rattle.vc_cli.specs.Failure.{IsFault}
use Rattle.vc_cli.specs.Printed.{AppendsFront}
use Rattle.vc_cli.specs.Stores.{IsInUse, OrUnopened}
use Rattle.vc_cli.specs.declared.failure.Failure.{Failure}
use Rattle.vc_cli.specs.declared.failure.Failure.TheVariants.{Fault, Node}
use Rattle.vc_files.specs.FileMap.{FileMap}
use Rattle.vc_model.specs.Clone.{IsReached}
use Rattle.vc_object.specs.Decoding.{StoredObject}
use Rattle.vc_object.specs.Kind.{word}
use Rattle.vc_object.specs.ObjectId.{IsSortedByName, id_eq}
use Rattle.vc_object.specs.declared.id.ObjectId.{ObjectId}
use Rattle.vc_object.specs.declared.kind.Kind.{Kind}
use Rattle.vc_object_map.specs.Store.{objects, stored_names}
use Rattle.vc_pruning.specs.Pruning.{Prunes}
use Rattle.vc_pruning.specs.Roots.{AreNeeded, AreWhole, BlamesPrune, EndsRemoval, IsReadable}
use Rattle.vc_rules.specs.Git.{git}

-- the line of how many objects were removed
abbrev pub pruned_line : ℕ → List ℕ
pruned_line count = codes "pruned " ++ (decimal count ++ 10 ∷ [])

-- the line of an object that would go: its name, a space, its kind and LF
abbrev pub object_line : ObjectId → Kind → List ℕ
object_line id kind = encode_lower id.0 ++ (32 ∷ (word kind ++ 10 ∷ []))

-- the line of the object, if there is one
abbrev pub line_of : ObjectId → Option StoredObject → List ℕ
line_of id None = []
line_of id (Some object) = object_line id object.kind

-- the line of the object with that name, unless it is one of those that are kept
abbrev pub going_line : FileMap → List ObjectId → ObjectId → List ℕ
going_line content kept id = if list_any (id_eq id) kept then [] else line_of id (objects content id)

-- All objects that are there and that no ref, HEAD or file of the index reaches are printed, by name. `Told` says of their lines what
-- became of them: all went out, or a front.
pub record PrintsGoing (content : FileMap) (Told : List ℕ → Type 0) : Type 0 where
  pub kept : List ObjectId
  pub needed : AreNeeded content kept
  pub sorted : IsSortedByName (stored_names content)
  pub text : Told (flat_map (going_line content kept) (stored_names content))

-- why nothing is removed, or not all: what refuses a prune; or want of memory, or what could not be printed
abbrev pub IsOfPrune : FileMap → Failure → Type 0
IsOfPrune content (Node fault) = BlamesPrune content fault
IsOfPrune content (Fault fault) = ⊤
IsOfPrune content _ = ⊥

-- what may end a prune in the midst of its removals
abbrev pub EndsPrune : Failure → Type 0
EndsPrune (Node fault) = EndsRemoval fault
EndsPrune _ = ⊥

-- why a store is not pruned, or not to its end: somebody stands on objects that nothing names yet, it is not opened, or what refuses a
-- prune of its files
abbrev pub RefusesPrune : FileMap → Failure → Type 0
RefusesPrune content e = IsInUse e ⊎ OrUnopened (IsOfPrune content) e

-- so many objects were removed, and their number is printed
abbrev pub PrintsCount : Result ℕ Failure → (before after : Option (List ℕ)) → Type 0
PrintsCount pruned before after = (count : ℕ) × (pruned ≡ Ok count) × Appends before after (pruned_line count)

-- the prune ended with this error, and nothing is printed; or it ended well, and a fault kept that from being told, or told to its end
abbrev pub EndsUntold : Result ℕ Failure → (before after : Option (List ℕ)) → Failure → Type 0
EndsUntold pruned before after e =
    ((pruned ≡ Err e) × Keeps before after) ⊎ ((count : ℕ) × (pruned ≡ Ok count) × IsFault e × AppendsFront before after (pruned_line count))

-- all could be read that says what is needed, the objects are gone that nothing needs, and no other, and their number is printed
pub record PrintsPruned (old new : FileMap) (before after : Option (List ℕ)) : Type 0 where
  pub count : ℕ
  pub prunes : Prunes (IsReached git) old new count
  pub readable : IsReadable old
  pub whole : AreWhole old
  pub text : Appends before after (pruned_line count)

-- what a prune leaves that ends with an error: nothing is printed, and the files are as they were, unless it ended in the midst of its
-- removals; or the objects are gone that nothing needs, and a fault kept that from being told
pub data LeavesPruned (old new : FileMap) (before after : Option (List ℕ)) (e : Failure) : Type 0 where
  unpruned : EndsPrune e ⊎ (new ≡ old) → Keeps before after → LeavesPruned old new before after e
  untold : (count : ℕ) → IsFault e → Prunes (IsReached git) old new count → AppendsFront before after (pruned_line count) → LeavesPruned old new before after e
