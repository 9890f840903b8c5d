-- Several refs set at once: what the refs are after it, when it may be done, and what each refusal blames.
use Rattle.std.specs.Prelude.{◌≡◌, ◌⊎◌, ⊤, ℕ, true, false, bytes_eq, List, [], ◌∷◌, ◌++◌, map, take, drop, length, Option, Some, None, is_some, if◌then◌else◌, Result, IfErr, IsErrOf, OnErr, OnOk, string_bytes}
use Rattle.std.specs.List.{All}
use Rattle.std.specs.FinMap.{insert}
use Rattle.std.specs.FinMap as files
use Rattle.vc_files.specs.FileMap.{FileMap}
use Rattle.vc_files.specs.declared.faults.Fault.TheVariants.{Device}
use Rattle.vc_refs.specs.Head.{KeepsOutside}
use Rattle.vc_refs.specs.Obstacle.{IsFirstInTheWay, IsFree}
use Rattle.vc_refs.specs.Packed.{PackedMap, PackedRef, packed_refs, packed_text}
use Rattle.vc_refs.specs.Packing.{is_one_of, AreGone, LosesSome}
use Rattle.vc_refs.specs.RefFault.{BlamesPacked, IsFault, IsStale, MayWriteRef}
use Rattle.vc_refs.specs.RefMap.{RefMap, IsInRefs, IsRefMap, conflicts}
use Rattle.vc_refs.specs.Refs.{packed_path, refs, IsBadLoose, IsGoodPackedFile}
use Rattle.vc_refs.specs.declared.changes.RefChange.{RefChange}
use Rattle.vc_refs.specs.declared.changes.SetAllFault.{SetAllFault}
use Rattle.vc_refs.specs.declared.changes.SetAllFault.TheVariants.{At, Whole}
use Rattle.vc_refs.specs.declared.faults.RefFault.{RefFault}
use Rattle.vc_refs.specs.declared.faults.RefFault.TheVariants.{Stale, Conflict, BadRefFile, HeadLoop, Fault}

-- the names of these changes, in their order
abbrev pub names_of : List RefChange → List (List ℕ)
names_of changes = map (λ (change : RefChange). change.name) changes

-- each name is in `refs/`
abbrev pub AreNamedInRefs : List RefChange → Type 0
AreNamedInRefs changes = All (λ (change : RefChange). IsInRefs change.name) changes

-- ---- the refs after it

-- the refs, with this one as the change says
unfoldable pub with_change : RefMap → RefChange → RefMap
with_change refs change q = if bytes_eq q change.name then change.new else refs q

-- with all of them, one after the other
abbrev pub with_changes : RefMap → List RefChange → RefMap
with_changes refs [] = refs
with_changes refs (change ∷ changes) = with_changes (with_change refs change) changes

-- ---- when it may be done

-- the first of these names, in their order, that no map may have beside this one
abbrev pub first_conflicting : List RefChange → List ℕ → Option (List ℕ)
first_conflicting [] name = None
first_conflicting (change ∷ changes) name = if conflicts change.name name then Some change.name else first_conflicting changes name

-- a change may be made after these: its ref might be set by itself, and no map is kept from having its name beside theirs
pub record MayChange (content : FileMap) (earlier : List RefChange) (change : RefChange) : Type 0 where
  pub alone : MayWriteRef content change.name change.expected
  pub apart : first_conflicting earlier change.name ≡ None

-- each of these may, after those and the ones before it
abbrev pub MayChangeAfter : FileMap → List RefChange → List RefChange → Type 0
MayChangeAfter content earlier [] = Unit {0}
MayChangeAfter content earlier (change ∷ changes) = MayChange content earlier change × MayChangeAfter content (earlier ++ change ∷ []) changes

-- all may be made at once: the packed file can be read, and each may after those before it
pub record MayChangeAll (content : FileMap) (changes : List RefChange) : Type 0 where
  pub packed : IsGoodPackedFile content
  pub each : MayChangeAfter content [] changes

-- ---- what a refusal blames

-- One change is refused, after these: first for the first ref in its way, then for the first change before it whose name is, then for
-- its ref's own file, and then for the ref's value. Each is judged over the refs as they are before the first change.
abbrev pub BlamesChange : FileMap → List RefChange → RefChange → RefFault → Type 0
BlamesChange content earlier change (Stale current) = IsFree content change.name × (first_conflicting earlier change.name ≡ None) × IsStale content change.name change.expected current
BlamesChange content earlier change (Conflict other) =
    (IsGoodPackedFile content × IsFirstInTheWay content change.name other × (is_some (refs content other) ≡ true))
    ⊎ (IsFree content change.name × (first_conflicting earlier change.name ≡ Some other))
BlamesChange content earlier change (BadRefFile path) =
    IsGoodPackedFile content × IsBadLoose content (string_bytes path)
    × (IsFirstInTheWay content change.name (string_bytes path) ⊎ ((string_bytes path ≡ change.name) × IsFree content change.name × (first_conflicting earlier change.name ≡ None)))
BlamesChange content earlier change HeadLoop = ⊥
BlamesChange content earlier change (Fault fault) = ⊤

-- what a refusal of one change is to all of them, if it has this place
abbrev pub placed : ℕ → RefFault → SetAllFault
placed place (Stale current) = At place (Stale current)
placed place (Conflict other) = At place (Conflict other)
placed place (BadRefFile path) = At place (BadRefFile path)
placed place HeadLoop = At place HeadLoop
placed place (Fault fault) = Whole (Fault fault)

-- the change that comes after these is refused, with its place
abbrev pub BlamesNext : FileMap → List RefChange → RefChange → SetAllFault → Type 0
BlamesNext content earlier change (At place e) = (place ≡ length earlier) × BlamesChange content earlier change e × (IsFault e → ⊥)
BlamesNext content earlier change (Whole e) = IsFault e

-- the change at this place is refused, and none before it
pub record IsRefusedAt (content : FileMap) (changes : List RefChange) (place : ℕ) (e : RefFault) : Type 0 where
  pub packed : IsGoodPackedFile content
  pub change : RefChange
  pub later : List RefChange
  pub here : drop place changes ≡ change ∷ later
  pub before : MayChangeAfter content [] (take place changes)
  pub blames : BlamesChange content (take place changes) change e
  pub refusal : IsFault e → ⊥

-- the packed file comes first, and then the first change that can't be made
abbrev pub BlamesSetAll : FileMap → List RefChange → SetAllFault → Type 0
BlamesSetAll content changes (At place e) = IsRefusedAt content changes place e
BlamesSetAll content changes (Whole e) = BlamesPacked content e

-- want of memory, or a device that failed
abbrev pub IsFaultOfAll : SetAllFault → Type 0
IsFaultOfAll (At place e) = ⊥
IsFaultOfAll (Whole e) = IsFault e

-- it answers by the device's fault
abbrev pub TellsDeviceOfAll : {T : Type 0} → Result T SetAllFault → Type 0
TellsDeviceOfAll result = IsErrOf result (Whole (Fault Device))

-- ---- what it does to the files

-- each file but those of these refs and the packed one is as before, and so is all that lies outside `refs/`, and HEAD; no file is bad
-- that wasn't
pub record KeepsAllBut (changes : List RefChange) (old new : FileMap) : Type 0 where
  pub only : (path : List ℕ) → is_one_of path (names_of changes) ≡ false → bytes_eq path packed_path ≡ false → files.get new path ≡ files.get old path
  pub outside : KeepsOutside old new

-- Several refs are set at once: all of them have their new values then, and each other ref the one that it had. At any error, and so
-- wherever it stops, each ref is as before; a refusal changes no file, and a fault may leave the values of the named refs packed.
pub record SetsAll {F : Type 0} (honest : Type 0) (content : F → FileMap) (changes : List RefChange) (old new : F) (result : Result (Unit {0}) SetAllFault) : Type 0 where
  pub set : honest → OnOk result (refs (content new) ≡ with_changes (refs (content old)) changes)
  pub kept : honest → IsRefMap (refs (content old)) → IsRefMap (refs (content new))
  pub rest : honest → KeepsAllBut changes (content old) (content new)
  pub err : honest → OnErr result (refs (content new) ≡ refs (content old))
  pub unchanged : honest → IfErr result (λ e. IsFaultOfAll e ⊎ (content new ≡ content old))

-- ---- the named refs that have files of their own are packed first

-- the names of these refs
abbrev pub names_in : List PackedRef → List (List ℕ)
names_in refs = map (λ (ref : PackedRef). ref.0) refs

-- the packed file is written for this map, which it is read as, and then own files of these refs go, as far as it comes
pub record PacksSome (loose : List PackedRef) (present : PackedMap) (old new : FileMap) : Type 0 where
  pub read : IsRefMap (files.get present) → packed_refs (packed_text present) ≡ Some present
  pub lost : LosesSome (names_in loose) (insert old packed_path (packed_text present)) new

-- so far, or nothing was done
abbrev pub MayPackSome : List PackedRef → PackedMap → FileMap → FileMap → Type 0
MayPackSome loose present old new = (new ≡ old) ⊎ PacksSome loose present old new

-- to the end: if none has a file of its own, nothing is done
abbrev pub PacksThem : List PackedRef → PackedMap → FileMap → FileMap → Type 0
PacksThem loose present old new = ((loose ≡ []) × (new ≡ old)) ⊎ (PacksSome loose present old new × AreGone (names_in loose) new)
