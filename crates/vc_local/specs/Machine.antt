-- How a node of the machine stands in what files show, and what the machine answers, at Git's objects.
use Rattle.std.specs.Prelude.{◌≡◌, ◌⊎◌, ℕ, Bool, true, false, List, Option, Some, None, Result, Ok, Err, option_map, string_bytes, IsErrAnd, not}
use Rattle.std.specs.FinMap.{get}
use Rattle.vc_files.specs.FileMap.{FileMap}
use Rattle.vc_files.specs.declared.faults.Fault.{Fault as FilesFault}
use Rattle.vc_files.specs.declared.faults.Fault.TheVariants as files
use Rattle.vc_format.specs.Git.{id_of_bytes}
use Rattle.vc_index.specs.IndexMap.{IndexMap, IsIndex}
use Rattle.vc_index.specs.IndexText.{index_text}
use Rattle.vc_model.specs.Object.{Id}
use Rattle.vc_model.specs.Refs.{RefName, Head}
use Rattle.vc_model.specs.Refs.Head.{OnBranch, Detached}
use Rattle.vc_model.specs.Repository.{IsSound, Repository, Done, StopsWithin}
use Rattle.vc_model.specs.Node.{Answer, Failure, Deed}
use Rattle.vc_model.specs.Node.Answer.{Did, Declined, Fault}
use Rattle.vc_model.specs.Node.Failure.{Memory, Device}
use Rattle.vc_model.specs.Node.Reply.{Stored, Made}
use Rattle.vc_model.specs.Clone.{Awaited, CloneNode, Task}
use Rattle.vc_model.specs.CloneCall.{CloneAnswers, Obeys, Refuses}
use Rattle.vc_model.specs.CloneCall.CloneCall.{Command}
use Rattle.vc_model.specs.ExactWorld.{MayClone}
use Rattle.vc_rules.specs.Git.{git, stored_of}
use Rattle.vc_values.specs.Trees.{machine_entry}
use Rattle.vc_values.specs.Faults.{object_number}
use Rattle.vc_values.proofs.GitLaws.{git_rules}
use Rattle.vc_object.specs.declared.id.ObjectId.{ObjectId}
use Rattle.vc_refs.specs.Refs.{IsBadRef}
use Rattle.vc_refs.specs.declared.faults.RefFault.{RefFault}
use Rattle.vc_refs.specs.declared.faults.RefFault.TheVariants as ref
use Rattle.vc_refs.specs.declared.heads.Head.{Head as RefsHead}
use Rattle.vc_refs.specs.declared.heads.Head.TheVariants as heads
use Rattle.vc_object_map.specs.Store.{IsDamaged}
use Rattle.vc_object_map.specs.declared.faults.StoreFault.{StoreFault}
use Rattle.vc_object_map.specs.declared.faults.StoreFault.TheVariants as store
use Rattle.vc_local.specs.Clean.{IsClean}
use Rattle.vc_local.specs.NodeFault.{takes_down}
use Rattle.vc_local.specs.Shown.{Shown, shown}
use Rattle.vc_local.specs.declared.fault.NodeFault.{NodeFault}
use Rattle.vc_local.specs.declared.fault.NodeFault.TheVariants.{Store, Ref, Missing, NotACommit, BadPath, PathConflict, BadIndex, WrongEntry, Down}

-- a HEAD, as the machine has it
abbrev pub machine_head : RefsHead → Head
machine_head (heads.Branch name) = OnBranch name
machine_head (heads.Id id) = Detached id.0

-- What is shown is this repository: its objects by name, its refs, its HEAD, and the text of its index.
pub record Spells (s : Shown) (r : Repository) : Type 0 where
  pub objects : (x : Id) → s.objects (id_of_bytes x) ≡ option_map stored_of (get r.objects x)
  pub refs : (n : RefName) → s.refs n ≡ option_map id_of_bytes (get r.refs n)
  pub head : RefsHead
  pub head_shown : s.head ≡ Some head
  pub head_is : r.head ≡ machine_head head
  pub map : IndexMap
  pub map_sound : IsIndex map
  pub map_shown : s.index ≡ index_text map
  pub index : (p : List ℕ) → get r.index p ≡ option_map machine_entry (get map p)

-- a node that awaits this, or one that is down
abbrev pub live_of : Bool → Awaited → Option Awaited
live_of true awaited = Some awaited
live_of false awaited = None

-- The node of the machine that is shown, which awaits this while it is up.
pub record ShowsNode (s : Shown) (is_up : Bool) (awaited : Awaited) (n : CloneNode) : Type 0 where
  pub spells : Spells s n.repository
  pub live : n.live ≡ live_of is_up awaited

-- The node of the machine that a node holds: it is shown, and by clean files.
pub record HoldsNode (content : FileMap) (is_up : Bool) (awaited : Awaited) (n : CloneNode) : Type 0 where
  pub shows : ShowsNode (shown content) is_up awaited n
  pub clean : IsClean content

abbrev pub failure_of : FilesFault → Failure
failure_of files.Memory = Memory
failure_of files.Device = Device

abbrev pub store_answer : StoreFault → Answer
store_answer (store.BadObject e) = Declined (object_number e)
store_answer (store.Absent id) = Declined 11
store_answer (store.Damaged id) = Declined 12
store_answer (store.Fault f) = Fault (failure_of f)

abbrev pub ref_answer : RefFault → Answer
ref_answer (ref.Stale current) = Declined 31
ref_answer (ref.Conflict other) = Declined 32
ref_answer (ref.BadRefFile path) = Declined 33
ref_answer ref.HeadLoop = Declined 34
ref_answer (ref.Fault f) = Fault (failure_of f)

abbrev pub fault_answer : NodeFault → Answer
fault_answer (Store e) = store_answer e
fault_answer (Ref e) = ref_answer e
fault_answer (Missing id) = Declined 40
fault_answer (NotACommit id) = Declined 41
fault_answer BadPath = Declined 60
fault_answer PathConflict = Declined 61
fault_answer (BadIndex place) = Declined 62
fault_answer (WrongEntry at) = Declined 63
fault_answer Down = Declined 112

-- the machine's answer, where the call makes an object or only changes what is stored
abbrev pub made_answer : Result ObjectId NodeFault → Answer
made_answer (Ok id) = Did (Made id.0)
made_answer (Err e) = fault_answer e

abbrev pub done_answer : Result (Unit {0}) NodeFault → Answer
done_answer (Ok u) = Did Stored
done_answer (Err e) = fault_answer e

-- the refusal is for a damaged file of an object, or for one of the refs that can't be read
abbrev pub IsBadStored : FileMap → StoreFault → Type 0
IsBadStored content (store.Damaged id) = IsDamaged content id
IsBadStored content _ = ⊥

abbrev pub IsBadRefFile : FileMap → RefFault → Type 0
IsBadRefFile content (ref.BadRefFile path) = IsBadRef content (string_bytes path)
IsBadRefFile content _ = ⊥

abbrev pub IsBadFile : FileMap → NodeFault → Type 0
IsBadFile content (Store e) = IsBadStored content e
IsBadFile content (Ref e) = IsBadRefFile content e
IsBadFile content _ = ⊥

-- The machine goes from r to this repository by its answer to the command. What it awaits stays.
abbrev pub Goes : Awaited → Repository → Task → Answer → Repository → Type 0
Goes awaited r task (Did y) after = (d : Deed Awaited) × Obeys git git_rules r awaited task d × Done r d.effect after × (d.left ≡ awaited) × (d.sends ≡ None) × (y ≡ d.reply)
Goes awaited r task (Declined n) after = Refuses git git_rules r task n × (after ≡ r)
Goes awaited r task (Fault f) after = ((d : Deed Awaited) × Obeys git git_rules r awaited task d × StopsWithin r d.effect after × (d.sends ≡ None)) ⊎ (after ≡ r)

-- Whatever repository was shown and whatever is awaited, the answer is the machine's, and what it goes to is shown then.
pub record Follows (task : Task) (a : Answer) (old new : Shown) : Type 0 where
  pub goes : (awaited : Awaited) (r : Repository) → Spells old r → (after : Repository) × Spells new after × Goes awaited r task a after

-- Whatever repository was shown and whatever is awaited, some repository is shown then; where this held, the answer and what it
-- goes to are the machine's.
pub record FollowsIf (Held : Type 0) (task : Task) (a : Answer) (old new : Shown) : Type 0 where
  pub goes : (awaited : Awaited) (r : Repository) → Spells old r → (after : Repository) × Spells new after × (Held → Goes awaited r task a after)

-- Whatever node was shown, and whatever it awaits, the answer is one of the machine's to the command, and the node it leads to is
-- shown then.
pub record AnswersShown (task : Task) (a : Answer) (was_up is_up : Bool) (old new : Shown) : Type 0 where
  pub each : (awaited : Awaited) (n : CloneNode) → ShowsNode old was_up awaited n
      → (m : CloneNode) × ShowsNode new is_up awaited m × CloneAnswers git git_rules n (Command task) a m None

-- The same of a node that was held.
pub record Answers (task : Task) (a : Answer) (was_up is_up : Bool) (old new : FileMap) : Type 0 where
  pub each : (awaited : Awaited) (n : CloneNode) → HoldsNode old was_up awaited n
      → (m : CloneNode) × HoldsNode new is_up awaited m × CloneAnswers git git_rules n (Command task) a m None

-- Of a command that takes it that all is there that refs reach: whatever node was shown, some node is shown then; where the node
-- was sound, the answer and that node are the machine's.
pub record AnswersShownIfSound (task : Task) (a : Answer) (was_up is_up : Bool) (old new : Shown) : Type 0 where
  pub each : (awaited : Awaited) (n : CloneNode) → ShowsNode old was_up awaited n
      → (m : CloneNode) × ShowsNode new is_up awaited m × (IsSound git n.repository → CloneAnswers git git_rules n (Command task) a m None)

-- The same of a node that was held.
pub record AnswersIfSound (task : Task) (a : Answer) (was_up is_up : Bool) (old new : FileMap) : Type 0 where
  pub each : (awaited : Awaited) (n : CloneNode) → HoldsNode old was_up awaited n
      → (m : CloneNode) × HoldsNode new is_up awaited m × (IsSound git n.repository → CloneAnswers git git_rules n (Command task) a m None)

-- Whatever node was held, and whatever it awaits: the machine's command may write, or this holds.
abbrev pub MayWriteOr : Task → Bool → FileMap → Type 0 → Type 0
MayWriteOr task was_up old IsLook = (awaited : Awaited) (n : CloneNode) → HoldsNode old was_up awaited n → MayClone git git_rules n (Command task) ⊎ IsLook

-- The same where the node was sound.
abbrev pub MayWriteIfSoundOr : Task → Bool → FileMap → Type 0 → Type 0
MayWriteIfSoundOr task was_up old IsLook =
    (awaited : Awaited) (n : CloneNode) → HoldsNode old was_up awaited n → (IsSound git n.repository → MayClone git git_rules n (Command task)) ⊎ IsLook

-- Either a file that is none of the layers' own is told, or this holds.
abbrev pub OrBadFile : {T : Type 0} → FileMap → Result T NodeFault → Type 0 → Type 0
OrBadFile content result P = IsErrAnd result (IsBadFile content) ⊎ P

-- whether a node is up after a call: a fault takes it down, and so does a file of its own that is damaged or gone
abbrev pub up_after : {T : Type 0} → Result T NodeFault → Bool
up_after (Ok x) = true
up_after (Err e) = not (takes_down e)
