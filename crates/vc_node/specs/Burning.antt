-- What a call spends of the writes left before a stop, as the machine says it.
use Rattle.std.specs.Prelude.{◌≡◌, ◌≢◌, ℕ, Bool, true, IsTrue, Option, None, Result}
use Rattle.vc_files.specs.FileMap.{FileMap}
use Rattle.vc_files.specs.Failures.{DifferAtMost, Wears, Writes}
use Rattle.vc_model.specs.Clone.{Awaited, CloneNode, Task}
use Rattle.vc_model.specs.CloneCall.{CloneAnswers, CloneCall}
use Rattle.vc_model.specs.CloneCall.CloneCall.{Asks, Command, Open}
use Rattle.vc_model.specs.ExactWorld.{MayClone}
use Rattle.vc_model.specs.Fuse.{Burns, WritesSuffice}
use Rattle.vc_model.specs.Message.{Message}
use Rattle.vc_model.specs.Node.{Answer}
use Rattle.vc_model.specs.Node.Answer.{Fault}
use Rattle.vc_model.specs.Node.Failure.{Device}
use Rattle.vc_model.specs.Question.Question.{PackRefs}
use Rattle.vc_model.specs.Refs.{RefName}
use Rattle.vc_model.specs.Repository.{IsSound, Repository}
use Rattle.vc_rules.specs.Git.{git}
use Rattle.vc_rules.specs.Stops.{IsCalm}
use Rattle.vc_values.proofs.GitLaws.{git_rules}
use Rattle.vc_node.specs.Awaited.{AwaitedText, IsAwaited}
use Rattle.vc_local.specs.Clean.{KeepsCleanBut}
use Rattle.vc_node.specs.CloneCalls.{AnswersClone, MayOr}
use Rattle.vc_node.specs.CloneFaults.{TellsDevice as CloneTellsDevice}
use Rattle.vc_local.specs.Machine.{Answers, AnswersIfSound, HoldsNode, MayWriteIfSoundOr, MayWriteOr, Spells}
use Rattle.vc_local.specs.NodeFault.{TellsDevice}
use Rattle.vc_local.specs.Shown.{shown}
use Rattle.vc_local.specs.Told.{RestartedAs}
use Rattle.vc_node.specs.declared.clone_fault.CloneFault.{CloneFault}
use Rattle.vc_local.specs.declared.fault.NodeFault.{NodeFault}

-- A call of a held node that says what it answers, what it wears, which one ref it may take out of the packed file, and where it
-- only looks, is a step of the machine that ends with the writes left which the machine allows: one for each place that changed,
-- none if the command may not write, and a fault of the device only if none was left for a write that it wanted. `frail` says
-- whether the device may fail without a stop.
abbrev pub CallsBurn : {D T : Type 0} → (honest : Type 0) → (D → FileMap) → (D → ℕ) → (D → Type 0) → (D → Option ℕ) → (Result T NodeFault → Answer) → Type 0
CallsBurn {D} {T} honest content failed can_fail left answer_of =
    (old new : D) (result : Result T NodeFault) (frail : Bool) (task : Task) (was_up is_up : Bool) (awaited : Awaited) (n : CloneNode)
    → honest → (can_fail old → IsTrue frail)
    → Writes honest content failed can_fail left old new (TellsDevice result)
    → (name : RefName) → KeepsCleanBut name (content old) (content new)
    → MayWriteOr task was_up (content old) (Wears failed can_fail left old new (TellsDevice result))
    → Answers task (answer_of result) was_up is_up (content old) (content new)
    → HoldsNode (content old) was_up awaited n
    → (m : CloneNode) × HoldsNode (content new) is_up awaited m × CloneAnswers git git_rules n (Command task) (answer_of result) m None
    × Burns frail (left old) (MayClone git git_rules n (Command task)) ⊥ n.repository m.repository (answer_of result) (left new)

-- The same of a command that takes it that all is there that refs reach: some node is held then, the step is the machine's if the
-- node was sound, and only then the command is known to be one that may write.
abbrev pub SoundCallsBurn : {D T : Type 0} → (honest : Type 0) → (D → FileMap) → (D → ℕ) → (D → Type 0) → (D → Option ℕ) → (Result T NodeFault → Answer) → Type 0
SoundCallsBurn {D} {T} honest content failed can_fail left answer_of =
    (old new : D) (result : Result T NodeFault) (frail : Bool) (task : Task) (was_up is_up : Bool) (awaited : Awaited) (n : CloneNode)
    → honest → (can_fail old → IsTrue frail)
    → Writes honest content failed can_fail left old new (TellsDevice result)
    → (name : RefName) → KeepsCleanBut name (content old) (content new)
    → MayWriteIfSoundOr task was_up (content old) (Wears failed can_fail left old new (TellsDevice result))
    → AnswersIfSound task (answer_of result) was_up is_up (content old) (content new)
    → HoldsNode (content old) was_up awaited n
    → (m : CloneNode) × HoldsNode (content new) is_up awaited m × (IsSound git n.repository → CloneAnswers git git_rules n (Command task) (answer_of result) m None)
    × Burns frail (left old) (IsSound git n.repository → MayClone git git_rules n (Command task)) ⊥ n.repository m.repository (answer_of result) (left new)

-- The same of a call that sends or takes messages, or asks for a value: what it awaits then is held too, and the step, and whether it
-- may write, are the machine's if the node was sound. What it spends is one write for each place that changed in any case.
abbrev pub ExchangesBurn : {D T : Type 0} → (honest : Type 0) → (D → FileMap) → (D → ℕ) → (D → Type 0) → (D → Option ℕ) → (Result T CloneFault → Answer → Option Message → Type 0) → Type 0
ExchangesBurn {D} {T} honest content failed can_fail left shows =
    (old new : D) (result : Result T CloneFault) (frail : Bool) (call : CloneCall) (waits after : AwaitedText) (was_up is_up : Bool) (awaited : Awaited) (n : CloneNode)
    → honest → (can_fail old → IsTrue frail)
    → Writes honest content failed can_fail left old new (CloneTellsDevice result)
    → (name : RefName) → KeepsCleanBut name (content old) (content new)
    → MayOr call waits was_up (content old) (Wears failed can_fail left old new (CloneTellsDevice result))
    → AnswersClone call (shows result) (content old) (content new) waits after was_up is_up
    → IsAwaited waits awaited → HoldsNode (content old) was_up awaited n
    → (later : Awaited) × (m : CloneNode) × (a : Answer) × (sends : Option Message) × IsAwaited after later × HoldsNode (content new) is_up later m × shows result a sends
    × (IsSound git n.repository → CloneAnswers git git_rules n call a m sends)
    × Burns frail (left old) (IsSound git n.repository → MayClone git git_rules n call) ⊥ n.repository m.repository a (left new)

-- The same of packing the refs: it writes files, and changes no place of the repository.
abbrev pub PacksBurn : {D : Type 0} → (honest : Type 0) → (D → FileMap) → (D → ℕ) → (D → Type 0) → (D → Option ℕ) → Type 0
PacksBurn {D} honest content failed can_fail left =
    (old new : D) (result : Result (Unit {0}) NodeFault) (frail : Bool) (waits after : AwaitedText) (was_up is_up : Bool) (awaited : Awaited) (n : CloneNode)
    → honest → (can_fail old → IsTrue frail)
    → Writes honest content failed can_fail left old new (TellsDevice result)
    → shown (content new) ≡ shown (content old)
    → MayOr (Asks PackRefs) waits was_up (content old) (Wears failed can_fail left old new (TellsDevice result))
    → AnswersClone (Asks PackRefs) (RestartedAs result) (content old) (content new) waits after was_up is_up
    → IsAwaited waits awaited → HoldsNode (content old) was_up awaited n
    → (later : Awaited) × (m : CloneNode) × (a : Answer) × (sends : Option Message) × IsAwaited after later × HoldsNode (content new) is_up later m × RestartedAs result a sends
    × (IsSound git n.repository → CloneAnswers git git_rules n (Asks PackRefs) a m sends)
    × Burns frail (left old) (IsSound git n.repository → MayClone git git_rules n (Asks PackRefs)) ⊥ n.repository m.repository a (left new)

-- A call of a held clone, other than its opening, that says what it answers, what it wears and where it only looks, is a step of the
-- machine that ends with the writes left which the machine allows; and a clone that is up then is calm.
abbrev pub CloneBurns : {D R : Type 0} → (honest : Type 0) → (D → FileMap) → (D → ℕ) → (D → Type 0) → (D → Option ℕ) → (R → Answer → Option Message → Type 0) → (R → Type 0) → Type 0
CloneBurns {D} {R} honest content failed can_fail left shows tells_device =
    (old new : D) (result : R) (frail : Bool) (call : CloneCall) (waits after : AwaitedText) (was_up is_up : Bool) (awaited : Awaited) (n : CloneNode)
    → honest → call ≢ Open
    → IsCalm can_fail frail was_up old
    → Writes honest content failed can_fail left old new (tells_device result)
    → (is_up ≡ true → (was_up ≡ true) × (¬ tells_device result))
    → ((s : Repository) → Spells (shown (content new)) s → (k : ℕ) → DifferAtMost k (content old) (content new) → WritesSuffice ⊥ k n.repository s)
    → ((a : Answer) (sends : Option Message) → shows result a sends → a ≡ Fault Device → tells_device result)
    → MayOr call waits was_up (content old) (Wears failed can_fail left old new (tells_device result))
    → AnswersClone call (shows result) (content old) (content new) waits after was_up is_up
    → IsAwaited waits awaited → HoldsNode (content old) was_up awaited n
    → (later : Awaited) × (m : CloneNode) × (a : Answer) × (sends : Option Message) × IsAwaited after later × HoldsNode (content new) is_up later m
    × IsCalm can_fail frail is_up new × shows result a sends
    × (IsSound git n.repository → CloneAnswers git git_rules n call a m sends
    × Burns frail (left old) (MayClone git git_rules n call) ⊥ n.repository m.repository a (left new))

-- one write for each place that changed is enough for a call that takes at most this one ref out of the packed file
abbrev pub CloneSuffices : Type 0
CloneSuffices = (name : RefName) (old new : FileMap) (is_up : Bool) (awaited : Awaited) (n : CloneNode) → HoldsNode old is_up awaited n → KeepsCleanBut name old new
    → (s : Repository) → Spells (shown new) s → (k : ℕ) → DifferAtMost k old new → WritesSuffice ⊥ k n.repository s
