-- What a call of the shared node spends of the writes left before a stop, as the machine says it.
use Rattle.std.specs.Prelude.{◌≡◌, ◌≢◌, ◌⊎◌, ℕ, Bool, true, IsTrue, List, None, Option}
use Rattle.vc_files.specs.FileMap.{FileMap}
use Rattle.vc_files.specs.Failures.{DifferAtMost, Wears, Writes}
use Rattle.vc_model.specs.ExactWorld.{MayShared, TogetherAt}
use Rattle.vc_model.specs.Fuse.{Burns, WritesSuffice}
use Rattle.vc_model.specs.Message.{Message}
use Rattle.vc_model.specs.Node.{Answer}
use Rattle.vc_model.specs.Node.Answer.{Fault}
use Rattle.vc_model.specs.Node.Failure.{Device}
use Rattle.vc_model.specs.Repository.{IsBare, IsSound, Repository}
use Rattle.vc_model.specs.Shared.{SharedNode}
use Rattle.vc_model.specs.SharedCall.{SharedAnswers, SharedCall}
use Rattle.vc_model.specs.SharedCall.SharedCall.{Open, StepOf}
use Rattle.vc_local.specs.Clean.{KeepsClean}
use Rattle.vc_local.specs.Machine.{Spells}
use Rattle.vc_local.specs.Shown.{shown}
use Rattle.vc_values.proofs.GitLaws.{git_rules}
use Rattle.vc_rules.specs.Git.{git}
use Rattle.vc_rules.specs.Stops.{IsCalm}
use Rattle.vc_push_rules.specs.Session.{SessionText}
use Rattle.vc_shared.specs.Calls.{AnswersShared}
use Rattle.vc_shared.specs.Holding.{HoldsShared}
use Rattle.vc_shared.specs.Slots.{slot_of}
use Rattle.vc_shared.specs.Stepping.{LeavesPackedIn, MayWriteIn}

-- One write for each place that changed is enough, or one for all refs if the call sets them together.
abbrev pub IsEnough : FileMap → FileMap → SharedCall → SharedNode → Type 0
IsEnough old new call n = (s : Repository) → Spells (shown new) s → (k : ℕ) → DifferAtMost k old new → WritesSuffice (TogetherAt n call) k n.repository s

-- so it is of a call that leaves each packed ref as it was
abbrev pub CleanSuffices : Type 0
CleanSuffices = (old new : FileMap) (slots : List (Option SessionText)) (is_up : Bool) (call : SharedCall) (n : SharedNode) → HoldsShared old slots is_up n → KeepsClean old new → IsEnough old new call n

-- and of a step, which sets the refs of an atomic push together
abbrev pub StepSuffices : Type 0
StepSuffices = (old new : FileMap) (slots : List (Option SessionText)) (k : ℕ) (n : SharedNode) → HoldsShared old slots true n → LeavesPackedIn old new (slot_of slots k) → IsEnough old new (StepOf k) n

-- A call of a held node, other than its opening, that says what it answers, what it wears and where it only looks, is a step of the
-- machine that ends with the writes left which the machine allows; and a node that is up then is calm.
abbrev pub SharedBurns : {D R : Type 0} → (honest : Type 0) → (D → FileMap) → (D → ℕ) → (D → Type 0) → (D → Option ℕ) → (R → Answer → Option Message → Type 0) → (R → Type 0) → Type 0
SharedBurns {D} {R} honest content failed can_fail left shows tells_device =
    (old new : D) (result : R) (frail : Bool) (call : SharedCall) (slots after : List (Option SessionText)) (was_up is_up : Bool) (n : SharedNode)
    → honest → call ≢ Open
    → IsCalm can_fail frail was_up old
    → Writes honest content failed can_fail left old new (tells_device result)
    → (is_up ≡ true → (was_up ≡ true) × (¬ tells_device result))
    → IsEnough (content old) (content new) call n
    → ((a : Answer) (sends : Option Message) → shows result a sends → a ≡ Fault Device → tells_device result)
    → (IsSound git n.repository → IsBare git n.repository → MayShared git n call ⊎ Wears failed can_fail left old new (tells_device result))
    → AnswersShared call (shows result) (content old) (content new) slots after was_up is_up
    → HoldsShared (content old) slots was_up n
    → (m : SharedNode) × (a : Answer) × (sends : Option Message) × HoldsShared (content new) after is_up m × IsCalm can_fail frail is_up new × shows result a sends
    × (IsSound git n.repository → IsBare git n.repository → SharedAnswers git git_rules n call a m sends
    × Burns frail (left old) (MayShared git n call) (TogetherAt n call) n.repository m.repository a (left new))

-- If a step of the push in a slot may write, the machine's wants to.
abbrev pub StepMayWrite : Type 0
StepMayWrite = (content : FileMap) (slots : List (Option SessionText)) (k : ℕ) (n : SharedNode) → HoldsShared content slots true n → MayWriteIn content (slot_of slots k) → MayShared git n (StepOf k)

-- The same of its opening again, over files whose fuse was taken out: the writes left are not set then.
abbrev pub OpeningBurns : {D R : Type 0} → (honest : Type 0) → (D → FileMap) → (D → ℕ) → (D → Type 0) → (D → Option ℕ) → (R → Answer → Option Message → Type 0) → (R → Type 0) → Type 0
OpeningBurns {D} {R} honest content failed can_fail left shows tells_device =
    (old new : D) (result : R) (frail : Bool) (slots after : List (Option SessionText)) (was_up is_up : Bool) (n : SharedNode)
    → left old ≡ None → (can_fail old → IsTrue frail)
    → Writes honest content failed can_fail left old new (tells_device result)
    → (is_up ≡ true → ¬ tells_device result)
    → ((a : Answer) (sends : Option Message) → shows result a sends → a ≡ Fault Device → tells_device result)
    → AnswersShared Open (shows result) (content old) (content new) slots after was_up is_up
    → HoldsShared (content old) slots was_up n
    → (m : SharedNode) × (a : Answer) × (sends : Option Message) × HoldsShared (content new) after is_up m × IsCalm can_fail frail is_up new × (left new ≡ None) × shows result a sends
    × (IsSound git n.repository → IsBare git n.repository → SharedAnswers git git_rules n Open a m sends
    × Burns frail None (MayShared git n Open) (TogetherAt n Open) n.repository m.repository a (left new))
