-- The life of a served node: it is opened before each turn, with no push open, serves what came to its end, and is closed.
use Rattle.std.specs.Prelude.{◌≡◌, ◌<◌, ◌⊎◌, ℕ, List, [], ◌∷◌, ◌++◌, Some, None}
use Rattle.std.specs.FinMap.{empty}
use Rattle.std.specs.List.{AllByRecursion}
use Rattle.vc_model.specs.Desk.{ExactLog, IsBrought, IsWell, Receipt, node_left}
use Rattle.vc_model.specs.Exact.{shared_event}
use Rattle.vc_model.specs.Exchange.{IsUndone, OpensNone}
use Rattle.vc_model.specs.Message.{HasObject, Message}
use Rattle.vc_model.specs.Node.{Reply}
use Rattle.vc_model.specs.Node.Answer.{Did}
use Rattle.vc_model.specs.Node.Reply.{Opened, Stored}
use Rattle.vc_model.specs.Object.{Format, Object}
use Rattle.vc_model.specs.Question.Question.{Unread}
use Rattle.vc_model.specs.Repository.{IsBare, IsSound, Repository}
use Rattle.vc_model.specs.Rules.{Rules}
use Rattle.vc_model.specs.Shared.{SharedNode, slot_count}
use Rattle.vc_model.specs.SharedCall.{SharedAnswers, SharedCall}
use Rattle.vc_model.specs.SharedCall.SharedCall.{Accept, Asks, Open, StepOf}

-- ---- turns, and the log of their calls

-- a shared node that has just been opened: it is up, and no push is open
abbrev pub opened_shared : Repository → SharedNode
opened_shared r = record { repository = r; live = Some empty }

-- The turns, the newest first: of each the calls that it made, the newest first. There are none if nothing came, or if the node could
-- not be opened.
abbrev pub Life : Type 0
Life = List ExactLog

-- what is stored after these turns
abbrev pub repository_after : Repository → Life → Repository
repository_after start [] = start
repository_after start (t ∷ ts) = (node_left (opened_shared (repository_after start ts)) t).repository

abbrev pub opening : Repository → Receipt
opening r = record { call = Open; answer = Did Stored; sends = None; node = opened_shared r }

-- All calls of these turns as one log, with the opening before each turn.
abbrev pub log_of : Repository → Life → ExactLog
log_of start [] = []
log_of start (t ∷ ts) = t ++ opening (repository_after start ts) ∷ log_of start ts

-- what is stored at this moment of the log
abbrev pub repository_at : Repository → ExactLog → Repository
repository_at start es = (node_left (opened_shared start) es).repository

-- ---- one turn

-- A message, or bytes that are none.
abbrev pub Comes : SharedCall → Type 0
Comes (Accept m) = Unit {0}
Comes (Asks (Unread n)) = Unit {0}
Comes _ = ⊥

-- a step of the push in the slot, which is not the last
pub record GoesOn (slot : ℕ) (e : Receipt) : Type 0 where
  pub call : e.call ≡ StepOf slot
  pub reply : Reply
  pub answer : e.answer ≡ Did reply
  pub silent : e.sends ≡ None

-- a step that is the last: it sends something, or it was not done
pub record IsLastStep (slot : ℕ) (e : Receipt) : Type 0 where
  pub call : e.call ≡ StepOf slot
  pub end : ((m : Message) × (e.sends ≡ Some m)) ⊎ ((e.sends ≡ None) × IsUndone e.answer)

-- The call was served to its end, by these calls before the last: it opened no push, or the push that it opened was stepped to its end.
pub data IsServed (call : SharedCall) (last : Receipt) (before : ExactLog) : Type 0 where
  at_once : before ≡ [] → last.call ≡ call → OpensNone last.answer → IsServed call last before
  stepped : (slot : ℕ) (first : Receipt) (steps : ExactLog) → before ≡ steps ++ first ∷ [] → slot < slot_count → first.call ≡ call → first.answer ≡ Did (Opened slot) → first.sends ≡ None
      → AllByRecursion (GoesOn slot) steps → IsLastStep slot last → IsServed call last before

-- What came was served to its end; or there was nothing to do.
abbrev pub IsTurn : ExactLog → Type 0
IsTurn [] = Unit {0}
IsTurn (last ∷ before) = (call : SharedCall) × Comes call × IsServed call last before

-- ---- the whole

-- The object was stored at the start, or a message brought it.
abbrev pub IsThere : Repository → ExactLog → Object → Type 0
IsThere start [] o = HasObject start.objects o
IsThere start (e ∷ es) o = IsBrought (shared_event e.call) o ⊎ IsThere start es o

-- No two different ones have one name.
abbrev pub AreApart : Format → Repository → ExactLog → Type 0
AreApart fmt start es = (o p : Object) → IsThere start es o → IsThere start es p → fmt.name_of o ≡ fmt.name_of p → o ≡ p

-- Each answer is the machine's, by the node that the calls before it left. What is asked for this was there at the start, or came before.
abbrev pub IsAnsweredAlong : (fmt : Format) → Rules fmt → Repository → ExactLog → Type 0
IsAnsweredAlong fmt rules start [] = Unit {0}
IsAnsweredAlong fmt rules start (e ∷ es) =
    IsWell fmt (shared_event e.call)
    × (IsSound fmt start → IsBare fmt start → AreApart fmt start es → SharedAnswers fmt rules (node_left (opened_shared start) es) e.call e.answer e.node e.sends)
    × IsAnsweredAlong fmt rules start es

-- The turns are a life of the node that is stored so at the start.
pub record IsLife (fmt : Format) (rules : Rules fmt) (start : Repository) (ts : Life) : Type 0 where
  pub turns : AllByRecursion IsTurn ts
  pub answered : IsAnsweredAlong fmt rules start (log_of start ts)
