-- A server that answers one message after the other: its turns, what its clients were sent, and the life of the node.
use Rattle.std.specs.Prelude.{◌≡◌, ◌^◌, ◌-◌, ⊤, ℕ, Bool, true, IsTrue, List, [], ◌∷◌, ◌++◌, length, Option, Some, None, Result, Ok, Err, IsErrOf}
use Rattle.std.specs.List.{AllByRecursion}
use Rattle.vc_files.specs.FileMap.{FileMap}
use Rattle.vc_files.specs.Failures.{Writes}
use Rattle.vc_files.specs.declared.faults.Fault.{Fault}
use Rattle.vc_files.specs.declared.faults.Fault.TheVariants.{Device}
use Rattle.vc_life.specs.Life.{IsLife, IsServed, Life, repository_after}
use Rattle.vc_local.specs.NodeFault.{is_fault}
use Rattle.vc_local.specs.Opening.{IsOpenable, OpenableAs}
use Rattle.vc_message.specs.Coming.{Came, IsCome, lost, nothing_came}
use Rattle.vc_message.specs.Source.{TellsLoss}
use Rattle.vc_model.specs.Desk.{ExactLog, Receipt}
use Rattle.vc_model.specs.Repository.{Repository}
use Rattle.vc_model.specs.SharedCall.{SharedCall}
use Rattle.vc_rules.specs.Git.{git}
use Rattle.vc_server.specs.Coming.{Reply}
use Rattle.vc_server.specs.Serving.{ServedAs}
use Rattle.vc_server.specs.Telling.{TellsAnswer}
use Rattle.vc_server.specs.Turn.{ends_in_fault}
use Rattle.vc_server.specs.declared.serve_fault.ServeFault.{ServeFault}
use Rattle.vc_server.specs.declared.serve_fault.ServeFault.TheVariants as serve_fault
use Rattle.vc_server.specs.declared.telling.Served.{Served}
use Rattle.vc_shared.specs.Arriving.{IsCallOf}
use Rattle.vc_shared.specs.declared.accept_fault.AcceptFault.TheVariants.{Node as OfNode, ReadFailed}
use Rattle.vc_shared.specs.declared.fault.SharedFault.{SharedFault}
use Rattle.vc_shared.specs.declared.fault.SharedFault.TheVariants.{Node}
use Rattle.vc_values.proofs.GitLaws.{git_rules}
use Rattle.vc_serving.specs.Clients.{Event, Hears}
use Rattle.vc_serving.specs.Clients.Event.{Closes, Ends, Fails, Gives, Takes}
use Rattle.vc_serving.specs.OneTurn.{ServesTurn}
use Rattle.vc_serving.specs.Turns.{going_on}

-- ---- one turn

-- A turn: the message and what is left of it, the writer before and after, how the turn ended and whether what was stored is kept, and
-- the files after it.
pub record Exchange (F R W : Type 0) : Type 0 where
  pub reader : R
  pub rest : R
  pub writer : W
  pub after : W
  pub served : Result Served ServeFault
  pub kept : Result ⊤ Fault
  pub files : F

-- whether the connection goes on, or the fault that ends the server
abbrev pub going_after : Result Served ServeFault → Result ⊤ Fault → Result Bool Fault
going_after served (Ok u) = going_on served
going_after served (Err fault) = Err fault

-- the connection is closed, unless it goes on
abbrev pub closing : {R W : Type 0} → Result Bool Fault → List (Event R W)
closing (Ok true) = []
closing going = Closes ∷ []

-- whether the server goes on
abbrev pub ending : Result Bool Fault → Result ⊤ Fault
ending (Ok goes_on) = Ok tt
ending (Err fault) = Err fault

module _ {F R W : Type 0} where
  abbrev pub going : Exchange F R W → Result Bool Fault
  going x = going_after x.served x.kept

  -- what happened in the turn
  abbrev pub events_in : Exchange F R W → List (Event R W)
  events_in x = closing (going x) ++ Takes x.rest x.after x.served x.kept ∷ Gives x.reader x.writer ∷ []

  abbrev pub events_of : List (Exchange F R W) → List (Event R W)
  events_of [] = []
  events_of (x ∷ xs) = events_in x ++ events_of xs

  abbrev pub files_after : F → List (Exchange F R W) → F
  files_after start [] = start
  files_after start (x ∷ xs) = x.files

  -- the server goes on after it
  abbrev pub GoesOn : Exchange F R W → Type 0
  GoesOn x = ending (going x) ≡ Ok tt

-- as many messages are answered by one server as are counted
abbrev pub most_messages : ℕ
most_messages = 2 ^ 64 - 1

-- How the server ended: no more came, or it isn't known what comes, after turns that all go on; or the last turn ended it; or as many
-- messages were answered as are counted.
pub data HowEnded {F R W : Type 0} (xs : List (Exchange F R W)) (last : List (Event R W)) (result : Result ⊤ Fault) : Type 0 where
  ended : AllByRecursion GoesOn xs → last ≡ Ends ∷ [] → result ≡ Ok tt → HowEnded xs last result
  unknown : (fault : Fault) → AllByRecursion GoesOn xs → last ≡ Fails fault ∷ [] → result ≡ Err fault → HowEnded xs last result
  stopped : (x : Exchange F R W) (before : List (Exchange F R W)) (fault : Fault) → xs ≡ x ∷ before → AllByRecursion GoesOn before → going x ≡ Err fault → last ≡ [] → result ≡ Err fault → HowEnded xs last result
  spent : AllByRecursion GoesOn xs → length xs ≡ most_messages → last ≡ [] → result ≡ Ok tt → HowEnded xs last result

-- ---- what the node did in it

-- what came is the call that was served to its end, of which the result tells
abbrev pub IsServedCall : Option (List ℕ) → Option (List ℕ) → Receipt → ExactLog → Type 0
IsServedCall before rest last earlier = (came : Came) × IsCome before rest came × ((call : SharedCall) × IsCallOf true came call × IsServed call last earlier)

-- a fault came before the node was opened
abbrev pub FailsToOpen : SharedFault → Type 0
FailsToOpen (Node fault) = IsTrue (is_fault fault)
FailsToOpen e = ⊥

-- The answer is the machine's, by these calls. If there are none, nothing came, or the reader failed, or a fault came before the node
-- was opened.
abbrev pub IsAnsweredBy : Option (List ℕ) → Option (List ℕ) → Reply → ExactLog → Type 0
IsAnsweredBy before rest (Ok None) [] = IsCome before rest nothing_came
IsAnsweredBy before rest (Err ReadFailed) [] = IsCome before rest lost
IsAnsweredBy before rest (Err (OfNode e)) [] = FailsToOpen e
IsAnsweredBy before rest (Ok (Some reply)) (last ∷ earlier) = IsServedCall before rest last earlier × ServedAs (Ok reply) last.answer last.sends
IsAnsweredBy before rest (Err (OfNode e)) (last ∷ earlier) = IsServedCall before rest last earlier × ServedAs (Err e) last.answer last.sends
IsAnsweredBy before rest answered calls = ⊥

-- The answer to what came is that of the node, by these calls, and exactly what tells of it was written.
pub record IsTurnOf {F R W : Type 0} (remaining : R → Option (List ℕ)) (contents : W → Option (List ℕ)) (x : Exchange F R W) (calls : ExactLog) : Type 0 where
  pub answered : Reply
  pub told : TellsAnswer contents x.writer x.after answered x.served
  pub by : IsAnsweredBy (remaining x.reader) (remaining x.rest) answered calls

-- After each turn the files can be opened as what is stored then.
abbrev pub AreHeld : {F R W : Type 0} → (F → FileMap) → (R → Option (List ℕ)) → (W → Option (List ℕ)) → F → Repository → List (Exchange F R W) → Life → Type 0
AreHeld content remaining contents start r [] [] = IsOpenable (content start) r
AreHeld content remaining contents start r (x ∷ xs) (t ∷ ts) =
    IsTurnOf remaining contents x t × IsOpenable (content x.files) (repository_after r (t ∷ ts)) × AreHeld content remaining contents start r xs ts
AreHeld content remaining contents start r xs ts = ⊥

-- The exchanges are a life of the node that is stored so at the start, of one turn for each message.
pub record LivesOn {F R W : Type 0} (content : F → FileMap) (remaining : R → Option (List ℕ)) (contents : W → Option (List ℕ)) (start : F) (r : Repository) (xs : List (Exchange F R W)) : Type 0 where
  pub life : Life
  pub is_life : IsLife git git_rules r life
  pub held : AreHeld content remaining contents start r xs life

-- What one turn is to the node; which failures of the reader it tells; and what it does to the device.
abbrev pub IsOneTurn : {F R W : Type 0} → Type 0 → (F → FileMap) → (F → ℕ) → (F → Type 0) → (F → Option ℕ) → (R → Option (List ℕ)) → (R → ℕ) → (R → Type 0) → (W → Option (List ℕ)) → F → F → R → R → W → W → Result Served ServeFault → Type 0
IsOneTurn honest content failed can_fail writes_left remaining losses can_lose contents old new reader rest writer after served =
    ServesTurn honest content remaining contents old new reader rest writer after served
    × TellsLoss losses can_lose reader rest (IsErrOf served serve_fault.ReadFailed) (ends_in_fault served ≡ true)
    × Writes honest content failed can_fail writes_left old new (IsErrOf served (serve_fault.Fault Device))

-- ---- all turns

module _ {F R W : Type 0} (honest : Type 0) (content : F → FileMap) (failed : F → ℕ) (can_fail : F → Type 0) (writes_left : F → Option ℕ) (remaining : R → Option (List ℕ)) (losses : R → ℕ) (can_lose : R → Type 0) (contents : W → Option (List ℕ)) where
  -- each turn is one of the node that the files hold, from the files that the turn before left
  abbrev pub AreTurns : F → List (Exchange F R W) → Type 0
  AreTurns start [] = ⊤
  AreTurns start (x ∷ xs) =
      IsOneTurn honest content failed can_fail writes_left remaining losses can_lose contents (files_after start xs) x.files x.reader x.rest x.writer x.after x.served × AreTurns start xs

  module _ {C : Type 0} (heard : C → Option (List (Event R W))) where
    -- The message was answered in one turn, and the connection was closed unless it goes on.
    pub record AnswersOne (old new : F) (clients done : C) (reader : R) (writer : W) (result : Result ⊤ Fault) : Type 0 where
      pub rest : R
      pub after : W
      pub served : Result Served ServeFault
      pub kept : Result ⊤ Fault
      pub turn : IsOneTurn honest content failed can_fail writes_left remaining losses can_lose contents old new reader rest writer after served
      pub hears : Hears (heard clients) (heard done) (closing (going_after served kept) ++ Takes rest after served kept ∷ [])
      pub end : result ≡ ending (going_after served kept)

    -- The messages that came were answered one after the other, each once and in one turn, from the files handed in to the files
    -- handed back; and over files that can be opened as a node's, this is a life of it.
    pub record ServesInTurn (old new : F) (clients done : C) (result : Result ⊤ Fault) : Type 0 where
      pub exchanges : List (Exchange F R W)
      pub last : List (Event R W)
      pub hears : Hears (heard clients) (heard done) (last ++ events_of exchanges)
      pub end : HowEnded exchanges last result
      pub files : new ≡ files_after old exchanges
      pub turns : AreTurns old exchanges
      pub life : honest → OpenableAs (content old) (λ r. LivesOn content remaining contents old r exchanges)
