-- What the shared node answers to a list and to a want, and that it is the machine's answer.
use Rattle.std.specs.Prelude.{◌≡◌, ◌↔◌, ⊤, ℕ, Bool, true, List, map, Vec, Option, Some, Result, Ok, Err, IfErr, IfOk, Contains}
use Rattle.std.specs.FinMap.{get}
use Rattle.std.specs.Global.{Global}
use Rattle.std.specs.List.{flat_map}
use Rattle.vc_pack.specs.Answer.{IsFirstCounted, IsOurs, IsSent}
use Rattle.vc_pack.specs.AnswerFault.{BlamesRefs, IsRefusedAnswer}
use Rattle.vc_pack.specs.declared.fault.AnswerFault.{AnswerFault}
use Rattle.vc_pack.specs.declared.fault.AnswerFault.TheVariants.{Fault, Refs}
use Rattle.vc_fetch.specs.Advert.{AdvertText, advert_lines}
use Rattle.vc_fetch.specs.Pack.{PackText, pack_lines}
use Rattle.vc_fetch.specs.Want.{WantText}
use Rattle.vc_files.specs.FileMap.{FileMap}
use Rattle.vc_message.specs.AnyMessage.{SpellsMessage, a_list, a_want}
use Rattle.vc_message.specs.Machine.{TextOf}
use Rattle.vc_model.specs.Message.{Message}
use Rattle.vc_model.specs.SharedCall.SharedCall.{Accept}
use Rattle.vc_object.specs.Decoding.{StoredObject}
use Rattle.vc_object.specs.ObjectId.{IsSortedByName}
use Rattle.vc_object.specs.declared.id.ObjectId.{ObjectId}
use Rattle.vc_pkt.specs.Carried.{object_named, stored_name}
use Rattle.vc_pkt.specs.Line.{spelling}
use Rattle.vc_pkt.specs.Message.{IsSpelledBy}
use Rattle.vc_refs.specs.Head.{head_of, head_value}
use Rattle.vc_refs.specs.Refs.{refs}
use Rattle.vc_push_rules.specs.Session.{SessionText}
use Rattle.vc_shared.specs.Calls.{AcceptedAs, AnswersShared}
use Rattle.vc_shared.specs.Faults.{of_answer, up_after}
use Rattle.vc_shared.specs.declared.accepting.Accepted.{Accepted}
use Rattle.vc_shared.specs.declared.accepting.Accepted.TheVariants.{Reply}
use Rattle.vc_shared.specs.declared.fault.SharedFault.{SharedFault}
use Rattle.vc_object_map.specs.Store.{objects}

-- ---- a list
-- what HEAD leads to is told, and each ref
pub record TellsRefs (content : FileMap) (advert : AdvertText) : Type 0 where
  pub value : advert.head ≡ head_value (refs content) (head_of content)
  pub each : (name : List ℕ) → get advert.refs name ≡ refs content name

-- the bytes are the message that tells them
pub record IsListed (content : FileMap) (bytes : List ℕ) : Type 0 where
  pub advert : AdvertText
  pub tells : TellsRefs content advert
  pub spelled : bytes ≡ flat_map spelling (advert_lines advert)

-- why refs are not told: a file of theirs, or HEAD's
abbrev pub IsRefusedList : FileMap → AnswerFault → Type 0
IsRefusedList content (Refs fault) = BlamesRefs content fault
IsRefusedList content (Fault fault) = ⊤
IsRefusedList content _ = ⊥

abbrev pub RefusesList : FileMap → SharedFault → Type 0
RefusesList content e = (fault : AnswerFault) × (e ≡ of_answer fault) × IsRefusedList content fault

-- ---- a want
-- the pack has what is sent for the wants, each of which a ref reaches, and acknowledges the first have that counts
pub record IsPackFor (content : FileMap) (want : WantText) (pack : PackText) : Type 0 where
  pub ours : (id : ObjectId) → Contains want.wants id → IsOurs content id
  pub sent : (id : ObjectId) (o : StoredObject) → object_named id pack.objects ≡ Some o ↔ (IsSent content want.wants want.haves id × (objects content id ≡ Some o))
  pub sorted : IsSortedByName (map stored_name pack.objects)
  pub first : IsFirstCounted content want.haves pack.ack

-- the bytes are the message that brings it
pub record IsAnswered (content : FileMap) (want : WantText) (bytes : List ℕ) : Type 0 where
  pub pack : PackText
  pub answers : IsPackFor content want pack
  pub spelled : bytes ≡ flat_map spelling (pack_lines pack)

abbrev pub RefusesWant : FileMap → WantText → SharedFault → Type 0
RefusesWant content want e = (fault : AnswerFault) × (e ≡ of_answer fault) × IsRefusedAnswer content want.wants fault

-- ---- as the machine has it
abbrev pub reply_of : Result (Vec ℕ Global) SharedFault → Result Accepted SharedFault
reply_of (Ok bytes) = Ok (Reply bytes)
reply_of (Err e) = Err e

-- of a node that is up: what is answered to a list is told, and nothing changes
abbrev pub ListAnswers : Type 0
ListAnswers = (m : Message) (old new : FileMap) (slots after : List (Option SessionText)) (was_up is_up : Bool) (result : Result (Vec ℕ Global) SharedFault)
    → TextOf m a_list
    → IfOk result (λ bytes. IsListed old bytes.items)
    → IfErr result (RefusesList old)
    → new ≡ old → after ≡ slots
    → was_up ≡ true → is_up ≡ up_after result → AnswersShared (Accept m) (AcceptedAs (reply_of result)) old new slots after was_up is_up

-- the same of a want that was read
abbrev pub WantAnswers : Type 0
WantAnswers = (m : Message) (want : WantText) (read : List ℕ) (old new : FileMap) (slots after : List (Option SessionText)) (was_up is_up : Bool) (result : Result (Vec ℕ Global) SharedFault)
    → TextOf m (a_want want) → IsSpelledBy SpellsMessage (a_want want) read
    → IfOk result (λ bytes. IsAnswered old want bytes.items)
    → IfErr result (RefusesWant old want)
    → new ≡ old → after ≡ slots
    → was_up ≡ true → is_up ≡ up_after result → AnswersShared (Accept m) (AcceptedAs (reply_of result)) old new slots after was_up is_up
