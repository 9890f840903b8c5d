-- One turn of a shared node that was opened and closed for it.
use Rattle.std.proofs.Common.{◌≡◌, ◌++◌, inl, inr, true, List, ℕ, Option, Some, None, Result, Ok, Err, refl, subst}
use Rattle.vc_files.specs.FileMap.{FileMap}
use Rattle.vc_message.specs.Coming.{Came, IsCome, a_message, cut_short, lost, no_message, nothing_came}
use Rattle.vc_message.specs.Machine.{Reads}
use Rattle.vc_message.proofs.ComingLaws.{none_wrong, some_taken, text_taken}
use Rattle.vc_model.specs.Message.{Message}
use Rattle.vc_life.specs.Life.{opened_shared}
use Rattle.vc_model.specs.Repository.{Repository}
use Rattle.vc_model.specs.SharedCall.{SharedCall}
use Rattle.vc_model.specs.SharedCall.SharedCall.{Accept}
use Rattle.vc_server.specs.Coming.{Reply}
use Rattle.vc_shared.specs.Arriving.{IsCallOf, IsTold}
use Rattle.vc_shared.specs.declared.accept_fault.AcceptFault.TheVariants.{Node, ReadFailed}
use Rattle.vc_serving.specs.Answering.{AnswersCame, AnswersRead, ServesOnceAs}
use Rattle.vc_serving.specs.OneTurn.{ServesTurn}
use Rattle.vc_serving.proofs.AnsweringLemmas.{came_once, kept_openable, refused_once}
use Rattle.vc_local.proofs.CleanLemmas.{stays_then}
use Rattle.vc_local.specs.Blames.{BlamesOpen}
use Rattle.vc_local.specs.Clean.{KeepsClean, StaysClean}
use Rattle.vc_local.specs.Opening.{IsOpenable, OpenableAs}
use Rattle.vc_local.specs.declared.fault.NodeFault.{NodeFault}
use Rattle.vc_server.specs.Telling.{TellsAnswer}
use Rattle.vc_server.specs.Turn.{TakesTurn}
use Rattle.vc_server.specs.declared.serve_fault.ServeFault.{ServeFault}
use Rattle.vc_server.specs.declared.telling.Served.{Served}
use Rattle.vc_shared.specs.Holding.{HoldsShared, SharedText}
use Rattle.vc_shared.specs.Slots.{free_slots}
use Rattle.vc_shared.specs.declared.fault.SharedFault.TheVariants.{Node as Unopened}

-- a message that is first of what the reader has is the call that was served
module _ (r : Repository) (old new : FileMap) (m : Message) (bytes rest : List ℕ) (reads : Reads bytes m) (left : Option (List ℕ)) where
  abbrev Whole : Option (List ℕ)
  Whole = Some (bytes ++ rest)

  by_told : (result : Reply) (came : Came) → IsTold true came result → IsCallOf true came (Accept m) → ((call : SharedCall) → IsCallOf true came call → ServesOnceAs call r new result) → AnswersRead (Accept m) r old new result
  by_told (Ok (Some reply)) came told is serves = inr (serves (Accept m) is)
  by_told (Ok None) (a_message text) told is serves = absurd told
  by_told (Ok None) nothing_came told is serves = absurd is
  by_told (Ok None) (no_message fault) told is serves = absurd told
  by_told (Ok None) lost told is serves = absurd told
  by_told (Ok None) cut_short told is serves = absurd told
  by_told (Err ReadFailed) came told is serves = tt
  by_told (Err (Node e)) came told is serves = inr (serves (Accept m) is)

  -- where the reader failed, it is told
  by_loss : (result : Reply) → IsTold true lost result → AnswersRead (Accept m) r old new result
  by_loss (Ok (Some reply)) told = absurd told
  by_loss (Ok None) told = absurd told
  by_loss (Err ReadFailed) told = tt
  by_loss (Err (Node e)) told = absurd told

  by_came : (result : Reply) (came : Came) → IsCome Whole left came → IsTold true came result → ((call : SharedCall) → IsCallOf true came call → ServesOnceAs call r new result) → AnswersRead (Accept m) r old new result
  by_came result (a_message text) come told serves = by_told result (a_message text) told (m, (text_taken left bytes rest m reads text come).0, refl) serves
  by_came result nothing_came come told serves = absurd (some_taken left bytes rest m reads come)
  by_came result (no_message fault) come told serves = absurd (none_wrong left bytes rest m reads fault come)
  by_came result lost come told serves = by_loss result told
  by_came result cut_short come told serves = by_told result cut_short told (λ is. cc is) serves

  by_answer : (result : Reply) → AnswersCame Whole left r old new result → AnswersRead (Accept m) r old new result
  by_answer (Ok found) came = by_came (Ok found) came.came came.is_come came.told came.served
  by_answer (Err ReadFailed) came = tt
  by_answer (Err (Node e)) (inl closed) = inl closed
  by_answer (Err (Node e)) (inr came) = by_came (Err (Node e)) came.came came.is_come came.told came.served

pub read_as_came : (r : Repository) (before left : Option (List ℕ)) (old new : FileMap) (result : Reply) → AnswersCame before left r old new result
    → (m : Message) (bytes rest : List ℕ) → before ≡ Some (bytes ++ rest) → Reads bytes m → AnswersRead (Accept m) r old new result
read_as_came r before left old new result came m bytes rest is reads = by_answer r old new m bytes rest reads left result (subst (λ (b : Option (List ℕ)). AnswersCame b left r old new result) is came)

module _ {F R W : Type 0} (honest : Type 0) (content : F → FileMap) (remaining : R → Option (List ℕ)) (contents : W → Option (List ℕ)) (old : F) (before after : W) (result : Result Served ServeFault) where
  -- the files were opened
  pub opened_turn : (opened new : SharedText F) (reader rest : R) → opened.is_up ≡ true → opened.slots ≡ free_slots → (honest → OpenableAs (content old) (λ r. HoldsShared (content opened.files) opened.slots true (opened_shared r)))
      → (honest → KeepsClean (content old) (content opened.files)) → TakesTurn honest content remaining contents opened new reader rest before after result → (honest → StaysClean (content opened.files) (content new.files))
      → ServesTurn honest content remaining contents old new.files reader rest before after result
  opened_turn opened new reader rest up free opens clean turn stays =
      let came : honest → OpenableAs (content old) (λ r. AnswersCame (remaining reader) (remaining rest) r (content old) (content new.files) turn.answered) =
      λ h r openable. came_once honest (remaining reader) (remaining rest) r turn.answered (content old) (content opened.files) (content new.files) opened.slots new.slots opened.is_up new.is_up up (opens h r openable) h turn.serves in
      record {
        answered = turn.answered;
        told = turn.told;
        serves = came;
        answers = λ h r openable m bytes behind is reads. read_as_came r (remaining reader) (remaining rest) (content old) (content new.files) turn.answered (came h r openable) m bytes behind is reads;
        lost = λ h r openable. kept_openable content r turn.answered opened new up (opens h r openable) turn.none (turn.lost h);
        refused = λ h. refused_once honest (remaining reader) (remaining rest) (content old) (content opened.files) (content new.files) opened.slots new.slots opened.is_up new.is_up turn.answered up free h (clean h) turn.serves;
        clean = λ h. inr (stays_then _ _ _ (clean h).stays (stays h));
      }

  -- they were not
  pub unopened_turn : (new : F) (reader : R) (fault : NodeFault) → TellsAnswer contents before after (Err (Node (Unopened fault))) result → (honest → BlamesOpen (content old) fault) → (honest → OpenableAs (content old) (λ r. IsOpenable (content new) r))
      → ServesTurn honest content remaining contents old new reader reader before after result
  unopened_turn new reader fault told blames openable = record {
    answered = Err (Node (Unopened fault));
    told = told;
    serves = λ h r is. inl (blames h, openable h r is);
    answers = λ h r is m bytes behind first reads. inl (blames h, openable h r is);
    lost = λ h r is. tt;
    refused = λ h. inl (blames h);
    clean = λ h. inl (blames h);
  }
