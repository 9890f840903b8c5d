-- One turn of the shared node that files hold: what came of the reader, what the node answered, and what was written of that.
use Rattle.std.specs.Prelude.{◌⊎◌, ℕ, List, Option, Result}
use Rattle.vc_files.specs.FileMap.{FileMap}
use Rattle.vc_local.specs.Clean.{StaysClean}
use Rattle.vc_local.specs.Opening.{OpenableAs}
use Rattle.vc_message.specs.Machine.{FirstRead}
use Rattle.vc_model.specs.SharedCall.SharedCall.{Accept}
use Rattle.vc_server.specs.Coming.{Reply}
use Rattle.vc_server.specs.Telling.{TellsAnswer}
use Rattle.vc_server.specs.declared.serve_fault.ServeFault.{ServeFault}
use Rattle.vc_server.specs.declared.telling.Served.{Served}
use Rattle.vc_serving.specs.Answering.{AnswersCame, AnswersRead, IsRefusedOnce, KeepsOpenable, TellsUnopened}

-- The answer is that of the node that the files hold, opened with no push open, to what came of the reader, and exactly what tells of
-- it was written.
pub record ServesTurn {F R W : Type 0} (honest : Type 0) (content : F → FileMap) (remaining : R → Option (List ℕ)) (contents : W → Option (List ℕ)) (old new : F) (reader rest : R) (before after : W) (result : Result Served ServeFault) : Type 0 where
  pub answered : Reply
  pub told : TellsAnswer contents before after answered result
  pub serves : honest → OpenableAs (content old) (λ r. AnswersCame (remaining reader) (remaining rest) r (content old) (content new) answered)
  pub answers : honest → OpenableAs (content old) (λ r. FirstRead (remaining reader) (λ m behind. AnswersRead (Accept m) r (content old) (content new) answered))
  pub lost : honest → OpenableAs (content old) (λ r. KeepsOpenable (content new) r answered)
  pub refused : honest → IsRefusedOnce (remaining reader) (remaining rest) (content old) answered
  pub clean : honest → TellsUnopened (content old) answered ⊎ StaysClean (content old) (content new)
