-- What holds of each exchange of a server, from the files before it to the files after it.
use Rattle.std.specs.Prelude.{◌≡◌, ⊤, ℕ, List, ◌∷◌, ◌++◌, Option, Some, Ok}
use Rattle.vc_files.specs.FileMap.{FileMap}
use Rattle.vc_life.specs.Laws.{BeginsWell, GoesForward}
use Rattle.vc_local.specs.Opening.{IsOpenable}
use Rattle.vc_message.specs.Machine.{IsWritten}
use Rattle.vc_model.specs.Clone.{accepted_ids}
use Rattle.vc_model.specs.Message.{Message}
use Rattle.vc_model.specs.Message.Message.{Report}
use Rattle.vc_model.specs.Refs.{with_refs}
use Rattle.vc_model.specs.Repository.{IsBare, IsSound, Repository}
use Rattle.vc_rules.specs.Git.{git}
use Rattle.vc_server.specs.Coming.{Reply}
use Rattle.vc_server.specs.Telling.{TellsAnswer}
use Rattle.vc_serving.specs.InTurn.{Exchange, LivesOn, files_after}

-- what a report says was accepted was set, in that order, and no other ref was
abbrev pub IsTrueOf : Message → Repository → Repository → Type 0
IsTrueOf (Report fault told) old new = new.refs ≡ with_refs (accepted_ids told) old.refs
IsTrueOf m old new = ⊤

-- a reply is the bytes of a message, which is true
abbrev pub IsTrueReply : Reply → Repository → Repository → Type 0
IsTrueReply (Ok (Some reply)) old new = (m : Message) × IsWritten m reply.items × IsTrueOf m old new
IsTrueReply answered old new = ⊤

-- The files before it can be opened as a node's, and those after it as a sound one's. No object is gone, no branch went back, and the
-- client was told what is true.
pub record IsSafe {F R W : Type 0} (content : F → FileMap) (contents : W → Option (List ℕ)) (old : F) (x : Exchange F R W) : Type 0 where
  pub before : Repository
  pub after : Repository
  pub was : IsOpenable (content old) before
  pub is : IsOpenable (content x.files) after
  pub sound : IsSound git after
  pub bare : IsBare git after
  pub forward : GoesForward git before after
  pub answered : Reply
  pub told : TellsAnswer contents x.writer x.after answered x.served
  pub true_reply : IsTrueReply answered before after

-- So it is of each, if the node was sound at the start, and no two different objects that it had, or that came, have one name.
abbrev pub EachExchangeIsSafe : {F R W : Type 0} → (F → FileMap) → (R → Option (List ℕ)) → (W → Option (List ℕ)) → Type 0
EachExchangeIsSafe {F} {R} {W} content remaining contents = (start : F) (r : Repository) (late early : List (Exchange F R W)) (x : Exchange F R W)
    → (l : LivesOn content remaining contents start r (late ++ x ∷ early)) → BeginsWell git r l.life → IsSafe content contents (files_after start early) x
