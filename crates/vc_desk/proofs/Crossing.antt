-- What a worker takes along may go to another thread: a lock over the node with its log may be shared.
use denote.RattleType.{RattleType}
use denote.Param.Send.{IsSend, IsSync, sendable}
use Rattle.std.proofs.Crossing.{crosses}
use Rattle.std.proofs.MapsCrossing.{crosses as maps}
use Rattle.std.specs.contracts.sync.Mutex as Mutex
use Rattle.vc_files.specs.declared.Files as files
use Rattle.vc_history.specs.contracts.generations.Generations as Generations
use Rattle.vc_known.specs.contracts.known.Known as Known
use Rattle.vc_session.specs.contracts.session.PushSession as Session
use Rattle.vc_shared.specs.contracts.opening.Opening as Opening
use Rattle.vc_shared.specs.contracts.shared.Shared as Shared
use Rattle.vc_desk.specs.declared.locked.Origin as origin
use Rattle.vc_desk.specs.contracts.kept.Kept as Kept
use Rattle.vc_desk.specs.contracts.locked.Locked as Locked
use Rattle.vc_desk.specs.contracts.watched.Watched as Watched
use Rattle.vc_desk.proofs.entry.Entry.TheSendSync as entry

generations_send : IsSend Generations.the_row
generations_send = search (sendable, crosses, maps) depth 30

known_send : IsSend Known.the_row
known_send = let a = generations_send in search (sendable, crosses, maps) depth 30

session_send : IsSend Session.the_row
session_send = search (sendable, crosses) depth 30

opening_send : IsSend Opening.the_row
opening_send = search (sendable, crosses) depth 30

module _ (F : RattleType) (f : files.Ghosts F.Denot) (s : IsSend F) where
  shared_send : IsSend (Shared.the_row F f)
  shared_send = let a = generations_send in let b = session_send in let c = known_send in search (sendable, crosses) depth 40 fits 5000

  kept_send : IsSend (Kept.the_row F f)
  kept_send = let a = shared_send in let b = opening_send in let c = entry.the_send in search (sendable, crosses) depth 30

  module _ (J : RattleType) (o : origin.Ghosts J.Denot) (j : IsSend J) where
    locked_send : IsSend (Locked.the_row F J f o)
    locked_send = let a = kept_send in search (sendable, crosses) depth 30

    pub desk_sync : IsSync (Mutex.the_row (Locked.the_row F J f o))
    desk_sync = let a = locked_send in search (sendable, crosses) depth 30

    pub watched_send : IsSend (Watched.the_row F J f o)
    watched_send = let a = shared_send in search (sendable, crosses) depth 30
