-- What chains of calls come to where the nodes before them are good.
use Rattle.std.specs.Prelude.{◌≡◌, ℕ, Bool, List, Option, None}
use Rattle.vc_model.specs.Object.{Format}
use Rattle.vc_model.specs.Repository.{IsBare, IsSound}
use Rattle.vc_model.specs.Message.{Message}
use Rattle.vc_model.specs.Node.{Answer}
use Rattle.vc_model.specs.Shared.{SharedNode}
use Rattle.vc_model.specs.Clone.{CloneNode, PushItem}
use Rattle.vc_model.specs.Rules.{Rules}
use Rattle.vc_model.specs.Exchange.{AreReady, AreUp, BranchesCanBeTracked, Fetches, FetchEnds, NodesAgree, PushRun}
use Rattle.vc_world.specs.Chains.{FetchMoves, MayFetch, MayPushRun}

-- Calls that go from one node to the other as in a fetch are the machine's fetch, where the nodes were ready and up, and move as many
-- refs; it catches up, or ends with a fault.
abbrev pub ChainIsFetch : (fmt : Format) → Rules fmt → Type 0
ChainIsFetch fmt rules = (s t : SharedNode) (c d : CloneNode) (a : Answer) (moved : ℕ) →
    BranchesCanBeTracked fmt → AreReady fmt rules s c → AreUp s c → MayFetch fmt rules None s c a t d moved →
    Fetches fmt rules None s c a t d × FetchMoves fmt rules None s c a t d moved × FetchEnds s.repository a d × AreReady fmt rules t d × (t.repository ≡ s.repository)

-- As in a push, they are the machine's push, where both nodes were sound, the shared node bare, and they agreed on objects.
abbrev pub ChainIsPush : (fmt : Format) → Rules fmt → Type 0
ChainIsPush fmt rules = (atomic : Bool) (items : List PushItem) (s t : SharedNode) (c d : CloneNode) (a : Answer) (report : Option Message) →
    IsSound fmt s.repository → IsBare fmt s.repository → IsSound fmt c.repository → NodesAgree fmt s.repository c.repository →
    MayPushRun fmt rules atomic items s c a t d report → PushRun fmt rules atomic items s c a t d report
