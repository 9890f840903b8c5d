-- What a node has beside its being sound, so that an exchange with it ends well; and that each exact answer keeps it.
use Rattle.std.specs.Prelude.{◌≡◌, ℕ, ◌++◌, Option, Some, slice_get}
use Rattle.std.specs.FinMap.{get}
use Rattle.vc_model.specs.Object.{Format}
use Rattle.vc_model.specs.Refs.{AreApart}
use Rattle.vc_model.specs.Repository.{Repository, IsSound, IsBare}
use Rattle.vc_model.specs.Push.{OpenPush, Slots}
use Rattle.vc_model.specs.Message.{Message, Envelope, IsNamedMessage, message_of}
use Rattle.vc_model.specs.Node.{Answer}
use Rattle.vc_model.specs.Shared.{SharedNode}
use Rattle.vc_model.specs.Clone.{CloneNode}
use Rattle.vc_model.specs.World.{World, IsNew, StartsSound}
use Rattle.vc_model.specs.Keeping.{SharedKept, Alone, any_order}
use Rattle.vc_model.specs.Rules.{Rules, Tests, rules_by, AreFormed, IsFormedMessage}
use Rattle.vc_model.specs.Wire.{WireTests, wire_by}
use Rattle.vc_model.specs.SharedCall.{SharedCall, SharedAnswers}
use Rattle.vc_model.specs.SharedCall.SharedCall.{Accept}
use Rattle.vc_model.specs.CloneCall.{CloneCall, CloneAnswers}
use Rattle.vc_model.specs.CloneCall.CloneCall.{Receive}
use Rattle.vc_model.specs.ExactWorld.{FusedWorld, ExactHistory, fused_after, ExactRun, NoExactCollision}
use Rattle.vc_model.specs.Exact.{CallFits}

-- A sound repository, in which no object's body is refused and no ref is a folder of another.
pub record IsGood (fmt : Format) (rules : Rules fmt) (r : Repository) : Type 0 where
  pub sound : IsSound fmt r
  pub formed : AreFormed fmt rules r.objects
  pub apart : AreApart r.refs

-- At the shared node also what open pushes carry, and its refs are branches and tags that clones can track and hold.
pub record IsGoodShared (fmt : Format) (rules : Rules fmt) (n : SharedNode) : Type 0 where
  pub good : IsGood fmt rules n.repository
  pub bare : IsBare fmt n.repository
  pub carried : (slots : Slots) (k : ℕ) (p : OpenPush) → n.live ≡ Some slots → get slots k ≡ Some p → AreFormed fmt rules p.carried

-- Every node is good, and no body that was ever sent is refused.
pub record EveryNodeGood (fmt : Format) (rules : Rules fmt) (w : World) : Type 0 where
  pub shared : IsGoodShared fmt rules w.shared
  pub clones : (c : ℕ) (n : CloneNode) → get w.clones c ≡ Some n → IsGood fmt rules n.repository
  pub sent : (k : ℕ) (e : Envelope) → slice_get w.sent k ≡ Some e → IsFormedMessage fmt rules (message_of e)

-- A message that comes is named and formed.
abbrev pub IsGoodMessage : (fmt : Format) → Rules fmt → Message → Type 0
IsGoodMessage fmt rules m = IsNamedMessage fmt m × IsFormedMessage fmt rules m

abbrev pub BringsGood : (fmt : Format) → Rules fmt → CloneCall → Type 0
BringsGood fmt rules (Receive m) = IsGoodMessage fmt rules m
BringsGood fmt rules _ = Unit {0}

abbrev pub BringsGoodToShared : (fmt : Format) → Rules fmt → SharedCall → Type 0
BringsGoodToShared fmt rules (Accept m) = IsGoodMessage fmt rules m
BringsGoodToShared fmt rules _ = Unit {0}

abbrev pub SendsGood : (fmt : Format) → Rules fmt → Option Message → Type 0
SendsGood fmt rules sends = (m : Message) → sends ≡ Some m → IsGoodMessage fmt rules m

-- An exact answer of a clone keeps it good, where what its command makes collides with nothing there.
abbrev pub CloneAnswerKeepsGood : Type 0
CloneAnswerKeepsGood = (fmt : Format) (tests : Tests fmt) (old new : CloneNode) (e : CloneCall) (a : Answer) (sends : Option Message) →
    IsGood fmt (rules_by fmt tests) old.repository → CallFits fmt (rules_by fmt tests) old.repository e → BringsGood fmt (rules_by fmt tests) e →
    CloneAnswers fmt (rules_by fmt tests) old e a new sends → IsGood fmt (rules_by fmt tests) new.repository × SendsGood fmt (rules_by fmt tests) sends

-- An exact answer of the shared node keeps it good, and its open pushes able to go on, where they carry under no name another
-- object than is stored then.
abbrev pub SharedAnswerKeepsGood : Type 0
SharedAnswerKeepsGood = (fmt : Format) (tests : Tests fmt) (old new : SharedNode) (e : SharedCall) (a : Answer) (sends : Option Message) →
    IsGoodShared fmt (rules_by fmt tests) old → SharedKept fmt any_order old → BringsGoodToShared fmt (rules_by fmt tests) e →
    ((slots : Slots) → old.live ≡ Some slots → Alone new.repository.objects slots) → SharedAnswers fmt (rules_by fmt tests) old e a new sends →
    IsGoodShared fmt (rules_by fmt tests) new × SharedKept fmt any_order new × SendsGood fmt (rules_by fmt tests) sends

-- At each moment of an exact run from good nodes every node is good.
abbrev pub ExactRunStaysGood : Type 0
ExactRunStaysGood = (fmt : Format) (tests : WireTests fmt) (start : FusedWorld) (late early : ExactHistory) →
    StartsSound fmt start.world → EveryNodeGood fmt (rules_by fmt tests.tests) start.world → ExactRun fmt (wire_by fmt tests) start (late ++ early) →
    NoExactCollision fmt (wire_by fmt tests) start (late ++ early) → EveryNodeGood fmt (rules_by fmt tests.tests) (fused_after start early).world

-- A new world is good.
abbrev pub NewIsGood : Type 0
NewIsGood = (fmt : Format) (tests : Tests fmt) (w : World) (n : ℕ) → IsNew w n → EveryNodeGood fmt (rules_by fmt tests) w
