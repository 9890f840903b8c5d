-- What a check says of a command where what it rests on is so: the commits are what they claim to be, and the generations that are
-- known agree with the parents of each.
use Rattle.std.specs.Prelude.{◌⊎◌, ℕ, List, [], ◌∷◌, Option, Result, Vec, IfOk}
use Rattle.std.specs.Global.{Global}
use Rattle.vc_files.specs.FileMap.{FileMap}
use Rattle.vc_object_map.specs.Graph.{IsClosedUnder, ReachedFrom}
use Rattle.vc_object_map.specs.StoreFault.{IsMet}
use Rattle.vc_history.specs.Generation.{Agrees}
use Rattle.vc_history.specs.Numbering.{numbers}
use Rattle.vc_history.specs.Stored.{AgreesIn}
use Rattle.vc_history.specs.declared.generations.Generations.{Generations}
use Rattle.vc_object.specs.ObjectMap.{ObjectMap, links_in, parents_in}
use Rattle.vc_object.specs.declared.id.ObjectId.{ObjectId}
use Rattle.vc_push.specs.Push.{CommandText}
use Rattle.vc_push.specs.declared.reason.Reason.{Reason}
use Rattle.vc_object_map.specs.declared.faults.StoreFault.{StoreFault}
use Rattle.vc_push_rules.specs.Known.{AreRefsWhole}
use Rattle.vc_quarantine.specs.Known.{AreWhole}
use Rattle.vc_push_rules.specs.Quarantine.{objects_seen}
use Rattle.vc_push_rules.specs.Steps.{Checks, ChecksAll}
use Rattle.vc_push_rules.specs.Verdict.{CheckNeeds, IsVerdict, IsVerdictAtCheck, history_reasons}
use Rattle.vc_session.specs.declared.fault.SessionFault.{SessionFault}
use Rattle.vc_quarantine.specs.declared.known.Known.{Known}
use Rattle.vc_push_rules.specs.declared.stage.Verdict.{Verdict}

-- this holds where the commits are honest and the generations agree with them
abbrev pub WhereNumbered : Type 0 → ObjectMap → Generations → Type 0 → Type 0
WhereNumbered honest objects generations Holds = honest → Agrees (parents_in objects) (numbers generations) → Holds

-- and where, besides, what is known to be whole is so
abbrev pub WhereKnown : Type 0 → ObjectMap → Generations → Known → Type 0 → Type 0
WhereKnown honest objects generations known Holds = WhereNumbered honest objects generations (AreWhole objects known → Holds)

-- ---- one command

-- the verdict that the history of a branch's new value gives, beyond histories that are known to be whole
abbrev pub JudgesHistory : Type 0 → ObjectMap → Generations → List ObjectId → CommandText → Option Reason → Type 0
JudgesHistory honest objects generations histories c found =
    WhereNumbered honest objects generations (IsClosedUnder (parents_in objects) histories → IsVerdict (CheckNeeds objects c) history_reasons found)

-- the verdict at its check
abbrev pub Judges : Type 0 → ObjectMap → Generations → Known → CommandText → Option Reason → Type 0
Judges honest objects generations known c found = WhereKnown honest objects generations known (IsVerdictAtCheck objects c found)

-- what the check makes of the verdict that it had
abbrev pub ChecksOne : Type 0 → ObjectMap → Generations → Known → CommandText → Verdict → Verdict → Type 0
ChecksOne honest objects generations known c v w = WhereKnown honest objects generations known (Checks objects c v w)

-- a damaged object is told that the id's history meets
abbrev pub MeetsInHistory : Type 0 → ObjectMap → (ObjectId → Type 0) → Generations → ObjectId → StoreFault → Type 0
MeetsInHistory honest objects damaged generations id e = WhereNumbered honest objects generations (IsMet (ReachedFrom (parents_in objects) (id ∷ [])) damaged e)

-- or one that is reached by its links
abbrev pub MeetsBelow : Type 0 → ObjectMap → (ObjectId → Type 0) → Generations → ObjectId → StoreFault → Type 0
MeetsBelow honest objects damaged generations id e =
    WhereNumbered honest objects generations (IsMet (λ x. ReachedFrom (links_in objects) (id ∷ []) x ⊎ ReachedFrom (parents_in objects) (id ∷ []) x) damaged e)

-- ---- all commands of a push

abbrev pub ChecksEach : Type 0 → ObjectMap → Generations → Known → List CommandText → List Verdict → List Verdict → Type 0
ChecksEach honest objects generations known cs vs ws = WhereKnown honest objects generations known (ChecksAll objects cs vs ws)

-- over what is stored and what the slot's quarantine holds, in a repository whose refs are whole
abbrev pub ChecksPush : Type 0 → FileMap → Generations → (slot : ℕ) → List CommandText → List Verdict → Result (Vec Verdict Global) SessionFault → Type 0
ChecksPush honest content generations slot cs vs result =
    honest → AgreesIn content generations → AreRefsWhole content → IfOk result (λ after. ChecksAll (objects_seen content slot) cs vs after.items)
