-- What verdicts rest on, and what stands for one after an update.
use Rattle.std.proofs.Common.{◌≡◌, false, List, ◌∷◌, [], Option, Some, None, IsSome, refl}
use Rattle.vc_object_map.proofs.WalkLemmas.{Reaches-from_one}
use Rattle.vc_object_map.specs.Graph.{ReachedFrom}
use Rattle.vc_object.proofs.ObjectMaps.{parents_in-none}
use Rattle.vc_object.specs.ObjectMap.{ObjectMap, parents_in}
use Rattle.vc_object.specs.declared.id.ObjectId.{ObjectId}
use Rattle.vc_push.specs.Push.{CommandText}
use Rattle.vc_push.specs.declared.reason.Reason.{Reason}
use Rattle.vc_push_rules.specs.Session.{is_passing, verdict_of}
use Rattle.vc_push_rules.specs.Verdict.{HasHistory}

-- a history that is whole has no absent commit
pub never_missing : (objects : ObjectMap) (c : CommandText) → HasHistory objects c.new → (id : ObjectId) → ReachedFrom (parents_in objects) (c.new ∷ []) id → objects id ≡ None → ⊥
never_missing objects c history id reached absent = absurd (by (parents_in objects id) (parents_in-none objects id absent) (history id (Reaches-from_one (parents_in objects) c.new id reached)))
  where
    by : (o : Option (List ObjectId)) → o ≡ None → IsSome o → ⊥
    by None e h = cc h
    by (Some ids) e h = cc e

-- a command passes no more once its update has judged it
pub settled_verdict : (found : Option Reason) → is_passing (verdict_of found) ≡ false
settled_verdict None = refl
settled_verdict (Some reason) = refl
