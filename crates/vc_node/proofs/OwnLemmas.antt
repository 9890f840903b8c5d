-- What is a clone's own stays from one call that takes a message to the next.
use Rattle.std.proofs.Common.{◌≡◌}
use Rattle.vc_exchange.proofs.QuarantinedLemmas.{others_same, others_then}
use Rattle.vc_exchange.specs.Quarantined.{KeepsOthers}
use Rattle.vc_files.specs.FileMap.{FileMap}
use Rattle.vc_local.proofs.CleanLemmas.{clean_same, clean_then}
use Rattle.vc_local.specs.Clean.{KeepsClean}
use Rattle.vc_node.proofs.ArrivedLemmas.{others_beside}
use Rattle.vc_node.specs.Stored.{KeepsOwn}
use Rattle.vc_history.proofs.StoredLemmas.{keeps_same, keeps_then}
use Rattle.vc_history.specs.Stored.{KeepsObjects}
use Rattle.vc_tracking.specs.Storing.{KeepsBeside}

pub own_same : (old new : FileMap) → new ≡ old → KeepsOwn old new
own_same old new same = record { objects = keeps_same old new same; clean = clean_same old new same; others = others_same old new same }

pub own_then : {old mid new : FileMap} → KeepsOwn old mid → KeepsOwn mid new → KeepsOwn old new
own_then {old = old} {mid = mid} {new = new} first second = record {
  objects = keeps_then old mid new first.objects second.objects;
  clean = clean_then old mid new first.clean second.clean;
  others = others_then old mid new first.others second.others;
}

-- a message of which all has come leaves the quarantine, too
pub own_beside : {old new : FileMap} → KeepsObjects old new → KeepsBeside old new → KeepsClean old new → KeepsOwn old new
own_beside {old = old} {new = new} objects beside clean = record { objects = objects; clean = clean; others = others_beside old new beside }

-- and one that a reader brings
pub own_others : {old new : FileMap} → KeepsObjects old new → KeepsOthers old new → KeepsClean old new → KeepsOwn old new
own_others objects others clean = record { objects = objects; clean = clean; others = others }
