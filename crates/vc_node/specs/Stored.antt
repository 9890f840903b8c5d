-- Calls by which no object is lost, and messages, which leave what is the clone's own.
use Rattle.std.specs.Prelude.{◌≡◌, Result, OnErr}
use Rattle.vc_exchange.specs.Quarantined.{KeepsOthers}
use Rattle.vc_files.specs.FileMap.{FileMap}
use Rattle.vc_local.specs.Clean.{KeepsClean}
use Rattle.vc_history.specs.Stored.{KeepsObjects}

-- No object is lost, and what is bad now was so before: of a call that stores objects itself.
pub record KeepsStored (old new : FileMap) : Type 0 where
  pub objects : KeepsObjects old new
  pub clean : KeepsClean old new

-- an error changes nothing, no file is made bad, and no object is lost
pub record SparesStored {T E : Type 0} (result : Result T E) (old new : FileMap) : Type 0 where
  pub err : OnErr result (new ≡ old)
  pub clean : KeepsClean old new
  pub objects : KeepsObjects old new

-- Whatever messages are taken, over any files: no object is lost, no file is made bad, and beside objects, refs and the quarantine none has
-- changed, so that HEAD and the index stay.
pub record KeepsOwn (old new : FileMap) : Type 0 where
  pub objects : KeepsObjects old new
  pub clean : KeepsClean old new
  pub others : KeepsOthers old new
