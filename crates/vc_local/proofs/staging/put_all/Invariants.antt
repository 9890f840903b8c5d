use Rattle.std.proofs.Common.{map, drop}
use Rattle.vc_local.specs.Staging.{placed}
use Rattle.vc_local.proofs.StagingLemmas.{Leads}
use Rattle.vc_local.proofs.staging.put_all.Given as goal

abbrev pub invariant-loop-file : goal.invariant-loop-file
invariant-loop-file l = Leads l.fn.index (map placed l.files) l.index (map placed (drop l.file-index l.files))
