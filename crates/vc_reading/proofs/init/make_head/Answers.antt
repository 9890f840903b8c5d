use Rattle.std.proofs.Common.{rules}
use Rattle.vc_files.proofs.WearLemmas.{wears_writes, writes_told}
use Rattle.vc_reading.proofs.init.make_head.Goals as goal

pub returns-in-Ok-Some-clause-wear : goal.returns-in-Ok-Some-clause-wear
returns-in-Ok-Some-clause-wear g c = writes_told (wears_writes c.head.ensures.wear (search rules)) (search rules) (search rules)

pub returns-clause-wear : goal.returns-clause-wear
returns-clause-wear g c = writes_told (wears_writes c.in-Err.ensures.wear (search rules)) (search rules) (search rules)
