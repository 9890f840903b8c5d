use Rattle.std.proofs.Common.{rules}
use Rattle.vc_files.proofs.WearLemmas.{writes_both, writes_from, writes_told}
use Rattle.vc_working.proofs.mending.begin_from.Goals.{then-is_cut+in_ok-write_index, else-is_cut}
use Rattle.vc_working.proofs.mending.begin_from.Goals as goal

pub returns-in_err-begin-clause-wear : goal.returns-in_err-begin-clause-wear
returns-in_err-begin-clause-wear g c = elim c.if-is_cut.branch [
  | then-is_cut+in_ok-write_index w ↦ writes_told (writes_both w.in_ok-write_index.ensures.wear (search rules) (writes_from w.files-is c.in_err-begin.ensures.wear)) (search rules) (search rules)
  | else-is_cut w ↦ writes_told (writes_from w.files-is c.in_err-begin.ensures.wear) (search rules) (search rules)
]

pub returns-clause-wear : goal.returns-clause-wear
returns-clause-wear g c = elim c.if-is_cut.branch [
  | then-is_cut+in_ok-write_index w ↦ writes_told (writes_both w.in_ok-write_index.ensures.wear (search rules) (writes_from w.files-is c.in_ok-begin.ensures.wear)) (search rules) (search rules)
  | else-is_cut w ↦ writes_told (writes_from w.files-is c.in_ok-begin.ensures.wear) (search rules) (search rules)
]
