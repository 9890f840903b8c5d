use Rattle.std.proofs.Common.{rules}
use Rattle.vc_files.proofs.WearLemmas.{writes_both, writes_told}
use Rattle.vc_local.proofs.EmptyingLemmas.{clean_either, clean_lost, lost_by, opened_by, refused_by}
use Rattle.vc_local.proofs.opening.open_files.Goals as goal

pub returns-clause-opened : goal.returns-clause-opened
returns-clause-opened g c = λ honest.
    opened_by _ _ _ c.make_ready.result (c.in_ok-empty_quarantines.ensures.loses honest) (c.in_ok-empty_quarantines.ensures.empty honest)
    (c.make_ready.ensures.ready honest) (c.make_ready.ensures.clean honest)

pub returns-clause-refused : goal.returns-clause-refused
returns-clause-refused g c = λ honest. refused_by _ _ c.make_ready.result (c.in_ok-empty_quarantines.ensures.loses honest) (c.make_ready.ensures.refused honest)

pub returns-clause-err : goal.returns-clause-err
returns-clause-err g c = λ honest. lost_by _ _ _ c.make_ready.result (c.in_ok-empty_quarantines.ensures.loses honest) (c.make_ready.ensures.err honest)

pub returns-clause-clean : goal.returns-clause-clean
returns-clause-clean g c = λ honest. clean_either _ _ _ c.make_ready.result (c.in_ok-empty_quarantines.ensures.loses honest) (c.make_ready.ensures.clean honest) (c.make_ready.ensures.err honest)

pub returns-in_err-empty_quarantines-clause-clean : goal.returns-in_err-empty_quarantines-clause-clean
returns-in_err-empty_quarantines-clause-clean g c = λ honest. clean_lost _ _ (c.in_err-empty_quarantines.ensures.loses honest)

pub returns-in_err-empty_quarantines-clause-wear : goal.returns-in_err-empty_quarantines-clause-wear
returns-in_err-empty_quarantines-clause-wear g c = writes_told c.in_err-empty_quarantines.ensures.wear (search rules) (search rules)

pub returns-clause-wear : goal.returns-clause-wear
returns-clause-wear g c = writes_both c.in_ok-empty_quarantines.ensures.wear (search rules) c.make_ready.ensures.wear
