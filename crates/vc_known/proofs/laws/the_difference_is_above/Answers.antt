use Rattle.vc_known.proofs.LayerLemmas.{IsReachedBeyond-above}
use Rattle.vc_known.proofs.laws.the_difference_is_above.Goals as goal

pub returns-clause-difference : goal.returns-clause-difference
returns-clause-difference c links moments layers are count roots others reach x = IsReachedBeyond-above links moments layers are count others reach roots x

pub returns-clause-common : goal.returns-clause-common
returns-clause-common c links moments names others count common reached = record { moment = common.moment; reached = λ x at. reached x (common.has x at) }
