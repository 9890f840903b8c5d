use Rattle.vc_object.specs.ObjectMap.{parents_in}
use Rattle.vc_history.proofs.GenerationLemmas.{HasGeneration-parent}
use Rattle.vc_history.proofs.laws.parents_come_before.Goals as goal

pub returns : goal.returns
returns c objects child parent n m link g h = HasGeneration-parent (parents_in objects) child parent n m g h link
