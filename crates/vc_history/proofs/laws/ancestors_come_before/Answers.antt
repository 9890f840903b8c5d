use Rattle.vc_object.specs.ObjectMap.{parents_in}
use Rattle.vc_history.proofs.GenerationLemmas.{HasGeneration-ancestor}
use Rattle.vc_history.proofs.laws.ancestors_come_before.Goals as goal

pub returns : goal.returns
returns c objects a b n m way differs g h = HasGeneration-ancestor (parents_in objects) a b n m way differs g h
