use Rattle.vc_object.specs.ObjectMap.{parents_in}
use Rattle.vc_history.proofs.GenerationLemmas.{HasGeneration-one}
use Rattle.vc_history.proofs.laws.one_generation.Goals as goal

pub returns : goal.returns
returns c objects id n m g h = HasGeneration-one (parents_in objects) id n m g h
