use Rattle.vc_model.proofs.Graph.{same_words as proved}
use Rattle.vc_model.proofs.every_step.objects_and_links_give_one_graph.Goals as goal

pub returns : goal.returns
returns c = proved
