use Rattle.vc_values.proofs.GitLaws.{git_laws as proved}
use Rattle.vc_values.proofs.the_layers_give_what_the_machine_asks.Goals as goal

pub returns : goal.returns
returns c = proved
