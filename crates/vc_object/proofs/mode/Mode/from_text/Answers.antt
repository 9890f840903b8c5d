use Rattle.vc_object.proofs.Reading.{mode_read, mode_found}
use Rattle.vc_object.proofs.mode.Mode.from_text.Goals as goal

pub returns-clause-text : goal.returns-clause-text
returns-clause-text c = mode_read c.args.text.now c.mode_of.result c.mode_of.ensures

pub returns-clause-found : goal.returns-clause-found
returns-clause-found c = mode_found c.args.text.now c.mode_of.result c.mode_of.ensures
