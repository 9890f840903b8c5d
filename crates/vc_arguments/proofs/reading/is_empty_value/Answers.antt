use Rattle.std.proofs.Common.{◌∙◌, ap}
use Rattle.clap.specs.Words.{found_of}
use Rattle.clap.proofs.WalkLemmas.{first_value-rows}
use Rattle.vc_arguments.specs.Requests.{is_empty_value}
use Rattle.vc_arguments.proofs.reading.is_empty_value.Goals as goal

pub returns-in-Some : goal.returns-in-Some
returns-in-Some c = c.is_empty.ensures ∙ ap is_empty_value (c.in-Some.ensures ∙ first_value-rows (found_of c.args.words.now) c.args.id.now)

pub returns-in-None : goal.returns-in-None
returns-in-None c = ap is_empty_value (c.in-None.ensures ∙ first_value-rows (found_of c.args.words.now) c.args.id.now)
