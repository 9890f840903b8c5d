use Rattle.std.proofs.Common.{◌∙◌}
use Rattle.clap.specs.Words.{found_of}
use Rattle.clap.proofs.WalkLemmas.{first_value-rows}
use Rattle.vc_arguments.proofs.RowLemmas.{text_or}
use Rattle.vc_arguments.proofs.reading.said.Goals as goal

pub returns : goal.returns
returns c = text_or _ _ _ _ (c.get_str.ensures ∙ first_value-rows (found_of c.args.words.now) c.args.id.now) c.unwrap_or.ensures
