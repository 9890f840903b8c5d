use Rattle.clap.specs.Words.{found_of}
use Rattle.vc_arguments.proofs.RowLemmas.{switch_read}
use Rattle.vc_arguments.proofs.reading.is_on.Goals as goal

pub returns : goal.returns
returns c = switch_read _ (found_of c.args.words.now) c.args.id.now c.get_one.result _ c.get_one.ensures.none c.get_one.ensures.value c.unwrap_or.ensures
