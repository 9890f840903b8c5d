use Rattle.vc_arguments.proofs.ProgramLemmas.{request_of_words}
use Rattle.vc_arguments.proofs.laws.words_are_read.Goals as goal

pub returns : goal.returns
returns c = request_of_words
