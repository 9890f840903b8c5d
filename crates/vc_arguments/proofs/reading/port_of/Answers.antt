use Rattle.std.specs.Prelude.{codes}
use Rattle.std.specs.Str.Parse.{ParsesUnsigned, ExplainsUnsignedError, HasUnsignedDigitsIfOk}
use Rattle.clap.specs.Words.{found_of}
use Rattle.vc_arguments.proofs.RowLemmas.{number_read}
use Rattle.vc_arguments.proofs.reading.port_of.Goals as goal

pub returns : goal.returns
returns c = number_read 16 (λ bs r. ParsesUnsigned 16 10 bs r × ExplainsUnsignedError 10 bs r × HasUnsignedDigitsIfOk bs r)
    (found_of c.args.words.now) (codes "port") c.get_one.result (λ t x given. given.0) c.get_one.ensures.none c.get_one.ensures.value
