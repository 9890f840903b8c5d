use Rattle.std.proofs.Common.{map}
use Rattle.vc_working.specs.Naming.{RefusesWords}
use Rattle.vc_cli.proofs.ToldLemmas.{handed_on}
use Rattle.vc_working.proofs.NamedLemmas.{word_bytes, word_refused}
use Rattle.vc_working.proofs.named_files.paths_named.Goals as goal

pub returns-in_err-listed-clause-refused : goal.returns-in_err-listed-clause-refused
returns-in_err-listed-clause-refused g c = λ honest.
    let i = c.loop-word.invariant in
    let content = g.W.WorkTree.content in
    let failure = c.in_err-listed.field-0.0 in
    handed_on (RefusesWords (content c.args.work.now) c.args.own.now (map word_bytes c.args.words.now)) failure c.from_residual.result c.from_residual.ensures.1
    (word_refused (content c.args.work.now) c.args.own.now c.args.words.now c.loop-word.word-index _ c.loop-word-test.true failure (i.names honest) (rw i.same at (c.in_err-listed.ensures.refused honest)))
