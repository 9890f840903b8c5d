use Rattle.std.proofs.Common.{ap, map}
use Rattle.std.specs.Borrow.{Bor}
use Rattle.std.proofs.lemmas.Result.{IfOk-weaker}
use Rattle.clap.specs.Walk.{Text}
use Rattle.clap.specs.Words.{found_of}
use Rattle.vc_arguments.proofs.RowLemmas.{entered_some, listed}
use Rattle.vc_arguments.proofs.reading.list_of.Goals as goal

pub returns-in-Some-get_strs : goal.returns-in-Some-get_strs
returns-in-Some-get_strs c =
    let entered = entered_some c.args.matches.now c.subcommand.result c.in-Some.field-0-0 c.in-Some.words
    c.subcommand.ensures.name c.subcommand.ensures.rows c.in-Some.is in
    IfOk-weaker c.from_slice.result _ _ (λ values is. listed c.args.matches.now c.args.id.now c.in-Some.field-0-0.now (found_of c.in-Some.words.now) values.items _
    entered c.in-Some-get_strs.ensures (ap (map (λ (s : Bor Text). s.now)) is)) c.from_slice.ensures.items

pub returns-in-None : goal.returns-in-None
returns-in-None c =
    let entered = entered_some c.args.matches.now c.subcommand.result c.in-Some.field-0-0 c.in-Some.words
    c.subcommand.ensures.name c.subcommand.ensures.rows c.in-Some.is in
    listed c.args.matches.now c.args.id.now c.in-Some.field-0-0.now (found_of c.in-Some.words.now) c.new-in-None.result.items _
    entered c.in-None.ensures (ap (map (λ (s : Bor Text). s.now)) c.new-in-None.ensures.items)
