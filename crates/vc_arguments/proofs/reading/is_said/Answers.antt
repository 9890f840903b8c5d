use Rattle.std.proofs.Common.{◌∙◌, Some, sym, ap}
use Rattle.clap.specs.Words.{found_of}
use Rattle.vc_arguments.specs.Reading.{is_from_words}
use Rattle.vc_arguments.proofs.RowLemmas.{source-rows}
use Rattle.vc_arguments.proofs.reading.is_said.Goals as goal

pub returns-in-Some-CommandLine : goal.returns-in-Some-CommandLine
returns-in-Some-CommandLine c =
    let given = c.value_source.ensures ∙ source-rows (found_of c.args.words.now) c.args.id.now in
    ap is_from_words (ap Some (sym c.in-Some-CommandLine.field-0-is) ∙ (sym c.in-Some-CommandLine.is ∙ given))

pub returns-in-Some-DefaultValue : goal.returns-in-Some-DefaultValue
returns-in-Some-DefaultValue c =
    let given = c.value_source.ensures ∙ source-rows (found_of c.args.words.now) c.args.id.now in
    ap is_from_words (ap Some (sym c.in-Some-DefaultValue.field-0-is) ∙ (sym c.in-Some-DefaultValue.is ∙ given))

pub returns-in-None : goal.returns-in-None
returns-in-None c =
    let given = c.value_source.ensures ∙ source-rows (found_of c.args.words.now) c.args.id.now in
    ap is_from_words (sym c.in-None.is ∙ given)
