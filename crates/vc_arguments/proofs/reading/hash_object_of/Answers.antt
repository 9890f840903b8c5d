use Rattle.std.proofs.Common.{◌≡◌, ◌∙◌, Bool, Option, Some, ap, ap₂, codes, option_map}
use Rattle.std.specs.Borrow.{Bor}
use Rattle.clap.specs.Walk.{Text, first_of}
use Rattle.clap.specs.Words.{found_of, rows_of}
use Rattle.clap.proofs.WalkLemmas.{first_value-rows}
use Rattle.vc_object.specs.CommitReading.{kind_of}
use Rattle.vc_object.specs.declared.kind.Kind.{Kind}
use Rattle.vc_arguments.specs.Reading.{is_on, text_of}
use Rattle.vc_arguments.specs.Views.{held}
use Rattle.vc_arguments.specs.declared.arguments.Task.TheVariants.{HashObject}
use Rattle.vc_arguments.proofs.RowLemmas.{held_value}
use Rattle.vc_arguments.proofs.reading.hash_object_of.Goals as goal

pub returns : goal.returns
returns c =
    let found = found_of c.args.words.now in
    let rows = rows_of found in
    let kind = c.in_ok-from_word.field-0 in
    let file = held_value c.get_str.result _ (c.get_str.ensures ∙ first_value-rows found (codes "file")) in
    let named : Some kind ≡ kind_of (text_of (codes "kind") rows) = c.in_ok-from_word.ensures.value ∙ ap kind_of (c.as_bytes.ensures.value ∙ c.said.ensures) in
    ap₂ (λ (write : Bool) (f : Option (Bor Text)). Some (HashObject kind write f)) c.is_on.ensures file
    ∙ ap (option_map (λ (k : Kind). HashObject k (is_on (codes "write") rows) (option_map held (first_of (codes "file") rows)))) named
