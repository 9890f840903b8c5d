-- The program as the parser reads it: a subcommand for each form of the table.
use Rattle.std.specs.Prelude.{◌≡◌, ◌∷◌, List, [], true, false, Some, codes}
use Rattle.std.specs.List.{fold}
use Rattle.clap.specs.Lexer.{usize_max}
use Rattle.clap.specs.Walk.{Rule, Text}
use Rattle.clap.specs.Simple.{App, new_app, new_rule, new_shape, with_rule, with_subcommand}
use Rattle.clap.specs.declared.builder.action.ArgAction.TheVariants.{SetTrue}
use Rattle.clap.specs.declared.builder.value_parser.ValueParser.TheVariants as parsers
use Rattle.vc_arguments.specs.Forms.{Choices, Holds, forms, kind_words, mode_words, part_words}
use Rattle.vc_arguments.specs.declared.forms.Given.{Given}
use Rattle.vc_arguments.specs.declared.forms.Given.TheVariants as given

-- an option that takes a value, one that takes none, and a word
abbrev pub option_rule : Text → Rule
option_rule id = record (new_rule id) { long = Some id; value_names = 1 }

abbrev pub switch_rule : Text → Rule
switch_rule id = record (new_rule id) { long = Some id; action = Some SetTrue }

abbrev pub word_rule : Text → Rule
word_rule id = record (new_rule id) { value_names = 1 }

-- what the parser reads of an argument, by how it is given
abbrev pub rule_given : Text → Given → Rule
rule_given id (given.Default value) = record (option_rule id) { defaults = value.now ∷ [] }
rule_given id (given.OneOf values value) = record (option_rule id) { parser = Some (parsers.Names values); defaults = value.now ∷ [] }
rule_given id given.Said = record (option_rule id) { required = true }
rule_given id (given.Number most) = record (option_rule id) { required = true; parser = Some (parsers.Unsigned 1 most) }
rule_given id (given.MaybeNumber most) = record (option_rule id) { parser = Some (parsers.Unsigned 1 most) }
rule_given id (given.NumberWithout most other) = record (option_rule id) { parser = Some (parsers.Unsigned 1 most); is_free = false }
rule_given id (given.NumberOr least most value) = record (option_rule id) { parser = Some (parsers.Unsigned least most); defaults = value.now ∷ [] }
rule_given id given.Switch = switch_rule id
rule_given id (given.SwitchBeside other) = record (switch_rule id) { is_free = false }
rule_given id (given.Flag letter) = record (switch_rule id) { short = Some letter }
rule_given id given.One = record (word_rule id) { required = true }
rule_given id given.Maybe = word_rule id
rule_given id given.Some = record (word_rule id) { required = true; range = Some (record { start_inclusive = 1; end_inclusive = usize_max }) }
rule_given id given.Any = record (word_rule id) { range = Some (record { start_inclusive = 0; end_inclusive = usize_max }) }

abbrev pub add_argument : App → Text × Given → App
add_argument app argument = with_rule app (rule_given argument.0 argument.1)

-- the subcommand of a form
abbrev pub app_of_form : Text × List (Text × Given) → App
app_of_form form = fold add_argument (new_app form.0) form.1

abbrev pub add_form : App → Text × List (Text × Given) → App
add_form app form = with_subcommand app (app_of_form form).top

-- the program before its subcommands
abbrev pub bare_program : App
bare_program = record {
  top = record (new_shape (codes "vcs")) { has_version = true; subcommand_required = true; arg_required_else_help = true };
  subs = [];
}

abbrev pub program_of : List (Text × List (Text × Given)) → App
program_of = fold add_form bare_program

-- the program, of which three options take these words
pub record IsProgram (app : App) : Type 0 where
  pub kinds : Choices
  pub parts : Choices
  pub modes : Choices
  pub of_kinds : Holds kinds kind_words
  pub of_parts : Holds parts part_words
  pub of_modes : Holds modes mode_words
  pub made : app ≡ program_of (forms kinds parts modes)
