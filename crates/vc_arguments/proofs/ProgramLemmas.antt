-- For the program: its matches are those of a simple command, so that what is read of them is what the words ask for.
use Rattle.std.proofs.Common.{◌≡◌, ◌∙◌, List, Option, true, ap, refl, subst}
use Rattle.std.specs.Borrow.{Bor}
use Rattle.clap.specs.Simple.{App, HasMatchesOf, is_simple, subcommand_rows_of}
use Rattle.clap.specs.Walk.{Row, Text}
use Rattle.clap.specs.declared.parser.matches.ArgMatches.{ArgMatches}
use Rattle.clap.proofs.OnLiterals.{clap_on_literals}
use Rattle.vc_arguments.specs.Forms.{Choices, forms}
use Rattle.vc_arguments.specs.Program.{IsProgram, program_of}
use Rattle.vc_arguments.specs.Requests.{IsReadAs, IsRequestOf}
use Rattle.vc_arguments.specs.declared.arguments.Request.{Request}

simple_table : (kinds parts modes : Choices) → is_simple (program_of (forms kinds parts modes)) ≡ true
unfolding clap_on_literals
simple_table kinds parts modes = refl

pub simple_program : (app : App) → IsProgram app → is_simple app ≡ true
simple_program app program = ap is_simple program.made ∙ simple_table program.kinds program.parts program.modes

pub request_of_words : (program : App) (words : List Text) (m : ArgMatches) (request : Request) (terms : Text) (parents items paths : List (Bor Text))
    → IsProgram program → HasMatchesOf program words m → IsReadAs (subcommand_rows_of m) request terms parents items paths
    → IsRequestOf program words request terms parents items paths
request_of_words program words m request terms parents items paths is matches read =
    subst (λ (e : Option (Text × List Row)). IsReadAs e request terms parents items paths) (matches (simple_program program is)).1 read
