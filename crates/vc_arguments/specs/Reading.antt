-- What an argument is given, by the rows that the parse found, and which words name a mode or a part.
use Rattle.std.specs.Prelude.{ℕ, Bool, true, false, List, [], Option, Some, None, if◌then◌else◌, codes, unwrap_or, option_and_then, find, nat_lt, ◌&&◌, ◌^◌}
use Rattle.std.specs.Str.{bytes_eq}
use Rattle.std.specs.Str.Parse.{digits_value, without_leading_plus}
use Rattle.clap.specs.ValueTests.{is_numeral}
use Rattle.clap.specs.Walk.{Row, Text, all_of, first_of, one_of}
use Rattle.clap.specs.declared.parser.matches.ValueSource.{ValueSource}
use Rattle.clap.specs.declared.parser.matches.ValueSource.TheVariants.{DefaultValue, CommandLine}
use Rattle.vc_arguments.specs.declared.arguments.FileMode.{FileMode}
use Rattle.vc_arguments.specs.declared.arguments.FileMode.TheVariants as modes
use Rattle.vc_arguments.specs.declared.arguments.Part.{Part}
use Rattle.vc_arguments.specs.declared.arguments.Part.TheVariants as parts

-- the text of an argument; without one, nothing
abbrev pub text_of : Text → List Row → Text
text_of id rows = unwrap_or (first_of id rows) []

-- all texts of an argument that may have many; without one, none
abbrev pub texts_of : Text → List Row → List Text
texts_of id rows = unwrap_or (all_of id rows) []

-- the value of a switch that is on
abbrev pub is_true : Option Text → Bool
is_true None = false
is_true (Some text) = bytes_eq text (codes "true")

-- a switch is on
abbrev pub is_on : Text → List Row → Bool
is_on id rows = is_true (one_of id rows)

-- a value comes from the words, and not from a default
abbrev pub is_from_words : Option ValueSource → Bool
is_from_words None = false
is_from_words (Some DefaultValue) = false
is_from_words (Some CommandLine) = true

-- the words name an argument
abbrev pub is_said : Text → List Row → Bool
is_said id rows = is_from_words (option_and_then (λ r. r.source) (find (λ r. bytes_eq r.id id) rows))

-- a decimal numeral below 2^bits, which may have a plus before it
abbrev pub number : ℕ → Text → Option ℕ
number bits text =
    let digits = without_leading_plus text in
    if is_numeral digits && nat_lt (digits_value 10 digits) (2 ^ bits) then Some (digits_value 10 digits)
    else None

-- the number of an argument
abbrev pub number_of : ℕ → Text → List Row → Option ℕ
number_of bits id rows = option_and_then (number bits) (one_of id rows)

-- the mode that a word names
abbrev pub mode_named : Text → Option FileMode
mode_named text =
    if bytes_eq text (codes "100644") then Some modes.Plain
    else if bytes_eq text (codes "100755") then Some modes.Executable
    else if bytes_eq text (codes "120000") then Some modes.Link
    else None

-- the part of an object that a word names
abbrev pub part_named : Text → Option Part
part_named text =
    if bytes_eq text (codes "type") then Some parts.Kind
    else if bytes_eq text (codes "size") then Some parts.Size
    else if bytes_eq text (codes "body") then Some parts.Body
    else None
