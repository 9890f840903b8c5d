-- For the table of the subcommands: the words that its options take, and the loops over it.
use Rattle.std.proofs.Common.{◌≡◌, ◌∙◌, ◌++◌, ◌+◌, ◌<◌, ◌≤◌, ℕ, List, [], ◌∷◌, map, length, take, get_or, zero, suc, sym, ap, ap₂}
use Rattle.std.specs.List.{fold}
use Rattle.std.proofs.lemmas.List.{take_all}
use Rattle.std.proofs.lemmas.List.Folds.{fold-map}
use Rattle.std.proofs.lemmas.List.Sums.{fold-append, fold_more}
use Rattle.clap.specs.Simple.{App, with_rule, with_subcommand}
use Rattle.clap.specs.Walk.{Rule, Text}
use Rattle.vc_arguments.specs.Forms.{Choices, argument_view, form_view, given_view}
use Rattle.vc_arguments.specs.Program.{add_argument, add_form, app_of_form, rule_given}
use Rattle.vc_arguments.specs.declared.forms.Argument.{Argument}
use Rattle.vc_arguments.specs.declared.forms.Form.{Form}
use Rattle.vc_arguments.specs.declared.forms.Given.{Given}
use Rattle.vc_arguments.specs.declared.forms.Given.TheVariants.{OneOf}

abbrev pub no_choices : Choices
no_choices = record { ref_ptr = (0, 0); now = [] }

abbrev pub given_choices : Given → Choices
given_choices (OneOf values value) = values
given_choices other = no_choices

-- the words that the argument at this place takes
abbrev pub choices_at : ℕ → List Argument → Choices
choices_at n [] = no_choices
choices_at zero (argument ∷ rest) = given_choices argument.given
choices_at (suc n) (argument ∷ rest) = choices_at n rest

-- the words that the argument at the second place takes, of the form at the first
abbrev pub choices_in : ℕ → ℕ → List Form → Choices
choices_in n k [] = no_choices
choices_in zero k (form ∷ rest) = choices_at k form.arguments.now
choices_in (suc n) k (form ∷ rest) = choices_in n k rest

-- ---- for the loops over the table

abbrev pub add_viewed : App → Argument → App
add_viewed app argument = add_argument app (argument_view argument)

abbrev pub add_viewed_form : App → Form → App
add_viewed_form app form = add_form app (form_view form)

pub one_more_argument : (app start : App) (arguments : List Argument) (i : ℕ) (d : Argument) (rule : Rule) → i < length arguments
    → app ≡ fold add_viewed start (take i arguments) → rule ≡ rule_given (get_or arguments i d).id.now (given_view (get_or arguments i d).given)
    → with_rule app rule ≡ fold add_viewed start (take (i + 1) arguments)
one_more_argument app start arguments i d rule lt is made = ap₂ with_rule is made ∙ sym (fold_more add_viewed start arguments i d lt)

pub one_more_form : (app start : App) (forms : List Form) (i : ℕ) (d : Form) (sub : App) → i < length forms
    → app ≡ fold add_viewed_form start (take i forms) → sub ≡ app_of_form (form_view (get_or forms i d))
    → with_subcommand app sub.top ≡ fold add_viewed_form start (take (i + 1) forms)
one_more_form app start forms i d sub lt is made =
    ap₂ (λ (a s : App). with_subcommand a s.top) is made ∙ sym (fold_more add_viewed_form start forms i d lt)

-- all arguments, and all forms
pub all_arguments : (start : App) (arguments : List Argument) (i : ℕ) → length arguments ≤ i
    → fold add_viewed start (take i arguments) ≡ fold add_argument start (map argument_view arguments)
all_arguments start arguments i le = ap (fold add_viewed start) (take_all i arguments le) ∙ sym (fold-map add_argument argument_view start arguments)

pub all_forms : (start : App) (forms : List Form) (i : ℕ) → length forms ≤ i
    → fold add_viewed_form start (take i forms) ≡ fold add_form start (map form_view forms)
all_forms start forms i le = ap (fold add_viewed_form start) (take_all i forms le) ∙ sym (fold-map add_form form_view start forms)

-- ---- the parts of the table

part : (a b : App) (x rest : List (Text × List (Text × Given))) → b ≡ fold add_form a x → fold add_form a (x ++ rest) ≡ fold add_form b rest
part a b x rest is = fold-append add_form a x rest ∙ ap (λ (c : App). fold add_form c rest) (sym is)

pub in_parts : (a b c d e f : App) (v w x y z : List (Text × List (Text × Given))) → b ≡ fold add_form a v → c ≡ fold add_form b w → d ≡ fold add_form c x
    → e ≡ fold add_form d y → f ≡ fold add_form e z → f ≡ fold add_form a (v ++ (w ++ (x ++ (y ++ z))))
in_parts a b c d e f v w x y z bs cs ds es fs =
    fs ∙ sym (part a b v (w ++ (x ++ (y ++ z))) bs ∙ (part b c w (x ++ (y ++ z)) cs ∙ (part c d x (y ++ z) ds ∙ part d e y z es)))
