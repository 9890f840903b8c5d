-- The subcommands by a table: the name of each, and its arguments, each with how it is given.
use Rattle.std.specs.Prelude.{◌≡◌, List, [], ◌∷◌, ◌++◌, map, codes}
use Rattle.std.specs.Borrow.{Bor}
use Rattle.clap.specs.Walk.{Text}
use Rattle.vc_arguments.specs.Views.{held}
use Rattle.vc_arguments.specs.declared.forms.Argument.{Argument}
use Rattle.vc_arguments.specs.declared.forms.Form.{Form}
use Rattle.vc_arguments.specs.declared.forms.Given.{Given}
use Rattle.vc_arguments.specs.declared.forms.Given.TheVariants.{Default, OneOf, Said, Number, MaybeNumber, NumberWithout, NumberOr, Switch, SwitchBeside, Flag, One, Maybe, Any}
use Rattle.vc_arguments.specs.declared.forms.Given.TheVariants as given

-- ---- a form without what help says of it, and without where its texts lie in memory

abbrev pub given_view : Given → Given
given_view (Default value) = Default (held value.now)
given_view (OneOf values value) = OneOf values (held value.now)
given_view Said = Said
given_view (Number most) = Number most
given_view (MaybeNumber most) = MaybeNumber most
given_view (NumberWithout most other) = NumberWithout most (held other.now)
given_view (NumberOr least most value) = NumberOr least most (held value.now)
given_view Switch = Switch
given_view (SwitchBeside other) = SwitchBeside (held other.now)
given_view (Flag letter) = Flag letter
given_view One = One
given_view Maybe = Maybe
given_view given.Some = given.Some
given_view Any = Any

abbrev pub argument_view : Argument → Text × Given
argument_view argument = (argument.id.now, given_view argument.given)

abbrev pub form_view : Form → Text × List (Text × Given)
form_view form = (form.name.now, map argument_view form.arguments.now)

-- ---- the words that some options take, and the arguments that several subcommands have

-- the words that an option takes
abbrev pub Choices : Type 0
Choices = Bor (List (Bor Text))

abbrev pub Holds : Choices → List Text → Type 0
Holds choices words = map (λ word. word.now) choices.now ≡ words

abbrev pub kind_words : List Text
kind_words = codes "blob" ∷ codes "tree" ∷ codes "commit" ∷ codes "tag" ∷ []

abbrev pub part_words : List Text
part_words = codes "type" ∷ codes "size" ∷ codes "body" ∷ []

abbrev pub mode_words : List Text
mode_words = codes "100644" ∷ codes "100755" ∷ codes "120000" ∷ []

abbrev pub store : Text × Given
store = (codes "store", Default (held (codes ".git")))

abbrev pub work : Text × Given
work = (codes "work", Default (held (codes ".")))

abbrev pub port : Text × Given
port = (codes "port", Number 65535)

abbrev pub timeout : Text × Given
timeout = (codes "timeout", NumberOr 0 86400 (held (codes "60")))

abbrev pub branch : Text × Given
branch = (codes "name", One)

abbrev pub revision : Text × Given
revision = (codes "rev", One)

-- ---- the table, in its parts

abbrev pub object_forms : Choices → Choices → List (Text × List (Text × Given))
object_forms kinds parts =
    (codes "init", store ∷ [])
    ∷ (codes "hash-object", store ∷ (codes "kind", OneOf kinds (held (codes "blob"))) ∷ (codes "write", Flag 119) ∷ (codes "file", Maybe) ∷ [])
    ∷ (codes "cat-file", store ∷ (codes "show", OneOf parts (held (codes "body"))) ∷ revision ∷ [])
    ∷ []

abbrev pub revision_forms : List (Text × List (Text × Given))
revision_forms =
    (codes "show-ref", store ∷ [])
    ∷ (codes "merge-base", store ∷ (codes "first", One) ∷ (codes "second", One) ∷ [])
    ∷ (codes "rev-parse", store ∷ revision ∷ [])
    ∷ (codes "rev-list", store ∷ (codes "term", given.Some) ∷ [])
    ∷ []

abbrev pub index_forms : Choices → List (Text × List (Text × Given))
index_forms modes =
    (codes "add", store ∷ work ∷ (codes "mode", OneOf modes (held (codes "100644"))) ∷ (codes "paths", given.Some) ∷ [])
    ∷ (codes "unstage", store ∷ (codes "path", One) ∷ [])
    ∷ (codes "write-tree", store ∷ [])
    ∷ (codes "commit", store ∷ (codes "author", Said) ∷ (codes "committer", Said) ∷ (codes "message", Said) ∷ (codes "parent", Any) ∷ [])
    ∷ []

abbrev pub branch_forms : List (Text × List (Text × Given))
branch_forms =
    (codes "branch", store ∷ branch ∷ revision ∷ [])
    ∷ (codes "branch-delete", store ∷ branch ∷ [])
    ∷ (codes "pack-refs", store ∷ [])
    ∷ (codes "prune", store ∷ (codes "dry-run", Flag 110) ∷ [])
    ∷ (codes "checkout", store ∷ work ∷ revision ∷ [])
    ∷ (codes "status", store ∷ work ∷ [])
    ∷ []

abbrev pub serve_form : Text × List (Text × Given)
serve_form = (
  codes "serve",
  store ∷ port
      ∷ (codes "count", MaybeNumber 1000000)
      ∷ (codes "together", SwitchBeside (held (codes "count")))
      ∷ (codes "workers", NumberWithout 256 (held (codes "together")))
      ∷ timeout
      ∷ (codes "limit", NumberOr 1 1048576 (held (codes "4096")))
      ∷ (codes "log", Switch)
      ∷ [],
)

abbrev pub remote_forms : List (Text × List (Text × Given))
remote_forms =
    serve_form
    ∷ (codes "fetch", store ∷ port ∷ timeout ∷ [])
    ∷ (codes "push", store ∷ port ∷ timeout ∷ (codes "atomic", Switch) ∷ (codes "item", given.Some) ∷ [])
    ∷ (codes "world", (codes "file", One) ∷ [])
    ∷ []

abbrev pub forms : Choices → Choices → Choices → List (Text × List (Text × Given))
forms kinds parts modes = object_forms kinds parts ++ (revision_forms ++ (index_forms modes ++ (branch_forms ++ remote_forms)))
