-- Git's object format, and how the machine has its objects and modes.
use Rattle.std.specs.Prelude.{ℕ, List, None, option_map}
use Rattle.std.specs.FinMap.{get}
use Rattle.vc_format.specs.Format.{git_format}
use Rattle.vc_format.specs.Git.{kind_of}
use Rattle.vc_format.proofs.Laws.{links_agree, spells_commits, main_is_name}
use Rattle.vc_model.specs.Object.{Format, Kind, Object, Objects}
use Rattle.vc_model.specs.Object.Kind.{Blob, Tree, Commit, Tag}
use Rattle.vc_model.specs.Repository.{gitlink}
use Rattle.vc_object.specs.Decoding.{StoredObject, stored_object}
use Rattle.vc_object.specs.ObjectMap.{ObjectMap}
use Rattle.vc_object.specs.declared.kind.Kind.{Kind as ObjectKind}
use Rattle.vc_object.specs.declared.kind.Kind.TheVariants as kinds
use Rattle.vc_object.specs.declared.mode.Mode.{Mode}
use Rattle.vc_object.specs.declared.mode.Mode.TheVariants as modes

-- the machine's object format: Git's
abbrev pub git : Format
git = git_format links_agree spells_commits main_is_name

-- a kind, an object and a mode, as the machine has them
abbrev pub machine_kind : ObjectKind → Kind
machine_kind kinds.Blob = Blob
machine_kind kinds.Tree = Tree
machine_kind kinds.Commit = Commit
machine_kind kinds.Tag = Tag

abbrev pub machine_object : ObjectKind → List ℕ → Object
machine_object kind body = record { kind = machine_kind kind; body = body }

abbrev pub mode_number : Mode → ℕ
mode_number modes.Tree = 16384
mode_number modes.File = 33188
mode_number modes.SharedFile = 33204
mode_number modes.Executable = 33261
mode_number modes.Link = 40960
mode_number modes.Commit = gitlink

-- an object of the machine, as it is stored
abbrev pub stored_of : Object → StoredObject
stored_of o = stored_object (kind_of o.kind) o.body

-- no objects at all
abbrev pub no_objects : ObjectMap
no_objects id = None

-- the machine's objects by name, as the layers below have them
abbrev pub layer_objects : Objects → ObjectMap
layer_objects s id = option_map stored_of (get s id.0)
