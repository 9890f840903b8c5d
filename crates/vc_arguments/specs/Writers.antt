-- Which commands write to their store, and which look for one.
use Rattle.std.specs.Prelude.{Bool, true, false, not}
use Rattle.vc_arguments.specs.declared.arguments.LocalTask.{LocalTask}
use Rattle.vc_arguments.specs.declared.arguments.LocalTask.TheVariants as locals
use Rattle.vc_arguments.specs.declared.arguments.Task.{Task}
use Rattle.vc_arguments.specs.declared.arguments.Task.TheVariants.{Init, HashObject, Prune, Local, Remote, World}

-- of a clone's commands all but `status` write
abbrev pub is_local_writer : LocalTask → Bool
is_local_writer (locals.Status work) = false
is_local_writer _ = true

-- `init`, `hash-object --write`, `prune` without `--dry-run`, what writes of a clone's commands, and what speaks to another process
abbrev pub is_writer : Task → Bool
is_writer Init = true
is_writer (HashObject kind write file) = write
is_writer (Prune dry_run) = not dry_run
is_writer (Local task) = is_local_writer task
is_writer (Remote task) = true
is_writer _ = false

-- every command but `init`, `world`, and `hash-object` without `--write`
abbrev pub needs_store : Task → Bool
needs_store Init = false
needs_store (HashObject kind write file) = write
needs_store (World file) = false
needs_store _ = true
