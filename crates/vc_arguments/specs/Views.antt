-- Requests without where their texts lie in memory.
use Rattle.std.specs.Prelude.{option_map}
use Rattle.std.specs.Borrow.{Bor}
use Rattle.clap.specs.Walk.{Text}
use Rattle.vc_arguments.specs.declared.arguments.LocalTask.{LocalTask}
use Rattle.vc_arguments.specs.declared.arguments.LocalTask.TheVariants as locals
use Rattle.vc_arguments.specs.declared.arguments.Request.{Request}
use Rattle.vc_arguments.specs.declared.arguments.Task.{Task}
use Rattle.vc_arguments.specs.declared.arguments.Task.TheVariants as tasks
use Rattle.vc_arguments.specs.declared.arguments.Words.{Words}

-- a text as a request holds it, wherever it lies
abbrev pub held : Text → Bor Text
held text = record { ref_ptr = (0, 0); now = text }

abbrev pub words_view : Words → Words
words_view words = record { author = held words.author.now; committer = held words.committer.now; message = held words.message.now }

abbrev pub local_task_view : LocalTask → LocalTask
local_task_view (locals.Add mode work) = locals.Add mode (held work.now)
local_task_view (locals.Unstage path) = locals.Unstage (held path.now)
local_task_view locals.WriteTree = locals.WriteTree
local_task_view (locals.Commit words) = locals.Commit (words_view words)
local_task_view (locals.Branch name revision) = locals.Branch (held name.now) (held revision.now)
local_task_view (locals.BranchDelete name) = locals.BranchDelete (held name.now)
local_task_view locals.PackRefs = locals.PackRefs
local_task_view (locals.Checkout work revision) = locals.Checkout (held work.now) (held revision.now)
local_task_view (locals.Status work) = locals.Status (held work.now)

abbrev pub task_view : Task → Task
task_view (tasks.HashObject kind write file) = tasks.HashObject kind write (option_map (λ f. held f.now) file)
task_view (tasks.CatFile part revision) = tasks.CatFile part (held revision.now)
task_view (tasks.MergeBase first second) = tasks.MergeBase (held first.now) (held second.now)
task_view (tasks.RevParse revision) = tasks.RevParse (held revision.now)
task_view (tasks.Local task) = tasks.Local (local_task_view task)
task_view (tasks.World file) = tasks.World (held file.now)
task_view tasks.Init = tasks.Init
task_view tasks.ShowRef = tasks.ShowRef
task_view tasks.RevList = tasks.RevList
task_view (tasks.Prune dry_run) = tasks.Prune dry_run
task_view (tasks.Remote task) = tasks.Remote task

abbrev pub request_view : Request → Request
request_view request = record { store = held request.store.now; is_named = request.is_named; task = task_view request.task }
