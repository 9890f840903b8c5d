-- Which request the words of a command line spell: which value of which argument is which part of it.
use Rattle.std.specs.Prelude.{Bool, false, List, [], Option, Some, None, if◌then◌else◌, codes, unwrap_or, option_map, length, ◌==◌, ◌&&◌, ◌||◌, ◌≡◌, map}
use Rattle.std.specs.Borrow.{Bor}
use Rattle.std.specs.List.{join_by}
use Rattle.std.specs.Str.{bytes_eq}
use Rattle.clap.specs.Simple.{App, subcommand_of}
use Rattle.clap.specs.Walk.{Row, Text, first_of}
use Rattle.vc_object.specs.CommitReading.{kind_of}
use Rattle.vc_object.specs.Items.{◌>>=◌}
use Rattle.vc_arguments.specs.Reading.{is_on, is_said, mode_named, number_of, part_named, text_of, texts_of}
use Rattle.vc_arguments.specs.Views.{held, request_view}
use Rattle.vc_arguments.specs.declared.arguments.LocalTask.{LocalTask}
use Rattle.vc_arguments.specs.declared.arguments.LocalTask.TheVariants.{Add, Unstage, WriteTree, Commit, Branch, BranchDelete, PackRefs, Checkout, Status}
use Rattle.vc_arguments.specs.declared.arguments.RemoteTask.{RemoteTask}
use Rattle.vc_arguments.specs.declared.arguments.RemoteTask.TheVariants.{Serve, Fetch, Push}
use Rattle.vc_arguments.specs.declared.arguments.Request.{Request}
use Rattle.vc_arguments.specs.declared.arguments.Serving.{Serving}
use Rattle.vc_arguments.specs.declared.arguments.Task.{Task}
use Rattle.vc_arguments.specs.declared.arguments.Task.TheVariants.{Init, HashObject, CatFile, ShowRef, MergeBase, RevParse, RevList, Prune, Local, Remote, World}
use Rattle.vc_arguments.specs.declared.arguments.Words.{Words}

-- the text of an argument, as a request holds it
abbrev pub said : Text → List Row → Bor Text
said id rows = held (text_of id rows)

-- ---- the subcommands of a clone

abbrev pub add_of : List Row → Option LocalTask
add_of rows = option_map (λ mode. Add mode (said (codes "work") rows)) (mode_named (text_of (codes "mode") rows))

abbrev pub words_of : List Row → Words
words_of rows = record {
  author = said (codes "author") rows;
  committer = said (codes "committer") rows;
  message = said (codes "message") rows;
}

abbrev pub local_task_of : Text → List Row → Option LocalTask
local_task_of name rows =
    if bytes_eq name (codes "add") then add_of rows
    else if bytes_eq name (codes "unstage") then Some (Unstage (said (codes "path") rows))
    else if bytes_eq name (codes "write-tree") then Some WriteTree
    else if bytes_eq name (codes "commit") then Some (Commit (words_of rows))
    else if bytes_eq name (codes "branch") then Some (Branch (said (codes "name") rows) (said (codes "rev") rows))
    else if bytes_eq name (codes "branch-delete") then Some (BranchDelete (said (codes "name") rows))
    else if bytes_eq name (codes "pack-refs") then Some PackRefs
    else if bytes_eq name (codes "checkout") then Some (Checkout (said (codes "work") rows) (said (codes "rev") rows))
    else if bytes_eq name (codes "status") then Some (Status (said (codes "work") rows))
    else None

-- ---- the subcommands that speak to another process

abbrev pub serving_of : List Row → Option Serving
serving_of rows = do
  port ← number_of 16 (codes "port") rows
  timeout ← number_of 32 (codes "timeout") rows
  limit ← number_of 64 (codes "limit") rows
  Some (record {
    port = port;
    count = number_of 32 (codes "count") rows;
    together = is_on (codes "together") rows;
    workers = number_of 32 (codes "workers") rows;
    timeout = timeout;
    limit = limit;
    log = is_on (codes "log") rows;
  })

abbrev pub fetch_of : List Row → Option RemoteTask
fetch_of rows = do
  port ← number_of 16 (codes "port") rows
  timeout ← number_of 32 (codes "timeout") rows
  Some (Fetch port timeout)

abbrev pub push_of : List Row → Option RemoteTask
push_of rows = do
  port ← number_of 16 (codes "port") rows
  timeout ← number_of 32 (codes "timeout") rows
  Some (Push port timeout (is_on (codes "atomic") rows))

-- ---- all subcommands

abbrev pub hash_object_of : List Row → Option Task
hash_object_of rows =
    option_map (λ kind. HashObject kind (is_on (codes "write") rows) (option_map held (first_of (codes "file") rows)))
    (kind_of (text_of (codes "kind") rows))

abbrev pub cat_file_of : List Row → Option Task
cat_file_of rows = option_map (λ part. CatFile part (said (codes "rev") rows)) (part_named (text_of (codes "show") rows))

abbrev pub task_of : Text → List Row → Option Task
task_of name rows =
    if bytes_eq name (codes "init") then Some Init
    else if bytes_eq name (codes "hash-object") then hash_object_of rows
    else if bytes_eq name (codes "cat-file") then cat_file_of rows
    else if bytes_eq name (codes "show-ref") then Some ShowRef
    else if bytes_eq name (codes "merge-base") then Some (MergeBase (said (codes "first") rows) (said (codes "second") rows))
    else if bytes_eq name (codes "rev-parse") then Some (RevParse (said (codes "rev") rows))
    else if bytes_eq name (codes "rev-list") then Some RevList
    else if bytes_eq name (codes "prune") then Some (Prune (is_on (codes "dry-run") rows))
    else if bytes_eq name (codes "serve") then option_map (λ serving. Remote (Serve serving)) (serving_of rows)
    else if bytes_eq name (codes "fetch") then option_map Remote (fetch_of rows)
    else if bytes_eq name (codes "push") then option_map Remote (push_of rows)
    else if bytes_eq name (codes "world") then Some (World (said (codes "file") rows))
    else option_map Local (local_task_of name rows)

-- the folder of the store: the one that the words name, or else this one
abbrev pub store_of : List Row → Bor Text
store_of rows = held (unwrap_or (first_of (codes "store") rows) (codes ".git"))

-- ---- what a parse asks for, by the subcommand that it entered and the rows of that one

abbrev pub request_of : Option (Text × List Row) → Option Request
request_of None = None
request_of (Some p) = option_map (λ task. record { store = store_of p.1; is_named = is_said (codes "store") p.1; task = task }) (task_of p.0 p.1)

-- the texts of an argument that may have many
abbrev pub list_of : Text → Option (Text × List Row) → List Text
list_of id None = []
list_of id (Some p) = texts_of id p.1

-- the terms, with a space between two
abbrev pub terms_of : Option (Text × List Row) → Text
terms_of entered = join_by (λ term. term) (codes " ") (list_of (codes "term") entered)

-- the value is there, and empty
abbrev pub is_empty_value : Option Text → Bool
is_empty_value None = false
is_empty_value (Some text) = length text == 0

abbrev pub has_work : Text → Bool
has_work name = bytes_eq name (codes "add") || bytes_eq name (codes "checkout") || bytes_eq name (codes "status")

-- the first option that is to name a folder and names none
abbrev pub option_without_folder : Option (Text × List Row) → Option Text
option_without_folder None = None
option_without_folder (Some p) =
    if is_empty_value (first_of (codes "store") p.1) then Some (codes "--store")
    else if has_work p.0 && is_empty_value (first_of (codes "work") p.1) then Some (codes "--work")
    else None

-- ---- for callers

-- what a parse hands on: the request, and the words of which there may be many
pub record IsReadAs (entered : Option (Text × List Row)) (request : Request) (terms : Text) (parents items paths : List (Bor Text)) : Type 0 where
  pub asked : request_of entered ≡ Some (request_view request)
  pub selected : terms ≡ terms_of entered
  pub merged : map (λ parent. parent.now) parents ≡ list_of (codes "parent") entered
  pub pushed : map (λ item. item.now) items ≡ list_of (codes "item") entered
  pub added : map (λ path. path.now) paths ≡ list_of (codes "paths") entered
  pub folders : option_without_folder entered ≡ None

-- the words of a command line give the request and its lists, if they are read by this program
abbrev pub IsRequestOf : App → List Text → Request → Text → List (Bor Text) → List (Bor Text) → List (Bor Text) → Type 0
IsRequestOf program words = IsReadAs (subcommand_of program words)
