-- Some command lines, and what they ask for.
use Rattle.std.specs.Prelude.{◌≡◌, ◌==◌, true, false, List, [], ◌∷◌, Option, Some, None, codes}
use Rattle.std.specs.List.{slice_split}
use Rattle.clap.specs.Simple.{subcommand_of}
use Rattle.clap.specs.Walk.{Row, Text}
use Rattle.vc_object.specs.declared.kind.Kind.TheVariants as kinds_of
use Rattle.vc_arguments.specs.Forms.{Choices, forms}
use Rattle.vc_arguments.specs.Program.{program_of}
use Rattle.vc_arguments.specs.Requests.{list_of, option_without_folder, request_of, terms_of}
use Rattle.vc_arguments.specs.Views.{held}
use Rattle.vc_arguments.specs.declared.arguments.FileMode.TheVariants as file_modes
use Rattle.vc_arguments.specs.declared.arguments.LocalTask.{LocalTask}
use Rattle.vc_arguments.specs.declared.arguments.LocalTask.TheVariants as locals
use Rattle.vc_arguments.specs.declared.arguments.Part.TheVariants as object_parts
use Rattle.vc_arguments.specs.declared.arguments.RemoteTask.{RemoteTask}
use Rattle.vc_arguments.specs.declared.arguments.RemoteTask.TheVariants as remotes
use Rattle.vc_arguments.specs.declared.arguments.Request.{Request}
use Rattle.vc_arguments.specs.declared.arguments.Serving.{Serving}
use Rattle.vc_arguments.specs.declared.arguments.Task.{Task}
use Rattle.vc_arguments.specs.declared.arguments.Task.TheVariants as tasks
use Rattle.vc_arguments.specs.declared.arguments.Words.{Words}

-- a request on the store that no word names, and one on a store that the words name
abbrev pub unnamed : Task → Request
unnamed task = record { store = held (codes ".git"); is_named = false; task = task }

abbrev pub named : Text → Task → Request
named store task = record { store = held store; is_named = true; task = task }

abbrev pub words_m : Words
words_m = record { author = held (codes "A"); committer = held (codes "C"); message = held (codes "m") }

abbrev pub served_together : Serving
served_together = record { port = 7000; count = Some 3; together = true; workers = None; timeout = 5; limit = 10; log = true }

abbrev pub served_by_workers : Serving
served_by_workers = record { port = 1; count = None; together = false; workers = Some 16; timeout = 60; limit = 4096; log = false }

module _ (kinds parts modes : Choices) where
  -- what a line is read as, of which one space stands between two words
  abbrev pub entered : Text → Option (Text × List Row)
  entered line = subcommand_of (program_of (forms kinds parts modes)) (slice_split (λ b. b == 32) line)

  abbrev pub Asks : Text → Task → Type 0
  Asks line task = request_of (entered line) ≡ Some (unnamed task)

  pub record KnowsTasks : Type 0 where
    pub init : Asks (codes "vcs init") tasks.Init
    pub hash_object : Asks (codes "vcs hash-object --kind tree -w f") (tasks.HashObject kinds_of.Tree true (Some (held (codes "f"))))
    pub hash_input : Asks (codes "vcs hash-object") (tasks.HashObject kinds_of.Blob false None)
    pub cat_file : Asks (codes "vcs cat-file --show size main") (tasks.CatFile object_parts.Size (held (codes "main")))
    pub show_ref : request_of (entered (codes "vcs show-ref --store s")) ≡ Some (named (codes "s") tasks.ShowRef)
    pub merge_base : Asks (codes "vcs merge-base a b") (tasks.MergeBase (held (codes "a")) (held (codes "b")))
    pub rev_parse : Asks (codes "vcs rev-parse a") (tasks.RevParse (held (codes "a")))
    pub rev_list : Asks (codes "vcs rev-list main ^topic") tasks.RevList
    pub prune : Asks (codes "vcs prune") (tasks.Prune false)
    pub prune_dry : Asks (codes "vcs prune -n") (tasks.Prune true)
    pub world : request_of (entered (codes "vcs world f")) ≡ Some (unnamed (tasks.World (held (codes "f"))))
    pub help : request_of (entered (codes "vcs help")) ≡ None

  abbrev pub AsksClone : Text → LocalTask → Type 0
  AsksClone line task = Asks line (tasks.Local task)

  pub record KnowsLocalTasks : Type 0 where
    pub add : AsksClone (codes "vcs add --mode 100755 --work w a b") (locals.Add file_modes.Executable (held (codes "w")))
    pub unstage : AsksClone (codes "vcs unstage a") (locals.Unstage (held (codes "a")))
    pub write_tree : AsksClone (codes "vcs write-tree") locals.WriteTree
    pub commit : AsksClone (codes "vcs commit --author A --committer C --message m p q") (locals.Commit words_m)
    pub branch : AsksClone (codes "vcs branch b main~2") (locals.Branch (held (codes "b")) (held (codes "main~2")))
    pub branch_delete : AsksClone (codes "vcs branch-delete b") (locals.BranchDelete (held (codes "b")))
    pub pack_refs : AsksClone (codes "vcs pack-refs") locals.PackRefs
    pub checkout : AsksClone (codes "vcs checkout main") (locals.Checkout (held (codes ".")) (held (codes "main")))
    pub status : AsksClone (codes "vcs status --work w") (locals.Status (held (codes "w")))

  abbrev pub AsksRemote : Text → RemoteTask → Type 0
  AsksRemote line task = Asks line (tasks.Remote task)

  pub record KnowsRemoteTasks : Type 0 where
    pub together : AsksRemote (codes "vcs serve --port 7000 --count 3 --together --timeout 5 --limit 10 --log") (remotes.Serve served_together)
    pub workers : AsksRemote (codes "vcs serve --port 1 --workers 16") (remotes.Serve served_by_workers)
    pub fetch : AsksRemote (codes "vcs fetch --port=7000") (remotes.Fetch 7000 60)
    pub push : AsksRemote (codes "vcs push --port 7000 --timeout 0 --atomic main") (remotes.Push 7000 0 true)

  pub record KnowsLists : Type 0 where
    pub terms : terms_of (entered (codes "vcs rev-list main ^topic")) ≡ codes "main ^topic"
    pub parents : list_of (codes "parent") (entered (codes "vcs commit --author A --committer C --message m p q")) ≡ codes "p" ∷ codes "q" ∷ []
    pub items : list_of (codes "item") (entered (codes "vcs push --port 7000 main a:b")) ≡ codes "main" ∷ codes "a:b" ∷ []
    pub paths : list_of (codes "paths") (entered (codes "vcs add a b")) ≡ codes "a" ∷ codes "b" ∷ []
    pub no_store : option_without_folder (entered (codes "vcs status --store= --work=")) ≡ Some (codes "--store")
    pub no_work : option_without_folder (entered (codes "vcs status --work=")) ≡ Some (codes "--work")
    pub folders : option_without_folder (entered (codes "vcs status")) ≡ None

  pub record KnowsLines : Type 0 where
    pub tasks : KnowsTasks
    pub local_tasks : KnowsLocalTasks
    pub remote_tasks : KnowsRemoteTasks
    pub lists : KnowsLists
