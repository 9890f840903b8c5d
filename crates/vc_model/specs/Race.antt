-- Two clones push to one branch at once: a run that is computed event by event, in the small format.
use Rattle.std.specs.Prelude.{◌≡◌, ℕ, false, List, [], ◌∷◌, ◌++◌, Some, None, Ok, Err, codes}
use Rattle.std.specs.FinMap.{FinMap, insert, remove, empty}
use Rattle.std.specs.Ordering.{nat_cmp}
use Rattle.vc_model.specs.Object.{Id, Object, Objects}
use Rattle.vc_model.specs.Object.Kind.{Tree, Commit}
use Rattle.vc_model.specs.Refs.{Refs, branch, tracking}
use Rattle.vc_model.specs.Refs.Head.{OnBranch}
use Rattle.vc_model.specs.Push.{Command, OpenPush, Slots}
use Rattle.vc_model.specs.Push.Reason.{Stale}
use Rattle.vc_model.specs.Push.Verdict.{Accepted, Refused}
use Rattle.vc_model.specs.Push.Stage.{Checked, Migrated, Finished}
use Rattle.vc_model.specs.Message.{Message, Envelope}
use Rattle.vc_model.specs.Message.Message.{Push, Report}
use Rattle.vc_model.specs.Message.Envelope.{ToShared, ToClone}
use Rattle.vc_model.specs.Node.{Node, Answer}
use Rattle.vc_model.specs.Node.Answer.{Did}
use Rattle.vc_model.specs.Node.Reply.{Sends, Opened, Passed, MigratedAll, Updated, Reported}
use Rattle.vc_model.specs.Shared.{SharedNode, opened}
use Rattle.vc_model.specs.Clone.{CloneNode, PushItem}
use Rattle.vc_model.specs.Clone.Awaited.{Nothing}
use Rattle.vc_model.specs.Clone.Task.{StartPush}
use Rattle.vc_model.specs.World.{World, Event}
use Rattle.vc_model.specs.World.Event.{Local, Deliver, StepPush}
use Rattle.vc_model.specs.Run.{Moment, History, Run, world_after}
use Rattle.vc_model.specs.Safe.{branch_value, tracking_value}
use Rattle.vc_model.specs.Small.{small_name, small_commit, small_format}

-- ---- objects: a tree without entries, a first commit, and two commits on it

abbrev pub tree_object : Object
tree_object = record { kind = Tree; body = [] }

abbrev pub tree_id : Id
tree_id = small_name tree_object

abbrev pub commit_on : (parents : List Id) (message : List ℕ) → Object
commit_on parents message = record { kind = Commit; body = small_commit tree_id parents message }

abbrev pub first_commit : Object
first_commit = commit_on [] (1 ∷ [])

abbrev pub first_id : Id
first_id = small_name first_commit

-- the commit of clone 0, and of clone 1
abbrev pub next_commit : ℕ → Object
next_commit n = commit_on (first_id ∷ []) (n ∷ [])

abbrev pub next_id : ℕ → Id
next_id n = small_name (next_commit n)

abbrev pub base : Objects
base = insert (insert empty tree_id tree_object) first_id first_commit

abbrev pub base_with : ℕ → Objects
base_with n = insert base (next_id n) (next_commit n)

abbrev pub carried_of : ℕ → Objects
carried_of n = insert empty (next_id n) (next_commit n)

-- ---- nodes

abbrev pub main : List ℕ
main = codes "main"

abbrev pub node_at : {V : Type 0} → Objects → Refs → V → Node V
node_at objects refs live = record { repository = record { objects = objects; refs = refs; head = OnBranch (branch main); index = empty }; live = Some live }

-- the shared node's refs before and after the race, and what a clone knows of them
abbrev pub main_at_first : Refs
main_at_first = insert empty (branch main) first_id

abbrev pub main_at_next : Refs
main_at_next = insert main_at_first (branch main) (next_id 3)

abbrev pub knows_first : Refs
knows_first = insert empty (tracking main) first_id

abbrev pub knows_next : Refs
knows_next = insert knows_first (tracking main) (next_id 3)

-- ---- messages

abbrev pub command_of : ℕ → Command
command_of n = record { old = first_id; new = next_id n; name = branch main }

abbrev pub push_of : ℕ → Message
push_of n = Push false None (command_of n ∷ []) (carried_of n)

abbrev pub item_of : ℕ → PushItem
item_of n = record { id = Some (next_id n); name = branch main }

-- clone 0 pushes the commit 2, and clone 1 the commit 3
abbrev pub won : Message
won = Report None (record { name = branch main; outcome = Ok (next_id 3) } ∷ [])

abbrev pub lost : Message
lost = Report None (record { name = branch main; outcome = Err 108 } ∷ [])

-- ---- the pushes in their slots

abbrev pub unpacked : ℕ → OpenPush
unpacked n = opened false None (command_of n ∷ []) (carried_of n)

abbrev pub checked : ℕ → OpenPush
checked n = record (unpacked n) { stage = Checked }

abbrev pub migrated : ℕ → OpenPush
migrated n = record (unpacked n) { stage = Migrated }

abbrev pub accepted_push : OpenPush
accepted_push = record (unpacked 3) { commands = record { command = command_of 3; verdict = Accepted } ∷ []; stage = Finished }

abbrev pub stale_push : OpenPush
stale_push = record (unpacked 2) { commands = record { command = command_of 2; verdict = Refused Stale } ∷ []; stage = Finished }

abbrev pub one_open : Slots
one_open = insert empty 0 (unpacked 2)

abbrev pub both_open : Slots
both_open = insert one_open 1 (unpacked 3)

abbrev pub one_checked : Slots
one_checked = insert both_open 0 (checked 2)

abbrev pub both_checked : Slots
both_checked = insert one_checked 1 (checked 3)

abbrev pub one_migrated : Slots
one_migrated = insert both_checked 0 (migrated 2)

abbrev pub both_migrated : Slots
both_migrated = insert one_migrated 1 (migrated 3)

abbrev pub one_updated : Slots
one_updated = insert both_migrated 1 accepted_push

abbrev pub both_updated : Slots
both_updated = insert one_updated 0 stale_push

abbrev pub one_reported : Slots
one_reported = remove both_updated 1

abbrev pub both_reported : Slots
both_reported = remove one_reported 0

-- ---- the world, event by event

abbrev pub all_objects : Objects
all_objects = insert (base_with 2) (next_id 3) (next_commit 3)

abbrev pub clones_0 : FinMap nat_cmp CloneNode
clones_0 = insert (insert empty 0 (node_at (base_with 2) knows_first Nothing)) 1 (node_at (base_with 3) knows_first Nothing)

abbrev pub clones_1 : FinMap nat_cmp CloneNode
clones_1 = insert clones_0 0 (node_at (base_with 2) knows_first Nothing)

abbrev pub clones_2 : FinMap nat_cmp CloneNode
clones_2 = insert clones_1 1 (node_at (base_with 3) knows_first Nothing)

abbrev pub clones_3 : FinMap nat_cmp CloneNode
clones_3 = insert clones_2 1 (node_at (base_with 3) knows_next Nothing)

abbrev pub clones_4 : FinMap nat_cmp CloneNode
clones_4 = insert clones_3 0 (node_at (base_with 2) knows_first Nothing)

abbrev pub sender_0 : FinMap nat_cmp ℕ
sender_0 = insert empty 0 0

abbrev pub senders_01 : FinMap nat_cmp ℕ
senders_01 = insert sender_0 1 1

abbrev pub pushes : List Envelope
pushes = ToShared 0 (push_of 2) ∷ ToShared 1 (push_of 3) ∷ []

abbrev pub world_of : SharedNode → FinMap nat_cmp CloneNode → List Envelope → FinMap nat_cmp ℕ → World
world_of shared clones sent senders = record { shared = shared; clones = clones; sent = sent; senders = senders }

abbrev pub at_first : Objects → Slots → SharedNode
at_first objects slots = node_at objects main_at_first slots

abbrev pub at_next : Slots → SharedNode
at_next slots = node_at all_objects main_at_next slots

-- The branch is at the first commit, and both clones know it. Clone 0 has made the commit 2 on it, clone 1 the commit 3.
abbrev pub race_start : World
race_start = world_of (at_first base empty) clones_0 [] empty

abbrev pub then_ : Event → Answer → World → Moment
then_ e a w = record { event = e; answer = a; world = w }

-- Both push, and their pushes take turns: the second is first to its update, and the first one is stale.
abbrev pub race : History
race =
    then_ (Deliver 3) (Did (Reported 0 (108 ∷ []))) (world_of (at_next both_reported) clones_4 (pushes ++ (ToClone 1 won ∷ ToClone 0 lost ∷ [])) senders_01)
    ∷ then_ (Deliver 2) (Did (Reported 1 [])) (world_of (at_next both_reported) clones_3 (pushes ++ (ToClone 1 won ∷ ToClone 0 lost ∷ [])) senders_01)
    ∷ then_ (StepPush 0) (Did Sends) (world_of (at_next both_reported) clones_2 (pushes ++ (ToClone 1 won ∷ ToClone 0 lost ∷ [])) senders_01)
    ∷ then_ (StepPush 1) (Did Sends) (world_of (at_next one_reported) clones_2 (pushes ++ (ToClone 1 won ∷ [])) senders_01)
    ∷ then_ (StepPush 0) (Did (Updated (branch main) (Some Stale))) (world_of (at_next both_updated) clones_2 pushes senders_01)
    ∷ then_ (StepPush 1) (Did (Updated (branch main) None)) (world_of (at_next one_updated) clones_2 pushes senders_01)
    ∷ then_ (StepPush 1) (Did MigratedAll) (world_of (at_first all_objects both_migrated) clones_2 pushes senders_01)
    ∷ then_ (StepPush 0) (Did MigratedAll) (world_of (at_first (base_with 2) one_migrated) clones_2 pushes senders_01)
    ∷ then_ (StepPush 1) (Did (Passed 1)) (world_of (at_first base both_checked) clones_2 pushes senders_01)
    ∷ then_ (StepPush 0) (Did (Passed 1)) (world_of (at_first base one_checked) clones_2 pushes senders_01)
    ∷ then_ (Deliver 1) (Did (Opened 1)) (world_of (at_first base both_open) clones_2 pushes senders_01)
    ∷ then_ (Deliver 0) (Did (Opened 0)) (world_of (at_first base one_open) clones_2 pushes sender_0)
    ∷ then_ (Local 1 (StartPush false (item_of 3 ∷ []))) (Did Sends) (world_of (at_first base empty) clones_2 pushes empty)
    ∷ then_ (Local 0 (StartPush false (item_of 2 ∷ []))) (Did Sends) (world_of (at_first base empty) clones_1 (ToShared 0 (push_of 2) ∷ []) empty)
    ∷ []

-- It is a run. At its end the branch and what clone 1 knows of it are at the commit 3, and clone 0 still knows the first commit.
abbrev pub TheRace : Type 0
TheRace =
    Run small_format race_start race
    × (branch_value (world_after race_start race) main ≡ Some (next_id 3))
    × (tracking_value (world_after race_start race) 1 main ≡ Some (next_id 3))
    × (tracking_value (world_after race_start race) 0 main ≡ Some first_id)
