-- A run of the exact relation at Git's format, event by event with its answers: a clone commits a file and pushes, the shared node
-- fails at a write and restarts, and another clone fetches. Each kind of event occurs in it but bytes that nobody sent.
use Rattle.std.specs.Prelude.{◌≡◌, ◌≤◌, ℕ, false, List, [], ◌∷◌, map, reverse, Some, None, codes}
use Rattle.std.specs.FinMap.{get}
use Rattle.vc_model.specs.Object.{Id, Objects}
use Rattle.vc_model.specs.Clone.{CloneNode}
use Rattle.vc_model.specs.Refs.{branch}
use Rattle.vc_model.specs.Node.{Answer}
use Rattle.vc_model.specs.Node.Answer.{Did, Fault}
use Rattle.vc_model.specs.Node.Failure.{Device}
use Rattle.vc_model.specs.Node.Reply.{Stored, Made, Sends, Opened, Passed, MigratedAll, Updated, Reported, Moved, Same, Removed}
use Rattle.vc_model.specs.Order.Order.{StageFile, CommitIndex, PushItems, Fetch}
use Rattle.vc_model.specs.Safe.{branch_value, tracking_value}
use Rattle.vc_model.specs.World.{IsNew}
use Rattle.vc_model.specs.World.Party.{TheShared, TheClone}
use Rattle.vc_model.specs.Wire.{Wire}
use Rattle.vc_model.specs.Exact.{IsUnfused}
use Rattle.vc_model.specs.ExactWorld.{FusedWorld, WorldEvent, ExactMoment, ExactHistory, fused_after, ExactRun, NoExactCollision, NothingForgedExactly}
use Rattle.vc_model.specs.ExactWorld.WorldEvent.{Orders, Delivers, Steps, Compares, Prunes, Packs, Restarts, Stops}
use Rattle.vc_rules.specs.Git.{git}
use Rattle.vc_runs.specs.Names.{path, plain_file, content, first_file, first_file_id, first_tree, first_tree_id, author, message, first_commit, first_commit_id}
use Rattle.vc_runs.specs.Wire.{Readings, git_wire}

abbrev pub main : List ℕ
main = codes "main"

-- what is told and what is answered, the first of it first, where the new commit has this name
abbrev pub told : Id → List (WorldEvent × Answer)
told commit =
    -- clone 0 stages a file, commits, and pushes the commit as main
    (Orders 0 (StageFile path plain_file content), Did Stored)
    ∷ (Orders 0 (CommitIndex [] author author message), Did (Made commit))
    ∷ (Orders 0 (PushItems false (record { value = Some (codes "HEAD"); name = branch main } ∷ [])), Did Sends)
    -- the push comes to the shared node, is checked, stored and accepted, and is reported
    ∷ (Delivers 0, Did (Opened 0))
    ∷ (Steps 0, Did (Passed 1))
    ∷ (Steps 0, Did MigratedAll)
    ∷ (Steps 0, Did (Updated (branch main) None))
    ∷ (Steps 0, Did Sends)
    ∷ (Delivers 1, Did (Reported 1 []))
    -- the shared node is to fail at its next write, which the same push, delivered again, asks for; it restarts
    ∷ (Stops TheShared 0, Did Stored)
    ∷ (Delivers 0, Fault Device)
    ∷ (Restarts TheShared, Did Stored)
    -- clone 1 asks for the refs, gets them, asks for the commit, and gets it
    ∷ (Orders 1 Fetch, Did Sends)
    ∷ (Delivers 2, Did Sends)
    ∷ (Delivers 3, Did Sends)
    ∷ (Delivers 4, Did Sends)
    ∷ (Delivers 5, Did (Moved 1 0))
    -- clone 0 is asked whether two expressions have one value; the shared node packs its refs, and prunes what no ref reaches
    ∷ (Compares (TheClone 0) (codes "HEAD") (codes "@"), Did Same)
    ∷ (Packs TheShared, Did Stored)
    ∷ (Prunes TheShared, Did (Removed 0))
    ∷ []

abbrev pub happened : ExactMoment → WorldEvent × Answer
happened m = (m.event, m.answer)

-- The file, the tree and the commit are there under their names.
abbrev pub HasAll : Objects → Type 0
HasAll s = (get s first_file_id ≡ Some first_file) × (get s first_tree_id ≡ Some first_tree) × (get s first_commit_id ≡ Some first_commit)

-- The history is such a run, with all that the laws of exact runs ask: no two different objects that occur have one name, and nothing
-- is forged. At its end the branch has the commit, both clones know it, and the second one has all of it.
pub record IsWitness (wire : Wire git) (start : FusedWorld) (h : ExactHistory) : Type 0 where
  pub run : ExactRun git wire start h
  pub tells : map happened h ≡ reverse (told first_commit_id)
  pub apart : NoExactCollision git wire start h
  pub honest : NothingForgedExactly git wire h
  pub branch : branch_value (fused_after start h).world main ≡ Some first_commit_id
  pub first_knows : tracking_value (fused_after start h).world 0 main ≡ Some first_commit_id
  pub second_knows : tracking_value (fused_after start h).world 1 main ≡ Some first_commit_id
  pub second_has : (n : CloneNode) × (get (fused_after start h).world.clones 1 ≡ Some n) × HasAll n.repository.objects

-- However bytes are read, and whether or not devices fail by themselves, there is such a run from each new world of two clones or
-- more in which no stop is set.
abbrev pub RunsExist : Type 0
RunsExist = (readings : Readings) (n : ℕ) (start : FusedWorld) → 2 ≤ n → IsNew start.world n → IsUnfused start →
    (h : ExactHistory) × IsWitness (git_wire readings) start h

-- There are bytes that are refused and none that are read, say; and for each number of clones there is a new world in which no stop is
-- set, and whose devices do not fail by themselves.
abbrev pub PremisesAreMet : Type 0
PremisesAreMet = Readings × ((n : ℕ) → (start : FusedWorld) × IsNew start.world n × IsUnfused start × (start.frail ≡ false))
