-- What the commands of a clone do: its files are opened, and a step of the machine follows.
use Rattle.std.specs.Prelude.{◌≡◌, ◌⊎◌, ℕ, Bool, true, List, [], ◌∷◌, Option, Result, Ok, Err, IfErr, OnErr, map}
use Rattle.std.specs.Io.KnownBytes.{Appends, Keeps}
use Rattle.vc_arguments.specs.declared.arguments.Words.{Words}
use Rattle.vc_files.specs.FileMap.{FileMap}
use Rattle.vc_index.specs.IndexMap.{IndexMap}
use Rattle.vc_index.specs.WrittenTrees.{IsBegun, IsOfWrite, IsWritten}
use Rattle.vc_index.specs.declared.faults.IndexFault.{IndexFault}
use Rattle.vc_model.specs.Clone.{Task}
use Rattle.vc_model.specs.Clone.Task.{DeleteBranch, MakeCommit, MoveHead, SetBranch}
use Rattle.vc_local.specs.Blames.{BlamesOpen}
use Rattle.vc_local.specs.Clean.{KeepsClean, KeepsCleanBut}
use Rattle.vc_local.specs.Commit.{IsCommitted}
use Rattle.vc_model.specs.Node.{Answer}
use Rattle.vc_model.specs.Refs.Head.{Detached}
use Rattle.vc_local.specs.Machine.{Answers, AnswersIfSound, AnswersShown, AnswersShownIfSound, OrBadFile, done_answer, made_answer, up_after}
use Rattle.vc_local.specs.Making.{EndsCommit}
use Rattle.vc_local.specs.NodeFault.{of_index}
use Rattle.vc_local.specs.Reads.{IsAtHead, IsAtName, IsItsFile, IsOfCommit as IsReadByCommit, IsReached, NoneRead, TellsRead}
use Rattle.vc_local.specs.Emptying.{IsOpened, LosesCarried}
use Rattle.vc_local.specs.Shown.{Shown, shown}
use Rattle.vc_local.specs.declared.fault.NodeFault.{NodeFault}
use Rattle.vc_object.specs.declared.id.ObjectId.{ObjectId}
use Rattle.vc_refname.specs.RefName.{IsRefName}
use Rattle.vc_repository.specs.IndexFile.{IsIndexOf, IsOfIndexFile}
use Rattle.vc_rev.specs.declared.refusal.RevFault.TheVariants as revs
use Rattle.vc_object_map.specs.Store.{objects, IsDamaged}
use Rattle.vc_working.specs.CloneWords.{IsOfBranch, branch_ref}
use Rattle.vc_cli.specs.Failure.{IsFault}
use Rattle.vc_cli.specs.Printed.{AppendsFront, id_line}
use Rattle.vc_cli.specs.Revisions.{Denoted, IsOfRevision}
use Rattle.vc_cli.specs.declared.failure.Failure.{Failure}
use Rattle.vc_cli.specs.declared.failure.Failure.TheVariants.{Node, Revision}

-- what a refused task leaves: the files as they were, but for how refs stand in them where one was to go
abbrev pub LeavesAt : Task → FileMap → FileMap → Type 0
LeavesAt (DeleteBranch name) old new = shown new ≡ shown old
LeavesAt _ old new = new ≡ old

-- no file is made bad
abbrev pub KeepsAt : Task → FileMap → FileMap → Type 0
KeepsAt (DeleteBranch name) = KeepsCleanBut name
KeepsAt _ = KeepsClean

-- the object's id, whose bytes these are
abbrev pub object_named : List ℕ → ObjectId
object_named bytes = record { 0 = bytes }

-- a bad file that is told is one that the task reads: what the new value reaches, what is at the branch's name, or none
abbrev pub ReadsAt : Task → FileMap → NodeFault → Type 0
ReadsAt (SetBranch name id) content = TellsRead (IsReached content (object_named id)) (IsAtName content name)
ReadsAt (MoveHead (Detached id)) content = TellsRead (IsReached content (object_named id)) NoneRead
ReadsAt (DeleteBranch name) content = TellsRead NoneRead (IsItsFile name)
ReadsAt _ content = TellsRead NoneRead NoneRead

-- the machine answers the command so; where it is looked at a commit, at a sound clone, since all is taken to be there that refs reach
abbrev pub AnswersBy : Task → Answer → (was_up is_up : Bool) → FileMap → FileMap → Type 0
AnswersBy (SetBranch name id) = AnswersIfSound (SetBranch name id)
AnswersBy (MoveHead head) = AnswersIfSound (MoveHead head)
AnswersBy task = Answers task

-- the same by what is shown
abbrev pub AnswersShownBy : Task → Answer → (was_up is_up : Bool) → Shown → Shown → Type 0
AnswersShownBy (SetBranch name id) = AnswersShownIfSound (SetBranch name id)
AnswersShownBy (MoveHead head) = AnswersShownIfSound (MoveHead head)
AnswersShownBy task = AnswersShown task

-- the files were opened as a clone's, and then the machine answers the command so; over files of which some are bad, it does
-- by what they show, or a bad one that it reads is told
pub record StepsTo (task : Task) (answer : Result (Unit {0}) NodeFault) (old new : FileMap) : Type 0 where
  pub between : FileMap
  pub opened : IsOpened old between
  pub answers : AnswersBy task (done_answer answer) true (up_after answer) between new
  pub bad_file : OrBadFile between answer (AnswersShownBy task (done_answer answer) true (up_after answer) (shown between) (shown new))
  pub left : OnErr answer (LeavesAt task between new)
  pub reads : IfErr answer (ReadsAt task between)
  pub clean : KeepsAt task between new

-- why a command gives no answer: the files are no clone's, and stay but for what stood in quarantine; or the machine answers so
abbrev pub IsOfStep : Task → FileMap → FileMap → Failure → Type 0
IsOfStep task old new (Node fault) = (BlamesOpen old fault × LosesCarried old new) ⊎ StepsTo task (Err fault) old new
IsOfStep task old new _ = ⊥

-- the branch of that name is set to what the revision has
pub record SetsBranch (old : FileMap) (name revision : List ℕ) (new : FileMap) : Type 0 where
  pub id : ObjectId
  pub value : Denoted old revision (Ok id)
  pub step : StepsTo (SetBranch (branch_ref name) id.0) (Ok tt) old new

-- why there is nothing to set: no branch has the name; or one may, and the revision has no value
abbrev pub IsOfTarget : FileMap → (name revision : List ℕ) → Failure → Type 0
IsOfTarget old name revision e = IsOfBranch name e ⊎ (IsRefName (branch_ref name) × IsOfRevision old revision e)

-- why a branch isn't set: that leaves the files as they were; or there is what to set, and it is what the step answers
pub data IsOfSetting (old : FileMap) (name revision : List ℕ) (new : FileMap) (e : Failure) : Type 0 where
  of_target : IsOfTarget old name revision e → new ≡ old → IsOfSetting old name revision new e
  of_step : (id : ObjectId) → IsRefName (branch_ref name) → Denoted old revision (Ok id) → IsOfStep (SetBranch (branch_ref name) id.0) old new e → IsOfSetting old name revision new e

-- the trees of the index in its file were written, and the id is that of the root's
abbrev pub WritesTree : Type 0 → FileMap → FileMap → ObjectId → Type 0
WritesTree honest old new id = (index : IndexMap) × IsIndexOf old index × IsWritten honest index (objects old) (objects new) id

-- why no tree is written: the file of the index spells none; a tree is refused, its file was damaged before, or a fault
abbrev pub IsOfTree : FileMap → Failure → Type 0
IsOfTree old (Revision (revs.Source fault)) = IsOfIndexFile old fault
IsOfTree old (Node fault) = (index : IndexMap) × (e : IndexFault) × IsIndexOf old index × IsOfWrite index (IsDamaged old) e × (fault ≡ of_index e)
IsOfTree old _ = ⊥

-- what a writing of trees leaves that ended early: nothing, or the first of the index's trees
abbrev pub LeavesTrees : Type 0 → FileMap → FileMap → Type 0
LeavesTrees honest old new = (new ≡ old) ⊎ ((index : IndexMap) × IsIndexOf old index × IsBegun honest index (objects old) (objects new))

-- the ids are what the revisions have, in their order
abbrev pub AreDenoted : FileMap → List (List ℕ) → List ObjectId → Type 0
AreDenoted content [] ids = ids ≡ []
AreDenoted content (revision ∷ revisions) ids =
    (id : ObjectId) × (others : List ObjectId) × Denoted content revision (Ok id) × AreDenoted content revisions others × (ids ≡ id ∷ others)

-- one of the revisions has no value, and those before it have one
abbrev pub IsOfRevisions : FileMap → List (List ℕ) → Failure → Type 0
IsOfRevisions content [] e = ⊥
IsOfRevisions content (revision ∷ revisions) e =
    IsOfRevision content revision e ⊎ ((id : ObjectId) × Denoted content revision (Ok id) × IsOfRevisions content revisions e)

-- a commit of the index on HEAD, with these extra parents
abbrev pub committing : List ObjectId → (author committer message : List ℕ) → Task
committing extra author committer message = MakeCommit (map (λ (id : ObjectId). id.0) extra) author committer message

-- a refusal, as the machine's answer to a commit
abbrev pub refusal : NodeFault → Result ObjectId NodeFault
refusal fault = Err fault

abbrev pub told_none : NodeFault → Answer
told_none fault = made_answer (refusal fault)

-- the files were opened, and the index was committed on HEAD with these extra parents: that is the machine's step, where the
-- clone was sound, and its answer is the commit's id
pub record MakesCommit (old : FileMap) (extra : List ObjectId) (author committer message : List ℕ) (id : ObjectId) (new : FileMap) : Type 0 where
  pub between : FileMap
  pub opened : IsOpened old between
  pub committed : IsCommitted between extra author committer message id new
  pub answers : AnswersIfSound (committing extra author committer message) (made_answer (Ok id)) true true between new
  pub answers_shown : AnswersShownIfSound (committing extra author committer message) (made_answer (Ok id)) true true (shown between) (shown new)
  pub clean : KeepsClean between new

-- The files were opened, and no commit was made. That is the machine's answer, where the clone was sound; over files of which some are
-- bad it is so by what they show, or a bad one that a commit reads is told. What refuses it is told in its order, also at a clone that
-- isn't sound, and all is as the opening leaves it, or some of the commit's objects are stored.
pub record MakesNone (old : FileMap) (extra : List ObjectId) (author committer message : List ℕ) (fault : NodeFault) (new : FileMap) : Type 0 where
  pub between : FileMap
  pub opened : IsOpened old between
  pub answers : AnswersIfSound (committing extra author committer message) (told_none fault) true (up_after (refusal fault)) between new
  pub bad_file : OrBadFile between (refusal fault) (AnswersShownIfSound (committing extra author committer message) (told_none fault) true (up_after (refusal fault)) (shown between) (shown new))
  pub ends : EndsCommit true between extra author committer message new fault
  pub reads : TellsRead (IsReadByCommit between extra author committer message) (IsAtHead between) fault
  pub clean : KeepsClean between new

-- why none is made: the files are no clone's, and stay but for what stood in quarantine; or they are one's, and none is made
abbrev pub IsOfMaking : FileMap → List ObjectId → (author committer message : List ℕ) → FileMap → Failure → Type 0
IsOfMaking old extra author committer message new (Node fault) = (BlamesOpen old fault × LosesCarried old new) ⊎ MakesNone old extra author committer message fault new
IsOfMaking old extra author committer message new _ = ⊥

-- the commit was made, and its id printed
pub record CommitsOn (old : FileMap) (extra : List ObjectId) (author committer message : List ℕ) (new : FileMap) (before after : Option (List ℕ)) : Type 0 where
  pub id : ObjectId
  pub made : MakesCommit old extra author committer message id new
  pub text : Appends before after (id_line id)

-- why no commit is told: none was made and nothing printed, or the commit was made and a fault kept its id from being printed whole
pub data IsOfCommitOn (old : FileMap) (extra : List ObjectId) (author committer message : List ℕ) (new : FileMap) (before after : Option (List ℕ)) (e : Failure) : Type 0 where
  of_making : IsOfMaking old extra author committer message new e → Keeps before after → IsOfCommitOn old extra author committer message new before after e
  untold : (id : ObjectId) → IsFault e → MakesCommit old extra author committer message id new → AppendsFront before after (id_line id) → IsOfCommitOn old extra author committer message new before after e

-- the same, with what revisions have as extra parents
pub record CommitsIndex (old : FileMap) (revisions : List (List ℕ)) (author committer message : List ℕ) (new : FileMap) (before after : Option (List ℕ)) : Type 0 where
  pub extra : List ObjectId
  pub named : AreDenoted old revisions extra
  pub on : CommitsOn old extra author committer message new before after

-- a revision without a value is told before the files are opened; else it is what the commit on their values answers
pub data IsOfCommit (old : FileMap) (revisions : List (List ℕ)) (author committer message : List ℕ) (new : FileMap) (before after : Option (List ℕ)) (e : Failure) : Type 0 where
  of_revisions : IsOfRevisions old revisions e → new ≡ old → Keeps before after → IsOfCommit old revisions author committer message new before after e
  of_commit : (extra : List ObjectId) → AreDenoted old revisions extra → IsOfCommitOn old extra author committer message new before after e → IsOfCommit old revisions author committer message new before after e

-- ---- with what a commit says as one value

abbrev pub CommitsSaid : FileMap → List (List ℕ) → Words → FileMap → Option (List ℕ) → Option (List ℕ) → Type 0
CommitsSaid old revisions words new before after = CommitsIndex old revisions words.author.now words.committer.now words.message.now new before after

abbrev pub IsOfSaid : FileMap → List (List ℕ) → Words → FileMap → Option (List ℕ) → Option (List ℕ) → Failure → Type 0
IsOfSaid old revisions words new before after e = IsOfCommit old revisions words.author.now words.committer.now words.message.now new before after e

abbrev pub CommitsSaidOn : FileMap → List ObjectId → Words → FileMap → Option (List ℕ) → Option (List ℕ) → Type 0
CommitsSaidOn old extra words new before after = CommitsOn old extra words.author.now words.committer.now words.message.now new before after

abbrev pub IsOfSaidOn : FileMap → List ObjectId → Words → FileMap → Option (List ℕ) → Option (List ℕ) → Failure → Type 0
IsOfSaidOn old extra words new before after e = IsOfCommitOn old extra words.author.now words.committer.now words.message.now new before after e

-- ---- a branch

-- why none is removed: for its name, before anything is opened, or for what refuses the machine's step
abbrev pub IsOfDeleting : List ℕ → FileMap → FileMap → Failure → Type 0
IsOfDeleting name old new e = (IsOfBranch name e × (new ≡ old)) ⊎ IsOfStep (DeleteBranch (branch_ref name)) old new e
