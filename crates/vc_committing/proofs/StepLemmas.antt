-- A step of a node that was opened, and revisions one after another: for the commands of a clone.
use Rattle.std.proofs.Common.{◌≡◌, ℕ, ◌+◌, ◌<◌, true, Bool, List, [], ◌∷◌, ◌++◌, length, take, get_or, map, Ok, Err, ◌∙◌, ap, subst, sym, refl, inl, inr, zero, suc, arith}
use Rattle.std.proofs.lemmas.List.{map-append, take_more}
use denote.Ref.{Bor}
use Rattle.std.specs.Global.{Global}
use Rattle.std.specs.Prelude.{Option, None, Result, String, IfErr, OnErr}
use Rattle.vc_files.specs.FileMap.{FileMap}
use Rattle.vc_files.specs.declared.faults.Fault.TheVariants.{Memory}
use Rattle.vc_index.specs.Damage.{KeepsDamage}
use Rattle.vc_index.specs.IndexMap.{IndexMap}
use Rattle.vc_index.specs.WrittenTrees.{IsOfTrees, IsOfWrite}
use Rattle.vc_index.specs.declared.faults.IndexFault.{IndexFault}
use Rattle.vc_index.specs.declared.faults.IndexFault.TheVariants as index
use Rattle.vc_model.specs.Clone.{Task}
use Rattle.vc_model.specs.Clone.Task.{SetBranch}
use Rattle.vc_model.specs.Node.{Answer}
use Rattle.vc_local.specs.Clean.{KeepsClean}
use Rattle.vc_local.specs.Commit.{IsCommitted}
use Rattle.vc_local.specs.Machine.{AnswersIfSound, AnswersShownIfSound, OrBadFile, done_answer, made_answer, up_after}
use Rattle.vc_local.specs.Emptying.{IsOpened}
use Rattle.vc_local.specs.Making.{EndsCommit}
use Rattle.vc_local.specs.Reads.{IsAtHead, IsOfCommit as IsReadByCommit, TellsRead}
use Rattle.vc_local.specs.Shown.{shown}
use Rattle.vc_local.specs.declared.fault.NodeFault.{NodeFault}
use Rattle.vc_object.specs.declared.id.ObjectId.{ObjectId}
use Rattle.vc_refname.specs.RefName.{IsRefName}
use Rattle.vc_object_map.specs.Store.{IsDamaged}
use Rattle.vc_object_map.specs.declared.faults.StoreFault.{StoreFault}
use Rattle.vc_object_map.specs.declared.faults.StoreFault.TheVariants.{BadObject, Absent, Damaged, Fault as StoreFaulted}
use Rattle.vc_refs.specs.RefFault.{BlamesRef}
use Rattle.vc_refs.specs.Refs.{deciding_file, refs, IsBadRef}
use Rattle.vc_refs.specs.declared.faults.RefFault.TheVariants.{BadRefFile}
use Rattle.vc_working.proofs.CloneLemmas.{bad_no_ref}
use Rattle.vc_working.specs.CloneWords.{branch_ref}
use Rattle.vc_cli.specs.Revisions.{Denoted, IsOfRevision}
use Rattle.vc_committing.specs.Steps.{AnswersBy, AnswersShownBy, AreDenoted, CommitsIndex, CommitsOn, IsOfCommit, IsOfCommitOn, IsOfRevisions, IsOfSetting, IsOfStep, KeepsAt, LeavesAt, MakesCommit, MakesNone, ReadsAt, SetsBranch, StepsTo, committing}
use Rattle.vc_committing.specs.Steps.IsOfCommit.{of_commit}
use Rattle.vc_committing.specs.Steps.IsOfSetting.{of_step}
use Rattle.vc_cli.specs.declared.failure.Failure.{Failure}
use Rattle.vc_cli.specs.declared.failure.Failure.TheVariants.{Fault}

-- what a node answered between its opening and its closing: by what the answer is, with the node up before, and the files that it gives back
module _ {T : Type 0} (told : Result T NodeFault → Answer) (task : Task) (r s : Result T NodeFault) (was is : Bool) (between new closed : FileMap) (up : was ≡ true) (after : is ≡ up_after r) (same : r ≡ s) (end : new ≡ closed) where
  after_call : (P : Result T NodeFault → Bool → Bool → FileMap → Type 0) → P r was is new → P s true (up_after s) closed
  after_call P h = subst (λ m. P s true (up_after s) m) end (subst (λ q. P q true (up_after q) new) same (subst (λ b. P r true b new) after (subst (λ b. P r b is new) up h)))

  pub answers_of : AnswersBy task (told r) was is between new → AnswersBy task (told s) true (up_after s) between closed
  answers_of = after_call (λ q b c m. AnswersBy task (told q) b c between m)

  pub bad_file_of : OrBadFile between r (AnswersShownBy task (told r) was is (shown between) (shown new)) → OrBadFile between s (AnswersShownBy task (told s) true (up_after s) (shown between) (shown closed))
  bad_file_of = after_call (λ q b c m. OrBadFile between q (AnswersShownBy task (told q) b c (shown between) (shown m)))

  pub left_of : OnErr r (LeavesAt task between new) → OnErr s (LeavesAt task between closed)
  left_of = after_call (λ q _ _ m. OnErr q (LeavesAt task between m))

  pub reads_of : IfErr r (ReadsAt task between) → IfErr s (ReadsAt task between)
  reads_of = after_call (λ q _ _ _. IfErr q (ReadsAt task between))

-- such an answer is a step
pub step_of : (task : Task) (r s : Result (Unit {0}) NodeFault) (was is : Bool) (old between new closed : FileMap)
    → IsOpened old between → was ≡ true → is ≡ up_after r → r ≡ s → new ≡ closed
    → AnswersBy task (done_answer r) was is between new → OrBadFile between r (AnswersShownBy task (done_answer r) was is (shown between) (shown new)) → OnErr r (LeavesAt task between new) → IfErr r (ReadsAt task between)
    → KeepsAt task between new → StepsTo task s old closed
step_of task r s was is old between new closed opened up after same end answers bad left reads clean = record {
  between = between;
  opened = opened;
  answers = answers_of done_answer task r s was is between new closed up after same end answers;
  bad_file = bad_file_of done_answer task r s was is between new closed up after same end bad;
  left = left_of done_answer task r s was is between new closed up after same end left;
  reads = reads_of done_answer task r s was is between new closed up after same end reads;
  clean = subst (KeepsAt task between) end clean;
}

-- an answer is no bad file that is told
pub none_told : {P : Type 0} {X : Type 0} (content : FileMap) (x : X) → OrBadFile content (Ok x) P → P
none_told content x (inl told) = absurd told
none_told content x (inr p) = p

-- a commit that a node answered, or none
module _ (extra : List ObjectId) (author committer message : List ℕ) (r : Result ObjectId NodeFault) (was is : Bool) (old between new closed : FileMap) (opened : IsOpened old between) (up : was ≡ true) (after : is ≡ up_after r) (end : new ≡ closed) where
  abbrev Answered : Type 0
  Answered = AnswersIfSound (committing extra author committer message) (made_answer r) was is between new

  abbrev AnsweredShown : Type 0
  AnsweredShown = OrBadFile between r (AnswersShownIfSound (committing extra author committer message) (made_answer r) was is (shown between) (shown new))

  as_closed : (s : Result ObjectId NodeFault) → r ≡ s → (P : Result ObjectId NodeFault → Bool → Bool → FileMap → Type 0) → P r was is new → P s true (up_after s) closed
  as_closed s same P h = subst (λ m. P s true (up_after s) m) end (subst (λ q. P q true (up_after q) new) same (subst (λ b. P r true b new) after (subst (λ b. P r b is new) up h)))

  held_as : (s : Result ObjectId NodeFault) → r ≡ s → Answered → AnswersIfSound (committing extra author committer message) (made_answer s) true (up_after s) between closed
  held_as s same = as_closed s same (λ q b c m. AnswersIfSound (committing extra author committer message) (made_answer q) b c between m)

  shown_as : (s : Result ObjectId NodeFault) → r ≡ s → AnsweredShown → OrBadFile between s (AnswersShownIfSound (committing extra author committer message) (made_answer s) true (up_after s) (shown between) (shown closed))
  shown_as s same = as_closed s same (λ q b c m. OrBadFile between q (AnswersShownIfSound (committing extra author committer message) (made_answer q) b c (shown between) (shown m)))

  pub made_none : (fault : NodeFault) → r ≡ Err fault → Answered → AnsweredShown → IfErr r (EndsCommit was between extra author committer message new) → IfErr r (TellsRead (IsReadByCommit between extra author committer message) (IsAtHead between))
      → KeepsClean between new → MakesNone old extra author committer message fault closed
  made_none fault same answers bad ends reads clean = record {
    between = between;
    opened = opened;
    answers = held_as (Err fault) same answers;
    bad_file = shown_as (Err fault) same bad;
    ends = as_closed (Err fault) same (λ q b _ m. IfErr q (EndsCommit b between extra author committer message m)) ends;
    reads = as_closed (Err fault) same (λ q _ _ _. IfErr q (TellsRead (IsReadByCommit between extra author committer message) (IsAtHead between))) reads;
    clean = subst (KeepsClean between) end clean;
  }

  pub made_of : (id : ObjectId) → r ≡ Ok id → Answered → AnsweredShown → IsCommitted between extra author committer message id new → KeepsClean between new → MakesCommit old extra author committer message id closed
  made_of id same answers bad committed clean = record {
    between = between;
    opened = opened;
    committed = subst (λ m. IsCommitted between extra author committer message id m) end committed;
    answers = held_as (Ok id) same answers;
    answers_shown = none_told between id (shown_as (Ok id) same bad);
    clean = subst (KeepsClean between) end clean;
  }

-- one more revision behind those that were resolved
pub denoted_next : (content : FileMap) (texts : List (List ℕ)) (ids : List ObjectId) (text : List ℕ) (id : ObjectId)
    → AreDenoted content texts ids → Denoted content text (Ok id) → AreDenoted content (texts ++ text ∷ []) (ids ++ id ∷ [])
denoted_next content [] ids text id are is = (id, [], is, refl, ap (λ (xs : List ObjectId). xs ++ id ∷ []) are)
denoted_next content (t ∷ texts) ids text id (first, others, one, rest, split) is =
    (first, others ++ id ∷ [], one, denoted_next content texts others text id rest is, ap (λ (xs : List ObjectId). xs ++ id ∷ []) split)

-- the same of a slice's front
pub named_more : (content : FileMap) (revisions : List (Bor (List ℕ))) (i : ℕ) (d : Bor (List ℕ)) → i < length revisions
    → (ids : List ObjectId) (id : ObjectId) (more : List ObjectId)
    → AreDenoted content (map (λ revision. revision.now) (take i revisions)) ids → Denoted content (get_or revisions i d).now (Ok id) → more ≡ ids ++ id ∷ []
    → AreDenoted content (map (λ revision. revision.now) (take (i + 1) revisions)) more
named_more content revisions i d lt ids id more before is added =
    let now : Bor (List ℕ) → List ℕ = λ revision. revision.now in
    let front : map now (take (i + 1) revisions) ≡ map now (take i revisions) ++ (get_or revisions i d).now ∷ [] = ap (map now) (take_more revisions i d lt) ∙ map-append now (take i revisions) (get_or revisions i d ∷ []) in
    let last : AreDenoted content (map now (take i revisions) ++ (get_or revisions i d).now ∷ []) (ids ++ id ∷ []) = denoted_next content (map now (take i revisions)) ids (get_or revisions i d).now id before is in
    subst (λ (texts : List (List ℕ)). AreDenoted content texts more) (sym front) (subst (λ (xs : List ObjectId). AreDenoted content (map now (take i revisions) ++ (get_or revisions i d).now ∷ []) xs) (sym added) last)

-- the first revision that has no value, behind those that were resolved
pub named_stop : (content : FileMap) (revisions : List (Bor (List ℕ))) (i : ℕ) (d : Bor (List ℕ)) → i < length revisions → (ids : List ObjectId) (e : Failure)
    → AreDenoted content (map (λ revision. revision.now) (take i revisions)) ids → IsOfRevision content (get_or revisions i d).now e
    → IsOfRevisions content (map (λ revision. revision.now) revisions) e
named_stop content [] i d lt ids e are of = let out : ⊥ = omega (arith, lt) in absurd out
named_stop content (r ∷ revisions) zero d lt ids e are of = inl of
named_stop content (r ∷ revisions) (suc i) d lt ids e (first, others, one, rest, split) of = inr (first, one, named_stop content revisions i d (let less : i < length revisions = omega (arith, lt) in less) others e rest of)

-- the same where memory runs out behind a value
pub named_fault : (content : FileMap) (revisions : List (Bor (List ℕ))) (i : ℕ) (d : Bor (List ℕ)) → i < length revisions → (ids : List ObjectId) (id : ObjectId)
    → AreDenoted content (map (λ revision. revision.now) (take i revisions)) ids → Denoted content (get_or revisions i d).now (Ok id)
    → IsOfRevisions content (map (λ revision. revision.now) revisions) (Fault Memory)
named_fault content revisions i d lt ids id are is = named_stop content revisions i d lt ids (Fault Memory) are refl

-- a commit on parents that revisions have
pub commits_index : (old m new : FileMap) (revisions : List (List ℕ)) (ids extra : List ObjectId) (author committer message : List ℕ) (before after : Option (List ℕ))
    → m ≡ old → extra ≡ ids → AreDenoted old revisions ids → CommitsOn m extra author committer message new before after
    → CommitsIndex old revisions author committer message new before after
commits_index old m new revisions ids extra author committer message before after same is named on = record {
  extra = ids;
  named = named;
  on = subst (λ (f : FileMap). CommitsOn f ids author committer message new before after) same (subst (λ (xs : List ObjectId). CommitsOn m xs author committer message new before after) is on);
}

-- a branch that is set to what a revision has
pub sets_branch : (old m new : FileMap) (name revision branch : List ℕ) (id : ObjectId)
    → m ≡ old → branch ≡ branch_ref name → Denoted old revision (Ok id) → StepsTo (SetBranch branch id.0) (Ok tt) m new → SetsBranch old name revision new
sets_branch old m new name revision branch id same is value step = record {
  id = id;
  value = value;
  step = subst (λ (f : FileMap). StepsTo (SetBranch (branch_ref name) id.0) (Ok tt) f new) same (subst (λ (b : List ℕ). StepsTo (SetBranch b id.0) (Ok tt) m new) is step);
}

-- the same of what refuses it
pub refuses_index : (old m new : FileMap) (revisions : List (List ℕ)) (ids extra : List ObjectId) (author committer message : List ℕ) (before after : Option (List ℕ)) (e : Failure)
    → m ≡ old → extra ≡ ids → AreDenoted old revisions ids → IsOfCommitOn m extra author committer message new before after e
    → IsOfCommit old revisions author committer message new before after e
refuses_index old m new revisions ids extra author committer message before after e same is named on =
    of_commit ids named (subst (λ (f : FileMap). IsOfCommitOn f ids author committer message new before after e) same (subst (λ (xs : List ObjectId). IsOfCommitOn m xs author committer message new before after e) is on))

-- and of what refuses a branch that is set
pub refuses_branch : (old m new : FileMap) (name revision branch : List ℕ) (id : ObjectId) (e : Failure)
    → m ≡ old → branch ≡ branch_ref name → IsRefName (branch_ref name) → Denoted old revision (Ok id) → IsOfStep (SetBranch branch id.0) m new e
    → IsOfSetting old name revision new e
refuses_branch old m new name revision branch id e same is legal value step =
    of_step id legal value (subst (λ (f : FileMap). IsOfStep (SetBranch (branch_ref name) id.0) f new e) same (subst (λ (b : List ℕ). IsOfStep (SetBranch b id.0) m new e) is step))

-- ---- trees

-- a file that was damaged after the trees were written was so before
trees_before : (honest : Type 0) → honest → (m : IndexMap) (old new : FileMap) (e : StoreFault) → KeepsDamage old new → IsOfTrees m (λ id. honest → IsDamaged new id) e → IsOfTrees m (IsDamaged old) e
trees_before honest h m old new (BadObject fault) keeps of = of
trees_before honest h m old new (Absent id) keeps of = of
trees_before honest h m old new (Damaged id) keeps of = (of.0, keeps.before id (of.1 h))
trees_before honest h m old new (StoreFaulted fault) keeps of = of

pub write_before : (honest : Type 0) → honest → (m : IndexMap) (old new : FileMap) (e : IndexFault) → KeepsDamage old new → IsOfWrite m (λ id. honest → IsDamaged new id) e → IsOfWrite m (IsDamaged old) e
write_before honest h m old new (index.Store fault) keeps of = trees_before honest h m old new fault keeps of
write_before honest h m old new index.BadPath keeps of = of
write_before honest h m old new index.PathConflict keeps of = of
write_before honest h m old new (index.BadIndex place) keeps of = of
write_before honest h m old new (index.WrongEntry at) keeps of = of
write_before honest h m old new (index.Missing id) keeps of = of

-- ---- what was printed

-- a fault of printing, and the front that went out before it
pub told_front : {T : Type 0} (r : Result T Failure) (P : Failure → Type 0) (A : Type 0) → IfErr r P → OnErr r A → IfErr r (λ e. P e × A)
told_front (Ok x) P A fault front = tt
told_front (Err e) P A fault front = (fault, front)

-- ---- what a branch was

-- one whose file can't be read has no value
pub unread_branch : (content : FileMap) (name ref : List ℕ) (path : String Global) → ref ≡ branch_ref name → BlamesRef content ref (BadRefFile path) → None ≡ refs content (branch_ref name)
unread_branch content name ref path is blames =
    sym (bad_no_ref content (branch_ref name) (subst (λ (n : List ℕ). IsBadRef content (deciding_file content n)) is (subst (IsBadRef content) blames.0 blames.1)))
