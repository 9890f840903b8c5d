-- No ref is ever a folder of another.
use Rattle.std.proofs.Common.{◌≡◌, ℕ, zero, suc, true, List, [], ◌∷◌, ◌++◌, map, Option, Some, None, is_none, inl, inr, sym, ap, subst, arith, length, length-append, nat_cmp, take}
use Rattle.std.specs.FinMap.{insert, remove, empty, entries, nat_cmp-IsAntisymmetric}
use Rattle.std.specs.Cmp.{nat_cmp_total}
use Rattle.std.specs.List.{list_all}
use Rattle.std.specs.Cmp.Lexicographic.{slice_cmp, nat_list_cmp_total}
use Rattle.vc_model.specs.Object.{Id, Format, Objects, Lookup, stored, over}
use Rattle.vc_model.specs.Refs.{RefName, Refs, Head, Conflicts, AreApart, IsFree, with_refs}
use Rattle.vc_model.specs.Refs.Head.{OnBranch, Detached}
use Rattle.vc_model.specs.Repository.{Repository, Change, changed, changed_all, with_objects, Effect}
use Rattle.vc_model.specs.Repository.Change.{SetRefs, RemoveRef, SetHead, SetIndex}
use Rattle.vc_model.specs.Push.{Judged, Reason, Stage, OpenPush, Slots, Verdict, Command, Updates, UpdatesAll, JudgesInTurn, new_value}
use Rattle.vc_model.specs.Push.Verdict.{Passing, Accepted, Refused}
use Rattle.vc_model.specs.Push.Stage.{Unpacked, Checked, Migrated, Finished}
use Rattle.vc_model.specs.Message.{Message}
use Rattle.vc_model.specs.Message.Message.{ListRefs, Advert, Want, Pack, Push, Report, Error}
use Rattle.vc_model.specs.Node.{Node, Answer, Reply, Deed, Ends}
use Rattle.vc_model.specs.Node.Answer.{Did, Declined, Fault}
use Rattle.vc_model.specs.Shared.{SharedNode, Serves, StepsPush, IsNeeded, SharedEvent, SharedDoes, SharedStep}
use Rattle.vc_model.specs.Shared.UpdatesPush.{together, singly}
use Rattle.vc_model.specs.Shared.SharedEvent.{Arrives, StepSlot, PruneShared, RestartShared, QuietShared}
use Rattle.vc_model.specs.Shared.SharedStep.{down, declines, works, prunes, restarts, quiet, faults}
use Rattle.vc_model.specs.Clone.{Awaited, CloneNode, Task, Performs, Receives, Moves, MovesAny, MovesBranch, MovesToAdvert, IsReached, IsFreeHead, head_to, accepted_ids, CloneEvent, CloneDoes, CloneStep}
use Rattle.vc_model.specs.Clone.Awaited.{Nothing}
use Rattle.vc_model.specs.Clone.Task.{Write, Stage as StageFile, Unstage, LoadTree, MakeCommit, SetBranch, DeleteBranch, MoveHead, StartFetch, StartPush}
use Rattle.vc_model.specs.Clone.CloneEvent.{Commanded, Gets, PruneClone, RestartClone, QuietClone}
use Rattle.vc_model.specs.Clone.CloneStep.{down as clone_down, declines as clone_declines, works as clone_works, prunes as clone_prunes, restarts as clone_restarts, quiet as clone_quiet, faults as clone_faults}
use Rattle.vc_model.specs.World.{World, Event, Step, IsNew, empty_repository}
use Rattle.vc_model.specs.World.Step.{no_message, at_shared, at_clone}
use Rattle.vc_model.specs.Run.{History, world_after, Run}
use Rattle.vc_model.specs.Apart.{EveryNodeApart, RefsStayApart}
use Rattle.vc_model.proofs.Maps.{insert_cases, remove_cases, bytes_same, none_in_empty}
use Rattle.vc_model.proofs.Kept.{prune_ok, restart_ok}
use Rattle.vc_model.proofs.Runs.{front_run}

-- ---- one change

longer : (t rest : List ℕ) → t ≡ t ++ 47 ∷ rest → ⊥
longer t rest e = absurd (omega (arith, ap length e, length-append t (47 ∷ rest)))

pub no_conflict : (t : RefName) → Conflicts t t → ⊥
no_conflict t (inl c) = longer t c.0 c.1
no_conflict t (inr c) = longer t c.0 c.1

turned : (m n : RefName) → Conflicts m n → Conflicts n m
turned m n (inl c) = inr c
turned m n (inr c) = inl c

set_apart : (refs : Refs) (t : RefName) (v : Id) → AreApart refs → IsFree refs t → AreApart (insert refs t v)
set_apart refs t v h free m n x y g k c = elim (insert_cases nat_list_cmp_total bytes_same refs t v m x g) [
  | inl is ↦ elim (insert_cases nat_list_cmp_total bytes_same refs t v n y k) [
    | inl js ↦ no_conflict t (subst (λ (m : RefName). Conflicts m t) is.0 (subst (λ (n : RefName). Conflicts m n) js.0 c))
    | inr was ↦ free n y was (subst (λ (m : RefName). Conflicts n m) is.0 (turned m n c))
  ]
  | inr was ↦ elim (insert_cases nat_list_cmp_total bytes_same refs t v n y k) [
    | inl js ↦ free m x was (subst (λ (n : RefName). Conflicts m n) js.0 c)
    | inr was' ↦ h m n x y was was' c
  ]
]

remove_apart : (refs : Refs) (t : RefName) → AreApart refs → AreApart (remove refs t)
remove_apart refs t h m n x y g k c =
    h m n x y (remove_cases nat_list_cmp_total bytes_same refs t m x g).1 (remove_cases nat_list_cmp_total bytes_same refs t n y k).1 c

-- ---- changes

-- Each of them is free where it is set.
abbrev pub FreeRefs : Refs → List (RefName × Id) → Type 0
FreeRefs refs [] = Unit {0}
FreeRefs refs (r ∷ rs) = IsFree refs r.0 × FreeRefs (insert refs r.0 r.1) rs

abbrev pub FreeChanges : Refs → List Change → Type 0
FreeChanges refs [] = Unit {0}
FreeChanges refs (SetRefs rs ∷ cs) = FreeRefs refs rs × FreeChanges (with_refs rs refs) cs
FreeChanges refs (RemoveRef n ∷ cs) = FreeChanges (remove refs n) cs
FreeChanges refs (SetHead h ∷ cs) = FreeChanges refs cs
FreeChanges refs (SetIndex i ∷ cs) = FreeChanges refs cs

refs_apart : (rs : List (RefName × Id)) (refs : Refs) → AreApart refs → FreeRefs refs rs → AreApart (with_refs rs refs)
refs_apart [] refs h f = h
refs_apart (r ∷ rs) refs h f = refs_apart rs (insert refs r.0 r.1) (set_apart refs r.0 r.1 h f.0) f.1

changes_apart : (cs : List Change) (r : Repository) → AreApart r.refs → FreeChanges r.refs cs → AreApart (changed_all cs r).refs
changes_apart [] r h f = h
changes_apart (SetRefs rs ∷ cs) r h f = changes_apart cs (changed (SetRefs rs) r) (refs_apart rs r.refs h f.0) f.1
changes_apart (RemoveRef n ∷ cs) r h f = changes_apart cs (changed (RemoveRef n) r) (remove_apart r.refs n h) f
changes_apart (SetHead x ∷ cs) r h f = changes_apart cs (changed (SetHead x) r) h f
changes_apart (SetIndex i ∷ cs) r h f = changes_apart cs (changed (SetIndex i) r) h f

front_free : (k : ℕ) (refs : Refs) (cs : List Change) → FreeChanges refs cs → FreeChanges refs (take k cs)
front_free zero refs cs f = tt
front_free (suc k) refs [] f = tt
front_free (suc k) refs (SetRefs rs ∷ cs) f = (f.0, front_free k (with_refs rs refs) cs f.1)
front_free (suc k) refs (RemoveRef n ∷ cs) f = front_free k (remove refs n) cs f
front_free (suc k) refs (SetHead x ∷ cs) f = front_free k refs cs f
front_free (suc k) refs (SetIndex i ∷ cs) f = front_free k refs cs f

ends_apart : {V : Type 0} (a : Answer) (n m : Node V) (d : Deed V) → AreApart n.repository.refs → FreeChanges n.repository.refs d.effect.changes → Ends a n d m → AreApart m.repository.refs
ends_apart (Did y) n m d h f e = subst (λ (r : Repository). AreApart r.refs) (sym e.0.2) (changes_apart d.effect.changes (with_objects n.repository e.0.0) h f)
ends_apart (Fault x) n m d h f e = elim (e.0) [
  | inl k ↦ subst (λ (r : Repository). AreApart r.refs) (sym k.2) h
  | inr k ↦ subst (λ (r : Repository). AreApart r.refs) (sym k.3) (changes_apart (take k.1 d.effect.changes) (with_objects n.repository k.0) h (front_free k.1 n.repository.refs d.effect.changes f))
]
ends_apart (Declined k) n m d h f e = absurd e

-- ---- what a clone does

abbrev DeedFree : {V : Type 0} → Repository → Deed V → Type 0
DeedFree r d = FreeChanges r.refs d.effect.changes

head_free : (r : Repository) (h : Head) (x : Id) → IsFreeHead r.refs h → FreeChanges r.refs (head_to h x ∷ [])
head_free r (OnBranch b) x f = ((f, tt), tt)
head_free r (Detached y) x f = tt

task_free : (fmt : Format) (r : Repository) (a : Awaited) (t : Task) (d : Deed Awaited) → Performs fmt r a t d → DeedFree r d
task_free fmt r a (Write o) d is = subst (DeedFree r) (sym is) tt
task_free fmt r a (StageFile p m o) d is = subst (DeedFree r) (sym is) tt
task_free fmt r a (Unstage p) d is = subst (DeedFree r) (sym is) tt
task_free fmt r a (LoadTree x) d is = subst (DeedFree r) (sym is.3) tt
task_free fmt r a (MakeCommit x y z w) d is = subst (DeedFree r) (sym is.3) (head_free r r.head is.1 is.2.free)
task_free fmt r a (SetBranch n x) d is = subst (DeedFree r) (sym is.3) ((is.1, tt), tt)
task_free fmt r a (DeleteBranch n) d is = subst (DeedFree r) (sym is.1) tt
task_free fmt r a (MoveHead (OnBranch n)) d is = subst (DeedFree r) (sym is.1) tt
task_free fmt r a (MoveHead (Detached x)) d is = subst (DeedFree r) (sym is.1) tt
task_free fmt r a StartFetch d is = subst (DeedFree r) (sym is) tt
task_free fmt r a (StartPush atomic items) d is = subst (DeedFree r) (sym is.4) tt

moves_free : (may : Refs → RefName → Id → RefName → Type 0) → ((refs : Refs) (n : RefName) (x : Id) (t : RefName) → may refs n x t → IsFree refs t)
    → (refs : Refs) (rs : List (RefName × Id)) (cs : List Change) → Moves may refs rs cs → FreeChanges refs cs
moves_free may ok refs [] cs m = subst (FreeChanges refs) (sym m) tt
moves_free may ok refs (r ∷ rs) cs (inl m) = subst (FreeChanges refs) (sym m.3) ((ok refs r.0 r.1 m.0 m.2, tt), moves_free may ok (insert refs m.0 r.1) rs m.1 m.4)
moves_free may ok refs (r ∷ rs) cs (inr m) = moves_free may ok refs rs cs m.1

any_free : (fmt : Format) (at : Lookup) (refs : Refs) (n : RefName) (x : Id) (t : RefName) → MovesAny fmt at refs n x t → IsFree refs t
any_free fmt at refs n x t (inl m) = m.free
any_free fmt at refs n x t (inr m) = m.free

advert_free : (fmt : Format) (r : Repository) (at : Lookup) (refs : Refs) (s : Objects) (d : Deed Awaited) → MovesToAdvert fmt r at refs s d → DeedFree r d
advert_free fmt r at refs s d m = subst (DeedFree r) (sym m.deed) (moves_free (MovesAny fmt at) (any_free fmt at) r.refs (entries refs) m.changes m.moves)

message_free : (fmt : Format) (r : Repository) (a : Awaited) (m : Message) (d : Deed Awaited) → Receives fmt r a m d → DeedFree r d
message_free fmt r a (Advert head refs) d is = elim (is.3) [
  | inl k ↦ subst (DeedFree r) (sym k.1) tt
  | inr k ↦ advert_free fmt r (stored r.objects) refs empty d k.1
]
message_free fmt r a (Pack ack s) d is = advert_free fmt r (over r.objects s) is.1 s d is.4
message_free fmt r a (Report fault ts) d is =
    subst (DeedFree r) (sym is.2) (moves_free (MovesBranch fmt (stored r.objects)) (λ refs n x t m. m.free) r.refs (accepted_ids ts) is.0 is.1)
message_free fmt r a ListRefs d is = absurd is
message_free fmt r a (Want x y) d is = absurd is
message_free fmt r a (Push x y z w) d is = absurd is
message_free fmt r a (Error text) d is = absurd is

clone_free : (fmt : Format) (r : Repository) (a : Awaited) (e : CloneEvent) (d : Deed Awaited) → CloneDoes fmt r a e d → DeedFree r d
clone_free fmt r a (Commanded t) d is = task_free fmt r a t d is
clone_free fmt r a (Gets m) d is = message_free fmt r a m d is
clone_free fmt r a PruneClone d is = absurd is
clone_free fmt r a RestartClone d is = absurd is
clone_free fmt r a QuietClone d is = absurd is

pub clone_apart : (fmt : Format) (old new : CloneNode) (e : CloneEvent) (a : Answer) (sends : Option Message) → AreApart old.repository.refs → CloneStep fmt old e a new sends → AreApart new.repository.refs
clone_apart fmt old new e a sends h s = elim s [
  | clone_down x y v z is none ↦ subst (λ (n : CloneNode). AreApart n.repository.refs) (sym is) h
  | clone_declines w n x y z is none ↦ subst (λ (n : CloneNode). AreApart n.repository.refs) (sym is) h
  | clone_works w d up does ends is ↦ ends_apart a old new d h (clone_free fmt old.repository w e d does) ends
  | clone_prunes w x up ends none ↦ subst (λ (r : Repository). AreApart r.refs) (sym (prune_ok a (IsReached fmt old.repository) old new ends).rest) h
  | clone_restarts x ends none ↦ subst (λ (r : Repository). AreApart r.refs) (sym (restart_ok a old Nothing new ends).same) h
  | clone_quiet x y is none ↦ subst (λ (n : CloneNode). AreApart n.repository.refs) (sym is) h
  | clone_faults w f x y is none ↦ subst (λ (n : CloneNode). AreApart n.repository.refs) (sym is) h
]

-- ---- what the shared node does

update_free : (refs : Refs) (c : Command) (v : Verdict) (cs : List Change) → Updates refs c v cs → FreeChanges refs cs
update_free refs c Accepted cs u = subst (FreeChanges refs) (sym u.1) ((u.0.1.0, tt), tt)
update_free refs c (Refused r) cs u = subst (FreeChanges refs) (sym u.1) tt
update_free refs c Passing cs u = absurd u

turn_free : (refs : Refs) (named : List RefName) (js : List Judged) (rs : List (Option Reason)) → JudgesInTurn refs named js rs → list_all is_none rs ≡ true → FreeRefs refs (map new_value js)
turn_free refs named [] rs h e = tt
turn_free refs named (j ∷ js) (None ∷ rs) h e = (h.0.1.0, turn_free (insert refs j.command.name j.command.new) (j.command.name ∷ named) js rs h.1 e)
turn_free refs named (j ∷ js) (Some r ∷ rs) h e = absurd (cc)
turn_free refs named (j ∷ js) [] h e = absurd h

all_free : (refs : Refs) (js : List Judged) (rs : List (Option Reason)) (ks : List Judged) (cs : List Change) → UpdatesAll refs js rs ks cs → FreeChanges refs cs
all_free refs js rs ks cs u = elim (u.1) [
  | inl y ↦ subst (FreeChanges refs) (sym y.2) (turn_free refs [] js rs u.0 y.0, tt)
  | inr n ↦ subst (FreeChanges refs) (sym n.2) tt
]

push_free : (fmt : Format) (r : Repository) (p q : OpenPush) (x : Stage) (e : Effect) (y : Reply) → StepsPush fmt r p x e q y → FreeChanges r.refs e.changes
push_free fmt r p q Unpacked e y h = subst (λ (e : Effect). FreeChanges r.refs e.changes) (sym h.2) tt
push_free fmt r p q Checked e y h = subst (λ (e : Effect). FreeChanges r.refs e.changes) (sym h.0) tt
push_free fmt r p q Migrated e y h = subst (λ (e : Effect). FreeChanges r.refs e.changes) (sym h.3) (elim (h.2) [
  | together rs a u t ↦ all_free r.refs p.commands rs h.0 h.1 u
  | singly u a t ↦ update_free r.refs u.next.command u.verdict h.1 u.update
])
push_free fmt r p q Finished e y h = absurd h

serve_free : (fmt : Format) (r : Repository) (slots : Slots) (m : Message) (d : Deed Slots) → Serves fmt r slots m d → DeedFree r d
serve_free fmt r slots ListRefs d is = subst (DeedFree r) (sym is) tt
serve_free fmt r slots (Want wants haves) d is = subst (DeedFree r) (sym is.1.4) tt
serve_free fmt r slots (Push atomic fault cs objects) d is = subst (DeedFree r) (sym is.2) tt
serve_free fmt r slots (Advert x y) d is = absurd is
serve_free fmt r slots (Pack ack s) d is = absurd is
serve_free fmt r slots (Report fault ts) d is = absurd is
serve_free fmt r slots (Error text) d is = absurd is

shared_free : (fmt : Format) (r : Repository) (slots : Slots) (e : SharedEvent) (d : Deed Slots) → SharedDoes fmt r slots e d → DeedFree r d
shared_free fmt r slots (Arrives m) d is = serve_free fmt r slots m d is
shared_free fmt r slots (StepSlot s) d is = elim (is.2) [
  | inl w ↦ push_free fmt r is.0 w.0 is.0.stage d.effect d.reply w.1
  | inr w ↦ subst (DeedFree r) (sym w.3) tt
]
shared_free fmt r slots PruneShared d is = absurd is
shared_free fmt r slots RestartShared d is = absurd is
shared_free fmt r slots QuietShared d is = absurd is

pub shared_apart : (fmt : Format) (old new : SharedNode) (e : SharedEvent) (a : Answer) (sends : Option Message) → AreApart old.repository.refs → SharedStep fmt old e a new sends → AreApart new.repository.refs
shared_apart fmt old new e a sends h s = elim s [
  | down x y v z is none ↦ subst (λ (n : SharedNode). AreApart n.repository.refs) (sym is) h
  | declines w n x y z is none ↦ subst (λ (n : SharedNode). AreApart n.repository.refs) (sym is) h
  | works w d up does ends is ↦ ends_apart a old new d h (shared_free fmt old.repository w e d does) ends
  | prunes w x up ends none ↦ subst (λ (r : Repository). AreApart r.refs) (sym (prune_ok a (IsNeeded fmt old.repository w) old new ends).rest) h
  | restarts x ends none ↦ subst (λ (r : Repository). AreApart r.refs) (sym (restart_ok a old empty new ends).same) h
  | quiet x y is none ↦ subst (λ (n : SharedNode). AreApart n.repository.refs) (sym is) h
  | faults w f x y is none ↦ subst (λ (n : SharedNode). AreApart n.repository.refs) (sym is) h
]

-- ---- the world

pub world_apart : (fmt : Format) (old new : World) (e : Event) (a : Answer) → EveryNodeApart old → Step fmt old e a new → EveryNodeApart new
world_apart fmt old new e a h s = elim s [
  | no_message k x y z is ↦ subst EveryNodeApart (sym is) h
  | at_shared c i n sends for step is ↦ subst EveryNodeApart (sym is) (record { shared = shared_apart fmt old.shared n i a sends h.shared step; clones = h.clones })
  | at_clone c i n m sends for got step is ↦ subst EveryNodeApart (sym is) (record {
    shared = h.shared;
    clones = λ d k g. elim (insert_cases nat_cmp_total nat_cmp-IsAntisymmetric old.clones c m d k g) [
      | inl same ↦ subst (λ (n : CloneNode). AreApart n.repository.refs) (sym same.1) (clone_apart fmt n m i a sends (h.clones c n got) step)
      | inr was ↦ h.clones d k was
    ];
  })
]

pub empty_apart : AreApart empty
empty_apart m n x y g k c = none_in_empty (slice_cmp nat_cmp) m x g

pub new_apart : (n : ℕ) (w : World) → IsNew w n → EveryNodeApart w
new_apart n w new = record {
  shared = subst (λ (s : SharedNode). AreApart s.repository.refs) (sym new.shared) empty_apart;
  clones = λ c m is. elim (new.clones c) [
    | inl a ↦ let e : record { repository = empty_repository; live = Some Nothing } ≡ m = let b = a.1 in cc in subst (λ (m : CloneNode). AreApart m.repository.refs) e empty_apart
    | inr a ↦ absurd (let b = a.1 in cc)
  ];
}

pub run_apart : (fmt : Format) (start : World) (h : History) → EveryNodeApart start → Run fmt start h → EveryNodeApart (world_after start h)
run_apart fmt start [] new r = new
run_apart fmt start (m ∷ h) new r = world_apart fmt (world_after start h) m.world m.event m.answer (run_apart fmt start h new r.1) r.0

pub refs_stay_apart : RefsStayApart
refs_stay_apart fmt n start late early new r = run_apart fmt start early (new_apart n start new) (front_run fmt start late early r)
