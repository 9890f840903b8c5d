-- A run: a clone writes a commit, a push of it is served, and its report moves the clone's tracking ref.
use Rattle.std.proofs.Common.{◌≡◌, ◌≢◌, ℕ, zero, suc, ◌<◌, ◌≤◌, false, List, ◌∷◌, Some, None, Ok, ◌⊎◌, inl, inr, refl, sym, ap, ◌∙◌, subst, nat_cmp, codes, length, arith, Contains, unwrap_or, []}
use Rattle.std.specs.FinMap.{FinMap, get, insert, remove, empty, get-empty, nat_cmp-IsAntisymmetric}
use Rattle.std.specs.Cmp.{nat_cmp_total}
use Rattle.std.specs.Option.{option_or}
use Rattle.std.specs.Cmp.Lexicographic.{slice_cmp, nat_list_cmp_total}
use Rattle.vc_model.specs.Object.{Id, zero_id, Object, Format, Objects, Lookup, IsNamed, stored, over}
use Rattle.vc_model.specs.Object.Kind.{Commit}
use Rattle.vc_model.specs.Reach.{Path, HasParent, IsClosed, HasHistory}
use Rattle.vc_model.specs.Refs.{branch, tracking}
use Rattle.vc_model.specs.Repository.{Repository, with_objects, no_effect, only_changes}
use Rattle.vc_model.specs.Repository.Change.{SetRefs}
use Rattle.vc_model.specs.Push.{Command, OpenPush, Slots}
use Rattle.vc_model.specs.Push.Verdict.{Passing, Accepted}
use Rattle.vc_model.specs.Push.Stage.{Checked, Migrated, Finished}
use Rattle.vc_model.specs.Message.{Message}
use Rattle.vc_model.specs.Message.Message.{Push, Report}
use Rattle.vc_model.specs.Message.Envelope.{ToShared, ToClone}
use Rattle.vc_model.specs.Node.{Node}
use Rattle.vc_model.specs.Node.Answer.{Did}
use Rattle.vc_model.specs.Node.Reply.{Made, Sends, Opened, Passed, MigratedAll, Updated, Reported}
use Rattle.vc_model.specs.Shared.{opened, SharedStep}
use Rattle.vc_model.specs.Shared.SharedEvent.{Arrives, StepSlot}
use Rattle.vc_model.specs.Shared.SharedStep.{works}
use Rattle.vc_model.specs.Shared.UpdatesPush.{singly}
use Rattle.vc_model.specs.Clone.{Awaited, CloneStep, only_object}
use Rattle.vc_model.specs.Clone.Awaited.{Nothing}
use Rattle.vc_model.specs.Clone.Task.{Write}
use Rattle.vc_model.specs.Clone.CloneEvent.{Commanded, Gets}
use Rattle.vc_model.specs.Clone.CloneStep.{works as clone_works}
use Rattle.vc_model.specs.World.{World, IsNew, empty_repository}
use Rattle.vc_model.specs.World.Event.{Local, Deliver, Forge, StepPush}
use Rattle.vc_model.specs.World.Step.{at_shared, at_clone}
use Rattle.vc_model.specs.Run.{History, world_after, Run}
use Rattle.vc_model.specs.Safe.{ARunExists}
use Rattle.vc_model.proofs.Tracked.{IsTracking, value_at_clone}
use Rattle.vc_model.proofs.Maps.{insert_cases, insert_same, insert_other, bytes_same, none_in_empty, none_added, all_added}
use Rattle.vc_model.proofs.Clones.{blob_closed}
use Rattle.vc_model.specs.Small.{small_format}
use Rattle.vc_model.proofs.Smalls.{named_apart}

abbrev fmt : Format
fmt = small_format

abbrev o : Object
o = record { kind = Commit; body = 1 ∷ 0 ∷ [] }

abbrev x : Id
x = fmt.name_of o

abbrev s : Objects
s = insert empty x o

abbrev b : List ℕ
b = codes "main"

has : get s x ≡ Some o
has = insert_same nat_list_cmp_total bytes_same empty x o

history : (at : Lookup) → at x ≡ Some o → HasHistory fmt at x
history at is = record { commits = λ y p. go y p.0 p.1 }
  where
    go : (y : Id) (zs : List Id) → Path (HasParent fmt at) zs x y → (q : Object) × (at y ≡ Some q) × (q.kind ≡ Commit)
    go y [] p = (o, ap at (sym p) ∙ is, refl)
    go y (z ∷ zs) p =
        let same : p.0.object ≡ o = let f = p.0.found in cc in
        absurd (let c : Contains [] z = subst (λ (q : Object). Contains (fmt.parents q) z) same p.0.parent in let k : c.0 < length {A = Id} [] = c.1 in omega arith)

closed : (at : Lookup) → at x ≡ Some o → IsClosed fmt at x
closed at is = blob_closed fmt at o refl is

named : IsNamed fmt s
named = record {
  named = λ y p g. elim (insert_cases nat_list_cmp_total bytes_same empty x o y p g) [
    | inl is ↦ ap fmt.name_of is.1 ∙ sym is.0
    | inr was ↦ absurd (none_in_empty (slice_cmp nat_cmp) y p was)
  ];
}

-- ---- the clone

abbrev node : Repository → Node Awaited
node r = record { repository = r; live = Some Nothing }

abbrev r1 : Repository
r1 = with_objects empty_repository s

abbrev r2 : Repository
r2 = record r1 { refs = insert empty (tracking b) x }

-- ---- the shared node

abbrev command : Command
command = record { old = zero_id; new = x; name = branch b }

abbrev p0 : OpenPush
p0 = opened false None (command ∷ []) s

abbrev p1 : OpenPush
p1 = record p0 { stage = Checked }

abbrev p2 : OpenPush
p2 = record p0 { stage = Migrated }

abbrev p3 : OpenPush
p3 = record p0 { commands = record { command = command; verdict = Accepted } ∷ []; stage = Finished }

abbrev l0 : Slots
l0 = insert empty 0 p0

abbrev l1 : Slots
l1 = insert l0 0 p1

abbrev l2 : Slots
l2 = insert l1 0 p2

abbrev l3 : Slots
l3 = insert l2 0 p3

abbrev q : Repository
q = record r1 { refs = insert empty (branch b) x }

abbrev up : Repository → Slots → Node Slots
up r l = record { repository = r; live = Some l }

put : (l : Slots) (p : OpenPush) → get (insert l 0 p) 0 ≡ Some p
put l p = insert_same nat_cmp_total nat_cmp-IsAntisymmetric l 0 p

opens : SharedStep fmt (up empty_repository empty) (Arrives (Push false None (command ∷ []) s)) (Did (Opened 0)) (up empty_repository l0) None
opens = works empty (record { effect = no_effect; left = l0; sends = None; reply = Opened 0 }) refl
    (0, record { below = omega arith; free = get-empty nat_cmp 0; lowest = λ t h. absurd (omega arith) }, refl)
    ((empty, none_added empty, refl), refl, refl) refl

long : x ≢ zero_id
long e = let h : ◌≡◌ {A = ℕ} 3 20 = ap length e in omega arith

over_has : (t : Objects) → get t x ≡ None → over t s x ≡ Some o
over_has t e = ap (λ a. option_or a (get s x)) e ∙ has

checks : SharedStep fmt (up empty_repository l0) (StepSlot 0) (Did (Passed 1)) (up empty_repository l1) None
checks =
    let found : over empty s x ≡ Some o = over_has empty (get-empty (slice_cmp nat_cmp) x) in
    works l0 (record { effect = no_effect; left = l1; sends = None; reply = Passed 1 }) refl (
      p0,
      put empty p0,
      inl (
        p1,
        (
          record { command = command; verdict = Passing } ∷ [],
          (refl, (refl, (inl (b, refl), (long, (closed (over empty s) found, ((λ _. history (over empty s) found), ((λ _. inl refl), tt)))))), tt),
          refl,
          refl,
          refl,
        ),
        refl,
        refl,
      ),
    )
    ((empty, none_added empty, refl), refl, refl) refl

migrates : SharedStep fmt (up empty_repository l1) (StepSlot 0) (Did MigratedAll) (up r1 l2) None
migrates = works l1 (record { effect = record { objects = s; changes = [] }; left = l2; sends = None; reply = MigratedAll }) refl
    (p1, put l0 p1, inl (p2, (refl, refl, refl), refl, refl))
    ((s, all_added s, refl), refl, refl) refl

updates : SharedStep fmt (up r1 l2) (StepSlot 0) (Did (Updated (branch b) None)) (up q l3) None
updates = works l2 (record { effect = only_changes (SetRefs ((branch b, x) ∷ []) ∷ []); left = l3; sends = None; reply = Updated (branch b) None }) refl (
  p2,
  put l1 p2,
  inl (
    p3,
    (
      p3.commands,
      SetRefs ((branch b, x) ∷ []) ∷ [],
      singly (record {
        front = [];
        next = record { command = command; verdict = Passing };
        back = [];
        verdict = Accepted;
        before = refl;
        first = refl;
        passing = refl;
        update = (((λ _. get-empty (slice_cmp nat_cmp) (branch b)), ((λ m y g. absurd (none_in_empty (slice_cmp nat_cmp) m y g)), (inl (refl, get-empty (slice_cmp nat_cmp) (branch b)), tt))), refl);
        after = refl;
      }) refl refl,
      refl,
      refl,
    ),
    refl,
    refl,
  ),
)
    ((s, none_added s, refl), refl, refl) refl

abbrev report : Message
report = Report None (record { name = branch b; outcome = Ok x } ∷ [])

reports : SharedStep fmt (up q l3) (StepSlot 0) (Did Sends) (up q (remove l3 0)) (Some report)
reports = works l3 (record { effect = no_effect; left = remove l3 0; sends = Some report; reply = Sends }) refl
    (p3, put l2 p3, inr (record { name = branch b; outcome = Ok x } ∷ [], refl, ((refl, inl (refl, refl)), tt), refl))
    ((s, none_added s, refl), refl, refl) refl

writes : CloneStep fmt (node empty_repository) (Commanded (Write o)) (Did (Made x)) (node r1) None
writes = clone_works Nothing (record { effect = record { objects = only_object fmt o; changes = [] }; left = Nothing; sends = None; reply = Made x }) refl refl ((s, all_added s, refl), refl, refl) refl

tracks : CloneStep fmt (node r1) (Gets report) (Did (Reported 1 [])) (node r2) None
tracks = clone_works Nothing (record { effect = only_changes (SetRefs ((tracking b, x) ∷ []) ∷ []); left = Nothing; sends = None; reply = Reported 1 [] }) refl (
  SetRefs ((tracking b, x) ∷ []) ∷ [],
  inl (
    tracking b,
    [],
    record {
      name = b;
      branch_is = refl;
      tracking_is = refl;
      legal = refl;
      fits = refl;
      free = λ m y g. absurd (none_in_empty (slice_cmp nat_cmp) m y g);
      good = (closed (stored s) has, history (stored s) has);
      forward = inl (get-empty (slice_cmp nat_cmp) (tracking b));
    },
    refl,
    refl,
  ),
  refl,
)
    ((s, none_added s, refl), refl, refl) refl

-- ---- the run

abbrev c0 : FinMap nat_cmp (Node Awaited)
c0 = insert empty 0 (node empty_repository)

abbrev c1 : FinMap nat_cmp (Node Awaited)
c1 = insert c0 0 (node r1)

abbrev start : World
start = record { shared = up empty_repository empty; clones = c0; sent = []; senders = empty }

-- the clone that a push in the slot 0 came from
abbrev from_0 : FinMap nat_cmp ℕ
from_0 = insert empty 0 0

abbrev run : History
run =
    record { event = Deliver 0; answer = Did (Reported 1 []); world = record { shared = up q (remove l3 0); clones = insert c1 0 (node r2); sent = ToClone 0 report ∷ []; senders = from_0 } }
    ∷ record { event = StepPush 0; answer = Did Sends; world = record { shared = up q (remove l3 0); clones = c1; sent = ToClone 0 report ∷ []; senders = from_0 } }
    ∷ record { event = StepPush 0; answer = Did (Updated (branch b) None); world = record { shared = up q l3; clones = c1; sent = []; senders = from_0 } }
    ∷ record { event = StepPush 0; answer = Did MigratedAll; world = record { shared = up r1 l2; clones = c1; sent = []; senders = from_0 } }
    ∷ record { event = StepPush 0; answer = Did (Passed 1); world = record { shared = up empty_repository l1; clones = c1; sent = []; senders = from_0 } }
    ∷ record { event = Forge (ToShared 0 (Push false None (command ∷ []) s)); answer = Did (Opened 0); world = record { shared = up empty_repository l0; clones = c1; sent = []; senders = from_0 } }
    ∷ record { event = Local 0 (Write o); answer = Did (Made x); world = record { shared = up empty_repository empty; clones = c1; sent = []; senders = empty } }
    ∷ []

new : IsNew start 1
new = record {
  shared = refl;
  clones = each;
  sent = refl;
}
  where
    each : (c : ℕ) → (c < 1) × (get c0 c ≡ Some (node empty_repository)) ⊎ (1 ≤ c) × (get c0 c ≡ None)
    each zero = inl (omega arith, insert_same nat_cmp_total nat_cmp-IsAntisymmetric empty 0 (node empty_repository))
    each (suc c) = inr (omega arith, insert_other nat_cmp_total nat_cmp-IsAntisymmetric empty 0 (node empty_repository) (suc c) (λ e. omega arith) ∙ get-empty nat_cmp (suc c))

sent_by_0 : 0 ≡ unwrap_or (get from_0 0) 0
sent_by_0 = sym (ap (λ o. unwrap_or o 0) (insert_same nat_cmp_total nat_cmp-IsAntisymmetric empty 0 0))

is_run : Run fmt start run
is_run = (
  at_clone 0 (Gets report) (node r1) (node r2) None (report, refl, refl) (insert_same nat_cmp_total nat_cmp-IsAntisymmetric c0 0 (node r1)) tracks refl,
  (
    at_shared 0 (StepSlot 0) (up q (remove l3 0)) (Some report) (sent_by_0, refl) reports refl,
    (
      at_shared 0 (StepSlot 0) (up q l3) None (sent_by_0, refl) updates refl,
      (
        at_shared 0 (StepSlot 0) (up r1 l2) None (sent_by_0, refl) migrates refl,
        (
          at_shared 0 (StepSlot 0) (up empty_repository l1) None (sent_by_0, refl) checks refl,
          (
            at_shared 0 (Arrives (Push false None (command ∷ []) s)) (up empty_repository l0) None (refl, named, refl) opens refl,
            (
              at_clone 0 (Commanded (Write o)) (node empty_repository) (node r1) None (refl, refl) (insert_same nat_cmp_total nat_cmp-IsAntisymmetric empty 0 (node empty_repository)) writes refl,
              tt,
            ),
          ),
        ),
      ),
    ),
  ),
)

tracked : IsTracking (world_after start run) 0 b x
tracked = (node r2, insert_same nat_cmp_total nat_cmp-IsAntisymmetric c1 0 (node r2), insert_same nat_list_cmp_total bytes_same empty (tracking b) x)

pub a_run : ARunExists
a_run = (fmt, start, run, 1, b, x, new, is_run, record { unique = λ p q i j e. named_apart p q e }, (tt, (tt, (tt, (tt, (tt, (tt, (tt, tt))))))), value_at_clone (world_after start run) 0 b x tracked)
