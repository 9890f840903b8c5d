-- An event of the world has one answer, and the device fails only after a stop was set.
use Rattle.std.proofs.Common.{◌≡◌, ℕ, Bool, false, IsTrue, List, ◌∷◌, Option, Some, None, Result, Ok, Err, ◌⊎◌, inl, inr, refl, sym, ap, ◌∙◌, subst, slice_get, []}
use Rattle.std.specs.FinMap.{get, remove, nat_cmp-IsAntisymmetric}
use Rattle.std.specs.Cmp.{nat_cmp_total}
use Rattle.std.proofs.lemmas.Option.{same_Some}
use Rattle.vc_model.specs.Object.{Id, Format}
use Rattle.vc_model.specs.Repository.{Repository}
use Rattle.vc_model.specs.Message.{Message}
use Rattle.vc_model.specs.Message.Envelope.{ToShared, ToClone}
use Rattle.vc_model.specs.Node.{Answer, IsNoFault}
use Rattle.vc_model.specs.Node.Answer.{Declined, Fault}
use Rattle.vc_model.specs.Node.Failure.{Device}
use Rattle.vc_model.specs.Shared.{SharedNode}
use Rattle.vc_model.specs.Clone.{CloneNode, PushItem, Task}
use Rattle.vc_model.specs.Clone.Task.{MakeCommit, SetBranch, MoveHead, LoadTree, StartPush}
use Rattle.vc_model.specs.Refs.Head.{Detached}
use Rattle.vc_model.specs.World.{World, Party, after_shared, after_clone}
use Rattle.vc_model.specs.World.Party.{TheShared, TheClone}
use Rattle.vc_model.specs.Rules.{Rules}
use Rattle.vc_model.specs.Wire.{Wire, wire_by}
use Rattle.vc_model.specs.Question.{Question, Tells}
use Rattle.vc_model.specs.Question.Question.{Unread, Interrupted}
use Rattle.vc_model.specs.SharedCall.{SharedCall, SharedAnswers}
use Rattle.vc_model.specs.SharedCall.SharedCall.{Accept, StepOf, Asks as AsksShared, Prune as PruneShared, Open as OpenShared}
use Rattle.vc_model.specs.CloneCall.{CloneCall, CloneRefuses, CloneObeys, CloneAnswers}
use Rattle.vc_model.specs.CloneCall.CloneCall.{Command, Receive, Asks, Prune, Open}
use Rattle.vc_model.specs.CloneCall.CloneAnswers.{down, asked, refused, obeyed, pruned, opened, faulted}
use Rattle.vc_model.specs.Order.{Order, NamedItem, AreValues, AreItems, IsTaskOf, with_first, task_by, call_of}
use Rattle.vc_model.specs.Order.Order.{StoreObject, StageFile, UnstageFile, CommitIndex, BranchAt, DropBranch, HeadOn, HeadAt, LoadIndex, Fetch, PushItems}
use Rattle.vc_model.specs.Fuse.{Fuse, Fuses, Burns, with_fuse}
use Rattle.vc_model.specs.ExactWorld.{FusedWorld, WorldEvent, ComesAs, MayShared, MayClone, TogetherAt, CallsShared, OrderCalls, CallsClone, shared_fuse_at, clone_fuse_at, WorldAnswers, ExactHistory, fused_after, ExactRun}
use Rattle.vc_model.specs.ExactWorld.Letter.{FromClone, FromShared}
use Rattle.vc_model.specs.ExactWorld.WorldEvent.{Orders, Delivers, Forges, Steps, Compares, Prunes, Packs, Restarts, Stops}
use Rattle.vc_model.specs.ExactWorld.WorldAnswers.{no_message, stop_shared, stop_clone, at_shared, at_clone}
use Rattle.vc_model.specs.Exact.{IsUnfused, IsNoStop, NoStops, WorldHasOneAnswer, DeviceNeedsAStop}
use Rattle.vc_model.proofs.Maps.{remove_cases}
use Rattle.vc_model.proofs.OneClone.{clone_once}
use Rattle.vc_model.proofs.OneShared.{shared_once}

-- ---- small facts

shared_same : (c d : ℕ) (m q : Message) → ToShared c m ≡ ToShared d q → (c ≡ d) × (m ≡ q)
shared_same c d m q e = (cc, cc)

clone_same : (c d : ℕ) (m q : Message) → ToClone c m ≡ ToClone d q → (c ≡ d) × (m ≡ q)
clone_same c d m q e = (cc, cc)

addressed_apart : (c d : ℕ) (m q : Message) → ToShared c m ≡ ToClone d q → ⊥
addressed_apart c d m q e = absurd (cc)

ok_err : {X : Type 0} (x : X) (n : ℕ) → ◌≡◌ {A = Result X ℕ} (Ok x) (Err n) → ⊥
ok_err x n e = absurd (cc)

ok_once : {X : Type 0} (x y : X) → ◌≡◌ {A = Result X ℕ} (Ok x) (Ok y) → x ≡ y
ok_once x y e = cc

err_once : {X : Type 0} (n k : ℕ) → ◌≡◌ {A = Result X ℕ} (Err n) (Err k) → n ≡ k
err_once n k e = cc

err_by : {X : Type 0} (n k : ℕ) → n ≡ k → ◌≡◌ {A = Result X ℕ} (Err n) (Err k)
err_by n k e = cc

some_none : {X : Type 0} (o : Option X) (x : X) → o ≡ Some x → o ≡ None → ⊥
some_none o x e f = absurd (cc)

-- ---- expressions

module _ (fmt : Format) (rules : Rules fmt) (r : Repository) where
  -- what an expression and the others come to, where each is one
  first_once : {X : Type 0} (make : Id → X) (rest : Result (List X) ℕ → Type 0) → ((v w : Result (List X) ℕ) → rest v → rest w → v ≡ w) → (e : List ℕ) (v w : Result (List X) ℕ)
      → ((n : ℕ) × rules.denotes r e (Err n) × (v ≡ Err n)) ⊎ ((x : Id) × (u : Result (List X) ℕ) × rules.denotes r e (Ok x) × rest u × (v ≡ with_first (make x) u))
      → ((n : ℕ) × rules.denotes r e (Err n) × (w ≡ Err n)) ⊎ ((x : Id) × (u : Result (List X) ℕ) × rules.denotes r e (Ok x) × rest u × (w ≡ with_first (make x) u))
      → v ≡ w
  first_once {X} make rest once e v w (inl g) (inl h) = g.2 ∙ (err_by {X = List X} g.0 h.0 (err_once {X = Id} g.0 h.0 (rules.one_value r e (Err g.0) (Err h.0) g.1 h.1)) ∙ sym h.2)
  first_once make rest once e v w (inl g) (inr h) = absurd (ok_err h.0 g.0 (rules.one_value r e (Ok h.0) (Err g.0) h.2 g.1))
  first_once make rest once e v w (inr g) (inl h) = absurd (ok_err g.0 h.0 (rules.one_value r e (Ok g.0) (Err h.0) g.2 h.1))
  first_once {X} make rest once e v w (inr g) (inr h) =
      let x : g.0 ≡ h.0 = ok_once g.0 h.0 (rules.one_value r e (Ok g.0) (Ok h.0) g.2 h.2) in
      let u : g.1 ≡ h.1 = once g.1 h.1 g.3 h.3 in
      g.4 ∙ (ap (λ (x : Id). with_first (make x) g.1) x ∙ (ap (λ (u : Result (List X) ℕ). with_first (make h.0) u) u ∙ sym h.4))

  values_once : (es : List (List ℕ)) (v w : Result (List Id) ℕ) → AreValues fmt rules r es v → AreValues fmt rules r es w → v ≡ w
  values_once [] v w g h = g ∙ sym h
  values_once (e ∷ es) v w g h = first_once (λ x. x) (AreValues fmt rules r es) (values_once es) e v w g h

  items_once : (is : List NamedItem) (v w : Result (List PushItem) ℕ) → AreItems fmt rules r is v → AreItems fmt rules r is w → v ≡ w
  items_once [] v w g h = g ∙ sym h
  items_once (i ∷ is) v w (inl g) (inl h) =
      g.1.2 ∙ (ap (λ (u : Result (List PushItem) ℕ). with_first (record { id = None; name = i.name }) u) (items_once is g.1.0 h.1.0 g.1.1 h.1.1) ∙ sym h.1.2)
  items_once (i ∷ is) v w (inl g) (inr h) = absurd (some_none i.value h.0 h.1 g.0)
  items_once (i ∷ is) v w (inr g) (inl h) = absurd (some_none i.value g.0 g.1 h.0)
  items_once (i ∷ is) v w (inr g) (inr h) =
      let e : g.0 ≡ h.0 = same_Some g.0 h.0 (sym g.1 ∙ h.1) in
      first_once (λ x. record { id = Some x; name = i.name }) (AreItems fmt rules r is) (items_once is) h.0 v w
      (subst (λ (e : List ℕ). ((n : ℕ) × rules.denotes r e (Err n) × (v ≡ Err n)) ⊎ ((x : Id) × (u : Result (List PushItem) ℕ) × rules.denotes r e (Ok x) × AreItems fmt rules r is u × (v ≡ with_first (record { id = Some x; name = i.name }) u))) e g.2) h.2

  task_once : (o : Order) (v w : Result Task ℕ) → IsTaskOf fmt rules r o v → IsTaskOf fmt rules r o w → v ≡ w
  task_once (StoreObject x) v w g h = g ∙ sym h
  task_once (StageFile p m c) v w g h = g ∙ sym h
  task_once (UnstageFile p) v w g h = g ∙ sym h
  task_once (CommitIndex es author committer message) v w g h =
      g.2 ∙ (ap (λ (u : Result (List Id) ℕ). task_by (λ (xs : List Id). MakeCommit xs author committer message) u) (values_once es g.0 h.0 g.1 h.1) ∙ sym h.2)
  task_once (BranchAt b e) v w g h = g.2 ∙ (ap (λ (u : Result Id ℕ). task_by (SetBranch b) u) (rules.one_value r e g.0 h.0 g.1 h.1) ∙ sym h.2)
  task_once (DropBranch b) v w g h = g ∙ sym h
  task_once (HeadOn b) v w g h = g ∙ sym h
  task_once (HeadAt e) v w g h = g.2 ∙ (ap (λ (u : Result Id ℕ). task_by (λ (x : Id). MoveHead (Detached x)) u) (rules.one_value r e g.0 h.0 g.1 h.1) ∙ sym h.2)
  task_once (LoadIndex e) v w g h = g.2 ∙ (ap (λ (u : Result Id ℕ). task_by LoadTree u) (rules.one_value r e g.0 h.0 g.1 h.1) ∙ sym h.2)
  task_once Fetch v w g h = g ∙ sym h
  task_once (PushItems atomic is) v w g h = g.2 ∙ (ap (λ (u : Result (List PushItem) ℕ). task_by (StartPush atomic) u) (items_once is g.0 h.0 g.1 h.1) ∙ sym h.2)

-- ---- whom an event calls

-- what the bytes come as is one
comes_once : (fmt : Format) (wire : Wire fmt) {Call : Type 0} (bytes : List ℕ) (message : Message → Call) (refusal : ℕ → Call) (i j : Call)
    → ComesAs fmt wire bytes message refusal i → ComesAs fmt wire bytes message refusal j → i ≡ j
comes_once fmt wire bytes message refusal i j (inl g) (inl h) = g.2 ∙ (ap message (wire.one_message bytes g.0 h.0 g.1 h.1) ∙ sym h.2)
comes_once fmt wire bytes message refusal i j (inl g) (inr h) = absurd (wire.apart bytes g.0 h.0 g.1 h.1)
comes_once fmt wire bytes message refusal i j (inr g) (inl h) = absurd (wire.apart bytes h.0 g.0 h.1 g.1)
comes_once fmt wire bytes message refusal i j (inr g) (inr h) = g.2 ∙ (ap refusal (wire.one_refusal bytes g.0 h.0 g.1 h.1) ∙ sym h.2)

-- an order that is cut short at a node that is up has a fault for an answer
abbrev pub Settled : CloneNode → CloneCall → Type 0
Settled n i = i ≡ Asks Interrupted → n.live ≡ None

settled : (fmt : Format) (rules : Rules fmt) (n m : CloneNode) (i : CloneCall) (a : Answer) (s : Option Message) → CloneAnswers fmt rules n i a m s → IsNoFault a → Settled n i
settled fmt rules n m i a s h quiet is = elim h [
  | down off x y z t ↦ off
  | asked w q up e tells x y ↦ absurd (subst (λ (q : Question). Tells fmt rules n.repository q a) (same_question q (sym e ∙ is)) tells)
  | refused w k up why x y z ↦ absurd (subst (λ (i : CloneCall). CloneRefuses fmt rules n.repository w i k) is why)
  | obeyed w d up deed x y ↦ absurd (subst (λ (i : CloneCall). CloneObeys fmt rules n.repository w i d) is deed)
  | pruned w up e x y ↦ absurd (prune_apart (sym e ∙ is))
  | opened e x y ↦ absurd (open_apart (sym e ∙ is))
  | faulted w f up x fault y z ↦ absurd (subst IsNoFault fault quiet)
]
  where
    same_question : (q : Question) → Asks q ≡ Asks Interrupted → q ≡ Interrupted
    same_question q e = cc

    prune_apart : Prune ≡ Asks Interrupted → ⊥
    prune_apart e = absurd (cc)

    open_apart : Open ≡ Asks Interrupted → ⊥
    open_apart e = absurd (cc)

module _ (fmt : Format) (wire : Wire fmt) (w : World) where
  shared_call_once : (e : WorldEvent) (c d : ℕ) (i j : SharedCall) → CallsShared fmt wire w e c i → CallsShared fmt wire w e d j → (c ≡ d) × (i ≡ j)
  shared_call_once (Delivers k) c d i j g h =
      let same = shared_same c d g.0 h.0 (same_Some (ToShared c g.0) (ToShared d h.0) (sym g.1 ∙ h.1)) in
      (same.0, g.2 ∙ (ap Accept same.1 ∙ sym h.2))
  shared_call_once (Forges (FromClone b bytes)) c d i j g h = (sym g.0 ∙ h.0, comes_once fmt wire bytes Accept (λ n. AsksShared (Unread n)) i j g.1 h.1)
  shared_call_once (Forges (FromShared b bytes)) c d i j g h = absurd g
  shared_call_once (Steps s) c d i j g h = (g.0 ∙ sym h.0, g.1 ∙ sym h.1)
  shared_call_once (Compares TheShared x y) c d i j g h = (g.0 ∙ sym h.0, g.1 ∙ sym h.1)
  shared_call_once (Compares (TheClone b) x y) c d i j g h = absurd g
  shared_call_once (Prunes TheShared) c d i j g h = (g.0 ∙ sym h.0, g.1 ∙ sym h.1)
  shared_call_once (Prunes (TheClone b)) c d i j g h = absurd g
  shared_call_once (Packs TheShared) c d i j g h = (g.0 ∙ sym h.0, g.1 ∙ sym h.1)
  shared_call_once (Packs (TheClone b)) c d i j g h = absurd g
  shared_call_once (Restarts TheShared) c d i j g h = (g.0 ∙ sym h.0, g.1 ∙ sym h.1)
  shared_call_once (Restarts (TheClone b)) c d i j g h = absurd g
  shared_call_once (Orders b o) c d i j g h = absurd g
  shared_call_once (Stops p n) c d i j g h = absurd g

  order_once : (n : CloneNode) (o : Order) (i j : CloneCall) → Settled n i → Settled n j → OrderCalls fmt wire.rules n o i → OrderCalls fmt wire.rules n o j → i ≡ j
  order_once n o i j p q (inl g) (inl h) = g.1 ∙ sym h.1
  order_once n o i j p q (inl g) (inr h) = absurd (h.0 g.0)
  order_once n o i j p q (inr g) (inl h) = absurd (g.0 h.0)
  order_once n o i j p q (inr g) (inr h) = go g.1 h.1
    where
      go : ((v : Result Task ℕ) × IsTaskOf fmt wire.rules n.repository o v × (i ≡ call_of v)) ⊎ (i ≡ Asks Interrupted)
          → ((v : Result Task ℕ) × IsTaskOf fmt wire.rules n.repository o v × (j ≡ call_of v)) ⊎ (j ≡ Asks Interrupted) → i ≡ j
      go (inl x) (inl y) = x.2 ∙ (ap call_of (task_once fmt wire.rules n.repository o x.0 y.0 x.1 y.1) ∙ sym y.2)
      go (inl x) (inr y) = absurd (h.0 (q y))
      go (inr x) y = absurd (g.0 (p x))

  clone_of : (c d : ℕ) (n m : CloneNode) → c ≡ d → get w.clones c ≡ Some n → get w.clones d ≡ Some m → n ≡ m
  clone_of c d n m e g h = same_Some n m (sym g ∙ (ap (get w.clones) e ∙ h))

  clone_call_once : (e : WorldEvent) (c d : ℕ) (n m : CloneNode) (i j : CloneCall) → Settled n i → Settled m j → get w.clones c ≡ Some n → get w.clones d ≡ Some m → CallsClone fmt wire w e c n i → CallsClone fmt wire w e d m j → (c ≡ d) × (i ≡ j)
  clone_call_once (Orders b o) c d n m i j si sj p q g h =
      let same : c ≡ d = sym g.0 ∙ h.0 in
      let one : n ≡ m = clone_of c d n m same p q in
      (same, order_once m o i j (subst (λ (n : CloneNode). Settled n i) one si) sj (subst (λ (n : CloneNode). OrderCalls fmt wire.rules n o i) one g.1) h.1)
  clone_call_once (Delivers k) c d n m i j si sj p q g h =
      let same = clone_same c d g.0 h.0 (same_Some (ToClone c g.0) (ToClone d h.0) (sym g.1 ∙ h.1)) in
      (same.0, g.2 ∙ (ap Receive same.1 ∙ sym h.2))
  clone_call_once (Forges (FromShared b bytes)) c d n m i j si sj p q g h = (sym g.0 ∙ h.0, comes_once fmt wire bytes Receive (λ k. Asks (Unread k)) i j g.1 h.1)
  clone_call_once (Forges (FromClone b bytes)) c d n m i j si sj p q g h = absurd g
  clone_call_once (Compares (TheClone b) x y) c d n m i j si sj p q g h = (sym g.0 ∙ h.0, g.1 ∙ sym h.1)
  clone_call_once (Compares TheShared x y) c d n m i j si sj p q g h = absurd g
  clone_call_once (Prunes (TheClone b)) c d n m i j si sj p q g h = (sym g.0 ∙ h.0, g.1 ∙ sym h.1)
  clone_call_once (Prunes TheShared) c d n m i j si sj p q g h = absurd g
  clone_call_once (Packs (TheClone b)) c d n m i j si sj p q g h = (sym g.0 ∙ h.0, g.1 ∙ sym h.1)
  clone_call_once (Packs TheShared) c d n m i j si sj p q g h = absurd g
  clone_call_once (Restarts (TheClone b)) c d n m i j si sj p q g h = (sym g.0 ∙ h.0, g.1 ∙ sym h.1)
  clone_call_once (Restarts TheShared) c d n m i j si sj p q g h = absurd g
  clone_call_once (Steps s) c d n m i j si sj p q g h = absurd g
  clone_call_once (Stops x k) c d n m i j si sj p q g h = absurd g

  calls_apart : (e : WorldEvent) (c d : ℕ) (n : CloneNode) (i : SharedCall) (j : CloneCall) → CallsShared fmt wire w e c i → CallsClone fmt wire w e d n j → ⊥
  calls_apart (Delivers k) c d n i j g h = addressed_apart c d g.0 h.0 (same_Some (ToShared c g.0) (ToClone d h.0) (sym g.1 ∙ h.1))
  calls_apart (Forges (FromClone b bytes)) c d n i j g h = h
  calls_apart (Forges (FromShared b bytes)) c d n i j g h = g
  calls_apart (Steps s) c d n i j g h = h
  calls_apart (Compares TheShared x y) c d n i j g h = h
  calls_apart (Compares (TheClone b) x y) c d n i j g h = g
  calls_apart (Prunes TheShared) c d n i j g h = h
  calls_apart (Prunes (TheClone b)) c d n i j g h = g
  calls_apart (Packs TheShared) c d n i j g h = h
  calls_apart (Packs (TheClone b)) c d n i j g h = g
  calls_apart (Restarts TheShared) c d n i j g h = h
  calls_apart (Restarts (TheClone b)) c d n i j g h = g
  calls_apart (Orders b o) c d n i j g h = g
  calls_apart (Stops p k) c d n i j g h = g

  shared_message : (k c : ℕ) (i : SharedCall) → slice_get w.sent k ≡ None → CallsShared fmt wire w (Delivers k) c i → ⊥
  shared_message k c i none g = some_none (slice_get w.sent k) (ToShared c g.0) g.1 none

  clone_message : (k c : ℕ) (n : CloneNode) (i : CloneCall) → slice_get w.sent k ≡ None → CallsClone fmt wire w (Delivers k) c n i → ⊥
  clone_message k c n i none g = some_none (slice_get w.sent k) (ToClone c g.0) g.1 none

-- ---- fuses that nothing set

shared_unset : (f : Fuse) (i : SharedCall) → f ≡ None → shared_fuse_at f i ≡ None
shared_unset f (Accept m) e = e
shared_unset f (StepOf s) e = e
shared_unset f (AsksShared q) e = e
shared_unset f PruneShared e = e
shared_unset f OpenShared e = refl

clone_unset : (f : Fuse) (i : CloneCall) → f ≡ None → clone_fuse_at f i ≡ None
clone_unset f (Command t) e = e
clone_unset f (Receive m) e = e
clone_unset f (Asks q) e = e
clone_unset f Prune e = e
clone_unset f Open e = refl

-- where none is set only a frail device fails, and none is set then
burns_none : (frail : Bool) (f : Fuse) (may together : Type 0) (old new : Repository) (a : Answer) (after : Fuse) → f ≡ None → Burns frail f may together old new a after → (a ≡ Fault Device → IsTrue frail) × (after ≡ None)
burns_none frail f may together old new a after e b = subst (λ (f : Fuse). Burns frail f may together old new a after) e b

without : (fuses : Fuses) (c : ℕ) → ((d : ℕ) → get fuses d ≡ None) → (d : ℕ) → get (remove fuses c) d ≡ None
without fuses c none d = go (get (remove fuses c) d) refl
  where
    go : (o : Option ℕ) → get (remove fuses c) d ≡ o → get (remove fuses c) d ≡ None
    go None e = e
    go (Some k) e = absurd (some_none (get fuses d) k (remove_cases nat_cmp_total nat_cmp-IsAntisymmetric fuses c d k e).1 (none d))

-- ---- one answer

module _ (fmt : Format) (wire : Wire fmt) (old : FusedWorld) where
  stops_not : (e : WorldEvent) (p : Party) (n : ℕ) → IsNoStop e → e ≡ Stops p n → ⊥
  stops_not e p n h is = subst IsNoStop is h

  -- an answer at the shared node, and at a clone
  pub record AtShared (e : WorldEvent) (a : Answer) (new : FusedWorld) : Type 0 where
    pub to : ℕ
    pub call : SharedCall
    pub node : SharedNode
    pub sends : Option Message
    pub calls : CallsShared fmt wire old.world e to call
    pub answers : SharedAnswers fmt wire.rules old.world.shared call a node sends
    pub is : new ≡ record { world = after_shared old.world to a node sends; frail = old.frail; shared_fuse = None; clone_fuses = old.clone_fuses }

  pub record AtClone (e : WorldEvent) (a : Answer) (new : FusedWorld) : Type 0 where
    pub at : ℕ
    pub before : CloneNode
    pub node : CloneNode
    pub call : CloneCall
    pub sends : Option Message
    pub found : get old.world.clones at ≡ Some before
    pub calls : CallsClone fmt wire old.world e at before call
    pub answers : CloneAnswers fmt wire.rules before call a node sends
    pub is : new ≡ record { world = after_clone old.world at node sends; frail = old.frail; shared_fuse = old.shared_fuse; clone_fuses = remove old.clone_fuses at }

  pub record NoMessage (e : WorldEvent) (a : Answer) (new : FusedWorld) : Type 0 where
    pub message : ℕ
    pub event : e ≡ Delivers message
    pub none : slice_get old.world.sent message ≡ None
    pub answer : a ≡ Declined 113
    pub is : new ≡ old

  -- what an answer is where nothing is set, and that the device doesn't fail
  comes_to : (e : WorldEvent) (a : Answer) (new : FusedWorld) → IsUnfused old → IsNoStop e → WorldAnswers fmt wire old e a new → (a ≡ Fault Device → IsTrue old.frail) × (NoMessage e a new ⊎ (AtShared e a new ⊎ AtClone e a new))
  comes_to e a new unset quiet h = elim h [
    | no_message k is none answer same ↦ (λ f. absurd (device_declined (sym answer ∙ f)), inl (record { message = k; event = is; none = none; answer = answer; is = same }))
    | stop_shared n f is fuse answer same ↦ absurd (stops_not e TheShared n quiet is)
    | stop_clone c m n f is got fuse answer same ↦ absurd (stops_not e (TheClone c) n quiet is)
    | at_shared c i n sends f calls answers burns same ↦
        let b = burns_none old.frail (shared_fuse_at old.shared_fuse i) (MayShared fmt old.world.shared i) (TogetherAt old.world.shared i) old.world.shared.repository n.repository a f (shared_unset old.shared_fuse i unset.shared) burns in (
          b.0,
          inr (inl (record {
            to = c;
            call = i;
            node = n;
            sends = sends;
            calls = calls;
            answers = answers;
            is = same ∙ ap (λ (f : Fuse). record { world = after_shared old.world c a n sends; frail = old.frail; shared_fuse = f; clone_fuses = old.clone_fuses }) b.1;
          })),
        )
    | at_clone c n m i sends f got calls answers burns same ↦
        let b = burns_none old.frail (clone_fuse_at (get old.clone_fuses c) i) (MayClone fmt wire.rules n i) ⊥ n.repository m.repository a f (clone_unset (get old.clone_fuses c) i (unset.clones c)) burns in (
          b.0,
          inr (inr (record {
            at = c;
            before = n;
            node = m;
            call = i;
            sends = sends;
            found = got;
            calls = calls;
            answers = answers;
            is = same ∙ ap (λ (f : Fuse). record { world = after_clone old.world c m sends; frail = old.frail; shared_fuse = old.shared_fuse; clone_fuses = with_fuse old.clone_fuses c f }) b.1;
          })),
        )
  ]
    where
      device_declined : Declined 113 ≡ Fault Device → ⊥
      device_declined f = absurd (cc)

  shared_worlds : (e : WorldEvent) (a b : Answer) (m n : FusedWorld) → AtShared e a m → AtShared e b n → IsNoFault a → IsNoFault b → (a ≡ b) × (m ≡ n)
  shared_worlds e a b m n g h u v =
      let k = shared_call_once fmt wire old.world e g.to h.to g.call h.call g.calls h.calls in
      let o = shared_once fmt wire.rules old.world.shared g.node h.node h.call a b g.sends h.sends (subst (λ (i : SharedCall). SharedAnswers fmt wire.rules old.world.shared i a g.node g.sends) k.1 g.answers) h.answers u v in
      (o.0, g.is ∙ (ap (λ (w : World). record { world = w; frail = old.frail; shared_fuse = None; clone_fuses = old.clone_fuses }) (same_after g.to h.to a b g.node h.node g.sends h.sends k.0 o.0 o.1 o.2) ∙ sym h.is))
    where
      same_after : (c d : ℕ) (a b : Answer) (p q : SharedNode) (s t : Option Message) → c ≡ d → a ≡ b → p ≡ q → s ≡ t → after_shared old.world c a p s ≡ after_shared old.world d b q t
      same_after c d a b p q s t ec ea ep es =
          ap (λ (c : ℕ). after_shared old.world c a p s) ec ∙ (ap (λ (a : Answer). after_shared old.world d a p s) ea
          ∙ (ap (λ (p : SharedNode). after_shared old.world d b p s) ep ∙ ap (λ (s : Option Message). after_shared old.world d b q s) es))

  clone_worlds : (e : WorldEvent) (a b : Answer) (m n : FusedWorld) → AtClone e a m → AtClone e b n → IsNoFault a → IsNoFault b → (a ≡ b) × (m ≡ n)
  clone_worlds e a b m n g h u v =
      let k = clone_call_once fmt wire old.world e g.at h.at g.before h.before g.call h.call (settled fmt wire.rules g.before g.node g.call a g.sends g.answers u) (settled fmt wire.rules h.before h.node h.call b h.sends h.answers v) g.found h.found g.calls h.calls in
      let same : g.before ≡ h.before = clone_of fmt wire old.world g.at h.at g.before h.before k.0 g.found h.found in
      let mine : CloneAnswers fmt wire.rules h.before h.call a g.node g.sends
      = subst (λ (p : CloneNode). CloneAnswers fmt wire.rules p h.call a g.node g.sends) same (subst (λ (i : CloneCall). CloneAnswers fmt wire.rules g.before i a g.node g.sends) k.1 g.answers) in
      let o = clone_once fmt wire.rules h.before g.node h.node h.call a b g.sends h.sends mine h.answers u v in
      (o.0, g.is ∙ (same_after g.at h.at g.node h.node g.sends h.sends k.0 o.1 o.2 ∙ sym h.is))
    where
      same_after : (c d : ℕ) (p q : CloneNode) (s t : Option Message) → c ≡ d → p ≡ q → s ≡ t
          → ◌≡◌ {A = FusedWorld} (record { world = after_clone old.world c p s; frail = old.frail; shared_fuse = old.shared_fuse; clone_fuses = remove old.clone_fuses c })
          (record { world = after_clone old.world d q t; frail = old.frail; shared_fuse = old.shared_fuse; clone_fuses = remove old.clone_fuses d })
      same_after c d p q s t ec ep es =
          ap (λ (c : ℕ). record { world = after_clone old.world c p s; frail = old.frail; shared_fuse = old.shared_fuse; clone_fuses = remove old.clone_fuses c }) ec
          ∙ (ap (λ (p : CloneNode). record { world = after_clone old.world d p s; frail = old.frail; shared_fuse = old.shared_fuse; clone_fuses = remove old.clone_fuses d }) ep
          ∙ ap (λ (s : Option Message). record { world = after_clone old.world d q s; frail = old.frail; shared_fuse = old.shared_fuse; clone_fuses = remove old.clone_fuses d }) es)

  outcomes_once : (e : WorldEvent) (a b : Answer) (m n : FusedWorld) → NoMessage e a m ⊎ (AtShared e a m ⊎ AtClone e a m) → NoMessage e b n ⊎ (AtShared e b n ⊎ AtClone e b n) → IsNoFault a → IsNoFault b → (a ≡ b) × (m ≡ n)
  outcomes_once e a b m n (inl g) (inl h) u v = (g.answer ∙ sym h.answer, g.is ∙ sym h.is)
  outcomes_once e a b m n (inl g) (inr (inl h)) u v = absurd (shared_message fmt wire old.world g.message h.to h.call g.none (subst (λ (e : WorldEvent). CallsShared fmt wire old.world e h.to h.call) g.event h.calls))
  outcomes_once e a b m n (inl g) (inr (inr h)) u v = absurd (clone_message fmt wire old.world g.message h.at h.before h.call g.none (subst (λ (e : WorldEvent). CallsClone fmt wire old.world e h.at h.before h.call) g.event h.calls))
  outcomes_once e a b m n (inr (inl g)) (inl h) u v = absurd (shared_message fmt wire old.world h.message g.to g.call h.none (subst (λ (e : WorldEvent). CallsShared fmt wire old.world e g.to g.call) h.event g.calls))
  outcomes_once e a b m n (inr (inr g)) (inl h) u v = absurd (clone_message fmt wire old.world h.message g.at g.before g.call h.none (subst (λ (e : WorldEvent). CallsClone fmt wire old.world e g.at g.before g.call) h.event g.calls))
  outcomes_once e a b m n (inr (inl g)) (inr (inl h)) u v = shared_worlds e a b m n g h u v
  outcomes_once e a b m n (inr (inr g)) (inr (inr h)) u v = clone_worlds e a b m n g h u v
  outcomes_once e a b m n (inr (inl g)) (inr (inr h)) u v = absurd (calls_apart fmt wire old.world e g.to h.at h.before g.call h.call g.calls h.calls)
  outcomes_once e a b m n (inr (inr g)) (inr (inl h)) u v = absurd (calls_apart fmt wire old.world e h.to g.at g.before h.call g.call h.calls g.calls)

  stays_frail : (e : WorldEvent) (a : Answer) (new : FusedWorld) → WorldAnswers fmt wire old e a new → new.frail ≡ old.frail
  stays_frail e a new h = elim h [
    | no_message k is none answer same ↦ ap (λ (w : FusedWorld). w.frail) same
    | stop_shared n f is fuse answer same ↦ ap (λ (w : FusedWorld). w.frail) same
    | stop_clone c m n f is got fuse answer same ↦ ap (λ (w : FusedWorld). w.frail) same
    | at_shared c i n sends f calls answers burns same ↦ ap (λ (w : FusedWorld). w.frail) same
    | at_clone c n m i sends f got calls answers burns same ↦ ap (λ (w : FusedWorld). w.frail) same
  ]

  stays_unset : (e : WorldEvent) (a : Answer) (new : FusedWorld) → IsUnfused old → IsNoStop e → WorldAnswers fmt wire old e a new → IsUnfused new
  stays_unset e a new unset quiet h = elim ((comes_to e a new unset quiet h).1) [
    | inl g ↦ subst IsUnfused (sym g.is) unset
    | inr k ↦ elim k [
      | inl g ↦ subst IsUnfused (sym g.is) (record { shared = refl; clones = unset.clones })
      | inr g ↦ subst IsUnfused (sym g.is) (record { shared = unset.shared; clones = without old.clone_fuses g.at unset.clones })
    ]
  ]

pub world_has_one_answer : WorldHasOneAnswer
world_has_one_answer fmt tests old m n e a b unset quiet g h u v =
    outcomes_once fmt (wire_by fmt tests) old e a b m n (comes_to fmt (wire_by fmt tests) old e a m unset quiet g).1 (comes_to fmt (wire_by fmt tests) old e b n unset quiet h).1 u v

unset_after : (fmt : Format) (wire : Wire fmt) (start : FusedWorld) (h : ExactHistory) → IsUnfused start → NoStops h → ExactRun fmt wire start h → IsUnfused (fused_after start h)
unset_after fmt wire start [] unset quiet r = unset
unset_after fmt wire start (m ∷ h) unset quiet r = stays_unset fmt wire (fused_after start h) m.event m.answer m.world (unset_after fmt wire start h unset quiet.1 r.1) quiet.0 r.0

frail_after : (fmt : Format) (wire : Wire fmt) (start : FusedWorld) (h : ExactHistory) → ExactRun fmt wire start h → (fused_after start h).frail ≡ start.frail
frail_after fmt wire start [] r = refl
frail_after fmt wire start (m ∷ h) r = stays_frail fmt wire (fused_after start h) m.event m.answer m.world r.0 ∙ frail_after fmt wire start h r.1

pub device_needs_a_stop : DeviceNeedsAStop
device_needs_a_stop fmt tests start m h calm unset quiet r f =
    let wire : Wire fmt = wire_by fmt tests in
    let old : FusedWorld = fused_after start h in
    let frail : IsTrue old.frail = (comes_to fmt wire old m.event m.answer m.world (unset_after fmt wire start h unset quiet.1 r.1) quiet.0 r.0).0 f in
    let no : old.frail ≡ false = frail_after fmt wire start h r.1 ∙ calm in
    cc
