-- A tracking value only moves to descendants.
use Rattle.std.proofs.Common.{◌≡◌, ℕ, zero, suc, List, [], ◌∷◌, ◌++◌, Option, Some, inl, inr, refl, sym, ap, ◌∙◌, subst, nat_cmp, take}
use Rattle.std.specs.FinMap.{FinMap, get, insert, remove, entries, nat_cmp-IsAntisymmetric}
use Rattle.std.specs.Cmp.{nat_cmp_total}
use Rattle.std.specs.Cmp.Lexicographic.{nat_list_cmp_total}
use Rattle.vc_model.specs.Object.{Id, Object, Format, Objects, Lookup, stored, over}
use Rattle.vc_model.specs.Reach.{HasParentAmong, HasParent, IsAncestor}
use Rattle.vc_model.specs.Refs.{RefName, Refs, Head, IsBranch, tracking, with_refs}
use Rattle.vc_model.specs.Refs.Head.{OnBranch, Detached}
use Rattle.vc_model.specs.Repository.{Repository, Change, changed, changed_all, with_objects, IsSound}
use Rattle.vc_model.specs.Repository.Change.{SetRefs, RemoveRef, SetHead, SetIndex}
use Rattle.vc_model.specs.Message.{Message, IsNamedMessage, Carries}
use Rattle.vc_model.specs.Message.Message.{ListRefs, Advert, Want, Pack, Push, Report, Error}
use Rattle.vc_model.specs.Message.Envelope.{ToShared, ToClone}
use Rattle.vc_model.specs.Clone.{Awaited, Task, Performs, Receives, Moves, MovesAny, MovesBranch, head_to, accepted_ids}
use Rattle.vc_model.specs.Clone.Awaited.{Nothing}
use Rattle.vc_model.specs.Clone.Task.{Write, Stage, Unstage, LoadTree, MakeCommit, SetBranch, DeleteBranch, MoveHead, StartFetch, StartPush}
use Rattle.vc_model.specs.Node.{Node, Answer, Deed, Ends, PruneEnds}
use Rattle.vc_model.specs.Node.Answer.{Did, Declined, Fault}
use Rattle.vc_model.specs.Clone.{CloneEvent, CloneDoes, CloneStep, IsReached}
use Rattle.vc_model.specs.Clone.CloneEvent.{Commanded, Gets, PruneClone, RestartClone, QuietClone}
use Rattle.vc_model.specs.Clone.CloneStep.{down as clone_down, declines as clone_declines, works as clone_works, prunes as clone_prunes, restarts as clone_restarts, quiet as clone_quiet, faults as clone_faults}
use Rattle.vc_model.specs.World.{World, Event, ForClone, Step, StartsSound}
use Rattle.vc_model.specs.World.Step.{no_message, at_shared, at_clone}
use Rattle.vc_model.specs.World.Event.{Local, Deliver, Forge, StepPush, Prune, Restart, Stop, Ask, PackRefs, Noise}
use Rattle.vc_model.specs.World.Party.{TheShared, TheClone}
use Rattle.vc_model.specs.Run.{Moment, History, world_after, Run, Occurs, Brings, NoCollision}
use Rattle.vc_model.specs.Run.OccursIn.{in_clone, in_message}
use Rattle.vc_model.specs.Safe.{AncestorEver, Steady}
use Rattle.vc_model.proofs.Tracked.{IsTracking, at_clone_value, value_at_clone}
use Rattle.vc_model.proofs.Maps.{insert_same, insert_other, remove_other, same_key, bytes_same}
use Rattle.vc_model.proofs.Reaching.{reaches-steps}
use Rattle.vc_model.proofs.Tracking.{branch_apart, tag_apart}
use Rattle.vc_model.proofs.Kept.{restart_ok, Kept, ever_self, ever_trans, ever_more, occurs_now}
use Rattle.vc_model.proofs.Runs.{found_over, run_keeps, earlier}

abbrev refs_after : Change → Refs → Refs
refs_after (SetRefs rs) refs = with_refs rs refs
refs_after (RemoveRef n) refs = remove refs n
refs_after _ refs = refs

changed-refs : (c : Change) (r : Repository) → (changed c r).refs ≡ refs_after c r.refs
changed-refs (SetRefs rs) r = refl
changed-refs (RemoveRef n) r = refl
changed-refs (SetHead h) r = refl
changed-refs (SetIndex i) r = refl

module _ (anc : Id → Id → Type 0) (self : (a : Id) → anc a a) (trans : (a b c : Id) → anc a b → anc b c → anc a c) where
  -- Each tracking value stays, or moves to a descendant.
  abbrev pub Follows : Refs → Refs → Type 0
  Follows p q = (b : List ℕ) (x : Id) → get p (tracking b) ≡ Some x → (y : Id) × (get q (tracking b) ≡ Some y) × anc x y

  abbrev pub FollowsAll : Refs → List Change → Type 0
  FollowsAll refs [] = Unit {0}
  FollowsAll refs (c ∷ cs) = Follows refs (refs_after c refs) × FollowsAll (refs_after c refs) cs

  same : (refs : Refs) → Follows refs refs
  same refs b x h = (x, h, self x)

  compose : (p q r : Refs) → Follows p q → Follows q r → Follows p r
  compose p q r f g b x h = let y = f b x h in let z = g b y.0 y.1 in (z.0, z.1, trans x y.0 z.0 y.2 z.2)

  all_follow : (cs : List Change) (r : Repository) → FollowsAll r.refs cs → Follows r.refs (changed_all cs r).refs
  all_follow [] r h = same r.refs
  all_follow (c ∷ cs) r h = compose r.refs (changed c r).refs (changed_all cs (changed c r)).refs
      (subst (Follows r.refs) (sym (changed-refs c r)) h.0)
      (all_follow cs (changed c r) (subst (λ refs. FollowsAll refs cs) (sym (changed-refs c r)) h.1))

  front_follows : (k : ℕ) (refs : Refs) (cs : List Change) → FollowsAll refs cs → FollowsAll refs (take k cs)
  front_follows zero refs cs h = tt
  front_follows (suc k) refs [] h = tt
  front_follows (suc k) refs (c ∷ cs) h = (h.0, front_follows k (refs_after c refs) cs h.1)

  other_set : (refs : Refs) (n : RefName) (x : Id) → ((b : List ℕ) → n ≡ tracking b → ⊥) → Follows refs (insert refs n x)
  other_set refs n x apart b y h = (y, insert_other nat_list_cmp_total bytes_same refs n x (tracking b) (λ e. apart b (sym e)) ∙ h, self y)

  branch_set : (refs : Refs) (n : RefName) (x : Id) → IsBranch n → Follows refs (insert refs n x)
  branch_set refs n x i = other_set refs n x (λ b e. branch_apart i.0 b (sym i.1 ∙ e))

  branch_removed : (refs : Refs) (n : RefName) → IsBranch n → Follows refs (remove refs n)
  branch_removed refs n i b y h = (y, remove_other nat_list_cmp_total bytes_same refs n (tracking b) (λ e. branch_apart i.0 b (sym i.1 ∙ sym e)) ∙ h, self y)

  module _ (fmt : Format) where
    branch_moves : (at : Lookup) → ((a b : Id) → IsAncestor fmt at a b → anc a b) → (refs : Refs) (n : RefName) (x : Id) (t : RefName) → MovesBranch fmt at refs n x t → Follows refs (insert refs t x)
    branch_moves at to refs n x t m b y h = elim (same_key nat_list_cmp_total bytes_same (tracking b) t) [
      | inl e ↦
          let was : get refs t ≡ Some y = ap (get refs) (sym e) ∙ h in (
            x,
            ap (get (insert refs t x)) e ∙ insert_same nat_list_cmp_total bytes_same refs t x,
            elim (m.forward) [
              | inl none ↦ absurd (cc)
              | inr u ↦ let f = u.1 in let v : u.0 ≡ y = cc in subst (λ z. anc z x) v (to u.0 x u.3)
            ],
          )
      | inr e ↦ (y, insert_other nat_list_cmp_total bytes_same refs t x (tracking b) e ∙ h, self y)
    ]

    any_moves : (at : Lookup) → ((a b : Id) → IsAncestor fmt at a b → anc a b) → (refs : Refs) (n : RefName) (x : Id) (t : RefName) → MovesAny fmt at refs n x t → Follows refs (insert refs t x)
    any_moves at to refs n x t (inl m) = branch_moves at to refs n x t m
    any_moves at to refs n x t (inr m) = other_set refs t x (λ b e. tag_apart m.name b (sym m.tag_is ∙ (sym m.same ∙ e)))

    moves_follow : (may : Refs → RefName → Id → RefName → Type 0) → ((refs : Refs) (n : RefName) (x : Id) (t : RefName) → may refs n x t → Follows refs (insert refs t x))
        → (refs : Refs) (rs : List (RefName × Id)) (cs : List Change) → Moves may refs rs cs → FollowsAll refs cs
    moves_follow may ok refs [] cs m = subst (FollowsAll refs) (sym m) tt
    moves_follow may ok refs (r ∷ rs) cs (inl m) = subst (FollowsAll refs) (sym m.3) (ok refs r.0 r.1 m.0 m.2, moves_follow may ok (insert refs m.0 r.1) rs m.1 m.4)
    moves_follow may ok refs (r ∷ rs) cs (inr m) = moves_follow may ok refs rs cs m.1

    abbrev DeedFollows : Repository → Deed Awaited → Type 0
    DeedFollows r d = FollowsAll r.refs d.effect.changes

    head_follows : (refs : Refs) (h : Head) (x : Id) → ((n : RefName) → h ≡ OnBranch n → IsBranch n) → FollowsAll refs (head_to h x ∷ [])
    head_follows refs (OnBranch n) x i = (branch_set refs n x (i n refl), tt)
    head_follows refs (Detached y) x i = (same refs, tt)

    task_follows : (r : Repository) (a : Awaited) (t : Task) (d : Deed Awaited) → IsSound fmt r → Performs fmt r a t d → DeedFollows r d
    task_follows r a (Write o) d h is = subst (DeedFollows r) (sym is) tt
    task_follows r a (Stage p m o) d h is = subst (DeedFollows r) (sym is) (same r.refs, tt)
    task_follows r a (Unstage p) d h is = subst (DeedFollows r) (sym is) (same r.refs, tt)
    task_follows r a (LoadTree x) d h is = subst (DeedFollows r) (sym is.3) (same r.refs, tt)
    task_follows r a (MakeCommit x y z w) d h is = subst (DeedFollows r) (sym is.3) (head_follows r.refs r.head is.1 (λ n e. (h.on_branch n e).0))
    task_follows r a (SetBranch n x) d h is = subst (DeedFollows r) (sym is.3) (branch_set r.refs n x is.0.0, tt)
    task_follows r a (DeleteBranch n) d h is = subst (DeedFollows r) (sym is.1) (branch_removed r.refs n is.0, tt)
    task_follows r a (MoveHead (OnBranch n)) d h is = subst (DeedFollows r) (sym is.1) (same r.refs, tt)
    task_follows r a (MoveHead (Detached x)) d h is = subst (DeedFollows r) (sym is.1) (same r.refs, tt)
    task_follows r a StartFetch d h is = subst (DeedFollows r) (sym is) tt
    task_follows r a (StartPush atomic items) d h is = subst (DeedFollows r) (sym is.4) tt

    -- a message's objects, over the stored ones, give ancestors among what occurs
    abbrev Reads : Repository → Message → Type 0
    Reads r m = (ack : Option Id) (s : Objects) → m ≡ Pack ack s → (a b : Id) → IsAncestor fmt (over r.objects s) a b → anc a b

    message_follows : (r : Repository) (a : Awaited) (m : Message) (d : Deed Awaited) → ((a b : Id) → IsAncestor fmt (stored r.objects) a b → anc a b) → Reads r m → Receives fmt r a m d → DeedFollows r d
    message_follows r a (Advert head refs) d to reads is = elim (is.3) [
      | inl k ↦ subst (DeedFollows r) (sym k.1) tt
      | inr k ↦ subst (DeedFollows r) (sym k.1.deed) (moves_follow (MovesAny fmt (stored r.objects)) (any_moves (stored r.objects) to) r.refs (entries refs) k.1.changes k.1.moves)
    ]
    message_follows r a (Pack ack s) d to reads is =
        subst (DeedFollows r) (sym is.4.deed) (moves_follow (MovesAny fmt (over r.objects s)) (any_moves (over r.objects s) (reads ack s refl)) r.refs (entries is.1) is.4.changes is.4.moves)
    message_follows r a (Report fault ts) d to reads is =
        subst (DeedFollows r) (sym is.2) (moves_follow (MovesBranch fmt (stored r.objects)) (branch_moves (stored r.objects) to) r.refs (accepted_ids ts) is.0 is.1)
    message_follows r a ListRefs d to reads is = absurd is
    message_follows r a (Want x y) d to reads is = absurd is
    message_follows r a (Push x y z t) d to reads is = absurd is
    message_follows r a (Error text) d to reads is = absurd is

    ends_follow : (a : Answer) (n m : Node Awaited) (d : Deed Awaited) → DeedFollows n.repository d → Ends a n d m → Follows n.repository.refs m.repository.refs
    ends_follow (Did y) n m d h e = subst (λ (r : Repository). Follows n.repository.refs r.refs) (sym e.0.2) (all_follow d.effect.changes (with_objects n.repository e.0.0) h)
    ends_follow (Fault f) n m d h e = elim (e.0) [
      | inl k ↦ subst (λ (r : Repository). Follows n.repository.refs r.refs) (sym k.2) (same n.repository.refs)
      | inr k ↦ subst (λ (r : Repository). Follows n.repository.refs r.refs) (sym k.3)
          (all_follow (take k.1 d.effect.changes) (with_objects n.repository k.0) (front_follows k.1 n.repository.refs d.effect.changes h))
    ]
    ends_follow (Declined k) n m d h e = absurd e

    -- what each clone's tracking refs do
    abbrev pub ClonesFollow : FinMap nat_cmp (Node Awaited) → FinMap nat_cmp (Node Awaited) → Type 0
    ClonesFollow old new = (c : ℕ) (n : Node Awaited) → get old c ≡ Some n → (m : Node Awaited) × (get new c ≡ Some m) × Follows n.repository.refs m.repository.refs

    clones_same : (cs : FinMap nat_cmp (Node Awaited)) → ClonesFollow cs cs
    clones_same cs c n g = (n, g, same n.repository.refs)

    one_follows : (cs : FinMap nat_cmp (Node Awaited)) (c : ℕ) (n m : Node Awaited) → get cs c ≡ Some n → Follows n.repository.refs m.repository.refs → ClonesFollow cs (insert cs c m)
    one_follows cs c n m is f d k g = elim (same_key nat_cmp_total nat_cmp-IsAntisymmetric d c) [
      | inl e ↦
          let here : get cs c ≡ Some k = ap (get cs) (sym e) ∙ g in
          let alike : n ≡ k = cc in
          (m, ap (get (insert cs c m)) e ∙ insert_same nat_cmp_total nat_cmp-IsAntisymmetric cs c m, subst (λ (k : Node Awaited). Follows k.repository.refs m.repository.refs) alike f)
      | inr e ↦ (k, insert_other nat_cmp_total nat_cmp-IsAntisymmetric cs c m d e ∙ g, same k.repository.refs)
    ]

    pruned_follows : (a : Answer) (needed : Id → Type 0) (n m : Node Awaited) → PruneEnds a needed n m → Follows n.repository.refs m.repository.refs
    pruned_follows (Did y) needed n m e = subst (λ (r : Repository). Follows n.repository.refs r.refs) (sym e.1) (same n.repository.refs)
    pruned_follows (Fault f) needed n m e = subst (λ (r : Repository). Follows n.repository.refs r.refs) (sym e.1) (same n.repository.refs)
    pruned_follows (Declined k) needed n m e = absurd e

    -- a message that comes gives ancestors among what occurs
    abbrev pub ComesRead : Repository → CloneEvent → Type 0
    ComesRead r (Gets m) = Reads r m
    ComesRead r _ = Unit {0}

    clone_follows : (r : Repository) (a : Awaited) (e : CloneEvent) (d : Deed Awaited) → IsSound fmt r
        → ((a b : Id) → IsAncestor fmt (stored r.objects) a b → anc a b) → ComesRead r e → CloneDoes fmt r a e d → DeedFollows r d
    clone_follows r a (Commanded t) d h to reads is = task_follows r a t d h is
    clone_follows r a (Gets m) d h to reads is = message_follows r a m d to reads is
    clone_follows r a PruneClone d h to reads is = absurd is
    clone_follows r a RestartClone d h to reads is = absurd is
    clone_follows r a QuietClone d h to reads is = absurd is

    step_follows : (old new : Node Awaited) (e : CloneEvent) (a : Answer) (sends : Option Message) → IsSound fmt old.repository
        → ((a b : Id) → IsAncestor fmt (stored old.repository.objects) a b → anc a b) → ComesRead old.repository e → CloneStep fmt old e a new sends → Follows old.repository.refs new.repository.refs
    step_follows old new e a sends h to reads s = elim s [
      | clone_down x y v z is none ↦ subst (λ (n : Node Awaited). Follows old.repository.refs n.repository.refs) (sym is) (same old.repository.refs)
      | clone_declines w n x y z is none ↦ subst (λ (n : Node Awaited). Follows old.repository.refs n.repository.refs) (sym is) (same old.repository.refs)
      | clone_works w d up does ends is ↦ ends_follow a old new d (clone_follows old.repository w e d h to reads does) ends
      | clone_prunes w x up ends none ↦ pruned_follows a (IsReached fmt old.repository) old new ends
      | clone_restarts x ends none ↦ subst (λ (r : Repository). Follows old.repository.refs r.refs) (sym (restart_ok a old Nothing new ends).same) (same old.repository.refs)
      | clone_quiet x y is none ↦ subst (λ (n : Node Awaited). Follows old.repository.refs n.repository.refs) (sym is) (same old.repository.refs)
      | clone_faults w f x y is none ↦ subst (λ (n : Node Awaited). Follows old.repository.refs n.repository.refs) (sym is) (same old.repository.refs)
    ]

    world_follows : (old new : World) (e : Event) (a : Answer) → ((c : ℕ) (n : Node Awaited) → get old.clones c ≡ Some n → IsSound fmt n.repository)
        → ((c : ℕ) (n : Node Awaited) → get old.clones c ≡ Some n → (a b : Id) → IsAncestor fmt (stored n.repository.objects) a b → anc a b)
        → ((c : ℕ) (n : Node Awaited) (i : CloneEvent) → get old.clones c ≡ Some n → ForClone fmt old e c i → ComesRead n.repository i)
        → Step fmt old e a new → ClonesFollow old.clones new.clones
    world_follows old new e a sound to reads s = elim s [
      | no_message k x y z is ↦ subst (λ (w : World). ClonesFollow old.clones w.clones) (sym is) (clones_same old.clones)
      | at_shared c i n sends for step is ↦ subst (λ (w : World). ClonesFollow old.clones w.clones) (sym is) (clones_same old.clones)
      | at_clone c i n m sends for got step is ↦ subst (λ (w : World). ClonesFollow old.clones w.clones) (sym is)
          (one_follows old.clones c n m got (step_follows n m i a sends (sound c n got) (to c n got) (reads c n i got for) step))
    ]

-- an ancestor among objects that occur, each under its name
found_ever : (fmt : Format) (start : World) (h : History) (at : Lookup) → ((x : Id) (o : Object) → at x ≡ Some o → Occurs start h o × (fmt.name_of o ≡ x))
    → (a b : Id) → IsAncestor fmt at a b → AncestorEver fmt start h a b
found_ever fmt start h at all a b p = reaches-steps (HasParent fmt at) (HasParentAmong fmt (Occurs start h))
    (λ x y l. record { object = l.object; there = (all x l.object l.found).0; name = (all x l.object l.found).1; commit = l.commit; parent = l.parent }) b a p

-- a message that comes to a clone gives ancestors among what occurs
comes_read : (fmt : Format) (start : World) (m : Moment) (h : History) → Kept fmt (AncestorEver fmt start h) (world_after start h)
    → (e : Event) → ((o : Object) → Brings e o → Occurs start (m ∷ h) o) → (c : ℕ) (n : Node Awaited) (i : CloneEvent) → get (world_after start h).clones c ≡ Some n → ForClone fmt (world_after start h) e c i
    → ComesRead (AncestorEver fmt start (m ∷ h)) (ever_self fmt start (m ∷ h)) (ever_trans fmt start (m ∷ h)) fmt n.repository i
comes_read fmt start m h k e brought c n i got for = go e brought i for
  where
    here : (x : Id) (o : Object) → get n.repository.objects x ≡ Some o → Occurs start (m ∷ h) o × (fmt.name_of o ≡ x)
    here x o a = (inr (inr (occurs_now start h o (in_clone c n got (x, a)))), (k.clones c n got).objects.named x o a)

    reads : (q : Message) → IsNamedMessage fmt q → ((o : Object) → Carries q o → Occurs start (m ∷ h) o)
        → (ack : Option Id) (s : Objects) → q ≡ Pack ack s → (a b : Id) → IsAncestor fmt (over n.repository.objects s) a b → AncestorEver fmt start (m ∷ h) a b
    reads q named occurs ack s is = found_ever fmt start (m ∷ h) (over n.repository.objects s)
        (λ x o f. elim (found_over n.repository.objects s x o f) [
          | inl a ↦ here x o a
          | inr a ↦ (occurs o (subst (λ q. Carries q o) (sym is) (x, a)), (subst (IsNamedMessage fmt) is named).named x o a)
        ])

    go : (e : Event) → ((o : Object) → Brings e o → Occurs start (m ∷ h) o) → (i : CloneEvent) → ForClone fmt (world_after start h) e c i
        → ComesRead (AncestorEver fmt start (m ∷ h)) (ever_self fmt start (m ∷ h)) (ever_trans fmt start (m ∷ h)) fmt n.repository i
    go (Local b t) brought i is = subst (λ (i : CloneEvent). ComesRead (AncestorEver fmt start (m ∷ h)) (ever_self fmt start (m ∷ h)) (ever_trans fmt start (m ∷ h)) fmt n.repository i) (sym is.1) tt
    go (Deliver j) brought i is = subst (λ (i : CloneEvent). ComesRead (AncestorEver fmt start (m ∷ h)) (ever_self fmt start (m ∷ h)) (ever_trans fmt start (m ∷ h)) fmt n.repository i) (sym is.2)
        (reads is.0 (k.sent j (ToClone c is.0) is.1) (λ o q. inr (inr (occurs_now start h o (in_message j (ToClone c is.0) is.1 q)))))
    go (Forge (ToClone b q)) brought i is = subst (λ (i : CloneEvent). ComesRead (AncestorEver fmt start (m ∷ h)) (ever_self fmt start (m ∷ h)) (ever_trans fmt start (m ∷ h)) fmt n.repository i) (sym is.2) (reads q is.1 brought)
    go (Forge (ToShared b q)) brought i is = absurd is
    go (StepPush s) brought i is = absurd is
    go (Prune (TheClone b)) brought i is = subst (λ (i : CloneEvent). ComesRead (AncestorEver fmt start (m ∷ h)) (ever_self fmt start (m ∷ h)) (ever_trans fmt start (m ∷ h)) fmt n.repository i) (sym is.1) tt
    go (Restart (TheClone b)) brought i is = subst (λ (i : CloneEvent). ComesRead (AncestorEver fmt start (m ∷ h)) (ever_self fmt start (m ∷ h)) (ever_trans fmt start (m ∷ h)) fmt n.repository i) (sym is.1) tt
    go (Prune TheShared) brought i is = absurd is
    go (Restart TheShared) brought i is = absurd is
    go (Stop (TheClone b) w) brought i is = subst (λ (i : CloneEvent). ComesRead (AncestorEver fmt start (m ∷ h)) (ever_self fmt start (m ∷ h)) (ever_trans fmt start (m ∷ h)) fmt n.repository i) (sym is.1) tt
    go (Ask (TheClone b) x y) brought i is = subst (λ (i : CloneEvent). ComesRead (AncestorEver fmt start (m ∷ h)) (ever_self fmt start (m ∷ h)) (ever_trans fmt start (m ∷ h)) fmt n.repository i) (sym is.1) tt
    go (Stop TheShared w) brought i is = absurd is
    go (Ask TheShared x y) brought i is = absurd is
    go (PackRefs (TheClone b)) brought i is = subst (λ (i : CloneEvent). ComesRead (AncestorEver fmt start (m ∷ h)) (ever_self fmt start (m ∷ h)) (ever_trans fmt start (m ∷ h)) fmt n.repository i) (sym is.1) tt
    go (Noise (TheClone b)) brought i is = subst (λ (i : CloneEvent). ComesRead (AncestorEver fmt start (m ∷ h)) (ever_self fmt start (m ∷ h)) (ever_trans fmt start (m ∷ h)) fmt n.repository i) (sym is.1) tt
    go (PackRefs TheShared) brought i is = absurd is
    go (Noise TheShared) brought i is = absurd is

run_follows : (fmt : Format) (start : World) (m : Moment) (h : History) → Kept fmt (AncestorEver fmt start h) (world_after start h) → Step fmt (world_after start h) m.event m.answer m.world
    → ClonesFollow (AncestorEver fmt start (m ∷ h)) (ever_self fmt start (m ∷ h)) (ever_trans fmt start (m ∷ h)) fmt (world_after start h).clones m.world.clones
run_follows fmt start m h k s =
    world_follows (AncestorEver fmt start (m ∷ h)) (ever_self fmt start (m ∷ h)) (ever_trans fmt start (m ∷ h)) fmt (world_after start h) m.world m.event m.answer k.clones
    (λ c n g. found_ever fmt start (m ∷ h) (stored n.repository.objects) (λ x o f. (inr (inr (occurs_now start h o (in_clone c n g (x, f)))), (k.clones c n g).objects.named x o f)))
    (comes_read fmt start m h k m.event (λ o b. inr (inl b)))
    s

steady_at : (fmt : Format) (start : World) (late early : History) (c : ℕ) (b : List ℕ) (x : Id) → StartsSound fmt start → Run fmt start (late ++ early) → NoCollision fmt start (late ++ early)
    → IsTracking (world_after start early) c b x → (y : Id) × IsTracking (world_after start (late ++ early)) c b y × AncestorEver fmt start (late ++ early) x y
steady_at fmt start [] early c b x new r one t = (x, t, ever_self fmt start early x)
steady_at fmt start (m ∷ late) early c b x new r one t =
    let h : History = late ++ early in
    let one' : NoCollision fmt start h = earlier fmt start m h one in
    let y = steady_at fmt start late early c b x new r.1 one' t in
    let n = run_follows fmt start m h (run_keeps fmt start h new r.1 one') r.0 c y.1.0 y.1.1 in
    let z = n.2 b y.0 y.1.2 in
    (z.0, (n.0, n.1, z.1), ever_trans fmt start (m ∷ h) x y.0 z.0 (ever_more fmt start m h x y.0 y.2) z.2)

pub steady : Steady
steady fmt start late early c b x new r one e =
    let y = steady_at fmt start late early c b x new r one (at_clone_value (world_after start early) c b x e) in
    (y.0, value_at_clone (world_after start (late ++ early)) c b y.0 y.1, y.2)
