-- Every run keeps the invariant, and so each node closed, and the branches of the shared node going forward.
use Rattle.std.proofs.Common.{◌≡◌, ℕ, [], ◌∷◌, ◌++◌, Option, Some, None, ◌⊎◌, inl, inr, refl, sym, ap, ◌∙◌}
use Rattle.std.specs.FinMap.{get}
use Rattle.vc_model.specs.Object.{Id, Object, Format, Objects, stored, over}
use Rattle.vc_model.specs.Reach.{HasParentAmong, HasParent, IsAncestor, IsClosed}
use Rattle.vc_model.specs.Refs.{Head}
use Rattle.vc_model.specs.Refs.Head.{OnBranch, Detached}
use Rattle.vc_model.specs.Repository.{Repository, IsSound}
use Rattle.vc_model.specs.Push.{OpenPush, Slots}
use Rattle.vc_model.specs.World.{World, Step, StartsSound}
use Rattle.vc_model.specs.Run.{Occurs, Moment, History, world_after, Run, NoCollision}
use Rattle.vc_model.specs.Run.OccursIn.{in_shared, in_push, in_clone}
use Rattle.vc_model.specs.Safe.{StaysSound, ClosedUnderRefs, EveryNodeClosed, AncestorEver, Closed, Monotone}
use Rattle.vc_model.proofs.Reaching.{reaches-steps}
use Rattle.vc_model.proofs.Sound.{named_over}
use Rattle.vc_model.proofs.Kept.{Kept, StepKeeps, kept_new, kept_weaker, ever_self, ever_trans, ever_more, occurs_now, world_step}

-- what is found in a store over what a push carries is in one of them
pub found_over : (s c : Objects) (x : Id) (o : Object) → over s c x ≡ Some o → (get s x ≡ Some o) ⊎ (get c x ≡ Some o)
found_over s c x o h = go (get s x) (get c x) h
  where
    go : (a b : Option Object) → Rattle.std.specs.Option.option_or a b ≡ Some o → (a ≡ Some o) ⊎ (b ≡ Some o)
    go None b h = inr h
    go (Some p) b h = inl h

-- an ancestor at the shared node, with what a push carries, is one among all that occurs
ancestor_occurs : (fmt : Format) (start : World) (h : History) → Kept fmt (AncestorEver fmt start h) (world_after start h)
    → (slots : Slots) (j : ℕ) (p : OpenPush) → (world_after start h).shared.live ≡ Some slots → get slots j ≡ Some p
    → (a b : Id) → IsAncestor fmt (over (world_after start h).shared.repository.objects p.carried) a b → AncestorEver fmt start h a b
ancestor_occurs fmt start h k slots j p up is a b q =
    let s : Objects = (world_after start h).shared.repository.objects in
    reaches-steps (HasParent fmt (over s p.carried)) (HasParentAmong fmt (Occurs start h))
    (λ x y l. record {
      object = l.object;
      there = occurs_now start h l.object (elim (found_over s p.carried x l.object l.found) [
        | inl f ↦ in_shared (x, f)
        | inr f ↦ in_push slots j p up is (x, f)
      ]);
      name = named_over fmt s p.carried x l.object k.shared.sound.objects (k.shared.slots slots up j p is).carried l.found;
      commit = l.commit;
      parent = l.parent;
    }) b a q

pub step_keeps : (fmt : Format) (start : World) (m : Moment) (h : History) → Kept fmt (AncestorEver fmt start h) (world_after start h) → NoCollision fmt start (m ∷ h)
    → Step fmt (world_after start h) m.event m.answer m.world → StepKeeps fmt (AncestorEver fmt start (m ∷ h)) (world_after start h) m.world
step_keeps fmt start m h k one s =
    let anc : Id → Id → Type 0 = AncestorEver fmt start (m ∷ h) in
    let old : World = world_after start h in
    let k' : Kept fmt anc old = kept_weaker fmt (AncestorEver fmt start h) anc (ever_more fmt start m h) old k in
    let self = ever_self fmt start (m ∷ h) in
    let trans = ever_trans fmt start (m ∷ h) in
    world_step fmt anc self trans old m.world m.event m.answer k'
    (λ slots j p up is a b q. ever_more fmt start m h a b (ancestor_occurs fmt start h k slots j p up is a b q))
    (λ slots j p up is c n x o q f g. one.unique o q
    (inr (inr (occurs_now start h o (in_push slots j p up is (x, f)))))
    (inl (in_shared (x, g)))
    (c.named x o f ∙ sym (n.named x q g)))
    (λ c n o p is sound b f. one.unique o p (inr (inl b)) (inr (inr (occurs_now start h p (in_clone c n is (fmt.name_of o, f))))) (sym (sound.objects.named (fmt.name_of o) p f)))
    s

-- what collides in no run collides in none of its fronts
pub earlier : (fmt : Format) (start : World) (m : Moment) (h : History) → NoCollision fmt start (m ∷ h) → NoCollision fmt start h
earlier fmt start m h one = record { unique = λ o p a b e. one.unique o p (inr (inr a)) (inr (inr b)) e }

pub run_keeps : (fmt : Format) (start : World) (h : History) → StartsSound fmt start → Run fmt start h → NoCollision fmt start h → Kept fmt (AncestorEver fmt start h) (world_after start h)
run_keeps fmt start [] new r one = kept_new fmt (AncestorEver fmt start []) start new
run_keeps fmt start (m ∷ h) new r one = (step_keeps fmt start m h (run_keeps fmt start h new r.1 (earlier fmt start m h one)) one r.0).kept

-- ---- Closed

head_closed : (fmt : Format) (r : Repository) → IsSound fmt r → (h : Head) → r.head ≡ h → (x : Id) → elim h [ OnBranch b ↦ get r.refs b | Detached y ↦ Some y ] ≡ Some x → IsClosed fmt (stored r.objects) x
head_closed fmt r s (OnBranch b) e x g = (s.refs b x g).closed
head_closed fmt r s (Detached y) e x g = let same : y ≡ x = cc in (s.head x (e ∙ ap Detached same)).0

pub closed_of_sound : (fmt : Format) (r : Repository) → IsSound fmt r → ClosedUnderRefs fmt r
closed_of_sound fmt r s = record { refs = λ n x g. (s.refs n x g).closed; head = λ x g. head_closed fmt r s r.head refl x g }

pub all_closed : (fmt : Format) (anc : Id → Id → Type 0) (w : World) → Kept fmt anc w → EveryNodeClosed fmt w
all_closed fmt anc w k = record { shared = closed_of_sound fmt w.shared.repository k.shared.sound; clones = λ c n g. closed_of_sound fmt n.repository (k.clones c n g) }

pub front_run : (fmt : Format) (start : World) (late early : History) → Run fmt start (late ++ early) → Run fmt start early
front_run fmt start [] early r = r
front_run fmt start (m ∷ late) early r = front_run fmt start late early r.1

pub front_one : (fmt : Format) (start : World) (late early : History) → NoCollision fmt start (late ++ early) → NoCollision fmt start early
front_one fmt start [] early r = r
front_one fmt start (m ∷ late) early r = front_one fmt start late early (earlier fmt start m (late ++ early) r)

pub every_node_closed : Closed
every_node_closed fmt start late early new r one =
    all_closed fmt (AncestorEver fmt start early) (world_after start early) (run_keeps fmt start early new (front_run fmt start late early r) (front_one fmt start late early one))

pub stays_sound : StaysSound
stays_sound fmt start late early new r one =
    let k = run_keeps fmt start early new (front_run fmt start late early r) (front_one fmt start late early one) in
    record { shared = k.shared.sound; bare = k.shared.bare; clones = k.clones }

-- ---- Monotone

pub monotone : Monotone
monotone fmt start [] early b x new r one v = (x, v, ever_self fmt start early x)
monotone fmt start (m ∷ late) early b x new r one v =
    let h : History = late ++ early in
    let one' : NoCollision fmt start h = earlier fmt start m h one in
    let y = monotone fmt start late early b x new r.1 one' v in
    let z = (step_keeps fmt start m h (run_keeps fmt start h new r.1 one') one r.0).forward b y.0 y.1 in
    (z.0, z.1, ever_trans fmt start (m ∷ h) x y.0 z.0 (ever_more fmt start m h x y.0 y.2) z.2)
