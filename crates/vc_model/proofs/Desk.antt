-- Every run of the shared node alone keeps it closed, and its branches going forward.
use Rattle.std.proofs.Common.{◌≡◌, ℕ, List, [], ◌∷◌, ◌++◌, map, Some, inl, inr, refl, sym, ◌∙◌, subst, nat_cmp}
use Rattle.std.specs.FinMap.{get}
use Rattle.vc_model.specs.Object.{Id, Object, Format, Objects, over}
use Rattle.vc_model.specs.Reach.{HasParentAmong, IsAncestorAmong, HasParent, IsAncestor}
use Rattle.vc_model.specs.Refs.{branch}
use Rattle.vc_model.specs.Push.{OpenPush, Slots}
use Rattle.vc_model.specs.Node.{Node}
use Rattle.vc_model.specs.Shared.{SharedEvent, SharedStep}
use Rattle.vc_model.specs.Rules.{Rules, rules_by}
use Rattle.vc_model.specs.Exact.{shared_event}
use Rattle.vc_model.specs.Shared.SharedEvent.{Arrives, StepSlot, PruneShared, RestartShared, QuietShared}
use Rattle.vc_model.specs.Repository.{IsSound, IsBare}
use Rattle.vc_model.specs.Desk.{Served, Receipt, Log, node_after, IsServed, IsWell, IsAt, WasThere, NoneCollide, OpensSound, DeskClosed, DeskForward, ExactLog, node_left, IsAnswered, served, ExactLogIsLog}
use Rattle.vc_model.specs.Desk.IsAt.{in_store, in_push}
use Rattle.vc_model.specs.Keeping.{Arrived, SharedKept}
use Rattle.vc_model.proofs.Maps.{none_in_empty}
use Rattle.vc_model.proofs.Reaching.{reaches-trans, reaches-steps}
use Rattle.vc_model.proofs.Sound.{named_over}
use Rattle.vc_model.proofs.Kept.{SharedKeeps, push_weaker, shared_step}
use Rattle.vc_model.proofs.Runs.{found_over, closed_of_sound}
use Rattle.vc_model.proofs.SharedAnswers.{shared_answer_is_step}

module _ (fmt : Format) (start : Node Slots) where
  abbrev Was : Log → Id → Id → Type 0
  Was es = IsAncestorAmong fmt (WasThere start es)

  self : (es : Log) (a : Id) → Was es a a
  self es a = ([], refl)

  trans : (es : Log) (a b c : Id) → Was es a b → Was es b c → Was es a c
  trans es a b c p q = reaches-trans (HasParentAmong fmt (WasThere start es)) c b a q p

  more : (e : Served) (es : Log) (a b : Id) → Was es a b → Was (e ∷ es) a b
  more e es a b p = reaches-steps (HasParentAmong fmt (WasThere start es)) (HasParentAmong fmt (WasThere start (e ∷ es)))
      (λ x y s. record { object = s.object; there = inr (inr s.there); name = s.name; commit = s.commit; parent = s.parent }) b a p

  now : (es : Log) (o : Object) → IsAt (node_after start es) o → WasThere start es o
  now [] o i = i
  now (e ∷ es) o i = inl i

  earlier_log : (e : Served) (es : Log) → NoneCollide fmt start (e ∷ es) → NoneCollide fmt start es
  earlier_log e es one o p a b n = one o p (inr (inr a)) (inr (inr b)) n

  carried_ancestor : (es : Log) → SharedKept fmt (Was es) (node_after start es) → (slots : Slots) (j : ℕ) (p : OpenPush) → (node_after start es).live ≡ Some slots → get slots j ≡ Some p
      → (a b : Id) → IsAncestor fmt (over (node_after start es).repository.objects p.carried) a b → Was es a b
  carried_ancestor es k slots j p up is a b q =
      let s : Objects = (node_after start es).repository.objects in
      reaches-steps (HasParent fmt (over s p.carried)) (HasParentAmong fmt (WasThere start es))
      (λ x y l. record {
        object = l.object;
        there = now es l.object (elim (found_over s p.carried x l.object l.found) [ inl f ↦ in_store (x, f) | inr f ↦ in_push slots j p up is (x, f) ]);
        name = named_over fmt s p.carried x l.object k.sound.objects (k.slots slots up j p is).carried l.found;
        commit = l.commit;
        parent = l.parent;
      }) b a q

  arrives : (e : SharedEvent) → IsWell fmt e → Arrived fmt e
  arrives (Arrives m) h = h
  arrives (StepSlot s) h = tt
  arrives PruneShared h = tt
  arrives RestartShared h = tt
  arrives QuietShared h = tt

  served_step : (e : Served) (es : Log) → SharedKept fmt (Was es) (node_after start es) → NoneCollide fmt start (e ∷ es) → IsServed fmt start (e ∷ es) → SharedKeeps fmt (Was (e ∷ es)) (node_after start es) e.node e.sends
  served_step e es k one r =
      let weaker : SharedKept fmt (Was (e ∷ es)) (node_after start es)
      = record { sound = k.sound; bare = k.bare; slots = λ slots up j u is. push_weaker fmt (Was es) (Was (e ∷ es)) (more e es) (node_after start es).repository.objects u (k.slots slots up j u is) } in
      shared_step fmt (Was (e ∷ es)) (self (e ∷ es)) (trans (e ∷ es)) (node_after start es) e.node e.event e.answer e.sends weaker (arrives e.event r.0)
      (λ slots j p up is a b q. more e es a b (carried_ancestor es k slots j p up is a b q))
      (λ slots j p up is c n x o q f g. one o q (inr (inr (now es o (in_push slots j p up is (x, f))))) (inl (in_store (x, g))) (c.named x o f ∙ sym (n.named x q g)))
      r.1

  log_keeps : (es : Log) → OpensSound fmt start → IsServed fmt start es → NoneCollide fmt start es → SharedKept fmt (Was es) (node_after start es)
  log_keeps [] h r one = record { sound = h.sound; bare = h.bare; slots = λ slots up k p is. absurd (none_in_empty nat_cmp k p (subst (λ s. get s k ≡ Some p) (h.idle slots up) is)) }
  log_keeps (e ∷ es) h r one = (served_step e es (log_keeps es h r.2 (earlier_log e es one)) one r).kept

  front_log : (late early : Log) → IsServed fmt start (late ++ early) → IsServed fmt start early
  front_log [] early r = r
  front_log (e ∷ late) early r = front_log late early r.2

  front_none : (late early : Log) → NoneCollide fmt start (late ++ early) → NoneCollide fmt start early
  front_none [] early one = one
  front_none (e ∷ late) early one = front_none late early (earlier_log e (late ++ early) one)

  desk_forward_from : (late early : Log) (b : List ℕ) (x : Id) → OpensSound fmt start → IsServed fmt start (late ++ early) → NoneCollide fmt start (late ++ early)
      → get (node_after start early).repository.refs (branch b) ≡ Some x → (y : Id) × (get (node_after start (late ++ early)).repository.refs (branch b) ≡ Some y) × Was (late ++ early) x y
  desk_forward_from [] early b x h r one v = (x, v, self early x)
  desk_forward_from (e ∷ late) early b x h r one v =
      let es : Log = late ++ early in
      let one' : NoneCollide fmt start es = earlier_log e es one in
      let y = desk_forward_from late early b x h r.2 one' v in
      let z = (served_step e es (log_keeps es h r.2 one') one r).forward b y.0 y.1 in
      (z.0, z.1, trans (e ∷ es) x y.0 z.0 (more e es x y.0 y.2) z.2)

pub desk_closed : DeskClosed
desk_closed fmt start late early h r one =
    closed_of_sound fmt (node_after start early).repository (log_keeps fmt start early h (front_log fmt start late early r) (front_none fmt start late early one)).sound

pub desk_forward : DeskForward
desk_forward fmt start late early b x h r one v = desk_forward_from fmt start late early b x h r one v

-- ---- an exact log

pub node_of_log : (start : Node Slots) (es : ExactLog) → node_after start (map served es) ≡ node_left start es
node_of_log start [] = refl
node_of_log start (e ∷ es) = refl

pub exact_log : (fmt : Format) (rules : Rules fmt) (start : Node Slots) (es : ExactLog) → IsAnswered fmt rules start es → IsServed fmt start (map served es)
exact_log fmt rules start [] h = tt
exact_log fmt rules start (e ∷ es) h = (
  h.0,
  subst (λ (n : Node Slots). SharedStep fmt n (shared_event e.call) e.answer e.node e.sends) (sym (node_of_log start es))
      (shared_answer_is_step fmt rules (node_left start es) e.node e.call e.answer e.sends h.1),
  exact_log fmt rules start es h.2,
)

pub exact_log_is_log : ExactLogIsLog
exact_log_is_log fmt tests start es h = exact_log fmt (rules_by fmt tests) start es h

-- A node that an exact log leads to is sound and bare, if the log begins at a sound node and no names collide in it.
pub exact_log_stays_sound : (fmt : Format) (rules : Rules fmt) (start : Node Slots) (es : ExactLog) → OpensSound fmt start → IsAnswered fmt rules start es → NoneCollide fmt start (map served es)
    → IsSound fmt (node_left start es).repository × IsBare fmt (node_left start es).repository
exact_log_stays_sound fmt rules start es h answered one =
    let k : SharedKept fmt (Was fmt start (map served es)) (node_after start (map served es)) = log_keeps fmt start (map served es) h (exact_log fmt rules start es answered) one in
    subst (λ (n : Node Slots). IsSound fmt n.repository × IsBare fmt n.repository) (node_of_log start es) (k.sound, k.bare)

-- What holds of a log's names holds of an earlier one's.
pub exact_log_earlier : (fmt : Format) (start : Node Slots) (e : Receipt) (es : ExactLog) → NoneCollide fmt start (map served (e ∷ es)) → NoneCollide fmt start (map served es)
exact_log_earlier fmt start e es one = earlier_log fmt start (served e) (map served es) one
