-- Every exact answer keeps a node good, and so does every exact run.
use Rattle.std.proofs.Common.{◌≡◌, ℕ, [], ◌∷◌, Option, Some, Result, Ok, Err, inl, inr, sym, subst, nat_cmp, slice_get}
use Rattle.std.specs.FinMap.{get, nat_cmp-IsAntisymmetric}
use Rattle.std.specs.Cmp.{nat_cmp_total}
use Rattle.vc_model.specs.Object.{Format}
use Rattle.vc_model.specs.Repository.{Repository}
use Rattle.vc_model.specs.Push.{Slots}
use Rattle.vc_model.specs.Message.{Message, Envelope, message_of}
use Rattle.vc_model.specs.Message.Envelope.{ToShared, ToClone}
use Rattle.vc_model.specs.Node.{Answer}
use Rattle.vc_model.specs.Shared.{SharedNode}
use Rattle.vc_model.specs.Clone.{CloneNode, Task}
use Rattle.vc_model.specs.Clone.Awaited.{Nothing}
use Rattle.vc_model.specs.World.{World, empty_repository}
use Rattle.vc_model.specs.World.Party.{TheShared, TheClone}
use Rattle.vc_model.specs.Run.{world_after}
use Rattle.vc_model.specs.Safe.{EveryNodeSound}
use Rattle.vc_model.specs.Apart.{EveryNodeApart}
use Rattle.vc_model.specs.Keeping.{Arrived, Comes, SharedKept, Alone, any_order}
use Rattle.vc_model.specs.Rules.{Rules, rules_by, IsFormedMessage}
use Rattle.vc_model.specs.Wire.{Wire, wire_by}
use Rattle.vc_model.specs.SharedCall.{SharedCall, SharedAnswers}
use Rattle.vc_model.specs.SharedCall.SharedCall.{Accept, StepOf, Asks as AsksShared, Prune as PruneShared, Open as OpenShared}
use Rattle.vc_model.specs.CloneCall.{CloneCall, CloneAnswers}
use Rattle.vc_model.specs.CloneCall.CloneCall.{Command, Receive, Asks, Prune, Open}
use Rattle.vc_model.specs.Order.{Order, call_of}
use Rattle.vc_model.specs.ExactWorld.{FusedWorld, WorldEvent, CallsShared, OrderCalls, CallsClone, WorldAnswers, ExactHistory, fused_after, ExactRun}
use Rattle.vc_model.specs.ExactWorld.Letter.{FromClone, FromShared}
use Rattle.vc_model.specs.ExactWorld.WorldEvent.{Orders, Delivers, Forges, Steps, Compares, Prunes, Packs, Restarts, Stops}
use Rattle.vc_model.specs.ExactWorld.WorldAnswers.{no_message, stop_shared, stop_clone, at_shared, at_clone}
use Rattle.vc_model.specs.Exact.{clone_event, shared_event, CallFits}
use Rattle.vc_model.specs.Good.{IsGood, IsGoodShared, SendsGood, EveryNodeGood, BringsGood, BringsGoodToShared, CloneAnswerKeepsGood, SharedAnswerKeepsGood, ExactRunStaysGood, NewIsGood}
use Rattle.vc_model.proofs.Maps.{insert_cases, none_in_empty}
use Rattle.vc_model.proofs.Kept.{shared_step_keeps, clone_step_keeps, more_sent, new_is_sound}
use Rattle.vc_model.proofs.Runs.{stays_sound}
use Rattle.vc_model.proofs.Apart.{clone_apart, shared_apart, new_apart, run_apart}
use Rattle.vc_model.proofs.CloneAnswers.{clone_answer_is_step, made_of}
use Rattle.vc_model.proofs.SharedAnswers.{shared_answer_is_step}
use Rattle.vc_model.proofs.ExactRuns.{exact_run, same_world, front_exactly, front_collision}
use Rattle.vc_model.proofs.Formed.{Formed, LiveFormed, empty_formed, BringsFormed, BringsFormedToShared, CloneFormed, SharedFormed, clone_formed, shared_formed}

-- ---- one answer

module _ (fmt : Format) (rules : Rules fmt) where
  comes : (r : Repository) (e : CloneCall) → CallFits fmt rules r e → BringsGood fmt rules e → Comes fmt r (clone_event e)
  comes r (Command t) f b = λ o p brought there. f.stored o p (made_of fmt rules r t o brought) there
  comes r (Receive m) f b = b.0
  comes r (Asks q) f b = tt
  comes r Prune f b = tt
  comes r Open f b = tt

  brings : (e : CloneCall) → BringsGood fmt rules e → BringsFormed fmt rules e
  brings (Command t) b = tt
  brings (Receive m) b = b.1
  brings (Asks q) b = tt
  brings Prune b = tt
  brings Open b = tt

  arrived : (e : SharedCall) → BringsGoodToShared fmt rules e → Arrived fmt (shared_event e)
  arrived (Accept m) b = b.0
  arrived (StepOf s) b = tt
  arrived (AsksShared q) b = tt
  arrived PruneShared b = tt
  arrived OpenShared b = tt

  brings_to_shared : (e : SharedCall) → BringsGoodToShared fmt rules e → BringsFormedToShared fmt rules e
  brings_to_shared (Accept m) b = b.1
  brings_to_shared (StepOf s) b = tt
  brings_to_shared (AsksShared q) b = tt
  brings_to_shared PruneShared b = tt
  brings_to_shared OpenShared b = tt

  pub clone_keeps_good : (old new : CloneNode) (e : CloneCall) (a : Answer) (sends : Option Message) → IsGood fmt rules old.repository → CallFits fmt rules old.repository e → BringsGood fmt rules e
      → CloneAnswers fmt rules old e a new sends → IsGood fmt rules new.repository × SendsGood fmt rules sends
  clone_keeps_good old new e a sends h f b s =
      let step = clone_answer_is_step fmt rules old new e a sends h.sound f s in
      let kept = clone_step_keeps fmt old new (clone_event e) a sends h.sound (comes old.repository e f b) step in
      let form : CloneFormed fmt rules new sends = clone_formed fmt rules old new e a sends h.formed (brings e b) s in
      (record { sound = kept.0; formed = form.formed; apart = clone_apart fmt old new (clone_event e) a sends h.apart step }, λ m g. (kept.1 m g, form.sent m g))

  pub shared_keeps_good : (old new : SharedNode) (e : SharedCall) (a : Answer) (sends : Option Message) → IsGoodShared fmt rules old → SharedKept fmt any_order old → BringsGoodToShared fmt rules e
      → ((slots : Slots) → old.live ≡ Some slots → Alone new.repository.objects slots) → SharedAnswers fmt rules old e a new sends
      → IsGoodShared fmt rules new × SharedKept fmt any_order new × SendsGood fmt rules sends
  shared_keeps_good old new e a sends h k b alone s =
      let step = shared_answer_is_step fmt rules old new e a sends s in
      let kept = shared_step_keeps fmt old new (shared_event e) a sends k (arrived e b) alone step in
      let form : SharedFormed fmt rules new sends = shared_formed fmt rules old new e a sends h.good.formed h.carried (brings_to_shared e b) s in (
        record {
          good = record { sound = kept.0.sound; formed = form.formed; apart = shared_apart fmt old new (shared_event e) a sends h.good.apart step };
          bare = kept.0.bare;
          carried = form.carried;
        },
        kept.0,
        λ m g. (kept.1 m g, form.sent m g),
      )

pub clone_answer_keeps_good : CloneAnswerKeepsGood
clone_answer_keeps_good fmt tests old new e a sends h f b s = clone_keeps_good fmt (rules_by fmt tests) old new e a sends h f b s

pub shared_answer_keeps_good : SharedAnswerKeepsGood
shared_answer_keeps_good fmt tests old new e a sends h k b alone s = shared_keeps_good fmt (rules_by fmt tests) old new e a sends h k b alone s

-- ---- a run

module _ (fmt : Format) (wire : Wire fmt) where
  -- no body that is anywhere is refused
  pub record EveryNodeFormed (w : World) : Type 0 where
    pub shared : Formed fmt wire.rules w.shared.repository.objects
    pub carried : LiveFormed fmt wire.rules w.shared
    pub clones : (c : ℕ) (n : CloneNode) → get w.clones c ≡ Some n → Formed fmt wire.rules n.repository.objects
    pub sent : (k : ℕ) (e : Envelope) → slice_get w.sent k ≡ Some e → IsFormedMessage fmt wire.rules (message_of e)

  abbrev ToSharedFormed : SharedCall → Type 0
  ToSharedFormed i = BringsFormedToShared fmt wire.rules i

  shared_brings : (w : World) (e : WorldEvent) (c : ℕ) (i : SharedCall) → EveryNodeFormed w → CallsShared fmt wire w e c i → ToSharedFormed i
  shared_brings w (Delivers k) c i f h = subst ToSharedFormed (sym h.2) (f.sent k (ToShared c h.0) h.1)
  shared_brings w (Forges (FromClone b bytes)) c i f h = elim (h.1) [
    | inl m ↦ subst ToSharedFormed (sym m.2) (wire.formed bytes m.0 m.1)
    | inr n ↦ subst ToSharedFormed (sym n.2) tt
  ]
  shared_brings w (Forges (FromShared b bytes)) c i f h = absurd h
  shared_brings w (Steps s) c i f h = subst ToSharedFormed (sym h.1) tt
  shared_brings w (Compares TheShared x y) c i f h = subst ToSharedFormed (sym h.1) tt
  shared_brings w (Compares (TheClone b) x y) c i f h = absurd h
  shared_brings w (Prunes TheShared) c i f h = subst ToSharedFormed (sym h.1) tt
  shared_brings w (Prunes (TheClone b)) c i f h = absurd h
  shared_brings w (Packs TheShared) c i f h = subst ToSharedFormed (sym h.1) tt
  shared_brings w (Packs (TheClone b)) c i f h = absurd h
  shared_brings w (Restarts TheShared) c i f h = subst ToSharedFormed (sym h.1) tt
  shared_brings w (Restarts (TheClone b)) c i f h = absurd h
  shared_brings w (Orders b o) c i f h = absurd h
  shared_brings w (Stops p n) c i f h = absurd h

  abbrev ToCloneFormed : CloneCall → Type 0
  ToCloneFormed i = BringsFormed fmt wire.rules i

  order_brings : (n : CloneNode) (o : Order) (i : CloneCall) → OrderCalls fmt wire.rules n o i → ToCloneFormed i
  order_brings n o i (inl h) = subst ToCloneFormed (sym h.1) tt
  order_brings n o i (inr h) = elim (h.1) [
    | inl k ↦ subst ToCloneFormed (sym k.2) (called k.0)
    | inr k ↦ subst ToCloneFormed (sym k) tt
  ]
    where
      called : (v : Result Task ℕ) → ToCloneFormed (call_of v)
      called (Ok t) = tt
      called (Err n) = tt

  clone_brings : (w : World) (e : WorldEvent) (c : ℕ) (n : CloneNode) (i : CloneCall) → EveryNodeFormed w → CallsClone fmt wire w e c n i → ToCloneFormed i
  clone_brings w (Orders b o) c n i f h = order_brings n o i h.1
  clone_brings w (Delivers k) c n i f h = subst ToCloneFormed (sym h.2) (f.sent k (ToClone c h.0) h.1)
  clone_brings w (Forges (FromShared b bytes)) c n i f h = elim (h.1) [
    | inl m ↦ subst ToCloneFormed (sym m.2) (wire.formed bytes m.0 m.1)
    | inr k ↦ subst ToCloneFormed (sym k.2) tt
  ]
  clone_brings w (Forges (FromClone b bytes)) c n i f h = absurd h
  clone_brings w (Compares (TheClone b) x y) c n i f h = subst ToCloneFormed (sym h.1) tt
  clone_brings w (Compares TheShared x y) c n i f h = absurd h
  clone_brings w (Prunes (TheClone b)) c n i f h = subst ToCloneFormed (sym h.1) tt
  clone_brings w (Prunes TheShared) c n i f h = absurd h
  clone_brings w (Packs (TheClone b)) c n i f h = subst ToCloneFormed (sym h.1) tt
  clone_brings w (Packs TheShared) c n i f h = absurd h
  clone_brings w (Restarts (TheClone b)) c n i f h = subst ToCloneFormed (sym h.1) tt
  clone_brings w (Restarts TheShared) c n i f h = absurd h
  clone_brings w (Steps s) c n i f h = absurd h
  clone_brings w (Stops p k) c n i f h = absurd h

  abbrev FormedLetter : Envelope → Type 0
  FormedLetter e = IsFormedMessage fmt wire.rules (message_of e)

  world_formed : (old new : FusedWorld) (e : WorldEvent) (a : Answer) → EveryNodeFormed old.world → WorldAnswers fmt wire old e a new → EveryNodeFormed new.world
  world_formed old new e a f s = elim s [
    | no_message k is none answer same ↦ subst (λ (w : FusedWorld). EveryNodeFormed w.world) (sym same) f
    | stop_shared writes g is fuse answer same ↦ subst (λ (w : FusedWorld). EveryNodeFormed w.world) (sym same) f
    | stop_clone c n writes g is got fuse answer same ↦ subst (λ (w : FusedWorld). EveryNodeFormed w.world) (sym same) f
    | at_shared c i n sends g calls answers burns same ↦
        let k : SharedFormed fmt wire.rules n sends = shared_formed fmt wire.rules old.world.shared n i a sends f.shared f.carried (shared_brings old.world e c i f calls) answers in
        subst (λ (w : FusedWorld). EveryNodeFormed w.world) (sym same) (record {
          shared = k.formed;
          carried = k.carried;
          clones = f.clones;
          sent = more_sent FormedLetter (ToClone c) old.world.sent sends f.sent k.sent;
        })
    | at_clone c n m i sends g got calls answers burns same ↦
        let k : CloneFormed fmt wire.rules m sends = clone_formed fmt wire.rules n m i a sends (f.clones c n got) (clone_brings old.world e c n i f calls) answers in
        subst (λ (w : FusedWorld). EveryNodeFormed w.world) (sym same) (record {
          shared = f.shared;
          carried = f.carried;
          clones = λ d x is. elim (insert_cases nat_cmp_total nat_cmp-IsAntisymmetric old.world.clones c m d x is) [
            | inl e ↦ subst (λ (x : CloneNode). Formed fmt wire.rules x.repository.objects) (sym e.1) k.formed
            | inr was ↦ f.clones d x was
          ];
          sent = more_sent FormedLetter (ToShared c) old.world.sent sends f.sent k.sent;
        })
  ]

  run_formed : (start : FusedWorld) (h : ExactHistory) → EveryNodeFormed start.world → ExactRun fmt wire start h → EveryNodeFormed (fused_after start h).world
  run_formed start [] f r = f
  run_formed start (m ∷ h) f r = world_formed (fused_after start h) m.world m.event m.answer (run_formed start h f r.1) r.0

  formed_of : (w : World) → EveryNodeGood fmt wire.rules w → EveryNodeFormed w
  formed_of w g = record { shared = g.shared.good.formed; carried = g.shared.carried; clones = λ c n is. (g.clones c n is).formed; sent = g.sent }

  apart_of : (w : World) → EveryNodeGood fmt wire.rules w → EveryNodeApart w
  apart_of w g = record { shared = g.shared.good.apart; clones = λ c n is. (g.clones c n is).apart }

  together : (w : World) → EveryNodeSound fmt w → EveryNodeApart w → EveryNodeFormed w → EveryNodeGood fmt wire.rules w
  together w s a f = record {
    shared = record { good = record { sound = s.shared; formed = f.shared; apart = a.shared }; bare = s.bare; carried = f.carried };
    clones = λ c n is. record { sound = s.clones c n is; formed = f.clones c n is; apart = a.clones c n is };
    sent = f.sent;
  }

pub exact_run_stays_good : ExactRunStaysGood
exact_run_stays_good fmt tests start late early new good r one =
    let wire : Wire fmt = wire_by fmt tests in
    let r' : ExactRun fmt wire start early = front_exactly fmt wire start late early r in
    let k = exact_run fmt wire start early new r' (front_collision fmt wire start late early one) in
    let same : world_after start.world k.0 ≡ (fused_after start early).world = same_world fmt wire start early k.0 k.1 in
    together fmt wire (fused_after start early).world
    (subst (EveryNodeSound fmt) same (stays_sound fmt start.world [] k.0 new k.2 k.3))
    (subst EveryNodeApart same (run_apart fmt start.world k.0 (apart_of fmt wire start.world good) k.2))
    (run_formed fmt wire start early (formed_of fmt wire start.world good) r')

-- ---- a new world

pub new_is_good : NewIsGood
new_is_good fmt tests w n new =
    let rules : Rules fmt = rules_by fmt tests in
    let sound = new_is_sound fmt w n new in
    let apart = new_apart n w new in
    let none = empty_formed fmt rules in
    record {
      shared = record {
        good = record { sound = sound.shared; formed = subst (λ (s : SharedNode). Formed fmt rules s.repository.objects) (sym new.shared) none; apart = apart.shared };
        bare = sound.bare;
        carried = λ slots k p up is. absurd (none_in_empty nat_cmp k p (subst (λ s. get s k ≡ Some p) (sound.slots slots up) is));
      };
      clones = λ c m is. record {
        sound = sound.clones c m is;
        formed = elim (new.clones c) [
          | inl a ↦ let e : record { repository = empty_repository; live = Some Nothing } ≡ m = let b = a.1 in cc in subst (λ (m : CloneNode). Formed fmt rules m.repository.objects) e none
          | inr a ↦ absurd (let b = a.1 in cc)
        ];
        apart = apart.clones c m is;
      };
      sent = λ k e is. let s : slice_get [] k ≡ Some e = subst (λ s. slice_get s k ≡ Some e) new.sent is in absurd (cc);
    }
