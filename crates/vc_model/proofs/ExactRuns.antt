-- An exact run is a run of the machine, moment by moment.
use Rattle.std.proofs.Common.{◌≡◌, ℕ, List, [], ◌∷◌, ◌++◌, Some, None, Result, Ok, Err, inl, inr, refl, sym, ap, ◌∙◌, subst, append-nil}
use Rattle.std.specs.FinMap.{FinMap, get, insert, same_map, nat_cmp-IsAntisymmetric}
use Rattle.std.specs.Ordering.{nat_cmp}
use Rattle.std.specs.Cmp.{nat_cmp_total}
use Rattle.vc_model.specs.Object.{Object, Format}
use Rattle.vc_model.specs.Repository.{IsSound}
use Rattle.vc_model.specs.Message.{Envelope}
use Rattle.vc_model.specs.Message.Envelope.{ToShared, ToClone}
use Rattle.vc_model.specs.Node.{Answer, IsNoFault}
use Rattle.vc_model.specs.Node.Answer.{Did}
use Rattle.vc_model.specs.Node.Reply.{Stored}
use Rattle.vc_model.specs.Shared.SharedEvent.{QuietShared}
use Rattle.vc_model.specs.Shared.SharedStep.{quiet as shared_quiet}
use Rattle.vc_model.specs.Clone.{CloneNode, Task}
use Rattle.vc_model.specs.Clone.CloneEvent.{QuietClone}
use Rattle.vc_model.specs.Clone.CloneStep.{quiet as clone_quiet}
use Rattle.vc_model.specs.World.{World, Event, ForShared, ForClone, Step, StartsSound, after_shared, after_clone}
use Rattle.vc_model.specs.World.Step.{no_message as step_no_message, at_shared as step_shared, at_clone as step_clone}
use Rattle.vc_model.specs.World.Event.{Local, Deliver, Forge, StepPush, Prune as PruneAt, Restart, Stop, Ask, PackRefs, Noise}
use Rattle.vc_model.specs.World.Party.{TheShared, TheClone}
use Rattle.vc_model.specs.Safe.{EveryNodeSound}
use Rattle.vc_model.specs.Run.{History, world_after, Run, OccursIn, Occurs, Brings, NoCollision, NothingForged, NothingForgedToClones}
use Rattle.vc_model.specs.Run.OccursIn.{in_clone}
use Rattle.vc_model.specs.Wire.{Wire, wire_by}
use Rattle.vc_model.specs.SharedCall.{SharedCall}
use Rattle.vc_model.specs.CloneCall.{CloneCall, Makes}
use Rattle.vc_model.specs.Order.{Order, IsTaskOf, call_of}
use Rattle.vc_model.specs.ExactWorld.{FusedWorld, WorldEvent, CallsShared, OrderCalls, CallsClone, WorldAnswers, ExactMoment, ExactHistory, fused_after, ExactRun, OccursExactly, BringsExactly, NoExactCollision, NothingForgedExactly, IsHonest}
use Rattle.vc_model.specs.ExactWorld.Letter.{FromClone, FromShared}
use Rattle.vc_model.specs.ExactWorld.WorldEvent.{Orders, Delivers, Forges, Steps, Compares, Prunes, Packs, Restarts, Stops}
use Rattle.vc_model.specs.ExactWorld.WorldAnswers.{no_message, stop_shared, stop_clone, at_shared, at_clone}
use Rattle.vc_model.specs.Exact.{MadeFit, CallFits, clone_event, shared_event, IsPlain, Shadows, ExactRunIsRun, ExactRunIsSafe, ExactRunStaysSound}
use Rattle.vc_model.proofs.Maps.{insert_same, insert_other, same_key}
use Rattle.vc_model.proofs.CloneAnswers.{clone_answer_is_step, made_of}
use Rattle.vc_model.proofs.SharedAnswers.{shared_answer_is_step}
use Rattle.vc_model.proofs.Kept.{new_is_sound}
use Rattle.vc_model.proofs.Runs.{stays_sound}
use Rattle.vc_model.proofs.Safety.{every_run_safe}

-- ---- a world in which nothing happened

insert_known : (m : FinMap nat_cmp CloneNode) (c : ℕ) (n : CloneNode) → get m c ≡ Some n → insert m c n ≡ m
insert_known m c n is = same_map nat_cmp_total nat_cmp-IsAntisymmetric (insert m c n) m (λ d. elim (same_key nat_cmp_total nat_cmp-IsAntisymmetric d c) [
  | inl e ↦ ap (get (insert m c n)) e ∙ (insert_same nat_cmp_total nat_cmp-IsAntisymmetric m c n ∙ (sym is ∙ ap (get m) (sym e)))
  | inr e ↦ insert_other nat_cmp_total nat_cmp-IsAntisymmetric m c n d e
])

shared_idle : (w : World) → w ≡ after_shared w 0 (Did Stored) w.shared None
shared_idle w = ap (λ (s : List Envelope). record { shared = w.shared; clones = w.clones; sent = s; senders = w.senders }) (sym (append-nil w.sent))

clone_idle : (w : World) (c : ℕ) (n : CloneNode) → get w.clones c ≡ Some n → w ≡ after_clone w c n None
clone_idle w c n is =
    ap (λ (s : List Envelope). record { shared = w.shared; clones = w.clones; sent = s; senders = w.senders }) (sym (append-nil w.sent))
    ∙ ap (λ (m : FinMap nat_cmp CloneNode). record { shared = w.shared; clones = m; sent = w.sent ++ []; senders = w.senders }) (sym (insert_known w.clones c n is))

-- ---- one event

module _ (fmt : Format) (wire : Wire fmt) where
  -- the machine's event, and how it comes to the shared node
  plain_shared : (w : FusedWorld) (e : WorldEvent) (c : ℕ) (i : SharedCall) → CallsShared fmt wire w.world e c i → (p : Event) × IsPlain fmt wire w e p × ForShared fmt w.world p c (shared_event i)
  plain_shared w (Delivers k) c i h = (Deliver k, refl, (h.0, h.1, ap shared_event h.2))
  plain_shared w (Forges (FromClone b bytes)) c i h = elim (h.1) [
    | inl k ↦ (Forge (ToShared b k.0), inl (k.0, k.1, refl), (h.0, wire.named bytes k.0 k.1, ap shared_event k.2))
    | inr k ↦ (Noise TheShared, inr (k.0, k.1, refl), ap shared_event k.2)
  ]
  plain_shared w (Forges (FromShared b bytes)) c i h = absurd h
  plain_shared w (Steps s) c i h = (StepPush s, refl, (h.0, ap shared_event h.1))
  plain_shared w (Compares TheShared x y) c i h = (Ask TheShared x y, refl, ap shared_event h.1)
  plain_shared w (Compares (TheClone b) x y) c i h = absurd h
  plain_shared w (Prunes TheShared) c i h = (PruneAt TheShared, refl, ap shared_event h.1)
  plain_shared w (Prunes (TheClone b)) c i h = absurd h
  plain_shared w (Packs TheShared) c i h = (PackRefs TheShared, refl, ap shared_event h.1)
  plain_shared w (Packs (TheClone b)) c i h = absurd h
  plain_shared w (Restarts TheShared) c i h = (Restart TheShared, refl, ap shared_event h.1)
  plain_shared w (Restarts (TheClone b)) c i h = absurd h
  plain_shared w (Orders b o) c i h = absurd h
  plain_shared w (Stops p n) c i h = absurd h

  -- What the orders at a clone make collides with nothing there.
  abbrev OrdersFit : FusedWorld → WorldEvent → Type 0
  OrdersFit w e = (c : ℕ) (o : Order) (n : CloneNode) (t : Task) → e ≡ Orders c o → get w.world.clones c ≡ Some n → IsTaskOf fmt wire.rules n.repository o (Ok t) → MadeFit fmt wire.rules n.repository t

  -- the machine's event, how it comes to the clone, and that it fits
  abbrev PlainClone : FusedWorld → WorldEvent → ℕ → CloneNode → CloneCall → Type 0
  PlainClone w e c n i = (p : Event) × IsPlain fmt wire w e p × ForClone fmt w.world p c (clone_event i) × CallFits fmt wire.rules n.repository i

  plain_order : (w : FusedWorld) (b : ℕ) (o : Order) (c : ℕ) (n : CloneNode) (i : CloneCall) → OrdersFit w (Orders b o) → get w.world.clones c ≡ Some n → b ≡ c → OrderCalls fmt wire.rules n o i → PlainClone w (Orders b o) c n i
  plain_order w b o c n i fits got same (inl h) =
      (Noise (TheClone b), inr refl, (same, ap clone_event h.1), subst (CallFits fmt wire.rules n.repository) (sym h.1) tt)
  plain_order w b o c n i fits got same (inr h) = elim (h.1) [
    | inl k ↦ go k.0 k.1 k.2
    | inr k ↦ (Noise (TheClone b), inr refl, (same, ap clone_event k), subst (CallFits fmt wire.rules n.repository) (sym k) tt)
  ]
    where
      got_b : get w.world.clones b ≡ Some n
      got_b = ap (get w.world.clones) same ∙ got

      go : (v : Result Task ℕ) → IsTaskOf fmt wire.rules n.repository o v → i ≡ call_of v → PlainClone w (Orders b o) c n i
      go (Ok t) is call = (Local b t, inl (n, t, got_b, is, refl), (same, ap clone_event call), subst (CallFits fmt wire.rules n.repository) (sym call) (fits b o n t refl got_b is))
      go (Err k) is call = (Noise (TheClone b), inr refl, (same, ap clone_event call), subst (CallFits fmt wire.rules n.repository) (sym call) tt)

  plain_clone : (w : FusedWorld) (e : WorldEvent) (c : ℕ) (n : CloneNode) (i : CloneCall) → OrdersFit w e → get w.world.clones c ≡ Some n → CallsClone fmt wire w.world e c n i → PlainClone w e c n i
  plain_clone w (Orders b o) c n i fits got h = plain_order w b o c n i fits got h.0 h.1
  plain_clone w (Delivers k) c n i fits got h = (Deliver k, refl, (h.0, h.1, ap clone_event h.2), subst (CallFits fmt wire.rules n.repository) (sym h.2) tt)
  plain_clone w (Forges (FromShared b bytes)) c n i fits got h = elim (h.1) [
    | inl k ↦ (Forge (ToClone b k.0), inl (k.0, k.1, refl), (h.0, wire.named bytes k.0 k.1, ap clone_event k.2), subst (CallFits fmt wire.rules n.repository) (sym k.2) tt)
    | inr k ↦ (Noise (TheClone b), inr (k.0, k.1, refl), (h.0, ap clone_event k.2), subst (CallFits fmt wire.rules n.repository) (sym k.2) tt)
  ]
  plain_clone w (Forges (FromClone b bytes)) c n i fits got h = absurd h
  plain_clone w (Compares (TheClone b) x y) c n i fits got h = (Ask (TheClone b) x y, refl, (h.0, ap clone_event h.1), subst (CallFits fmt wire.rules n.repository) (sym h.1) tt)
  plain_clone w (Compares TheShared x y) c n i fits got h = absurd h
  plain_clone w (Prunes (TheClone b)) c n i fits got h = (PruneAt (TheClone b), refl, (h.0, ap clone_event h.1), subst (CallFits fmt wire.rules n.repository) (sym h.1) tt)
  plain_clone w (Prunes TheShared) c n i fits got h = absurd h
  plain_clone w (Packs (TheClone b)) c n i fits got h = (PackRefs (TheClone b), refl, (h.0, ap clone_event h.1), subst (CallFits fmt wire.rules n.repository) (sym h.1) tt)
  plain_clone w (Packs TheShared) c n i fits got h = absurd h
  plain_clone w (Restarts (TheClone b)) c n i fits got h = (Restart (TheClone b), refl, (h.0, ap clone_event h.1), subst (CallFits fmt wire.rules n.repository) (sym h.1) tt)
  plain_clone w (Restarts TheShared) c n i fits got h = absurd h
  plain_clone w (Steps s) c n i fits got h = absurd h
  plain_clone w (Stops p k) c n i fits got h = absurd h

  -- An exact answer is a step of the machine, at some event that it is there.
  abbrev PlainStep : FusedWorld → WorldEvent → Answer → FusedWorld → Type 0
  PlainStep old e a new = (p : Event) × IsPlain fmt wire old e p × Step fmt old.world p a new.world

  pub exact_step : (old new : FusedWorld) (e : WorldEvent) (a : Answer) → ((c : ℕ) (n : CloneNode) → get old.world.clones c ≡ Some n → IsSound fmt n.repository) → OrdersFit old e
      → WorldAnswers fmt wire old e a new → PlainStep old e a new
  exact_step old new e a sound fits s = elim s [
    | no_message k is none answer same ↦ subst (λ e. PlainStep old e a new) (sym is) (Deliver k, refl, step_no_message k refl none answer (ap (λ (w : FusedWorld). w.world) same))
    | stop_shared writes f is fuse answer same ↦ subst (λ e. PlainStep old e a new) (sym is) (
      Stop TheShared writes,
      refl,
      step_shared 0 QuietShared old.world.shared None refl (shared_quiet refl (subst IsNoFault (sym answer) tt) refl refl)
          (ap (λ (w : FusedWorld). w.world) same ∙ (shared_idle old.world ∙ ap (λ a. after_shared old.world 0 a old.world.shared None) (sym answer))),
    )
    | stop_clone c n writes f is got fuse answer same ↦ subst (λ e. PlainStep old e a new) (sym is) (
      Stop (TheClone c) writes,
      refl,
      step_clone c QuietClone n n None (refl, refl) got (clone_quiet refl (subst IsNoFault (sym answer) tt) refl refl) (ap (λ (w : FusedWorld). w.world) same ∙ clone_idle old.world c n got),
    )
    | at_shared c i n sends f calls answers burns same ↦
        let p = plain_shared old e c i calls in
        (p.0, p.1, step_shared c (shared_event i) n sends p.2 (shared_answer_is_step fmt wire.rules old.world.shared n i a sends answers) (ap (λ (w : FusedWorld). w.world) same))
    | at_clone c n m i sends f got calls answers burns same ↦
        let p = plain_clone old e c n i fits got calls in
        (p.0, p.1, step_clone c (clone_event i) n m sends p.2 got (clone_answer_is_step fmt wire.rules n m i a sends (sound c n got) p.3 answers) (ap (λ (w : FusedWorld). w.world) same))
  ]

  -- ---- a run

  pub same_world : (start : FusedWorld) (h : ExactHistory) (k : History) → Shadows fmt wire start h k → world_after start.world k ≡ (fused_after start h).world
  same_world start [] [] s = refl
  same_world start (m ∷ h) (n ∷ k) s = s.1
  same_world start [] (n ∷ k) s = absurd s
  same_world start (m ∷ h) [] s = absurd s

  brings : (w : FusedWorld) (e : WorldEvent) (p : Event) (o : Object) → IsPlain fmt wire w e p → Brings p o → BringsExactly fmt wire w e o
  brings w (Orders c order) p o (inl h) b = (h.0, h.1, h.2, h.3, made_of fmt wire.rules h.0.repository h.1 o (subst (λ (p : Event). Brings p o) h.4 b))
  brings w (Orders c order) p o (inr h) b = absurd (subst (λ (p : Event). Brings p o) h b)
  brings w (Forges (FromClone c bytes)) p o (inl h) b = (h.0, h.1, subst (λ (p : Event). Brings p o) h.2 b)
  brings w (Forges (FromClone c bytes)) p o (inr h) b = absurd (subst (λ (p : Event). Brings p o) h.2 b)
  brings w (Forges (FromShared c bytes)) p o (inl h) b = (h.0, h.1, subst (λ (p : Event). Brings p o) h.2 b)
  brings w (Forges (FromShared c bytes)) p o (inr h) b = absurd (subst (λ (p : Event). Brings p o) h.2 b)
  brings w (Delivers k) p o h b = absurd (subst (λ (p : Event). Brings p o) h b)
  brings w (Steps s) p o h b = absurd (subst (λ (p : Event). Brings p o) h b)
  brings w (Compares q x y) p o h b = absurd (subst (λ (p : Event). Brings p o) h b)
  brings w (Prunes q) p o h b = absurd (subst (λ (p : Event). Brings p o) h b)
  brings w (Packs q) p o h b = absurd (subst (λ (p : Event). Brings p o) h b)
  brings w (Restarts q) p o h b = absurd (subst (λ (p : Event). Brings p o) h b)
  brings w (Stops q n) p o h b = absurd (subst (λ (p : Event). Brings p o) h b)

  -- what occurs in the machine's run occurs in the exact one
  occurs : (start : FusedWorld) (h : ExactHistory) (k : History) (o : Object) → Shadows fmt wire start h k → Occurs start.world k o → OccursExactly fmt wire start h o
  occurs start [] [] o s i = i
  occurs start (m ∷ h) (n ∷ k) o s (inl i) = inl (subst (λ (w : World). OccursIn w o) s.1 i)
  occurs start (m ∷ h) (n ∷ k) o s (inr (inl i)) = inr (inl (brings (fused_after start h) m.event n.event o s.2 i))
  occurs start (m ∷ h) (n ∷ k) o s (inr (inr i)) = inr (inr (occurs start h k o s.3 i))
  occurs start [] (n ∷ k) o s i = absurd s
  occurs start (m ∷ h) [] o s i = absurd s

  collides_not : (start : FusedWorld) (h : ExactHistory) (k : History) → Shadows fmt wire start h k → NoExactCollision fmt wire start h → NoCollision fmt start.world k
  collides_not start h k s one = record { unique = λ o p a b e. one.unique o p (occurs start h k o s a) (occurs start h k p s b) e }

  earlier_exactly : (start : FusedWorld) (m : ExactMoment) (h : ExactHistory) → NoExactCollision fmt wire start (m ∷ h) → NoExactCollision fmt wire start h
  earlier_exactly start m h one = record { unique = λ o p a b e. one.unique o p (inr (inr a)) (inr (inr b)) e }

  pub front_exactly : (start : FusedWorld) (late early : ExactHistory) → ExactRun fmt wire start (late ++ early) → ExactRun fmt wire start early
  front_exactly start [] early r = r
  front_exactly start (m ∷ late) early r = front_exactly start late early r.1

  pub front_collision : (start : FusedWorld) (late early : ExactHistory) → NoExactCollision fmt wire start (late ++ early) → NoExactCollision fmt wire start early
  front_collision start [] early one = one
  front_collision start (m ∷ late) early one = front_collision start late early (earlier_exactly start m (late ++ early) one)

  now_exactly : (start : FusedWorld) (h : ExactHistory) (o : Object) → OccursIn (fused_after start h).world o → OccursExactly fmt wire start h o
  now_exactly start [] o i = i
  now_exactly start (m ∷ h) o i = inl i

  -- what an order makes at this moment collides with nothing at its clone
  fits_now : (start : FusedWorld) (m : ExactMoment) (h : ExactHistory) → NoExactCollision fmt wire start (m ∷ h)
      → ((c : ℕ) (n : CloneNode) → get (fused_after start h).world.clones c ≡ Some n → IsSound fmt n.repository) → OrdersFit (fused_after start h) m.event
  fits_now start m h one sound c o n t is got task = record {
    stored = λ p q made there. one.unique p q (inr (inl (made_now p made))) (inr (inr (now_exactly start h q (in_clone c n got (fmt.name_of p, there))))) (sym ((sound c n got).objects.named (fmt.name_of p) q there));
    apart = λ p q one_made other_made e. one.unique p q (inr (inl (made_now p one_made))) (inr (inl (made_now q other_made))) e;
  }
    where
      made_now : (p : Object) → Makes fmt wire.rules n.repository t p → BringsExactly fmt wire (fused_after start h) m.event p
      made_now p made = subst (λ e. BringsExactly fmt wire (fused_after start h) e p) (sym is) (n, t, got, task, made)

  pub exact_run : (start : FusedWorld) (h : ExactHistory) → StartsSound fmt start.world → ExactRun fmt wire start h → NoExactCollision fmt wire start h
      → (k : History) × Shadows fmt wire start h k × Run fmt start.world k × NoCollision fmt start.world k
  exact_run start [] new r one = ([], tt, tt, record { unique = λ o p a b e. one.unique o p a b e })
  exact_run start (m ∷ h) new r one =
      let one' : NoExactCollision fmt wire start h = earlier_exactly start m h one in
      let k = exact_run start h new r.1 one' in
      let same : world_after start.world k.0 ≡ (fused_after start h).world = same_world start h k.0 k.1 in
      let all = stays_sound fmt start.world [] k.0 new k.2 k.3 in
      let sound : (c : ℕ) (n : CloneNode) → get (fused_after start h).world.clones c ≡ Some n → IsSound fmt n.repository
      = λ c n got. all.clones c n (subst (λ (w : World). get w.clones c ≡ Some n) (sym same) got) in
      let s = exact_step (fused_after start h) m.world m.event m.answer sound (fits_now start m h one sound) r.0 in
      let shadow : Shadows fmt wire start (m ∷ h) (record { event = s.0; answer = m.answer; world = m.world.world } ∷ k.0) = (refl, refl, s.1, k.1) in (
        record { event = s.0; answer = m.answer; world = m.world.world } ∷ k.0,
        shadow,
        (subst (λ (w : World). Step fmt w s.0 m.answer m.world.world) (sym same) s.2, k.2),
        collides_not start (m ∷ h) (record { event = s.0; answer = m.answer; world = m.world.world } ∷ k.0) shadow one,
      )

  honest_event : (w : FusedWorld) (e : WorldEvent) (p : Event) → IsPlain fmt wire w e p → IsHonest fmt wire e → NothingForged p
  honest_event w (Orders c o) p (inl h) honest = subst NothingForged (sym h.4) tt
  honest_event w (Orders c o) p (inr h) honest = subst NothingForged (sym h) tt
  honest_event w (Forges (FromShared c bytes)) p (inl h) honest = absurd (honest h.0 h.1)
  honest_event w (Forges (FromShared c bytes)) p (inr h) honest = subst NothingForged (sym h.2) tt
  honest_event w (Forges (FromClone c bytes)) p (inl h) honest = subst NothingForged (sym h.2) tt
  honest_event w (Forges (FromClone c bytes)) p (inr h) honest = subst NothingForged (sym h.2) tt
  honest_event w (Delivers k) p h honest = subst NothingForged (sym h) tt
  honest_event w (Steps s) p h honest = subst NothingForged (sym h) tt
  honest_event w (Compares q x y) p h honest = subst NothingForged (sym h) tt
  honest_event w (Prunes q) p h honest = subst NothingForged (sym h) tt
  honest_event w (Packs q) p h honest = subst NothingForged (sym h) tt
  honest_event w (Restarts q) p h honest = subst NothingForged (sym h) tt
  honest_event w (Stops q n) p h honest = subst NothingForged (sym h) tt

  pub honest_shadow : (start : FusedWorld) (h : ExactHistory) (k : History) → Shadows fmt wire start h k → NothingForgedExactly fmt wire h → NothingForgedToClones k
  honest_shadow start [] [] s honest = tt
  honest_shadow start (m ∷ h) (n ∷ k) s honest = (honest_event (fused_after start h) m.event n.event s.2 honest.0, honest_shadow start h k s.3 honest.1)
  honest_shadow start [] (n ∷ k) s honest = absurd s
  honest_shadow start (m ∷ h) [] s honest = absurd s

pub exact_run_is_run : ExactRunIsRun
exact_run_is_run fmt tests start h new r one = exact_run fmt (wire_by fmt tests) start h new r one

pub exact_run_is_safe : ExactRunIsSafe
exact_run_is_safe fmt tests n start h new r one honest =
    let k = exact_run fmt (wire_by fmt tests) start h (new_is_sound fmt start.world n new) r one in
    (k.0, k.1, every_run_safe fmt n start.world k.0 new k.2 k.3 (honest_shadow fmt (wire_by fmt tests) start h k.0 k.1 honest))

pub exact_run_stays_sound : ExactRunStaysSound
exact_run_stays_sound fmt tests start late early new r one =
    let wire : Wire fmt = wire_by fmt tests in
    let k = exact_run fmt wire start early new (front_exactly fmt wire start late early r) (front_collision fmt wire start late early one) in
    subst (EveryNodeSound fmt) (same_world fmt wire start early k.0 k.1) (stays_sound fmt start.world [] k.0 new k.2 k.3)
