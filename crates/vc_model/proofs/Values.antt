-- Each tracking value was a value of its branch, so that all are on one line.
use Rattle.std.proofs.Common.{◌≡◌, ℕ, List, ◌∷◌, ◌++◌, Option, Some, ◌⊎◌, inl, inr, refl, sym, ap, ◌∙◌, subst, slice_get, nat_cmp, append_assoc, []}
use Rattle.std.specs.FinMap.{get, insert, empty, nat_cmp-IsAntisymmetric}
use Rattle.std.specs.Cmp.{nat_cmp_total}
use Rattle.std.specs.Cmp.Lexicographic.{slice_cmp}
use Rattle.vc_lemmas.proofs.Lists.{all_map}
use Rattle.vc_model.specs.Object.{Id, Format, Objects}
use Rattle.vc_model.specs.Refs.{Refs, tracking}
use Rattle.vc_model.specs.Repository.{Repository, Change, changed, changed_all, with_objects}
use Rattle.vc_model.specs.Repository.Change.{SetRefs, RemoveRef, SetHead, SetIndex}
use Rattle.vc_model.specs.Push.{Slots}
use Rattle.vc_model.specs.Message.{Message, Envelope}
use Rattle.vc_model.specs.Message.Message.{ListRefs, Advert, Want, Pack, Push, Report, Error}
use Rattle.vc_model.specs.Message.Envelope.{ToShared, ToClone}
use Rattle.vc_model.specs.Clone.{Awaited, accepted_ids}
use Rattle.vc_model.specs.Clone.Awaited.{Nothing, AnAdvert, APack}
use Rattle.vc_model.specs.Node.{Node, Answer, Deed, Ends, sent_by, PruneEnds}
use Rattle.vc_model.specs.Node.Answer.{Did, Declined, Fault}
use Rattle.vc_model.specs.Shared.{IsNeeded, SharedEvent, SharedDoes, SharedStep}
use Rattle.vc_model.specs.Shared.SharedEvent.{Arrives, StepSlot, PruneShared, RestartShared, QuietShared}
use Rattle.vc_model.specs.Shared.SharedStep.{down, declines, works, prunes, restarts, quiet, faults}
use Rattle.vc_model.specs.Clone.{CloneEvent, CloneDoes, CloneStep, IsReached}
use Rattle.vc_model.specs.Clone.CloneEvent.{Commanded, Gets, PruneClone, RestartClone, QuietClone}
use Rattle.vc_model.specs.Clone.CloneStep.{down as clone_down, declines as clone_declines, works as clone_works, prunes as clone_prunes, restarts as clone_restarts, quiet as clone_quiet, faults as clone_faults}
use Rattle.vc_model.specs.World.{World, Event, ForClone, Step, IsNew, empty_repository}
use Rattle.vc_model.specs.World.Step.{no_message, at_shared, at_clone}
use Rattle.vc_model.specs.World.Event.{Local, Deliver, Forge, StepPush, Prune, Restart, Stop, Ask, PackRefs, Noise}
use Rattle.vc_model.specs.World.Party.{TheShared, TheClone}
use Rattle.vc_model.specs.Run.{Moment, History, world_after, Run, NoCollision, NothingForged, NothingForgedToClones}
use Rattle.vc_model.specs.Safe.{AncestorEver, HonestTracking, InLine}
use Rattle.vc_model.proofs.Tracked.{IsValue, at_clone_value}
use Rattle.vc_model.proofs.Maps.{insert_cases, none_in_empty}
use Rattle.vc_model.proofs.Kept.{RestartOk, restart_ok, new_is_sound, more_sent, ever_more}
use Rattle.vc_model.proofs.Runs.{monotone, front_run, front_one}
use Rattle.vc_model.proofs.Tracking.{IsTold, RefsTold, RepositoryTracks, MessageTold, AwaitedTold, CloneTold, JudgedTold, SlotsTold, SharedTold, done_tracks, cut_tracks, objects_track, task_told, message_told, serve_told, slot_told}

-- x was the value of b at some moment
abbrev pub Was : World → History → List ℕ → Id → Type 0
Was start h b x = (late : History) × (early : History) × (h ≡ late ++ early) × IsValue (world_after start early) b x

was_more : (start : World) (m : Moment) (h : History) (b : List ℕ) (x : Id) → Was start h b x → Was start (m ∷ h) b x
was_more start m h b x w = (m ∷ w.0, w.1, ap (λ (h : History). m ∷ h) w.2, w.3)

was_now : (start : World) (h : History) (b : List ℕ) (x : Id) → IsValue (world_after start h) b x → Was start h b x
was_now start h b x v = ([], h, refl, v)

-- ---- more is told

module _ (p q : List ℕ → Id → Type 0) (to : (b : List ℕ) (x : Id) → p b x → q b x) where
  refs_more : (refs : Refs) → RefsTold p refs → RefsTold q refs
  refs_more refs h = record { each = λ b x g. to b x (h.each b x g) }

  repository_more : (r : Repository) → RepositoryTracks p r → RepositoryTracks q r
  repository_more r h = record { refs = λ n x g b e. to b x (h.refs n x g b e); head = h.head }

  message_more : (m : Message) → MessageTold p m → MessageTold q m
  message_more (Advert head refs) h = refs_more refs h
  message_more (Report fault ts) h = all_map (IsTold p) (IsTold q) (accepted_ids ts) (λ r k b e. to b r.1 (k b e)) h
  message_more ListRefs h = tt
  message_more (Want x y) h = tt
  message_more (Pack ack s) h = tt
  message_more (Push x y z t) h = tt
  message_more (Error text) h = tt

  awaited_more : (a : Awaited) → AwaitedTold p a → AwaitedTold q a
  awaited_more (APack wants refs) h = refs_more refs h
  awaited_more Nothing h = tt
  awaited_more AnAdvert h = tt

  slots_more : (slots : Slots) → SlotsTold p slots → SlotsTold q slots
  slots_more slots h k u g = all_map (JudgedTold p) (JudgedTold q) u.commands (λ j f e b i. to b j.command.new (f e b i)) (h k u g)

-- ---- the invariant

pub record AllTold (told : List ℕ → Id → Type 0) (w : World) : Type 0 where
  pub slots : (slots : Slots) → w.shared.live ≡ Some slots → SlotsTold told slots
  pub clones : (c : ℕ) (n : Node Awaited) → get w.clones c ≡ Some n → RepositoryTracks told n.repository
  pub awaited : (c : ℕ) (n : Node Awaited) → get w.clones c ≡ Some n → (a : Awaited) → n.live ≡ Some a → AwaitedTold told a
  pub sent : (k : ℕ) (e : Envelope) → slice_get w.sent k ≡ Some e → (c : ℕ) (m : Message) → e ≡ ToClone c m → MessageTold told m

told_more : (p q : List ℕ → Id → Type 0) → ((b : List ℕ) (x : Id) → p b x → q b x) → (w : World) → AllTold p w → AllTold q w
told_more p q to w h = record {
  slots = λ slots up. slots_more p q to slots (h.slots slots up);
  clones = λ c n g. repository_more p q to n.repository (h.clones c n g);
  awaited = λ c n g a up. awaited_more p q to a (h.awaited c n g a up);
  sent = λ k e g c m is. message_more p q to m (h.sent k e g c m is);
}

empty_tracks : (told : List ℕ → Id → Type 0) → RepositoryTracks told empty_repository
empty_tracks told = record {
  refs = λ n x g. absurd (none_in_empty (slice_cmp nat_cmp) n x g);
  head = λ n e. (Rattle.std.proofs.Common.codes "main", cc);
}

told_new : (told : List ℕ → Id → Type 0) (n : ℕ) (w : World) → IsNew w n → AllTold told w
told_new told n w new = record {
  slots = λ slots up k p is. let none : slots ≡ empty = let e = ap (λ (s : Node Slots). s.live) new.shared in cc in
      absurd (none_in_empty nat_cmp k p (subst (λ s. get s k ≡ Some p) none is));
  clones = λ c m is. elim (new.clones c) [
    | inl a ↦ let e : record { repository = empty_repository; live = Some Nothing } ≡ m = let b = a.1 in cc in subst (λ (m : Node Awaited). RepositoryTracks told m.repository) e (empty_tracks told)
    | inr a ↦ absurd (let b = a.1 in cc)
  ];
  awaited = λ c m is a up. elim (new.clones c) [
    | inl k ↦ let e : m ≡ record { repository = empty_repository; live = Some Nothing } = let b = k.1 in cc in
        let same : Nothing ≡ a = let f = ap (λ (m : Node Awaited). m.live) e in cc in subst (AwaitedTold told) same tt
    | inr k ↦ absurd (let b = k.1 in cc)
  ];
  sent = λ k e is. let s : slice_get [] k ≡ Some e = subst (λ s. slice_get s k ≡ Some e) new.sent is in absurd (cc);
}

-- the objects make no difference to the changes
commutes : (cs : List Change) (r : Repository) (s : Objects) → changed_all cs (with_objects r s) ≡ with_objects (changed_all cs r) s
commutes [] r s = refl
commutes (SetRefs rs ∷ cs) r s = commutes cs (changed (SetRefs rs) r) s
commutes (RemoveRef n ∷ cs) r s = commutes cs (changed (RemoveRef n) r) s
commutes (SetHead h ∷ cs) r s = commutes cs (changed (SetHead h) r) s
commutes (SetIndex i ∷ cs) r s = commutes cs (changed (SetIndex i) r) s

-- ---- a step

to_same : (c b : ℕ) (q m : Message) → ToClone c q ≡ ToClone b m → q ≡ m
to_same c b q m e = cc

to_apart : (c b : ℕ) (q m : Message) → ToShared c q ≡ ToClone b m → ⊥
to_apart c b q m e = absurd (cc)

module _ (fmt : Format) (told : List ℕ → Id → Type 0) where
  -- what comes to the shared node is told of in slots and messages
  shared_told : (r : Repository) (slots : Slots) (e : SharedEvent) (d : Deed Slots) → SlotsTold told slots → RefsTold told r.refs → SharedDoes fmt r slots e d → SharedTold told r d
  shared_told r slots (Arrives m) d h now is = serve_told told fmt r slots m d now h is
  shared_told r slots (StepSlot s) d h now is = slot_told told fmt r slots s d h is
  shared_told r slots PruneShared d h now is = absurd is
  shared_told r slots RestartShared d h now is = absurd is
  shared_told r slots QuietShared d h now is = absurd is

  ends_slots : (a : Answer) (n m : Node Slots) (d : Deed Slots) → SharedTold told n.repository d → Ends a n d m → RefsTold told m.repository.refs → (left : Slots) → m.live ≡ Some left → SlotsTold told left
  ends_slots (Did y) n m d ok e after left up =
      let is : d.left ≡ left = let u = e.1 in cc in
      let refs : m.repository.refs ≡ (changed_all d.effect.changes n.repository).refs = ap (λ (r : Repository). r.refs) (e.0.2 ∙ commutes d.effect.changes n.repository e.0.0) in
      subst (SlotsTold told) is (ok.slots (subst (RefsTold told) refs after))
  ends_slots (Fault f) n m d ok e after left up = absurd (let u = e.1 in cc)
  ends_slots (Declined k) n m d ok e after left up = absurd e

  sent_told : (a : Answer) (d : Deed Slots) (r : Repository) → SharedTold told r d → (m : Message) → sent_by a d ≡ Some m → MessageTold told m
  sent_told (Did y) d r ok m e = ok.sends m e
  sent_told (Declined n) d r ok m e = absurd (cc)
  sent_told (Fault f) d r ok m e = absurd (cc)

  -- the shared node after a step, and what it sent
  pub record SharedTells (n : Node Slots) (sends : Option Message) : Type 0 where
    pub slots : (slots : Slots) → n.live ≡ Some slots → SlotsTold told slots
    pub messages : (m : Message) → sends ≡ Some m → MessageTold told m

  prune_slots : (a : Answer) (needed : Id → Type 0) (n m : Node Slots) (slots : Slots) → n.live ≡ Some slots → SlotsTold told slots → PruneEnds a needed n m → (left : Slots) → m.live ≡ Some left → SlotsTold told left
  prune_slots (Did y) needed n m slots up h e left u = let same : slots ≡ left = let v = e.2 in cc in subst (SlotsTold told) same h
  prune_slots (Fault f) needed n m slots up h e left u = absurd (let v = e.2 in cc)
  prune_slots (Declined k) needed n m slots up h e left u = absurd e

  shared_step : (old new : Node Slots) (e : SharedEvent) (a : Answer) (sends : Option Message) → ((slots : Slots) → old.live ≡ Some slots → SlotsTold told slots)
      → RefsTold told old.repository.refs → RefsTold told new.repository.refs → SharedStep fmt old e a new sends → SharedTells new sends
  shared_step old new e a sends h before after s = elim s [
    | down x y v z is none ↦ record { slots = λ slots up. h slots (sym (ap (λ (n : Node Slots). n.live) is) ∙ up); messages = λ m g. absurd (cc) }
    | declines sl n x y z is none ↦ record { slots = λ slots up. h slots (sym (ap (λ (n : Node Slots). n.live) is) ∙ up); messages = λ m g. absurd (cc) }
    | works slots d up does ends is ↦
        let ok = shared_told old.repository slots e d (h slots up) before does in
        record { slots = ends_slots a old new d ok ends after; messages = λ m g. sent_told a d old.repository ok m (sym is ∙ g) }
    | prunes slots x up ends none ↦ record { slots = prune_slots a (IsNeeded fmt old.repository slots) old new slots up (h slots up) ends; messages = λ m g. absurd (cc) }
    | restarts x ends none ↦ record {
      slots = λ slots up k p got. absurd (none_in_empty nat_cmp k p (subst (λ s. get s k ≡ Some p) (sym ((restart_ok a old empty new ends).live slots up)) got));
      messages = λ m g. absurd (cc);
    }
    | quiet x y is none ↦ record { slots = λ slots up. h slots (sym (ap (λ (n : Node Slots). n.live) is) ∙ up); messages = λ m g. absurd (cc) }
    | faults sl f x y is none ↦ record { slots = λ slots up. absurd (let l = ap (λ (n : Node Slots). n.live) is in cc); messages = λ m g. absurd (cc) }
  ]

  -- a node that tracks, with what it awaits
  pub record NodeTold (n : Node Awaited) : Type 0 where
    pub tracks : RepositoryTracks told n.repository
    pub awaits : (a : Awaited) → n.live ≡ Some a → AwaitedTold told a

  -- what comes to a clone was so
  abbrev pub ComesTold : CloneEvent → Type 0
  ComesTold (Gets m) = MessageTold told m
  ComesTold _ = Unit {0}

  clone_told : (r : Repository) (a : Awaited) (e : CloneEvent) (d : Deed Awaited) → ComesTold e → RepositoryTracks told r → AwaitedTold told a → CloneDoes fmt r a e d → CloneTold told d
  clone_told r a (Commanded t) d h tracks waits is = task_told told fmt r a t d tracks waits is
  clone_told r a (Gets m) d h tracks waits is = message_told told fmt r a m d h waits is
  clone_told r a PruneClone d h tracks waits is = absurd is
  clone_told r a RestartClone d h tracks waits is = absurd is
  clone_told r a QuietClone d h tracks waits is = absurd is

  ends_told : (a : Answer) (n m : Node Awaited) (d : Deed Awaited) → RepositoryTracks told n.repository → CloneTold told d → Ends a n d m → NodeTold m
  ends_told (Did y) n m d h ok e = record {
    tracks = done_tracks told n.repository m.repository d.effect ok.changes h e.0;
    awaits = λ a up. let same : d.left ≡ a = let u = e.1 in cc in subst (AwaitedTold told) same ok.left;
  }
  ends_told (Fault f) n m d h ok e = record {
    tracks = cut_tracks told n.repository m.repository d.effect ok.changes h e.0;
    awaits = λ a up. absurd (let u = e.1 in cc);
  }
  ends_told (Declined k) n m d h ok e = absurd e

  prune_told : (a : Answer) (needed : Id → Type 0) (n m : Node Awaited) → NodeTold n → PruneEnds a needed n m → NodeTold m
  prune_told (Did y) needed n m h e = record {
    tracks = subst (RepositoryTracks told) (sym e.1) (objects_track told n.repository m.repository.objects h.tracks);
    awaits = λ a up. h.awaits a (sym e.2 ∙ up);
  }
  prune_told (Fault f) needed n m h e = record {
    tracks = subst (RepositoryTracks told) (sym e.1) (objects_track told n.repository m.repository.objects h.tracks);
    awaits = λ a up. absurd (let u = e.2 in cc);
  }
  prune_told (Declined k) needed n m h e = absurd e

  clone_step : (old new : Node Awaited) (e : CloneEvent) (a : Answer) (sends : Option Message) → NodeTold old → ComesTold e → CloneStep fmt old e a new sends → NodeTold new
  clone_step old new e a sends h comes s = elim s [
    | clone_down x y v z is none ↦ subst NodeTold (sym is) h
    | clone_declines w n x y z is none ↦ subst NodeTold (sym is) h
    | clone_works w d up does ends is ↦
        ends_told a old new d h.tracks (clone_told old.repository w e d comes h.tracks (h.awaits w up) does) ends
    | clone_prunes w x up ends none ↦ prune_told a (IsReached fmt old.repository) old new h ends
    | clone_restarts x ends none ↦
        let ok : RestartOk old Nothing new = restart_ok a old Nothing new ends in
        record { tracks = subst (RepositoryTracks told) (sym ok.same) h.tracks; awaits = λ a up. subst (AwaitedTold told) (ok.live a up) tt }
    | clone_quiet x y is none ↦ subst NodeTold (sym is) h
    | clone_faults w f x y is none ↦ subst NodeTold (sym is) (record { tracks = h.tracks; awaits = λ a up. absurd (cc) })
  ]

  comes_told : (w : World) (e : Event) (c : ℕ) (i : CloneEvent) → NothingForged e → ((k : ℕ) (e : Envelope) → slice_get w.sent k ≡ Some e → (c : ℕ) (m : Message) → e ≡ ToClone c m → MessageTold told m)
      → ForClone fmt w e c i → ComesTold i
  comes_told w (Local b t) c i honest sent is = subst ComesTold (sym is.1) tt
  comes_told w (Deliver k) c i honest sent is = subst ComesTold (sym is.2) (sent k (ToClone c is.0) is.1 c is.0 refl)
  comes_told w (Forge (ToClone b m)) c i honest sent is = absurd honest
  comes_told w (Forge (ToShared b m)) c i honest sent is = absurd is
  comes_told w (StepPush s) c i honest sent is = absurd is
  comes_told w (Prune (TheClone b)) c i honest sent is = subst ComesTold (sym is.1) tt
  comes_told w (Restart (TheClone b)) c i honest sent is = subst ComesTold (sym is.1) tt
  comes_told w (Prune TheShared) c i honest sent is = absurd is
  comes_told w (Restart TheShared) c i honest sent is = absurd is
  comes_told w (Stop (TheClone b) n) c i honest sent is = subst ComesTold (sym is.1) tt
  comes_told w (Ask (TheClone b) x y) c i honest sent is = subst ComesTold (sym is.1) tt
  comes_told w (Stop TheShared n) c i honest sent is = absurd is
  comes_told w (Ask TheShared x y) c i honest sent is = absurd is
  comes_told w (PackRefs (TheClone b)) c i honest sent is = subst ComesTold (sym is.1) tt
  comes_told w (Noise (TheClone b)) c i honest sent is = subst ComesTold (sym is.1) tt
  comes_told w (PackRefs TheShared) c i honest sent is = absurd is
  comes_told w (Noise TheShared) c i honest sent is = absurd is

  pub world_told : (old new : World) (e : Event) (a : Answer) → NothingForged e → AllTold told old → RefsTold told old.shared.repository.refs → RefsTold told new.shared.repository.refs → Step fmt old e a new → AllTold told new
  world_told old new e a honest h before after s = elim s [
    | no_message k x y z is ↦ subst (AllTold told) (sym is) h
    | at_shared c i n sends for step is ↦
        let ok = shared_step old.shared n i a sends h.slots before (subst (λ (w : World). RefsTold told w.shared.repository.refs) is after) step in
        subst (AllTold told) (sym is) (record {
          slots = ok.slots;
          clones = h.clones;
          awaited = h.awaited;
          sent = more_sent (λ e. (c : ℕ) (m : Message) → e ≡ ToClone c m → MessageTold told m) (ToClone c) old.sent sends h.sent (λ q x b m y. ok.messages m (x ∙ ap Some (to_same c b q m y)));
        })
    | at_clone c i n m sends for got step is ↦
        let ok : NodeTold m = clone_step n m i a sends (record { tracks = h.clones c n got; awaits = h.awaited c n got }) (comes_told old e c i honest h.sent for) step in
        let each : (d : ℕ) (k : Node Awaited) → get (insert old.clones c m) d ≡ Some k → NodeTold k
        = λ d k g. elim (insert_cases nat_cmp_total nat_cmp-IsAntisymmetric old.clones c m d k g) [
          | inl same ↦ subst NodeTold (sym same.1) ok
          | inr was ↦ record { tracks = h.clones d k was; awaits = h.awaited d k was }
        ] in
        subst (AllTold told) (sym is) (record {
          slots = h.slots;
          clones = λ d k g. (each d k g).tracks;
          awaited = λ d k g. (each d k g).awaits;
          sent = more_sent (λ e. (c : ℕ) (m : Message) → e ≡ ToClone c m → MessageTold told m) (ToShared c) old.sent sends h.sent (λ q x b m y. absurd (to_apart c b q m y));
        })
  ]

-- ---- tracking values were values

pub all_told : (fmt : Format) (n : ℕ) (start : World) (h : History) → IsNew start n → Run fmt start h → NothingForgedToClones h → AllTold (Was start h) (world_after start h)
all_told fmt n start [] new r honest = told_new (Was start []) n start new
all_told fmt n start (m ∷ h) new r honest =
    let old : World = world_after start h in
    world_told fmt (Was start (m ∷ h)) old m.world m.event m.answer honest.0
    (told_more (Was start h) (Was start (m ∷ h)) (was_more start m h) old (all_told fmt n start h new r.1 honest.1))
    (record { each = λ b x g. was_more start m h b x (was_now start h b x g) })
    (record { each = λ b x g. was_now start (m ∷ h) b x g })
    r.0

pub honest_tracking : HonestTracking
honest_tracking fmt n start h c b x new r honest e =
    let t = at_clone_value (world_after start h) c b x e in
    ((all_told fmt n start h new r honest).clones c t.0 t.1).refs (tracking b) x t.2 b refl

-- ---- all tracking values of a branch are on one line

-- of two fronts of a history one is a front of the other
fronts : (k : History) (e : History) (l : History) (f : History) → k ++ e ≡ l ++ f → ((m : History) × (e ≡ m ++ f)) ⊎ ((m : History) × (f ≡ m ++ e))
fronts [] e l f h = inl (l, h)
fronts (m ∷ k) e [] f h = inr (m ∷ k, sym h)
fronts (m ∷ k) e (n ∷ l) f h = fronts k e l f (tail_same m n (k ++ e) (l ++ f) h)
  where
    tail_same : (m n : Moment) (a b : History) → m ∷ a ≡ n ∷ b → a ≡ b
    tail_same m n a b e = cc

pub ever_later : (fmt : Format) (start : World) (late early : History) (a b : Id) → AncestorEver fmt start early a b → AncestorEver fmt start (late ++ early) a b
ever_later fmt start [] early a b p = p
ever_later fmt start (m ∷ late) early a b p = ever_more fmt start m (late ++ early) a b (ever_later fmt start late early a b p)

-- a later value descends from an earlier one
later : (fmt : Format) (n : ℕ) (start : World) (h late e m f : History) (b : List ℕ) (x y : Id) → IsNew start n → Run fmt start h → NoCollision fmt start h
    → h ≡ late ++ e → e ≡ m ++ f → IsValue (world_after start e) b x → IsValue (world_after start f) b y → AncestorEver fmt start h y x
later fmt n start h late e m f b x y new r one is split vx vy =
    let r' : Run fmt start (late ++ e) = subst (Run fmt start) is r in
    let o' : NoCollision fmt start (late ++ e) = subst (NoCollision fmt start) is one in
    let z = monotone fmt start m f b y (new_is_sound fmt start n new) (subst (Run fmt start) split (front_run fmt start late e r')) (subst (NoCollision fmt start) split (front_one fmt start late e o')) vy in
    let at_e : IsValue (world_after start e) b z.0 = subst (λ k. IsValue (world_after start k) b z.0) (sym split) z.1 in
    let same : z.0 ≡ x = cc in
    let anc : AncestorEver fmt start e y z.0 = subst (λ k. AncestorEver fmt start k y z.0) (sym split) z.2 in
    subst (λ k. AncestorEver fmt start k y x) (sym is) (ever_later fmt start late e y x (subst (AncestorEver fmt start e y) same anc))

pub front_honest : (late early : History) → NothingForgedToClones (late ++ early) → NothingForgedToClones early
front_honest [] early h = h
front_honest (m ∷ late) early h = front_honest late early h.1

pub in_line : InLine
in_line fmt n start late early c d b x y new r one honest tx ty =
    let h : History = late ++ early in
    let p = honest_tracking fmt n start h c b x new r honest tx in
    let q = honest_tracking fmt n start early d b y new (front_run fmt start late early r) (front_honest late early honest) ty in
    let is : h ≡ (late ++ q.0) ++ q.1 = ap (λ (e : History). late ++ e) q.2 ∙ sym (append_assoc late q.0 q.1) in
    elim (fronts p.0 p.1 (late ++ q.0) q.1 (sym p.2 ∙ is)) [
      | inl k ↦ inr (later fmt n start h p.0 p.1 k.0 q.1 b x y new r one p.2 k.1 p.3 q.3)
      | inr k ↦ inl (later fmt n start h (late ++ q.0) q.1 k.0 p.1 b y x new r one is k.1 q.3 p.3)
    ]
