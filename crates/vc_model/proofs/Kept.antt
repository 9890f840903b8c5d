-- What holds of the world after every run, and that a step keeps it.
use Rattle.std.proofs.Common.{◌≡◌, ℕ, List, ◌∷◌, ◌++◌, Option, Some, None, inl, inr, refl, sym, ap, ◌∙◌, subst, nat_cmp, take, slice_get, codes, IsTrue, option_to_list, option_map, []}
use Rattle.std.specs.FinMap.{get, empty, nat_cmp-IsAntisymmetric}
use Rattle.std.specs.Cmp.{nat_cmp_total}
use Rattle.std.specs.Cmp.Lexicographic.{slice_cmp}
use Rattle.vc_lemmas.proofs.Lists.{all_map}
use Rattle.vc_model.specs.Object.{Id, Object, Format, Objects, Lookup, IsNamed, stored, over}
use Rattle.vc_model.specs.Reach.{HasParentAmong, IsAncestor}
use Rattle.vc_model.specs.Repository.{Repository, with_objects, IsSound, IsBare, Pruned, PartlyPruned}
use Rattle.vc_model.specs.Push.{Stage, OpenPush, Slots}
use Rattle.vc_model.specs.Push.Stage.{Unpacked, Checked, Migrated, Finished}
use Rattle.vc_model.specs.Message.{Message, Envelope, message_of, IsNamedMessage}
use Rattle.vc_model.specs.Message.Message.{ListRefs, Advert, Want, Pack, Push, Report, Error}
use Rattle.vc_model.specs.Message.Envelope.{ToClone, ToShared}
use Rattle.vc_model.specs.Node.{Node, Answer, Deed, Ends, sent_by, PruneEnds, RestartEnds}
use Rattle.vc_model.specs.Shared.{IsNeeded, SharedEvent, SharedDoes, SharedStep}
use Rattle.vc_model.specs.Shared.SharedEvent.{Arrives, StepSlot, PruneShared, RestartShared, QuietShared}
use Rattle.vc_model.specs.Shared.IsNeeded.{by_root}
use Rattle.vc_model.specs.Clone.{Awaited, Task, Performs, Receives, CloneEvent, CloneDoes, CloneStep, IsReached, haves_of}
use Rattle.vc_model.specs.Clone.CloneEvent.{Commanded, Gets, PruneClone, RestartClone, QuietClone}
use Rattle.vc_model.specs.Clone.Task.{Write, Stage as StageFile, Unstage, LoadTree, MakeCommit, SetBranch, DeleteBranch, MoveHead, StartFetch, StartPush}
use Rattle.vc_model.specs.Clone.Awaited.{Nothing}
use Rattle.vc_model.specs.Refs.{branch}
use Rattle.vc_model.specs.Refs.Head.{OnBranch, Detached}
use Rattle.vc_model.specs.World.{World, Event, ForShared, ForClone, Step, IsNew, StartsSound, empty_repository}
use Rattle.vc_model.specs.World.Step.{no_message, at_shared, at_clone}
use Rattle.vc_model.specs.World.Event.{Local, Deliver, Forge, StepPush, Prune, Restart, Stop, Ask, PackRefs, Noise}
use Rattle.vc_model.specs.World.Party.{TheShared, TheClone}
use Rattle.vc_model.specs.Node.Answer.{Did, Declined, Fault}
use Rattle.vc_model.specs.Shared.SharedStep.{down, declines, works, prunes, restarts, quiet, faults}
use Rattle.vc_model.specs.Clone.CloneStep.{down as clone_down, declines as clone_declines, works as clone_works, prunes as clone_prunes, restarts as clone_restarts, quiet as clone_quiet, faults as clone_faults}
use Rattle.vc_model.specs.Run.{Moment, History, world_after, OccursIn, Occurs, Brings}
use Rattle.vc_model.specs.Safe.{AncestorEver}
use Rattle.vc_model.specs.Keeping.{any_order, SharedStepKeeps, CloneStepKeeps, Alone, Arrived, Comes, CommandsOk, PassingOk, PushOk, SharedKept, SlotsOk, StageOk}
use Rattle.vc_model.proofs.Maps.{insert_cases, none_in_empty, slice_get-more, slice_get-option}
use Rattle.vc_model.proofs.Reaching.{reaches-trans, reaches-steps}
use Rattle.vc_model.proofs.Sound.{GoodEffect, sound_done, sound_cut, sound_pruned, changed_all-objects}
use Rattle.vc_model.proofs.Clones.{good_task, good_message}
use Rattle.vc_model.proofs.Pushes.{push_kept, Descends, descends_same}
use Rattle.vc_model.proofs.Stepping.{done_bare, cut_bare, SharedOk, serve_ok, slot_ok, done_forward, cut_forward}

-- ---- ancestors among what occurs

pub ever_self : (fmt : Format) (start : World) (h : History) (a : Id) → AncestorEver fmt start h a a
ever_self fmt start h a = ([], refl)

pub ever_trans : (fmt : Format) (start : World) (h : History) (a b c : Id) → AncestorEver fmt start h a b → AncestorEver fmt start h b c → AncestorEver fmt start h a c
ever_trans fmt start h a b c p q = reaches-trans (HasParentAmong fmt (Occurs start h)) c b a q p

pub ever_more : (fmt : Format) (start : World) (m : Moment) (h : History) (a b : Id) → AncestorEver fmt start h a b → AncestorEver fmt start (m ∷ h) a b
ever_more fmt start m h a b p = reaches-steps (HasParentAmong fmt (Occurs start h)) (HasParentAmong fmt (Occurs start (m ∷ h)))
    (λ x y s. record { object = s.object; there = inr (inr s.there); name = s.name; commit = s.commit; parent = s.parent }) b a p

pub occurs_now : (start : World) (h : History) (o : Object) → OccursIn (world_after start h) o → Occurs start h o
occurs_now start [] o i = i
occurs_now start (m ∷ h) o i = inl i

pub push_weaker : (fmt : Format) (p q : Id → Id → Type 0) → ((a b : Id) → p a b → q a b) → (s : Objects) (u : OpenPush) → PushOk fmt p s u → PushOk fmt q s u
push_weaker fmt p q to s u ok = record { carried = ok.carried; commands = go u.stage ok.commands }
  where
    weak : (f : Lookup) → CommandsOk fmt f p u.atomic u.commands → CommandsOk fmt f q u.atomic u.commands
    weak f c = record {
      each = all_map (PassingOk fmt f p) (PassingOk fmt f q) u.commands
          (λ j k v. let o = k v in record { value = o.value; place = o.place; forward = λ b. elim (o.forward b) [ inl z ↦ inl z | inr a ↦ inr (to j.command.old j.command.new a) ] }) c.each;
      together = c.together;
    }

    go : (x : Stage) → StageOk fmt p s u x → StageOk fmt q s u x
    go Unpacked c = tt
    go Checked c = weak (over s u.carried) c
    go Migrated c = weak (stored s) c
    go Finished c = tt

empty_sound : (fmt : Format) → IsSound fmt empty_repository
empty_sound fmt = record {
  objects = record { named = λ x o h. absurd (none_in_empty (slice_cmp nat_cmp) x o h) };
  refs = λ n x h. absurd (none_in_empty (slice_cmp nat_cmp) n x h);
  on_branch = λ n e. let same : branch (codes "main") ≡ n = cc in ((codes "main", sym same), subst (λ (n : List ℕ). IsTrue (fmt.is_name n)) same fmt.main_is_name);
  head = λ x e. absurd (cc);
  index = λ p e h m. absurd (none_in_empty (slice_cmp nat_cmp) p e h);
}

pub new_is_sound : (fmt : Format) (w : World) (n : ℕ) → IsNew w n → StartsSound fmt w
new_is_sound fmt w n new = record {
  shared = subst (λ (s : Node Slots). IsSound fmt s.repository) (sym new.shared) (empty_sound fmt);
  bare = subst (λ (s : Node Slots). IsBare fmt s.repository) (sym new.shared) (record { each = λ n x g. absurd (none_in_empty (slice_cmp nat_cmp) n x g); on_branch = (branch (codes "main"), refl) });
  slots = λ slots up. let e = ap (λ (s : Node Slots). s.live) new.shared in cc;
  clones = λ c m is. elim (new.clones c) [
    | inl a ↦ let e : record { repository = empty_repository; live = Some Nothing } ≡ m = let b = a.1 in cc in subst (λ (m : Node Awaited). IsSound fmt m.repository) e (empty_sound fmt)
    | inr a ↦ absurd (let b = a.1 in cc)
  ];
  sent = new.sent;
}

-- ---- what is sent

sent_ok : {V : Type 0} (P : Message → Type 0) (a : Answer) (d : Deed V) → ((m : Message) → d.sends ≡ Some m → P m) → (m : Message) → sent_by a d ≡ Some m → P m
sent_ok P (Did y) d h e is = h e is
sent_ok P (Declined n) d h e is = absurd (cc)
sent_ok P (Fault f) d h e is = absurd (cc)

-- what is sent, in its envelope
addressed : (P : Envelope → Type 0) (to : Message → Envelope) (sends : Option Message) → ((m : Message) → sends ≡ Some m → P (to m)) → (e : Envelope) → option_map to sends ≡ Some e → P e
addressed P to None h e is = absurd (cc)
addressed P to (Some m) h e is = let same : to m ≡ e = cc in subst P same (h m refl)

pub more_sent : (P : Envelope → Type 0) (to : Message → Envelope) (old : List Envelope) (sends : Option Message)
    → ((k : ℕ) (e : Envelope) → slice_get old k ≡ Some e → P e) → ((m : Message) → sends ≡ Some m → P (to m))
    → (k : ℕ) (e : Envelope) → slice_get (old ++ option_to_list (option_map to sends)) k ≡ Some e → P e
more_sent P to old sends was h k e got =
    elim (slice_get-more old (option_to_list (option_map to sends)) k e got) [
      | inl o ↦ was k e o
      | inr s ↦ addressed P to sends h e (slice_get-option (option_map to sends) s.0 e s.1)
    ]

-- ---- a deed of a clone

task_sends : (fmt : Format) (r : Repository) (a : Awaited) (t : Task) (d : Deed Awaited) → IsSound fmt r → Performs fmt r a t d → (m : Message) → d.sends ≡ Some m → IsNamedMessage fmt m
task_sends fmt r a (Write o) d h is e s = absurd (cc)
task_sends fmt r a (StageFile p m o) d h is e s = absurd (cc)
task_sends fmt r a (Unstage p) d h is e s = absurd (cc)
task_sends fmt r a (LoadTree x) d h is e s = absurd (let i = is.3 in cc)
task_sends fmt r a (MakeCommit x y z w) d h is e s = absurd (let i = is.3 in cc)
task_sends fmt r a (SetBranch n x) d h is e s = absurd (let i = is.3 in cc)
task_sends fmt r a (DeleteBranch n) d h is e s = absurd (let i = is.1 in cc)
task_sends fmt r a (MoveHead (OnBranch n)) d h is e s = absurd (let i = is.1 in cc)
task_sends fmt r a (MoveHead (Detached x)) d h is e s = absurd (let i = is.1 in cc)
task_sends fmt r a StartFetch d h is e s = let same : ListRefs ≡ e = cc in subst (λ e. IsNamedMessage fmt e) same tt
task_sends fmt r a (StartPush atomic items) d h is e s =
    let i = is.4 in
    let same : Push atomic None is.0 is.1 ≡ e = cc in
    subst (λ e. IsNamedMessage fmt e) same (record { named = λ x o g. h.objects.named x o (is.3.only x o g).0 })

message_sends : (fmt : Format) (r : Repository) (a : Awaited) (m : Message) (d : Deed Awaited) → Receives fmt r a m d → (q : Message) → d.sends ≡ Some q → IsNamedMessage fmt q
message_sends fmt r a (Advert head refs) d is e s = elim (is.3) [
  | inl w ↦ let i = w.1 in let same : Want (take 256 is.1) (haves_of r) ≡ e = cc in subst (λ e. IsNamedMessage fmt e) same tt
  | inr w ↦ absurd (let i = w.1.deed in cc)
]
message_sends fmt r a (Pack ack x) d is e s = absurd (let i = is.4.deed in cc)
message_sends fmt r a (Report fault ts) d is e s = absurd (let i = is.2 in cc)
message_sends fmt r a ListRefs d is e s = absurd is
message_sends fmt r a (Want x y) d is e s = absurd is
message_sends fmt r a (Push x y z t) d is e s = absurd is
message_sends fmt r a (Error text) d is e s = absurd is

pub record CloneOk (fmt : Format) (r : Repository) (d : Deed Awaited) : Type 0 where
  pub good : GoodEffect fmt r d.effect
  pub sends : (m : Message) → d.sends ≡ Some m → IsNamedMessage fmt m

clone_ok : (fmt : Format) (r : Repository) (a : Awaited) (e : CloneEvent) (d : Deed Awaited) → IsSound fmt r → Comes fmt r e → CloneDoes fmt r a e d → CloneOk fmt r d
clone_ok fmt r a (Commanded t) d h fits is = record { good = good_task fmt r a t d h fits is; sends = task_sends fmt r a t d h is }
clone_ok fmt r a (Gets m) d h n is = record { good = good_message fmt r a m d n is; sends = message_sends fmt r a m d is }
clone_ok fmt r a PruneClone d h n is = absurd is
clone_ok fmt r a RestartClone d h n is = absurd is
clone_ok fmt r a QuietClone d h n is = absurd is

pub ends_sound : {V : Type 0} (fmt : Format) (a : Answer) (n m : Node V) (d : Deed V) → IsSound fmt n.repository → GoodEffect fmt n.repository d.effect → Ends a n d m → IsSound fmt m.repository
ends_sound fmt (Did y) n m d h g e = sound_done fmt n.repository m.repository d.effect h g e.0
ends_sound fmt (Fault f) n m d h g e = sound_cut fmt n.repository m.repository d.effect h g e.0
ends_sound fmt (Declined k) n m d h g e = absurd e

-- ---- a step keeps it

pruned_is_partly : (needed : Id → Type 0) (s t : Objects) → Pruned needed s t → PartlyPruned needed s t
pruned_is_partly needed s t p x = elim (p x) [ inl k ↦ inl k.1 | inr g ↦ inr g ]

-- what a prune leaves of a node
pub record PruneOk {V : Type 0} (needed : Id → Type 0) (n m : Node V) : Type 0 where
  pub partly : PartlyPruned needed n.repository.objects m.repository.objects
  pub rest : m.repository ≡ with_objects n.repository m.repository.objects
  pub live : (v : V) → m.live ≡ Some v → n.live ≡ Some v

pub prune_ok : {V : Type 0} (a : Answer) (needed : Id → Type 0) (n m : Node V) → PruneEnds a needed n m → PruneOk needed n m
prune_ok (Did y) needed n m e = record { partly = pruned_is_partly needed n.repository.objects m.repository.objects e.0; rest = e.1; live = λ v u. sym e.2 ∙ u }
prune_ok (Fault f) needed n m e = record { partly = e.0; rest = e.1; live = λ v u. absurd (let d = e.2 in cc) }
prune_ok (Declined k) needed n m e = absurd e

-- what a restart leaves of a node
pub record RestartOk {V : Type 0} (n : Node V) (fresh : V) (m : Node V) : Type 0 where
  pub same : m.repository ≡ n.repository
  pub live : (v : V) → m.live ≡ Some v → fresh ≡ v

pub restart_ok : {V : Type 0} (a : Answer) (n : Node V) (fresh : V) (m : Node V) → RestartEnds a n fresh m → RestartOk n fresh m
restart_ok {V} (Did y) n fresh m e = record { same = ap (λ (m : Node V). m.repository) e.1; live = λ v u. let l = ap (λ (m : Node V). m.live) e.1 in cc }
restart_ok {V} (Fault f) n fresh m e = record { same = ap (λ (m : Node V). m.repository) e; live = λ v u. absurd (let l = ap (λ (m : Node V). m.live) e in cc) }
restart_ok (Declined k) n fresh m e = absurd e

-- A step of a clone keeps it sound.
pub record CloneKeeps (fmt : Format) (new : Node Awaited) (sends : Option Message) : Type 0 where
  pub sound : IsSound fmt new.repository
  pub named : (m : Message) → sends ≡ Some m → IsNamedMessage fmt m

pub clone_step : (fmt : Format) (old new : Node Awaited) (e : CloneEvent) (a : Answer) (sends : Option Message) → IsSound fmt old.repository → Comes fmt old.repository e → CloneStep fmt old e a new sends → CloneKeeps fmt new sends
clone_step fmt old new e a sends h comes s = elim s [
  | clone_down x y v z is none ↦ record { sound = subst (λ (n : Node Awaited). IsSound fmt n.repository) (sym is) h; named = λ e g. absurd (cc) }
  | clone_declines w n x y z is none ↦ record { sound = subst (λ (n : Node Awaited). IsSound fmt n.repository) (sym is) h; named = λ e g. absurd (cc) }
  | clone_works w d up does ends is ↦
      let ok = clone_ok fmt old.repository w e d h comes does in
      record { sound = ends_sound fmt a old new d h ok.good ends; named = λ e g. sent_ok (IsNamedMessage fmt) a d ok.sends e (sym is ∙ g) }
  | clone_prunes w x up ends none ↦
      let ok : PruneOk (IsReached fmt old.repository) old new = prune_ok a (IsReached fmt old.repository) old new ends in
      record {
        sound = subst (IsSound fmt) (sym ok.rest) (sound_pruned fmt old.repository new.repository.objects (IsReached fmt old.repository) h ok.partly (λ x y r q. (x, r, q)));
        named = λ e g. absurd (cc);
      }
  | clone_restarts x ends none ↦ record { sound = subst (IsSound fmt) (sym (restart_ok a old Nothing new ends).same) h; named = λ e g. absurd (cc) }
  | clone_quiet x y is none ↦ record { sound = subst (λ (n : Node Awaited). IsSound fmt n.repository) (sym is) h; named = λ e g. absurd (cc) }
  | clone_faults w f x y is none ↦ record { sound = subst (λ (n : Node Awaited). IsSound fmt n.repository) (sym is) h; named = λ e g. absurd (cc) }
]

-- A step of the shared node keeps that, and its branches go forward.
pub record SharedKeeps (fmt : Format) (anc : Id → Id → Type 0) (old new : Node Slots) (sends : Option Message) : Type 0 where
  pub kept : SharedKept fmt anc new
  pub forward : Descends anc old.repository.refs new.repository.refs
  pub named : (m : Message) → sends ≡ Some m → IsNamedMessage fmt m

module _ (fmt : Format) (anc : Id → Id → Type 0) (self : (a : Id) → anc a a) (trans : (a b c : Id) → anc a b → anc b c → anc a c) where
  shared_does_ok : (r : Repository) (slots : Slots) (e : SharedEvent) (d : Deed Slots) → IsSound fmt r → SlotsOk fmt anc r.objects slots → Arrived fmt e
      → ((j : ℕ) (p : OpenPush) → get slots j ≡ Some p → (a b : Id) → IsAncestor fmt (over r.objects p.carried) a b → anc a b)
      → SharedDoes fmt r slots e d → SharedOk fmt anc r slots d
  shared_does_ok r slots (Arrives m) d h ok n to is = serve_ok fmt anc self trans r slots m d h ok n is
  shared_does_ok r slots (StepSlot s) d h ok n to is = slot_ok fmt anc self trans r slots s d to ok is
  shared_does_ok r slots PruneShared d h ok n to is = absurd is
  shared_does_ok r slots RestartShared d h ok n to is = absurd is
  shared_does_ok r slots QuietShared d h ok n to is = absurd is

  ends_slots : (a : Answer) (n m : Node Slots) (slots : Slots) (d : Deed Slots) → SharedOk fmt anc n.repository slots d → Ends a n d m → Alone m.repository.objects slots
      → (left : Slots) → m.live ≡ Some left → SlotsOk fmt anc m.repository.objects left
  ends_slots (Did y) n m slots d ok e alone left up =
      let same : m.repository.objects ≡ e.0.0 = ap (λ (r : Repository). r.objects) e.0.2 ∙ changed_all-objects d.effect.changes (with_objects n.repository e.0.0) in
      let is : d.left ≡ left = let u = e.1 in cc in
      subst (λ s. SlotsOk fmt anc m.repository.objects s) is
      (subst (λ o. SlotsOk fmt anc o d.left) (sym same) (ok.after e.0.0 e.0.1 (subst (λ o. Alone o slots) same alone)))
  ends_slots (Fault f) n m slots d ok e alone left up = absurd (let u = e.1 in cc)
  ends_slots (Declined k) n m slots d ok e alone left up = absurd e

  ends_forward : (a : Answer) (n m : Node Slots) (slots : Slots) (d : Deed Slots) → SharedOk fmt anc n.repository slots d → Ends a n d m → Descends anc n.repository.refs m.repository.refs
  ends_forward (Did y) n m slots d ok e = done_forward fmt anc self trans n.repository m.repository d.effect ok.forward e.0
  ends_forward (Fault f) n m slots d ok e = cut_forward fmt anc self trans n.repository m.repository d.effect ok.forward e.0
  ends_forward (Declined k) n m slots d ok e = absurd e

  ends_bare : (a : Answer) (n m : Node Slots) (slots : Slots) (d : Deed Slots) → IsBare fmt n.repository → SharedOk fmt anc n.repository slots d → Ends a n d m → IsBare fmt m.repository
  ends_bare (Did y) n m slots d h ok e = done_bare fmt anc n.repository m.repository d.effect h ok.forward e.0
  ends_bare (Fault f) n m slots d h ok e = cut_bare fmt anc n.repository m.repository d.effect h ok.forward e.0
  ends_bare (Declined k) n m slots d h ok e = absurd e

  same_node : (old new : Node Slots) (sends : Option Message) → SharedKept fmt anc old → new ≡ old → sends ≡ None → SharedKeeps fmt anc old new sends
  same_node old new sends h is none = record {
    kept = subst (SharedKept fmt anc) (sym is) h;
    forward = subst (λ (n : Node Slots). Descends anc old.repository.refs n.repository.refs) (sym is) (descends_same anc self trans old.repository.refs);
    named = λ e g. absurd (cc);
  }

  same_store : (old new : Node Slots) (sends : Option Message) → SharedKept fmt anc old → new.repository ≡ old.repository → sends ≡ None
      → ((slots : Slots) → new.live ≡ Some slots → SlotsOk fmt anc new.repository.objects slots) → SharedKeeps fmt anc old new sends
  same_store old new sends h is none slots = record {
    kept = record { sound = subst (IsSound fmt) (sym is) h.sound; bare = subst (IsBare fmt) (sym is) h.bare; slots = slots };
    forward = subst (λ (r : Repository). Descends anc old.repository.refs r.refs) (sym is) (descends_same anc self trans old.repository.refs);
    named = λ e g. absurd (cc);
  }

  -- to: ancestors with what a push carries are ancestors; alone: what a push carries is what is stored then under the same name
  pub shared_step : (old new : Node Slots) (e : SharedEvent) (a : Answer) (sends : Option Message) → SharedKept fmt anc old → Arrived fmt e
      → ((slots : Slots) (j : ℕ) (p : OpenPush) → old.live ≡ Some slots → get slots j ≡ Some p → (a b : Id) → IsAncestor fmt (over old.repository.objects p.carried) a b → anc a b)
      → ((slots : Slots) (j : ℕ) (p : OpenPush) → old.live ≡ Some slots → get slots j ≡ Some p → IsNamed fmt p.carried → IsNamed fmt new.repository.objects
      → (x : Id) (o q : Object) → get p.carried x ≡ Some o → get new.repository.objects x ≡ Some q → o ≡ q)
      → SharedStep fmt old e a new sends → SharedKeeps fmt anc old new sends
  shared_step old new e a sends h arrived to alone s = elim s [
    | down x y v z is none ↦ same_node old new sends h is none
    | declines slots n x y z is none ↦ same_node old new sends h is none
    | works slots d up does ends is ↦
        let ok = shared_does_ok old.repository slots e d h.sound (h.slots slots up) arrived (λ j p. to slots j p up) does in
        let sound : IsSound fmt new.repository = ends_sound fmt a old new d h.sound ok.good ends in
        record {
          kept = record {
            sound = sound;
            bare = ends_bare a old new slots d h.bare ok ends;
            slots = ends_slots a old new slots d ok ends (λ j p got. alone slots j p up got (h.slots slots up j p got).carried sound.objects);
          };
          forward = ends_forward a old new slots d ok ends;
          named = λ e g. sent_ok (IsNamedMessage fmt) a d ok.sends e (sym is ∙ g);
        }
    | prunes slots x up ends none ↦
        let ok : PruneOk (IsNeeded fmt old.repository slots) old new = prune_ok a (IsNeeded fmt old.repository slots) old new ends in
        record {
          kept = record {
            bare = subst (IsBare fmt) (sym ok.rest) (record { each = h.bare.each; on_branch = h.bare.on_branch });
            sound = subst (IsSound fmt) (sym ok.rest) (sound_pruned fmt old.repository new.repository.objects (IsNeeded fmt old.repository slots) h.sound ok.partly (λ x y r q. by_root x r q));
            slots = λ left u k p got.
                let same : slots ≡ left = let v = ok.live left u in cc in
                let got' : get slots k ≡ Some p = subst (λ s. get s k ≡ Some p) (sym same) got in
                push_kept fmt anc old.repository new.repository.objects slots k p got' ok.partly (h.slots slots up k p got');
          };
          forward = subst (λ (r : Repository). Descends anc old.repository.refs r.refs) (sym ok.rest) (descends_same anc self trans old.repository.refs);
          named = λ e g. absurd (cc);
        }
    | restarts x ends none ↦
        let ok : RestartOk old empty new = restart_ok a old empty new ends in
        same_store old new sends h ok.same none
        (λ slots up k p got. absurd (none_in_empty nat_cmp k p (subst (λ s. get s k ≡ Some p) (sym (ok.live slots up)) got)))
    | quiet x y is none ↦ same_node old new sends h is none
    | faults slots f x y is none ↦
        same_store old new sends h (ap (λ (n : Node Slots). n.repository) is) none (λ left u. absurd (let l = ap (λ (n : Node Slots). n.live) is in cc))
  ]

-- ---- the world

pub record Kept (fmt : Format) (anc : Id → Id → Type 0) (w : World) : Type 0 where
  pub shared : SharedKept fmt anc w.shared
  pub clones : (c : ℕ) (n : Node Awaited) → get w.clones c ≡ Some n → IsSound fmt n.repository
  pub sent : (k : ℕ) (e : Envelope) → slice_get w.sent k ≡ Some e → IsNamedMessage fmt (message_of e)

pub kept_new : (fmt : Format) (anc : Id → Id → Type 0) (w : World) → StartsSound fmt w → Kept fmt anc w
kept_new fmt anc w new = record {
  shared = record {
    sound = new.shared;
    bare = new.bare;
    slots = λ slots up k p is. absurd (none_in_empty nat_cmp k p (subst (λ s. get s k ≡ Some p) (new.slots slots up) is));
  };
  clones = new.clones;
  sent = λ k e is. let s : slice_get [] k ≡ Some e = subst (λ s. slice_get s k ≡ Some e) new.sent is in absurd (cc);
}

pub kept_weaker : (fmt : Format) (p q : Id → Id → Type 0) → ((a b : Id) → p a b → q a b) → (w : World) → Kept fmt p w → Kept fmt q w
kept_weaker fmt p q to w h = record {
  shared = record { sound = h.shared.sound; bare = h.shared.bare; slots = λ slots up k u is. push_weaker fmt p q to w.shared.repository.objects u (h.shared.slots slots up k u is) };
  clones = h.clones;
  sent = h.sent;
}

-- What a step leaves.
pub record StepKeeps (fmt : Format) (anc : Id → Id → Type 0) (old new : World) : Type 0 where
  pub kept : Kept fmt anc new
  pub forward : Descends anc old.shared.repository.refs new.shared.repository.refs

-- what comes to the shared node is named
arrived : (fmt : Format) (w : World) (e : Event) (c : ℕ) (i : SharedEvent) → ((k : ℕ) (e : Envelope) → slice_get w.sent k ≡ Some e → IsNamedMessage fmt (message_of e)) → ForShared fmt w e c i → Arrived fmt i
arrived fmt w (Deliver k) c i sent is = subst (Arrived fmt) (sym is.2) (sent k (ToShared c is.0) is.1)
arrived fmt w (Forge (ToShared b m)) c i sent is = subst (Arrived fmt) (sym is.2) is.1
arrived fmt w (Forge (ToClone b m)) c i sent is = absurd is
arrived fmt w (StepPush s) c i sent is = subst (Arrived fmt) (sym is.1) tt
arrived fmt w (Prune TheShared) c i sent is = subst (Arrived fmt) (sym is) tt
arrived fmt w (Restart TheShared) c i sent is = subst (Arrived fmt) (sym is) tt
arrived fmt w (Prune (TheClone b)) c i sent is = absurd is
arrived fmt w (Restart (TheClone b)) c i sent is = absurd is
arrived fmt w (Stop TheShared n) c i sent is = subst (Arrived fmt) (sym is) tt
arrived fmt w (Ask TheShared x y) c i sent is = subst (Arrived fmt) (sym is) tt
arrived fmt w (Stop (TheClone b) n) c i sent is = absurd is
arrived fmt w (Ask (TheClone b) x y) c i sent is = absurd is
arrived fmt w (PackRefs TheShared) c i sent is = subst (Arrived fmt) (sym is) tt
arrived fmt w (Noise TheShared) c i sent is = subst (Arrived fmt) (sym is) tt
arrived fmt w (PackRefs (TheClone b)) c i sent is = absurd is
arrived fmt w (Noise (TheClone b)) c i sent is = absurd is
arrived fmt w (Local b t) c i sent is = absurd is

-- what comes to a clone is named, or fits
comes : (fmt : Format) (w : World) (e : Event) (c : ℕ) (r : Repository) (i : CloneEvent) → ((k : ℕ) (e : Envelope) → slice_get w.sent k ≡ Some e → IsNamedMessage fmt (message_of e))
    → ((o p : Object) → Brings e o → get r.objects (fmt.name_of o) ≡ Some p → o ≡ p) → ForClone fmt w e c i → Comes fmt r i
comes fmt w (Local b t) c r i sent fits is = subst (Comes fmt r) (sym is.1) fits
comes fmt w (Deliver k) c r i sent fits is = subst (Comes fmt r) (sym is.2) (sent k (ToClone c is.0) is.1)
comes fmt w (Forge (ToClone b m)) c r i sent fits is = subst (Comes fmt r) (sym is.2) is.1
comes fmt w (Forge (ToShared b m)) c r i sent fits is = absurd is
comes fmt w (StepPush s) c r i sent fits is = absurd is
comes fmt w (Prune (TheClone b)) c r i sent fits is = subst (Comes fmt r) (sym is.1) tt
comes fmt w (Restart (TheClone b)) c r i sent fits is = subst (Comes fmt r) (sym is.1) tt
comes fmt w (Prune TheShared) c r i sent fits is = absurd is
comes fmt w (Restart TheShared) c r i sent fits is = absurd is
comes fmt w (Stop (TheClone b) n) c r i sent fits is = subst (Comes fmt r) (sym is.1) tt
comes fmt w (Ask (TheClone b) x y) c r i sent fits is = subst (Comes fmt r) (sym is.1) tt
comes fmt w (Stop TheShared n) c r i sent fits is = absurd is
comes fmt w (Ask TheShared x y) c r i sent fits is = absurd is
comes fmt w (PackRefs (TheClone b)) c r i sent fits is = subst (Comes fmt r) (sym is.1) tt
comes fmt w (Noise (TheClone b)) c r i sent fits is = subst (Comes fmt r) (sym is.1) tt
comes fmt w (PackRefs TheShared) c r i sent fits is = absurd is
comes fmt w (Noise TheShared) c r i sent fits is = absurd is

module _ (fmt : Format) (anc : Id → Id → Type 0) (self : (a : Id) → anc a a) (trans : (a b c : Id) → anc a b → anc b c → anc a c) where
  pub world_step : (old new : World) (e : Event) (a : Answer) → Kept fmt anc old
      → ((slots : Slots) (j : ℕ) (p : OpenPush) → old.shared.live ≡ Some slots → get slots j ≡ Some p → (a b : Id) → IsAncestor fmt (over old.shared.repository.objects p.carried) a b → anc a b)
      → ((slots : Slots) (j : ℕ) (p : OpenPush) → old.shared.live ≡ Some slots → get slots j ≡ Some p → IsNamed fmt p.carried → IsNamed fmt new.shared.repository.objects
      → (x : Id) (o q : Object) → get p.carried x ≡ Some o → get new.shared.repository.objects x ≡ Some q → o ≡ q)
      → ((c : ℕ) (n : Node Awaited) (o p : Object) → get old.clones c ≡ Some n → IsSound fmt n.repository → Brings e o → get n.repository.objects (fmt.name_of o) ≡ Some p → o ≡ p)
      → Step fmt old e a new → StepKeeps fmt anc old new
  world_step old new e a h to alone fits s = elim s [
    | no_message k x y z is ↦ subst (StepKeeps fmt anc old) (sym is) (record { kept = h; forward = descends_same anc self trans old.shared.repository.refs })
    | at_shared c i n sends for step is ↦
        let shared_is : new.shared ≡ n = ap (λ (w : World). w.shared) is in
        let ok = shared_step fmt anc self trans old.shared n i a sends h.shared (arrived fmt old e c i h.sent for) to
        (λ slots j p up got b m. subst (λ (n : Node Slots). (x : Id) (o q : Object) → get p.carried x ≡ Some o → get n.repository.objects x ≡ Some q → o ≡ q) shared_is
        (alone slots j p up got b (subst (λ (n : Node Slots). IsNamed fmt n.repository.objects) (sym shared_is) m))) step in
        subst (StepKeeps fmt anc old) (sym is) (record {
          kept = record { shared = ok.kept; clones = h.clones; sent = more_sent (λ e. IsNamedMessage fmt (message_of e)) (ToClone c) old.sent sends h.sent ok.named };
          forward = ok.forward;
        })
    | at_clone c i n m sends for got step is ↦
        let sound = h.clones c n got in
        let ok = clone_step fmt n m i a sends sound (comes fmt old e c n.repository i h.sent (λ o p. fits c n o p got sound) for) step in
        subst (StepKeeps fmt anc old) (sym is) (record {
          kept = record {
            shared = h.shared;
            clones = λ d k g. elim (insert_cases nat_cmp_total nat_cmp-IsAntisymmetric old.clones c m d k g) [
              | inl same ↦ subst (λ (n : Node Awaited). IsSound fmt n.repository) (sym same.1) ok.sound
              | inr was ↦ h.clones d k was
            ];
            sent = more_sent (λ e. IsNamedMessage fmt (message_of e)) (ToShared c) old.sent sends h.sent ok.named;
          };
          forward = descends_same anc self trans old.shared.repository.refs;
        })
  ]

-- ---- the same as laws of one step

pub shared_step_keeps : SharedStepKeeps
shared_step_keeps fmt old new e a sends h arrived alone s =
    let ok = shared_step fmt any_order (λ a. tt) (λ a b c p q. tt) old new e a sends h arrived (λ slots j p up is a b q. tt) (λ slots j p up is c n. alone slots up j p is) s in
    (ok.kept, ok.named)

pub clone_step_keeps : CloneStepKeeps
clone_step_keeps fmt old new e a sends h comes s = let ok = clone_step fmt old new e a sends h comes s in (ok.sound, ok.named)
