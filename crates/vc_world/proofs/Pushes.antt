-- A push whose calls are the machine's.
use Rattle.std.proofs.Common.{◌≡◌, ℕ, Bool, List, Option, Some, None, ◌⊎◌, inl, inr, refl, sym, ap, ◌∙◌, subst, nat_cmp}
use Rattle.std.specs.FinMap.{empty, get, insert, nat_cmp-IsAntisymmetric}
use Rattle.std.specs.Cmp.{nat_cmp_total}
use Rattle.std.specs.Cmp.Lexicographic.{slice_cmp}
use Rattle.vc_model.specs.Object.{Format, Id, Object, Objects, over}
use Rattle.vc_model.specs.Repository.{Repository, Done, Effect, IsBare, IsSound, with_objects}
use Rattle.vc_model.specs.Push.{Command as Ordered, OpenPush, Slots, Stage}
use Rattle.vc_model.specs.Push.Stage.{Unpacked, Checked, Migrated, Finished}
use Rattle.vc_model.specs.Message.{Message}
use Rattle.vc_model.specs.Message.Message.{Push, Report}
use Rattle.vc_model.specs.Node.{Answer, Deed, Reply}
use Rattle.vc_model.specs.Node.Answer.{Did}
use Rattle.vc_model.specs.Node.Reply.{Opened}
use Rattle.vc_model.specs.Shared.{SharedNode, StepsPush, opened}
use Rattle.vc_model.specs.Shared.SharedEvent.{StepSlot}
use Rattle.vc_model.specs.Shared.SharedStep.{works}
use Rattle.vc_model.specs.Clone.{CloneNode, PushItem}
use Rattle.vc_model.specs.Clone.Task.{StartPush}
use Rattle.vc_model.specs.Keeping.{PushOk, SharedKept, any_order}
use Rattle.vc_model.specs.Rules.{Rules}
use Rattle.vc_model.specs.SharedCall.{SharedAnswers}
use Rattle.vc_model.specs.SharedCall.SharedCall.{Accept, StepOf}
use Rattle.vc_model.specs.CloneCall.CloneCall.{Command}
use Rattle.vc_model.specs.Exchange.{CloneSends, NodesAgree, PushRun, Steps}
use Rattle.vc_model.specs.Exchange.Steps.{sent, undone, further}
use Rattle.vc_model.specs.Exchange.PushRun.{unsent, unopened, unreported, reported}
use Rattle.vc_model.proofs.Maps.{insert_cases, insert_same, none_in_empty}
use Rattle.vc_model.proofs.Sound.{all_added_is, changed_all-objects}
use Rattle.vc_model.proofs.Runs.{found_over}
use Rattle.vc_model.proofs.Kept.{shared_step_keeps}
use Rattle.vc_world.specs.Chains.{CloneMaySend, MayPushRun, MayStep}
use Rattle.vc_world.specs.Chains.MayServe.{at_once, stepped}
use Rattle.vc_world.specs.Chains.MayStep.{sent as may_sent, undone as may_undone, further as may_further}
use Rattle.vc_world.specs.Chains.MayPushRun.{unsent as may_unsent, unreported as may_unreported, reported as may_reported}
use Rattle.vc_world.proofs.Sent.{IsOwnPush, Stays, accepted_stays, did_deed, push_sends_none, starts_push}

same_push : (o : Option OpenPush) (p q : OpenPush) → o ≡ Some p → o ≡ Some q → p ≡ q
same_push o p q e f = cc

same_object : (f : Option Object) (o p : Object) → f ≡ Some o → f ≡ Some p → o ≡ p
same_object f o p e g = cc

none_is_sent : (m : Message) → ◌≡◌ {A = Option Message} None (Some m) → ⊥
none_is_sent m e = absurd (cc)

module _ (fmt : Format) (rules : Rules fmt) (s : SharedNode) (c : CloneNode) (sound : IsSound fmt s.repository) (bare : IsBare fmt s.repository) (clone_sound : IsSound fmt c.repository) (agree : NodesAgree fmt s.repository c.repository) where
  -- stored at one of the two before the push
  abbrev WasAt : Id → Object → Type 0
  WasAt x o = (get s.repository.objects x ≡ Some o) ⊎ (get c.repository.objects x ≡ Some o)

  one_there : (x : Id) (o p : Object) → get c.repository.objects x ≡ Some o → WasAt x p → o ≡ p
  one_there x o p g (inl h) = sym (agree.unique p o (x, h) (x, g) (sound.objects.named x p h ∙ sym (clone_sound.objects.named x o g)))
  one_there x o p g (inr h) = same_object (get c.repository.objects x) o p g h

  -- A push of the clone's own objects is in the slot, and what is stored was at one of the two. Slots with that push alone keep.
  record Going (u : SharedNode) (k : ℕ) : Type 0 where
    slots : Slots
    push : OpenPush
    live : u.live ≡ Some slots
    got : get slots k ≡ Some push
    alone : Slots
    got_alone : get alone k ≡ Some push
    only : (j : ℕ) (q : OpenPush) → get alone j ≡ Some q → j ≡ k
    kept : SharedKept fmt any_order (record { repository = u.repository; live = Some alone })
    own : (x : Id) (o : Object) → get push.carried x ≡ Some o → get c.repository.objects x ≡ Some o
    was : (x : Id) (o : Object) → get u.repository.objects x ≡ Some o → WasAt x o

  -- ---- a step

  in_empty : (x : Id) (o : Object) → get (empty {X = Object} {R = slice_cmp nat_cmp}) x ≡ Some o → ⊥
  in_empty x o g = none_in_empty (slice_cmp nat_cmp) x o g

  -- it adds what is carried or nothing, and what is carried stays
  record Adds (p q : OpenPush) (e : Effect) : Type 0 where
    added : (x : Id) (o : Object) → get e.objects x ≡ Some o → get p.carried x ≡ Some o
    carried : q.carried ≡ p.carried

  adds : (r : Repository) (p q : OpenPush) (stage : Stage) (e : Effect) (y : Reply) → StepsPush fmt r p stage e q y → Adds p q e
  adds r p q Unpacked e y is = record {
    added = λ x o g. absurd (in_empty x o (ap (λ (e : Effect). get e.objects x) (sym is.2) ∙ g));
    carried = ap (λ (q : OpenPush). q.carried) is.3;
  }
  adds r p q Checked e y is = record { added = λ x o g. ap (λ (e : Effect). get e.objects x) (sym is.0) ∙ g; carried = ap (λ (q : OpenPush). q.carried) is.1 }
  adds r p q Migrated e y is = record {
    added = λ x o g. absurd (in_empty x o (ap (λ (e : Effect). get e.objects x) (sym is.3) ∙ g));
    carried = ap (λ (q : OpenPush). q.carried) is.4;
  }
  adds r p q Finished e y is = absurd is

  -- what is stored after it
  done_was : (u v : Repository) (e : Effect) → ((x : Id) (o : Object) → get u.objects x ≡ Some o → WasAt x o) → ((x : Id) (o : Object) → get e.objects x ≡ Some o → get c.repository.objects x ≡ Some o)
      → Done u e v → (x : Id) (o : Object) → get v.objects x ≡ Some o → WasAt x o
  done_was u v e before own d x o g =
      let same : v.objects ≡ d.0 = ap (λ (r : Repository). r.objects) d.2 ∙ changed_all-objects e.changes (with_objects u d.0) in
      let there : over u.objects e.objects x ≡ Some o = sym (ap (λ f. f x) (all_added_is u.objects e.objects d.0 d.1)) ∙ (ap (λ (k : Objects). get k x) (sym same) ∙ g) in
      elim (found_over u.objects e.objects x o there) [ inl h ↦ before x o h | inr h ↦ inr (own x o h) ]

  same_slots : (o : Option Slots) (v w : Slots) → o ≡ Some v → o ≡ Some w → v ≡ w
  same_slots o v w e f = cc

  keeps : (u v : SharedNode) (k : ℕ) (g : Going u k) (q : OpenPush) (d : Deed Slots) → StepsPush fmt u.repository g.push g.push.stage d.effect q d.reply → Done u.repository d.effect v.repository
      → ((x : Id) (o : Object) → get v.repository.objects x ≡ Some o → WasAt x o) → SharedKept fmt any_order (record { repository = v.repository; live = Some (insert g.alone k q) })
  keeps u v k g q d is done was = (shared_step_keeps fmt (record { repository = u.repository; live = Some g.alone }) (record { repository = v.repository; live = Some (insert g.alone k q) }) (StepSlot k) (Did d.reply) None g.kept tt
      (λ slots up j p has x o r carries there.
      let of : get g.alone j ≡ Some p = ap (λ (w : Slots). get w j) (same_slots (Some g.alone) g.alone slots refl up) ∙ has in
      let same : p ≡ g.push = same_push (get g.alone j) p g.push of (ap (get g.alone) (g.only j p of) ∙ g.got_alone) in
      one_there x o r (g.own x o (ap (λ (p : OpenPush). get p.carried x) (sym same) ∙ carries)) (was x r there))
      (works g.alone (record { effect = d.effect; left = insert g.alone k q; sends = None; reply = d.reply }) refl (g.push, g.got_alone, inl (q, is, refl, refl)) (done, refl, refl) refl)).0

  goes : (u v : SharedNode) (k : ℕ) (g : Going u k) (w : Slots) (q : OpenPush) (d : Deed Slots) → StepsPush fmt u.repository g.push g.push.stage d.effect q d.reply → Done u.repository d.effect v.repository
      → v.live ≡ Some (insert w k q) → Going v k
  goes u v k g w q d is done live =
      let a : Adds g.push q d.effect = adds u.repository g.push q g.push.stage d.effect d.reply is in
      let was = done_was u.repository v.repository d.effect g.was (λ x o h. g.own x o (a.added x o h)) done in
      record {
        slots = insert w k q;
        push = q;
        live = live;
        got = insert_same nat_cmp_total nat_cmp-IsAntisymmetric w k q;
        alone = insert g.alone k q;
        got_alone = insert_same nat_cmp_total nat_cmp-IsAntisymmetric g.alone k q;
        only = λ j p has. elim (insert_cases nat_cmp_total nat_cmp-IsAntisymmetric g.alone k q j p has) [ inl h ↦ h.0 | inr h ↦ g.only j p h ];
        kept = keeps u v k g q d is done was;
        own = λ x o h. g.own x o (ap (λ (k : Objects). get k x) (sym a.carried) ∙ h);
        was = was;
      }

  goes_on : (u v : SharedNode) (k : ℕ) (y : Reply) → Going u k → SharedAnswers fmt rules u (StepOf k) (Did y) v None → Going v k
  goes_on u v k y g x =
      let h = did_deed fmt rules u v (StepOf k) y None tt x in
      let is : h.did.0 ≡ g.push = same_push (get g.slots k) h.did.0 g.push (ap (λ (w : Slots). get w k) (sym (same_slots u.live h.slots g.slots h.up g.live)) ∙ h.did.1) g.got in
      elim (h.did.2) [
        | inl w ↦ goes u v k g h.slots w.0 h.deed (subst (λ (p : OpenPush). StepsPush fmt u.repository p p.stage h.deed.effect w.0 h.deed.reply) is w.1) h.done (h.left ∙ ap Some w.2)
        | inr w ↦ absurd (none_is_sent (Report h.did.0.fault w.0) (h.sent ∙ ap (λ (d : Deed Slots). d.sends) w.3))
      ]

  -- ---- the steps of a push

  steps_of : (k : ℕ) (u t : SharedNode) (a : Answer) (sends : Option Message) → Going u k → MayStep fmt rules k u a t sends → Steps fmt rules k u a t sends
  steps_of k u t a sends g (may_sent m x) = sent m (x g.kept.sound g.kept.bare)
  steps_of k u t a sends g (may_undone x not) = undone (x g.kept.sound g.kept.bare) not
  steps_of k u t a sends g (may_further {u = v} y x rest) =
      let hard = x g.kept.sound g.kept.bare in
      further y hard (steps_of k v t a sends (goes_on u v k y g hard) rest)

  -- ---- the push comes

  begins : (u : SharedNode) (atomic : Bool) (commands : List Ordered) (carried : Objects) (k : ℕ) → ((x : Id) (o : Object) → get carried x ≡ Some o → get c.repository.objects x ≡ Some o)
      → SharedAnswers fmt rules s (Accept (Push atomic None commands carried)) (Did (Opened k)) u None → Going u k
  begins u atomic commands carried k own x =
      let h = did_deed fmt rules s u (Accept (Push atomic None commands carried)) (Opened k) None tt x in
      let same : u.repository ≡ s.repository = accepted_stays fmt rules s u (Push atomic None commands carried) (Opened k) None x in
      let slot : k ≡ h.did.0 = opened_same k h.did.0 (h.reply ∙ ap (λ (d : Deed Slots). d.reply) h.did.2) in
      let push : OpenPush = opened atomic None commands carried in
      record {
        slots = insert h.slots k push;
        push = push;
        live = h.left ∙ (ap (λ (d : Deed Slots). Some d.left) h.did.2 ∙ ap (λ j. Some (insert h.slots j push)) (sym slot));
        got = insert_same nat_cmp_total nat_cmp-IsAntisymmetric h.slots k push;
        alone = insert empty k push;
        got_alone = insert_same nat_cmp_total nat_cmp-IsAntisymmetric empty k push;
        only = λ j p has. elim (insert_cases nat_cmp_total nat_cmp-IsAntisymmetric empty k push j p has) [ inl h ↦ h.0 | inr h ↦ absurd (none_in_empty nat_cmp j p h) ];
        kept = record {
          sound = subst (IsSound fmt) (sym same) sound;
          bare = subst (IsBare fmt) (sym same) bare;
          slots = λ slots up j p has. opened_ok j p (ap (λ (w : Slots). get w j) (same_slots (Some (insert empty k push)) (insert empty k push) slots refl up) ∙ has);
        };
        own = own;
        was = λ y o h. inl (ap (λ (r : Repository). get r.objects y) (sym same) ∙ h);
      }
    where
      opened_same : (k l : ℕ) → Opened k ≡ Opened l → k ≡ l
      opened_same k l e = cc

      opened_ok : (j : ℕ) (p : OpenPush) → get (insert (empty {R = nat_cmp}) k (opened atomic None commands carried)) j ≡ Some p → PushOk fmt any_order u.repository.objects p
      opened_ok j p has = elim (insert_cases nat_cmp_total nat_cmp-IsAntisymmetric empty k (opened atomic None commands carried) j p has) [
        | inl h ↦ subst (PushOk fmt any_order u.repository.objects) (sym h.1) (record { carried = record { named = λ x o g. clone_sound.objects.named x o (own x o g) }; commands = tt })
        | inr h ↦ absurd (none_in_empty nat_cmp j p h)
      ]

  -- ---- a whole push

  -- The clone has sent its push.
  record Begun (atomic : Bool) (items : List PushItem) (e : CloneNode) (push : Message) : Type 0 where
    sends : CloneSends fmt rules c (Command (StartPush atomic items)) e push
    is_push : IsOwnPush fmt rules c push
    sound_then : IsSound fmt e.repository

  begun : (atomic : Bool) (items : List PushItem) (e : CloneNode) (push : Message) → CloneMaySend fmt rules c (Command (StartPush atomic items)) e push → Begun atomic items e push
  begun atomic items e push k =
      let answers = k.1 clone_sound in
      let h : Stays fmt rules c e (IsOwnPush fmt rules c) push = starts_push fmt rules atomic items c e k.0 push answers in
      record { sends = (k.0, answers); is_push = h.is_sent; sound_then = subst (IsSound fmt) (sym h.same) clone_sound }

  -- it is opened, and stepped
  opens : (u : SharedNode) (push : Message) (k : ℕ) → IsOwnPush fmt rules c push → SharedAnswers fmt rules s (Accept push) (Did (Opened k)) u None → Going u k
  opens u push k is x = begins u is.0 is.1 is.2 k is.4 (subst (λ (m : Message). SharedAnswers fmt rules s (Accept m) (Did (Opened k)) u None) is.3 x)

  push_of : (atomic : Bool) (items : List PushItem) (t : SharedNode) (d : CloneNode) (a : Answer) (report : Option Message) → MayPushRun fmt rules atomic items s c a t d report → PushRun fmt rules atomic items s c a t d report
  push_of atomic items t d a report (may_unsent x is none) = unsent (x clone_sound) is none
  push_of atomic items t d a report (may_unreported push sends (at_once x not) none) =
      let one = begun atomic items d push sends in
      unopened push None one.sends (x sound bare) not none
  push_of atomic items t d a report (may_unreported push sends (stepped u k x more) none) =
      let one = begun atomic items d push sends in
      let hard = x sound bare in
      unreported u push k one.sends hard (steps_of k u t a None (opens u push k one.is_push hard) more) none
  push_of atomic items t d a report (may_reported e push told sends starts (b, at_once x not) hears is) =
      let one = begun atomic items e push starts in
      let p = one.is_push in
      absurd (push_sends_none fmt rules s t p.0 None p.1 p.2 b told (subst (λ (m : Message). SharedAnswers fmt rules s (Accept m) b t (Some told)) p.3 (x sound bare)))
  push_of atomic items t d a report (may_reported e push told sends starts (b, stepped u k x more) hears is) =
      let one = begun atomic items e push starts in
      let hard = x sound bare in
      reported e u push told k b sends one.sends hard (steps_of k u t b (Some told) (opens u push k one.is_push hard) more) (hears one.sound_then) is

pub push_comes : (fmt : Format) (rules : Rules fmt) (atomic : Bool) (items : List PushItem) (s t : SharedNode) (c d : CloneNode) (a : Answer) (report : Option Message)
    → IsSound fmt s.repository → IsBare fmt s.repository → IsSound fmt c.repository → NodesAgree fmt s.repository c.repository
    → MayPushRun fmt rules atomic items s c a t d report → PushRun fmt rules atomic items s c a t d report
push_comes fmt rules atomic items s t c d a report sound bare clone_sound agree k = push_of fmt rules s c sound bare clone_sound agree atomic items t d a report k
