-- What a call left that sent a message, or that was done.
use Rattle.std.proofs.Common.{◌≡◌, ℕ, Bool, List, Option, Some, None, inl, inr, refl, sym, ap, ◌∙◌, subst, take}
use Rattle.std.specs.FinMap.{get}
use Rattle.std.proofs.lemmas.Option.{same_Some}
use Rattle.vc_model.specs.Object.{Format, Id, Object, Objects}
use Rattle.vc_model.specs.Repository.{Repository, Done, no_effect}
use Rattle.vc_model.specs.Push.{Command as Ordered, Slots}
use Rattle.vc_model.specs.Message.{Message}
use Rattle.vc_model.specs.Message.Message.{ListRefs, Advert, Want, Pack, Push, Report, Error}
use Rattle.vc_model.specs.Node.{Answer, Deed, Ends, Reply, sent_by}
use Rattle.vc_model.specs.Node.Answer.{Did, Declined, Fault}
use Rattle.vc_model.specs.Node.Reply.{Sends, Opened}
use Rattle.vc_model.specs.Shared.{SharedNode, Serves}
use Rattle.vc_model.specs.Clone.{Awaited, CloneNode, PushItem, haves_of}
use Rattle.vc_model.specs.Clone.Task.{StartFetch, StartPush}
use Rattle.vc_model.specs.Rules.{Rules}
use Rattle.vc_model.specs.SharedCall.{SharedAnswers, SharedCall, SharedObeys}
use Rattle.vc_model.specs.SharedCall.SharedCall.{Accept}
use Rattle.vc_model.specs.SharedCall.SharedAnswers.{down as shared_down, asked as shared_asked, refused as shared_refused, obeyed as shared_obeyed, pruned as shared_pruned, opened as shared_opened, faulted as shared_faulted}
use Rattle.vc_model.specs.CloneCall.{CloneAnswers, CloneCall, CloneObeys}
use Rattle.vc_model.specs.CloneCall.CloneCall.{Command, Receive}
use Rattle.vc_model.specs.CloneCall.CloneAnswers.{down, asked, refused, obeyed, pruned, opened, faulted}
use Rattle.vc_model.proofs.Came.{IsSharedWork, nothing_done}

no_some : (m : Message) → ◌≡◌ {A = Option Message} (Some m) None → ⊥
no_some m e = absurd (cc)

did_declined : (y : Reply) (n : ℕ) → Did y ≡ Declined n → ⊥
did_declined y n e = absurd (cc)

did_fault : (y : Reply) (f : Rattle.vc_model.specs.Node.Failure) → Did y ≡ Fault f → ⊥
did_fault y f e = absurd (cc)

-- ---- a clone

-- A deed that was done whole and sent this message.
pub record Sent (old : CloneNode) (obeys : Deed Awaited → Type 0) (new : CloneNode) (m : Message) : Type 0 where
  pub deed : Deed Awaited
  pub did : obeys deed
  pub done : Done old.repository deed.effect new.repository
  pub sent : deed.sends ≡ Some m

module _ (fmt : Format) (rules : Rules fmt) where
  sent_deed : (c d : CloneNode) (e : CloneCall) (a : Answer) (m : Message) → CloneAnswers fmt rules c e a d (Some m) → (w : Awaited) × Sent c (CloneObeys fmt rules c.repository w e) d m
  sent_deed c d e a m s = elim s [
    | down off other is same none ↦ absurd (no_some m none)
    | asked w q up is tells same none ↦ absurd (no_some m none)
    | refused w n up why is same none ↦ absurd (no_some m none)
    | obeyed w deed up did ends is ↦ (w, of_it a w deed did ends is)
    | pruned w up is ends none ↦ absurd (no_some m none)
    | opened is ends none ↦ absurd (no_some m none)
    | faulted w f up other is same none ↦ absurd (no_some m none)
  ]
    where
      of_it : (a : Answer) (w : Awaited) (deed : Deed Awaited) → CloneObeys fmt rules c.repository w e deed → Ends a c deed d → Some m ≡ sent_by a deed → Sent c (CloneObeys fmt rules c.repository w e) d m
      of_it (Did y) w deed did ends is = record { deed = deed; did = did; done = ends.0; sent = sym is }
      of_it (Declined n) w deed did ends is = absurd (no_some m is)
      of_it (Fault f) w deed did ends is = absurd (no_some m is)

  -- The clone stays, and this is what it sends.
  pub record Stays (c d : CloneNode) (IsSent : Message → Type 0) (m : Message) : Type 0 where
    pub same : d.repository ≡ c.repository
    pub is_sent : IsSent m

  stays : (c d : CloneNode) (IsSent : Message → Type 0) (m q : Message) (deed : Deed Awaited) → deed.effect ≡ no_effect → deed.sends ≡ Some q → IsSent q → deed.sends ≡ Some m
      → Done c.repository deed.effect d.repository → Stays c d IsSent m
  stays c d IsSent m q deed none is of sent done = record {
    same = nothing_done c.repository d.repository (subst (λ e. Done c.repository e d.repository) none done);
    is_sent = subst IsSent (same_Some q m (sym is ∙ sent)) of;
  }

  abbrev pub IsList : Message → Type 0
  IsList m = m ≡ ListRefs

  pub starts_fetch : (c d : CloneNode) (a : Answer) (m : Message) → CloneAnswers fmt rules c (Command StartFetch) a d (Some m) → Stays c d IsList m
  starts_fetch c d a m s =
      let k = sent_deed c d (Command StartFetch) a m s in
      let of = k.1 in
      stays c d IsList m ListRefs of.deed (ap (λ (x : Deed Awaited). x.effect) of.did) (ap (λ (x : Deed Awaited). x.sends) of.did) refl of.sent of.done

  -- a push, with no fault, of objects of the clone
  abbrev pub IsOwnPush : CloneNode → Message → Type 0
  IsOwnPush c m = (atomic : Bool) × (commands : List Ordered) × (carried : Objects) × (m ≡ Push atomic None commands carried) × ((x : Id) (o : Object) → get carried x ≡ Some o → get c.repository.objects x ≡ Some o)

  pub starts_push : (atomic : Bool) (items : List PushItem) (c d : CloneNode) (a : Answer) (m : Message) → CloneAnswers fmt rules c (Command (StartPush atomic items)) a d (Some m) → Stays c d (IsOwnPush c) m
  starts_push atomic items c d a m s =
      let k = sent_deed c d (Command (StartPush atomic items)) a m s in
      let of = k.1 in
      let p = of.did.2 in
      stays c d (IsOwnPush c) m (Push atomic None p.0 p.1) of.deed (ap (λ (x : Deed Awaited). x.effect) p.4) (ap (λ (x : Deed Awaited). x.sends) p.4)
      (atomic, p.0, p.1, refl, λ x o g. (p.3.only x o g).0) of.sent of.done

  abbrev pub IsAsked : Message → Type 0
  IsAsked m = (wants : List Id) × (haves : List Id) × (m ≡ Want wants haves)

  pub asks : (q : Message) (c d : CloneNode) (a : Answer) (m : Message) → CloneAnswers fmt rules c (Receive q) a d (Some m) → Stays c d IsAsked m
  asks q c d a m s = let k = sent_deed c d (Receive q) a m s in heard q k.0 k.1
    where
      heard : (q : Message) (w : Awaited) → Sent c (CloneObeys fmt rules c.repository w (Receive q)) d m → Stays c d IsAsked m
      heard (Advert head refs) w of = elim (of.did.3) [
        | inl h ↦ stays c d IsAsked m (Want (take 256 of.did.1) (haves_of c.repository)) of.deed (ap (λ (x : Deed Awaited). x.effect) h.1) (ap (λ (x : Deed Awaited). x.sends) h.1)
            (take 256 of.did.1, haves_of c.repository, refl) of.sent of.done
        | inr h ↦ absurd (no_some m (sym of.sent ∙ ap (λ (x : Deed Awaited). x.sends) h.1.deed))
      ]
      heard (Pack ack objects) w of = absurd (no_some m (sym of.sent ∙ ap (λ (x : Deed Awaited). x.sends) of.did.4.deed))
      heard (Report fault ts) w of = absurd (no_some m (sym of.sent ∙ ap (λ (x : Deed Awaited). x.sends) of.did.2))
      heard ListRefs w of = absurd of.did
      heard (Want x y) w of = absurd of.did
      heard (Push x y z t) w of = absurd of.did
      heard (Error text) w of = absurd of.did

-- ---- the shared node

-- A deed that was done whole.
pub record Served (old : SharedNode) (obeys : Slots → Deed Slots → Type 0) (new : SharedNode) (y : Reply) (sends : Option Message) : Type 0 where
  pub slots : Slots
  pub deed : Deed Slots
  pub up : old.live ≡ Some slots
  pub did : obeys slots deed
  pub done : Done old.repository deed.effect new.repository
  pub left : new.live ≡ Some deed.left
  pub reply : y ≡ deed.reply
  pub sent : sends ≡ deed.sends

module _ (fmt : Format) (rules : Rules fmt) where
  pub did_deed : (s t : SharedNode) (e : SharedCall) (y : Reply) (sends : Option Message) → IsSharedWork e → SharedAnswers fmt rules s e (Did y) t sends → Served s (λ w d. SharedObeys fmt s.repository w e d) t y sends
  did_deed s t e y sends work k = elim k [
    | shared_down off other is same none ↦ absurd (did_declined y 112 is)
    | shared_asked w q up is tells same none ↦ absurd (subst IsSharedWork is work)
    | shared_refused w n up why is same none ↦ absurd (did_declined y n is)
    | shared_obeyed w deed up did ends is ↦ record { slots = w; deed = deed; up = up; did = did; done = ends.0; left = ends.1; reply = ends.2; sent = is }
    | shared_pruned w up is ends none ↦ absurd (subst IsSharedWork is work)
    | shared_opened is ends none ↦ absurd (subst IsSharedWork is work)
    | shared_faulted w f up other is same none ↦ absurd (did_fault y f is)
  ]

  -- what is answered with a message is done
  pub sent_did : (s t : SharedNode) (e : SharedCall) (a : Answer) (m : Message) → SharedAnswers fmt rules s e a t (Some m) → (y : Reply) × (a ≡ Did y)
  sent_did s t e a m k = elim k [
    | shared_down off other is same none ↦ absurd (no_some m none)
    | shared_asked w q up is tells same none ↦ absurd (no_some m none)
    | shared_refused w n up why is same none ↦ absurd (no_some m none)
    | shared_obeyed w deed up did ends is ↦ of_it a deed is
    | shared_pruned w up is ends none ↦ absurd (no_some m none)
    | shared_opened is ends none ↦ absurd (no_some m none)
    | shared_faulted w f up other is same none ↦ absurd (no_some m none)
  ]
    where
      of_it : (a : Answer) (deed : Deed Slots) → Some m ≡ sent_by a deed → (y : Reply) × (a ≡ Did y)
      of_it (Did y) deed is = (y, refl)
      of_it (Declined n) deed is = absurd (no_some m is)
      of_it (Fault f) deed is = absurd (no_some m is)

  no_effect_of : (r : Repository) (w : Slots) (m : Message) (d : Deed Slots) → Serves fmt r w m d → d.effect ≡ no_effect
  no_effect_of r w ListRefs d is = ap (λ (x : Deed Slots). x.effect) is
  no_effect_of r w (Want wants haves) d is = ap (λ (x : Deed Slots). x.effect) is.1.4
  no_effect_of r w (Push atomic fault commands objects) d is = ap (λ (x : Deed Slots). x.effect) is.2
  no_effect_of r w (Advert head refs) d is = absurd is
  no_effect_of r w (Pack ack objects) d is = absurd is
  no_effect_of r w (Report fault ts) d is = absurd is
  no_effect_of r w (Error text) d is = absurd is

  -- a message that is taken leaves what is stored
  pub accepted_stays : (s t : SharedNode) (m : Message) (y : Reply) (sends : Option Message) → SharedAnswers fmt rules s (Accept m) (Did y) t sends → t.repository ≡ s.repository
  accepted_stays s t m y sends k =
      let h = did_deed s t (Accept m) y sends tt k in
      nothing_done s.repository t.repository (subst (λ e. Done s.repository e t.repository) (no_effect_of s.repository h.slots m h.deed h.did) h.done)

  opened_sends : (slot : ℕ) → Opened slot ≡ Sends → ⊥
  opened_sends slot e = absurd (cc)

  -- a list and a want open no push
  pub list_opens_none : (s t : SharedNode) (slot : ℕ) → SharedAnswers fmt rules s (Accept ListRefs) (Did (Opened slot)) t None → ⊥
  list_opens_none s t slot k =
      let h = did_deed s t (Accept ListRefs) (Opened slot) None tt k in
      opened_sends slot (h.reply ∙ ap (λ (x : Deed Slots). x.reply) h.did)

  pub want_opens_none : (s t : SharedNode) (wants haves : List Id) (slot : ℕ) → SharedAnswers fmt rules s (Accept (Want wants haves)) (Did (Opened slot)) t None → ⊥
  want_opens_none s t wants haves slot k =
      let h = did_deed s t (Accept (Want wants haves)) (Opened slot) None tt k in
      opened_sends slot (h.reply ∙ ap (λ (x : Deed Slots). x.reply) h.did.1.4)

  -- a push is answered with no message
  pub push_sends_none : (s t : SharedNode) (atomic : Bool) (fault : Option ℕ) (commands : List Ordered) (objects : Objects) (a : Answer) (m : Message)
      → SharedAnswers fmt rules s (Accept (Push atomic fault commands objects)) a t (Some m) → ⊥
  push_sends_none s t atomic fault commands objects a m k =
      let y = sent_did s t (Accept (Push atomic fault commands objects)) a m k in
      let h = did_deed s t (Accept (Push atomic fault commands objects)) y.0 (Some m) tt (subst (λ a. SharedAnswers fmt rules s (Accept (Push atomic fault commands objects)) a t (Some m)) y.1 k) in
      no_some m (h.sent ∙ ap (λ (x : Deed Slots). x.sends) h.did.2)
