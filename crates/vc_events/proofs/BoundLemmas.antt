-- A run is bound at each of its events, and not at the first alone: what was never sent is refused, however long the run is.
use Rattle.std.proofs.Common.{◌≡◌, ℕ, List, [], ◌∷◌, Some, inl, inr, refl, sym, ap, ◌∙◌, subst, map, slice_get}
use Rattle.std.specs.FinMap.{get, empty}
use Rattle.std.specs.Ordering.{nat_cmp}
use Rattle.std.specs.Cmp.Lexicographic.{slice_cmp}
use Rattle.vc_wire.proofs.WireLaws.{message_wire}
use Rattle.vc_model.proofs.Maps.{none_in_empty}
use Rattle.vc_model.specs.Clone.{CloneNode}
use Rattle.vc_model.specs.Clone.Awaited.{Nothing}
use Rattle.vc_model.specs.ExactWorld.{BringsExactly, ExactHistory, ExactMoment, FusedWorld, OccursExactly, WorldAnswers, WorldEvent, fused_after}
use Rattle.vc_model.specs.ExactWorld.WorldAnswers.{at_clone, at_shared, no_message, stop_clone, stop_shared}
use Rattle.vc_model.specs.ExactWorld.WorldEvent.{Delivers}
use Rattle.vc_model.specs.Message.{Envelope, HasObject}
use Rattle.vc_model.specs.Node.{Answer}
use Rattle.vc_model.specs.Node.Answer.{Declined}
use Rattle.vc_model.specs.Object.{Object}
use Rattle.vc_model.specs.Push.{Slots}
use Rattle.vc_model.specs.Run.{OccursIn}
use Rattle.vc_model.specs.Run.OccursIn.{in_clone, in_message, in_push, in_shared}
use Rattle.vc_model.specs.Shared.{SharedNode}
use Rattle.vc_model.specs.World.{World as MachineWorld, IsNew, empty_repository}
use Rattle.vc_rules.specs.Git.{git}
use Rattle.vc_events.specs.Answers.{IsAnswer}
use Rattle.vc_events.specs.Calls.{Seen}
use Rattle.vc_events.specs.Running.{AreApart, IsLengthened, IsNext, NeverSentIsRefused}
use Rattle.vc_events.specs.declared.answers.Answer.{Answer as WorldAnswer}
use Rattle.vc_events.specs.declared.answers.Answer.TheVariants as answer
use Rattle.vc_events.specs.declared.events.Event.TheVariants as event

-- ---- the machine's answer to a delivery where nothing was sent

abbrev IsDelivery : WorldEvent → Type 0
IsDelivery (Delivers k) = Unit {0}
IsDelivery _ = ⊥

not_sent : (sent : List Envelope) (k : ℕ) (e : Envelope) → sent ≡ [] → slice_get sent k ≡ Some e → ⊥
not_sent sent k e none found = let gone : slice_get [] k ≡ Some e = subst (λ (s : List Envelope). slice_get s k ≡ Some e) none found in cc gone

delivers_none : (w v : FusedWorld) (k : ℕ) (a : Answer) → w.world.sent ≡ [] → WorldAnswers git message_wire w (Delivers k) a v → (a ≡ Declined 113) × (v ≡ w)
delivers_none w v k a none (no_message j e lookup is same) = (is, same)
delivers_none w v k a none (stop_shared writes f e set is same) = absurd (subst IsDelivery e tt)
delivers_none w v k a none (stop_clone c n writes f e got set is same) = absurd (subst IsDelivery e tt)
delivers_none w v k a none (at_shared c i n sends f calls answers burns same) = absurd (not_sent w.world.sent k _ none calls.1)
delivers_none w v k a none (at_clone c n m i sends f got calls answers burns same) = absurd (not_sent w.world.sent k _ none calls.1)

-- ---- as it is told

abbrev IsRefusal : Answer → Type 0
IsRefusal (Declined n) = Unit {0}
IsRefusal _ = ⊥

abbrev number_in : Answer → ℕ
number_in (Declined n) = n
number_in _ = 0

told_refused : (w : FusedWorld) (a : WorldAnswer) (b : Answer) → b ≡ Declined 113 → IsAnswer w a b → a ≡ answer.Refused 113
told_refused w (answer.Did d) b is said = absurd (subst IsRefusal (sym is ∙ said) tt)
told_refused w (answer.Sent k) b is said = absurd (subst IsRefusal (sym is ∙ said.0) tt)
told_refused w (answer.Refused n) b is said = ap answer.Refused (ap number_in (sym said ∙ is))
told_refused w (answer.Fault f) b is said = absurd (subst IsRefusal (sym is ∙ said) tt)

-- ---- what occurs

started : (start : FusedWorld) (h : ExactHistory) (o : Object) → OccursIn start.world o → OccursExactly git message_wire start h o
started start [] o is = is
started start (m ∷ h) o is = inr (inr (started start h o is))

still_apart : (start : FusedWorld) (h : ExactHistory) (m : ExactMoment) (k : ℕ) → m.event ≡ Delivers k → m.world ≡ start → AreApart start h → AreApart start (m ∷ h)
still_apart start h m k event same one = record {
  names = record { unique = λ o p a b e. one.names.unique o p (was o a) (was p b) e };
  zero = λ o a. one.zero o (was o a);
}
  where
    was : (o : Object) → OccursExactly git message_wire start (m ∷ h) o → OccursExactly git message_wire start h o
    was o (inl there) = started start h o (subst (λ (w : FusedWorld). OccursIn w.world o) same there)
    was o (inr (inl brought)) = absurd (subst (λ (e : WorldEvent). BringsExactly git message_wire (fused_after start h) e o) event brought)
    was o (inr (inr before)) = before

none_in : (o : Object) → HasObject empty o → ⊥
none_in o has = none_in_empty (slice_cmp nat_cmp) has.0 o has.1

none_occurs : (w : MachineWorld) (n : ℕ) → IsNew w n → (o : Object) → OccursIn w o → ⊥
none_occurs w n new o (in_shared has) = none_in o (subst (λ (s : SharedNode). HasObject s.repository.objects o) new.shared has)
none_occurs w n new o (in_push slots s p live got has) =
    let fresh = subst (λ (n : SharedNode). n.live ≡ Some slots) new.shared live in
    let none : slots ≡ empty = cc fresh in
    none_in_empty nat_cmp s p (subst (λ (m : Slots). get m s ≡ Some p) none got)
none_occurs w n new o (in_clone c m got has) = elim (new.clones c) [
  | inl there ↦
      let is : record { repository = empty_repository; live = Some Nothing } ≡ m = let b = there.1 in cc in
      none_in o (subst (λ (m : CloneNode). HasObject m.repository.objects o) (sym is) has)
  | inr past ↦ absurd (let b = past.1 in cc)
]
none_occurs w n new o (in_message k e got carries) = not_sent w.sent k e new.sent got

new_apart : (start : FusedWorld) (n : ℕ) → IsNew start.world n → AreApart start []
new_apart start n new = record {
  names = record { unique = λ o p a b e. absurd (none_occurs start.world n new o a) };
  zero = λ o a. absurd (none_occurs start.world n new o a);
}

-- ---- event by event

each_refused : (start : FusedWorld) → start.world.sent ≡ [] → (h : ExactHistory) → fused_after start h ≡ start → AreApart start h → (messages : List ℕ) (said : List WorldAnswer) (k : ExactHistory)
    → IsLengthened start h (map event.Deliver messages) said k → said ≡ map (λ _. answer.Refused 113) messages
each_refused start none h here apart [] [] k is = refl
each_refused start none h here apart [] (a ∷ said) k is = absurd is
each_refused start none h here apart (j ∷ messages) [] k is = absurd is
each_refused start none h here apart (j ∷ messages) (a ∷ said) k is =
    let m = is.0 in
    let next : IsNext start h (event.Deliver j) a m = is.1 in
    let now : WorldAnswers git message_wire (fused_after start h) (Delivers j) m.answer m.world
    = subst (λ (e : WorldEvent). WorldAnswers git message_wire (fused_after start h) e m.answer m.world) next.event (next.step apart) in
    let ends = delivers_none start m.world j m.answer none (subst (λ (w : FusedWorld). WorldAnswers git message_wire w (Delivers j) m.answer m.world) here now) in
    let others = each_refused start none (m ∷ h) ends.1 (still_apart start h m j next.event ends.1 apart) messages said k is.2 in
    ap (λ (b : WorldAnswer). b ∷ said) (told_refused (fused_after start h) a m.answer ends.0 next.answer)
    ∙ ap (λ (others : List WorldAnswer). answer.Refused 113 ∷ others) others

pub never_sent_is_refused : {S C : Type 0} (hs : Seen S SharedNode) (hc : Seen C CloneNode) → NeverSentIsRefused hs hc
never_sent_is_refused hs hc n frail old new messages said fresh run =
    let k = run.each n fresh.start [] fresh.is_new tt fresh.held in
    each_refused fresh.start fresh.is_new.sent [] refl (new_apart fresh.start n fresh.is_new) messages said k.0 k.1
