-- A run of events, from one event.
use Rattle.std.proofs.Common.{◌≡◌, ℕ, List, [], ◌∷◌, ◌++◌, Some, inl, inr, refl, sym, ap, ◌∙◌, subst, slice_get, unwrap_or, length, take, get_or, ◌<◌, ◌+◌}
use Rattle.std.proofs.lemmas.List.{take_more}
use Rattle.std.specs.List.{AllByRecursion}
use Rattle.std.specs.FinMap.{get}
use Rattle.vc_model.specs.Shared.{SharedNode}
use Rattle.vc_model.specs.Clone.{CloneNode}
use Rattle.vc_model.specs.World.{IsNew, World as MachineWorld, StartsSound}
use Rattle.vc_model.specs.Object.{Object}
use Rattle.vc_model.specs.Run.{History, OccursIn}
use Rattle.vc_model.specs.Run.OccursIn.{in_clone}
use Rattle.vc_model.specs.Safe.{EveryNodeSound, IsGuarded, IsSafe}
use Rattle.vc_model.specs.Exact.{Shadows}
use Rattle.vc_model.specs.ExactWorld.{FusedWorld, WorldEvent, ExactMoment, ExactHistory, fused_after, ExactRun, IsHonest, NoExactCollision, NothingForgedExactly, OccursExactly}
use Rattle.vc_model.proofs.ExactRuns.{exact_run, honest_shadow, same_world}
use Rattle.vc_model.proofs.Runs.{stays_sound}
use Rattle.vc_model.proofs.Kept.{new_is_sound}
use Rattle.vc_model.proofs.Safety.{every_run_guarded, every_run_safe}
use Rattle.vc_wire.proofs.WireLaws.{message_wire}
use Rattle.vc_rules.specs.Git.{git}
use Rattle.vc_events.specs.declared.events.Event.{Event}
use Rattle.vc_events.specs.declared.events.Event.TheVariants as event
use Rattle.vc_events.specs.declared.answers.Answer.{Answer as WorldAnswer}
use Rattle.vc_events.specs.declared.letters.Letter.TheVariants as mail
use Rattle.vc_events.specs.declared.world.World.{World}
use Rattle.vc_events.specs.Calls.{Seen}
use Rattle.vc_events.specs.Events.{IsEnd, event_of}
use Rattle.vc_events.specs.World.{HoldsAt, AreLetters, HoldsWorld, NoZeros, Steps, IsSame}
use Rattle.vc_events.specs.Running.{AreApart, EveryRunIsSafe, ForgesNothing, GoesOn, IsLengthened, IsNext, IsSent, Lengthens, RunsSafely}

-- ---- the nodes of a run are sound

pub sound_now : (start : FusedWorld) (h : ExactHistory) → StartsSound git start.world → ExactRun git message_wire start h → NoExactCollision git message_wire start h → EveryNodeSound git (fused_after start h).world
sound_now start h new run one =
    let k = exact_run git message_wire start h new run one in
    subst (λ (w : MachineWorld). EveryNodeSound git w) (same_world git message_wire start h k.0 k.1) (stays_sound git start.world [] k.0 new k.2 k.3)

pub every_run_is_safe : EveryRunIsSafe
every_run_is_safe n start h new run one honest =
    let k = exact_run git message_wire start h (new_is_sound git start.world n new) run one in
    (k.0, k.1, every_run_safe git n start.world k.0 new k.2 k.3 (honest_shadow git message_wire start h k.0 k.1 honest))

-- no clone has an object named by the zero id, where none occurs
occurs_now : (start : FusedWorld) (h : ExactHistory) (o : Object) → OccursIn (fused_after start h).world o → OccursExactly git message_wire start h o
occurs_now start [] o is = is
occurs_now start (m ∷ h) o is = inl is

zeros_now : (start : FusedWorld) (h : ExactHistory) → AreApart start h → NoZeros (fused_after start h).world
zeros_now start h one c n at o has = one.zero o (occurs_now start h o (in_clone c n at has))

-- ---- one event more

lengthened_more : (start : FusedWorld) (h : ExactHistory) (es : List Event) (said : List WorldAnswer) (k : ExactHistory) (e : Event) (a : WorldAnswer) (m : ExactMoment)
    → IsLengthened start h es said k → IsNext start k e a m → IsLengthened start h (es ++ e ∷ []) (said ++ a ∷ []) (m ∷ k)
lengthened_more start h [] [] k e a m is next =
    (m, subst (λ (g : ExactHistory). IsNext start g e a m) is next, ap (λ (g : ExactHistory). m ∷ g) is)
lengthened_more start h (d ∷ es) (b ∷ said) k e a m is next = (is.0, is.1, lengthened_more start (is.0 ∷ h) es said k e a m is.2 next)
lengthened_more start h [] (b ∷ said) k e a m is next = absurd is
lengthened_more start h (d ∷ es) [] k e a m is next = absurd is

earlier : (start : FusedWorld) (m : ExactMoment) (h : ExactHistory) → AreApart start (m ∷ h) → AreApart start h
earlier start m h one = record {
  names = record { unique = λ o p a b e. one.names.unique o p (inr (inr a)) (inr (inr b)) e };
  zero = λ o a. one.zero o (inr (inr a));
}

-- ---- events that forge nothing

sent_event : (e : Event) → IsSent e → IsHonest git message_wire (event_of e)
sent_event (event.Order c o) sent = tt
sent_event (event.Deliver k) sent = tt
sent_event (event.Step s) sent = tt
sent_event (event.Compare p first second) sent = tt
sent_event (event.Pack p) sent = tt
sent_event (event.Prune p) sent = tt
sent_event (event.Restart p) sent = tt
sent_event (event.Stop p writes) sent = tt
sent_event (event.Forge (mail.ToShared from bytes)) sent = tt
sent_event (event.Forge (mail.ToClone to bytes)) sent = absurd sent

pub forges_nothing : ForgesNothing
forges_nothing start h k [] [] sent honest is = subst (λ (k : ExactHistory). NothingForgedExactly git message_wire k) (sym is) honest
forges_nothing start h k (e ∷ es) (a ∷ said) sent honest is =
    forges_nothing start (is.0 ∷ h) k es said sent.1 (subst (λ (e : WorldEvent). IsHonest git message_wire e) (sym is.1.event) (sent_event e sent.0), honest) is.2
forges_nothing start h k [] (a ∷ said) sent honest is = absurd is
forges_nothing start h k (e ∷ es) [] sent honest is = absurd is

-- ---- what holds of a run of a new world, whoever forged what

abbrev IsSafely : FusedWorld → ExactHistory → Type 0
IsSafely start k = (p : History) × Shadows git message_wire start k p × IsGuarded git start.world p × (NothingForgedExactly git message_wire k → IsSafe git start.world p)

safely : (n : ℕ) (start : FusedWorld) (k : ExactHistory) → IsNew start.world n → ExactRun git message_wire start k → NoExactCollision git message_wire start k → IsSafely start k
safely n start k is_new ran names =
    let p = exact_run git message_wire start k (new_is_sound git start.world n is_new) ran names in
    (p.0, p.1, every_run_guarded git start.world p.0 (new_is_sound git start.world n is_new) p.2 p.3, λ honest. every_run_safe git n start.world p.0 is_new p.2 p.3 (honest_shadow git message_wire start k p.0 p.1 honest))

module _ {S C : Type 0} (hs : Seen S SharedNode) (hc : Seen C CloneNode) where
  pub lengthens_none : (old : World S C) → Lengthens hs hc old [] [] old
  lengthens_none old = record { each = λ start h sound run held. (h, refl, held, λ one. run) }

  pub lengthens_more : (old mid new : World S C) (es : List Event) (said : List WorldAnswer) (e : Event) (a : WorldAnswer)
      → Lengthens hs hc old es said mid → Steps hs hc mid (event_of e) a new → Lengthens hs hc old (es ++ e ∷ []) (said ++ a ∷ []) new
  lengthens_more old mid new es said e a so_far step = record {
    each = λ start h sound run held.
        let k = so_far.each start h sound run held in
        let s = step.each (fused_after start k.0) k.2 in
        let m : ExactMoment = record { event = event_of e; answer = s.1; world = s.0 } in
        let next : IsNext start k.0 e a m = record {
          event = refl;
          answer = s.3;
          step = λ before. s.4 (sound_now start k.0 sound (k.3 before) before.names) (zeros_now start k.0 before);
        } in (
          m ∷ k.0,
          lengthened_more start h es said k.0 e a m k.1 next,
          s.2,
          λ one. let before = earlier start m k.0 one in (next.step before, k.3 before),
        );
  }

  -- a world that is the same but for its room holds the same
  same_holds : (old new : World S C) → IsSame old new → (w : FusedWorld) → HoldsWorld hs hc old w → HoldsWorld hs hc new w
  same_holds old new same w held = record {
    shared = subst (λ (x : S). hs.may_be w.frail x w.world.shared) (sym same.shared) held.shared;
    clones = λ d. subst (λ (xs : List C). HoldsAt (hc.may_be w.frail) (slice_get xs d) (get w.world.clones d)) (sym same.clones) (held.clones d);
    letters = subst (λ ls. AreLetters ls w.world.sent) (sym same.letters) held.letters;
    senders = λ s. held.senders s ∙ ap (λ (l : List ℕ). unwrap_or (slice_get l s) 0) (sym same.senders);
    shared_fuse = held.shared_fuse ∙ ap hs.left (sym same.shared);
    clone_fuses = λ c x at. held.clone_fuses c x (subst (λ (xs : List C). slice_get xs c ≡ Some x) same.clones at);
    ends = subst (λ (xs : List C). AllByRecursion (IsEnd (length xs)) new.letters.items) (sym same.clones) (subst (λ ls. AllByRecursion (IsEnd (length old.clones.items)) ls) (sym same.letters) held.ends);
    known = λ s. subst (λ (xs : List C). unwrap_or (slice_get new.senders s) 0 < length xs) (sym same.clones) (subst (λ (l : List ℕ). unwrap_or (slice_get l s) 0 < length old.clones.items) (sym same.senders) (held.known s));
  }

  pub same_lengthens : (first old new : World S C) (es : List Event) (said : List WorldAnswer) → IsSame old new → Lengthens hs hc first es said old → Lengthens hs hc first es said new
  same_lengthens first old new es said same so_far = record {
    each = λ start h sound run held. let k = so_far.each start h sound run held in (k.0, k.1, same_holds old new same (fused_after start k.0) k.2, k.3);
  }

  -- an event said in other words
  pub other_event : (old new : World S C) (e f : WorldEvent) (a : WorldAnswer) → e ≡ f → Steps hs hc old f a new → Steps hs hc old e a new
  other_event old new e f a is step = subst (λ (e : WorldEvent). Steps hs hc old e a new) (sym is) step

  -- an event in a world with more room is one in the world itself
  pub roomier_steps : (old mid new : World S C) (e f : WorldEvent) (a : WorldAnswer) → IsSame old mid → e ≡ f → Steps hs hc mid f a new → Steps hs hc old e a new
  roomier_steps old mid new e f a same is step = subst (λ (e : WorldEvent). Steps hs hc old e a new) (sym is) (record { each = λ w held. step.each w (same_holds old mid same w held) })

  -- one event more of a list, and its answer
  pub goes_on : (first old new : World S C) (es : List Event) (before after : List WorldAnswer) (i : ℕ) (d : Event) → i < length es → Lengthens hs hc first (take i es) before old
      → GoesOn hs hc before after old (get_or es i d) new → Lengthens hs hc first (take (i + 1) es) after new
  goes_on first old new es before after i d below so_far on =
      subst (λ (said : List WorldAnswer). Lengthens hs hc first (take (i + 1) es) said new) (sym on.said)
      (subst (λ (es : List Event). Lengthens hs hc first es (before ++ on.answer ∷ []) new) (sym (take_more es i d below))
      (lengthens_more first old new (take i es) before (get_or es i d) on.answer so_far on.steps))

  -- the headline, of a run that is lengthened
  pub runs_safely : (old new : World S C) (es : List Event) (said : List WorldAnswer) → Lengthens hs hc old es said new → RunsSafely hs hc old es said new
  runs_safely old new es said longer = record {
    each = λ n start h is_new run held.
        let k = longer.each start h (new_is_sound git start.world n is_new) run held in
        (k.0, k.1, k.2, λ one. let ran = k.3 one in (ran, safely n start k.0 is_new ran one.names));
  }

pub take_whole : {X : Type 0} (xs : List X) → take (length xs) xs ≡ xs
take_whole [] = refl
take_whole {X} (x ∷ xs) = ap (λ (ys : List X). x ∷ ys) (take_whole xs)
