-- One event of the world, from the call of the node that it comes to.
use Rattle.std.proofs.Common.{◌≡◌, ◌≢◌, ◌<◌, ℕ, zero, suc, List, ◌∷◌, Option, Some, None, inl, inr, refl, sym, ap, ◌∙◌, subst, slice_get, unwrap_or, length, set, arith, []}
use Rattle.std.specs.FinMap.{FinMap, get, insert, remove, nat_cmp-IsAntisymmetric}
use Rattle.std.specs.List.{AllByRecursion}
use Rattle.std.specs.Ordering.{nat_cmp}
use Rattle.std.specs.Cmp.{nat_cmp_total}
use Rattle.std.proofs.lemmas.Option.{slice_get_within}
use Rattle.vc_model.specs.Message.{Message, Envelope}
use Rattle.vc_model.specs.Message.Envelope.{ToShared, ToClone}
use Rattle.vc_model.specs.Node.{Answer}
use Rattle.vc_model.specs.Node.Answer.{Did}
use Rattle.vc_model.specs.Node.Reply.{Stored}
use Rattle.vc_model.specs.Safe.{EveryNodeSound}
use Rattle.vc_model.specs.Shared.{SharedNode}
use Rattle.vc_model.specs.Clone.{CloneNode}
use Rattle.vc_model.specs.World.{after_shared, after_clone, senders_after}
use Rattle.vc_model.specs.World.Party.{TheClone, TheShared}
use Rattle.vc_model.specs.Fuse.{Fuse, Fuses, Burns, with_fuse}
use Rattle.vc_model.specs.SharedCall.{SharedCall}
use Rattle.vc_model.specs.CloneCall.{CloneCall}
use Rattle.vc_model.specs.ExactWorld.{FusedWorld, WorldEvent, CallsShared, CallsClone, WorldAnswers, MayShared, SetsFuse, TogetherAt, MayClone, shared_fuse_at, clone_fuse_at}
use Rattle.vc_model.specs.ExactWorld.WorldEvent.{Stops}
use Rattle.vc_model.specs.ExactWorld.WorldAnswers.{at_shared, at_clone, stop_clone, stop_shared}
use Rattle.vc_model.proofs.Maps.{insert_same, insert_other, same_key, remove_cases, remove_other}
use Rattle.vc_wire.proofs.WireLaws.{message_wire}
use Rattle.vc_values.proofs.GitLaws.{git_rules}
use Rattle.vc_rules.specs.Git.{git}
use Rattle.vc_events.specs.Calls.{CloneCalled, Seen, SharedCalled, StopsNode}
use Rattle.vc_events.specs.declared.answers.Answer.{Answer as WorldAnswer}
use Rattle.vc_events.specs.declared.answers.Answer.TheVariants as said
use Rattle.vc_events.specs.declared.answers.Deed.TheVariants as deed
use Rattle.vc_events.specs.declared.world.World.{World}
use Rattle.vc_events.specs.Answers.{IsAnswer}
use Rattle.vc_events.specs.World.{AreLetters, HoldsAt, HoldsWorld, NoZeros}
use Rattle.vc_events.specs.Events.{IsEnd}
use Rattle.vc_events.proofs.LetterLemmas.{ArePosted}

-- ---- the writes left at a clone

with_same : (fuses : Fuses) (c : ℕ) (f : Fuse) → get (with_fuse fuses c f) c ≡ f
with_same fuses c (Some n) = insert_same nat_cmp_total nat_cmp-IsAntisymmetric fuses c n
with_same fuses c None = go (get (remove fuses c) c) refl
  where
    go : (f : Fuse) → get (remove fuses c) c ≡ f → get (remove fuses c) c ≡ None
    go (Some n) e = absurd ((remove_cases nat_cmp_total nat_cmp-IsAntisymmetric fuses c c n e).0 refl)
    go None e = e

with_other : (fuses : Fuses) (c d : ℕ) (f : Fuse) → d ≢ c → get (with_fuse fuses c f) d ≡ get fuses d
with_other fuses c d (Some n) e = insert_other nat_cmp_total nat_cmp-IsAntisymmetric fuses c n d e
with_other fuses c d None e = remove_other nat_cmp_total nat_cmp-IsAntisymmetric fuses c d e

-- ---- what is held of the clones

pub held_clone : {C : Type 0} (holds : C → CloneNode → Type 0) (x : C) (o : Option CloneNode) → HoldsAt holds (Some x) o → (n : CloneNode) × (o ≡ Some n) × holds x n
held_clone holds x (Some n) h = (n, refl, h)
held_clone holds x None h = absurd h

pub slice_get-set : {C : Type 0} (xs : List C) (c : ℕ) (y : C) → c < length xs → slice_get (set xs c y) c ≡ Some y
slice_get-set [] c y there = let f : ⊥ = omega (arith, there) in absurd f
slice_get-set (x ∷ xs) zero y there = refl
slice_get-set (x ∷ xs) (suc c) y there = slice_get-set xs c y (omega (arith, there))

pub slice_get-set_other : {C : Type 0} (xs : List C) (c d : ℕ) (y : C) → d ≢ c → slice_get (set xs c y) d ≡ slice_get xs d
slice_get-set_other [] c d y e = refl
slice_get-set_other (x ∷ xs) zero zero y e = absurd (e refl)
slice_get-set_other (x ∷ xs) zero (suc d) y e = refl
slice_get-set_other (x ∷ xs) (suc c) zero y e = refl
slice_get-set_other (x ∷ xs) (suc c) (suc d) y e = slice_get-set_other xs c d y (λ p. e (ap (λ n. suc n) p))

length-set : {C : Type 0} (xs : List C) (c : ℕ) (y : C) → length (set xs c y) ≡ length xs
length-set [] c y = refl
length-set (x ∷ xs) zero y = refl
length-set (x ∷ xs) (suc c) y = ap (λ n. suc n) (length-set xs c y)

set_clones : {C : Type 0} (holds : C → CloneNode → Type 0) (xs : List C) (ns : FinMap nat_cmp CloneNode) (c : ℕ) (y : C) (m : CloneNode) → c < length xs
    → ((d : ℕ) → HoldsAt holds (slice_get xs d) (get ns d)) → holds y m → (d : ℕ) → HoldsAt holds (slice_get (set xs c y) d) (get (insert ns c m) d)
set_clones {C} holds xs ns c y m there each held d = elim (same_key nat_cmp_total nat_cmp-IsAntisymmetric d c) [
  | inl e ↦ subst (λ (d : ℕ). HoldsAt holds (slice_get (set xs c y) d) (get (insert ns c m) d)) (sym e)
      (subst (λ (o : Option CloneNode). HoldsAt holds (slice_get (set xs c y) c) o) (sym (insert_same nat_cmp_total nat_cmp-IsAntisymmetric ns c m))
      (subst (λ (o : Option C). HoldsAt holds o (Some m)) (sym (slice_get-set xs c y there)) held))
  | inr e ↦ subst (λ (o : Option CloneNode). HoldsAt holds (slice_get (set xs c y) d) o) (sym (insert_other nat_cmp_total nat_cmp-IsAntisymmetric ns c m d e))
      (subst (λ (o : Option C). HoldsAt holds o (get ns d)) (sym (slice_get-set_other xs c d y e)) (each d))
]

-- the writes left at the clones, where this one's are these then
set_fuses : {C : Type 0} (left : C → Fuse) (xs : List C) (fuses : Fuses) (c : ℕ) (y : C) → c < length xs
    → ((d : ℕ) (x : C) → slice_get xs d ≡ Some x → get fuses d ≡ left x) → (d : ℕ) (x : C) → slice_get (set xs c y) d ≡ Some x → get (with_fuse fuses c (left y)) d ≡ left x
set_fuses {C} left xs fuses c y there each d x at = elim (same_key nat_cmp_total nat_cmp-IsAntisymmetric d c) [
  | inl e ↦
      let here : slice_get (set xs c y) c ≡ Some x = subst (λ (d : ℕ). slice_get (set xs c y) d ≡ Some x) e at in
      let is : ◌≡◌ {A = Option C} (Some y) (Some x) = sym (slice_get-set xs c y there) ∙ here in
      let same : y ≡ x = cc is in
      ap (get (with_fuse fuses c (left y))) e ∙ (with_same fuses c (left y) ∙ ap left same)
  | inr e ↦ with_other fuses c d (left y) e ∙ each d x (sym (slice_get-set_other xs c d y e) ∙ at)
]

-- the clones, where this one holds the node that it held
same_clones : {C : Type 0} (holds : C → CloneNode → Type 0) (xs : List C) (ns : FinMap nat_cmp CloneNode) (c : ℕ) (y : C) (n : CloneNode) → c < length xs
    → ((d : ℕ) → HoldsAt holds (slice_get xs d) (get ns d)) → get ns c ≡ Some n → holds y n → (d : ℕ) → HoldsAt holds (slice_get (set xs c y) d) (get ns d)
same_clones {C} holds xs ns c y n there each at held d = elim (same_key nat_cmp_total nat_cmp-IsAntisymmetric d c) [
  | inl e ↦ subst (λ (d : ℕ). HoldsAt holds (slice_get (set xs c y) d) (get ns d)) (sym e)
      (subst (λ (o : Option CloneNode). HoldsAt holds (slice_get (set xs c y) c) o) (sym at)
      (subst (λ (o : Option C). HoldsAt holds o (Some n)) (sym (slice_get-set xs c y there)) held))
  | inr e ↦ subst (λ (o : Option C). HoldsAt holds o (get ns d)) (sym (slice_get-set_other xs c d y e)) (each d)
]

module _ {S C : Type 0} (hs : Seen S SharedNode) (hc : Seen C CloneNode) (old new : World S C) (w : FusedWorld) (held : HoldsWorld hs hc old w) where
  -- from this world the event leads to one that is held
  abbrev pub StepsHere : WorldEvent → WorldAnswer → Type 0
  StepsHere e answer = (v : FusedWorld) × (a : Answer) × HoldsWorld hs hc new v × IsAnswer w answer a × (EveryNodeSound git w.world → NoZeros w.world → WorldAnswers git message_wire w e a v)

  -- what is sent is posted
  abbrev pub EndsSo : (Message → Envelope) → (Answer → Option Message → Type 0) → Type 0
  EndsSo to shows = (a : Answer) (s : Option Message) → shows a s → ArePosted (length old.clones.items) old.letters.items new.letters.items to s

  -- An event that comes to a clone as a call.
  pub clone_steps : (c : ℕ) (x y : C) (calls : CloneNode → CloneCall → Type 0) (shows : Answer → Option Message → Type 0) (e : WorldEvent) (answer : WorldAnswer)
      → slice_get old.clones.items c ≡ Some x → new.clones.items ≡ set old.clones.items c y → new.shared ≡ old.shared → new.senders ≡ old.senders
      → CloneCalled hc calls shows x y
      → EndsSo (ToShared c) shows
      → ((a : Answer) (s : Option Message) → shows a s → IsAnswer w answer a)
      → ((n : CloneNode) (i : CloneCall) → calls n i → CallsClone git message_wire w.world e c n i)
      → StepsHere e answer
  clone_steps c x y calls shows e answer at set_is shared senders called ends answers comes =
      let found = held_clone (hc.may_be w.frail) x (get w.world.clones c) (subst (λ (o : Option C). HoldsAt (hc.may_be w.frail) o (get w.world.clones c)) at (held.clones c)) in
      let n = found.0 in
      let r = called.each w.frail n found.2 in
      let m = r.0 in
      let a = r.1 in
      let s = r.2 in
      let end = ends a s r.4 in
      let count : length new.clones.items ≡ length old.clones.items = ap length set_is ∙ length-set old.clones.items c y in
      let v : FusedWorld = record { world = after_clone w.world c m s; frail = w.frail; shared_fuse = w.shared_fuse; clone_fuses = with_fuse w.clone_fuses c (hc.left y) } in (
        v,
        a,
        record {
          shared = subst (λ (x : S). hs.may_be w.frail x w.world.shared) (sym shared) held.shared;
          clones = subst (λ (xs : List C). (d : ℕ) → HoldsAt (hc.may_be w.frail) (slice_get xs d) (get (insert w.world.clones c m) d)) (sym set_is)
              (set_clones (hc.may_be w.frail) old.clones.items w.world.clones c y m (slice_get_within old.clones.items c x at) held.clones r.3);
          letters = end.each w.world.sent held.letters;
          senders = λ k. held.senders k ∙ ap (λ (l : List ℕ). unwrap_or (slice_get l k) 0) (sym senders);
          shared_fuse = held.shared_fuse ∙ ap hs.left (sym shared);
          clone_fuses = subst (λ (xs : List C). (d : ℕ) (x : C) → slice_get xs d ≡ Some x → get (with_fuse w.clone_fuses c (hc.left y)) d ≡ hc.left x) (sym set_is)
              (set_fuses hc.left old.clones.items w.clone_fuses c y (slice_get_within old.clones.items c x at) held.clone_fuses);
          ends = subst (λ n. AllByRecursion (IsEnd n) new.letters.items) (sym count) (end.ends held.ends);
          known = λ k. subst (λ n. unwrap_or (slice_get new.senders k) 0 < n) (sym count) (subst (λ (l : List ℕ). unwrap_or (slice_get l k) 0 < length old.clones.items) (sym senders) (held.known k));
        },
        answers a s r.4,
        λ sound zeros.
            let i = r.5 (sound.clones c n found.1) (zeros c n found.1) in
            at_clone c n m i.0 s (hc.left y) found.1 (comes n i.0 i.1) i.2
            (subst (λ (f : Fuse). Burns w.frail (clone_fuse_at f i.0) (MayClone git git_rules n i.0) ⊥ n.repository m.repository a (hc.left y)) (sym (held.clone_fuses c x at)) i.3)
            refl,
      )

  -- An event that comes to the shared node as a call, whose reply goes to a clone.
  pub shared_steps : (c : ℕ) (call : SharedCall) (shows : Answer → Option Message → Type 0) (e : WorldEvent) (answer : WorldAnswer)
      → new.clones.items ≡ old.clones.items
      → SharedCalled hs call shows old.shared new.shared
      → EndsSo (ToClone c) shows
      → ((a : Answer) (s : Option Message) → shows a s → IsAnswer w answer a)
      → ((a : Answer) (s : Option Message) → shows a s → (k : ℕ) → unwrap_or (get (senders_after w.world.senders c a) k) 0 ≡ unwrap_or (slice_get new.senders k) 0)
      → ((k : ℕ) → unwrap_or (slice_get new.senders k) 0 < length old.clones.items)
      → CallsShared git message_wire w.world e c call
      → StepsHere e answer
  shared_steps c call shows e answer clones called ends answers senders known calls =
      let r = called.each w.frail w.world.shared held.shared in
      let m = r.0 in
      let a = r.1 in
      let s = r.2 in
      let end = ends a s r.4 in
      let v : FusedWorld = record { world = after_shared w.world c a m s; frail = w.frail; shared_fuse = hs.left new.shared; clone_fuses = w.clone_fuses } in (
        v,
        a,
        record {
          shared = r.3;
          clones = λ d. subst (λ (xs : List C). HoldsAt (hc.may_be w.frail) (slice_get xs d) (get w.world.clones d)) (sym clones) (held.clones d);
          letters = end.each w.world.sent held.letters;
          senders = senders a s r.4;
          shared_fuse = refl;
          clone_fuses = λ d x at. held.clone_fuses d x (subst (λ (xs : List C). slice_get xs d ≡ Some x) clones at);
          ends = subst (λ (xs : List C). AllByRecursion (IsEnd (length xs)) new.letters.items) (sym clones) (end.ends held.ends);
          known = λ k. subst (λ (xs : List C). unwrap_or (slice_get new.senders k) 0 < length xs) (sym clones) (known k);
        },
        answers a s r.4,
        λ sound zeros.
            let e = r.5 sound.shared sound.bare in
            at_shared c call m s (hs.left new.shared) calls e.0
            (subst (λ (f : Fuse). Burns w.frail (shared_fuse_at f call) (MayShared git w.world.shared call) (TogetherAt w.world.shared call) w.world.shared.repository m.repository a (hs.left new.shared)) (sym held.shared_fuse) e.1)
            refl,
      )

  -- A stop is set at the shared node.
  pub shared_stop : (writes : ℕ) (answer : WorldAnswer) → new.clones.items ≡ old.clones.items → new.letters.items ≡ old.letters.items → new.senders ≡ old.senders
      → StopsNode hs writes old.shared new.shared → answer ≡ said.Did deed.Stored → StepsHere (Stops TheShared writes) answer
  shared_stop writes answer clones letters senders stops is =
      let v : FusedWorld = record { world = w.world; frail = w.frail; shared_fuse = hs.left new.shared; clone_fuses = w.clone_fuses } in (
        v,
        Did Stored,
        record {
          shared = stops.stays w.frail w.world.shared held.shared;
          clones = λ d. subst (λ (xs : List C). HoldsAt (hc.may_be w.frail) (slice_get xs d) (get w.world.clones d)) (sym clones) (held.clones d);
          letters = subst (λ ls. AreLetters ls w.world.sent) (sym letters) held.letters;
          senders = λ k. held.senders k ∙ ap (λ (l : List ℕ). unwrap_or (slice_get l k) 0) (sym senders);
          shared_fuse = refl;
          clone_fuses = λ d x at. held.clone_fuses d x (subst (λ (xs : List C). slice_get xs d ≡ Some x) clones at);
          ends = subst (λ (xs : List C). AllByRecursion (IsEnd (length xs)) new.letters.items) (sym clones) (subst (λ ls. AllByRecursion (IsEnd (length old.clones.items)) ls) (sym letters) held.ends);
          known = λ k. subst (λ (xs : List C). unwrap_or (slice_get new.senders k) 0 < length xs) (sym clones) (subst (λ (l : List ℕ). unwrap_or (slice_get l k) 0 < length old.clones.items) (sym senders) (held.known k));
        },
        subst (λ (x : WorldAnswer). IsAnswer w x (Did Stored)) (sym is) refl,
        λ sound zeros. stop_shared writes (hs.left new.shared) refl
            (subst (λ (f : Fuse). SetsFuse w.frail w.world.shared f writes (hs.left new.shared)) (sym held.shared_fuse) (stops.sets w.frail w.world.shared held.shared)) refl refl,
      )

  -- A stop is set at a clone.
  pub clone_stop : (writes c : ℕ) (x y : C) (answer : WorldAnswer) → slice_get old.clones.items c ≡ Some x → new.clones.items ≡ set old.clones.items c y
      → new.shared ≡ old.shared → new.letters.items ≡ old.letters.items → new.senders ≡ old.senders
      → StopsNode hc writes x y → answer ≡ said.Did deed.Stored → StepsHere (Stops (TheClone c) writes) answer
  clone_stop writes c x y answer at set_is shared letters senders stops is =
      let found = held_clone (hc.may_be w.frail) x (get w.world.clones c) (subst (λ (o : Option C). HoldsAt (hc.may_be w.frail) o (get w.world.clones c)) at (held.clones c)) in
      let n = found.0 in
      let there = slice_get_within old.clones.items c x at in
      let count : length new.clones.items ≡ length old.clones.items = ap length set_is ∙ length-set old.clones.items c y in
      let v : FusedWorld = record { world = w.world; frail = w.frail; shared_fuse = w.shared_fuse; clone_fuses = with_fuse w.clone_fuses c (hc.left y) } in (
        v,
        Did Stored,
        record {
          shared = subst (λ (x : S). hs.may_be w.frail x w.world.shared) (sym shared) held.shared;
          clones = subst (λ (xs : List C). (d : ℕ) → HoldsAt (hc.may_be w.frail) (slice_get xs d) (get w.world.clones d)) (sym set_is)
              (same_clones (hc.may_be w.frail) old.clones.items w.world.clones c y n there held.clones found.1 (stops.stays w.frail n found.2));
          letters = subst (λ ls. AreLetters ls w.world.sent) (sym letters) held.letters;
          senders = λ k. held.senders k ∙ ap (λ (l : List ℕ). unwrap_or (slice_get l k) 0) (sym senders);
          shared_fuse = held.shared_fuse ∙ ap hs.left (sym shared);
          clone_fuses = subst (λ (xs : List C). (d : ℕ) (x : C) → slice_get xs d ≡ Some x → get (with_fuse w.clone_fuses c (hc.left y)) d ≡ hc.left x) (sym set_is)
              (set_fuses hc.left old.clones.items w.clone_fuses c y there held.clone_fuses);
          ends = subst (λ n. AllByRecursion (IsEnd n) new.letters.items) (sym count) (subst (λ ls. AllByRecursion (IsEnd (length old.clones.items)) ls) (sym letters) held.ends);
          known = λ k. subst (λ n. unwrap_or (slice_get new.senders k) 0 < n) (sym count) (subst (λ (l : List ℕ). unwrap_or (slice_get l k) 0 < length old.clones.items) (sym senders) (held.known k));
        },
        subst (λ (x : WorldAnswer). IsAnswer w x (Did Stored)) (sym is) refl,
        λ sound zeros. stop_clone c n writes (hc.left y) refl found.1
            (subst (λ (f : Fuse). SetsFuse w.frail n f writes (hc.left y)) (sym (held.clone_fuses c x at)) (stops.sets w.frail n found.2)) refl refl,
      )
