-- Each event of the world, from what a node's call says and what is posted.
use Rattle.std.proofs.Common.{◌≡◌, ◌<◌, ◌≤◌, ℕ, Bool, true, false, List, Option, Some, None, Result, Ok, Err, Global, Vec, inl, inr, refl, sym, ap, ◌∙◌, subst, cond, nat_lt, slice_get, unwrap_or, length, get_or, set, arith, if◌then◌else◌}
use Rattle.std.specs.FinMap.{FinMap, get, insert, nat_cmp-IsAntisymmetric}
use Rattle.std.specs.Ordering.{nat_cmp}
use Rattle.std.specs.Cmp.{nat_cmp_total}
use Rattle.std.proofs.lemmas.Option.{slice_get_past, slice_get_read}
use Rattle.vc_message.proofs.Readings.{every_reading}
use Rattle.vc_wire.proofs.WireLaws.{message_wire}
use Rattle.vc_message.specs.Machine.{IsUnread, IsWritten, Reads}
use Rattle.vc_model.specs.Message.{Message, Envelope}
use Rattle.vc_model.specs.Message.Envelope.{ToShared, ToClone}
use Rattle.vc_model.specs.Node.{Answer}
use Rattle.vc_model.specs.Node.Answer.{Did, Declined}
use Rattle.vc_model.specs.Shared.{SharedNode}
use Rattle.vc_model.specs.SharedCall.{SharedCall}
use Rattle.vc_model.specs.SharedCall.SharedCall.{Accept, Asks as AsksShared}
use Rattle.vc_model.specs.Clone.{CloneNode}
use Rattle.vc_model.specs.CloneCall.{CloneCall}
use Rattle.vc_model.specs.CloneCall.CloneCall.{Asks, Receive}
use Rattle.vc_model.specs.Question.Question.{Unread}
use Rattle.vc_model.specs.World.{senders_after}
use Rattle.vc_model.specs.ExactWorld.{FusedWorld, WorldEvent, CallsClone, CallsShared}
use Rattle.vc_model.specs.ExactWorld.Letter.{FromClone, FromShared}
use Rattle.vc_model.specs.ExactWorld.WorldEvent.{Delivers, Forges, Stops}
use Rattle.vc_model.specs.World.Party.{TheClone, TheShared}
use Rattle.vc_model.specs.ExactWorld.WorldAnswers.{no_message}
use Rattle.vc_model.proofs.Maps.{insert_same, insert_other, same_key}
use Rattle.vc_rules.specs.Git.{git}
use Rattle.vc_events.specs.declared.answers.Answer.{Answer as WorldAnswer}
use Rattle.vc_events.specs.declared.answers.Answer.TheVariants as world
use Rattle.vc_events.specs.declared.answers.Deed.{Deed}
use Rattle.vc_events.specs.declared.answers.Deed.TheVariants as deed
use Rattle.vc_events.specs.declared.answers.Ended.{Ended}
use Rattle.vc_events.specs.declared.answers.Ended.TheVariants as ended
use Rattle.vc_events.specs.declared.answers.Told.{Told}
use Rattle.vc_events.specs.declared.answers.Told.TheVariants as told
use Rattle.vc_events.specs.declared.letters.Letter.{Letter}
use Rattle.vc_events.specs.declared.letters.Letter.TheVariants as mail
use Rattle.vc_events.specs.declared.world.World.{World}
use Rattle.vc_events.specs.Answers.{IsAnswer, IsOfSlots, Shows, answer_of, of_end, reply_of}
use Rattle.vc_events.specs.Calls.{CloneCalled, IsOnly, Seen, SharedCalled, StopsNode}
use Rattle.vc_events.specs.Posting.{PostsTold, senders_done, senders_told, to_clone, to_shared}
use Rattle.vc_events.specs.World.{HoldsWorld, IsLetter, Steps}
use Rattle.vc_events.proofs.LetterLemmas.{none_posted, one_posted, letter_at, no_letter, letters_count, end_at}
use Rattle.vc_events.proofs.StepLemmas.{StepsHere, EndsSo, clone_steps, clone_stop, shared_steps, shared_stop, slice_get-set, slice_get-set_other}

-- ---- what stands in a list

pub found_at : {X : Type 0} (xs ys : List X) (k : ℕ) (x y : X) → nat_lt k (length ys) ≡ true → x ≡ get_or ys k x → ys ≡ xs → x ≡ y → slice_get xs k ≡ Some y
found_at {X} xs ys k x y below is same named =
    subst (λ (xs : List X). slice_get xs k ≡ Some y) same (subst (λ (z : X). slice_get ys k ≡ Some z) named (slice_get_read ys (length ys) k x refl (grind (arith, below)) is))

pub none_at : {X : Type 0} (xs ys : List X) (k : ℕ) → nat_lt k (length ys) ≡ false → ys ≡ xs → slice_get xs k ≡ None
none_at {X} xs ys k past same = subst (λ (xs : List X). slice_get xs k ≡ None) same (slice_get_past ys k (grind (arith, past)))

-- ---- answers

end_said : (w : FusedWorld) (e : Ended) (a : Answer) → a ≡ answer_of e → IsAnswer w (of_end e) a
end_said w (ended.Refused n) a is = is
end_said w (ended.Fault f) a is = is

-- ---- the senders, where the push in slot k is clone c's

slots_set : (senders : List ℕ) (m : FinMap nat_cmp ℕ) (c k : ℕ) → k < length senders → ((j : ℕ) → unwrap_or (get m j) 0 ≡ unwrap_or (slice_get senders j) 0) → (j : ℕ)
    → unwrap_or (get (insert m k c) j) 0 ≡ unwrap_or (slice_get (set senders k c) j) 0
slots_set senders m c k below each j = elim (same_key nat_cmp_total nat_cmp-IsAntisymmetric j k) [
  | inl e ↦ subst (λ (j : ℕ). unwrap_or (get (insert m k c) j) 0 ≡ unwrap_or (slice_get (set senders k c) j) 0) (sym e)
      (ap (λ (o : Option ℕ). unwrap_or o 0) (insert_same nat_cmp_total nat_cmp-IsAntisymmetric m k c) ∙ ap (λ (o : Option ℕ). unwrap_or o 0) (sym (slice_get-set senders k c below)))
  | inr e ↦ ap (λ (o : Option ℕ). unwrap_or o 0) (insert_other nat_cmp_total nat_cmp-IsAntisymmetric m k c j e)
      ∙ (each j ∙ ap (λ (o : Option ℕ). unwrap_or o 0) (sym (slice_get-set_other senders k j c e)))
]

slots_known : (senders : List ℕ) (c k n : ℕ) → k < length senders → c < n → ((j : ℕ) → unwrap_or (slice_get senders j) 0 < n) → (j : ℕ) → unwrap_or (slice_get (set senders k c) j) 0 < n
slots_known senders c k n below there each j = elim (same_key nat_cmp_total nat_cmp-IsAntisymmetric j k) [
  | inl e ↦ subst (λ (j : ℕ). unwrap_or (slice_get (set senders k c) j) 0 < n) (sym e) (subst (λ (o : Option ℕ). unwrap_or o 0 < n) (sym (slice_get-set senders k c below)) there)
  | inr e ↦ subst (λ (o : Option ℕ). unwrap_or o 0 < n) (sym (slice_get-set_other senders k j c e)) (each j)
]

below_true : (k : ℕ) → k < 8 → nat_lt k 8 ≡ true
below_true k h = grind (arith, h)

-- the machine's senders are the world's after a deed
deed_senders : (senders : List ℕ) (m : FinMap nat_cmp ℕ) (c : ℕ) (d : Deed) → length senders ≡ 8 → IsOfSlots d → ((j : ℕ) → unwrap_or (get m j) 0 ≡ unwrap_or (slice_get senders j) 0) → (j : ℕ)
    → unwrap_or (get (senders_after m c (Did (reply_of d))) j) 0 ≡ unwrap_or (slice_get (senders_done c d senders) j) 0
deed_senders senders m c deed.Stored eight below each j = each j
deed_senders senders m c (deed.Made id) eight below each j = each j
deed_senders senders m c deed.Same eight below each j = each j
deed_senders senders m c deed.Differs eight below each j = each j
deed_senders senders m c (deed.Opened k) eight below each j =
    slots_set senders m c k (subst (λ n. k < n) (sym eight) below) each j
    ∙ ap (λ (b : Bool). unwrap_or (slice_get (cond b (set senders k c) senders) j) 0) (sym (below_true k below))
deed_senders senders m c (deed.Passed n) eight below each j = each j
deed_senders senders m c deed.Migrated eight below each j = each j
deed_senders senders m c (deed.Updated name found) eight below each j = each j
deed_senders senders m c (deed.Atomic n) eight below each j = each j
deed_senders senders m c (deed.AtomicRefused name reason) eight below each j = each j
deed_senders senders m c (deed.Moved moved left) eight below each j = each j
deed_senders senders m c (deed.Reported moved refused) eight below each j = each j
deed_senders senders m c (deed.Removed n) eight below each j = each j

-- what they name is one of the clones
deed_known : (senders : List ℕ) (c n : ℕ) (d : Deed) → length senders ≡ 8 → c < n → ((j : ℕ) → unwrap_or (slice_get senders j) 0 < n) → (j : ℕ) → unwrap_or (slice_get (senders_done c d senders) j) 0 < n
deed_known senders c n deed.Stored eight there each j = each j
deed_known senders c n (deed.Made id) eight there each j = each j
deed_known senders c n deed.Same eight there each j = each j
deed_known senders c n deed.Differs eight there each j = each j
deed_known senders c n (deed.Opened k) eight there each j = either (nat_lt k 8) refl
  where
    either : (b : Bool) → nat_lt k 8 ≡ b → unwrap_or (slice_get (if b then set senders k c else senders) j) 0 < n
    either true h = slots_known senders c k n (subst (λ n. k < n) (sym eight) (grind (arith, h))) there each j
    either false h = each j
deed_known senders c n (deed.Passed m) eight there each j = each j
deed_known senders c n deed.Migrated eight there each j = each j
deed_known senders c n (deed.Updated name found) eight there each j = each j
deed_known senders c n (deed.Atomic m) eight there each j = each j
deed_known senders c n (deed.AtomicRefused name reason) eight there each j = each j
deed_known senders c n (deed.Moved moved left) eight there each j = each j
deed_known senders c n (deed.Reported moved refused) eight there each j = each j
deed_known senders c n (deed.Removed m) eight there each j = each j

end_senders : (m : FinMap nat_cmp ℕ) (c : ℕ) (e : Ended) → senders_after m c (answer_of e) ≡ m
end_senders m c (ended.Refused n) = refl
end_senders m c (ended.Fault f) = refl

module _ {S C : Type 0} (hs : Seen S SharedNode) (hc : Seen C CloneNode) (old new : World S C) where
  -- ---- a clone's call

  clone_ends : (w : FusedWorld) (held : HoldsWorld hs hc old w) (c : ℕ) (called : Result Told Ended) (answer : WorldAnswer) → c < length old.clones.items
      → PostsTold (to_shared c) called old.letters.items new.letters.items answer → EndsSo hs hc old new w held (ToShared c) (Shows called)
  clone_ends w held c (Ok (told.Did d)) answer there posts a s q = none_posted _ _ _ (ToShared c) s posts.letters q.1.sent
  clone_ends w held c (Ok (told.Sends bytes)) answer there posts a s q =
      one_posted _ _ _ (ToShared c) s (mail.ToShared c bytes) q.message posts.letters q.sent (refl, q.written) there
  clone_ends w held c (Err e) answer there posts a s q = none_posted _ _ _ (ToShared c) s posts.letters q.sent

  said : (w : FusedWorld) → HoldsWorld hs hc old w → (to : Vec ℕ Global → Letter) (called : Result Told Ended) (answer : WorldAnswer)
      → PostsTold to called old.letters.items new.letters.items answer → (a : Answer) (s : Option Message) → Shows called a s → IsAnswer w answer a
  said w held to (Ok (told.Did d)) answer posts a s q = subst (λ (x : WorldAnswer). IsAnswer w x a) (sym posts.answer) q.1.answer
  said w held to (Ok (told.Sends bytes)) answer posts a s q =
      subst (λ (x : WorldAnswer). IsAnswer w x a) (sym posts.answer) (q.answer, letters_count old.letters.items w.world.sent held.letters)
  said w held to (Err e) answer posts a s q = subst (λ (x : WorldAnswer). IsAnswer w x a) (sym posts.answer) (end_said w e a q.answer)

  -- an event that comes to a clone as one of these calls
  clone_here : (w : FusedWorld) (held : HoldsWorld hs hc old w) (c : ℕ) (x y : C) (calls : CloneNode → CloneCall → Type 0) (called : Result Told Ended) (e : WorldEvent) (answer : WorldAnswer)
      → slice_get old.clones.items c ≡ Some x → new.clones.items ≡ set old.clones.items c y → new.shared ≡ old.shared → new.senders ≡ old.senders → c < length old.clones.items
      → CloneCalled hc calls (Shows called) x y → PostsTold (to_shared c) called old.letters.items new.letters.items answer
      → ((n : CloneNode) (i : CloneCall) → calls n i → CallsClone git message_wire w.world e c n i) → StepsHere hs hc old new w held e answer
  clone_here w held c x y calls called e answer at set_is shared senders there call posts comes =
      clone_steps hs hc old new w held c x y calls (Shows called) e answer at set_is shared senders call (clone_ends w held c called answer there posts)
      (said w held (to_shared c) called answer posts) comes

  pub clone_event : (c : ℕ) (x y : C) (calls : CloneNode → CloneCall → Type 0) (called : Result Told Ended) (e : WorldEvent) (answer : WorldAnswer)
      → slice_get old.clones.items c ≡ Some x → new.clones.items ≡ set old.clones.items c y → new.shared ≡ old.shared → new.senders ≡ old.senders → c < length old.clones.items
      → CloneCalled hc calls (Shows called) x y → PostsTold (to_shared c) called old.letters.items new.letters.items answer
      → ((w : FusedWorld) (n : CloneNode) (i : CloneCall) → calls n i → CallsClone git message_wire w.world e c n i) → Steps hs hc old e answer new
  clone_event c x y calls called e answer at set_is shared senders there call posts comes = record {
    each = λ w held. clone_here w held c x y calls called e answer at set_is shared senders there call posts (comes w);
  }

  -- ---- a call of the shared node

  shared_ends : (w : FusedWorld) (held : HoldsWorld hs hc old w) (c : ℕ) (called : Result Told Ended) (answer : WorldAnswer) → c < length old.clones.items
      → PostsTold (to_clone c) called old.letters.items new.letters.items answer → EndsSo hs hc old new w held (ToClone c) (Shows called)
  shared_ends w held c (Ok (told.Did d)) answer there posts a s q = none_posted _ _ _ (ToClone c) s posts.letters q.1.sent
  shared_ends w held c (Ok (told.Sends bytes)) answer there posts a s q =
      one_posted _ _ _ (ToClone c) s (mail.ToClone c bytes) q.message posts.letters q.sent (refl, q.written) there
  shared_ends w held c (Err e) answer there posts a s q = none_posted _ _ _ (ToClone c) s posts.letters q.sent

  shared_senders : (w : FusedWorld) → HoldsWorld hs hc old w → (c : ℕ) (called : Result Told Ended) → length old.senders ≡ 8 → new.senders ≡ senders_told c called old.senders
      → (a : Answer) (s : Option Message) → Shows called a s → (k : ℕ) → unwrap_or (get (senders_after w.world.senders c a) k) 0 ≡ unwrap_or (slice_get new.senders k) 0
  shared_senders w held c (Ok (told.Did d)) eight is a s q k =
      ap (λ (a : Answer). unwrap_or (get (senders_after w.world.senders c a) k) 0) q.1.answer
      ∙ (deed_senders old.senders w.world.senders c d eight q.0 held.senders k ∙ ap (λ (l : List ℕ). unwrap_or (slice_get l k) 0) (sym is))
  shared_senders w held c (Ok (told.Sends bytes)) eight is a s q k =
      ap (λ (a : Answer). unwrap_or (get (senders_after w.world.senders c a) k) 0) q.answer ∙ (held.senders k ∙ ap (λ (l : List ℕ). unwrap_or (slice_get l k) 0) (sym is))
  shared_senders w held c (Err e) eight is a s q k =
      ap (λ (a : Answer). unwrap_or (get (senders_after w.world.senders c a) k) 0) q.answer
      ∙ (ap (λ (m : FinMap nat_cmp ℕ). unwrap_or (get m k) 0) (end_senders w.world.senders c e) ∙ (held.senders k ∙ ap (λ (l : List ℕ). unwrap_or (slice_get l k) 0) (sym is)))

  shared_known : (w : FusedWorld) → HoldsWorld hs hc old w → (c : ℕ) (called : Result Told Ended) → length old.senders ≡ 8 → c < length old.clones.items → new.senders ≡ senders_told c called old.senders
      → (k : ℕ) → unwrap_or (slice_get new.senders k) 0 < length old.clones.items
  shared_known w held c (Ok (told.Did d)) eight there is k =
      subst (λ (l : List ℕ). unwrap_or (slice_get l k) 0 < length old.clones.items) (sym is) (deed_known old.senders c (length old.clones.items) d eight there held.known k)
  shared_known w held c (Ok (told.Sends bytes)) eight there is k = subst (λ (l : List ℕ). unwrap_or (slice_get l k) 0 < length old.clones.items) (sym is) (held.known k)
  shared_known w held c (Err e) eight there is k = subst (λ (l : List ℕ). unwrap_or (slice_get l k) 0 < length old.clones.items) (sym is) (held.known k)

  -- an event that comes to the shared node as this call, whose reply goes to clone c
  shared_here : (w : FusedWorld) (held : HoldsWorld hs hc old w) (c : ℕ) (call : SharedCall) (called : Result Told Ended) (e : WorldEvent) (answer : WorldAnswer)
      → new.clones.items ≡ old.clones.items → length old.senders ≡ 8 → c < length old.clones.items
      → SharedCalled hs call (Shows called) old.shared new.shared
      → PostsTold (to_clone c) called old.letters.items new.letters.items answer → new.senders ≡ senders_told c called old.senders
      → CallsShared git message_wire w.world e c call → StepsHere hs hc old new w held e answer
  shared_here w held c call called e answer clones eight there calls posts senders comes =
      shared_steps hs hc old new w held c call (Shows called) e answer clones calls (shared_ends w held c called answer there posts)
      (said w held (to_clone c) called answer posts) (shared_senders w held c called eight senders) (shared_known w held c called eight there senders) comes

  -- a step of a push, whose report goes to the clone that it came from
  pub slot_event : (k c : ℕ) (call : SharedCall) (called : Result Told Ended) (e : WorldEvent) (answer : WorldAnswer)
      → new.clones.items ≡ old.clones.items → length old.senders ≡ 8 → c ≡ unwrap_or (slice_get old.senders k) 0
      → SharedCalled hs call (Shows called) old.shared new.shared
      → PostsTold (to_clone c) called old.letters.items new.letters.items answer → new.senders ≡ senders_told c called old.senders
      → ((w : FusedWorld) → c ≡ unwrap_or (get w.world.senders k) 0 → CallsShared git message_wire w.world e c call) → Steps hs hc old e answer new
  slot_event k c call called e answer clones eight is calls posts senders comes = record {
    each = λ w held. shared_here w held c call called e answer clones eight (subst (λ n. n < length old.clones.items) (sym is) (held.known k)) calls posts senders (comes w (is ∙ sym (held.senders k)));
  }

  -- an event of the shared node that sends nothing to anyone; where it would, it is clone 0, of which there is one in every world
  pub shared_event : (call : SharedCall) (called : Result Told Ended) (e : WorldEvent) (answer : WorldAnswer)
      → new.clones.items ≡ old.clones.items → length old.senders ≡ 8
      → SharedCalled hs call (Shows called) old.shared new.shared
      → PostsTold (to_clone 0) called old.letters.items new.letters.items answer → new.senders ≡ senders_told 0 called old.senders
      → ((w : FusedWorld) → CallsShared git message_wire w.world e 0 call) → Steps hs hc old e answer new
  shared_event call called e answer clones eight calls posts senders comes = record {
    each = λ w held. shared_here w held 0 call called e answer clones eight (let some = held.known 0 in omega (arith, some)) calls posts senders (comes w);
  }

  -- ---- deliveries

  shared_letter : (k from : ℕ) (bytes : Vec ℕ Global) (w : FusedWorld) → HoldsWorld hs hc old w → slice_get old.letters.items k ≡ Some (mail.ToShared from bytes)
      → (m : Message) × (slice_get w.world.sent k ≡ Some (ToShared from m)) × IsWritten m bytes.items
  shared_letter k from bytes w held is = let e = letter_at old.letters.items w.world.sent k (mail.ToShared from bytes) held.letters is in go e.0 e.1 e.2
    where
      go : (e : Envelope) → slice_get w.world.sent k ≡ Some e → IsLetter (mail.ToShared from bytes) e → (m : Message) × (slice_get w.world.sent k ≡ Some (ToShared from m)) × IsWritten m bytes.items
      go (ToShared d m) at l = (m, at ∙ ap (λ (d : ℕ). Some (ToShared d m)) l.0, l.1)
      go (ToClone d m) at l = absurd l

  clone_letter : (k to : ℕ) (bytes : Vec ℕ Global) (w : FusedWorld) → HoldsWorld hs hc old w → slice_get old.letters.items k ≡ Some (mail.ToClone to bytes)
      → (m : Message) × (slice_get w.world.sent k ≡ Some (ToClone to m)) × IsWritten m bytes.items
  clone_letter k to bytes w held is = let e = letter_at old.letters.items w.world.sent k (mail.ToClone to bytes) held.letters is in go e.0 e.1 e.2
    where
      go : (e : Envelope) → slice_get w.world.sent k ≡ Some e → IsLetter (mail.ToClone to bytes) e → (m : Message) × (slice_get w.world.sent k ≡ Some (ToClone to m)) × IsWritten m bytes.items
      go (ToClone d m) at l = (m, at ∙ ap (λ (d : ℕ). Some (ToClone d m)) l.0, l.1)
      go (ToShared d m) at l = absurd l

  -- no message has the number
  pub nothing_steps : (k : ℕ) (answer : WorldAnswer) → slice_get old.letters.items k ≡ None → answer ≡ world.Refused 113 → new ≡ old → Steps hs hc old (Delivers k) answer new
  nothing_steps k answer none is same = record {
    each = λ w held. (
      w,
      Declined 113,
      subst (λ (v : World S C). HoldsWorld hs hc v w) (sym same) held,
      subst (λ (x : WorldAnswer). IsAnswer w x (Declined 113)) (sym is) refl,
      λ sound zeros. no_message k refl (no_letter old.letters.items w.world.sent k held.letters none) refl refl,
    );
  }

  -- a message to a clone that is none of the world's was never sent
  pub nobody_steps : (k to : ℕ) (bytes : Vec ℕ Global) (answer : WorldAnswer) → slice_get old.letters.items k ≡ Some (mail.ToClone to bytes) → length old.clones.items ≤ to → Steps hs hc old (Delivers k) answer new
  nobody_steps k to bytes answer at past = record {
    each = λ w held. let there : to < length old.clones.items = end_at (length old.clones.items) old.letters.items k (mail.ToClone to bytes) held.ends at in let f : ⊥ = omega (arith, there, past) in absurd f;
  }

  pub receive_steps : (k to : ℕ) (bytes : Vec ℕ Global) (x y : C) (called : Result Told Ended) (answer : WorldAnswer)
      → slice_get old.letters.items k ≡ Some (mail.ToClone to bytes)
      → slice_get old.clones.items to ≡ Some x → new.clones.items ≡ set old.clones.items to y → new.shared ≡ old.shared → new.senders ≡ old.senders → to < length old.clones.items
      → ((m : Message) → Reads bytes.items m → CloneCalled hc (IsOnly (Receive m)) (Shows called) x y)
      → PostsTold (to_shared to) called old.letters.items new.letters.items answer → Steps hs hc old (Delivers k) answer new
  receive_steps k to bytes x y called answer letter at set_is shared senders there call posts = record {
    each = λ w held.
        let m = clone_letter k to bytes w held letter in
        clone_here w held to x y (IsOnly (Receive m.0)) called (Delivers k) answer at set_is shared senders there (call m.0 m.2.reads) posts (λ n i is. (m.0, m.1, is));
  }

  pub accept_steps : (k from : ℕ) (bytes : Vec ℕ Global) (called : Result Told Ended) (answer : WorldAnswer)
      → slice_get old.letters.items k ≡ Some (mail.ToShared from bytes) → new.clones.items ≡ old.clones.items → length old.senders ≡ 8
      → ((m : Message) → Reads bytes.items m → SharedCalled hs (Accept m) (Shows called) old.shared new.shared)
      → PostsTold (to_clone from) called old.letters.items new.letters.items answer → new.senders ≡ senders_told from called old.senders → Steps hs hc old (Delivers k) answer new
  accept_steps k from bytes called answer letter clones eight call posts senders = record {
    each = λ w held.
        let m = shared_letter k from bytes w held letter in
        let there : from < length old.clones.items = end_at (length old.clones.items) old.letters.items k (mail.ToShared from bytes) held.ends letter in
        shared_here w held from (Accept m.0) called (Delivers k) answer clones eight there (call m.0 m.2.reads) posts senders (m.0, m.1, refl);
  }

  -- ---- stops

  pub stop_at_shared : (writes : ℕ) (answer : WorldAnswer) → new.clones.items ≡ old.clones.items → new.letters.items ≡ old.letters.items → new.senders ≡ old.senders
      → StopsNode hs writes old.shared new.shared → answer ≡ world.Did deed.Stored → Steps hs hc old (Stops TheShared writes) answer new
  stop_at_shared writes answer clones letters senders stops is = record { each = λ w held. shared_stop hs hc old new w held writes answer clones letters senders stops is }

  pub stop_at_clone : (writes c : ℕ) (x y : C) (answer : WorldAnswer) → slice_get old.clones.items c ≡ Some x → new.clones.items ≡ set old.clones.items c y
      → new.shared ≡ old.shared → new.letters.items ≡ old.letters.items → new.senders ≡ old.senders
      → StopsNode hc writes x y → answer ≡ world.Did deed.Stored → Steps hs hc old (Stops (TheClone c) writes) answer new
  stop_at_clone writes c x y answer at set_is shared letters senders stops is = record { each = λ w held. clone_stop hs hc old new w held writes c x y answer at set_is shared letters senders stops is }

  -- ---- forged bytes: they are a message or have a first fault

  pub forged_to_shared : (from : ℕ) (bytes : List ℕ) (called : Result Told Ended) (answer : WorldAnswer)
      → new.clones.items ≡ old.clones.items → length old.senders ≡ 8 → from < length old.clones.items
      → ((m : Message) → Reads bytes m → SharedCalled hs (Accept m) (Shows called) old.shared new.shared)
      → ((k : ℕ) → IsUnread bytes k → SharedCalled hs (AsksShared (Unread k)) (Shows called) old.shared new.shared)
      → PostsTold (to_clone from) called old.letters.items new.letters.items answer → new.senders ≡ senders_told from called old.senders → Steps hs hc old (Forges (FromClone from bytes)) answer new
  forged_to_shared from bytes called answer clones eight there read unread posts senders = record {
    each = λ w held. elim (every_reading bytes) [
      | inl m ↦ shared_here w held from (Accept m.0) called (Forges (FromClone from bytes)) answer clones eight there (read m.0 m.1) posts senders (refl, inl (m.0, m.1, refl))
      | inr k ↦ shared_here w held from (AsksShared (Unread k.0)) called (Forges (FromClone from bytes)) answer clones eight there (unread k.0 k.1) posts senders (refl, inr (k.0, k.1, refl))
    ];
  }

  pub forged_to_clone : (to : ℕ) (bytes : List ℕ) (x y : C) (called : Result Told Ended) (answer : WorldAnswer)
      → slice_get old.clones.items to ≡ Some x → new.clones.items ≡ set old.clones.items to y → new.shared ≡ old.shared → new.senders ≡ old.senders → to < length old.clones.items
      → ((m : Message) → Reads bytes m → CloneCalled hc (IsOnly (Receive m)) (Shows called) x y)
      → ((k : ℕ) → IsUnread bytes k → CloneCalled hc (IsOnly (Asks (Unread k))) (Shows called) x y)
      → PostsTold (to_shared to) called old.letters.items new.letters.items answer → Steps hs hc old (Forges (FromShared to bytes)) answer new
  forged_to_clone to bytes x y called answer at set_is shared senders there read unread posts = record {
    each = λ w held. elim (every_reading bytes) [
      | inl m ↦ clone_here w held to x y (IsOnly (Receive m.0)) called (Forges (FromShared to bytes)) answer at set_is shared senders there (read m.0 m.1) posts (λ n i is. (refl, inl (m.0, m.1, is)))
      | inr k ↦ clone_here w held to x y (IsOnly (Asks (Unread k.0))) called (Forges (FromShared to bytes)) answer at set_is shared senders there (unread k.0 k.1) posts (λ n i is. (refl, inr (k.0, k.1, is)))
    ];
  }
