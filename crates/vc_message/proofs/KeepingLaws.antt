-- A source whose bytes are kept: why no message is told, and what is told of known bytes.
use Rattle.std.specs.Global.{Global}
use Rattle.std.proofs.Common.{◌≡◌, ◌⊎◌, inl, inr, ℕ, ◌≤◌, Bool, true, false, if◌then◌else◌, List, [], ◌∷◌, ◌++◌, length, length-append, Option, Some, None, Result, Ok, Err, Vec, refl, sym, ap, ◌∙◌, subst, arith}
use Rattle.std.specs.Io.KnownBytes.{Consumes}
use Rattle.std.specs.Prelude.{⊤, IfErr, IfNone, IfOk, IfSome}
use Rattle.std.proofs.lemmas.Bool.{ltb-true}
use Rattle.std.proofs.lemmas.List.{append-nil, append_cancel_right}
use Rattle.vc_model.specs.Message.{Message as Sent}
use Rattle.vc_object.proofs.Texts.{agreeing}
use Rattle.vc_pkt.proofs.FaultLaws.{no_fault}
use Rattle.vc_pkt.specs.Message.{GivenBy, IsSpelledBy}
use Rattle.vc_pkt.specs.declared.fault.PktFault.{PktFault}
use Rattle.vc_pkt.specs.declared.fault.PktFault.TheVariants.{CutMessage, TooLarge}
use Rattle.vc_message.specs.AnyMessage.{any_step, beginning}
use Rattle.vc_message.proofs.AnyLaws.{any_given}
use Rattle.vc_message.proofs.IncomingFronts.{no_fault_taken, not_nothing, one_message_taken}
use Rattle.vc_message.specs.Incoming.{Fails, Takes, TakesNothing}
use Rattle.vc_message.specs.Keeping.{IsKeeping, KeepingText, KeepsGiven, KeepsMessage, KeepsNone, PassesLimit, TakesThese, is_over, kept_as, refusal}
use Rattle.vc_message.specs.Machine.{Reads}
use Rattle.vc_message.specs.Streaming.{TakesSome}
use Rattle.vc_message.specs.declared.incoming_fault.IncomingFault.{IncomingFault}
use Rattle.vc_message.specs.declared.incoming_fault.IncomingFault.TheVariants.{Failed, Memory, Unread}

-- ---- what is told of the bytes that were kept
module _ (kept : Vec ℕ Global) (limit : ℕ) where
  abbrev Told : Type 0
  Told = Result (Option (Vec ℕ Global)) IncomingFault

  module _ (old new : Option (List ℕ)) (consumed : Consumes old new kept.items) where
    abbrev IsNone : Told → Type 0
    IsNone r = IfErr r (KeepsNone limit old new)

    passes : (taken : List ℕ) × Takes any_step beginning old new taken → is_over kept.items limit ≡ true → PassesLimit limit old new
    passes part is = record { part = part; bytes = kept.items; consumed = consumed; more = ltb-true limit (length kept.items) is }

    too_large : TakesSome old new → (over : Bool) → is_over kept.items limit ≡ over → IsNone (if over then Err (Unread TooLarge) else Ok (Some kept))
    too_large some true is = inr (refl, passes (some.1.0, some.1.1) is)
    too_large some false is = tt

    stopped : Fails any_step beginning old new Failed → (over : Bool) → is_over kept.items limit ≡ over → KeepsNone limit old new (if over then Unread TooLarge else Memory)
    stopped fails true is = inr (refl, passes fails is)
    stopped fails false is = inl fails

    lost : Fails any_step beginning old new Failed → (refused : Bool) → KeepsNone limit old new (if refused then refusal kept.items limit else Failed)
    lost fails true = stopped fails (is_over kept.items limit) refl
    lost fails false = inl fails

    pub told_fault : (s : Result (Option ⊤) IncomingFault) (refused : Bool) → IfOk s (λ found. IfSome found (λ u. TakesSome old new)) → IfErr s (Fails any_step beginning old new) → IsNone (kept_as s kept limit refused)
    told_fault (Ok None) refused some fails = tt
    told_fault (Ok (Some u)) refused some fails = too_large some (is_over kept.items limit) refl
    told_fault (Err Failed) refused some fails = lost fails refused
    told_fault (Err Memory) refused some fails = inl fails
    told_fault (Err (Unread fault)) refused some fails = inl fails

-- ---- a message that was skipped by such a source
module _ {R : Type 0} (remaining : R → Option (List ℕ)) (fails : R → ℕ) (can_fail : R → Type 0) (front : Option (List ℕ)) (start : ℕ) (could : Type 0) (first last : R) (kept : Vec ℕ Global) (limit : ℕ) (refused : Bool) (from to : KeepingText R)
    (begun : from ≡ record { source = first; kept = []; failed = 0; refused = false }) (ended : last ≡ to.source) (k : IsKeeping remaining fails can_fail front start could last kept.items to.failed refused) (stands : front ≡ remaining first) where
  taken : Consumes (remaining first) (remaining last) kept.items
  taken = subst (λ (f : Option (List ℕ)). Consumes f (remaining last) kept.items) stands k.consumed

  -- what is told of the sources is told of what they read from
  through : (P : Option (List ℕ) → Option (List ℕ) → Type 0) → P (remaining from.source) (remaining to.source) → P (remaining first) (remaining last)
  through P h =
      subst (λ (f : R). P (remaining f) (remaining last)) (ap (λ (t : KeepingText R). t.source) begun) (subst (λ (t : R). P (remaining from.source) (remaining t)) (sym ended) h)

  pub fault_kept : (s : Result (Option ⊤) IncomingFault) → IfOk s (λ found. IfSome found (λ u. TakesSome (remaining from.source) (remaining to.source))) → IfErr s (Fails any_step beginning (remaining from.source) (remaining to.source))
      → IfErr (kept_as s kept limit refused) (KeepsNone limit (remaining first) (remaining last))
  fault_kept s some why =
      told_fault kept limit (remaining first) (remaining last) taken s refused (through (λ old new. IfOk s (λ found. IfSome found (λ u. TakesSome old new))) some) (through (λ old new. IfErr s (Fails any_step beginning old new)) why)

-- where the bytes of the source are known, those that were kept are the message's
pub kept_is_taken : (limit : ℕ) (before : List ℕ) (new : Option (List ℕ)) (bytes : List ℕ) → KeepsMessage limit (Some before) new bytes → TakesThese (Some before) new bytes
kept_is_taken limit before None bytes kept = absurd kept.consumed
kept_is_taken limit before (Some left) bytes kept =
    let some = kept.some in
    let same : some.1.0 ≡ bytes = append_cancel_right some.1.0 bytes left (sym some.1.1.consumed ∙ kept.consumed) in
    subst (λ (b : List ℕ). TakesThese (Some before) (Some left) b) same (some.0, some.1.1, some.1.2)

-- a message within the limit is first of what the source has
module _ (limit : ℕ) (bytes rest : List ℕ) (m : Sent) (reads : Reads bytes m) (fits : length bytes ≤ limit) where
  abbrev Whole : Option (List ℕ)
  Whole = Some (bytes ++ rest)

  given : IsSpelledBy (GivenBy any_step beginning) reads.text bytes
  given = let s = reads.spelled in (s.0, s.1, any_given reads.text s.0 s.2)

  -- no more than it was taken
  within_message : (taken left : List ℕ) → Takes any_step beginning Whole (Some left) taken → ((z : List ℕ) × (taken ≡ bytes ++ z) × (rest ≡ z ++ left)) ⊎ ((z : List ℕ) × (bytes ≡ taken ++ z) × (left ≡ z ++ rest)) → length taken ≤ length bytes
  within_message taken left takes (inl ([], e, r)) = let same = ap length (e ∙ append-nil bytes) in omega (arith, same)
  within_message taken left takes (inl (z ∷ zs, e, r)) = let g = given in absurd (no_fault any_step beginning bytes reads.text g.0 g.1 g.2 CutMessage (takes.needed bytes (z ∷ zs) e (λ n. cc n)))
  within_message taken left takes (inr (z, e, r)) = let len = ap length e ∙ length-append taken z in omega (arith, len)

  not_over : (new : Option (List ℕ)) → PassesLimit limit Whole new → ⊥
  not_over None over = absurd over.consumed
  not_over (Some left) over =
      let taken = over.part.0 in
      let takes = over.part.1 in
      let same : taken ≡ over.bytes = append_cancel_right taken over.bytes left (sym takes.consumed ∙ over.consumed) in
      let long = ap length same in
      let few = within_message taken left takes (agreeing taken bytes left rest (sym takes.consumed)) in
      let more = over.more in
      omega (arith, long, few, more, fits)

  by_fault : (new : Option (List ℕ)) (f : PktFault) → KeepsNone limit Whole new (Unread f) → ⊥
  by_fault new f (inl fault) = let g = given in no_fault_taken any_step beginning bytes rest reads.text g.0 g.1 g.2 new f fault
  by_fault new f (inr (is, over)) = not_over new over

  by_answer : (new : Option (List ℕ)) (r : Result (Option (Vec ℕ Global)) IncomingFault) → IfOk r (λ found. IfSome found (λ kept. KeepsMessage limit Whole new kept.items)) → IfOk r (λ found. IfNone found (TakesNothing Whole new))
      → IfErr r (KeepsNone limit Whole new) → KeepsGiven bytes rest new r
  by_answer new (Ok (Some kept)) message none fault =
      let g = given in
      let t = kept_is_taken limit (bytes ++ rest) new kept.items message in
      one_message_taken any_step beginning bytes rest reads.text g.0 g.1 g.2 new kept.items t.0 t.1 t.2
  by_answer new (Ok None) message none fault = let g = given in not_nothing any_step beginning bytes rest reads.text g.0 g.1 g.2 new none
  by_answer new (Err (Unread f)) message none fault = by_fault new f fault
  by_answer new (Err Failed) message none fault = tt
  by_answer new (Err Memory) message none fault = tt

  pub known_kept : (old new : Option (List ℕ)) (r : Result (Option (Vec ℕ Global)) IncomingFault) → old ≡ Whole → IfOk r (λ found. IfSome found (λ kept. KeepsMessage limit old new kept.items)) → IfOk r (λ found. IfNone found (TakesNothing old new))
      → IfErr r (KeepsNone limit old new) → KeepsGiven bytes rest new r
  known_kept old new r is message none fault =
      by_answer new r (subst (λ (o : Option (List ℕ)). IfOk r (λ found. IfSome found (λ kept. KeepsMessage limit o new kept.items))) is message) (subst (λ (o : Option (List ℕ)). IfOk r (λ found. IfNone found (TakesNothing o new))) is none)
      (subst (λ (o : Option (List ℕ)). IfErr r (KeepsNone limit o new)) is fault)
