-- Reads of a source, one after another: what was taken of its bytes, and how often it failed.
use Rattle.std.proofs.Common.{◌≡◌, inl, inr, ℕ, List, Some, None, Result, Ok, Err, refl, sym, ap, ◌∙◌}
use Rattle.std.specs.Io.KnownBytes.{Consumes, Keeps}
use Rattle.std.specs.Prelude.{IsErrOf, Option}
use Rattle.vc_pkt.specs.declared.fault.PktError.{PktError}
use Rattle.vc_pkt.specs.declared.fault.PktError.TheVariants as errors
use Rattle.vc_pkt.specs.declared.fault.PktFault.{PktFault}
use Rattle.vc_message.specs.IncomingFault.{of_pkt}
use Rattle.vc_message.specs.Source.{TellsFailures, TellsLoss, one_more}
use Rattle.vc_message.specs.declared.incoming_fault.IncomingFault.{IncomingFault}
use Rattle.vc_message.specs.declared.incoming_fault.IncomingFault.TheVariants.{Failed, Memory, Unread}

-- a read after some that gave nothing
pub kept_consumes : (a b c : Option (List ℕ)) (bytes : List ℕ) → Keeps a b → Consumes b c bytes → Consumes a c bytes
kept_consumes None b c bytes kept read = tt
kept_consumes (Some x) None c bytes kept read = absurd kept
kept_consumes (Some x) (Some y) None bytes kept read = absurd read
kept_consumes (Some x) (Some y) (Some z) bytes kept read = sym kept ∙ read

-- a value is no error, and one error is no other
pub ok_is_no_error : {T E : Type 0} {x : T} {e : E} → ◌≡◌ {A = Result T E} (Ok x) (Err e) → ⊥
ok_is_no_error is = cc is

pub same_error : {T E : Type 0} {e f : E} → ◌≡◌ {A = Result T E} (Err e) (Err f) → e ≡ f
same_error is = cc is

-- want of memory, and bytes that are no message, are no failure of the source
pub memory_is_no_failure : {T : Type 0} → ◌≡◌ {A = Result T IncomingFault} (Err Memory) (Err Failed) → ⊥
memory_is_no_failure is = cc is

pub unread_is_no_failure : {T : Type 0} {fault : PktFault} → ◌≡◌ {A = Result T IncomingFault} (Err (Unread fault)) (Err Failed) → ⊥
unread_is_no_failure is = cc is

pub refusal_is_no_failure : {T : Type 0} (e : PktError) → ◌≡◌ {A = Result T IncomingFault} (Err (of_pkt e)) (Err Failed) → ⊥
refusal_is_no_failure errors.Memory is = cc is
refusal_is_no_failure (errors.Refused fault) is = cc is

module _ {S : Type 0} {failed : S → ℕ} {can_fail : S → Type 0} where
  -- nothing was read
  pub tells_none : {source : S} {P : Type 0} → (P → ⊥) → TellsFailures failed can_fail source source P
  tells_none never = record { once = λ told. absurd (never told); none = λ n. refl; could = λ told. absurd (never told); calm = λ can. can }

  -- a call in which nothing failed, and then another
  pub tells_then : {old mid new : S} {P Q : Type 0} → TellsFailures failed can_fail old mid P → (P → ⊥) → TellsFailures failed can_fail mid new Q → TellsFailures failed can_fail old new Q
  tells_then first never next = record {
    once = λ told. next.once told ∙ ap one_more (first.none never);
    none = λ not. next.none not ∙ first.none never;
    could = λ told. first.calm (next.could told);
    calm = λ can. first.calm (next.calm can);
  }

  -- the same call, with its end told in other words
  pub tells_as : {old new : S} {P Q : Type 0} → TellsFailures failed can_fail old new P → (P → Q) → (Q → P) → TellsFailures failed can_fail old new Q
  tells_as call to from = record {
    once = λ told. call.once (from told);
    none = λ not. call.none (λ told. not (to told));
    could = λ told. call.could (from told);
    calm = call.calm;
  }

  -- the call answers by no failure, and so nothing failed
  pub tells_not : {old new : S} {P Q : Type 0} → TellsFailures failed can_fail old new P → (P → ⊥) → (Q → ⊥) → TellsFailures failed can_fail old new Q
  tells_not call never other = tells_as call (λ told. absurd (never told)) (λ told. absurd (other told))

  -- nothing failed, and the call gives a value
  pub tells_ok : {old new : S} {P T E : Type 0} {x : T} {e : E} → TellsFailures failed can_fail old new P → (P → ⊥) → TellsFailures failed can_fail old new (IsErrOf {T = T} {E = E} (Ok x) e)
  tells_ok call never = tells_not call never ok_is_no_error

  -- the call answers by an error, which the one before gave
  pub tells_error : {old new : S} {T U E G : Type 0} {e lost : E} {f gone : G} → TellsFailures failed can_fail old new (IsErrOf {T = T} {E = E} (Err e) lost) → (e ≡ lost → f ≡ gone) → (f ≡ gone → e ≡ lost)
      → TellsFailures failed can_fail old new (IsErrOf {T = U} {E = G} (Err f) gone)
  tells_error call to from = tells_as call (λ told. ap Err (to (same_error told))) (λ told. ap Err (from (same_error told)))

  -- ---- a node that may fail by itself, too
  -- the same call, with its end told in other words
  pub loss_as : {old new : S} {P Q R U : Type 0} → TellsLoss failed can_fail old new P R → (P → Q) → (Q → P) → (R → U) → TellsLoss failed can_fail old new Q U
  loss_as (inl call) to from fault = inl (tells_as call to from)
  loss_as (inr (came, call)) to from fault = inr (fault came, call)

  -- a call in which the reader doesn't fail, and then another
  pub loss_then : {old mid new : S} {P Q R : Type 0} → TellsFailures failed can_fail old mid P → (P → ⊥) → TellsLoss failed can_fail mid new Q R → TellsLoss failed can_fail old new Q R
  loss_then first never (inl call) = inl (tells_then first never call)
  loss_then first never (inr (came, call)) = inr (came, tells_then first never call)
