-- A line of an object stream is at fault for what it says: the facts that readers of streams need.
use Rattle.std.specs.Prelude.{◌++◌, ◌∷◌, [], ℕ, Bool, true, false, cond, List, length, Option, Some, None, Result, Ok, Err, nat_lt}
use Rattle.vc_object.specs.Decoding.{StoredObject}
use Rattle.vc_object.specs.declared.kind.Kind.{Kind}
use Rattle.vc_object.specs.Object.{max_body}
use Rattle.vc_pkt.specs.Line.{LineText, flush, text}
use Rattle.vc_pkt.specs.Message.{IsOwnFault}
use Rattle.vc_pkt.specs.Carried.{with_object}
use Rattle.vc_pkt.specs.ObjectLine.{object_line}
use Rattle.vc_pkt.specs.ObjectStream.{Progress, between, inside, ObjectStepped, going_on, full, over, so_far, begun, object_step, Gathered, gather_stepped, gather_step, SetState, set_step}
use Rattle.vc_pkt.specs.declared.fault.PktFault.{PktFault}

pub either_own : {X : Type 0} (b : Bool) (x y : Result X PktFault) → IsOwnFault x → IsOwnFault y → IsOwnFault (cond b x y)
either_own true x y p q = p
either_own false x y p q = q

so_far_own : (first : ℕ) (kind : Kind) (size : ℕ) (body : List ℕ) → IsOwnFault (so_far first kind size body)
so_far_own first kind size body = either_own (nat_lt size (length body)) _ _ tt (either_own (nat_lt (length body) size) _ _ tt tt)

begun_own : (number : ℕ) (found : Option (Kind × ℕ)) → IsOwnFault (begun number found)
begun_own number None = tt
begun_own number (Some found) = either_own (nat_lt max_body found.1) _ _ tt (so_far_own number found.0 found.1 [])

pub object_step_own : (number : ℕ) (progress : Progress) (line : LineText) → IsOwnFault (object_step number progress line)
object_step_own number between flush = tt
object_step_own number between (text line) = begun_own number (object_line line)
object_step_own number (inside first kind size body) flush = tt
object_step_own number (inside first kind size body) (text []) = tt
object_step_own number (inside first kind size body) (text (b ∷ bs)) = so_far_own first kind size (body ++ b ∷ bs)

module _ {A : Type 0} (add : StoredObject → A → A) (IsTaken : StoredObject → Bool) where
  gather_stepped_own : (set : A) (r : Result ObjectStepped PktFault) → IsOwnFault r → IsOwnFault (gather_stepped add IsTaken set r)
  gather_stepped_own set (Err fault) own = own
  gather_stepped_own set (Ok (going_on progress)) own = tt
  gather_stepped_own set (Ok (full first object)) own = either_own (IsTaken object) _ _ tt tt
  gather_stepped_own set (Ok over) own = tt

  pub gather_step_own : (number : ℕ) (s : Gathered A) (line : LineText) → IsOwnFault (gather_step add IsTaken number s line)
  gather_step_own number s line = gather_stepped_own s.set (object_step number s.progress line) (object_step_own number s.progress line)

pub set_step_own : (IsTaken : StoredObject → Bool) (number : ℕ) (s : SetState) (line : LineText) → IsOwnFault (set_step IsTaken number s line)
set_step_own IsTaken = gather_step_own with_object IsTaken
