-- A message that carries objects: what its lines do, and what the bytes of it are that came.
use Rattle.std.proofs.Common.{◌≡◌, ◌≢◌, ◌⊎◌, inl, inr, ℕ, ◌+◌, ◌≤◌, Bool, true, false, List, [], ◌∷◌, length, Option, Some, None, Result, Ok, Err, refl, ap, sym, ◌∙◌, subst, arith, length-append, if◌then◌else◌}
use Rattle.std.proofs.lemmas.List.{append-nil}
use Rattle.vc_object.specs.Decoding.{StoredObject}
use Rattle.vc_object.specs.declared.id.ObjectId.{ObjectId}
use Rattle.vc_pkt.proofs.MessageLaws.{line_length}
use Rattle.vc_pkt.specs.Carried.{with_object}
use Rattle.vc_pkt.specs.Faults.{FaultAt}
use Rattle.vc_pkt.specs.Line.{LineText, IsLine, IsLines}
use Rattle.vc_pkt.specs.Message.{GivenBy, Stepped, Steps, IsOwnFault, onward, complete}
use Rattle.vc_pkt.specs.ObjectStream.{ObjectStepped, Progress, between, full, gather_stepped, going_on, is_any, object_step, over}
use Rattle.vc_pkt.specs.StepView.{Gives}
use Rattle.vc_pkt.specs.declared.fault.PktError.{PktError}
use Rattle.vc_pkt.specs.declared.fault.PktError.TheVariants as errors
use Rattle.vc_pkt.specs.declared.fault.PktFault.{PktFault}
use Rattle.vc_pkt.specs.declared.fault.PktFault.TheVariants.{BadRecord}
use Rattle.vc_fetch.specs.Pack.{is_object, with_ack}
use Rattle.vc_fetch.specs.Pack as pack
use Rattle.vc_push.specs.Push.{Carried, HeadText, carry, with_commands}
use Rattle.vc_push.specs.Push as push
use Rattle.vc_push.specs.PushView.{head_text}
use Rattle.vc_message.specs.AnyMessage.{AnyState, MessageText, Read, any_step, any_step_own, as_pack, as_push, beginning, in_pack, in_push}
use Rattle.vc_message.specs.Incoming.{Fails, IsLineOf, IsLoss, TakesFault, TakesText, whole}
use Rattle.vc_message.specs.IncomingFault.{of_pkt}
use Rattle.vc_message.specs.declared.incoming_fault.IncomingFault.{IncomingFault}
use Rattle.vc_message.specs.declared.incoming_fault.IncomingFault.TheVariants.{Failed, Unread}
use Rattle.vc_message.specs.Streaming.{Carrier, of_pack, of_push, FailsAtLine, IsBeforeAll, IsHeadAt, LeadsTo, TakesHead, TakesLine, may_carry, state_at, text_of, with_more}
use Rattle.vc_message.specs.declared.streaming.Head.{Head}
use Rattle.vc_message.specs.declared.streaming.Head.TheVariants as heads
use Rattle.vc_message.proofs.IncomingLaws.{TakenSoFar, on_last, on_loss, on_next, on_no_line_read, on_refusal}

-- a line has four bytes or more
few_lines : (lines : List LineText) (bytes : List ℕ) → IsLines lines bytes → length lines ≤ length bytes
few_lines [] bytes e = omega arith
few_lines (l ∷ ls) bytes (first, more, is, others, e) =
    let four = line_length l first is in
    let rest = few_lines ls more others in
    let len = ap length e ∙ length-append first more in
    omega (arith, four, rest, len)

module _ {S M : Type 0} (step : Steps S M) (line_faults : (number : ℕ) (state : S) (line : LineText) → IsOwnFault (step number state line)) (start : S) (old now : Option (List ℕ)) (place number : ℕ) (s : S) where
  pub so_far : LeadsTo step start old now place number s → TakenSoFar step line_faults start old now place number s
  so_far l = record {
    bytes = l.bytes;
    here = l.here;
    so = record {
      lines = l.lines;
      begins = record { front = l.bytes; each = l.each; whole = sym (append-nil l.bytes) };
      count = l.count;
      room = (let few = few_lines l.lines l.bytes l.each in let count = l.count in omega (arith, few, count));
      goes = l.goes;
    };
    consumed = l.consumed;
  }

  pub leads : TakenSoFar step line_faults start old now place number s → LeadsTo step start old now place number s
  leads t = record {
    bytes = t.bytes;
    lines = t.so.lines;
    each = subst (λ (bytes : List ℕ). IsLines t.so.lines bytes) (sym (t.so.begins.whole ∙ append-nil t.so.begins.front)) t.so.begins.each;
    here = t.here;
    count = t.so.count;
    goes = t.so.goes;
    consumed = t.consumed;
  }

-- what a line does, by what it does to the stream
abbrev pub carrier_stepped : Carrier → Result ObjectStepped PktFault → Read
carrier_stepped c (Err fault) = Err fault
carrier_stepped c (Ok (going_on progress)) = Ok (onward (state_at c progress))
carrier_stepped c (Ok (full first object)) = if may_carry c object then Ok (onward (state_at (with_more object c) between)) else Err (BadRecord first)
carrier_stepped c (Ok over) = Ok (complete (text_of c))

pushed : (head : HeadText) (carried : Carried) (r : Result ObjectStepped PktFault) → as_push (with_commands head (gather_stepped carry is_any carried r)) ≡ carrier_stepped (of_push head carried) r
pushed head carried (Err fault) = refl
pushed head carried (Ok (going_on progress)) = refl
pushed head carried (Ok (full first object)) = refl
pushed head carried (Ok over) = refl

packed : (ack : Option ObjectId) (objects : List StoredObject) (r : Result ObjectStepped PktFault) → as_pack (with_ack ack (gather_stepped with_object is_object objects r)) ≡ carrier_stepped (of_pack ack objects) r
packed ack objects (Err fault) = refl
packed ack objects (Ok (going_on progress)) = refl
packed ack objects (Ok (full first object)) = by (is_object object)
  where
    by : (b : Bool) → as_pack (with_ack ack (if b then Ok (onward (record { set = with_object object objects; progress = between })) else Err (BadRecord first)))
        ≡ if b then Ok (onward (state_at (of_pack ack (with_object object objects)) between)) else Err (BadRecord first)
    by true = refl
    by false = refl
packed ack objects (Ok over) = refl

pub carrier_step : (number : ℕ) (c : Carrier) (progress : Progress) (line : LineText) → any_step number (state_at c progress) line ≡ carrier_stepped c (object_step number progress line)
carrier_step number (of_push head carried) progress line = pushed head carried (object_step number progress line)
carrier_step number (of_pack ack objects) progress line = packed ack objects (object_step number progress line)

-- where no object has begun
pub push_begins : (head : HeadText) (set : List StoredObject) (p : Progress) → set ≡ [] → p ≡ between → in_push (push.streaming head (record { set = Ok set; progress = p })) ≡ state_at (of_push head (Ok [])) between
push_begins head set p none start =
    ap (λ (objects : List StoredObject). in_push (push.streaming head (record { set = Ok objects; progress = p }))) none
    ∙ ap (λ (q : Progress). in_push (push.streaming head (record { set = Ok []; progress = q }))) start

pub pack_begins : (ack : Option ObjectId) (set : List StoredObject) (p : Progress) → set ≡ [] → p ≡ between → in_pack (pack.streaming ack (record { set = set; progress = p })) ≡ state_at (of_pack ack []) between
pack_begins ack set p none start =
    ap (λ (objects : List StoredObject). in_pack (pack.streaming ack (record { set = objects; progress = p }))) none
    ∙ ap (λ (q : Progress). in_pack (pack.streaming ack (record { set = []; progress = q }))) start

-- ---- one line more, or none
module _ (before now new : Option (List ℕ)) (place number : ℕ) (s : AnyState) (so : LeadsTo any_step beginning before now place number s) where
  taken : TakenSoFar any_step any_step_own beginning before now place number s
  taken = so_far any_step any_step_own beginning before now place number s so

  pub on_failed_line : (e : IncomingFault) → FailsAtLine now new place e → Fails any_step beginning before new e
  on_failed_line e f = by f.why
    where
      by : IsLoss e ⊎ ((fault : PktFault) × (e ≡ Unread fault) × IsLineOf new f.bytes × (place + length f.bytes ≢ 0) × FaultAt place f.bytes fault) → Fails any_step beginning before new e
      by (inl lost) = on_loss any_step any_step_own beginning before now new f.bytes place number s taken f.taken e lost
      by (inr (fault, is, line, some, at)) =
          subst (λ (x : IncomingFault). Fails any_step beginning before new x) (sym is)
          (on_no_line_read any_step any_step_own beginning before now new f.bytes place number s taken f.taken line some fault at)

  pub on_no_line_left : IsBeforeAll now new place → Fails any_step beginning before new Failed
  on_no_line_left (bytes, took, line, none) = on_loss any_step any_step_own beginning before now new bytes place number s taken took Failed tt

  module _ (end : ℕ) (bytes : List ℕ) (t : TakesLine now new place end bytes) where
    pub on_lost_line : Fails any_step beginning before new Failed
    on_lost_line = on_loss any_step any_step_own beginning before now new bytes place number s taken t.taken Failed tt

    here : IsLineOf new bytes
    here = whole t.line t.is

    some : place + length bytes ≢ 0
    some none = let four = line_length t.line bytes t.is in omega (arith, four, none)

    module _ (l : LineText) (h : IsLine l bytes) where
      pub on_refused : {X : Type 0} (view : X → Stepped AnyState MessageText) (e : PktError) → Gives view (Err e) (any_step number s l) → Fails any_step beginning before new (of_pkt e)
      on_refused view e g = on_refusal any_step any_step_own beginning before now new bytes place number s taken t.taken here some l h view e g

      pub onward_to : (next : AnyState) → any_step number s l ≡ Ok (onward next) → LeadsTo any_step beginning before new end (number + 1) next
      onward_to next is =
          subst (λ (n : ℕ). LeadsTo any_step beginning before new n (number + 1) next) (sym t.behind)
          (leads any_step any_step_own beginning before new (place + length bytes) (number + 1) next
          (on_next any_step any_step_own beginning before now new bytes place number s taken t.taken here some l h next is))

      pub on_message : (m : MessageText) → any_step number s l ≡ Ok (complete m) → TakesText any_step beginning (GivenBy any_step beginning) before new m
      on_message m is = on_last any_step any_step_own beginning before now new bytes place number s taken t.taken here some l h m is

-- the same of a message that carries objects, by what the line does to their stream
module _ (before now new : Option (List ℕ)) (place number : ℕ) (c : Carrier) (p : Progress) (so : LeadsTo any_step beginning before now place number (state_at c p)) (end : ℕ) (bytes : List ℕ) (t : TakesLine now new place end bytes) (l : LineText) (h : IsLine l bytes) where
  by_stream : (r : Result ObjectStepped PktFault) → object_step number p l ≡ r → any_step number (state_at c p) l ≡ carrier_stepped c r
  by_stream r is = carrier_step number c p l ∙ ap (carrier_stepped c) is

  same : Stepped AnyState MessageText → Stepped AnyState MessageText
  same x = x

  pub on_refused_line : {X : Type 0} (view : X → ObjectStepped) (e : PktError) → Gives view (Err e) (object_step number p l) → Fails any_step beginning before new (of_pkt e)
  on_refused_line view errors.Memory g = on_refused before now new place number (state_at c p) so end bytes t l h same errors.Memory tt
  on_refused_line view (errors.Refused f) g = on_refused before now new place number (state_at c p) so end bytes t l h same (errors.Refused f) (by_stream (Err f) g)

  pub on_going : (q : Progress) → object_step number p l ≡ Ok (going_on q) → LeadsTo any_step beginning before new end (number + 1) (state_at c q)
  on_going q is = onward_to before now new place number (state_at c p) so end bytes t l h (state_at c q) (by_stream (Ok (going_on q)) is)

  module _ (first : ℕ) (o : StoredObject) (is : object_step number p l ≡ Ok (full first o)) where
    full_by : (b : Bool) → may_carry c o ≡ b → any_step number (state_at c p) l ≡ if b then Ok (onward (state_at (with_more o c) between)) else Err (BadRecord first)
    full_by b may = by_stream (Ok (full first o)) is ∙ ap (λ (t : Bool). if t then Ok (onward (state_at (with_more o c) between)) else Err (BadRecord first)) may

    pub on_object : may_carry c o ≡ true → LeadsTo any_step beginning before new end (number + 1) (state_at (with_more o c) between)
    on_object may = onward_to before now new place number (state_at c p) so end bytes t l h (state_at (with_more o c) between) (full_by true may)

    pub on_other : may_carry c o ≡ false → TakesFault any_step beginning before new (BadRecord first)
    on_other may = on_refused before now new place number (state_at c p) so end bytes t l h same (errors.Refused (BadRecord first)) (full_by false may)

  pub on_over : object_step number p l ≡ Ok over → TakesText any_step beginning (GivenBy any_step beginning) before new (text_of c)
  on_over is = on_message before now new place number (state_at c p) so end bytes t l h (text_of c) (by_stream (Ok over) is)

-- what stands before the objects was taken
pub head_taken : (old new : Option (List ℕ)) (head : Head) (bytes lines : ℕ) (s : AnyState) → IsHeadAt head s → LeadsTo any_step beginning old new bytes lines s → TakesHead old new head bytes lines
head_taken old new (heads.Message message) bytes lines s at so = let none : ◌≡◌ {A = Option Carrier} None (Some at.0) = at.1 in absurd (cc none)
head_taken old new (heads.Push head) bytes lines s at so =
    let is : of_push (head_text head) (Ok []) ≡ at.0 = let some : ◌≡◌ {A = Option Carrier} (Some (of_push (head_text head) (Ok []))) (Some at.0) = at.1 in cc some in
    subst (λ (t : AnyState). LeadsTo any_step beginning old new bytes lines t) (at.2 ∙ sym (ap (λ (c : Carrier). state_at c between) is)) so
head_taken old new (heads.Pack ack) bytes lines s at so =
    let is : of_pack ack [] ≡ at.0 = let some : ◌≡◌ {A = Option Carrier} (Some (of_pack ack [])) (Some at.0) = at.1 in cc some in
    subst (λ (t : AnyState). LeadsTo any_step beginning old new bytes lines t) (at.2 ∙ sym (ap (λ (c : Carrier). state_at c between) is)) so
