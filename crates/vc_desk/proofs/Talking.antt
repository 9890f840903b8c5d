-- What a worker did, turn by turn.
use Rattle.std.proofs.Common.{◌≡◌, ℕ, true, List, [], ◌∷◌, ◌++◌, map, length, Option, Some, None, inl, inr, refl, sym, subst, ap, ◌∙◌}
use Rattle.std.specs.Prelude.{option_map, slice_get, IfSome}
use Rattle.std.specs.Io.KnownBytes.{Appends}
use Rattle.vc_files.specs.declared.faults.Fault.TheVariants.{Memory}
use Rattle.vc_message.specs.declared.incoming_fault.IncomingFault.TheVariants as incoming
use Rattle.vc_desk.specs.Entry.{AnswerText, EntryText, EventText, answer_text, event_text}
use Rattle.vc_desk.specs.Entry.AnswerText.{Replied, Opened, Checked, Migrated, Updated, Atomic, AtomicRefused, Finished, Failed}
use Rattle.vc_desk.specs.Entry.EventText.{Accepts, Steps}
use Rattle.vc_desk.specs.declared.entry.Entry.{Entry}
use Rattle.vc_desk.specs.declared.entry.Failure.TheVariants as failure
use Rattle.vc_desk.specs.declared.locked.Receipt.{Receipt}
use Rattle.vc_desk.specs.declared.work.Ended.{Ended}
use Rattle.vc_desk.specs.declared.work.Ended.TheVariants as ended
use Rattle.vc_desk.specs.declared.work.Next.{Next}
use Rattle.vc_desk.specs.declared.work.Next.TheVariants.{Goes, Stops}
use Rattle.vc_desk.specs.Talk.{Came, Closes, Ends, IsCome, IsNext, ReceiptText, Settles, Talk, Tells, Turns, goes_on, opened, receipt_of, receipt_text, told}
use Rattle.vc_desk.specs.Talk.Came.{a_message, no_message, nothing_came}
use Rattle.vc_desk.specs.Talk.Turns.{closes, made, no_room}
use Rattle.vc_desk.specs.Talk.Talk.{begun, then}

append_parts : (xs x y : List ℕ) → (xs ++ x) ++ y ≡ xs ++ (x ++ y)
append_parts [] x y = refl
append_parts (n ∷ xs) x y = ap (λ (l : List ℕ). n ∷ l) (append_parts xs x y)

-- what was appended in two parts
pub appends_both : (a b c : Option (List ℕ)) (x y : List ℕ) → Appends a b x → Appends b c y → Appends a c (x ++ y)
appends_both None b c x y p q = tt
appends_both (Some xs) None c x y p q = absurd p
appends_both (Some xs) (Some ys) None x y p q = absurd q
appends_both (Some xs) (Some ys) (Some zs) x y p q = q ∙ ap (λ (l : List ℕ). l ++ y) p ∙ append_parts xs x y

append_none : (xs : List ℕ) → xs ≡ xs ++ []
append_none [] = refl
append_none (n ∷ xs) = ap (λ (l : List ℕ). n ∷ l) (append_none xs)

pub appends_none : (a : Option (List ℕ)) → Appends a a []
appends_none None = tt
appends_none (Some xs) = append_none xs

abbrev given : Option EntryText → EntryText → EntryText
given None e = e
given (Some x) e = x

some_is : (y z : EntryText) → Some y ≡ Some z → y ≡ z
some_is y z is = ap (λ (o : Option EntryText). given o y) is

-- the last entry of a log
pub last_is : (xs : List EntryText) (y z : EntryText) → slice_get (xs ++ y ∷ []) (length xs) ≡ Some z → z ≡ y
last_is [] y z is = sym (some_is y z is)
last_is (x ∷ xs) y z is = last_is xs y z is

-- a receipt of an entry of this connection and event
pub entry_is : (place name : ℕ) (event : EventText) (found : Option Entry) → IfSome found (λ e. (e.connection ≡ name) × (event_text e.event ≡ event))
    → receipt_text (record { place = place; entry = found }) ≡ receipt_of name place event (option_map (λ e. answer_text e.answer) found)
entry_is place name event None is = refl
entry_is place name event (Some e) is =
    ap (λ (k : ℕ). record { place = place; entry = Some (record { connection = k; event = event_text e.event; answer = answer_text e.answer }) }) is.0
    ∙ ap (λ (v : EventText). record { place = place; entry = Some (record { connection = name; event = v; answer = answer_text e.answer }) }) is.1

pub map_last : (xs : List Receipt) (x : Receipt) → map receipt_text (xs ++ x ∷ []) ≡ map receipt_text xs ++ receipt_text x ∷ []
map_last [] x = refl
map_last (y ∷ ys) x = ap (λ (l : List ReceiptText). receipt_text y ∷ l) (map_last ys x)

pub receipts_are : (name : ℕ) (event : EventText) (new old : List Receipt) (x : Receipt) → new ≡ old ++ x ∷ [] → IfSome x.entry (λ e. (e.connection ≡ name) × (event_text e.event ≡ event))
    → map receipt_text new ≡ map receipt_text old ++ receipt_of name x.place event (option_map (λ e. answer_text e.answer) x.entry) ∷ []
receipts_are name event new old x is mine =
    ap (λ (l : List Receipt). map receipt_text l) is ∙ map_last old x ∙ ap (λ (r : ReceiptText). map receipt_text old ++ r ∷ []) (entry_is x.place name event x.entry mine)

abbrev is_goes : Next → Type 0
is_goes (Goes next) = Unit {0}
is_goes (Stops how) = ⊥

never : (next : Option ℕ) (how : Ended) → Goes next ≡ Stops how → ⊥
never next how is = subst (λ (n : Next). is_goes n) is tt

-- what is written of an answer after which the connection goes on
pub tells_goes : (current : Option ℕ) (answer : AnswerText) (old new : Option (List ℕ)) (next : Option ℕ) → Tells current (Some answer) old new (Goes next)
    → (goes_on answer ≡ true) × (next ≡ opened current answer) × Appends old new (told answer)
tells_goes current (Replied bytes) old new next tells = (refl, tells.0, tells.1)
tells_goes current (Opened k) old new next tells = (refl, tells.0, tells.1)
tells_goes current (Checked n) old new next tells = (refl, tells.0, tells.1)
tells_goes current Migrated old new next tells = (refl, tells.0, tells.1)
tells_goes current (Updated ref found) old new next tells = (refl, tells.0, tells.1)
tells_goes current (Atomic n) old new next tells = (refl, tells.0, tells.1)
tells_goes current (AtomicRefused ref reason) old new next tells = (refl, tells.0, tells.1)
tells_goes current (Finished bytes) old new next tells = (refl, tells.0, tells.1)
tells_goes current (Failed (failure.NotOurs id)) old new next tells = absurd tells
tells_goes current (Failed (failure.Refused number)) old new next tells = absurd tells
tells_goes current (Failed (failure.Fault fault)) old new next tells = absurd (never next (ended.Fault fault) tells.0)

no_end : (came : Came) (old new : Option (List ℕ)) (next : Option ℕ) → Closes came old new (Goes next) → ⊥
no_end (a_message bytes) old new next how = how
no_end nothing_came old new next how = never next ended.End how.0
no_end (no_message (incoming.Unread fault)) old new next how = how
no_end (no_message incoming.Failed) old new next how = never next ended.ReadFailed how.0
no_end (no_message incoming.Memory) old new next how = never next (ended.Fault Memory) how.0

-- ---- turn by turn
module _ (limit : ℕ) (CanFail : Type 0) (name : ℕ) where
  -- a turn that was settled
  pub turned : (current : Option ℕ) (before rest old new : Option (List ℕ)) (rs after : List ReceiptText) (event : EventText) (next : Next)
      → IsNext limit CanFail current before rest event → Settles name current event old new rs after next → Turns limit CanFail name current before rest old new rs after next
  turned current before rest old new rs after event next is (inl (same, stops, kept)) = no_room same stops kept
  turned current before rest old new rs after event next is (inr (place, answer, more, tells)) = made place event answer is more tells

  -- a step of the open push
  pub stepped : (current : Option ℕ) (slot : ℕ) (before old new : Option (List ℕ)) (rs room after : List ReceiptText) (next : Next)
      → current ≡ Some slot → room ≡ rs → Settles name (Some slot) (Steps slot) old new room after next → Turns limit CanFail name current before before old new rs after next
  stepped current slot before old new rs room after next is same s =
      subst (λ (o : Option ℕ). Turns limit CanFail name o before before old new rs after next) (sym is)
      (subst (λ (l : List ReceiptText). Turns limit CanFail name (Some slot) before before old new l after next) same
      (turned (Some slot) before before old new room after (Steps slot) next (refl, refl) s))

  -- the next message
  pub took : (current : Option ℕ) (bytes lent : List ℕ) (before rest old new : Option (List ℕ)) (rs room after : List ReceiptText) (next : Next)
      → current ≡ None → lent ≡ bytes → IsCome limit CanFail before rest (a_message bytes) → room ≡ rs → Settles name current (Accepts lent) old new room after next
      → Turns limit CanFail name current before rest old new rs after next
  took current bytes lent before rest old new rs room after next idle is come same s =
      subst (λ (l : List ReceiptText). Turns limit CanFail name current before rest old new l after next) same
      (turned current before rest old new room after (Accepts lent) next
      (subst (λ (o : Option ℕ). IsNext limit CanFail o before rest (Accepts lent)) (sym idle) (subst (λ (b : List ℕ). IsCome limit CanFail before rest (a_message b)) (sym is) come)) s)

  -- what a worker has done so far
  pub record Served (before old : Option (List ℕ)) (rs : List ReceiptText) (mid written : Option (List ℕ)) (current : Option ℕ) : Type 0 where
    pub out : List ℕ
    pub talk : Talk limit CanFail name before rs mid current out
    pub wrote : Appends old written out

  pub serves_none : (before old : Option (List ℕ)) → Served before old [] before old None
  serves_none before old = record { out = []; talk = begun; wrote = appends_none old }

  -- a turn after which the connection goes on
  pub goes : (before old : Option (List ℕ)) (rs after : List ReceiptText) (mid rest written new : Option (List ℕ)) (current next : Option ℕ)
      → Served before old rs mid written current → Turns limit CanFail name current mid rest written new rs after (Goes next) → Served before old after rest new next
  goes before old rs after mid rest written new current next s (no_room same stops kept) = absurd (never next (ended.Fault Memory) stops)
  goes before old rs after mid rest written new current next s (closes came none is same how) = absurd (no_end came written new next how)
  goes before old rs after mid rest written new current next s (made place event None is more tells) = absurd (never next (ended.Fault Memory) tells.0)
  goes before old rs after mid rest written new current next s (made place event (Some a) is more tells) =
      let t = tells_goes current a written new next tells in
      subst (λ (l : List ReceiptText). Served before old l rest new next) (sym more)
      (subst (λ (o : Option ℕ). Served before old (rs ++ receipt_of name place event (Some a) ∷ []) rest new o) (sym t.1)
      (record { out = s.out ++ told a; talk = then place event a s.talk is t.0; wrote = appends_both old written new s.out (told a) s.wrote t.2 }))

  pub goes_as : (before old : Option (List ℕ)) (rs after : List ReceiptText) (mid rest written new : Option (List ℕ)) (current next : Option ℕ) (result : Next)
      → Served before old rs mid written current → Turns limit CanFail name current mid rest written new rs after result → result ≡ Goes next → Served before old after rest new next
  goes_as before old rs after mid rest written new current next result s t is =
      goes before old rs after mid rest written new current next s (subst (λ (r : Next). Turns limit CanFail name current mid rest written new rs after r) is t)

  -- the last turn
  pub stops : (before old : Option (List ℕ)) (rs after : List ReceiptText) (mid rest written new : Option (List ℕ)) (current : Option ℕ) (how : Ended)
      → Served before old rs mid written current → Turns limit CanFail name current mid rest written new rs after (Stops how) → Ends limit CanFail name before old new after how
  stops before old rs after mid rest written new current how s t =
      record { rs = rs; mid = mid; rest = rest; written = written; current = current; out = s.out; talk = s.talk; wrote = s.wrote; last = t }

  pub stops_as : (before old : Option (List ℕ)) (rs after : List ReceiptText) (mid rest written new : Option (List ℕ)) (current : Option ℕ) (how : Ended) (result : Next)
      → Served before old rs mid written current → Turns limit CanFail name current mid rest written new rs after result → result ≡ Stops how → Ends limit CanFail name before old new after how
  stops_as before old rs after mid rest written new current how result s t is =
      stops before old rs after mid rest written new current how s (subst (λ (r : Next). Turns limit CanFail name current mid rest written new rs after r) is t)

  -- a connection whose worker couldn't be started
  pub refused_worker : (before old : Option (List ℕ)) (after : List ReceiptText) → after ≡ [] → Ends limit CanFail name before old old after (ended.Fault Memory)
  refused_worker before old after is =
      record { rs = []; mid = before; rest = before; written = old; current = None; out = []; talk = begun; wrote = appends_none old; last = no_room is refl refl }

-- A turn of a reader that can fail only if another can: what the first may, the other may.
come_if : (limit : ℕ) (P Q : Type 0) (before rest : Option (List ℕ)) (came : Came) → (P → Q) → IsCome limit P before rest came → IsCome limit Q before rest came
come_if limit P Q before rest (a_message bytes) f h = h
come_if limit P Q before rest nothing_came f h = h
come_if limit P Q before rest (no_message fault) f h = (h.0, λ is. f (h.1 is))

next_if : (limit : ℕ) (P Q : Type 0) (current : Option ℕ) (before rest : Option (List ℕ)) (event : EventText) → (P → Q) → IsNext limit P current before rest event → IsNext limit Q current before rest event
next_if limit P Q None before rest (Accepts bytes) f h = h
next_if limit P Q None before rest (Steps k) f h = absurd h
next_if limit P Q (Some k) before rest (Accepts bytes) f h = absurd h
next_if limit P Q (Some k) before rest (Steps j) f h = h

pub turns_if : (limit : ℕ) (P Q : Type 0) (name : ℕ) (current : Option ℕ) (before rest old new : Option (List ℕ)) (rs after : List ReceiptText) (next : Next) → (P → Q)
    → Turns limit P name current before rest old new rs after next → Turns limit Q name current before rest old new rs after next
turns_if limit P Q name current before rest old new rs after next f (no_room same stops kept) = no_room same stops kept
turns_if limit P Q name current before rest old new rs after next f (closes came none is same how) = closes came none (come_if limit P Q before rest came f is) same how
turns_if limit P Q name current before rest old new rs after next f (made place event answer is more tells) = made place event answer (next_if limit P Q current before rest event f is) more tells
