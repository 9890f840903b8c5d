-- A server that answers one message after the other.
use Rattle.std.proofs.Common.{append_assoc, arith, ◌≡◌, ◌+◌, ◌-◌, ℕ, suc, Bool, List, [], ◌∷◌, ◌++◌, length, Option, Some, None, Result, Ok, Err, refl, sym, ap, ◌∙◌, subst}
use Rattle.std.specs.List.{AllByRecursion}
use Rattle.std.specs.Prelude.{⊤, ◌<◌, ◌≤◌}
use Rattle.vc_files.specs.FileMap.{FileMap}
use Rattle.vc_files.specs.declared.faults.Fault.{Fault}
use Rattle.vc_serving.specs.Clients.{Event, Hears, given}
use Rattle.vc_serving.specs.Clients.Event.{Ends, Fails, Gives, Takes}
use Rattle.vc_serving.specs.InTurn.{AnswersOne, AreTurns, Exchange, GoesOn, HowEnded, IsOneTurn, ServesInTurn, closing, ending, events_of, files_after, going, going_after, most_messages}
use Rattle.vc_serving.specs.InTurn.HowEnded.{ended, spent, stopped, unknown}
use Rattle.vc_serving.proofs.LifeLemmas.{lives}

-- ---- what happened

hears_none : {A : Type 0} (known : Option (List A)) → Hears known known []
hears_none None = tt
hears_none (Some xs) = refl

hears_both : {A : Type 0} (a b c : Option (List A)) (xs ys : List A) → Hears a b xs → Hears b c ys → Hears a c (ys ++ xs)
hears_both None b c xs ys p q = tt
hears_both (Some us) None c xs ys p q = absurd p
hears_both (Some us) (Some vs) None xs ys p q = absurd q
hears_both (Some us) (Some vs) (Some ws) xs ys p q = q ∙ (ap (λ (l : List _). ys ++ l) p ∙ sym (append_assoc ys xs us))

hears_as : {A : Type 0} (a b : Option (List A)) (xs ys : List A) → xs ≡ ys → Hears a b xs → Hears a b ys
hears_as a b xs ys is h = subst (λ (l : List _). Hears a b l) is h

module _ {F R W : Type 0} (honest : Type 0) (content : F → FileMap) (failed : F → ℕ) (can_fail : F → Type 0) (writes_left : F → Option ℕ) (remaining : R → Option (List ℕ)) (lost : R → ℕ) (can_lose : R → Type 0) (contents : W → Option (List ℕ))
    {C : Type 0} (heard : C → Option (List (Event R W))) where
  -- ---- turn by turn

  -- what was done so far, and how many messages may still come
  pub record IsServing (old now : F) (clients mid : C) (left : ℕ) : Type 0 where
    pub exchanges : List (Exchange F R W)
    pub hears : Hears (heard clients) (heard mid) (events_of exchanges)
    pub files : now ≡ files_after old exchanges
    pub turns : AreTurns honest content failed can_fail writes_left remaining lost can_lose contents old exchanges
    pub goes_on : AllByRecursion GoesOn exchanges
    pub count : length exchanges + left ≡ most_messages

  pub serving_none : (old : F) (clients : C) → IsServing old old clients clients most_messages
  serving_none old clients = record { exchanges = []; hears = hears_none (heard clients); files = refl; turns = tt; goes_on = tt; count = refl }

  -- one turn more, with what it was
  record IsMore (old new : F) (clients done : C) (before : List (Exchange F R W)) (result : Result ⊤ Fault) : Type 0 where
    x : Exchange F R W
    hears : Hears (heard clients) (heard done) (events_of (x ∷ before))
    files : new ≡ x.files
    turns : AreTurns honest content failed can_fail writes_left remaining lost can_lose contents old (x ∷ before)
    end : result ≡ ending (going x)

  more : (old now new : F) (clients mid asked done : C) (left : ℕ) (found : Result (Option (R × W)) Fault) (reader : R) (writer : W) (result : Result ⊤ Fault) → (s : IsServing old now clients mid left) → found ≡ Ok (Some (reader, writer))
      → Hears (heard mid) (heard asked) (given found ∷ []) → AnswersOne honest content failed can_fail writes_left remaining lost can_lose contents heard now new asked done reader writer result → IsMore old new clients done s.exchanges result
  more old now new clients mid asked done left found reader writer result s is gives one =
      let x : Exchange F R W = record { reader = reader; rest = one.rest; writer = writer; after = one.after; served = one.served; kept = one.kept; files = new } in
      let shut : List (Event R W) = closing (going_after one.served one.kept) in
      let first : Hears (heard clients) (heard asked) (Gives reader writer ∷ events_of s.exchanges)
      = hears_both (heard clients) (heard mid) (heard asked) (events_of s.exchanges) (Gives reader writer ∷ []) s.hears (subst (λ (f : Result (Option (R × W)) Fault). Hears (heard mid) (heard asked) (given f ∷ [])) is gives) in
      record {
        x = x;
        hears = hears_as (heard clients) (heard done) ((shut ++ Takes one.rest one.after one.served one.kept ∷ []) ++ Gives reader writer ∷ events_of s.exchanges) (events_of (x ∷ s.exchanges))
            (append_assoc shut (Takes one.rest one.after one.served one.kept ∷ []) (Gives reader writer ∷ events_of s.exchanges)
            ∙ sym (append_assoc shut (Takes one.rest one.after one.served one.kept ∷ Gives reader writer ∷ []) (events_of s.exchanges)))
            (hears_both (heard clients) (heard asked) (heard done) (Gives reader writer ∷ events_of s.exchanges) (shut ++ Takes one.rest one.after one.served one.kept ∷ []) first one.hears);
        files = refl;
        turns = (subst (λ (f : F). IsOneTurn honest content failed can_fail writes_left remaining lost can_lose contents f new reader one.rest writer one.after one.served) s.files one.turn, s.turns);
        end = one.end;
      }

  -- the server goes on
  pub serving_more : (old now new : F) (clients mid asked done : C) (left : ℕ) (found : Result (Option (R × W)) Fault) (reader : R) (writer : W) (result : Result ⊤ Fault) → IsServing old now clients mid left → found ≡ Ok (Some (reader, writer))
      → Hears (heard mid) (heard asked) (given found ∷ []) → AnswersOne honest content failed can_fail writes_left remaining lost can_lose contents heard now new asked done reader writer result → result ≡ Ok tt → 0 < left → IsServing old new clients done (left - 1)
  serving_more old now new clients mid asked done left found reader writer result s is gives one goes some =
      let m : IsMore old new clients done s.exchanges result = more old now new clients mid asked done left found reader writer result s is gives one in
      record {
        exchanges = m.x ∷ s.exchanges;
        hears = m.hears;
        files = m.files;
        turns = m.turns;
        goes_on = (sym m.end ∙ goes, s.goes_on);
        count = go (length s.exchanges) left some s.count;
      }
    where
      go : (n left : ℕ) → 0 < left → n + left ≡ most_messages → suc n + (left - 1) ≡ most_messages
      go n left some all = omega arith

  -- ---- how it ended

  served_so : (old new : F) (clients done : C) (xs : List (Exchange F R W)) (last : List (Event R W)) (result : Result ⊤ Fault) → Hears (heard clients) (heard done) (last ++ events_of xs) → HowEnded xs last result → new ≡ files_after old xs
      → AreTurns honest content failed can_fail writes_left remaining lost can_lose contents old xs → ServesInTurn honest content failed can_fail writes_left remaining lost can_lose contents heard old new clients done result
  served_so old new clients done xs last result h end files turns = record {
    exchanges = xs;
    last = last;
    hears = h;
    end = end;
    files = files;
    turns = turns;
    life = λ h r can. lives honest content failed can_fail writes_left remaining lost can_lose contents old xs turns h r can;
  }

  pub serving_ended : (old now : F) (clients mid done : C) (left : ℕ) (found : Result (Option (R × W)) Fault) → IsServing old now clients mid left → found ≡ Ok None → Hears (heard mid) (heard done) (given found ∷ [])
      → ServesInTurn honest content failed can_fail writes_left remaining lost can_lose contents heard old now clients done (Ok tt)
  serving_ended old now clients mid done left found s is gives =
      served_so old now clients done s.exchanges (Ends ∷ []) (Ok tt)
      (hears_both (heard clients) (heard mid) (heard done) (events_of s.exchanges) (Ends ∷ []) s.hears (subst (λ (f : Result (Option (R × W)) Fault). Hears (heard mid) (heard done) (given f ∷ [])) is gives))
      (ended s.goes_on refl refl) s.files s.turns

  pub serving_failed : (old now : F) (clients mid done : C) (left : ℕ) (found : Result (Option (R × W)) Fault) (fault : Fault) → IsServing old now clients mid left → found ≡ Err fault → Hears (heard mid) (heard done) (given found ∷ [])
      → ServesInTurn honest content failed can_fail writes_left remaining lost can_lose contents heard old now clients done (Err fault)
  serving_failed old now clients mid done left found fault s is gives =
      served_so old now clients done s.exchanges (Fails fault ∷ []) (Err fault)
      (hears_both (heard clients) (heard mid) (heard done) (events_of s.exchanges) (Fails fault ∷ []) s.hears (subst (λ (f : Result (Option (R × W)) Fault). Hears (heard mid) (heard done) (given f ∷ [])) is gives))
      (unknown fault s.goes_on refl refl) s.files s.turns

  fault_of : (g : Result Bool Fault) (fault : Fault) → Err fault ≡ ending g → g ≡ Err fault
  fault_of (Ok b) fault e = absurd (cc)
  fault_of (Err f) fault e = cc

  pub serving_stopped : (old now new : F) (clients mid asked done : C) (left : ℕ) (found : Result (Option (R × W)) Fault) (reader : R) (writer : W) (result : Result ⊤ Fault) (fault : Fault) → IsServing old now clients mid left
      → found ≡ Ok (Some (reader, writer)) → Hears (heard mid) (heard asked) (given found ∷ []) → AnswersOne honest content failed can_fail writes_left remaining lost can_lose contents heard now new asked done reader writer result → result ≡ Err fault
      → ServesInTurn honest content failed can_fail writes_left remaining lost can_lose contents heard old new clients done (Err fault)
  serving_stopped old now new clients mid asked done left found reader writer result fault s is gives one fails =
      let m : IsMore old new clients done s.exchanges result = more old now new clients mid asked done left found reader writer result s is gives one in
      served_so old new clients done (m.x ∷ s.exchanges) [] (Err fault) m.hears
      (stopped m.x s.exchanges fault refl s.goes_on (fault_of (going m.x) fault (sym fails ∙ m.end)) refl refl) m.files m.turns

  pub serving_spent : (old now : F) (clients mid : C) (left : ℕ) → IsServing old now clients mid left → left ≤ 0 → ServesInTurn honest content failed can_fail writes_left remaining lost can_lose contents heard old now clients mid (Ok tt)
  serving_spent old now clients mid left s none =
      served_so old now clients mid s.exchanges [] (Ok tt) s.hears (spent s.goes_on (go (length s.exchanges) left none s.count) refl refl) s.files s.turns
    where
      go : (n left : ℕ) → left ≤ 0 → n + left ≡ most_messages → n ≡ most_messages
      go n left is all = omega arith
