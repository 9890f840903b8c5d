-- What the calls of an exchange do to devices, one after another.
use Rattle.std.proofs.Common.{◌≡◌, ◌≢◌, ◌⊎◌, inl, inr, true, false, ℕ, List, Option, Some, None, Result, Ok, Err, refl, subst, sym, true≢false}
use Rattle.std.specs.Global.{Global}
use Rattle.std.specs.Prelude.{IfErr, Vec}
use Rattle.vc_files.proofs.WearLemmas.{writes_both, writes_from, writes_none, writes_told}
use Rattle.vc_files.specs.Failures.{Spends, Wears, Writes, unstopped}
use Rattle.vc_files.specs.FileMap.{FileMap}
use Rattle.vc_files.specs.declared.faults.Fault.TheVariants.{Memory as NoMemory}
use Rattle.vc_message.specs.declared.message.Message.{Message}
use Rattle.vc_message.specs.declared.message.Message.TheVariants as of
use Rattle.vc_node.specs.CloneFaults.{IsOfDevice, TellsDevice, of_device}
use Rattle.vc_node.specs.declared.clone_fault.CloneFault.{CloneFault}
use Rattle.vc_node.specs.declared.clone_fault.CloneFault.TheVariants.{Node}
use Rattle.vc_local.specs.declared.fault.NodeFault.TheVariants.{Down}
use Rattle.vc_node.specs.declared.exchanging.Received.{Received}
use Rattle.vc_node.specs.declared.exchanging.Received.TheVariants.{Moved, Reported, Send}
use Rattle.vc_world.specs.Devices.{IsLost, IsOfClone, IsOwn, IsToRead, Lost, TellsClone, TellsPeer, WritesOrLoses}
use Rattle.vc_world.specs.Fetching.{next_of, settled}
use Rattle.vc_world.specs.Pushing.{report_in, taken}
use Rattle.vc_world.specs.declared.ending.ExchangeEnd.{ExchangeEnd}
use Rattle.vc_world.specs.declared.ending.ExchangeEnd.TheVariants.{Clone, Memory, Shared, Stray}
use Rattle.vc_world.specs.declared.fetching.Fetched.{Fetched}
use Rattle.vc_world.specs.declared.fetching.Next.{Next}
use Rattle.vc_world.specs.declared.fetching.Next.TheVariants.{Ask, End}
use Rattle.vc_world.specs.declared.peer.Reply.{Reply}
use Rattle.vc_world.specs.declared.peer.Reply.TheVariants as replies

-- ---- the clone's device
module _ {D : Type 0} {honest : Type 0} {content : D → FileMap} {failed : D → ℕ} {can_fail : D → Type 0} {left : D → Option ℕ} where
  -- no answer was lost
  pub none_lost : {L P : Type 0} {old new : D} → Writes honest content failed can_fail left old new P → WritesOrLoses L honest content failed can_fail left old new P
  none_lost w = record { is_lost = false; loses = λ never. absurd (true≢false (sym never)); writes = writes_told w (λ told. (refl, told)) (λ told. told.1) }

  -- a call that told no fault of the device, and then its answer was lost
  pub lost_then : {L P Q : Type 0} {old mid new : D} → Writes honest content failed can_fail left old mid P → (P → ⊥) → new ≡ mid → L → WritesOrLoses L honest content failed can_fail left old new Q
  lost_then {Q = Q} {old = old} w never same may = record {
    is_lost = true;
    loses = λ lost. may;
    writes = subst (λ (d : D). Writes honest content failed can_fail left old d ((true ≡ false) × Q)) (sym same) (writes_told w (λ told. absurd (never told)) (λ told. absurd (true≢false told.0)));
  }

  -- nothing was written, and no fault of the device is told
  pub none_written : {L P : Type 0} {old new : D} → new ≡ old → (P → ⊥) → WritesOrLoses L honest content failed can_fail left old new P
  none_written {P = P} {old = old} same never = none_lost (subst (λ (d : D). Writes honest content failed can_fail left old d P) (sym same) (writes_none never))

  -- the same calls, with their end told in other words
  pub lost_told : {L M P Q : Type 0} {old new : D} → WritesOrLoses L honest content failed can_fail left old new P → (L → M) → (P → Q) → (Q → P) → WritesOrLoses M honest content failed can_fail left old new Q
  lost_told w may to from = record {
    is_lost = w.is_lost;
    loses = λ lost. may (w.loses lost);
    writes = writes_told w.writes (λ told. (told.0, to told.1)) (λ told. (told.0, from told.1));
  }

  -- calls that told no fault of the device
  pub quiet : {L P : Type 0} {old new : D} → WritesOrLoses L honest content failed can_fail left old new P → (P → ⊥) → Writes honest content failed can_fail left old new ⊥
  quiet w never = writes_told w.writes (λ told. never told.1) (λ none. absurd none)

  -- such calls, and then some that may lose an answer
  pub then_lost : {L Q : Type 0} {old mid new : D} → Writes honest content failed can_fail left old mid ⊥ → WritesOrLoses L honest content failed can_fail left mid new Q → WritesOrLoses L honest content failed can_fail left old new Q
  then_lost v w = record { is_lost = w.is_lost; loses = w.loses; writes = writes_both v (λ never. never) w.writes }

  -- the same calls, from what is the same
  pub lost_from : {L Q : Type 0} {old mid new : D} → mid ≡ old → WritesOrLoses L honest content failed can_fail left mid new Q → WritesOrLoses L honest content failed can_fail left old new Q
  lost_from same w = record { is_lost = w.is_lost; loses = w.loses; writes = writes_from same w.writes }

-- only an answer that is still to be read is lost
pub one_lost : {A loses : Type 0} {remaining : A → Option (List ℕ)} {failed : A → ℕ} {can_fail : A → Type 0} (reply : Reply A) → (IsToRead reply → loses) → IsLost remaining failed can_fail reply → Lost loses remaining failed can_fail
one_lost (replies.Reader reader) whole lost = record { may = whole tt; reply = replies.Reader reader; is_lost = lost }
one_lost (replies.Bytes bytes) whole lost = absurd lost
one_lost (replies.Message message) whole lost = absurd lost

-- ---- the device of a shared node at hand

stays : (n : ℕ) (a b : Option ℕ) → Spends n a b → a ≡ None → b ≡ None
stays n None b spent is = spent
stays n (Some w) b spent is = absurd (cc is)

some_set : {n : ℕ} (a : Option ℕ) → a ≡ Some n → a ≢ None
some_set a is none = let e = sym is in cc

-- files that it has, with a stop or without one
pub stops : {S D : Type 0} {honest : Type 0} {content : D → FileMap} {failed : D → ℕ} {can_fail : D → Type 0} {left : D → Option ℕ} {P : Type 0} (files : S → D) (old new : S)
    → Writes honest content failed can_fail left (files old) (files new) P → Wears (λ s. failed (files s)) (λ s. can_fail (files s) ⊎ (left (files s) ≢ None)) unstopped old new P
stops {can_fail = can_fail} {left = left} {P = P} files old new w = record {
  later = w.later;
  calm = calm_of;
  could = λ told. could_of (w.could told);
  failed_now = w.failed_now;
  unspent = refl;
}
  where
    could_of : can_fail (files old) ⊎ (left (files old) ≡ Some w.made) → can_fail (files old) ⊎ (left (files old) ≢ None)
    could_of (inl can) = inl can
    could_of (inr is) = inr (some_set (left (files old)) is)

    calm_by : can_fail (files old) ⊎ P → can_fail (files old) ⊎ (left (files old) ≢ None)
    calm_by (inl can) = inl can
    calm_by (inr told) = could_of (w.could told)

    calm_of : can_fail (files new) ⊎ (left (files new) ≢ None) → can_fail (files old) ⊎ (left (files old) ≢ None)
    calm_of (inl can) = calm_by (w.calm can)
    calm_of (inr set) = inr (λ none. set (stays w.made (left (files old)) (left (files new)) w.spent none))

-- ---- what ends a call, as the exchange tells it

-- a fetch that doesn't begin
pub begins_calm : (e : CloneFault) → (e ≡ Node Down) ⊎ (e ≡ of_device NoMemory) → IsOfDevice e → ⊥
begins_calm e (inl is) told = subst IsOfDevice is told
begins_calm e (inr is) told = let never : IsOfDevice (of_device NoMemory) = subst IsOfDevice is told in true≢false (sym never)

pub settled_to : (R : Type 0) (received : Result Received CloneFault) → TellsDevice received → TellsClone (settled {R = R} received)
settled_to R (Ok (Moved moved left)) told = told
settled_to R (Ok (Send bytes)) told = told
settled_to R (Ok (Reported moved refused)) told = told
settled_to R (Err fault) told = told

pub settled_from : (R : Type 0) (received : Result Received CloneFault) → TellsClone (settled {R = R} received) → TellsDevice received
settled_from R (Ok (Moved moved left)) told = told
settled_from R (Ok (Send bytes)) told = told
settled_from R (Ok (Reported moved refused)) told = told
settled_from R (Err fault) told = told

-- a message that was read, or is no report
pub read_calm : (R : Type 0) (message : Message) → TellsClone (report_in {R = R} message) → ⊥
read_calm R (of.Report report) told = told
read_calm R (of.List it) told = told
read_calm R (of.Advert it) told = told
read_calm R (of.Want it) told = told
read_calm R (of.Pack it) told = told
read_calm R (of.Push it) told = told
read_calm R (of.Error it) told = told

pub read_own : (R : Type 0) (message : Message) → IfErr (report_in {R = R} message) IsOwn
read_own R (of.Report report) = tt
read_own R (of.List it) = tt
read_own R (of.Advert it) = tt
read_own R (of.Want it) = tt
read_own R (of.Pack it) = tt
read_own R (of.Push it) = tt
read_own R (of.Error it) = tt

module _ {R : Type 0} where
  pub settled_own : (is_device : R → Type 0) (received : Result Received CloneFault) → TellsPeer is_device (settled received) → ⊥
  settled_own is_device (Ok (Moved moved left)) told = told
  settled_own is_device (Ok (Send bytes)) told = told
  settled_own is_device (Ok (Reported moved refused)) told = told
  settled_own is_device (Err fault) told = told

  end_same : (x y : Result Fetched (ExchangeEnd R)) → ◌≡◌ {A = Next R} (End x) (End y) → x ≡ y
  end_same x y e = cc

  -- how a round goes on after its first message, at its end or not
  pub record EndsSo (is_device : R → Type 0) (received : Result Received CloneFault) (result : Result Fetched (ExchangeEnd R)) : Type 0 where
    pub to : TellsDevice received → TellsClone result
    pub from : TellsClone result → TellsDevice received
    pub own : TellsPeer is_device result → ⊥

  pub ends_so : (is_device : R → Type 0) (received : Result Received CloneFault) (result : Result Fetched (ExchangeEnd R)) → next_of received ≡ End result → EndsSo is_device received result
  ends_so is_device (Ok (Send bytes)) result e = absurd (cc)
  ends_so is_device (Ok (Moved moved left)) result e =
      subst (EndsSo is_device (Ok (Moved moved left))) (end_same (Ok (record { moved = moved; left = left })) result e) (record { to = λ told. told; from = λ told. told; own = λ told. told })
  ends_so is_device (Ok (Reported moved refused)) result e =
      subst (EndsSo is_device (Ok (Reported moved refused))) (end_same (Err Stray) result e) (record { to = λ told. told; from = λ told. told; own = λ told. told })
  ends_so is_device (Err fault) result e =
      subst (EndsSo is_device (Err fault)) (end_same (Err (Clone fault)) result e) (record { to = λ told. told; from = λ told. told; own = λ told. told })

  pub asks_on : (received : Result Received CloneFault) (want : Vec ℕ Global) → next_of {R = R} received ≡ Ask want → TellsDevice received → ⊥
  asks_on (Ok received) want e told = told
  asks_on (Err fault) want e told = absurd (cc e)

  -- whether a clone took a report
  taken_same : (x y : ExchangeEnd R) → ◌≡◌ {A = Result (Unit {0}) (ExchangeEnd R)} (Err x) (Err y) → x ≡ y
  taken_same x y e = cc

  pub record TakesSo (received : Result Received CloneFault) (end : ExchangeEnd R) : Type 0 where
    pub to : TellsDevice received → IsOfClone end
    pub from : IsOfClone end → TellsDevice received
    pub own : IsOwn end

  pub takes_so : (received : Result Received CloneFault) (end : ExchangeEnd R) → taken received ≡ Err end → TakesSo received end
  takes_so (Ok (Send bytes)) end e = subst (TakesSo (Ok (Send bytes))) (taken_same Stray end e) (record { to = λ told. told; from = λ told. told; own = tt })
  takes_so (Ok (Moved moved left)) end e = subst (TakesSo (Ok (Moved moved left))) (taken_same Stray end e) (record { to = λ told. told; from = λ told. told; own = tt })
  takes_so (Ok (Reported moved refused)) end e = absurd (cc e)
  takes_so (Err fault) end e = subst (TakesSo (Err fault)) (taken_same (Clone fault) end e) (record { to = λ told. told; from = λ told. told; own = tt })

  pub taken_quiet : (received : Result Received CloneFault) → taken {R = R} received ≡ Ok tt → TellsDevice received → ⊥
  taken_quiet (Ok received) e told = told
  taken_quiet (Err fault) e told = absurd (cc e)

  -- no end of its own is the shared node's
  pub own_peer : {T : Type 0} (is_device : R → Type 0) (result : Result T (ExchangeEnd R)) → IfErr result IsOwn → TellsPeer is_device result → ⊥
  own_peer is_device (Ok x) own told = told
  own_peer is_device (Err (Clone fault)) own told = told
  own_peer is_device (Err (Shared refusal)) own told = own
  own_peer is_device (Err Stray) own told = told
  own_peer is_device (Err Memory) own told = told
