-- That what comes, by bytes or a reader, is served: for the calls that take it and reply.
use Rattle.std.proofs.Common.{◌≡◌, inl, inr, ℕ, Bool, true, false, List, Option, Some, None, Result, Ok, Err, Vec, refl, subst, sym}
use Rattle.std.specs.Global.{Global}
use Rattle.std.specs.Prelude.{IfErr, IfOk}
use Rattle.vc_files.specs.FileMap.{FileMap}
use Rattle.vc_message.specs.AnyMessage.{MessageText, a_list, a_pack, a_push, a_report, a_want, an_advert, an_error}
use Rattle.vc_message.specs.Coming.{Came, a_message, cut_short, lost, no_message, nothing_came}
use Rattle.vc_model.specs.SharedCall.{SharedCall}
use Rattle.vc_model.specs.SharedCall.SharedCall.{Accept}
use Rattle.vc_local.specs.Clean.{KeepsClean}
use Rattle.vc_push_rules.specs.Session.{SessionText}
use Rattle.vc_shared.specs.Accepting.{IsAnsweredBytes, IsAnsweredMessage, IsRefusedMessage}
use Rattle.vc_shared.specs.Arriving.{AcceptsFrom, AnswersKnown, IsAnsweredThere, IsKnown, IsTold, ToldAs}
use Rattle.vc_shared.specs.Arriving.{IsRefusedThere as IsRefusedComing}
use Rattle.vc_shared.specs.Calls.{AnswersShared}
use Rattle.vc_shared.specs.Serving.{IsAnswered, IsListed}
use Rattle.vc_shared.specs.declared.accept_fault.AcceptFault.{AcceptFault}
use Rattle.vc_shared.specs.declared.accept_fault.AcceptFault.TheVariants.{Node, ReadFailed}
use Rattle.vc_shared.specs.declared.accepting.Accepted.{Accepted}
use Rattle.vc_shared.specs.declared.accepting.Accepted.TheVariants.{Slot, Reply as Told}
use Rattle.vc_shared.specs.declared.fault.SharedFault.{SharedFault}
use Rattle.vc_server.proofs.ServingLemmas.{by_itself, on_the_way, refused_at_once}
use Rattle.vc_server.specs.Coming.{IsRefusedThere, Reply, ServesAs, ServesFrom, ServesKnown}
use Rattle.vc_server.specs.Refusals.{IsRefusedOnTheWay}
use Rattle.vc_server.specs.Replies.{IsRepliedThere, IsReplyOf, IsReplyTo, IsReplyToBytes}
use Rattle.vc_server.specs.Serving.{RepliesTo, Serves}

-- the bytes that were replied, or why there are none
abbrev pub replied : Result (Vec ℕ Global) SharedFault → Reply
replied (Ok reply) = Ok (Some reply)
replied (Err e) = Err (Node e)

-- ---- what is told, in words of the reply
none_told : (was_up : Bool) (came : Came) → IsTold {T = Accepted} was_up came (Ok None) → IsTold {T = Vec ℕ Global} was_up came (Ok None)
none_told true (a_message text) told = absurd told
none_told true nothing_came told = tt
none_told true (no_message fault) told = absurd told
none_told true lost told = absurd told
none_told true cut_short told = absurd told
none_told false (a_message text) told = absurd told
none_told false nothing_came told = tt
none_told false (no_message fault) told = absurd told
none_told false lost told = absurd told
none_told false cut_short told = absurd told

fault_told : (was_up : Bool) (came : Came) (e : AcceptFault) → IsTold {T = Accepted} was_up came (Err e) → IsTold {T = Vec ℕ Global} was_up came (Err e)
fault_told true (a_message text) (Node e) told = tt
fault_told true (a_message text) ReadFailed told = absurd told
fault_told true nothing_came e told = absurd told
fault_told true (no_message fault) (Node e) told = told
fault_told true (no_message fault) ReadFailed told = absurd told
fault_told true lost (Node e) told = absurd told
fault_told true lost ReadFailed told = tt
fault_told true cut_short (Node e) told = told
fault_told true cut_short ReadFailed told = absurd told
fault_told false (a_message text) (Node e) told = told
fault_told false (a_message text) ReadFailed told = absurd told
fault_told false nothing_came e told = absurd told
fault_told false (no_message fault) (Node e) told = told
fault_told false (no_message fault) ReadFailed told = absurd told
fault_told false lost (Node e) told = absurd told
fault_told false lost ReadFailed told = tt
fault_told false cut_short (Node e) told = told
fault_told false cut_short ReadFailed told = absurd told

-- what was taken is a message, by a node that is up
pub taken_up : (was_up : Bool) (came : Came) (accepted : Accepted) → IsTold was_up came (Ok (Some accepted)) → was_up ≡ true
taken_up true came accepted told = refl
taken_up false (a_message text) accepted told = absurd told
taken_up false nothing_came accepted told = absurd told
taken_up false (no_message fault) accepted told = absurd told
taken_up false lost accepted told = absurd told
taken_up false cut_short accepted told = absurd told

reply_told : (was_up : Bool) (came : Came) (accepted : Accepted) (q : Result (Vec ℕ Global) SharedFault) → IsTold was_up came (Ok (Some accepted)) → IsTold was_up came (replied q)
reply_told true (a_message text) accepted (Ok reply) told = tt
reply_told true (a_message text) accepted (Err e) told = tt
reply_told true nothing_came accepted q told = absurd told
reply_told true (no_message fault) accepted q told = absurd told
reply_told true lost accepted q told = absurd told
reply_told true cut_short accepted q told = absurd told
reply_told false (a_message text) accepted q told = absurd told
reply_told false nothing_came accepted q told = absurd told
reply_told false (no_message fault) accepted q told = absurd told
reply_told false lost accepted q told = absurd told
reply_told false cut_short accepted q told = absurd told

-- ---- why there is no reply
none_refused : (old : FileMap) (slots : List (Option SessionText)) (came : Came) → IsRefusedThere came old slots (Ok None)
none_refused old slots (a_message text) = tt
none_refused old slots nothing_came = tt
none_refused old slots (no_message fault) = tt
none_refused old slots lost = tt
none_refused old slots cut_short = tt

fault_refused : (old : FileMap) (slots : List (Option SessionText)) (came : Came) (e : AcceptFault) → IsRefusedComing came old slots (Err e) → IsRefusedThere came old slots (Err e)
fault_refused old slots (a_message text) (Node e) why = by_itself (IsRefusedMessage old slots text) old e (inr why)
fault_refused old slots (a_message text) ReadFailed why = tt
fault_refused old slots nothing_came e why = tt
fault_refused old slots (no_message fault) e why = tt
fault_refused old slots lost e why = tt
fault_refused old slots cut_short e why = tt

reply_refused : (old mid : FileMap) (slots : List (Option SessionText)) (came : Came) (q : Result (Vec ℕ Global) SharedFault) → KeepsClean old mid → IfErr q (IsRefusedOnTheWay mid) → IsRefusedThere came old slots (replied q)
reply_refused old mid slots (a_message text) (Ok reply) clean why = tt
reply_refused old mid slots (a_message text) (Err e) clean why = on_the_way (IsRefusedMessage old slots text) old mid (Err e) clean why
reply_refused old mid slots nothing_came q clean why = tt
reply_refused old mid slots (no_message fault) q clean why = tt
reply_refused old mid slots lost q clean why = tt
reply_refused old mid slots cut_short q clean why = tt

-- ---- what is replied, over any files
none_replied : (old : FileMap) (came : Came) → IsRepliedThere came old (Ok None)
none_replied old (a_message text) = tt
none_replied old nothing_came = tt
none_replied old (no_message fault) = tt
none_replied old lost = tt
none_replied old cut_short = tt

fault_replied : (old : FileMap) (came : Came) (e : AcceptFault) → IsRepliedThere came old (Err e)
fault_replied old (a_message text) e = tt
fault_replied old nothing_came e = tt
fault_replied old (no_message fault) e = tt
fault_replied old lost e = tt
fault_replied old cut_short e = tt

module _ (old mid : FileMap) (slots mids : List (Option SessionText)) where
  replied_by : (text : MessageText) (accepted : Accepted) (reply : Vec ℕ Global) → IsAnsweredMessage old mid slots mids text accepted → IsReplyOf accepted reply → IsReplyTo old text reply
  replied_by a_list (Told bytes) reply so is = subst (λ (b : Vec ℕ Global). IsListed old b.items) (sym is) so
  replied_by a_list (Slot k) reply so is = absurd so
  replied_by (a_want want) (Told bytes) reply so is = subst (λ (b : Vec ℕ Global). IsAnswered old want b.items) (sym is) so
  replied_by (a_want want) (Slot k) reply so is = absurd so
  replied_by (a_push push) accepted reply so is = tt
  replied_by (an_advert advert) accepted reply so is = absurd so
  replied_by (a_pack pack) accepted reply so is = absurd so
  replied_by (a_report report) accepted reply so is = absurd so
  replied_by (an_error text) accepted reply so is = absurd so

  pub bytes_replied : (bytes : List ℕ) (accepted : Accepted) (r : Result (Vec ℕ Global) SharedFault) → IsAnsweredBytes old mid slots mids bytes accepted → IfOk r (IsReplyOf accepted) → IfOk r (IsReplyToBytes old bytes)
  bytes_replied bytes accepted (Ok reply) (text, spelled, so) is = (text, spelled, replied_by text accepted reply so is)
  bytes_replied bytes accepted (Err e) so is = tt

  replied_there : (came : Came) (accepted : Accepted) (q : Result (Vec ℕ Global) SharedFault) → IsAnsweredThere came old mid slots mids (Ok (Some accepted)) → IfOk q (IsReplyOf accepted) → IsRepliedThere came old (replied q)
  replied_there (a_message text) accepted (Ok reply) so is = replied_by text accepted reply so is
  replied_there (a_message text) accepted (Err e) so is = tt
  replied_there nothing_came accepted q so is = tt
  replied_there (no_message fault) accepted q so is = tt
  replied_there lost accepted q so is = tt
  replied_there cut_short accepted q so is = tt

-- of a push that was opened nothing is said
pub slot_replied : (k : ℕ) (r : Result (Vec ℕ Global) SharedFault) → IfOk r (IsReplyOf (Slot k))
slot_replied k (Ok reply) = tt
slot_replied k (Err e) = tt

module _ (honest : Type 0) (before rest : Option (List ℕ)) (old new : FileMap) (slots after : List (Option SessionText)) (was_up is_up : Bool) where
  -- ---- nothing was taken
  pub none_served : AcceptsFrom honest before rest old new slots after was_up is_up (Ok None) → ServesFrom honest before rest old new slots after was_up is_up (Ok None)
  none_served a = record {
    came = a.came;
    is_come = a.is_come;
    told = none_told was_up a.came a.told;
    refused = λ h was. none_refused old slots a.came;
    replied = λ h. none_replied old a.came;
    serves = λ h call which. tt;
  }

  pub none_known : AnswersKnown honest before rest old new slots after was_up is_up (Ok None) → ServesKnown honest before rest old new slots after was_up is_up (Ok None)
  none_known known m bytes behind is reads = absurd (known m bytes behind is reads)

  as_served : (call : SharedCall) (e : AcceptFault) → AnswersShared call (ToldAs (Err e)) old new slots after was_up is_up → ServesAs call (Err e) old new slots after was_up is_up
  as_served call (Node e) answers = refused_at_once call old new slots after was_up is_up e answers
  as_served call ReadFailed answers = tt

  pub fault_served : (e : AcceptFault) → AcceptsFrom honest before rest old new slots after was_up is_up (Err e) → ServesFrom honest before rest old new slots after was_up is_up (Err e)
  fault_served e a = record {
    came = a.came;
    is_come = a.is_come;
    told = fault_told was_up a.came e a.told;
    refused = λ h was. fault_refused old slots a.came e (a.refused h was);
    replied = λ h. fault_replied old a.came e;
    serves = λ h call which. as_served call e (a.answers h call which);
  }

  pub fault_known : (e : AcceptFault) → AnswersKnown honest before rest old new slots after was_up is_up (Err e) → ServesKnown honest before rest old new slots after was_up is_up (Err e)
  fault_known e known m bytes behind is reads = by e (known m bytes behind is reads)
    where
      by : (e : AcceptFault) → IsKnown {T = Accepted} honest was_up m behind rest (λ call. AnswersShared call (ToldAs (Err e)) old new slots after was_up is_up) (Err e)
          → IsKnown {T = Vec ℕ Global} honest was_up m behind rest (λ call. ServesAs call (Err e) old new slots after was_up is_up) (Err e)
      by ReadFailed knows = tt
      by (Node e) (left, answers) = (left, λ h which. as_served (Accept m) (Node e) (answers h which))

  -- ---- a message was, and replied to
  module _ (mid : FileMap) (mids : List (Option SessionText)) (mid_up : Bool) (accepted : Accepted) (q : Result (Vec ℕ Global) SharedFault) (up : mid_up ≡ true) (replies : honest → RepliesTo accepted q mid new mids after is_up) where
    as_replied : (call : SharedCall) (q : Result (Vec ℕ Global) SharedFault) → Serves call q old new slots after was_up is_up → ServesAs call (replied q) old new slots after was_up is_up
    as_replied call (Ok reply) serves = serves
    as_replied call (Err e) serves = serves

    pub reply_served : IfOk q (IsReplyOf accepted) → (honest → KeepsClean old mid) → (honest → IfErr q (IsRefusedOnTheWay mid)) → AcceptsFrom honest before rest old mid slots mids was_up mid_up (Ok (Some accepted)) → ServesFrom honest before rest old new slots after was_up is_up (replied q)
    reply_served told clean why a = record {
      came = a.came;
      is_come = a.is_come;
      told = reply_told was_up a.came accepted q a.told;
      refused = λ h was. reply_refused old mid slots a.came q (clean h) (why h);
      replied = λ h. replied_there old mid slots mids a.came accepted q (a.answered h) told;
      serves = λ h call which. as_replied call q ((replies h).serves call old slots was_up mid_up up (a.answers h call which));
    }

    pub reply_known : AnswersKnown honest before rest old mid slots mids was_up mid_up (Ok (Some accepted)) → ServesKnown honest before rest old new slots after was_up is_up (replied q)
    reply_known known m bytes behind is reads =
        let knows = known m bytes behind is reads in
        by q knows.0 (λ h. as_replied (Accept m) q ((replies h).serves (Accept m) old slots was_up mid_up up (knows.1 h)))
      where
        by : (q : Result (Vec ℕ Global) SharedFault) → rest ≡ Some behind → (honest → ServesAs (Accept m) (replied q) old new slots after was_up is_up)
            → IsKnown honest was_up m behind rest (λ call. ServesAs call (replied q) old new slots after was_up is_up) (replied q)
        by (Ok reply) left serves = (left, serves)
        by (Err e) left serves = (inl left, λ h which. serves h)
