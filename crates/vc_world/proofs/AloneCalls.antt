-- What came back to a clone, taken as a call of the machine, whoever sent it.
use Rattle.std.proofs.Common.{◌≡◌, ◌≢◌, inl, inr, ℕ, true, List, [], Option, Some, Result, Ok, Err, refl, sym, ap, subst}
use Rattle.std.specs.Global.{Global}
use Rattle.std.specs.Prelude.{Vec}
use Rattle.vc_files.specs.FileMap.{FileMap}
use Rattle.vc_files.specs.declared.faults.Fault.{Fault as FilesFault}
use Rattle.vc_local.specs.Machine.{failure_of}
use Rattle.vc_message.specs.AnyMessage.{MessageText, any_step, beginning}
use Rattle.vc_message.specs.AnyView.{message_text}
use Rattle.vc_message.specs.Coming.{Came, IsCome, a_message, cut_short, lost, no_message, nothing_came}
use Rattle.vc_message.specs.Incoming.{TakesFault, TakesMessage}
use Rattle.vc_message.specs.Machine.{IsUnread, Reads, TextOf, pkt_number}
use Rattle.vc_message.specs.Read.{WasRead}
use Rattle.vc_message.specs.declared.message.Message.{Message as AnyMessage}
use Rattle.vc_message.proofs.MachineTexts.{named_text, text_is}
use Rattle.vc_message.proofs.Readings.{ReadOr, every_reading, read_named}
use Rattle.vc_model.specs.CloneCall.{CloneCall}
use Rattle.vc_model.specs.CloneCall.CloneCall.{Asks, Command, Open, Prune, Receive}
use Rattle.vc_model.specs.Message.{Message}
use Rattle.vc_model.specs.Node.{Answer}
use Rattle.vc_model.specs.Node.Reply.{Moved as MovedRefs, Reported as ReportedRefs, Sends}
use Rattle.vc_model.specs.Question.Question.{Unread as AsksUnread}
use Rattle.vc_node.proofs.ReceivingClone.{unread_leads, up_answers}
use Rattle.vc_node.specs.Arriving.{IsCallOf, IsTold, ToldAs}
use Rattle.vc_node.specs.CloneCalls.{ReceivedAs}
use Rattle.vc_node.specs.CloneFaults.{fault_answer, of_device}
use Rattle.vc_node.specs.Held.{Held}
use Rattle.vc_node.specs.Node.{AnswersCall, ReceivesNext}
use Rattle.vc_node.specs.declared.clone_fault.CloneFault.{CloneFault}
use Rattle.vc_node.specs.declared.clone_fault.CloneFault.TheVariants.{Unread}
use Rattle.vc_node.specs.declared.exchanging.Received.{Received}
use Rattle.vc_node.specs.declared.exchanging.Received.TheVariants.{Moved, Reported, Send}
use Rattle.vc_node.specs.declared.receive_fault.ReceiveFault.{ReceiveFault}
use Rattle.vc_node.specs.declared.receive_fault.ReceiveFault.TheVariants.{Node}
use Rattle.vc_pkt.specs.declared.fault.PktFault.{PktFault}
use Rattle.vc_push.specs.declared.report.Report.{Report as PushReport}
use Rattle.vc_rules.specs.Git.{git}
use Rattle.vc_trail.specs.Trail.{IsBrought}
use Rattle.vc_world.specs.Alone.{ComesAs, IsAnyway, IsFirst, RefusesUnread, ReportsFirst, ReportsReply, ShowsReport, TakesFirst, TakesReply}
use Rattle.vc_world.specs.Pushing.{TakesAnswer, taken}
use Rattle.vc_world.specs.declared.ending.ExchangeEnd.{ExchangeEnd}
use Rattle.vc_world.specs.declared.ending.ExchangeEnd.TheVariants.{Clone}
use Rattle.vc_world.specs.declared.peer.Reply.TheVariants as replies

-- Bytes come as one call or another, of which this holds.
record Letter (bytes : List ℕ) (P : CloneCall → Type 0) : Type 0 where
  call : CloneCall
  comes : ComesAs bytes call
  brought : IsBrought git call
  holds : P call

letter : (bytes : List ℕ) (P : CloneCall → Type 0) → ((m : Message) → Reads bytes m → P (Receive m)) → ((n : ℕ) → IsUnread bytes n → P (Asks (AsksUnread n))) → Letter bytes P
letter bytes P reads unread = by (every_reading bytes)
  where
    by : ReadOr bytes → Letter bytes P
    by (inl (m, r)) = record { call = Receive m; comes = inl (m, r, refl); brought = read_named bytes m r; holds = reads m r }
    by (inr (n, u)) = record { call = Asks (AsksUnread n); comes = inr (n, u, refl); brought = tt; holds = unread n u }

-- The machine's message of a text that was read.
record Meant (text : MessageText) : Type 0 where
  message : Message
  is : TextOf message text

meant : (text : MessageText) → WasRead text → Meant text
meant text (bytes, (lines, each, s)) = let m = text_is text lines s in record { message = m.0; is = m.1 }

-- a refusal that is told, as the answer to a push
fault_reports : (R : Type 0) (call : CloneCall) (e : CloneFault) (a : Answer) → a ≡ fault_answer e → ShowsReport {R = R} call (Err (Clone e)) a
fault_reports R (Receive m) e a same = λ told. same
fault_reports R (Command t) e a same = inr (e, refl, same)
fault_reports R (Asks q) e a same = inr (e, refl, same)
fault_reports R Prune e a same = inr (e, refl, same)
fault_reports R Open e a same = inr (e, refl, same)

-- a fault is answered whatever comes
pub of_fault : (e : CloneFault) (f : FilesFault) → e ≡ of_device f → IsAnyway (fault_answer e)
of_fault e f is = subst (λ (x : CloneFault). IsAnyway (fault_answer x)) (sym is) (inl (failure_of f, refl))

module _ {F : Type 0} (content : F → FileMap) (was is : Held F) where
  -- what a call shows, in other words
  shows_more : (Shows More : Answer → Option Message → Type 0) (call : CloneCall) → AnswersCall content call Shows was is → ((a : Answer) (sends : Option Message) → Shows a sends → More a sends) → AnswersCall content call More was is
  shows_more Shows More call k to = record {
    each = λ awaited n waits held. let w = k.each awaited n waits held in (w.0, w.1, w.2, w.3, w.4, w.5, to w.2 w.3 w.6, w.7);
  }

  -- ---- what is received

  pub bytes_taken : {A : Type 0} (remaining : A → Option (List ℕ)) (bytes : Vec ℕ Global) (now : List ℕ) (result : Result Received CloneFault) → now ≡ bytes.items
      → ((m : Message) → Reads now m → AnswersCall content (Receive m) (ReceivedAs result) was is) → ((n : ℕ) → IsUnread now n → AnswersCall content (Asks (AsksUnread n)) (ReceivedAs result) was is)
      → TakesReply content remaining (replies.Bytes bytes) result was is
  bytes_taken remaining bytes now result e reads unread =
      let w = letter now (λ call. AnswersCall content call (ReceivedAs result) was is) reads unread in
      record {
        call = w.call;
        brought = w.brought;
        answers = shows_more (ReceivedAs result) (λ a sends. ComesAs bytes.items w.call × ReceivedAs result a sends) w.call w.holds (λ a sends shown. (subst (λ b. ComesAs b w.call) e w.comes, shown));
      }

  pub message_taken : {A : Type 0} (remaining : A → Option (List ℕ)) (message : AnyMessage) (result : Result Received CloneFault) → WasRead (message_text message)
      → ((m : Message) → TextOf m (message_text message) → AnswersCall content (Receive m) (ReceivedAs result) was is) → TakesReply content remaining (replies.Message message) result was is
  message_taken remaining message result read takes =
      let w = meant (message_text message) read in
      record {
        call = Receive w.message;
        brought = named_text (message_text message) w.message w.is;
        answers = shows_more (ReceivedAs result) (λ a sends. ((m : Message) × TextOf m (message_text message) × (Receive w.message ≡ Receive m)) × ReceivedAs result a sends) (Receive w.message) (takes w.message w.is)
            (λ a sends shown. ((w.message, w.is, refl), shown));
      }

  module _ (before rest : Option (List ℕ)) where
    -- the calls that the event can be, and what is told of it
    abbrev Answering : Came → Result (Option Received) ReceiveFault → Type 0
    Answering came result = (call : CloneCall) → IsCallOf true came call → AnswersCall content call (ToldAs result) was is

    whole : (text : MessageText) (result : Result (Option Received) ReceiveFault) (received : Result Received CloneFault) → ((a : Answer) (sends : Option Message) → ToldAs result a sends → ReceivedAs received a sends)
        → TakesMessage before rest text → Answering (a_message text) result → TakesFirst content before received was is
    whole text result received same come answers =
        let m = come.1 in
        record {
          call = Receive m.0;
          brought = named_text text m.0 m.1;
          answers = shows_more (ToldAs result) (λ a sends. IsFirst before (Receive m.0) a × ReceivedAs received a sends) (Receive m.0) (answers (Receive m.0) (m.0, m.1, refl)) (λ a sends shown. (inl (rest, a_message text, come, (m.0, m.1, refl)), same a sends shown));
        }

    ok_by : (received : Received) (came : Came) → IsTold true came (Ok (Some received)) → IsCome before rest came → Answering came (Ok (Some received)) → TakesFirst content before (Ok received) was is
    ok_by received (a_message text) told come answers = whole text (Ok (Some received)) (Ok received) (λ a sends shown. shown) come answers
    ok_by received nothing_came told come answers = absurd told
    ok_by received (no_message fault) told come answers = absurd told
    ok_by received lost told come answers = absurd told
    ok_by received cut_short told come answers = absurd told

    err_by : (e : CloneFault) (came : Came) → IsTold true came (Err (Node e)) → IsCome before rest came → Answering came (Err (Node e)) → TakesFirst content before (Err e) was is
    err_by e (a_message text) told come answers = whole text (Err (Node e)) (Err e) (λ a sends shown. shown) come answers
    err_by e (no_message fault) told come answers = record {
      call = Asks (AsksUnread (pkt_number fault));
      brought = tt;
      answers = shows_more (ToldAs (Err (Node e))) (λ a sends. IsFirst before (Asks (AsksUnread (pkt_number fault))) a × ReceivedAs (Err e) a sends) (Asks (AsksUnread (pkt_number fault))) (answers (Asks (AsksUnread (pkt_number fault))) refl) (λ a sends shown. (inl (rest, no_message fault, come, refl), shown));
    }
    err_by e cut_short told come answers =
        let w = letter come.0 (λ call. AnswersCall content call (ToldAs (Err (Node e))) was is) (λ m reads. answers (Receive m) (λ never. cc never)) (λ n unread. answers (Asks (AsksUnread n)) (λ never. cc never)) in
        record {
          call = w.call;
          brought = w.brought;
          answers = shows_more (ToldAs (Err (Node e))) (λ a sends. IsFirst before w.call a × ReceivedAs (Err e) a sends) w.call w.holds (λ a sends shown. (inr (come.0, w.comes, subst IsAnyway (sym shown.answer) (of_fault e told.0 told.1)), shown));
        }
    err_by e nothing_came told come answers = absurd told
    err_by e lost told come answers = absurd told

    pub some_taken : (honest : Type 0) (found : Option Received) (received : Received) → found ≡ Some received → honest → was.is_up ≡ true → ReceivesNext honest content before rest was is (Ok found) → TakesFirst content before (Ok received) was is
    some_taken honest found received e h up r =
        ok_by received r.came (subst (λ b. IsTold b r.came (Ok (Some received))) up (subst (λ (f : Option Received). IsTold was.is_up r.came (Ok f)) e r.told)) r.is_come
        (λ call is_call. subst (λ (f : Option Received). AnswersCall content call (ToldAs (Ok f)) was is) e (r.answers h call (subst (λ b. IsCallOf b r.came call) (sym up) is_call)))

    pub none_taken : (honest : Type 0) (fault : ReceiveFault) (e : CloneFault) → fault ≡ Node e → honest → was.is_up ≡ true → ReceivesNext honest content before rest was is (Err fault) → TakesFirst content before (Err e) was is
    none_taken honest fault e same h up r =
        err_by e r.came (subst (λ b. IsTold b r.came (Err (Node e))) up (subst (λ (f : ReceiveFault). IsTold was.is_up r.came (Err f)) same r.told)) r.is_come
        (λ call is_call. subst (λ (f : ReceiveFault). AnswersCall content call (ToldAs (Err f)) was is) same (r.answers h call (subst (λ b. IsCallOf b r.came call) (sym up) is_call)))

    -- whatever it was, the answer is this
    pub anyway_taken : (e : CloneFault) → IsAnyway (fault_answer e) → ((call : CloneCall) → call ≢ Open → AnswersCall content call (ReceivedAs (Err e)) was is) → TakesFirst content before (Err e) was is
    anyway_taken e anyway answers =
        let w = letter [] (λ call. AnswersCall content call (ReceivedAs (Err e)) was is) (λ m reads. answers (Receive m) (λ never. cc never)) (λ n unread. answers (Asks (AsksUnread n)) (λ never. cc never)) in
        record {
          call = w.call;
          brought = w.brought;
          answers = shows_more (ReceivedAs (Err e)) (λ a sends. IsFirst before w.call a × ReceivedAs (Err e) a sends) w.call w.holds (λ a sends shown. (inr ([], w.comes, subst IsAnyway (sym shown.answer) anyway), shown));
        }

  -- ---- what is taken as the answer to a push

  pub anyway_reported : (R : Type 0) (before : Option (List ℕ)) (e : CloneFault) → IsAnyway (fault_answer e) → ((call : CloneCall) → call ≢ Open → AnswersCall content call (ReceivedAs (Err e)) was is) → ReportsFirst {R = R} content before (Err (Clone e)) was is
  anyway_reported R before e anyway answers =
      let w = letter [] (λ call. AnswersCall content call (ReceivedAs (Err e)) was is) (λ m reads. answers (Receive m) (λ never. cc never)) (λ n unread. answers (Asks (AsksUnread n)) (λ never. cc never)) in
      record {
        call = w.call;
        brought = w.brought;
        answers = shows_more (ReceivedAs (Err e)) (λ a sends. IsFirst before w.call a × ShowsReport {R = R} w.call (Err (Clone e)) a) w.call w.holds (λ a sends shown. (inr ([], w.comes, subst IsAnyway (sym shown.answer) anyway), fault_reports R w.call e a shown.answer));
      }

  module _ {R : Type 0} where
    takes_message : (Is : Answer → Type 0) (m : Message) (result : Result PushReport (ExchangeEnd R)) → ((a : Answer) → Is a) → TakesAnswer content m result was is
        → AnswersCall content (Receive m) (λ a sends. Is a × ShowsReport (Receive m) result a) was is
    takes_message Is m result first takes = shows_more (ReceivedAs takes.received) (λ a sends. Is a × ShowsReport (Receive m) result a) (Receive m) takes.receives (λ a sends shown. (first a, λ told. takes.tells told a sends shown))

    pub bytes_reported : {A : Type 0} (remaining : A → Option (List ℕ)) (bytes : Vec ℕ Global) (now : List ℕ) (result : Result PushReport (ExchangeEnd R)) → now ≡ bytes.items
        → ((m : Message) → Reads now m → TakesAnswer content m result was is) → ((n : ℕ) → IsUnread now n → RefusesUnread content n result was is) → ReportsReply content remaining (replies.Bytes bytes) result was is
    bytes_reported remaining bytes now result e takes unread = by (every_reading now)
      where
        by : ReadOr now → ReportsReply content remaining (replies.Bytes bytes) result was is
        by (inl (m, r)) = record {
          call = Receive m;
          brought = read_named now m r;
          answers = takes_message (λ a. ComesAs bytes.items (Receive m)) m result (λ a. inl (m, subst (λ b. Reads b m) e r, refl)) (takes m r);
        }
        by (inr (n, u)) = record {
          call = Asks (AsksUnread n);
          brought = tt;
          answers = shows_more (λ a sends. ShowsReport (Asks (AsksUnread n)) result a) (λ a sends. ComesAs bytes.items (Asks (AsksUnread n)) × ShowsReport (Asks (AsksUnread n)) result a) (Asks (AsksUnread n)) (unread n u) (λ a sends shown. (inr (n, subst (λ b. IsUnread b n) e u, refl), shown));
        }

    pub message_reported : {A : Type 0} (remaining : A → Option (List ℕ)) (message : AnyMessage) (result : Result PushReport (ExchangeEnd R)) → WasRead (message_text message)
        → ((m : Message) → TextOf m (message_text message) → TakesAnswer content m result was is) → ReportsReply content remaining (replies.Message message) result was is
    message_reported remaining message result read takes =
        let w = meant (message_text message) read in
        record {
          call = Receive w.message;
          brought = named_text (message_text message) w.message w.is;
          answers = takes_message (λ a. (m : Message) × TextOf m (message_text message) × (Receive w.message ≡ Receive m)) w.message result (λ a. (w.message, w.is, refl)) (takes w.message w.is);
        }

    pub first_reported : (before rest : Option (List ℕ)) (message : AnyMessage) (result : Result PushReport (ExchangeEnd R)) → TakesMessage before rest (message_text message)
        → ((m : Message) → TextOf m (message_text message) → TakesAnswer content m result was is) → ReportsFirst content before result was is
    first_reported before rest message result come takes =
        let m = come.1 in
        record {
          call = Receive m.0;
          brought = named_text (message_text message) m.0 m.1;
          answers = takes_message (λ a. IsFirst before (Receive m.0) a) m.0 result (λ a. inl (rest, a_message (message_text message), come, (m.0, m.1, refl))) (takes m.0 m.1);
        }

    -- ---- bytes that are no message

    end_same : (x y : ExchangeEnd R) → ◌≡◌ {A = Result (Unit {0}) (ExchangeEnd R)} (Err x) (Err y) → x ≡ y
    end_same x y e = cc

    unread_end : (n : ℕ) (received : Result Received CloneFault) (end : ExchangeEnd R) → taken received ≡ Err end → (a : Answer) (sends : Option Message) → ReceivedAs received a sends → ShowsReport (Asks (AsksUnread n)) (Err end) a
    unread_end n (Ok (Send bytes)) end e a sends shown = inl (Sends, shown.answer)
    unread_end n (Ok (Moved moved left)) end e a sends shown = inl (MovedRefs moved left, shown.answer)
    unread_end n (Ok (Reported moved refused)) end e a sends shown = absurd (cc)
    unread_end n (Err fault) end e a sends shown = inr (fault, ap Err (sym (end_same (Clone fault) end e)), shown.answer)

    unread_report : (n : ℕ) (received : Result Received CloneFault) (result : Result PushReport (ExchangeEnd R)) → taken {R = R} received ≡ Ok tt → (a : Answer) (sends : Option Message) → ReceivedAs received a sends → ShowsReport (Asks (AsksUnread n)) result a
    unread_report n (Ok (Reported moved refused)) result e a sends shown = inl (ReportedRefs moved refused.items, shown.answer)
    unread_report n (Ok (Send bytes)) result e a sends shown = absurd (cc)
    unread_report n (Ok (Moved moved left)) result e a sends shown = absurd (cc)
    unread_report n (Err fault) result e a sends shown = absurd (cc)

    pub refuses_unread : (n : ℕ) (received : Result Received CloneFault) (end : ExchangeEnd R) → taken received ≡ Err end → AnswersCall content (Asks (AsksUnread n)) (ReceivedAs received) was is → RefusesUnread content n (Err end) was is
    refuses_unread n received end e k = shows_more (ReceivedAs received) (λ a sends. ShowsReport (Asks (AsksUnread n)) (Err end) a) (Asks (AsksUnread n)) k (unread_end n received end e)

    pub takes_unread : (n : ℕ) (received : Result Received CloneFault) (result : Result PushReport (ExchangeEnd R)) → taken {R = R} received ≡ Ok tt → AnswersCall content (Asks (AsksUnread n)) (ReceivedAs received) was is → RefusesUnread content n result was is
    takes_unread n received result e k = shows_more (ReceivedAs received) (λ a sends. ShowsReport (Asks (AsksUnread n)) result a) (Asks (AsksUnread n)) k (unread_report n received result e)

-- a clone that is up refuses them, and stays as it is
unread_answers : {F : Type 0} (content : F → FileMap) (was : Held F) (fault : PktFault) → was.is_up ≡ true → AnswersCall content (Asks (AsksUnread (pkt_number fault))) (ReceivedAs (Err (Unread fault))) was was
unread_answers content was fault up =
    up_answers (Asks (AsksUnread (pkt_number fault))) (Err (Unread fault)) (content was.files) (content was.files) was.awaited was.awaited
    (λ awaited n waits held. unread_leads (content was.files) was.awaited awaited n waits held (pkt_number fault) (ReceivedAs (Err (Unread fault))) (record { answer = refl; sent = refl })) was.is_up was.is_up up up

pub unread_reported : {F : Type 0} (R : Type 0) (content : F → FileMap) (was : Held F) (before rest : Option (List ℕ)) (fault : PktFault) → was.is_up ≡ true → TakesFault any_step beginning before rest fault → ReportsFirst {R = R} content before (Err (Clone (Unread fault))) was was
unread_reported R content was before rest fault up come = record {
  call = Asks (AsksUnread (pkt_number fault));
  brought = tt;
  answers = shows_more content was was (ReceivedAs (Err (Unread fault))) (λ a sends. IsFirst before (Asks (AsksUnread (pkt_number fault))) a × ShowsReport {R = R} (Asks (AsksUnread (pkt_number fault))) (Err (Clone (Unread fault))) a) (Asks (AsksUnread (pkt_number fault))) (unread_answers content was fault up)
      (λ a sends shown. (inl (rest, no_message fault, come, refl), inr (Unread fault, refl, shown.answer)));
}
