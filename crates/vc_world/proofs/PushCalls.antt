-- A push, as real nodes tell of its calls.
use Rattle.std.proofs.Common.{◌≡◌, ℕ, Bool, List, ◌∷◌, Option, Some, None, Result, Ok, Err, inl, inr, map, refl, sym, ap, ◌∙◌, subst, []}
use Rattle.std.specs.Global.{Global}
use Rattle.std.specs.Prelude.{IfErr, IfOk, Vec}
use Rattle.std.proofs.lemmas.Option.{same_Some}
use Rattle.vc_sending.specs.Sending.{machine_items}
use Rattle.vc_sending.specs.declared.item.PushItem.{PushItem}
use Rattle.vc_files.specs.FileMap.{FileMap}
use Rattle.vc_format.specs.Git.{bytes_of_id, id_of_bytes}
use Rattle.vc_message.specs.Machine.{IsReport, IsUnpackedAs, Reads, machine_told}
use Rattle.vc_model.specs.Clone.{CloneNode}
use Rattle.vc_model.specs.Clone.Task.{StartPush}
use Rattle.vc_model.specs.CloneCall.CloneCall.{Command, Receive}
use Rattle.vc_model.specs.Exchange.{PushEnds}
use Rattle.vc_model.specs.Exchange.PushEnds.{failed, pushed}
use Rattle.vc_model.specs.Message.{Message, Told}
use Rattle.vc_model.specs.Message.Message.{Report}
use Rattle.vc_model.specs.Node.{Answer, Failure}
use Rattle.vc_model.specs.Node.Answer.{Did, Fault}
use Rattle.vc_model.specs.Node.Reply.{Moved as MovedRefs, Reported as ReportedRefs, Sends}
use Rattle.vc_model.specs.Refs.{branch}
use Rattle.vc_model.specs.Shared.{SharedNode}
use Rattle.vc_model.proofs.Pushing.{push_ends}
use Rattle.vc_node.specs.CloneCalls.{ReceivedAs, SentAs}
use Rattle.vc_node.specs.CloneFaults.{fault_answer}
use Rattle.vc_node.specs.Held.{Held}
use Rattle.vc_node.specs.declared.clone_fault.CloneFault.{CloneFault}
use Rattle.vc_node.specs.declared.exchanging.Received.{Received}
use Rattle.vc_node.specs.declared.exchanging.Received.TheVariants.{Moved, Reported, Send}
use Rattle.vc_object.specs.declared.id.ObjectId.{ObjectId}
use Rattle.vc_push.specs.Report.{ReportText, ToldText}
use Rattle.vc_push.specs.ReportView.{report_text}
use Rattle.vc_push.specs.declared.report.Report.{Report as PushReport}
use Rattle.vc_values.proofs.GitLaws.{git_rules}
use Rattle.vc_rules.specs.Git.{git}
use Rattle.vc_world.specs.Chains.{CloneMayAnswer, CloneMaySend, MayServe}
use Rattle.vc_world.specs.Chains.MayPushRun.{reported, unreported, unsent}
use Rattle.vc_world.specs.Exchanging.{AnswersPeer, Brings, EndsPush, HoldsClone, IsNoReport, IsOkReport, IsPush, IsSetTo, Leads, PushedAs, PushesOne, ReportsNone}
use Rattle.vc_world.specs.Pushing.{IsUnreadReport, TakesAnswer, taken}
use Rattle.vc_world.specs.declared.ending.ExchangeEnd.{ExchangeEnd}
use Rattle.vc_world.specs.declared.ending.ExchangeEnd.TheVariants.{Clone, Memory, Shared, Stray}
use Rattle.vc_world.specs.declared.peer.Reply.{Reply}
use Rattle.vc_world.proofs.FetchRounds.{clone_undone, did_no_fault, undone_did}
use Rattle.vc_world.proofs.Legs.{Calls, answered, led, refused}
use Rattle.vc_world.proofs.Pushes.{push_comes}
use Rattle.vc_world.proofs.Tracked.{git_can_be_tracked}

end_same : {R : Type 0} (x y : ExchangeEnd R) → ◌≡◌ {A = Result (Unit {0}) (ExchangeEnd R)} (Err x) (Err y) → x ≡ y
end_same x y e = cc

-- ---- what comes of the message that came
module _ {R : Type 0} (told : R → Answer) where
  abbrev pub Tells : Message → Result Received CloneFault → Result PushReport (ExchangeEnd R) → Type 0
  Tells m received result = (a : Answer) (sends : Option Message) → ReceivedAs received a sends → PushedAs told result a (Some m)

  -- no report was taken
  pub tells_none : (m : Message) (received : Result Received CloneFault) (end : ExchangeEnd R) → taken received ≡ Err end → Tells m received (Err end)
  tells_none m (Ok (Send bytes)) end e a sends shown = subst (λ x. PushedAs told (Err x) a (Some m)) (end_same Stray end e) (inl (inl shown.answer))
  tells_none m (Ok (Moved moved left)) end e a sends shown = subst (λ x. PushedAs told (Err x) a (Some m)) (end_same Stray end e) (inl (inr (moved, left, shown.answer)))
  tells_none m (Ok (Reported moved reasons)) end e a sends shown = absurd (cc)
  tells_none m (Err fault) end e a sends shown = subst (λ x. PushedAs told (Err x) a (Some m)) (end_same (Clone fault) end e) shown.answer

  -- a report was taken
  reports : (received : Result Received CloneFault) → taken {R = R} received ≡ Ok tt → (a : Answer) (sends : Option Message) → ReceivedAs received a sends → (moved : ℕ) × (refused : List ℕ) × (a ≡ Did (ReportedRefs moved refused))
  reports (Ok (Send bytes)) e a sends shown = absurd (cc)
  reports (Ok (Moved moved left)) e a sends shown = absurd (cc)
  reports (Ok (Reported moved reasons)) e a sends shown = (moved, reasons.items, shown.answer)
  reports (Err fault) e a sends shown = absurd (cc)

  pub tells_report : (m : Message) (received : Result Received CloneFault) (result : Result PushReport (ExchangeEnd R)) → taken {R = R} received ≡ Ok tt
      → IfOk result (λ report. IsReport m (report_text report)) → IfErr result (IsUnreadReport m) → Tells m received result
  tells_report m received (Ok report) e is none a sends shown = let r = reports received e a sends shown in (r.0, r.1, r.2, (m, refl, is))
  tells_report m received (Err Memory) e is none a sends shown = let r = reports received e a sends shown in (r.0, r.1, r.2, (m, refl))
  tells_report m received (Err Stray) e is none a sends shown = let r = reports received e a sends shown in inr (r.0, r.1, r.2, (m, refl, none))
  tells_report m received (Err (Clone fault)) e is none a sends shown = absurd none
  tells_report m received (Err (Shared refusal)) e is none a sends shown = absurd none

  -- it was no report
  pub tells_stray : (m : Message) (received : Result Received CloneFault) → taken {R = R} received ≡ Ok tt → IsNoReport m → Tells m received (Err Stray)
  tells_stray m received e other = tells_report m received (Err Stray) e tt other

-- ---- the calls
module _ {P R F A : Type 0} (holds : P → SharedNode → Type 0) (told : R → Answer) (remaining : A → Option (List ℕ)) (content : F → FileMap) (atomic : Bool) (items : List PushItem) where
  -- the clone's call with the push's items, and the peer's with the message of these bytes
  abbrev pub Starts : Result (Vec ℕ Global) CloneFault → Held F → Held F → Type 0
  Starts result was is = Calls content (Command (StartPush atomic (machine_items items))) (SentAs result) was is

  abbrev pub Answers : List ℕ → Result (Reply A) R → P → P → Type 0
  Answers bytes result old new = (m : Message) → Reads bytes m → AnswersPeer holds told remaining m result old new

  abbrev Begins : CloneNode → CloneNode → Message → Type 0
  Begins c d m = CloneMaySend git git_rules c (Command (StartPush atomic (machine_items items))) d m

  pub not_sent : (old : P) (fault : CloneFault) (was is : Held F) → Starts (Err fault) was is → Leads holds (HoldsClone content) old old was is (IsPush told atomic items (Err (Clone fault)))
  not_sent old fault was is k = record {
    each = λ s c hs hc.
        let v = led content (Command (StartPush atomic (machine_items items))) (SentAs (Err fault)) was is c k hc in (
          s,
          v.node,
          hs,
          v.held,
          (
            v.answer,
            None,
            v.shown.answer,
            unsent (subst (λ sends. CloneMayAnswer git git_rules c (Command (StartPush atomic (machine_items items))) v.answer v.node sends) v.shown.sent v.may) refl refl,
          ),
        );
  }

  -- the clone has sent its push
  record Begun (c : CloneNode) (bytes : List ℕ) (is : Held F) : Type 0 where
    node : CloneNode
    held : HoldsClone content is node
    push : Message
    reads : Reads bytes push
    sends : Begins c node push

  begun : (bytes : Vec ℕ Global) (was is : Held F) (c : CloneNode) → Starts (Ok bytes) was is → HoldsClone content was c → Begun c bytes.items is
  begun bytes was is c k hc =
      let v = led content (Command (StartPush atomic (machine_items items))) (SentAs (Ok bytes)) was is c k hc in
      record {
        node = v.node;
        held = v.held;
        push = v.shown.message;
        reads = v.shown.written.reads;
        sends = (v.answer, subst (λ sends. CloneMayAnswer git git_rules c (Command (StartPush atomic (machine_items items))) v.answer v.node sends) v.shown.sent v.may);
      }

  pub not_answered : (push : Vec ℕ Global) (sent : List ℕ) (refusal : R) (old new : P) (was is : Held F) → Starts (Ok push) was is → sent ≡ push.items → Answers sent (Err refusal) old new
      → Leads holds (HoldsClone content) old new was is (IsPush told atomic items (Err (Shared refusal)))
  not_answered push sent refusal old new was is k same asks = record {
    each = λ s c hs hc.
        let v = begun push was is c k hc in
        let w = refused holds told remaining v.push refusal old new s (asks v.push (subst (λ b. Reads b v.push) (sym same) v.reads)) hs in (
          w.node,
          v.node,
          w.held,
          v.held,
          (
            w.answer,
            None,
            (w.shown.0.answer, w.shown.1),
            unreported v.push v.sends (subst (λ sends. MayServe git git_rules v.push s w.answer w.node sends) w.shown.0.sent w.may) refl,
          ),
        );
  }

  pub comes : (push : Vec ℕ Global) (sent : List ℕ) (answer : Reply A) (result : Result PushReport (ExchangeEnd R)) (old new : P) (was is after : Held F)
      → Starts (Ok push) was is → sent ≡ push.items → Answers sent (Ok answer) old new → ((m : Message) → Brings remaining answer m → TakesAnswer content m result is after)
      → Leads holds (HoldsClone content) old new was after (IsPush told atomic items result)
  comes push sent answer result old new was is after k same asks takes = record {
    each = λ s c hs hc.
        let v = begun push was is c k hc in
        let w = answered holds told remaining v.push answer old new s (asks v.push (subst (λ b. Reads b v.push) (sym same) v.reads)) hs in
        let q = takes w.message w.brings in
        let u = led content (Receive w.message) (ReceivedAs q.received) is after v.node q.receives v.held in (
          w.node,
          u.node,
          w.held,
          u.held,
          (u.answer, Some w.message, q.tells told u.answer u.sends u.shown, reported v.node v.push w.message u.sends v.sends w.tells u.may refl),
        );
  }

  -- ---- between nodes that are ready

  reply_same : (m k : ℕ) (xs ys : List ℕ) → Did (ReportedRefs m xs) ≡ Did (ReportedRefs k ys) → m ≡ k
  reply_same m k xs ys e = cc

  none_reported : (a : Answer) (k : ℕ) (xs : List ℕ) → ReportsNone a → a ≡ Did (ReportedRefs k xs) → ⊥
  none_reported a k xs (inl is) e = absurd (let x = is in cc)
  none_reported a k xs (inr is) e = absurd (let x = is.2 in cc)

  none_failed : (a : Answer) (f : Failure) → ReportsNone a → a ≡ Fault f → ⊥
  none_failed a f (inl is) e = did_no_fault Sends f (sym is ∙ e)
  none_failed a f (inr is) e = did_no_fault (MovedRefs is.0 is.1) f (sym is.2 ∙ e)

  module _ (b : List ℕ) (id : ObjectId) where
    abbrev ok_text : ReportText
    ok_text = record { unpack = None; told = record { name = branch b; outcome = Ok id } ∷ [] }

    abbrev ok_message : Message
    ok_message = Report None (record { name = branch b; outcome = Ok (bytes_of_id id) } ∷ [])

    refusal_same : (x y : Option ℕ) (xs ys : List Told) → Report x xs ≡ Report y ys → x ≡ y
    refusal_same x y xs ys e = cc

    told_same : (x y : Option ℕ) (xs ys : List Told) → Report x xs ≡ Report y ys → xs ≡ ys
    told_same x y xs ys e = cc

    unpack_none : (o : Option (List ℕ)) → IsUnpackedAs o None → o ≡ None
    unpack_none None h = refl
    unpack_none (Some words) h = absurd (let e = h.2 in cc)

    outcome_ok : (o : Result ObjectId (List ℕ)) → Rattle.vc_message.specs.Machine.machine_outcome o ≡ Ok (bytes_of_id id) → o ≡ Ok id
    outcome_ok (Ok i) e = ap (λ (x : ObjectId). Ok x) (ap id_of_bytes (ok_same (bytes_of_id i) (bytes_of_id id) e))
      where
        ok_same : (x y : List ℕ) → ◌≡◌ {A = Result (List ℕ) ℕ} (Ok x) (Ok y) → x ≡ y
        ok_same x y e = cc
    outcome_ok (Err words) e = absurd (cc)

    text_same : (n m : List ℕ) (x y : Result ObjectId (List ℕ)) → n ≡ m → x ≡ y → ◌≡◌ {A = ToldText} (record { name = n; outcome = x }) (record { name = m; outcome = y })
    text_same n m x y e f = cc

    head_same : (x y : Told) (xs ys : List Told) → x ∷ xs ≡ y ∷ ys → x ≡ y
    head_same x y xs ys e = cc

    one_told : (ts : List ToldText) → map machine_told ts ≡ record { name = branch b; outcome = Ok (bytes_of_id id) } ∷ [] → ts ≡ record { name = branch b; outcome = Ok id } ∷ []
    one_told [] e = absurd (cc)
    one_told (x ∷ y ∷ ts) e = absurd (cc)
    one_told (x ∷ []) e =
        let h = head_same (machine_told x) (record { name = branch b; outcome = Ok (bytes_of_id id) }) [] [] e in
        ap (λ (x : ToldText). x ∷ []) (text_same x.name (branch b) x.outcome (Ok id) (ap (λ (t : Told). t.name) h) (outcome_ok x.outcome (ap (λ (t : Told). t.outcome) h)))

    report_same : (t : ReportText) (o : Option (List ℕ)) (ts : List ToldText) → t.unpack ≡ o → t.told ≡ ts → t ≡ record { unpack = o; told = ts }
    report_same t o ts e f = (λ k. record { unpack = e k; told = f k })

    ok_report : (t : ReportText) (m : Message) → IsReport m t → m ≡ ok_message → t ≡ ok_text
    ok_report t m h e =
        let same : ok_message ≡ Report h.refusal (map machine_told t.told) = sym e ∙ h.is in
        report_same t None (record { name = branch b; outcome = Ok id } ∷ [])
        (unpack_none t.unpack (subst (IsUnpackedAs t.unpack) (sym (refusal_same None h.refusal _ _ same)) h.unpacked))
        (one_told t.told (sym (told_same None h.refusal _ _ same)))

    -- the end of the machine's push, as it is told
    abbrev Done : Result PushReport (ExchangeEnd R) → SharedNode → CloneNode → Type 0
    Done result t d = IfOk result (λ report. IsOkReport report b id × IsSetTo b id t d) × IfErr result (EndsPush told b id t d)

    done : (result : Result PushReport (ExchangeEnd R)) (t : SharedNode) (d : CloneNode) (a : Answer) (came : Option Message) → PushedAs told result a came → PushEnds b (bytes_of_id id) a t d came → Done result t d
    done (Ok report) t d a came h (pushed moved is came_is set tracked) =
        ((ok_report (report_text report) h.3.0 h.3.2 (same_Some h.3.0 ok_message (sym h.3.1 ∙ came_is)), (set, tracked)), tt)
    done (Ok report) t d a came h (failed f is) = absurd (did_no_fault (ReportedRefs h.0 h.1) f (sym h.2 ∙ is))
    done (Err (Clone fault)) t d a came h (pushed moved is came_is set tracked) = absurd (undone_did a (fault_answer fault) (ReportedRefs moved []) h (clone_undone fault) is)
    done (Err (Clone fault)) t d a came h (failed f is) = (tt, (f, sym h ∙ is))
    done (Err (Shared refusal)) t d a came h (pushed moved is came_is set tracked) = absurd (undone_did a (told refusal) (ReportedRefs moved []) h.0 h.1 is)
    done (Err (Shared refusal)) t d a came h (failed f is) = (tt, (f, sym h.0 ∙ is))
    done (Err Stray) t d a came (inl h) (pushed moved is came_is set tracked) = absurd (none_reported a moved [] h is)
    done (Err Stray) t d a came (inl h) (failed f is) = absurd (none_failed a f h is)
    done (Err Stray) t d a came (inr h) (pushed moved is came_is set tracked) = absurd (subst IsNoReport (same_Some h.3.0 ok_message (sym h.3.1 ∙ came_is)) h.3.2)
    done (Err Stray) t d a came (inr h) (failed f is) = absurd (did_no_fault (ReportedRefs h.0 h.1) f (sym h.2 ∙ is))
    done (Err Memory) t d a came h (pushed moved is came_is set tracked) = (tt, (set, tracked))
    done (Err Memory) t d a came h (failed f is) = absurd (did_no_fault (ReportedRefs h.0 h.1) f (sym h.2 ∙ is))

  pub pushes_one : (result : Result PushReport (ExchangeEnd R)) (old new : P) (was is : Held F) → Leads holds (HoldsClone content) old new was is (IsPush told atomic items result)
      → Leads holds (HoldsClone content) old new was is (PushesOne told items result)
  pushes_one result old new was is leads = record {
    each = λ s c hs hc.
        let w = leads.each s c hs hc in (
          w.0,
          w.1,
          w.2,
          w.3,
          λ b id same ready up may.
              let hard = push_comes git git_rules atomic (machine_items items) s w.0 c w.1 w.4.0 w.4.1 ready.shared.good.sound ready.shared.bare ready.clone.sound ready.agree w.4.3 in
              let run = subst (λ is. Rattle.vc_model.specs.Exchange.PushRun git git_rules atomic is s c w.4.0 w.0 w.1 w.4.1) same hard in
              done b id result w.0 w.1 w.4.0 w.4.1 w.4.2 (push_ends git git_rules git_can_be_tracked atomic b (bytes_of_id id) s c ready may w.0 w.1 w.4.0 w.4.1 up run),
        );
  }
