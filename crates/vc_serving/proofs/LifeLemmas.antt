-- The turns of a server are a life of the node.
use Rattle.std.proofs.Common.{append_assoc, ◌≡◌, ◌≢◌, ℕ, List, [], ◌∷◌, ◌++◌, Option, Some, None, Result, Ok, Err, true, inl, inr, refl, sym, subst}
use Rattle.std.specs.Global.{Global}
use Rattle.std.specs.Prelude.{Vec}
use Rattle.std.specs.List.{AllByRecursion}
use Rattle.vc_files.specs.FileMap.{FileMap}
use Rattle.vc_lemmas.proofs.Lists.{all_append}
use Rattle.vc_life.proofs.Along.{along_more, along_opening}
use Rattle.vc_life.specs.Life.{Comes, GoesOn, IsAnsweredAlong, IsLastStep, IsLife, IsServed, Life, log_of, opened_shared, opening, repository_after}
use Rattle.vc_life.specs.Life.IsServed.{at_once, stepped}
use Rattle.vc_local.proofs.OpeningFaults.{only_faults}
use Rattle.vc_local.specs.Opening.{IsOpenable}
use Rattle.vc_message.proofs.MachineTexts.{named_text}
use Rattle.vc_message.specs.Coming.{Came, IsCome, a_message, cut_short, lost, no_message, nothing_came}
use Rattle.vc_message.specs.Machine.{pkt_number}
use Rattle.vc_model.specs.Desk.{ExactLog, IsWell, Receipt, node_left}
use Rattle.vc_model.specs.Exact.{shared_event}
use Rattle.vc_model.specs.Message.{Message}
use Rattle.vc_model.specs.Node.{Answer}
use Rattle.vc_model.specs.Node.Answer.{Did}
use Rattle.vc_model.specs.Node.Reply.{Opened}
use Rattle.vc_model.specs.Question.Question.{Unread}
use Rattle.vc_model.specs.Repository.{Repository}
use Rattle.vc_model.specs.Shared.{SharedNode}
use Rattle.vc_model.specs.SharedCall.{SharedCall}
use Rattle.vc_model.specs.SharedCall.SharedCall.{Accept, Asks, Open, StepOf}
use Rattle.vc_rules.specs.Git.{git}
use Rattle.vc_server.specs.Coming.{Reply}
use Rattle.vc_server.specs.Serving.{MayAnswer, ServedAs, ServesOn, StepsOn}
use Rattle.vc_server.specs.Serving.ServesOn.{at_once as once, stepped as by_steps}
use Rattle.vc_server.specs.Serving.StepsOn.{further, sent, undone}
use Rattle.vc_shared.specs.Arriving.{IsCallOf, IsTold}
use Rattle.vc_shared.specs.declared.accept_fault.AcceptFault.TheVariants.{Node as OfNode, ReadFailed}
use Rattle.vc_shared.specs.declared.fault.SharedFault.{SharedFault}
use Rattle.vc_shared.specs.declared.fault.SharedFault.TheVariants as shared
use Rattle.vc_values.proofs.GitLaws.{git_rules}
use Rattle.vc_serving.specs.Answering.{AnswersCame, KeepsOpenable, ServesOnce, StaysClosed}
use Rattle.vc_serving.specs.InTurn.{AreHeld, AreTurns, Exchange, IsAnsweredBy, IsServedCall, LivesOn, files_after}

module _ (start : Repository) where
  abbrev Along : ExactLog → Type 0
  Along es = IsAnsweredAlong git git_rules start es

  -- ---- the steps of a push

  -- the push was stepped to its end, from this log on
  record IsStepped (slot : ℕ) (es : ExactLog) (a : Answer) (t : SharedNode) (sends : Option Message) : Type 0 where
    last : Receipt
    steps : ExactLog
    all : AllByRecursion (GoesOn slot) steps
    end : IsLastStep slot last
    along : Along (last ∷ steps ++ es)
    answer : last.answer ≡ a
    sent_is : last.sends ≡ sends
    node : last.node ≡ t

  step_along : (slot : ℕ) (es : ExactLog) (u t : SharedNode) (a : Answer) (sends : Option Message) → node_left (opened_shared start) es ≡ u → Along es → MayAnswer u (StepOf slot) a t sends
      → Along (record { call = StepOf slot; answer = a; sends = sends; node = t } ∷ es)
  step_along slot es u t a sends is k may =
      along_more git git_rules start es (record { call = StepOf slot; answer = a; sends = sends; node = t }) k tt (subst (λ (n : SharedNode). MayAnswer n (StepOf slot) a t sends) (sym is) may)

  steps_on : (slot : ℕ) (u t : SharedNode) (a : Answer) (sends : Option Message) → StepsOn slot u a t sends → (es : ExactLog) → node_left (opened_shared start) es ≡ u → Along es → IsStepped slot es a t sends
  steps_on slot u t a sends (sent m may) es is k = record {
    last = record { call = StepOf slot; answer = a; sends = Some m; node = t };
    steps = [];
    all = tt;
    end = record { call = refl; end = inl (m, refl) };
    along = step_along slot es u t a (Some m) is k may;
    answer = refl;
    sent_is = refl;
    node = refl;
  }
  steps_on slot u t a sends (undone may not) es is k = record {
    last = record { call = StepOf slot; answer = a; sends = None; node = t };
    steps = [];
    all = tt;
    end = record { call = refl; end = inr (refl, not) };
    along = step_along slot es u t a None is k may;
    answer = refl;
    sent_is = refl;
    node = refl;
  }
  steps_on slot u t a sends (further {u = v} y may rest) es is k =
      let e : Receipt = record { call = StepOf slot; answer = Did y; sends = None; node = v } in
      let s : IsStepped slot (e ∷ es) a t sends = steps_on slot v t a sends rest (e ∷ es) refl (step_along slot es u v (Did y) None is k may) in
      record {
        last = s.last;
        steps = s.steps ++ e ∷ [];
        all = all_append (GoesOn slot) s.steps (e ∷ []) s.all (record { call = refl; reply = y; answer = refl; silent = refl }, tt);
        end = s.end;
        along = subst (λ (l : ExactLog). Along (s.last ∷ l)) (sym (append_assoc s.steps (e ∷ []) es)) s.along;
        answer = s.answer;
        sent_is = s.sent_is;
        node = s.node;
      }

  -- ---- a turn

  -- the life with one turn more
  record IsLonger (ts : Life) (call : SharedCall) (a : Answer) (t : SharedNode) (sends : Option Message) : Type 0 where
    last : Receipt
    earlier : ExactLog
    served : IsServed call last earlier
    answer : last.answer ≡ a
    sent_is : last.sends ≡ sends
    node : last.node ≡ t
    life : IsLife git git_rules start ((last ∷ earlier) ∷ ts)

  module _ (ts : Life) (life : IsLife git git_rules start ts) where
    opened_along : Along (opening (repository_after start ts) ∷ log_of start ts)
    opened_along = along_opening git git_rules start ts life.answered

    quiet_turn : IsLife git git_rules start ([] ∷ ts)
    quiet_turn = record { turns = (tt, life.turns); answered = opened_along }

    served_turn : (call : SharedCall) (a : Answer) (t : SharedNode) (sends : Option Message) → Comes call → IsWell git (shared_event call) → ServesOn call (opened_shared (repository_after start ts)) a t sends → IsLonger ts call a t sends
    served_turn call a t sends comes well (once may opens) =
        let e : Receipt = record { call = call; answer = a; sends = sends; node = t } in
        let is : IsServed call e [] = at_once refl refl opens in
        record {
          last = e;
          earlier = [];
          served = is;
          answer = refl;
          sent_is = refl;
          node = refl;
          life = record { turns = ((call, comes, is), life.turns); answered = along_more git git_rules start (opening (repository_after start ts) ∷ log_of start ts) e opened_along well may };
        }
    served_turn call a t sends comes well (by_steps {u = u} slot below may more) =
        let e : Receipt = record { call = call; answer = Did (Opened slot); sends = None; node = u } in
        let es : ExactLog = opening (repository_after start ts) ∷ log_of start ts in
        let s : IsStepped slot (e ∷ es) a t sends = steps_on slot u t a sends more (e ∷ es) refl (along_more git git_rules start es e opened_along well may) in
        let is : IsServed call s.last (s.steps ++ e ∷ []) = stepped slot e s.steps refl below refl refl refl s.all s.end in
        record {
          last = s.last;
          earlier = s.steps ++ e ∷ [];
          served = is;
          answer = s.answer;
          sent_is = s.sent_is;
          node = s.node;
          life = record { turns = ((call, comes, is), life.turns); answered = subst (λ (l : ExactLog). Along (s.last ∷ l)) (sym (append_assoc s.steps (e ∷ []) es)) s.along };
        }

-- ---- what came

-- the call that it is
record ComesAs (came : Came) : Type 0 where
  call : SharedCall
  is_call : IsCallOf true came call
  comes : Comes call
  well : IsWell git (shared_event call)

-- something is told of it that the node answered
abbrev IsOfNode : Reply → Type 0
IsOfNode (Ok None) = ⊥
IsOfNode (Err ReadFailed) = ⊥
IsOfNode _ = Unit {0}

no_opening : (n : ℕ) → Asks (Unread n) ≢ Open
no_opening n e = absurd (cc)

call_of : (before rest : Option (List ℕ)) (came : Came) (answered : Reply) → IsCome before rest came → IsTold true came answered → IsOfNode answered → ComesAs came
call_of before rest (a_message text) answered is told of = record { call = Accept is.1.0; is_call = (is.1.0, is.1.1, refl); comes = tt; well = named_text text is.1.0 is.1.1 }
call_of before rest (no_message fault) answered is told of = record { call = Asks (Unread (pkt_number fault)); is_call = refl; comes = tt; well = tt }
call_of before rest cut_short answered is told of = record { call = Asks (Unread 0); is_call = no_opening 0; comes = tt; well = tt }
call_of before rest nothing_came (Ok (Some reply)) is told of = absurd told
call_of before rest nothing_came (Ok None) is told of = absurd of
call_of before rest nothing_came (Err ReadFailed) is told of = absurd of
call_of before rest nothing_came (Err (OfNode e)) is told of = absurd told
call_of before rest lost (Ok (Some reply)) is told of = absurd told
call_of before rest lost (Ok None) is told of = absurd of
call_of before rest lost (Err ReadFailed) is told of = absurd of
call_of before rest lost (Err (OfNode e)) is told of = absurd told

nothing_is : (before rest : Option (List ℕ)) (came : Came) → IsCome before rest came → IsTold {T = Vec ℕ Global} true came (Ok None) → IsCome before rest nothing_came
nothing_is before rest (a_message text) is told = absurd told
nothing_is before rest nothing_came is told = is
nothing_is before rest (no_message fault) is told = absurd told
nothing_is before rest lost is told = absurd told
nothing_is before rest cut_short is told = absurd told

lost_is : (before rest : Option (List ℕ)) (came : Came) → IsCome before rest came → IsTold {T = Vec ℕ Global} true came (Err ReadFailed) → IsCome before rest lost
lost_is before rest (a_message text) is told = absurd told
lost_is before rest nothing_came is told = absurd told
lost_is before rest (no_message fault) is told = absurd told
lost_is before rest lost is told = is
lost_is before rest cut_short is told = absurd told

-- ---- one turn of the server

-- the life with the turn in which this was answered
record IsNextTurn (start : Repository) (ts : Life) (before rest : Option (List ℕ)) (new : FileMap) (answered : Reply) : Type 0 where
  calls : ExactLog
  life : IsLife git git_rules start (calls ∷ ts)
  openable : IsOpenable new (repository_after start (calls ∷ ts))
  by : IsAnsweredBy before rest answered calls

module _ (start : Repository) (ts : Life) (life : IsLife git git_rules start ts) (before rest : Option (List ℕ)) (old new : FileMap) (openable : IsOpenable old (repository_after start ts)) where
  abbrev Next : Reply → Type 0
  Next answered = IsNextTurn start ts before rest new answered

  -- no call of the node
  quiet : (answered : Reply) → IsOpenable new (repository_after start ts) → IsAnsweredBy before rest answered [] → Next answered
  quiet answered can by = record { calls = []; life = quiet_turn start ts life; openable = can; by = by }

  -- the node that was opened served the call
  once_served : (result : Result (Vec ℕ Global) SharedFault) (answered : Reply) (came : Came) → IsCome before rest came → (c : ComesAs came) → ServesOnce c.call (repository_after start ts) new result
      → ((last : Receipt) (earlier : ExactLog) → IsServedCall before rest last earlier × ServedAs result last.answer last.sends → IsAnsweredBy before rest answered (last ∷ earlier)) → Next answered
  once_served result answered came is c s to =
      let l : IsLonger start ts c.call s.a s.after s.sends = served_turn start ts life c.call s.a s.after s.sends c.comes c.well s.served in
      record {
        calls = l.last ∷ l.earlier;
        life = l.life;
        openable = subst (λ (n : SharedNode). IsOpenable new n.repository) (sym l.node) s.openable;
        by = to l.last l.earlier (
          (came, is, (c.call, c.is_call, l.served)),
          subst (λ (a : Answer). ServedAs result a l.last.sends) (sym l.answer) (subst (λ (m : Option Message). ServedAs result s.a m) (sym l.sent_is) s.told),
        );
      }

  closed : (e : SharedFault) → StaysClosed old new (repository_after start ts) (Err e) → Next (Err (OfNode e))
  closed (shared.Node fault) s = quiet (Err (OfNode (shared.Node fault))) s.1 (only_faults old (repository_after start ts) openable fault s.0)
  closed (shared.Unread fault) s = absurd s
  closed (shared.NotOurs id) s = absurd s
  closed shared.Unexpected s = absurd s
  closed shared.Busy s = absurd s
  closed shared.NoSuchSlot s = absurd s
  closed (shared.NoValue refusal) s = absurd s

  next_turn : (answered : Reply) → AnswersCame before rest (repository_after start ts) old new answered → KeepsOpenable new (repository_after start ts) answered → Next answered
  next_turn (Ok (Some reply)) s keeps =
      let c : ComesAs s.came = call_of before rest s.came (Ok (Some reply)) s.is_come s.told tt in
      once_served (Ok reply) (Ok (Some reply)) s.came s.is_come c (s.served c.call c.is_call) (λ last earlier is. is)
  next_turn (Ok None) s keeps = quiet (Ok None) keeps (nothing_is before rest s.came s.is_come s.told)
  next_turn (Err ReadFailed) s keeps = quiet (Err ReadFailed) keeps (lost_is before rest s.came s.is_come s.told)
  next_turn (Err (OfNode e)) (inl s) keeps = closed e s
  next_turn (Err (OfNode e)) (inr s) keeps =
      let c : ComesAs s.came = call_of before rest s.came (Err (OfNode e)) s.is_come s.told tt in
      once_served (Err e) (Err (OfNode e)) s.came s.is_come c (s.served c.call c.is_call) (λ last earlier is. is)

-- ---- all turns

module _ {F R W : Type 0} (content : F → FileMap) (remaining : R → Option (List ℕ)) (contents : W → Option (List ℕ)) where
  pub held_now : (old : F) (r : Repository) (xs : List (Exchange F R W)) (ts : Life) → AreHeld content remaining contents old r xs ts → IsOpenable (content (files_after old xs)) (repository_after r ts)
  held_now old r [] [] held = held
  held_now old r (x ∷ xs) (t ∷ ts) held = held.1
  held_now old r [] (t ∷ ts) held = absurd held
  held_now old r (x ∷ xs) [] held = absurd held

module _ {F R W : Type 0} (honest : Type 0) (content : F → FileMap) (failed : F → ℕ) (can_fail : F → Type 0) (writes_left : F → Option ℕ) (remaining : R → Option (List ℕ)) (fails : R → ℕ) (can_lose : R → Type 0) (contents : W → Option (List ℕ)) where
  pub lives : (old : F) (xs : List (Exchange F R W)) → AreTurns honest content failed can_fail writes_left remaining fails can_lose contents old xs → honest → (r : Repository) → IsOpenable (content old) r → LivesOn content remaining contents old r xs
  lives old [] k h r can = record { life = []; is_life = record { turns = tt; answered = tt }; held = can }
  lives old (x ∷ xs) k h r can =
      let l : LivesOn content remaining contents old r xs = lives old xs k.1 h r can in
      let t = k.0.0 in
      let at : Repository = repository_after r l.life in
      let openable : IsOpenable (content (files_after old xs)) at = held_now content remaining contents old r xs l.life l.held in
      let n : IsNextTurn r l.life (remaining x.reader) (remaining x.rest) (content x.files) t.answered
      = next_turn r l.life l.is_life (remaining x.reader) (remaining x.rest) (content (files_after old xs)) (content x.files) openable t.answered (t.serves h at openable) (t.lost h at openable) in
      record { life = n.calls ∷ l.life; is_life = n.life; held = (record { answered = t.answered; told = t.told; by = n.by }, n.openable, l.held) }
