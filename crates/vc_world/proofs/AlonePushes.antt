-- A push at the clone alone, whoever answers.
use Rattle.std.proofs.Common.{◌≡◌, inl, inr, ℕ, Bool, List, [], ◌∷◌, Option, Result, Ok, Err, refl, sym, ◌∙◌, subst}
use Rattle.std.specs.Global.{Global}
use Rattle.std.specs.Prelude.{Vec}
use Rattle.vc_files.specs.FileMap.{FileMap}
use Rattle.vc_model.specs.Clone.{CloneNode}
use Rattle.vc_model.specs.Clone.Task.{StartPush}
use Rattle.vc_model.specs.CloneCall.{CloneAnswers, CloneCall}
use Rattle.vc_model.specs.CloneCall.CloneCall.{Asks, Command, Open, Prune, Receive}
use Rattle.vc_model.specs.CloneCall.CloneAnswers.{asked, down, faulted, obeyed, opened, pruned, refused}
use Rattle.vc_model.specs.Message.{Message}
use Rattle.vc_model.specs.Node.{Answer, Failure, Reply as Replied}
use Rattle.vc_model.specs.Node.Answer.{Declined, Did, Fault}
use Rattle.vc_model.specs.Question.{Question, Tells}
use Rattle.vc_model.specs.Question.Question.{Compare, Interrupted, PackRefs, Resolve, Unread, Unresolved}
use Rattle.vc_node.specs.CloneCalls.{SentAs}
use Rattle.vc_node.specs.Held.{Held}
use Rattle.vc_node.specs.declared.clone_fault.CloneFault.{CloneFault}
use Rattle.vc_push.specs.declared.report.Report.{Report as PushReport}
use Rattle.vc_rules.specs.Git.{git}
use Rattle.vc_sending.specs.Sending.{machine_items}
use Rattle.vc_sending.specs.declared.item.PushItem.{PushItem}
use Rattle.vc_trail.specs.Trail.{IsBrought}
use Rattle.vc_trail.proofs.Steps.{brought_exchanged}
use Rattle.vc_values.proofs.GitLaws.{git_rules}
use Rattle.vc_world.specs.Alone.{IsLetter, LeadsAlone, PushAlone, ReportsAs, ReportsReply, Saying, ShowsReport}
use Rattle.vc_world.specs.Alone.PushAlone.{answered, unanswered, unsent}
use Rattle.vc_world.specs.Exchanging.{HoldsClone}
use Rattle.vc_world.specs.declared.ending.ExchangeEnd.{ExchangeEnd}
use Rattle.vc_world.specs.declared.ending.ExchangeEnd.TheVariants.{Clone, Shared}
use Rattle.vc_world.specs.declared.peer.Reply.{Reply}
use Rattle.vc_world.proofs.AloneRounds.{turned}
use Rattle.vc_world.proofs.Legs.{Calls}

-- ---- bytes that are no message are never taken

no_declined : (y : Replied) (k : ℕ) (a : Answer) → a ≡ Declined k → a ≡ Did y → ⊥
no_declined y k a e f = absurd (let g : ◌≡◌ {A = Answer} (Declined k) (Did y) = sym e ∙ f in cc)

no_fault : (y : Replied) (f : Failure) (a : Answer) → a ≡ Fault f → a ≡ Did y → ⊥
no_fault y f a e d = absurd (let g : ◌≡◌ {A = Answer} (Fault f) (Did y) = sym e ∙ d in cc)

same_question : (q r : Question) → ◌≡◌ {A = CloneCall} (Asks q) (Asks r) → q ≡ r
same_question q r e = cc

other_call : (n : ℕ) → (◌≡◌ {A = CloneCall} (Asks (Unread n)) Prune → ⊥) × (◌≡◌ {A = CloneCall} (Asks (Unread n)) Open → ⊥)
other_call n = (λ e. absurd (cc), λ e. absurd (cc))

never_taken : (n : ℕ) (c d : CloneNode) (a : Answer) (sends : Option Message) (y : Replied) → CloneAnswers git git_rules c (Asks (Unread n)) a d sends → a ≡ Did y → ⊥
never_taken n c d a sends y k did = elim k [
  | down off other is same none ↦ no_declined y 112 a is did
  | asked w q up is tells same none ↦ no_declined y n a (subst (λ q. Tells git git_rules c.repository q a) (sym (same_question (Unread n) q is)) tells) did
  | refused w m up why is same none ↦ absurd why
  | obeyed w deed up does ends is ↦ absurd does
  | pruned w up is ends none ↦ absurd ((other_call n).0 is)
  | opened is ends none ↦ absurd ((other_call n).1 is)
  | faulted w f up other is same none ↦ no_fault y f a is did
]

-- so what is shown of what was brought is reported
reports : {R : Type 0} (call : CloneCall) (c d : CloneNode) (a : Answer) (sends : Option Message) (result : Result PushReport (ExchangeEnd R)) → IsBrought git call → CloneAnswers git git_rules c call a d sends → ShowsReport call result a → ReportsAs call result a
reports (Receive m) c d a sends result brought k shown = shown
reports (Asks (Unread n)) c d a sends result brought k (inl did) = absurd (never_taken n c d a sends did.0 k did.1)
reports (Asks (Unread n)) c d a sends result brought k (inr shown) = shown
reports (Asks (Unresolved n)) c d a sends result brought k shown = absurd brought
reports (Asks Interrupted) c d a sends result brought k shown = absurd brought
reports (Asks (Resolve e)) c d a sends result brought k shown = absurd brought
reports (Asks (Compare e f)) c d a sends result brought k shown = absurd brought
reports (Asks PackRefs) c d a sends result brought k shown = absurd brought
reports (Command t) c d a sends result brought k shown = absurd brought
reports Prune c d a sends result brought k shown = absurd brought
reports Open c d a sends result brought k shown = absurd brought

module _ {P R F A : Type 0} (says : Saying P R A) (remaining : A → Option (List ℕ)) (content : F → FileMap) (atomic : Bool) (items : List PushItem) where
  -- what the start of the push says
  abbrev pub Starts : Result (Vec ℕ Global) CloneFault → Held F → Held F → Type 0
  Starts result was is = Calls content (Command (StartPush atomic (machine_items items))) (SentAs result) was is

  pub push_unsent : (fault : CloneFault) (p : P) (was is : Held F) → Starts (Err fault) was is → LeadsAlone (HoldsClone content) was is (PushAlone says remaining atomic items p (Err (Clone fault)) p)
  push_unsent fault p was is k = record {
    each = λ c held sound.
        let v = turned content (Command (StartPush atomic (machine_items items))) (SentAs (Err fault)) was is c k tt held sound in
        record { trail = v.turn ∷ []; is_trail = (v.answers, tt); exchanged = (v.exchanged, tt); held = v.held; comes = unsent v.turn fault v.is_call v.shown.answer refl refl refl };
  }

  pub push_unanswered : (push : Vec ℕ Global) (sent : List ℕ) (refusal : R) (p q : P) (was is : Held F) → Starts (Ok push) was is → sent ≡ push.items → says p sent (Err refusal) q
      → LeadsAlone (HoldsClone content) was is (PushAlone says remaining atomic items p (Err (Shared refusal)) q)
  push_unanswered push sent refusal p q was is k same said = record {
    each = λ c held sound.
        let v = turned content (Command (StartPush atomic (machine_items items))) (SentAs (Ok push)) was is c k tt held sound in
        record {
          trail = v.turn ∷ [];
          is_trail = (v.answers, tt);
          exchanged = (v.exchanged, tt);
          held = v.held;
          comes = unanswered v.turn refusal v.is_call (push.items, v.shown, subst (λ b. says p b (Err refusal) q) same said) refl refl;
        };
  }

  pub push_answered : (push : Vec ℕ Global) (sent : List ℕ) (reply : Reply A) (result : Result PushReport (ExchangeEnd R)) (p q : P) (was is after : Held F) → Starts (Ok push) was is → sent ≡ push.items → says p sent (Ok reply) q
      → ReportsReply content remaining reply result is after → LeadsAlone (HoldsClone content) was after (PushAlone says remaining atomic items p result q)
  push_answered push sent reply result p q was is after k same said takes = record {
    each = λ c held sound.
        let v = turned content (Command (StartPush atomic (machine_items items))) (SentAs (Ok push)) was is c k tt held sound in
        let w = turned content takes.call _ is after v.turn.node takes.answers (brought_exchanged git takes.call takes.brought) v.held v.sound in
        record {
          trail = w.turn ∷ v.turn ∷ [];
          is_trail = (w.answers, (v.answers, tt));
          exchanged = (w.exchanged, (v.exchanged, tt));
          held = w.held;
          comes = answered v.turn w.turn reply v.is_call (push.items, v.shown, subst (λ b. says p b (Ok reply) q) same said) (subst (λ call. IsLetter remaining reply call w.turn.answer) (sym w.is_call) w.shown.0)
              (reports w.turn.call v.turn.node w.turn.node w.turn.answer w.turn.sends result (subst (IsBrought git) (sym w.is_call) takes.brought) w.answers (subst (λ call. ShowsReport call result w.turn.answer) (sym w.is_call) w.shown.1)) refl;
        };
  }
