-- What reports is the turn of a push.
use Rattle.std.proofs.Common.{◌≡◌, ℕ, Bool, List, [], ◌∷◌, ◌++◌, Option, Some, None, refl, sym, ap, ◌∙◌, subst}
use Rattle.std.specs.List.{AllZip}
use Rattle.vc_model.specs.Clone.{accepted_ids}
use Rattle.vc_model.specs.Desk.{ExactLog, IsAnswered, Receipt, node_left}
use Rattle.vc_model.specs.Message.{Message, Told}
use Rattle.vc_model.specs.Message.Message.{Advert, Error, ListRefs, Pack, Push, Report, Want}
use Rattle.vc_model.specs.Node.{Answer, Deed, Reply}
use Rattle.vc_model.specs.Node.Answer.{Did}
use Rattle.vc_model.specs.Node.Reply.{Opened, Sends}
use Rattle.vc_model.specs.Object.{Format, Objects}
use Rattle.vc_model.specs.Push.{Command, Slots}
use Rattle.vc_model.specs.Question.{Question}
use Rattle.vc_model.specs.Question.Question.{Unread}
use Rattle.vc_model.specs.Refs.{with_refs}
use Rattle.vc_model.specs.Repository.{Repository}
use Rattle.vc_model.specs.Rules.{Rules}
use Rattle.vc_model.specs.Shared.{SharedNode}
use Rattle.vc_model.specs.SharedCall.{SharedAnswers, SharedCall}
use Rattle.vc_model.specs.SharedCall.SharedAnswers.{asked, down, faulted, obeyed, opened as restarted, pruned, refused}
use Rattle.vc_model.specs.SharedCall.SharedCall.{Accept, Asks, Open, Prune, StepOf}
use Rattle.vc_life.specs.Laws.{IsLineOf, LifeReportsPushes, ReportsPush, TellsWhatIsSet}
use Rattle.vc_life.specs.Life.{Comes, IsServed, Life, log_of, opened_shared, opening, repository_after}
use Rattle.vc_life.specs.Life.IsServed.{at_once, stepped}
use Rattle.vc_life.proofs.Along.{answered_before, life_log, more_of}
use Rattle.vc_life.proofs.Setting.{IsDone, is_done, sends_done, turn_told}

record IsPush (call : SharedCall) : Type 0 where
  atomic : Bool
  fault : Option ℕ
  commands : List Command
  objects : Objects
  is : call ≡ Accept (Push atomic fault commands objects)

sent_none : (sends : Option Message) (m : Message) → sends ≡ Some m → sends ≡ None → ⊥
sent_none sends m e f = absurd (let g = sym e ∙ f in cc)

module _ (fmt : Format) (rules : Rules fmt) (r : Repository) where
  -- ---- what opens a push

  message_opens : (u : SharedNode) (slot : ℕ) (m : Message) → IsDone fmt rules (opened_shared r) u (Accept m) (Opened slot) None → IsPush (Accept m)
  message_opens u slot ListRefs h = absurd (let e : Opened slot ≡ Sends = h.reply ∙ ap (λ (d : Deed Slots). d.reply) h.obeys in cc)
  message_opens u slot (Want wants haves) h = absurd (let e : Opened slot ≡ Sends = h.reply ∙ ap (λ (d : Deed Slots). d.reply) h.obeys.1.4 in cc)
  message_opens u slot (Push atomic fault cs objects) h = record { atomic = atomic; fault = fault; commands = cs; objects = objects; is = refl }
  message_opens u slot (Advert head refs) h = absurd h.obeys
  message_opens u slot (Pack ack s) h = absurd h.obeys
  message_opens u slot (Report fault ts) h = absurd h.obeys
  message_opens u slot (Error text) h = absurd h.obeys

  bytes_open : (u : SharedNode) (slot n : ℕ) → SharedAnswers fmt rules (opened_shared r) (Asks (Unread n)) (Did (Opened slot)) u None → ⊥
  bytes_open u slot n (down off other is same none) = absurd (cc)
  bytes_open u slot n (asked w (Unread k) up is tells same none) = absurd (cc)
  bytes_open u slot n (asked w q up is tells same none) = absurd (cc)
  bytes_open u slot n (refused w k up why is same none) = absurd (cc)
  bytes_open u slot n (obeyed w d up does ends sent) = does
  bytes_open u slot n (pruned w up is ends none) = absurd (cc)
  bytes_open u slot n (restarted is ends none) = absurd (cc)
  bytes_open u slot n (faulted w f up other is same none) = absurd (cc)

  opens_push : (u : SharedNode) (slot : ℕ) (call : SharedCall) → Comes call → SharedAnswers fmt rules (opened_shared r) call (Did (Opened slot)) u None → IsPush call
  opens_push u slot (Accept m) c x = message_opens u slot m (is_done fmt rules (opened_shared r) u (Accept m) (Opened slot) None tt x)
  opens_push u slot (Asks (Unread n)) c x = absurd (bytes_open u slot n x)
  opens_push u slot (Asks q) c x = absurd c
  opens_push u slot (StepOf s) c x = absurd c
  opens_push u slot Prune c x = absurd c
  opens_push u slot Open c x = absurd c

  -- ---- what is answered at once

  message_reports : (u : SharedNode) (fault : Option ℕ) (told : List Told) (y : Reply) (m : Message) → IsDone fmt rules (opened_shared r) u (Accept m) y (Some (Report fault told)) → ⊥
  message_reports u fault told y ListRefs h = absurd (let e = h.sent ∙ ap (λ (d : Deed Slots). d.sends) h.obeys in cc)
  message_reports u fault told y (Want wants haves) h = absurd (let e = h.sent ∙ ap (λ (d : Deed Slots). d.sends) h.obeys.1.4 in cc)
  message_reports u fault told y (Push atomic f cs objects) h = absurd (let e = h.sent ∙ ap (λ (d : Deed Slots). d.sends) h.obeys.2 in cc)
  message_reports u fault told y (Advert head refs) h = h.obeys
  message_reports u fault told y (Pack ack s) h = h.obeys
  message_reports u fault told y (Report f ts) h = h.obeys
  message_reports u fault told y (Error text) h = h.obeys

  asking_silent : (u : SharedNode) (a : Answer) (m : Message) (q : Question) → SharedAnswers fmt rules (opened_shared r) (Asks q) a u (Some m) → ⊥
  asking_silent u a m q (down off other is same none) = sent_none (Some m) m refl none
  asking_silent u a m q (asked w p up is tells same none) = sent_none (Some m) m refl none
  asking_silent u a m q (refused w n up why is same none) = sent_none (Some m) m refl none
  asking_silent u a m q (obeyed w d up does ends sent) = does
  asking_silent u a m q (pruned w up is ends none) = sent_none (Some m) m refl none
  asking_silent u a m q (restarted is ends none) = sent_none (Some m) m refl none
  asking_silent u a m q (faulted w f up other is same none) = sent_none (Some m) m refl none

  none_at_once : (u : SharedNode) (a : Answer) (fault : Option ℕ) (told : List Told) (call : SharedCall) → Comes call → SharedAnswers fmt rules (opened_shared r) call a u (Some (Report fault told)) → ⊥
  none_at_once u a fault told (Accept m) c x =
      let so = sends_done fmt rules (opened_shared r) u (Accept m) a (Report fault told) tt x in
      message_reports u fault told so.0 m so.1
  none_at_once u a fault told (Asks q) c x = asking_silent u a (Report fault told) q x
  none_at_once u a fault told (StepOf s) c x = absurd c
  none_at_once u a fault told Prune c x = absurd c
  none_at_once u a fault told Open c x = absurd c

  -- ---- the turn

  same_fault : (f g : Option ℕ) (s t : List Told) → Report f s ≡ Report g t → f ≡ g
  same_fault f g s t e = cc

  same_told : (f g : Option ℕ) (s t : List Told) → Report f s ≡ Report g t → s ≡ t
  same_told f g s t e = cc

  -- the push is the one that is told of
  of_push : (call : SharedCall) (p : IsPush call) (fault : Option ℕ) (told : List Told) (new : Repository) → TellsWhatIsSet p.fault p.commands r new (Report fault told) → ReportsPush call fault told r new
  of_push call p fault told new t =
      let f : p.fault ≡ fault = sym (same_fault fault p.fault told t.told t.report) in
      let s : t.told ≡ told = sym (same_told fault p.fault told t.told t.report) in
      record {
        atomic = p.atomic;
        commands = p.commands;
        objects = p.objects;
        push = p.is ∙ ap (λ (g : Option ℕ). Accept (Push p.atomic g p.commands p.objects)) f;
        lines = subst (λ (l : List Told). AllZip IsLineOf p.commands l) s t.lines;
        set = subst (λ (l : List Told). new.refs ≡ with_refs (accepted_ids l) r.refs) s t.set;
      }

  module _ (n : SharedNode) (log : ExactLog) where
    -- the first call of the turn
    first_call : (steps : ExactLog) (first : Receipt) → IsAnswered fmt rules n ((steps ++ first ∷ []) ++ opening r ∷ log) → SharedAnswers fmt rules (opened_shared r) first.call first.answer first.node first.sends
    first_call [] first k = k.1
    first_call (e ∷ steps) first k = first_call steps first k.2

    turn_reports : (last : Receipt) (before : ExactLog) (call : SharedCall) (fault : Option ℕ) (told : List Told) → Comes call → IsServed call last before → last.sends ≡ Some (Report fault told) → IsAnswered fmt rules n (last ∷ before ++ opening r ∷ log)
        → ReportsPush call fault told r last.node.repository
    turn_reports last before call fault told comes (at_once none is opens) sent answered =
        let mine : SharedAnswers fmt rules (node_left n ([] ++ opening r ∷ log)) last.call last.answer last.node last.sends
        = subst (λ (es : ExactLog). SharedAnswers fmt rules (node_left n (es ++ opening r ∷ log)) last.call last.answer last.node last.sends) none answered.1 in
        let x : SharedAnswers fmt rules (opened_shared r) call last.answer last.node (Some (Report fault told))
        = subst (λ (s : Option Message). SharedAnswers fmt rules (opened_shared r) call last.answer last.node s) sent (subst (λ (c : SharedCall). SharedAnswers fmt rules (opened_shared r) c last.answer last.node last.sends) is mine) in
        absurd (none_at_once last.node last.answer fault told call comes x)
    turn_reports last before call fault told comes (stepped slot first es is below first_is opens quiet all end) sent answered =
        let whole : IsAnswered fmt rules n (last ∷ (es ++ first ∷ []) ++ opening r ∷ log) = subst (λ (l : ExactLog). IsAnswered fmt rules n (last ∷ l ++ opening r ∷ log)) is answered in
        let one : SharedAnswers fmt rules (opened_shared r) first.call first.answer first.node first.sends = first_call es first whole.2 in
        let x : SharedAnswers fmt rules (opened_shared r) call (Did (Opened slot)) first.node None
        = subst (λ (s : Option Message). SharedAnswers fmt rules (opened_shared r) call (Did (Opened slot)) first.node s) quiet
        (subst (λ (a : Answer). SharedAnswers fmt rules (opened_shared r) call a first.node first.sends) opens (subst (λ (c : SharedCall). SharedAnswers fmt rules (opened_shared r) c first.answer first.node first.sends) first_is one)) in
        let p : IsPush call = opens_push first.node slot call comes x in
        let serves : IsServed (Accept (Push p.atomic p.fault p.commands p.objects)) last before = subst (λ (c : SharedCall). IsServed c last before) p.is (stepped slot first es is below first_is opens quiet all end) in
        of_push call p fault told last.node.repository (turn_told fmt rules p.atomic p.fault p.commands p.objects r n log last before (Report fault told) serves sent answered)

pub life_reports : (fmt : Format) (rules : Rules fmt) → LifeReportsPushes fmt rules
life_reports fmt rules start late early last before call fault told life begins comes serves sent =
    let ts : Life = (last ∷ before) ∷ early in
    let more = more_of start late ts in
    let n : SharedNode = opened_shared start in
    let all : IsAnswered fmt rules n (log_of start (late ++ ts)) = (life_log fmt rules start (late ++ ts) life begins).1 in
    turn_reports fmt rules (repository_after start early) n (log_of start early) last before call fault told comes serves sent
    (answered_before fmt rules n more.0 (log_of start ts) (subst (λ (es : ExactLog). IsAnswered fmt rules n es) more.1 all))
