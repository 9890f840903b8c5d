-- What holds of every log.
use Rattle.std.proofs.Common.{◌≡◌, ℕ, List, [], ◌∷◌, ◌++◌, map, Option, Some, None, inl, inr, refl, sym, ap, ◌∙◌, subst, nat_cmp}
use Rattle.std.specs.FinMap.{get, empty}
use Rattle.std.specs.List.{AllByRecursion}
use Rattle.vc_rules.specs.Git.{git}
use Rattle.vc_values.proofs.GitLaws.{git_rules}
use Rattle.vc_model.proofs.Desk.{desk_closed, desk_forward}
use Rattle.vc_model.proofs.Maps.{none_in_empty}
use Rattle.vc_model.specs.Desk.{ExactLog, IsAnswered, IsAt, IsBrought, IsServed, Log, NoneCollide, OpensSound, Receipt, WasThere, node_after, node_left, served}
use Rattle.vc_model.specs.Desk.IsAt.{in_push, in_store}
use Rattle.vc_model.specs.Message.{HasObject, Message}
use Rattle.vc_model.specs.Node.{Answer}
use Rattle.vc_model.specs.Node.Answer.{Did}
use Rattle.vc_model.specs.Object.{Id, Object}
use Rattle.vc_model.specs.Push.{OpenPush, Slots}
use Rattle.vc_model.specs.Reach.{IsAncestorAmong}
use Rattle.vc_model.specs.Refs.{branch}
use Rattle.vc_model.specs.Repository.{Repository}
use Rattle.vc_model.specs.Safe.{ClosedUnderRefs}
use Rattle.vc_model.specs.Shared.{SharedNode}
use Rattle.vc_model.specs.Exact.{shared_event}
use Rattle.vc_model.specs.SharedCall.{SharedAnswers, SharedCall}
use Rattle.vc_model.specs.SharedCall.SharedAnswers.{asked, down, faulted, obeyed, opened, pruned, refused}
use Rattle.vc_model.specs.SharedCall.SharedCall.{StepOf}
use Rattle.vc_desk.specs.Entry.{AnswerText, EntryText, EventText}
use Rattle.vc_desk.specs.Entry.AnswerText.{Replied, Opened, Checked, Migrated, Updated, Atomic, AtomicRefused, Finished, Failed}
use Rattle.vc_desk.specs.Entry.EventText.{Accepts, Steps}
use Rattle.vc_desk.specs.Laws.{EveryLogIsSafe, IsNoReply, IsStep, StepsOfNonePass}
use Rattle.vc_desk.specs.Runs.{IsCallOf, IsLogOf, IsNext, Shows, ShowsStepped}
use Rattle.vc_model.proofs.Desk.{exact_log, node_of_log}

-- ---- every log is safe

served_parts : (late early : ExactLog) → map served (late ++ early) ≡ map served late ++ map served early
served_parts [] early = refl
served_parts (r ∷ late) early = ap (λ (l : Log). served r ∷ l) (served_parts late early)

module _ (n : SharedNode) (es : ExactLog) (sound : OpensSound git n) (answered : IsAnswered git git_rules n es) (one : NoneCollide git n (map served es)) where
  parts : (late early : ExactLog) → es ≡ late ++ early → map served es ≡ map served late ++ map served early
  parts late early is = ap (λ (l : ExactLog). map served l) is ∙ served_parts late early

  run : (late early : ExactLog) → es ≡ late ++ early → IsServed git n (map served late ++ map served early)
  run late early is = subst (λ (l : Log). IsServed git n l) (parts late early is) (exact_log git git_rules n es answered)

  apart : (late early : ExactLog) → es ≡ late ++ early → NoneCollide git n (map served late ++ map served early)
  apart late early is = subst (λ (l : Log). NoneCollide git n l) (parts late early is) one

  closed : (late early : ExactLog) → es ≡ late ++ early → ClosedUnderRefs git (node_left n early).repository
  closed late early is =
      subst (λ (m : SharedNode). ClosedUnderRefs git m.repository) (node_of_log n early) (desk_closed git n (map served late) (map served early) sound (run late early is) (apart late early is))

  forward : (late early : ExactLog) (b : List ℕ) (x : Id) → es ≡ late ++ early → get (node_left n early).repository.refs (branch b) ≡ Some x
      → (y : Id) × (get (node_left n es).repository.refs (branch b) ≡ Some y) × IsAncestorAmong git (WasThere n (map served es)) x y
  forward late early b x is at =
      let before = subst (λ (m : SharedNode). get m.repository.refs (branch b) ≡ Some x) (sym (node_of_log n early)) at in
      let ends = desk_forward git n (map served late) (map served early) b x sound (run late early is) (apart late early is) before in
      let whole = subst (λ (l : Log). (get (node_after n l).repository.refs (branch b) ≡ Some ends.0) × IsAncestorAmong git (WasThere n l) x ends.0) (sym (parts late early is)) (ends.1, ends.2) in
      (ends.0, subst (λ (m : SharedNode). get m.repository.refs (branch b) ≡ Some ends.0) (node_of_log n es) whole.0, whole.1)

pub every_log_is_safe : {S : Type 0} (holds : S → SharedNode → Type 0) → EveryLogIsSafe holds
every_log_is_safe holds start now log n runs held sound =
    let run = runs.each n held in (
      run.0,
      run.1,
      run.2,
      λ one. record {
        closed = λ late early is. closed n run.0 sound (run.3 sound one) one late early is;
        forward = λ late early b x is at. forward n run.0 sound (run.3 sound one) one late early b x is at;
      },
    )

-- ---- steps of no push

-- the machine's answer is no reply
abbrev IsNone : Answer → Type 0
IsNone (Did reply) = ⊥
IsNone _ = Unit {0}

-- the same repository, and no push is open
record IsStill (start now : SharedNode) : Type 0 where
  pub repository : now.repository ≡ start.repository
  pub idle : (slots : Slots) → now.live ≡ Some slots → slots ≡ empty

abbrev IsStepOf : SharedCall → Type 0
IsStepOf (StepOf k) = Unit {0}
IsStepOf _ = ⊥

none_open : (slots : Slots) (k : ℕ) (p : OpenPush) → slots ≡ empty → get slots k ≡ Some p → ⊥
none_open slots k p is at = none_in_empty nat_cmp k p (subst (λ (s : Slots). get s k ≡ Some p) is at)

still_is : (start old new : SharedNode) → new ≡ old → IsStill start old → IsStill start new
still_is start old new is s = subst (λ (m : SharedNode). IsStill start m) (sym is) s

step_none : (start old new : SharedNode) (k : ℕ) (a : Answer) (sends : Option Message) → IsStill start old → SharedAnswers git git_rules old (StepOf k) a new sends → IsNone a × IsStill start new
step_none start old new k a sends s (down is_down other is same quiet) = (subst IsNone (sym is) tt, still_is start old new same s)
step_none start old new k a sends s (asked w q up is tells same quiet) = absurd (subst IsStepOf is tt)
step_none start old new k a sends s (refused w n up refuses is same quiet) = (subst IsNone (sym is) tt, still_is start old new same s)
step_none start old new k a sends s (obeyed w d up obeys ends sent) = absurd (none_open w k obeys.0 (s.idle w up) obeys.1)
step_none start old new k a sends s (pruned w up is ends quiet) = absurd (subst IsStepOf is tt)
step_none start old new k a sends s (opened is ends quiet) = absurd (subst IsStepOf is tt)
step_none start old new k a sends s (faulted w f up other is same quiet) = (
  subst IsNone (sym is) tt,
  record { repository = ap (λ (m : SharedNode). m.repository) same ∙ s.repository; idle = λ slots up. absurd (let gone : None ≡ Some slots = subst (λ (m : SharedNode). m.live ≡ Some slots) same up in cc gone) },
)

told_none : (answer : AnswerText) (a : Answer) (sends : Option Message) → IsNone a → ShowsStepped answer a sends → IsNoReply answer
told_none (Replied bytes) a sends none shows = absurd shows
told_none (Opened k) a sends none shows = absurd shows
told_none (Checked n) a sends none shows = absurd (subst IsNone shows.answer none)
told_none Migrated a sends none shows = absurd (subst IsNone shows.answer none)
told_none (Updated name found) a sends none shows = absurd (subst IsNone shows.answer none)
told_none (Atomic n) a sends none shows = absurd (subst IsNone shows.answer none)
told_none (AtomicRefused name reason) a sends none shows = absurd (subst IsNone shows.answer none)
told_none (Finished bytes) a sends none shows = absurd (subst IsNone shows.answer none)
told_none (Failed failure) a sends none shows = tt

at_still : (start now : SharedNode) → OpensSound git start → IsStill start now → (o : Object) → IsAt now o → IsAt start o
at_still start now sound s o (in_store has) = in_store (subst (λ (r : Repository). HasObject r.objects o) s.repository has)
at_still start now sound s o (in_push slots k p up at has) = absurd (none_open slots k p (s.idle slots up) at)

-- the event of the call brings the object
abbrev Brings : SharedCall → Object → Type 0
Brings c o = IsBrought (shared_event c) o

-- what came by steps alone was there
record Stays (start : SharedNode) (es : ExactLog) : Type 0 where
  pub still : IsStill start (node_left start es)
  pub there : (o : Object) → WasThere start (map served es) o → IsAt start o

apart_still : (start : SharedNode) (es : ExactLog) → Stays start es → NoneCollide git start [] → NoneCollide git start (map served es)
apart_still start es stays one o p a b is = one o p (stays.there o a) (stays.there p b) is

stays_on : (start : SharedNode) (es : ExactLog) (r : Receipt) (k : ℕ) → OpensSound git start → r.call ≡ StepOf k → IsStill start r.node → Stays start es → Stays start (r ∷ es)
stays_on start es r k sound is still stays = record { still = still; there = was }
  where
    was : (o : Object) → WasThere start (map served (r ∷ es)) o → IsAt start o
    was o (inl now) = at_still start r.node sound still o now
    was o (inr (inl brought)) = absurd (subst (λ (c : SharedCall). Brings c o) is brought)
    was o (inr (inr before)) = stays.there o before

abbrev all_steps : List EntryText → Type 0
all_steps log = AllByRecursion (λ (e : EntryText). IsStep e.event) log

abbrev no_replies : List EntryText → Type 0
no_replies log = AllByRecursion (λ (e : EntryText). IsNoReply e.answer) log

front_steps : (front : List EntryText) (e : EntryText) → all_steps (front ++ e ∷ []) → all_steps front × IsStep e.event
front_steps [] e all = (tt, all.0)
front_steps (x ∷ front) e all = let more = front_steps front e all.1 in ((all.0, more.0), more.1)

with_last : (front : List EntryText) (e : EntryText) → no_replies front → IsNoReply e.answer → no_replies (front ++ e ∷ [])
with_last [] e all last = (last, tt)
with_last (x ∷ front) e all last = (all.0, with_last front e all.1 last)

event_none : (start : SharedNode) (es : ExactLog) (e : EntryText) (event : EventText) (r : Receipt) → e.event ≡ event → IsStep event → OpensSound git start → NoneCollide git start [] → Stays start es → IsNext start es e r
    → IsNoReply e.answer × Stays start (r ∷ es)
event_none start es e (Accepts bytes) r is step sound one stays next = absurd step
event_none start es e (Steps k) r is step sound one stays next =
    let call : r.call ≡ StepOf k = subst (λ (v : EventText). IsCallOf v r.call) is next.call in
    let answers : SharedAnswers git git_rules (node_left start es) (StepOf k) r.answer r.node r.sends
    = subst (λ (c : SharedCall). SharedAnswers git git_rules (node_left start es) c r.answer r.node r.sends) call (next.step sound (apart_still start es stays one)) in
    let did = step_none start (node_left start es) r.node k r.answer r.sends stays.still answers in
    (told_none e.answer r.answer r.sends did.0 (subst (λ (v : EventText). Shows v e.answer r.answer r.sends) is next.shows), stays_on start es r k sound call did.1 stays)

each_none : (start : SharedNode) → OpensSound git start → NoneCollide git start [] → (es : ExactLog) (log : List EntryText) → IsLogOf start log es → all_steps log → no_replies log × Stays start es
each_none start sound one [] log is all = (
  subst no_replies (sym is) tt,
  record { still = record { repository = refl; idle = sound.idle }; there = λ o at. at },
)
each_none start sound one (r ∷ es) log (front, e, is, next, before) all =
    let parts = front_steps front e (subst all_steps is all) in
    let so = each_none start sound one es front before parts.0 in
    let now = event_none start es e e.event r refl parts.1 sound one so.1 next in
    (subst no_replies (sym is) (with_last front e so.0 now.0), now.1)

pub steps_of_none : {S : Type 0} (holds : S → SharedNode → Type 0) → StepsOfNonePass holds
steps_of_none holds start now log n runs held sound one all =
    let run = runs.each n held in (each_none n sound one run.0 log run.1 all).0
