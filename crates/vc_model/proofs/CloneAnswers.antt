-- An exact answer of a clone is a step of the machine.
use Rattle.std.proofs.Common.{◌≡◌, ◌≢◌, ℕ, Option, None, Result, Ok, Err, inl, inr, refl, sym, ap, subst}
use Rattle.vc_model.specs.Object.{Id, Object, Format, Objects, over}
use Rattle.vc_model.specs.Refs.Head.{OnBranch, Detached}
use Rattle.vc_model.specs.Repository.{Repository, IsSound}
use Rattle.vc_model.specs.Message.{Message}
use Rattle.vc_model.specs.Node.{Answer, Deed, IsNoFault}
use Rattle.vc_model.specs.Node.Answer.{Did, Declined}
use Rattle.vc_model.specs.Clone.{Awaited, CloneNode, Task, Performs, CloneDoes, CloneDeclines, CloneStep, with_object}
use Rattle.vc_model.specs.Clone.Task.{Write, Stage, Unstage, LoadTree, MakeCommit, SetBranch, DeleteBranch, MoveHead, StartFetch, StartPush}
use Rattle.vc_model.specs.Clone.CloneStep.{down as step_down, declines as step_declines, works as step_works, prunes as step_prunes, restarts as step_restarts, quiet as step_quiet, faults as step_faults}
use Rattle.vc_model.specs.Rules.{Rules, rules_by}
use Rattle.vc_model.specs.Node.Reply.{Stored, Same, Differs}
use Rattle.vc_model.specs.Question.{Question, Tells, Compares, found}
use Rattle.vc_model.specs.Run.{BringsLocally}
use Rattle.vc_model.specs.CloneCall.{new_commit, Obeys, Makes, CloneCall, CloneObeys, CloneRefuses, CloneAnswers}
use Rattle.vc_model.specs.CloneCall.CloneCall.{Command, Receive, Asks, Prune, Open}
use Rattle.vc_model.specs.CloneCall.CloneAnswers.{down, asked, refused, obeyed, pruned, opened, faulted}
use Rattle.vc_model.specs.Question.Question.{Unread, Unresolved, Interrupted, Resolve, Compare, PackRefs}
use Rattle.vc_model.specs.Exact.{clone_event, MadeFit, CallFits, CloneAnswerIsStep}
use Rattle.vc_model.proofs.Commits.{commit_good, trees_found}

module _ (fmt : Format) (rules : Rules fmt) where
  obeys_performs : (r : Repository) (a : Awaited) (t : Task) (d : Deed Awaited) → IsSound fmt r → MadeFit fmt rules r t → Obeys fmt rules r a t d → Performs fmt r a t d
  obeys_performs r a (Write o) d s f h = h.1
  obeys_performs r a (Stage p mode content) d s f h = h.3
  obeys_performs r a (Unstage p) d s f h = h
  obeys_performs r a (LoadTree x) d s f h = let k = rules.index_reached r.objects x h.0 h.1 in (h.0, k.0, k.1, h.2)
  obeys_performs r a (MakeCommit extra author committer message) d s f h =
      let t = h.3.0 in
      let made : Objects = with_object t.0 (fmt.name_of (new_commit fmt r t.1 extra author committer message)) (new_commit fmt r t.1 extra author committer message) in (
        made,
        fmt.name_of (new_commit fmt r t.1 extra author committer message),
        record {
          trees = t.0;
          root = t.1;
          commit = new_commit fmt r t.1 extra author committer message;
          trees_are = record {
            named = rules.trees_named r.index t h.3.1;
            closed = λ entries. rules.trees_closed r.index t (over r.objects made) h.3.1 (trees_found fmt rules r extra author committer message t s f h.3.1) entries;
          };
          commit_is = refl;
          name_is = refl;
          objects_are = refl;
          free = h.1;
          good = commit_good fmt rules r extra author committer message t s f h.3.1 h.0 h.2;
        },
        h.3.2.1,
      )
  obeys_performs r a (SetBranch b x) d s f h = h
  obeys_performs r a (DeleteBranch b) d s f h = h
  obeys_performs r a (MoveHead (OnBranch b)) d s f h = h
  obeys_performs r a (MoveHead (Detached x)) d s f h = h
  obeys_performs r a StartFetch d s f h = h
  obeys_performs r a (StartPush atomic items) d s f h = h.2

  does : (r : Repository) (a : Awaited) (e : CloneCall) (d : Deed Awaited) → IsSound fmt r → CallFits fmt rules r e → CloneObeys fmt rules r a e d → CloneDoes fmt r a (clone_event e) d
  does r a (Command t) d s f h = obeys_performs r a t d s f h
  does r a (Receive m) d s f h = h
  does r a (Asks q) d s f h = absurd h
  does r a Prune d s f h = absurd h
  does r a Open d s f h = absurd h

  declined : (r : Repository) (a : Awaited) (e : CloneCall) (n : ℕ) → CloneRefuses fmt rules r a e n → CloneDeclines fmt r a (clone_event e) n
  declined r a (Command t) n h = tt
  declined r a (Receive m) n h = h
  declined r a (Asks q) n h = absurd h
  declined r a Prune n h = absurd h
  declined r a Open n h = absurd h

  -- what a command brings it makes
  pub made_of : (r : Repository) (t : Task) (o : Object) → BringsLocally t o → Makes fmt rules r t o
  made_of r (Write p) o h = h
  made_of r (Stage path mode content) o h = h
  made_of r (Unstage path) o h = absurd h
  made_of r (LoadTree x) o h = absurd h
  made_of r (MakeCommit x y z w) o h = absurd h
  made_of r (SetBranch b x) o h = absurd h
  made_of r (DeleteBranch b) o h = absurd h
  made_of r (MoveHead x) o h = absurd h
  made_of r StartFetch o h = absurd h
  made_of r (StartPush x y) o h = absurd h

  quiet_answer : (a b : Answer) → a ≡ b → IsNoFault b → IsNoFault a
  quiet_answer a b e h = subst IsNoFault (sym e) h

  found_quiet : (v : Result Id ℕ) → IsNoFault (found v)
  found_quiet (Ok x) = tt
  found_quiet (Err n) = tt

  pub told_quiet : (r : Repository) (q : Question) (a : Answer) → Tells fmt rules r q a → IsNoFault a
  told_quiet r (Unread n) a h = quiet_answer a (Declined n) h tt
  told_quiet r (Unresolved n) a h = quiet_answer a (Declined n) h tt
  told_quiet r Interrupted a h = absurd h
  told_quiet r (Resolve e) a h = quiet_answer a (found h.0) h.2 (found_quiet h.0)
  told_quiet r (Compare first second) a h = go h.0 h.2
    where
      go : (v : Result Id ℕ) → Compares fmt rules r v second a → IsNoFault a
      go (Err n) k = quiet_answer a (Declined n) k tt
      go (Ok x) k = elim (k.2) [
        | inl e ↦ quiet_answer a (Declined e.0) e.2 tt
        | inr e ↦ elim e [ inl f ↦ quiet_answer a (Did Same) f.1 tt | inr f ↦ quiet_answer a (Did Differs) f.3 tt ]
      ]
  told_quiet r PackRefs a h = elim h [ inl stored ↦ quiet_answer a (Did Stored) stored.1 tt | inr conflict ↦ quiet_answer a (Declined 32) conflict.1 tt ]

  pub clone_answer_is_step : (old new : CloneNode) (e : CloneCall) (a : Answer) (sends : Option Message) → IsSound fmt old.repository → CallFits fmt rules old.repository e
      → CloneAnswers fmt rules old e a new sends → CloneStep fmt old (clone_event e) a new sends
  clone_answer_is_step old new e a sends s f h = elim h [
    | down off other is same none ↦ go e other off is same none
    | asked w q up is tells same none ↦ step_quiet (ap clone_event is) (told_quiet old.repository q a tells) same none
    | refused w n up why is same none ↦ step_declines w n up (declined old.repository w e n why) is same none
    | obeyed w d up deed ends is ↦ step_works w d up (does old.repository w e d s f deed) ends is
    | pruned w up is ends none ↦ step_prunes w (ap clone_event is) up ends none
    | opened is ends none ↦ step_restarts (ap clone_event is) ends none
    | faulted w f up other is same none ↦ step_faults w f up is same none
  ]
    where
      go : (e : CloneCall) → e ≢ Open → old.live ≡ None → a ≡ Declined 112 → new ≡ old → sends ≡ None → CloneStep fmt old (clone_event e) a new sends
      go (Command t) other off is same none = step_down off (λ e. absurd (cc)) (λ e. absurd (cc)) is same none
      go (Receive m) other off is same none = step_down off (λ e. absurd (cc)) (λ e. absurd (cc)) is same none
      go (Asks q) other off is same none = step_quiet refl (quiet_answer a (Declined 112) is tt) same none
      go Prune other off is same none = step_down off (λ e. absurd (cc)) (λ e. absurd (cc)) is same none
      go Open other off is same none = absurd (other refl)

pub clone_answers_are_steps : CloneAnswerIsStep
clone_answers_are_steps fmt tests old new e a sends s f h = clone_answer_is_step fmt (rules_by fmt tests) old new e a sends s f h
