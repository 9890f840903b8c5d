-- Each call of an exchange is a step of the machine that keeps the clone sound.
use Rattle.std.proofs.Common.{◌≡◌, Bool, List, [], ◌∷◌, ◌++◌, Option, refl, sym, subst}
use Rattle.vc_lemmas.proofs.Lists.{all_append}
use Rattle.vc_model.specs.Object.{Format}
use Rattle.vc_model.specs.Repository.{Repository, IsSound}
use Rattle.vc_model.specs.Message.{Message}
use Rattle.vc_model.specs.Node.{Answer}
use Rattle.vc_model.specs.Clone.{CloneNode, PushItem, Task}
use Rattle.vc_model.specs.Clone.Task.{Write, Stage, Unstage, LoadTree, MakeCommit, SetBranch, DeleteBranch, MoveHead, StartFetch, StartPush}
use Rattle.vc_model.specs.Keeping.{Comes, Fits}
use Rattle.vc_model.specs.Rules.{Rules}
use Rattle.vc_model.specs.CloneCall.{CloneAnswers, CloneCall}
use Rattle.vc_model.specs.CloneCall.CloneCall.{Command, Receive, Asks, Prune, Open}
use Rattle.vc_model.specs.Exact.{CallFits, MadeFit, clone_event}
use Rattle.vc_model.proofs.CloneAnswers.{clone_answer_is_step}
use Rattle.vc_model.proofs.Kept.{clone_step}
use Rattle.vc_trail.specs.Trail.{AreExchanged, IsBrought, IsExchanged, IsExchangedIn, IsStart, IsTrail, Trail, clone_after}
use Rattle.vc_trail.specs.Laws.{TrailStaysSound}

-- the start of a fetch, or of a push
pub start_cases : (P : Task → Type 0) → P StartFetch → ((atomic : Bool) (items : List PushItem) → P (StartPush atomic items)) → (t : Task) → IsStart t → P t
start_cases P fetch push StartFetch h = fetch
start_cases P fetch push (StartPush atomic items) h = push atomic items
start_cases P fetch push (Write o) h = absurd h
start_cases P fetch push (Stage path mode content) h = absurd h
start_cases P fetch push (Unstage path) h = absurd h
start_cases P fetch push (LoadTree x) h = absurd h
start_cases P fetch push (MakeCommit extra author committer message) h = absurd h
start_cases P fetch push (SetBranch n x) h = absurd h
start_cases P fetch push (DeleteBranch n) h = absurd h
start_cases P fetch push (MoveHead head) h = absurd h

pub brought_exchanged : (fmt : Format) (e : CloneCall) → IsBrought fmt e → IsExchanged fmt e
brought_exchanged fmt (Command t) h = absurd h
brought_exchanged fmt (Receive m) h = h
brought_exchanged fmt (Asks q) h = h
brought_exchanged fmt Prune h = absurd h
brought_exchanged fmt Open h = absurd h

-- ---- fronts and ends of trails

module _ (fmt : Format) (rules : Rules fmt) where
  pub earlier_trail : (start : CloneNode) (late early : Trail) → IsTrail fmt rules start (late ++ early) → IsTrail fmt rules start early
  earlier_trail start [] early k = k
  earlier_trail start (t ∷ late) early k = earlier_trail start late early k.1

  pub earlier_calls : (late early : Trail) → AreExchanged fmt (late ++ early) → AreExchanged fmt early
  earlier_calls [] early a = a
  earlier_calls (t ∷ late) early a = earlier_calls late early a.1

  -- ---- a turn

  fits : (r : Repository) (e : CloneCall) → IsExchanged fmt e → CallFits fmt rules r e
  fits r (Command t) h = start_cases (λ t. MadeFit fmt rules r t) (record { stored = λ o p made. absurd made; apart = λ o p made. absurd made })
      (λ atomic items. record { stored = λ o p made. absurd made; apart = λ o p made. absurd made }) t h
  fits r (Receive m) h = tt
  fits r (Asks q) h = tt
  fits r Prune h = tt
  fits r Open h = tt

  comes : (r : Repository) (e : CloneCall) → IsExchanged fmt e → Comes fmt r (clone_event e)
  comes r (Command t) h = start_cases (λ t. Fits fmt r t) (λ o p brings at. absurd brings) (λ atomic items o p brings at. absurd brings) t h
  comes r (Receive m) h = h
  comes r (Asks q) h = tt
  comes r Prune h = tt
  comes r Open h = tt

  pub turn_sound : (old new : CloneNode) (e : CloneCall) (a : Answer) (sends : Option Message) → IsSound fmt old.repository → IsExchanged fmt e → CloneAnswers fmt rules old e a new sends → IsSound fmt new.repository
  turn_sound old new e a sends sound is k = (clone_step fmt old new (clone_event e) a sends sound (comes old.repository e is) (clone_answer_is_step fmt rules old new e a sends sound (fits old.repository e is) k)).sound

  pub trail_sound : (start : CloneNode) (ts : Trail) → IsSound fmt start.repository → IsTrail fmt rules start ts → AreExchanged fmt ts → IsSound fmt (clone_after start ts).repository
  trail_sound start [] sound k a = sound
  trail_sound start (t ∷ ts) sound k a = turn_sound (clone_after start ts) t.node t.call t.answer t.sends (trail_sound start ts sound k.1 a.1) a.0 k.0

  pub stays_sound : TrailStaysSound fmt rules
  stays_sound start late early sound k a = trail_sound start early sound (earlier_trail start late early k) (earlier_calls late early a)

  -- ---- one trail after another

  pub after_both : (start : CloneNode) (late early : Trail) → clone_after start (late ++ early) ≡ clone_after (clone_after start early) late
  after_both start [] early = refl
  after_both start (t ∷ late) early = refl

  pub both_trails : (start : CloneNode) (late early : Trail) → IsTrail fmt rules start early → IsTrail fmt rules (clone_after start early) late → IsTrail fmt rules start (late ++ early)
  both_trails start [] early k l = k
  both_trails start (t ∷ late) early k l = (subst (λ c. CloneAnswers fmt rules c t.call t.answer t.node t.sends) (sym (after_both start late early)) l.0, both_trails start late early k l.1)

  pub both_called : (late early : Trail) → AreExchanged fmt early → AreExchanged fmt late → AreExchanged fmt (late ++ early)
  both_called late early a b = all_append (IsExchangedIn fmt) late early b a
