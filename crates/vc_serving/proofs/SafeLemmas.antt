-- Each exchange of a server is safe.
use Rattle.std.proofs.Common.{◌≡◌, ℕ, List, [], ◌∷◌, ◌++◌, Option, Some, None, Ok, Err, refl, sym, ap, ◌∙◌, subst}
use Rattle.vc_files.specs.FileMap.{FileMap}
use Rattle.vc_life.proofs.Along.{life_sound, moment_of, more_of}
use Rattle.vc_life.proofs.Reporting.{life_reports}
use Rattle.vc_life.proofs.Safety.{life_forward}
use Rattle.vc_life.specs.Laws.{BeginsWell, GoesForward}
use Rattle.vc_life.specs.Life.{IsLife, IsTurn, Life, log_of, repository_after, repository_at}
use Rattle.vc_local.specs.Opening.{IsOpenable}
use Rattle.vc_model.proofs.Pushes.{all_back}
use Rattle.vc_model.specs.Desk.{ExactLog, Receipt}
use Rattle.vc_model.specs.Message.{Message}
use Rattle.vc_model.specs.Message.Message.{Advert, Error, ListRefs, Pack, Push, Report, Want}
use Rattle.vc_model.specs.Repository.{IsBare, IsSound, Repository}
use Rattle.vc_rules.specs.Git.{git}
use Rattle.vc_server.specs.Coming.{Reply}
use Rattle.vc_values.proofs.GitLaws.{git_rules}
use Rattle.vc_serving.proofs.LifeLemmas.{held_now}
use Rattle.vc_serving.specs.InTurn.{AreHeld, Exchange, IsAnsweredBy, IsTurnOf}
use Rattle.vc_serving.specs.Safe.{EachExchangeIsSafe, IsTrueOf, IsTrueReply}

-- ---- along a life

module _ (r : Repository) (late early : Life) (t : ExactLog) (life : IsLife git git_rules r (late ++ t ∷ early)) (begins : BeginsWell git r (late ++ t ∷ early)) where
  sound_then : IsSound git (repository_after r (t ∷ early)) × IsBare git (repository_after r (t ∷ early))
  sound_then =
      let more = more_of r late (t ∷ early) in
      subst (λ (q : Repository). IsSound git q × IsBare git q) (moment_of r (t ∷ early)) (life_sound git git_rules r (late ++ t ∷ early) more.0 (log_of r (t ∷ early)) life begins more.1)

  forward_then : GoesForward git (repository_after r early) (repository_after r (t ∷ early))
  forward_then =
      let more = more_of r late (t ∷ early) in
      let one = more_of r (t ∷ []) early in
      let is : log_of r (late ++ t ∷ early) ≡ more.0 ++ (one.0 ++ log_of r early) = more.1 ∙ ap (λ (es : ExactLog). more.0 ++ es) one.1 in
      let forward : GoesForward git (repository_at r (log_of r early)) (repository_at r (one.0 ++ log_of r early)) = life_forward git git_rules r (late ++ t ∷ early) more.0 one.0 (log_of r early) life begins is in
      subst (λ (q : Repository). GoesForward git q (repository_after r (t ∷ early))) (moment_of r early)
      (subst (λ (q : Repository). GoesForward git (repository_at r (log_of r early)) q) (ap (repository_at r) (sym one.1) ∙ moment_of r (t ∷ early)) forward)

  this_turn : IsTurn t
  this_turn = (all_back IsTurn late (t ∷ early) life.turns).0

-- what was sent is true
true_message : (r : Repository) (late early : Life) (last : Receipt) (before : ExactLog) (m : Message) → IsLife git git_rules r (late ++ (last ∷ before) ∷ early) → BeginsWell git r (late ++ (last ∷ before) ∷ early) → last.sends ≡ Some m
    → IsTrueOf m (repository_after r early) last.node.repository
true_message r late early last before (Report fault told) life begins sent =
    let turn = this_turn r late early (last ∷ before) life begins in
    (life_reports git git_rules r late early last before turn.0 fault told life begins turn.1 turn.2 sent).set
true_message r late early last before ListRefs life begins sent = tt
true_message r late early last before (Advert head refs) life begins sent = tt
true_message r late early last before (Want wants haves) life begins sent = tt
true_message r late early last before (Pack ack objects) life begins sent = tt
true_message r late early last before (Push atomic fault cs objects) life begins sent = tt
true_message r late early last before (Error text) life begins sent = tt

true_reply : (r : Repository) (late early : Life) (t : ExactLog) (before rest : Option (List ℕ)) (answered : Reply) → IsLife git git_rules r (late ++ t ∷ early) → BeginsWell git r (late ++ t ∷ early) → IsAnsweredBy before rest answered t
    → IsTrueReply answered (repository_after r early) (repository_after r (t ∷ early))
true_reply r late early [] before rest (Ok (Some reply)) life begins by = absurd by
true_reply r late early (last ∷ es) before rest (Ok (Some reply)) life begins by = (by.1.message, by.1.written, true_message r late early last es by.1.message life begins by.1.sent)
true_reply r late early t before rest (Ok None) life begins by = tt
true_reply r late early t before rest (Err e) life begins by = tt

-- ---- an exchange among the others

module _ {F R W : Type 0} (content : F → FileMap) (remaining : R → Option (List ℕ)) (contents : W → Option (List ℕ)) (start : F) (r : Repository) where
  -- its turn
  record IsAt (x : Exchange F R W) (early : List (Exchange F R W)) (ts : Life) : Type 0 where
    later : Life
    calls : ExactLog
    earlier : Life
    turns : ts ≡ later ++ calls ∷ earlier
    turn : IsTurnOf remaining contents x calls
    openable : IsOpenable (content x.files) (repository_after r (calls ∷ earlier))
    held : AreHeld content remaining contents start r early earlier

  at : (late early : List (Exchange F R W)) (x : Exchange F R W) (ts : Life) → AreHeld content remaining contents start r (late ++ x ∷ early) ts → IsAt x early ts
  at [] early x [] held = absurd held
  at [] early x (t ∷ ts) held = record { later = []; calls = t; earlier = ts; turns = refl; turn = held.0; openable = held.1; held = held.2 }
  at (y ∷ late) early x [] held = absurd held
  at (y ∷ late) early x (t ∷ ts) held =
      let more : IsAt x early ts = at late early x ts held.2 in
      record { later = t ∷ more.later; calls = more.calls; earlier = more.earlier; turns = ap (λ (l : Life). t ∷ l) more.turns; turn = more.turn; openable = more.openable; held = more.held }

pub each_safe : {F R W : Type 0} (content : F → FileMap) (remaining : R → Option (List ℕ)) (contents : W → Option (List ℕ)) → EachExchangeIsSafe content remaining contents
each_safe {F} {R} {W} content remaining contents start r late early x l begins =
    let a : IsAt content remaining contents start r x early l.life = at content remaining contents start r late early x l.life l.held in
    let life : IsLife git git_rules r (a.later ++ a.calls ∷ a.earlier) = subst (λ (ts : Life). IsLife git git_rules r ts) a.turns l.is_life in
    let well : BeginsWell git r (a.later ++ a.calls ∷ a.earlier) = subst (λ (ts : Life). BeginsWell git r ts) a.turns begins in
    let good = sound_then r a.later a.earlier a.calls life well in
    record {
      before = repository_after r a.earlier;
      after = repository_after r (a.calls ∷ a.earlier);
      was = held_now content remaining contents start r early a.earlier a.held;
      is = a.openable;
      sound = good.0;
      bare = good.1;
      forward = forward_then r a.later a.earlier a.calls life well;
      answered = a.turn.answered;
      told = a.turn.told;
      true_reply = true_reply r a.later a.earlier a.calls (remaining x.reader) (remaining x.rest) a.turn.answered life well a.turn.by;
    }
