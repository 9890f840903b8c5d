-- Along the log of a life each answer is the machine's, and what is there was there at the start or came.
use Rattle.std.proofs.Common.{append_assoc, ◌≡◌, ◌⊎◌, [], ◌∷◌, ◌++◌, map, Option, Some, inl, inr, refl, sym, ap, ◌∙◌, subst, nat_cmp}
use Rattle.std.specs.FinMap.{empty, get}
use Rattle.vc_model.specs.Desk.{ExactLog, IsAnswered, IsAt, IsBrought, IsWell, NoneCollide, OpensSound, Receipt, WasThere, node_left, served}
use Rattle.vc_model.specs.Desk.IsAt.{in_push, in_store}
use Rattle.vc_model.specs.Exact.{shared_event}
use Rattle.vc_model.specs.Message.{HasObject}
use Rattle.vc_model.specs.Object.{Format, Object}
use Rattle.vc_model.specs.Push.{Slots}
use Rattle.vc_model.specs.Repository.{IsBare, IsSound, Repository}
use Rattle.vc_model.specs.Rules.{Rules}
use Rattle.vc_model.specs.Shared.{SharedNode}
use Rattle.vc_model.specs.SharedCall.{SharedAnswers}
use Rattle.vc_model.specs.SharedCall.SharedAnswers.{opened}
use Rattle.vc_model.proofs.Desk.{exact_log_stays_sound}
use Rattle.vc_model.proofs.Maps.{none_in_empty}
use Rattle.vc_life.specs.Laws.{LifeIsLog, LifeStaysSound, TurnsAreMoments}
use Rattle.vc_life.specs.Life.{AreApart, IsAnsweredAlong, IsThere, Life, log_of, opened_shared, opening, repository_after, repository_at}
use Rattle.vc_life.proofs.Calls.{answer_from}

-- ---- fronts

pub apart_before : (fmt : Format) (start : Repository) (late early : ExactLog) → AreApart fmt start (late ++ early) → AreApart fmt start early
apart_before fmt start [] early apart = apart
apart_before fmt start (e ∷ late) early apart = apart_before fmt start late early (λ o p a b is. apart o p (inr a) (inr b) is)

pub along_before : (fmt : Format) (rules : Rules fmt) (start : Repository) (late early : ExactLog) → IsAnsweredAlong fmt rules start (late ++ early) → IsAnsweredAlong fmt rules start early
along_before fmt rules start [] early k = k
along_before fmt rules start (e ∷ late) early k = along_before fmt rules start late early k.2

pub answered_before : (fmt : Format) (rules : Rules fmt) (start : SharedNode) (late early : ExactLog) → IsAnswered fmt rules start (late ++ early) → IsAnswered fmt rules start early
answered_before fmt rules start [] early k = k
answered_before fmt rules start (e ∷ late) early k = answered_before fmt rules start late early k.2

-- ---- what is there

at_start : (start : Repository) (o : Object) → IsAt (opened_shared start) o → HasObject start.objects o
at_start start o (in_store has) = has
at_start start o (in_push slots s p up got has) = absurd (none_in_empty nat_cmp s p (ap (λ (w : Slots). get w s) (none_open (Some empty) slots refl up) ∙ got))
  where
    none_open : (l : Option Slots) (w : Slots) → l ≡ Some empty → l ≡ Some w → empty ≡ w
    none_open l w e f = cc

was_now : (n : SharedNode) (es : ExactLog) (o : Object) → IsAt (node_left n es) o → WasThere n (map served es) o
was_now n [] o at = at
was_now n (e ∷ es) o at = inl at

module _ (fmt : Format) (rules : Rules fmt) (start : Repository) (sound : IsSound fmt start) (bare : IsBare fmt start) where
  opens_sound : OpensSound fmt (opened_shared start)
  opens_sound = record { sound = sound; bare = bare; idle = λ slots up. idle (Some empty) slots refl up }
    where
      idle : (l : Option Slots) (w : Slots) → l ≡ Some empty → l ≡ Some w → w ≡ empty
      idle l w e f = cc

  -- of a log
  pub record Exact (es : ExactLog) : Type 0 where
    pub answered : IsAnswered fmt rules (opened_shared start) es
    pub was : (o : Object) → WasThere (opened_shared start) (map served es) o → IsThere start es o

  pub exact : (es : ExactLog) → IsAnsweredAlong fmt rules start es → AreApart fmt start es → Exact es
  exact [] k apart = record { answered = tt; was = λ o at. at_start start o at }
  exact (e ∷ es) k apart =
      let one : AreApart fmt start es = apart_before fmt start (e ∷ []) es apart in
      let so : Exact es = exact es k.2 one in
      let now = k.1 sound bare one in
      record { answered = (k.0, now, so.answered); was = was e es so (answer_from fmt rules (node_left (opened_shared start) es) e.node e.call e.answer e.sends now).each }
    where
      was : (e : Receipt) (es : ExactLog) → Exact es → ((o : Object) → IsAt e.node o → IsAt (node_left (opened_shared start) es) o ⊎ IsBrought (shared_event e.call) o)
          → (o : Object) → WasThere (opened_shared start) (map served (e ∷ es)) o → IsThere start (e ∷ es) o
      was e es so from o (inl at) = elim (from o at) [ inl before ↦ inr (so.was o (was_now (opened_shared start) es o before)) | inr brought ↦ inl brought ]
      was e es so from o (inr (inl brought)) = inl brought
      was e es so from o (inr (inr before)) = inr (so.was o before)

  pub collide_none : (es : ExactLog) → AreApart fmt start es → Exact es → NoneCollide fmt (opened_shared start) (map served es)
  collide_none es apart so o p a b is = apart o p (so.was o a) (so.was p b) is

  -- what the next call is asked of
  pub sound_along : (es : ExactLog) → IsAnsweredAlong fmt rules start es → AreApart fmt start es → IsSound fmt (repository_at start es) × IsBare fmt (repository_at start es)
  sound_along es k apart =
      let so : Exact es = exact es k apart in
      exact_log_stays_sound fmt rules (opened_shared start) es opens_sound so.answered (collide_none es apart so)

  pub log_along : (es : ExactLog) → IsAnsweredAlong fmt rules start es → AreApart fmt start es
      → OpensSound fmt (opened_shared start) × IsAnswered fmt rules (opened_shared start) es × NoneCollide fmt (opened_shared start) (map served es)
  log_along es k apart = let so : Exact es = exact es k apart in (opens_sound, so.answered, collide_none es apart so)

-- ---- the laws

pub life_log : (fmt : Format) (rules : Rules fmt) → LifeIsLog fmt rules
life_log fmt rules start ts life begins = log_along fmt rules start begins.sound begins.bare (log_of start ts) life.answered begins.apart

pub life_sound : (fmt : Format) (rules : Rules fmt) → LifeStaysSound fmt rules
life_sound fmt rules start ts late early life begins is =
    sound_along fmt rules start begins.sound begins.bare early
    (along_before fmt rules start late early (subst (λ (es : ExactLog). IsAnsweredAlong fmt rules start es) is life.answered))
    (apart_before fmt start late early (subst (λ (es : ExactLog). AreApart fmt start es) is begins.apart))

pub moment_of : (start : Repository) (ts : Life) → repository_at start (log_of start ts) ≡ repository_after start ts
moment_of start [] = refl
moment_of start ([] ∷ ts) = refl
moment_of start ((e ∷ t) ∷ ts) = refl

pub more_of : (start : Repository) (late early : Life) → (more : ExactLog) × (log_of start (late ++ early) ≡ more ++ log_of start early)
more_of start [] early = ([], refl)
more_of start (t ∷ late) early =
    let rest = more_of start late early in
    let r : Repository = repository_after start (late ++ early) in
    (t ++ opening r ∷ rest.0, ap (λ (es : ExactLog). t ++ opening r ∷ es) rest.1 ∙ sym (append_assoc t (opening r ∷ rest.0) (log_of start early)))

pub turns_moments : TurnsAreMoments
turns_moments start late early = let rest = more_of start late early in (rest.0, rest.1, moment_of start early)

-- ---- a life is lengthened

-- by a call that is the machine's, if the node before it was sound and bare
pub along_more : (fmt : Format) (rules : Rules fmt) (start : Repository) (es : ExactLog) (e : Receipt) → IsAnsweredAlong fmt rules start es → IsWell fmt (shared_event e.call)
    → (IsSound fmt (repository_at start es) → IsBare fmt (repository_at start es) → SharedAnswers fmt rules (node_left (opened_shared start) es) e.call e.answer e.node e.sends) → IsAnsweredAlong fmt rules start (e ∷ es)
along_more fmt rules start es e k well may = (well, λ sound bare apart. let good = sound_along fmt rules start sound bare es k apart in may good.0 good.1, k)

-- by the opening before a turn
pub along_opening : (fmt : Format) (rules : Rules fmt) (start : Repository) (ts : Life) → IsAnsweredAlong fmt rules start (log_of start ts) → IsAnsweredAlong fmt rules start (opening (repository_after start ts) ∷ log_of start ts)
along_opening fmt rules start ts k = (tt, λ sound bare apart. opened refl (refl, ap opened_shared (sym (moment_of start ts))) refl, k)
