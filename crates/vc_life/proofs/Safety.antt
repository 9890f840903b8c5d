-- From each moment of a life to each later one no object is gone, and branches go forward.
use Rattle.std.proofs.Common.{◌≡◌, ℕ, List, [], ◌∷◌, ◌++◌, map, Some, inl, refl, sym, ap, ◌∙◌, subst}
use Rattle.std.proofs.lemmas.List.{map-append}
use Rattle.std.specs.FinMap.{get}
use Rattle.std.specs.List.{AllByRecursion}
use Rattle.vc_lemmas.proofs.Lists.{all_append, all_map}
use Rattle.vc_model.specs.Desk.{ExactLog, IsAnswered, IsServed as IsServedLog, Log, NoneCollide, Receipt, WasThere, node_after, node_left, served}
use Rattle.vc_model.specs.Desk.IsAt.{in_store}
use Rattle.vc_model.specs.Message.{HasObject}
use Rattle.vc_model.specs.Object.{Format, Id, Object, Objects, IsNamed, stored}
use Rattle.vc_model.specs.Reach.{HasParent, HasParentAmong, IsAncestor, IsAncestorAmong, IsClosed, Path}
use Rattle.vc_model.specs.Refs.{branch}
use Rattle.vc_model.specs.Repository.{IsBare, IsSound, Repository}
use Rattle.vc_model.specs.Rules.{Rules}
use Rattle.vc_model.specs.Shared.{SharedNode}
use Rattle.vc_model.specs.SharedCall.{SharedCall}
use Rattle.vc_model.specs.SharedCall.SharedCall.{Accept, Asks, Open, Prune, StepOf}
use Rattle.vc_model.proofs.Desk.{desk_forward, exact_log, node_of_log}
use Rattle.vc_model.proofs.Pushes.{all_back}
use Rattle.vc_model.proofs.Reaching.{closed_below, parent_links}
use Rattle.vc_life.specs.Laws.{GoesForward, KeepsTags, LifeGoesForward}
use Rattle.vc_life.specs.Life.{AreApart, Comes, GoesOn, IsAnsweredAlong, IsServed, IsTurn, Life, log_of, opened_shared, opening, repository_after, repository_at}
use Rattle.vc_life.specs.Life.IsServed.{at_once, stepped}
use Rattle.vc_life.proofs.Along.{along_before, apart_before, log_along, sound_along}
use Rattle.vc_life.proofs.Calls.{IsNoPrune, answer_keeps}
use Rattle.vc_life.proofs.Tags.{answer_tags, tags_here, tags_then}

-- ---- ancestors among what came are ancestors in the store

module _ (fmt : Format) (s : Objects) (among : Object → Type 0) (one : (o p : Object) → among o → HasObject s p → fmt.name_of o ≡ fmt.name_of p → o ≡ p) (named : IsNamed fmt s) where
  parent_stored : (y z : Id) → IsClosed fmt (stored s) y → HasParentAmong fmt among y z → HasParent fmt (stored s) y z
  parent_stored y z closed h =
      let there = closed.there y ([], refl) in
      let same : h.object ≡ there.0 = one h.object there.0 h.there (y, there.1) (h.name ∙ sym (named.named y there.0 there.1)) in
      record { object = h.object; found = there.1 ∙ ap Some (sym same); commit = h.commit; parent = h.parent }

  path_stored : (zs : List Id) (y x : Id) → IsClosed fmt (stored s) y → Path (HasParentAmong fmt among) zs y x → Path (HasParent fmt (stored s)) zs y x
  path_stored [] y x closed p = p
  path_stored (z ∷ zs) y x closed p =
      let step : HasParent fmt (stored s) y z = parent_stored y z closed p.0 in
      (step, path_stored zs z x (closed_below fmt (stored s) y z closed (z ∷ [], (parent_links fmt (stored s) y z step, refl))) p.1)

-- ---- no call is a prune

abbrev IsKeeping : Receipt → Type 0
IsKeeping e = IsNoPrune e.call

came_keeps : (c : SharedCall) → Comes c → IsNoPrune c
came_keeps (Accept m) is = tt
came_keeps (StepOf s) is = tt
came_keeps (Asks q) is = tt
came_keeps Prune is = absurd is
came_keeps Open is = tt

call_keeps : (c d : SharedCall) → c ≡ d → IsNoPrune d → IsNoPrune c
call_keeps c d is keeps = subst IsNoPrune (sym is) keeps

all_keep : (before : ExactLog) (last : Receipt) (c : SharedCall) → Comes c → IsServed c last before → AllByRecursion IsKeeping (last ∷ before)
all_keep before last c comes (at_once none is opens) = (call_keeps last.call c is (came_keeps c comes), subst (λ (es : ExactLog). AllByRecursion IsKeeping es) (sym none) tt)
all_keep before last c comes (stepped slot first steps is below first_is opens silent all end) = (
  call_keeps last.call (StepOf slot) end.call tt,
  subst (λ (es : ExactLog). AllByRecursion IsKeeping es) (sym is)
      (all_append IsKeeping steps (first ∷ []) (all_map (GoesOn slot) IsKeeping steps (λ (e : Receipt) (g : GoesOn slot e). call_keeps e.call (StepOf slot) g.call tt) all) (call_keeps first.call c first_is (came_keeps c comes), tt)),
)

turn_keeps : (t : ExactLog) → IsTurn t → AllByRecursion IsKeeping t
turn_keeps [] is = tt
turn_keeps (last ∷ before) is = all_keep before last is.0 is.1 is.2

life_keeps : (start : Repository) (ts : Life) → AllByRecursion IsTurn ts → AllByRecursion IsKeeping (log_of start ts)
life_keeps start [] all = tt
life_keeps start (t ∷ ts) all = all_append IsKeeping t (opening (repository_after start ts) ∷ log_of start ts) (turn_keeps t all.0) (tt, life_keeps start ts all.1)

-- ---- later moments

module _ (fmt : Format) (rules : Rules fmt) (start : Repository) where
  objects_stay : (late early : ExactLog) → AllByRecursion IsKeeping (late ++ early) → IsAnswered fmt rules (opened_shared start) (late ++ early)
      → (x : Id) (o : Object) → get (repository_at start early).objects x ≡ Some o → get (repository_at start (late ++ early)).objects x ≡ Some o
  objects_stay [] early all answered x o is = is
  objects_stay (e ∷ late) early all answered x o is =
      answer_keeps fmt rules (node_left (opened_shared start) (late ++ early)) e.node e.call e.answer e.sends all.0 answered.1 x o (objects_stay late early all.1 answered.2 x o is)

  tags_stay : (late early : ExactLog) → AllByRecursion IsKeeping (late ++ early) → IsAnswered fmt rules (opened_shared start) (late ++ early) → KeepsTags (repository_at start early) (repository_at start (late ++ early))
  tags_stay [] early all answered = tags_here (repository_at start early)
  tags_stay (e ∷ late) early all answered =
      tags_then (repository_at start early) (repository_at start (late ++ early)) e.node.repository (tags_stay late early all.1 answered.2)
      (answer_tags fmt rules (node_left (opened_shared start) (late ++ early)) e.node e.call e.answer e.sends all.0 answered.1)

  -- the branch later, and the way to it among all that was there
  abbrev Later : ExactLog → Log → List ℕ → Id → Type 0
  Later es was b x = (y : Id) × (get (repository_at start es).refs (branch b) ≡ Some y) × IsAncestorAmong fmt (WasThere (opened_shared start) was) x y

  module _ (sound : IsSound fmt start) (bare : IsBare fmt start) where
    later : (late early : ExactLog) → IsAnsweredAlong fmt rules start (late ++ early) → AreApart fmt start (late ++ early) → (b : List ℕ) (x : Id) → get (repository_at start early).refs (branch b) ≡ Some x
        → Later (late ++ early) (map served (late ++ early)) b x
    later late early k apart b x at =
        let n : SharedNode = opened_shared start in
        let good = log_along fmt rules start sound bare (late ++ early) k apart in
        let is : map served (late ++ early) ≡ map served late ++ map served early = map-append served late early in
        let run : IsServedLog fmt n (map served late ++ map served early) = subst (λ (l : Log). IsServedLog fmt n l) is (exact_log fmt rules n (late ++ early) good.1) in
        let one : NoneCollide fmt n (map served late ++ map served early) = subst (λ (l : Log). NoneCollide fmt n l) is good.2 in
        let before = subst (λ (m : SharedNode). get m.repository.refs (branch b) ≡ Some x) (sym (node_of_log n early)) at in
        let ends = desk_forward fmt n (map served late) (map served early) b x good.0 run one before in
        let whole = subst (λ (l : Log). (get (node_after n l).repository.refs (branch b) ≡ Some ends.0) × IsAncestorAmong fmt (WasThere n l) x ends.0) (sym is) (ends.1, ends.2) in
        (ends.0, subst (λ (m : SharedNode). get m.repository.refs (branch b) ≡ Some ends.0) (node_of_log n (late ++ early)) whole.0, whole.1)

    descends : (es : ExactLog) → IsAnsweredAlong fmt rules start es → AreApart fmt start es → (b : List ℕ) (x : Id) → Later es (map served es) b x
        → (y : Id) × (get (repository_at start es).refs (branch b) ≡ Some y) × IsAncestor fmt (stored (repository_at start es).objects) x y
    descends es k apart b x l =
        let r : Repository = repository_at start es in
        let n : SharedNode = opened_shared start in
        let one : NoneCollide fmt n (map served es) = (log_along fmt rules start sound bare es k apart).2 in
        let good : IsSound fmt r = (sound_along fmt rules start sound bare es k apart).0 in
        let path = path_stored fmt r.objects (WasThere n (map served es)) (λ o p a has name. one o p a (was_stored n es p has) name) good.objects l.2.0 l.0 x (good.refs (branch b) l.0 l.1).closed l.2.1 in
        (l.0, l.1, (l.2.0, path))
      where
        was_stored : (n : SharedNode) (es : ExactLog) (p : Object) → HasObject (node_left n es).repository.objects p → WasThere n (map served es) p
        was_stored n [] p has = in_store has
        was_stored n (e ∷ es) p has = inl (in_store has)

    forward : (late early : ExactLog) → AllByRecursion IsKeeping (late ++ early) → IsAnsweredAlong fmt rules start (late ++ early) → AreApart fmt start (late ++ early)
        → GoesForward fmt (repository_at start early) (repository_at start (late ++ early))
    forward late early all k apart = record {
      objects = objects_stay late early all (log_along fmt rules start sound bare (late ++ early) k apart).1;
      branches = λ b x at. descends (late ++ early) k apart b x (later late early k apart b x at);
      others = tags_stay late early all (log_along fmt rules start sound bare (late ++ early) k apart).1;
    }

pub life_forward : (fmt : Format) (rules : Rules fmt) → LifeGoesForward fmt rules
life_forward fmt rules start ts after late early life begins is =
    forward fmt rules start begins.sound begins.bare late early
    (all_back IsKeeping after (late ++ early) (subst (λ (es : ExactLog). AllByRecursion IsKeeping es) is (life_keeps start ts life.turns)))
    (along_before fmt rules start after (late ++ early) (subst (λ (es : ExactLog). IsAnsweredAlong fmt rules start es) is life.answered))
    (apart_before fmt start after (late ++ early) (subst (λ (es : ExactLog). AreApart fmt start es) is begins.apart))
