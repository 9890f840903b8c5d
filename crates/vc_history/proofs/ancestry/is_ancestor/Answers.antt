use Rattle.std.proofs.Common.{◌≡◌, ◌≢◌, [], ◌∷◌, ◌∙◌, refl, map, length, arith, rules, ap, sym, subst, ⊎_elim, Option, Some, None, IsSome, true≢false, true, false, is_none}
use Rattle.std.proofs.lemmas.Grind.{common_steps}
use Rattle.std.proofs.Math.ListN.{length-map}
use Rattle.vc_history.proofs.WalkLemmas.{Meets-start, Meets-reads, Meets-reached, other-before_next, unread-after, gathered, other_told}
use Rattle.vc_history.proofs.GatheredLemmas.{all_there, met_or_beyond}
use Rattle.vc_history.proofs.HistoryLemmas.{IsTold-from_next}
use Rattle.vc_history.proofs.LearntLemmas.{closed_below}
use Rattle.vc_history.proofs.TowardLemmas.{Agrees-ruled_out, not_ancestor, sought_is_met}
use Rattle.vc_object_map.proofs.WalkLemmas.{Contains-from_slice_get, ReachedFrom-one, Reaches-from_one}
use Rattle.vc_object.proofs.IdLemmas.{id_eq_equiv, id_eq-same}
use Rattle.vc_object.specs.ObjectId.{id_eq}
use Rattle.vc_object.specs.ObjectMap.{parents_in}
use Rattle.vc_object.specs.declared.id.ObjectId.{ObjectId}
use Rattle.vc_object_map.specs.History.{IsAncestor}
use Rattle.vc_history.specs.Numbering.{numbers}
use Rattle.vc_history.specs.Toward.{ruled_out}
use Rattle.vc_history.proofs.ancestry.is_ancestor.Goals as goal
use Rattle.vc_history.proofs.ancestry.is_ancestor.Goals.{else-eq-via-then-eq+else-is_none, else-eq-via-else-eq}

is_none-same : (o : Option ObjectId) → is_none o ≡ true → o ≡ None
is_none-same None h = refl
is_none-same (Some x) h = absurd (true≢false (sym h))

pub returns-then-is_beyond-clause-answer : goal.returns-then-is_beyond-clause-answer
returns-then-is_beyond-clause-answer g c honest agrees =
    let parents = parents_in (g.C.Objects.objects (g.C.Objects.state_of c.args.commits.now)) in
    let known = numbers c.args.generations.now in
    let out : IsSome (ruled_out known c.args.a.now c.args.b.now) = search rules in
    (λ yes. absurd (true≢false (sym yes)), λ way. absurd (not_ancestor known c.args.a.now parents agrees c.args.b.now out way))

pub returns-then-is_beyond-clause-whole : goal.returns-then-is_beyond-clause-whole
returns-then-is_beyond-clause-whole g c honest agrees negative =
    let parents = parents_in (g.C.Objects.objects (g.C.Objects.state_of c.args.commits.now)) in
    let known = numbers c.args.generations.now in
    let out : IsSome (ruled_out known c.args.a.now c.args.b.now) = search rules in
    closed_below parents (ruled_out known c.args.a.now) c.args.b.now (Agrees-ruled_out known c.args.a.now parents agrees) out

pub reading-init : goal.reading-init
reading-init g c =
    let none = ap (map (λ v. v.items)) c.in_ok-walk.ensures.parents in
    record {
      kept = refl;
      wear = search rules;
      meets = λ honest. Meets-start _ _ _ _ _ _ c.in_ok-walk.ensures.met none c.in_ok-walk.ensures.other;
      unmet = λ honest other k d below. absurd (omega (arith, below, ap length none));
    }

pub returns-in_err-id-clause-refused : goal.returns-in_err-id-clause-refused
returns-in_err-id-clause-refused g c =
    let before = c.reading.invariant in
    let objects = g.C.Objects.objects (g.C.Objects.state_of c.args.commits.now) in
    let damaged = g.C.Objects.damaged (g.C.Objects.state_of c.args.commits.now) in
    let b = c.args.b.now in
    let h = rw before.kept at c.in_err-id.ensures.refused in
    let told = λ (honest : g.C.Objects.is_honest). IsTold-from_next objects (b ∷ []) damaged _ (λ id at. Meets-reached objects _ (b ∷ []) _ _ _ (before.meets honest) id (Contains-from_slice_get _ _ id at)) _ (h honest) in
    grind (arith, common_steps, told)

pub returns-then-is_none-clause-answer : goal.returns-then-is_none-clause-answer
returns-then-is_none-clause-answer g c honest agrees =
    let before = c.reading.invariant in
    let objects = g.C.Objects.objects (g.C.Objects.state_of c.args.commits.now) in
    let step = rw before.kept at (c.in_ok-id.ensures.reads honest) in
    let id : ObjectId = c.in_ok-id.id in
    let a : ObjectId = c.args.a.now in
    let same : id ≡ a = id_eq-same id a (sym c.eq.ensures ∙ c.if-eq.true) in
    let reached = Meets-reached objects _ (c.args.b.now ∷ []) _ _ _ (before.meets honest) id (Contains-from_slice_get _ _ id step.next) in
    (λ yes. subst (λ (x : ObjectId). IsAncestor (parents_in objects) x c.args.b.now) same (Reaches-from_one (parents_in objects) c.args.b.now id reached), λ r. refl)

pub returns-then-is_none-clause-commit : goal.returns-then-is_none-clause-commit
returns-then-is_none-clause-commit g c honest agrees positive =
    let before = c.reading.invariant in
    let objects = g.C.Objects.objects (g.C.Objects.state_of c.args.commits.now) in
    let step = rw before.kept at (c.in_ok-id.ensures.reads honest) in
    let id : ObjectId = c.in_ok-id.id in
    let a : ObjectId = c.args.a.now in
    let same : id ≡ a = id_eq-same id a (sym c.eq.ensures ∙ c.if-eq.true) in
    let none : c.read_next.new.self.other ≡ None = is_none-same c.read_next.new.self.other (search (rules, c.is_none.ensures, c.if-is_none.true)) in
    subst (λ (x : ObjectId). IsSome (parents_in objects x)) same (other-before_next objects _ (c.args.b.now ∷ []) _ _ _ _ _ _ _ step none).1

pub reading-preserved : goal.reading-preserved
reading-preserved g c =
    let before = c.reading.invariant in
    let objects = g.C.Objects.objects (g.C.Objects.state_of c.args.commits.now) in
    let id : ObjectId = c.in_ok-id.id in
    let a : ObjectId = c.args.a.now in
    record {
      kept = c.in_ok-id.ensures.kept ∙ before.kept;
      wear = search rules;
      meets = λ honest.
          let step = rw before.kept at (c.in_ok-id.ensures.reads honest) in
          Meets-reads _ _ _ _ _ _ _ _ _ _ step (before.meets honest);
      unmet = λ honest other.
          let step = rw before.kept at (c.in_ok-id.ensures.reads honest) in
          let was = other-before_next objects _ (c.args.b.now ∷ []) _ _ _ _ _ _ _ step other in
          let differs : id ≢ a = elim c.else-eq.branch [
            | else-eq-via-then-eq+else-is_none w ↦ λ is. let h : is_none c.read_next.new.self.other ≡ false = search (rules, w.is_none.ensures, w.if-is_none.false) in true≢false (sym (ap is_none other) ∙ h)
            | else-eq-via-else-eq w ↦ λ is. true≢false (sym (id_eq_equiv.refl a) ∙ ap (λ (x : ObjectId). id_eq x a) (sym is) ∙ sym c.eq.ensures ∙ w.if-eq.false)
          ] in
          unread-after objects _ (c.args.b.now ∷ []) _ _ _ _ _ _ _ step a (before.unmet honest was.0) differs;
    }

pub returns-in-Some-clause-refused : goal.returns-in-Some-clause-refused
returns-in-Some-clause-refused g c honest agrees =
    let parents = parents_in (g.C.Objects.objects (g.C.Objects.state_of c.args.commits.now)) in
    let long = length-map c.reading.walk.parents.items (λ v. v.items) in
    let ruled = Agrees-ruled_out (numbers c.args.generations.now) c.args.a.now parents agrees in
    other_told _ _ _ _ _ _ (c.reading.invariant.meets honest) (omega (arith, long)) ruled (g.C.Objects.damaged (g.C.Objects.state_of c.args.commits.now)) c.in-Some.id c.in-Some.is

pub returns-clause-answer : goal.returns-clause-answer
returns-clause-answer g c honest agrees =
    let parents = parents_in (g.C.Objects.objects (g.C.Objects.state_of c.args.commits.now)) in
    let known = numbers c.args.generations.now in
    let a : ObjectId = c.args.a.now in
    let long = length-map c.reading.walk.parents.items (λ v. v.items) in
    let gathers = gathered _ _ _ _ _ _ (c.reading.invariant.meets honest) (omega (arith, long)) c.in-None.is in
    let ruled = Agrees-ruled_out known a parents agrees in (
      λ yes. absurd (true≢false (sym yes)),
      λ way.
          let at = ⊎_elim (λ h. h) (sought_is_met known a parents agrees _) (met_or_beyond _ _ _ _ _ gathers ruled (ReachedFrom-one parents c.args.b.now a way)) in
          absurd (c.reading.invariant.unmet honest c.in-None.is at.0 a (omega (arith, long, at.1)) at.2),
    )

pub returns-clause-whole : goal.returns-clause-whole
returns-clause-whole g c honest agrees negative =
    let parents = parents_in (g.C.Objects.objects (g.C.Objects.state_of c.args.commits.now)) in
    let long = length-map c.reading.walk.parents.items (λ v. v.items) in
    let gathers = gathered _ _ _ _ _ _ (c.reading.invariant.meets honest) (omega (arith, long)) c.in-None.is in
    λ y way. all_there _ _ _ _ _ gathers (Agrees-ruled_out (numbers c.args.generations.now) c.args.a.now parents agrees) y (ReachedFrom-one parents c.args.b.now y way)
