use Rattle.std.proofs.Common.{◌∙◌, refl, map, arith, rules, ap}
use Rattle.std.proofs.lemmas.Grind.{common_steps}
use Rattle.std.proofs.Math.ListN.{length-map}
use Rattle.vc_history.proofs.WalkLemmas.{Meets-start, Meets-reads, Meets-reached, gathered, other_told}
use Rattle.vc_history.proofs.HistoryLemmas.{IsTold-from_next}
use Rattle.vc_object_map.proofs.WalkLemmas.{Contains-from_slice_get}
use Rattle.vc_history.proofs.walk.read_history.Goals as goal

pub reading-init : goal.reading-init
reading-init g c = record {
  kept = refl;
  wear = search rules;
  meets = λ honest. Meets-start _ _ _ _ _ _ c.in_ok-walk.ensures.met (ap (map (λ v. v.items)) c.in_ok-walk.ensures.parents) c.in_ok-walk.ensures.other;
}

pub reading-preserved : goal.reading-preserved
reading-preserved g c =
    let before = c.reading.invariant in
    record {
      kept = c.in_ok-read_next.ensures.kept ∙ before.kept;
      wear = search rules;
      meets = λ honest.
          let step = rw before.kept at (c.in_ok-read_next.ensures.reads honest) in
          Meets-reads _ _ _ _ _ _ _ _ _ _ step (before.meets honest);
    }

pub returns-in_err-read_next-clause-refused : goal.returns-in_err-read_next-clause-refused
returns-in_err-read_next-clause-refused g c =
    let before = c.reading.invariant in
    let objects = g.C.Objects.objects (g.C.Objects.state_of c.args.commits.now) in
    let damaged = g.C.Objects.damaged (g.C.Objects.state_of c.args.commits.now) in
    let h = rw before.kept at c.in_err-read_next.ensures.refused in
    let told = λ (honest : g.C.Objects.is_honest). IsTold-from_next objects c.args.roots.now damaged _ (λ id at. Meets-reached objects _ c.args.roots.now _ _ _ (before.meets honest) id (Contains-from_slice_get _ _ id at)) _ (h honest) in
    grind (arith, common_steps, told)

pub returns-in-Some-clause-refused : goal.returns-in-Some-clause-refused
returns-in-Some-clause-refused g c honest agrees =
    let long = length-map c.reading.walk.parents.items (λ v. v.items) in
    other_told _ _ _ _ _ _ (c.reading.invariant.meets honest) (omega (arith, long)) agrees (g.C.Objects.damaged (g.C.Objects.state_of c.args.commits.now)) c.in-Some.id c.in-Some.is

pub returns-in-None-clause-gathered : goal.returns-in-None-clause-gathered
returns-in-None-clause-gathered g c honest =
    let long = length-map c.reading.walk.parents.items (λ v. v.items) in
    gathered _ _ _ _ _ _ (c.reading.invariant.meets honest) (omega (arith, long)) c.in-None.is
