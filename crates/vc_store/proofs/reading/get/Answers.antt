use Rattle.std.proofs.Common.{rules, ◌≡◌, inr, Ok, Err}
use Rattle.vc_object.specs.Decoding.{stored_object}
use Rattle.vc_object_map.specs.declared.faults.StoreFault.TheVariants.{Absent}
use Rattle.vc_object_map.specs.Store.{stored}
use Rattle.vc_store.proofs.StoreLemmas.{objects-stored, objects-absent}
use Rattle.vc_store.proofs.reading.get.Goals as goal

pub returns-in-Some-clause-gets : goal.returns-in-Some-clause-gets
returns-in-Some-clause-gets g c =
    let content = g.F.Files.content c.args.files.now in
    let object = stored_object c.in-Some.object.kind c.in-Some.object.body.items in
    let is : g.F.Files.honest → stored content c.args.id.now ≡ Ok object = λ honest. search (rules, c.in_ok-object.ensures.found honest, c.in-Some.is) in
    record {
      found = is;
      refused = search rules;
      absent = λ honest. search (rules, is honest);
      damaged = λ honest. search (rules, is honest);
      object = λ honest. objects-stored content c.args.id.now object (search rules) (is honest);
      none = search rules;
    }

pub returns-in-None-clause-gets : goal.returns-in-None-clause-gets
returns-in-None-clause-gets g c =
    let content = g.F.Files.content c.args.files.now in
    let id = c.args.id.now in
    let absent : g.F.Files.honest → stored content id ≡ Err (Absent id) = λ honest. search (rules, c.in_ok-object.ensures.absent honest, c.in-None.is) in
    record {
      found = search rules;
      refused = λ honest. inr (absent honest);
      absent = search rules;
      damaged = λ honest. search (rules, absent honest);
      object = search rules;
      none = λ honest. inr (objects-absent content id (Absent id) (absent honest));
    }

pub returns-in_err-object-clause-gets : goal.returns-in_err-object-clause-gets
returns-in_err-object-clause-gets g c = record {
  found = search rules;
  refused = search rules;
  absent = search rules;
  damaged = search rules;
  object = search rules;
  none = λ honest. search (rules, c.in_err-object.ensures.refused honest, objects-absent (g.F.Files.content c.args.files.now) c.args.id.now c.in_err-object.field-0.0);
}
