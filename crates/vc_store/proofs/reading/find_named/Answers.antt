use Rattle.std.proofs.Common.{rules, ◌≡◌, Ok, Err, sym}
use Rattle.vc_object.specs.Decoding.{stored_object}
use Rattle.vc_object_map.specs.declared.faults.StoreFault.TheVariants.{Absent}
use Rattle.vc_object_map.specs.Store.{stored}
use Rattle.vc_store.proofs.StoreLemmas.{objects-stored, objects-absent}
use Rattle.vc_store.proofs.reading.find_named.Goals as goal

pub returns-in-Some-clause-finds : goal.returns-in-Some-clause-finds
returns-in-Some-clause-finds g c =
    let content = g.F.Files.content c.args.files.now in
    let object = stored_object c.in-Some.object.kind c.in-Some.object.body.items in
    let is : g.F.Files.honest → stored content c.args.id.now ≡ Ok object = λ honest. search (rules, c.in_ok-object.ensures.found honest, c.in-Some.is) in
    record {
      found = λ honest. sym (objects-stored content c.args.id.now object (search rules) (is honest));
      damaged = λ honest. search (rules, is honest);
      refused = search rules;
    }

pub returns-in-None-clause-finds : goal.returns-in-None-clause-finds
returns-in-None-clause-finds g c =
    let content = g.F.Files.content c.args.files.now in
    let absent : g.F.Files.honest → stored content c.args.id.now ≡ Err (Absent c.args.id.now) = λ honest. search (rules, c.in_ok-object.ensures.absent honest, c.in-None.is) in
    record {
      found = λ honest. sym (objects-absent content c.args.id.now (Absent c.args.id.now) (absent honest));
      damaged = λ honest. search (rules, absent honest);
      refused = search rules;
    }
