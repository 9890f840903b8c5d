use Rattle.std.proofs.Common.{inl, inr, ◌∙◌, Some, ap, refl, sym}
use Rattle.vc_pack.proofs.BeyondLemmas.{links_beyond-had, links_beyond-new}
use Rattle.vc_known.specs.Reach.{has_in}
use Rattle.vc_object.specs.ObjectMap.{links_in}
use Rattle.vc_object_map.specs.Store.{objects}
use Rattle.vc_pack.proofs.reading.send_unless_reached.Goals as goal

pub returns-then-has-clause-links : goal.returns-then-has-clause-links
returns-then-has-clause-links g c honest =
    let links = links_in (objects (g.F.Files.content c.args.files.now)) in
    links_beyond-had links (has_in c.args.reach.now) c.args.id.now (sym c.has.ensures ∙ c.if-has.true) ∙ ap Some (sym c.new.ensures.items)

pub returns-then-has-clause-sent : goal.returns-then-has-clause-sent
returns-then-has-clause-sent g c honest = inl (sym c.has.ensures ∙ c.if-has.true, refl)

pub returns-clause-links : goal.returns-clause-links
returns-clause-links g c honest =
    links_beyond-new (links_in (objects (g.F.Files.content c.args.files.now))) (has_in c.args.reach.now) c.args.id.now (sym c.has.ensures ∙ c.if-has.false) ∙ c.in_ok-ids.ensures.links honest

pub returns-clause-sent : goal.returns-clause-sent
returns-clause-sent g c honest = inr (sym c.has.ensures ∙ c.if-has.false, c.in_ok-ids.ensures.sent honest)
