use Rattle.std.proofs.Common.{◌≡◌, Some, None, option_map, ap, sym, ◌∙◌}
use Rattle.vc_object.specs.Decoding.{stored_object}
use Rattle.vc_object.specs.declared.tag.Tag.{Tag}
use Rattle.vc_rev.specs.Meaning.{target_in}
use Rattle.vc_rev.proofs.ObjectLemmas.{tag_read, at_object}
use Rattle.vc_rev.proofs.object.target.Goals as goal

pub returns-in-Some : goal.returns-in-Some
returns-in-Some c =
    at_object (λ kind body. Some c.in-Some.tag.object ≡ target_in (stored_object kind body)) c.object.result.kind c.args.object.now.kind c.object.result.body.now c.args.object.now.body.items c.object.ensures.kind c.object.ensures.body
    (ap (option_map (λ (t : Tag). t.object)) (sym c.in-Some.is) ∙ tag_read c.object.result.kind c.object.result.body.now c.tag_of.result c.tag_of.ensures.found c.tag_of.ensures.read)

pub returns-in-None : goal.returns-in-None
returns-in-None c =
    at_object (λ kind body. None ≡ target_in (stored_object kind body)) c.object.result.kind c.args.object.now.kind c.object.result.body.now c.args.object.now.body.items c.object.ensures.kind c.object.ensures.body
    (ap (option_map (λ (t : Tag). t.object)) (sym c.in-None.is) ∙ tag_read c.object.result.kind c.object.result.body.now c.tag_of.result c.tag_of.ensures.found c.tag_of.ensures.read)
