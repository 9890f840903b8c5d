use Rattle.std.proofs.Common.{rules, ◌≡◌, true, ap, ◌∙◌}
use Rattle.std.specs.FinMap.{insert}
use Rattle.std.specs.Prelude.{codes}
use Rattle.vc_object.specs.ObjectId.{is_id}
use Rattle.vc_refs.specs.RefFile.{id_text}
use Rattle.vc_working.proofs.BegunLemmas.{begun_noted}
use Rattle.vc_working.proofs.begun.begin.Goals as goal

pub returns-clause-says : goal.returns-clause-says
returns-clause-says g c = λ honest.
    let content = g.F.Files.content in
    let old = content c.args.files.now in
    let valid : is_id c.args.tree.now ≡ true = search rules in
    let spelled : c.deref.result.now ≡ id_text c.args.tree.now = search rules in
    begun_noted old (content c.put.new.self) c.args.tree.now (c.in_ok-put.ensures.ok honest ∙ ap (insert old (codes "begun-checkout")) spelled) valid
