use Rattle.std.proofs.Common.{rules, ◌≡◌, true, subst, inl}
use Rattle.std.specs.FinMap as files
use Rattle.vc_object.specs.ObjectId.{is_id}
use Rattle.vc_object.proofs.IdLemmas.{is_id-from_array}
use Rattle.vc_refname.specs.RefName.{IsRefName}
use Rattle.vc_refs.specs.RefFile.{id_text}
use Rattle.vc_refs.specs.RefMap.{is_ref}
use Rattle.vc_refs.proofs.RefsLemmas.{is_ref-from_legal, loose-put, only_put}
use Rattle.vc_refs.proofs.setting.put.Goals as goal

pub returns-clause-legal : goal.returns-clause-legal
returns-clause-legal g c = is_ref-from_legal c.args.name.now (subst IsRefName c.as_str.ensures.text c.as_str.ensures.legal) c.requires

pub returns-clause-set : goal.returns-clause-set
returns-clause-set g c = λ honest.
    let content = g.F.Files.content in
    let legal : is_ref c.args.name.now ≡ true = is_ref-from_legal c.args.name.now (subst IsRefName c.as_str.ensures.text c.as_str.ensures.legal) c.requires in
    let valid : is_id c.args.id ≡ true = is_id-from_array c.args.id (search rules) (λ i. search rules) in
    let made : content c.put.new.self ≡ files.insert (content c.args.files.now) c.args.name.now (id_text c.args.id) = search (rules, c.in_ok-put.ensures.ok honest) in
    rw made (loose-put (content c.args.files.now) c.args.name.now c.args.id legal valid)

pub returns-clause-only : goal.returns-clause-only
returns-clause-only g c = λ honest.
    let content = g.F.Files.content in
    let made : content c.put.new.self ≡ files.insert (content c.args.files.now) c.args.name.now (id_text c.args.id) = search (rules, c.in_ok-put.ensures.ok honest) in
    rw made (only_put (content c.args.files.now) c.args.name.now (id_text c.args.id))

pub returns-in_err-put-clause-looks : goal.returns-in_err-put-clause-looks
returns-in_err-put-clause-looks g c = inl (is_ref-from_legal c.args.name.now (subst IsRefName c.as_str.ensures.text c.as_str.ensures.legal) c.requires)

pub returns-clause-looks : goal.returns-clause-looks
returns-clause-looks g c = inl (is_ref-from_legal c.args.name.now (subst IsRefName c.as_str.ensures.text c.as_str.ensures.legal) c.requires)
