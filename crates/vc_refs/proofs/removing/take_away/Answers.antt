use Rattle.std.proofs.Common.{◌≡◌, true, subst}
use Rattle.vc_refname.specs.RefName.{IsRefName}
use Rattle.vc_refs.specs.RefMap.{is_ref}
use Rattle.vc_refs.proofs.RefsLemmas.{is_ref-from_legal, loose-unput, loose_absent, get-unput_here, only_unput}
use Rattle.vc_refs.proofs.removing.take_away.Goals as goal

pub returns-clause-removed : goal.returns-clause-removed
returns-clause-removed g c = λ honest.
    let content = g.F.Files.content in
    let legal : is_ref c.args.name.now ≡ true = is_ref-from_legal c.args.name.now (subst IsRefName c.as_str.ensures.text c.as_str.ensures.legal) c.requires in
    rw (c.in_ok-remove.ensures.ok honest, c.as_str.ensures.text) (loose-unput (content c.args.files.now) c.args.name.now legal)

pub returns-clause-only : goal.returns-clause-only
returns-clause-only g c = λ honest.
    rw (c.in_ok-remove.ensures.ok honest, c.as_str.ensures.text) (only_unput (g.F.Files.content c.args.files.now) c.args.name.now)

pub returns-clause-gone : goal.returns-clause-gone
returns-clause-gone g c = λ honest.
    rw (c.in_ok-remove.ensures.ok honest, c.as_str.ensures.text) (loose_absent _ c.args.name.now (get-unput_here (g.F.Files.content c.args.files.now) c.args.name.now))
