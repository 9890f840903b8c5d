use Rattle.std.proofs.Common.{◌&&◌, sym, ◌∙◌}
use Rattle.std.specs.Str.{is_utf8}
use Rattle.vc_refname.specs.RefName.{is_ref_name}
use Rattle.vc_session.proofs.UpdateLemmas.{only_name}
use Rattle.vc_session.proofs.updating_all.name_of.Goals as goal

pub returns : goal.returns
returns c =
    only_name (is_utf8 c.deref.result.now && is_ref_name c.deref.result.now) c.deref.result.now c.in-Some.name (sym c.in-Some.is ∙ c.in_ok-name.ensures) ∙ c.deref.ensures.value
