use Rattle.std.proofs.Common.{subst}
use Rattle.std.specs.Str.{IsUtf8}
use Rattle.std.proofs.lemmas.Bool.{and_from}
use Rattle.std.proofs.lemmas.Str.{is_utf8-from_IsUtf8}
use Rattle.vc_refname.specs.RefName.{IsRefName}
use Rattle.vc_refs.proofs.RefsLemmas.{is_ref-from_legal}
use Rattle.vc_refs.proofs.packed.legal.Goals as goal

pub returns-clause-valid : goal.returns-clause-valid
returns-clause-valid c =
    let text = is_utf8-from_IsUtf8 c.args.name (subst IsUtf8 c.as_str.ensures.text c.as_str.utf8) in
    and_from _ _ text (is_ref-from_legal c.args.name (subst IsRefName c.as_str.ensures.text c.as_str.ensures.legal) c.requires)
