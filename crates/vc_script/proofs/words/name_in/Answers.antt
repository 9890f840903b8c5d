use Rattle.std.proofs.Common.{Some, sym, ap, ◌∙◌, subst}
use Rattle.std.proofs.lemmas.Bool.{false_from_ne_true}
use Rattle.std.proofs.lemmas.Str.{IsUtf8-from_is_utf8, is_utf8-from_IsUtf8}
use Rattle.vc_refname.specs.RefName.{IsRefName}
use Rattle.vc_script.proofs.NameLemmas.{name_in-bad, name_in-legal}
use Rattle.vc_script.proofs.words.name_in.Goals as goal

pub returns-in_default : goal.returns-in_default
returns-in_default c =
    let text = c.args.text.now in
    sym (name_in-bad text (false_from_ne_true _ (λ utf8. c.in_default.ensures.cases.0 (IsUtf8-from_is_utf8 text utf8))))

pub returns-in-Ok-new : goal.returns-in-Ok-new
returns-in-Ok-new c =
    let text = c.args.text.now in
    let legal = name_in-legal text (is_utf8-from_IsUtf8 text c.in-Ok.ensures.cases.1) (subst IsRefName c.in-Ok.ensures.cases.0 c.in-Ok-new.ensures.legal) in
    ap Some (c.in-Ok-new.ensures.ok ∙ c.in-Ok.ensures.cases.0) ∙ sym legal
