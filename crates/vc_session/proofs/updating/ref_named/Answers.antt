use Rattle.std.proofs.Common.{◌≡◌, ◌&&◌, true, false, Some, None, cond, sym, ap, ◌∙◌, subst}
use Rattle.std.proofs.lemmas.Bool.{false_from_ne_true}
use Rattle.std.proofs.lemmas.Str.{is_utf8-from_IsUtf8, IsUtf8-from_is_utf8}
use Rattle.std.specs.Str.{is_utf8}
use Rattle.vc_refname.proofs.BrokenRules.{is_ref_name-from_legal}
use Rattle.vc_refname.specs.RefName.{IsRefName, is_ref_name}
use Rattle.vc_session.proofs.updating.ref_named.Goals as goal

pub returns-in_default : goal.returns-in_default
returns-in_default c =
    let none : is_utf8 c.args.name.now ≡ false = false_from_ne_true _ (λ yes. c.in_default.ensures.cases.0 (IsUtf8-from_is_utf8 c.args.name.now yes)) in
    sym (ap (λ b. cond (b && is_ref_name c.args.name.now) (Some c.args.name.now) None) none)

pub returns-in-Ok-new : goal.returns-in-Ok-new
returns-in-Ok-new c =
    let name = c.args.name.now in
    let text : is_utf8 name ≡ true = is_utf8-from_IsUtf8 name c.in-Ok.ensures.cases.1 in
    let legal : is_ref_name name ≡ true = is_ref_name-from_legal name (subst IsRefName c.in-Ok.ensures.cases.0 c.in-Ok-new.ensures.legal) in
    ap Some (c.in-Ok-new.ensures.ok ∙ c.in-Ok.ensures.cases.0) ∙ sym (ap (λ b. cond (b && is_ref_name name) (Some name) None) text ∙ ap (λ b. cond b (Some name) None) legal)
