use Rattle.std.proofs.Common.{◌≡◌, cond, Some, None, sym, ap, ◌∙◌, List, ℕ}
use Rattle.std.proofs.lemmas.Bool.{false_from_ne_true}
use Rattle.std.proofs.lemmas.Str.{IsUtf8-from_is_utf8, is_utf8-from_IsUtf8}
use Rattle.vc_refs.specs.Packed.{packed_name}
use Rattle.vc_refs.specs.RefMap.{is_ref}
use Rattle.vc_refs.proofs.PackedLemmas.{packed_name-bad, packed_name-text, packed_name-valid}
use Rattle.vc_refs.proofs.packed.name_in.Goals as goal

pub returns-in_default-clause-name : goal.returns-in_default-clause-name
returns-in_default-clause-name c =
    let text = c.args.text.now in
    sym (packed_name-bad text (false_from_ne_true _ (λ utf8. c.in_default.ensures.cases.0 (IsUtf8-from_is_utf8 text utf8))))

pub returns-clause-name : goal.returns-clause-name
returns-clause-name c =
    let text = c.args.text.now in
    c.in_ok-name.ensures ∙ ap (λ (t : List ℕ). cond (is_ref t) (Some t) None) c.in-Ok.ensures.cases.0 ∙ sym (packed_name-text text (is_utf8-from_IsUtf8 text c.in-Ok.ensures.cases.1))

pub returns-clause-valid : goal.returns-clause-valid
returns-clause-valid c =
    let text = c.args.text.now in
    let name : c.in_ok-name.name ≡ packed_name text =
    c.in_ok-name.ensures ∙ ap (λ (t : List ℕ). cond (is_ref t) (Some t) None) c.in-Ok.ensures.cases.0 ∙ sym (packed_name-text text (is_utf8-from_IsUtf8 text c.in-Ok.ensures.cases.1)) in
    packed_name-valid text c.in_ok-name.name name
