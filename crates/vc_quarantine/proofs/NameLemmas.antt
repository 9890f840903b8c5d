-- What the parts of a ref's name say of it, for the test whether a push may set it.
use Rattle.std.proofs.Common.{◌≡◌, ◌&&◌, ◌||◌, ℕ, List, Bool, true, false, not, Option, None, is_none, nat_le, length, ap, sym, ◌∙◌}
use Rattle.std.proofs.lemmas.Str.{is_utf8-from_IsUtf8, IsUtf8-from_is_utf8}
use Rattle.std.specs.Str.{is_utf8, IsUtf8}
use Rattle.std.proofs.lemmas.Bool.{false_from_ne_true}
use Rattle.vc_format.specs.Git.{git_is_legal}
use Rattle.vc_refname.specs.RefName.{first_broken_rule, is_ref_name}
use Rattle.vc_refname.specs.declared.fault.NameFault.{NameFault}
use Rattle.vc_push_rules.specs.Verdict.{is_branch}

module _ (name : List ℕ) where
  abbrev fits : Bool
  fits = nat_le (length name) 246

  pub not_text : (IsUtf8 name → ⊥) → false ≡ git_is_legal name
  not_text none = sym (ap (λ b. b && (is_ref_name name && (not (is_branch name) || fits))) (false_from_ne_true (is_utf8 name) (λ yes. none (IsUtf8-from_is_utf8 name yes))))

  a_name : IsUtf8 name → first_broken_rule name ≡ None → git_is_legal name ≡ not (is_branch name) || fits
  a_name text unbroken =
      ap (λ b. b && (is_ref_name name && (not (is_branch name) || fits))) (is_utf8-from_IsUtf8 name text)
      ∙ ap (λ (o : Option NameFault). is_none o && (not (is_branch name) || fits)) unbroken

  module _ (text : IsUtf8 name) (unbroken : first_broken_rule name ≡ None) (branch : Bool) (is : branch ≡ is_branch name) where
    said : git_is_legal name ≡ not branch || fits
    said = a_name text unbroken ∙ ap (λ b. not b || fits) (sym is)

    -- of another ref than a branch no more is asked
    pub of_another : branch ≡ false → not branch ≡ git_is_legal name
    of_another other = let one = ap not other in one ∙ sym (said ∙ ap (λ b. b || fits) one)

    -- a branch's name must fit
    pub of_branch : branch ≡ true → fits ≡ git_is_legal name
    of_branch one = sym (said ∙ ap (λ b. not b || fits) one)
