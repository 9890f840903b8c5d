-- What no branch can be the name of, and that a bad file stands for none.
use Rattle.std.proofs.Common.{◌≡◌, ℕ, Bool, true, false, true≢false, nat_eq, List, Option, Some, None, ap, inl, inr, refl, subst, sym, ◌∙◌}
use Rattle.std.specs.Prelude.{codes}
use Rattle.std.specs.List.{starts_with}
use Rattle.std.proofs.lemmas.Bool.{and_parts}
use Rattle.vc_files.specs.FileMap.{FileMap}
use Rattle.vc_object.specs.declared.id.ObjectId.{ObjectId}
use Rattle.vc_refname.specs.RefName.{first_broken_rule, is_ref_name}
use Rattle.vc_refname.specs.declared.fault.NameFault.{NameFault}
use Rattle.vc_refs.proofs.LayeredLemmas.{decides-loose, decides-packed, packed_untaken, ref_legal, refs-loose, refs-packed}
use Rattle.vc_refs.specs.Refs.{deciding_file, is_taken, packed_at, refs, IsBadRef}

-- no ref has a name that breaks a rule
pub no_ref : (content : FileMap) (name : List ℕ) (rule : NameFault) → first_broken_rule name ≡ Some rule → refs content name ≡ None
no_ref content name rule broken = by (refs content name) refl
  where
    by : (o : Option ObjectId) → refs content name ≡ o → o ≡ None
    by None is = refl
    by (Some id) is =
        let legal : is_ref_name name ≡ true = (and_parts (is_ref_name name) (starts_with nat_eq name (codes "refs/")) (ref_legal content name id is)).0 in
        let other : is_ref_name name ≡ false = rw broken refl in
        absurd (true≢false (sym legal ∙ other))

-- a ref whose file can't be read has no value
pub bad_no_ref : (content : FileMap) (name : List ℕ) → IsBadRef content (deciding_file content name) → refs content name ≡ None
bad_no_ref content name bad = by (is_taken content name) refl
  where
    by : (b : Bool) → is_taken content name ≡ b → refs content name ≡ None
    by true taken = elim (subst (IsBadRef content) (decides-loose content name taken) bad) as (λ _. refs content name ≡ None) [
      | inl own ↦ refs-loose content name taken ∙ own.none
      | inr packed ↦ absurd (true≢false (sym taken ∙ ap (is_taken content) packed.0 ∙ packed_untaken content))
    ]
    by false free = elim (subst (IsBadRef content) (decides-packed content name free) bad) as (λ _. refs content name ≡ None) [
      | inl own ↦ absurd (true≢false (sym own.taken ∙ packed_untaken content))
      | inr packed ↦ refs-packed content name free ∙ ap (λ m. packed_at m name) packed.1
    ]
