-- What a path holds after its file was taken away, or another's.
use Rattle.std.proofs.Common.{◌≡◌, ℕ, Bool, true, false, cond, nat_eq, List, None, ap, refl, sym, ◌∙◌}
use Rattle.std.specs.Prelude.{bytes_eq}
use Rattle.std.specs.List.{starts_with}
use Rattle.std.specs.FinMap as files
use Rattle.std.proofs.lemmas.Slice.Eq.{bytes_eq-Decides}
use Rattle.std.proofs.lemmas.Bool.{false_from_ne_true}
use Rattle.std.specs.FinMap.{same_map, nat_cmp-IsAntisymmetric, slice_cmp-IsAntisymmetric}
use Rattle.std.specs.Cmp.Lexicographic.{nat_list_cmp_total}
use Rattle.vc_files.proofs.FileMapLemmas.{get-unput}
use Rattle.vc_files.specs.FileMap.{FileMap, SameOutside}

-- a path outside is not one under the prefix
other_path : (prefix path : List ℕ) → starts_with nat_eq path prefix ≡ true → (q : List ℕ) → starts_with nat_eq q prefix ≡ false → bytes_eq q path ≡ false
other_path prefix path under q outside = false_from_ne_true _ (λ same.
    let inside : starts_with nat_eq q prefix ≡ true = ap (λ p. starts_with nat_eq p prefix) ((bytes_eq-Decides q path).0 same) ∙ under in
    cc)

-- a removal under a prefix leaves what is outside
pub outside_unput : (prefix : List ℕ) (content : FileMap) (path : List ℕ) → starts_with nat_eq path prefix ≡ true → SameOutside prefix content (files.remove content path)
outside_unput prefix content path under = record {
  at = λ q outside. get-unput content path q ∙ ap (λ b. cond b None (files.get content q)) (other_path prefix path under q outside);
}

-- to take a file away that isn't there changes nothing
pub unput_absent : (content : FileMap) (path : List ℕ) → files.get content path ≡ None → content ≡ files.remove content path
unput_absent content path none =
    same_map nat_list_cmp_total (slice_cmp-IsAntisymmetric nat_cmp-IsAntisymmetric) content (files.remove content path) (λ q. at q (bytes_eq q path) refl)
  where
    at : (q : List ℕ) (b : Bool) → bytes_eq q path ≡ b → files.get content q ≡ files.get (files.remove content path) q
    at q true same = ap (files.get content) ((bytes_eq-Decides q path).0 same) ∙ none ∙ sym (get-unput content path q ∙ ap (λ b. cond b None (files.get content q)) same)
    at q false other = sym (get-unput content path q ∙ ap (λ b. cond b None (files.get content q)) other)
