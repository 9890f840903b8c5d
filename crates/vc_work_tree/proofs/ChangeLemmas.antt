-- One change of a map of files.
use Rattle.std.proofs.Common.{◌≡◌, ◌≢◌, ℕ, cond, List, Some, None, ap, ◌∙◌}
use Rattle.std.specs.FinMap as files
use Rattle.std.specs.FinMap.{get}
use Rattle.vc_files.specs.FileMap.{FileMap}
use Rattle.vc_files.proofs.FileMapLemmas.{get-put, get-unput}
use Rattle.vc_lemmas.proofs.Texts.{bytes_eq_same, bytes_eq_other}

pub removed_at : (m n : FileMap) (p : List ℕ) → n ≡ files.remove m p → get n p ≡ None
removed_at m n p is = ap (λ w. get w p) is ∙ get-unput m p p ∙ ap (λ b. cond b None (get m p)) (bytes_eq_same p)

pub removed_others : (m n : FileMap) (p : List ℕ) → n ≡ files.remove m p → (q : List ℕ) → q ≢ p → get n q ≡ get m q
removed_others m n p is q apart = ap (λ w. get w q) is ∙ get-unput m p q ∙ ap (λ b. cond b None (get m q)) (bytes_eq_other q p apart)

pub put_at : (m n : FileMap) (p bytes : List ℕ) → n ≡ files.insert m p bytes → get n p ≡ Some bytes
put_at m n p bytes is = ap (λ w. get w p) is ∙ get-put m p bytes p ∙ ap (λ b. cond b (Some bytes) (get m p)) (bytes_eq_same p)

pub put_others : (m n : FileMap) (p bytes : List ℕ) → n ≡ files.insert m p bytes → (q : List ℕ) → q ≢ p → get n q ≡ get m q
put_others m n p bytes is q apart = ap (λ w. get w q) is ∙ get-put m p bytes q ∙ ap (λ b. cond b (Some bytes) (get m q)) (bytes_eq_other q p apart)
