-- In the small format no two objects share a name.
use Rattle.std.proofs.Common.{◌≡◌, ℕ, zero, suc, List, refl, sym, ap, ◌∙◌, get_or, drop}
use Rattle.vc_model.specs.Object.{Kind, Object}
use Rattle.vc_model.specs.Object.Kind.{Blob, Tree, Commit, Tag}
use Rattle.vc_model.specs.Small.{small_name, kind_letter}

abbrev kind_of_letter : ℕ → Kind
kind_of_letter zero = Blob
kind_of_letter (suc zero) = Blob
kind_of_letter (suc (suc zero)) = Tree
kind_of_letter (suc (suc (suc zero))) = Commit
kind_of_letter (suc (suc (suc (suc n)))) = Tag

letter_back : (k : Kind) → kind_of_letter (kind_letter k) ≡ k
letter_back Blob = refl
letter_back Tree = refl
letter_back Commit = refl
letter_back Tag = refl

same_object : (k l : Kind) (b d : List ℕ) → k ≡ l → b ≡ d → ◌≡◌ {A = Object} (record { kind = k; body = b }) (record { kind = l; body = d })
same_object k l b d e f = cc

pub named_apart : (o p : Object) → small_name o ≡ small_name p → o ≡ p
named_apart o p e = same_object o.kind p.kind o.body p.body
    (sym (letter_back o.kind) ∙ (ap (λ (xs : List ℕ). kind_of_letter (get_or xs 0 0)) e ∙ letter_back p.kind))
    (ap (drop 1) e)
