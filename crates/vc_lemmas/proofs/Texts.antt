-- Texts of bytes.
use Rattle.std.proofs.Common.{◌≡◌, ◌==◌, ℕ, true, false, nat_eq, List, [], ◌∷◌, ◌++◌, length, take, drop, refl, ap, sym, ◌∙◌}
use Rattle.std.specs.Prelude.{◌≢◌}
use Rattle.std.specs.List.{starts_with}
use Rattle.std.specs.Str.{bytes_eq}
use Rattle.std.proofs.Math.Seq.{take-append_seam}
use Rattle.std.proofs.lemmas.List.{take-append-drop}
use Rattle.std.proofs.lemmas.Slice.Eq.{bytes_eq-Decides}
use Rattle.std.proofs.lemmas.Bool.{false_from_ne_true}

pub bytes_eq_same : (text : List ℕ) → bytes_eq text text ≡ true
bytes_eq_same text = (bytes_eq-Decides text text).1 refl

pub bytes_eq_other : (a b : List ℕ) → a ≢ b → bytes_eq a b ≡ false
bytes_eq_other a b apart = false_from_ne_true _ (λ e. apart ((bytes_eq-Decides a b).0 e))

pub not_nothing : (text : List ℕ) → (length text == 0) ≡ false → text ≢ []
not_nothing [] e n = cc e
not_nothing (x ∷ rest) e n = cc n

-- a text begins with its front
pub starts_with-append : (front rest : List ℕ) → starts_with nat_eq (front ++ rest) front ≡ true
starts_with-append front rest = (bytes_eq-Decides front (take (length front) (front ++ rest))).1 (sym (take-append_seam front rest))

-- a text that begins so is that front and a rest
pub split_from_starts : (text front : List ℕ) → starts_with nat_eq text front ≡ true → text ≡ front ++ drop (length front) text
split_from_starts text front h =
    let is : front ≡ take (length front) text = (bytes_eq-Decides front (take (length front) text)).0 h in
    sym (take-append-drop (length front) text) ∙ ap (λ f. f ++ drop (length front) text) (sym is)
