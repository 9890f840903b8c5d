-- Texts of bytes: without a byte, cut at one, and beginnings of one another.
use Rattle.std.specs.Prelude.{◌≡◌, ◌≢◌, ◌==◌, ℕ, List, [], ◌∷◌, ◌++◌, Option, Some, None, if◌then◌else◌}
use Rattle.std.specs.Option.{option_map}
use Rattle.std.specs.List.{AllByRecursion}

-- the byte stands nowhere in the text
abbrev pub Without : ℕ → List ℕ → Type 0
Without byte text = AllByRecursion (λ b. b ≢ byte) text

-- neither text begins with the other: no text begins with both
abbrev pub Disagree : List ℕ → List ℕ → Type 0
Disagree a b = (x y : List ℕ) → a ++ x ≡ b ++ y → ⊥

-- the text is a beginning of the whole, and shorter
abbrev pub Begins : List ℕ → List ℕ → Type 0
Begins text whole = (more : List ℕ) × (more ≢ []) × (text ++ more ≡ whole)

-- what stands before the first such byte, and what stands after it
abbrev pub cut : ℕ → List ℕ → Option (List ℕ × List ℕ)
cut byte [] = None
cut byte (b ∷ bs) = if b == byte then Some ([], bs) else option_map (λ parts. (b ∷ parts.0, parts.1)) (cut byte bs)
