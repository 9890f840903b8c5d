-- The step at the front of a text.
use Rattle.std.specs.Prelude.{ℕ, List, [], ◌∷◌, ◌||◌, ◌==◌, Option, Some, None, nat_eq, nat_lt, length, drop, codes, if◌then◌else◌}
use Rattle.std.specs.List.{starts_with}
use Rattle.vc_expression.specs.Digits.{digits_of, after_digits, number}
use Rattle.vc_expression.specs.Seen.{Seen, Found, Other, Fault}
use Rattle.vc_expression.specs.declared.token.Step.{Step}
use Rattle.vc_expression.specs.declared.token.Step.TheVariants as steps
use Rattle.vc_object.specs.declared.kind.Kind.TheVariants as kinds

-- behind `^{`
abbrev pub braced_at : List ℕ → Seen
braced_at text =
    if starts_with nat_eq text (codes "}") then Found steps.Peel (drop 1 text)
    else if starts_with nat_eq text (codes "commit}") then Found (steps.PeelTo kinds.Commit) (drop 7 text)
    else if starts_with nat_eq text (codes "tree}") then Found (steps.PeelTo kinds.Tree) (drop 5 text)
    else if starts_with nat_eq text (codes "blob}") then Found (steps.PeelTo kinds.Blob) (drop 5 text)
    else if starts_with nat_eq text (codes "tag}") then Found (steps.PeelTo kinds.Tag) (drop 4 text)
    else Fault

-- a number of at most nine digits, 1 without any
abbrev pub counted_at : List ℕ → Option (ℕ × List ℕ)
counted_at text =
    if length (digits_of text) == 0 then Some (1, after_digits text)
    else if nat_lt 9 (length (digits_of text)) then None
    else Some (number (digits_of text), after_digits text)

abbrev pub with_count : (ℕ → Step) → Option (ℕ × List ℕ) → Seen
with_count make None = Fault
with_count make (Some found) = Found (make found.0) found.1

-- behind `^`: `@`, `!` and `-` end the steps of a term
abbrev pub caret_at : List ℕ → Seen
caret_at [] = Found (steps.Parent 1) []
caret_at (b ∷ bs) =
    if b == 64 || (b == 33 || b == 45) then Other
    else if b == 123 then braced_at bs
    else with_count steps.Parent (counted_at (b ∷ bs))

abbrev pub step_at : List ℕ → Seen
step_at [] = Other
step_at (b ∷ bs) =
    if b == 94 then caret_at bs
    else if b == 126 then with_count steps.Ancestor (counted_at bs)
    else Other
