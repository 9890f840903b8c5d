-- What a terminal is told while a prune goes on.
use Rattle.std.specs.Prelude.{ℕ, Bool, ◌%◌, ◌==◌, ◌||◌, nat_le, if◌then◌else◌, List, [], ◌∷◌, ◌++◌, codes, decimal}

-- so many files were read, in place of the line before: a carriage return, and how many
abbrev pub read_line : ℕ → List ℕ
read_line count = codes "\rvcs: read " ++ (decimal count ++ codes " files")

-- so many objects were removed, in place of the line before
abbrev pub removed_line : ℕ → List ℕ
removed_line count = codes "\rvcs: removed " ++ (decimal count ++ codes " objects")

-- a line at each 10,000
abbrev pub at_stride : ℕ → List ℕ → List ℕ
at_stride count line = if count % 10000 == 0 then line else []

-- what is told if a count grew by one, on a terminal alone
abbrev pub counted_text : Bool → ℕ → List ℕ → List ℕ
counted_text is_terminal count line = if is_terminal then at_stride count line else []

-- what is told if one file more was read: nothing once an object was removed
abbrev pub read_text : Bool → ℕ → ℕ → List ℕ
read_text is_terminal removed read = if removed == 0 then counted_text is_terminal read (read_line read) else []

-- what is told if one object more was removed
abbrev pub removed_text : Bool → ℕ → List ℕ
removed_text is_terminal removed = counted_text is_terminal removed (removed_line removed)

-- whether a line was told on a terminal
abbrev pub has_line : ℕ → ℕ → Bool
has_line read removed = nat_le 10000 read || nat_le 10000 removed

-- the end of the last line, if there is one, on a terminal alone
abbrev pub end_text : Bool → ℕ → ℕ → List ℕ
end_text is_terminal read removed = if is_terminal then (if has_line read removed then 10 ∷ [] else []) else []
