-- The text of a line of text.
use Rattle.std.specs.Prelude.{◌-◌, ◌==◌, ℕ, List, length, take, slice_index, if◌then◌else◌}

-- the data without their final LF, where they have one
abbrev pub without_lf : List ℕ → List ℕ
without_lf bytes = if slice_index bytes (length bytes - 1) == 10 then take (length bytes - 1) bytes else bytes
