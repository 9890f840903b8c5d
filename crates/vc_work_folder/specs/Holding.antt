-- The paths that the system takes below a folder.
use Rattle.std.specs.Prelude.{ℕ, Bool, not, List, ◌==◌, ◌+◌, ◌&&◌, nat_le, length}
use Rattle.std.specs.List.{list_all, list_any, slice_split}

-- the most bytes that a name may have, and that a place may have with the byte that ends it
abbrev pub max_part : ℕ
max_part = 255

abbrev pub max_place : ℕ
max_place = 4096

-- whether it can be the name of a file: it has no more bytes than a name may, and no byte 0
abbrev pub is_part : List ℕ → Bool
is_part part = nat_le (length part) max_part && not (list_any (λ byte. byte == 0) part)

-- whether each part of the path, between slashes, can be
abbrev pub has_names : List ℕ → Bool
has_names path = list_all is_part (slice_split (λ byte. byte == 47) path)

-- whether a file can have the path below a folder whose own path has so many bytes: with that, a slash between the two and
-- the byte that ends it, it is not too long
abbrev pub is_held : ℕ → List ℕ → Bool
is_held above path = nat_le (above + (length path + 2)) max_place && has_names path
