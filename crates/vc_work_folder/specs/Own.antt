-- The folder of a store that lies inside a work tree.
use Rattle.std.specs.Prelude.{ℕ, Bool, true, List, [], ◌∷◌, ◌==◌, ◌&&◌, ◌||◌, not, nat_le, length, take, drop}
use Rattle.std.specs.Str.{str_eq_ignore_ascii_case}

-- a name ends here: nothing follows, or a slash
abbrev pub ends_name : List ℕ → Bool
ends_name [] = true
ends_name (byte ∷ rest) = byte == 47

-- whether the path is that of the store's folder, or lies in it, in any ASCII case; none does where that path is empty
abbrev pub is_own : List ℕ → List ℕ → Bool
is_own own path = not (length own == 0) && (nat_le (length own) (length path) && (str_eq_ignore_ascii_case (take (length own) path) own && ends_name (drop (length own) path)))

-- whether the path is own, or that of a folder above the store's
abbrev pub meets_own : List ℕ → List ℕ → Bool
meets_own own path = is_own own path || is_own path own
