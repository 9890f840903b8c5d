-- What generations say of a walk that looks for one commit.
use Rattle.std.specs.Prelude.{ℕ, Option, Some, None, nat_le, if◌then◌else◌}
use Rattle.vc_object.specs.ObjectId.{id_eq}
use Rattle.vc_object.specs.declared.id.ObjectId.{ObjectId}

-- the first number, where the second is not less, or is none
abbrev pub not_above : Option ℕ → Option ℕ → Option ℕ
not_above None other = None
not_above (Some n) None = Some n
not_above (Some n) (Some m) = if nat_le n m then Some n else None

-- the numbers of those names that cannot have the sought one as an ancestor: they have one, and the sought one has none, or
-- one that is not less. Of the sought one itself nothing is ruled out.
abbrev pub ruled_out : (ObjectId → Option ℕ) → ObjectId → ObjectId → Option ℕ
ruled_out known sought id = if id_eq id sought then None else not_above (known id) (known sought)
