-- What a hasher of a name has taken.
use Rattle.std.specs.Prelude.{ℕ, List, ◌++◌, decimal}
use Rattle.sha1.specs.Sha1.{Holds}
use Rattle.vc_object.specs.Header.{header}
use Rattle.vc_object.specs.declared.kind.Kind.{Kind}
use Rattle.vc_object.specs.declared.hasher.NameHasher.{NameHasher}

-- the header of a body of this length, and these bytes of the body
abbrev pub HasTaken : NameHasher → Kind → ℕ → List ℕ → Type 0
HasTaken h kind length body = Holds h.hasher (header kind (decimal length) ++ body)
