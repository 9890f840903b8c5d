-- What a text is to the front that it should have.
use Rattle.std.specs.Prelude.{◌≡◌, ℕ, List, ◌++◌}
use Rattle.vc_object.specs.Bytes.{Disagree, Begins}
use Rattle.vc_object.specs.declared.bytes.Start.{Start}
use Rattle.vc_object.specs.declared.bytes.Start.TheVariants.{Whole, Begun, Other}

-- what the text is to the front
abbrev pub Starts : List ℕ → List ℕ → Start → Type 0
Starts text front (Whole rest) = text ≡ front ++ rest.now
Starts text front Begun = Begins text front
Starts text front Other = Disagree text front
