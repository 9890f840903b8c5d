-- What a command prints of an id, and what of a text went out if it can't be printed.
use Rattle.std.specs.Prelude.{◌≡◌, ◌⊎◌, ℕ, List, [], ◌∷◌, ◌++◌, Option}
use Rattle.std.specs.Io.KnownBytes.{Appends, Keeps}
use Rattle.hex.specs.Hex.{encode_lower}
use Rattle.vc_object.specs.declared.id.ObjectId.{ObjectId}

-- the line of an id: its digits in lower case, and LF
abbrev pub id_line : ObjectId → List ℕ
id_line id = encode_lower id.0 ++ 10 ∷ []

-- known bytes grow by the text but for this rest of it
abbrev pub AppendsUpTo : Option (List ℕ) → Option (List ℕ) → (text rest : List ℕ) → Type 0
AppendsUpTo old new text rest = (front : List ℕ) × (text ≡ front ++ rest) × Appends old new front

-- known bytes grow by a front of the text
abbrev pub AppendsFront : Option (List ℕ) → Option (List ℕ) → List ℕ → Type 0
AppendsFront old new text = (rest : List ℕ) × AppendsUpTo old new text rest

-- nothing was printed, or a front of a right text. `Prints` says of a relation that it holds of a right text.
abbrev pub PrintsFront : ((List ℕ → Type 0) → Type 0) → Option (List ℕ) → Option (List ℕ) → Type 0
PrintsFront Prints old new = Keeps old new ⊎ Prints (AppendsFront old new)
