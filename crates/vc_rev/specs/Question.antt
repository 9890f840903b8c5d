-- What a repository is asked, and what one question after another asks.
use Rattle.std.specs.Prelude.{◌⊎◌, ℕ, List, Result, Ok}
use Rattle.vc_object.specs.declared.id.ObjectId.{ObjectId}
use Rattle.vc_rev.specs.declared.refusal.Refusal.{Refusal}

-- the value of HEAD, the ref with this whole name, the id at this path of the index, the stored names that begin with these
-- digits, the object with this name
pub data Question : Type 0 where
  Head : Question
  Ref : List ℕ → Question
  Entry : List ℕ → Question
  Prefix : List ℕ → Question
  Object : ObjectId → Question

-- what the first answer takes asking, or what the next one does from its value
abbrev pub AsksAfter : {A : Type 0} → (Question → Type 0) → (Result A Refusal → Type 0) → (A → Question → Type 0) → Question → Type 0
AsksAfter {A} Asks First next question = Asks question ⊎ ((a : A) × First (Ok a) × next a question)
