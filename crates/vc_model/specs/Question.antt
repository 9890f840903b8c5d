-- Calls that change nothing at a node, and what it answers.
use Rattle.std.specs.Prelude.{◌≡◌, ◌≢◌, ℕ, List, Result, Ok, Err, ◌⊎◌}
use Rattle.vc_model.specs.Object.{Id, Format}
use Rattle.vc_model.specs.Refs.{AreApart}
use Rattle.vc_model.specs.Repository.{Repository}
use Rattle.vc_model.specs.Node.{Answer}
use Rattle.vc_model.specs.Node.Answer.{Did, Declined}
use Rattle.vc_model.specs.Node.Reply.{Stored, Found, Same, Differs}
use Rattle.vc_model.specs.Rules.{Rules}

pub data Question : Type 0 where
  -- bytes came that are no message, refused with this number
  Unread : (refusal : ℕ) → Question
  -- an expression of the call has no value, refused with this number
  Unresolved : (refusal : ℕ) → Question
  -- the expressions of the call could not all be read: a fault comes before what was asked is known
  Interrupted : Question
  Resolve : (expression : List ℕ) → Question
  -- whether two expressions have the same value
  Compare : (first second : List ℕ) → Question
  PackRefs : Question

-- The answer to an expression's value.
abbrev pub found : Result Id ℕ → Answer
found (Ok x) = Did (Found x)
found (Err n) = Declined n

-- The second value is asked for only where the first is one.
abbrev pub Compares : (fmt : Format) → Rules fmt → Repository → Result Id ℕ → List ℕ → Answer → Type 0
Compares fmt rules r (Err n) second a = a ≡ Declined n
Compares fmt rules r (Ok x) second a =
    (w : Result Id ℕ) × rules.denotes r second w
    × (((n : ℕ) × (w ≡ Err n) × (a ≡ Declined n)) ⊎ (((w ≡ Ok x) × (a ≡ Did Same)) ⊎ ((y : Id) × (w ≡ Ok y) × (x ≢ y) × (a ≡ Did Differs))))

-- Refs are packed where no two of them conflict.
abbrev pub Packs : Repository → Answer → Type 0
Packs r a = (AreApart r.refs × (a ≡ Did Stored)) ⊎ ((¬ AreApart r.refs) × (a ≡ Declined 32))

abbrev pub Tells : (fmt : Format) → Rules fmt → Repository → Question → Answer → Type 0
Tells fmt rules r (Unread n) a = a ≡ Declined n
Tells fmt rules r (Unresolved n) a = a ≡ Declined n
Tells fmt rules r Interrupted a = ⊥
Tells fmt rules r (Resolve e) a = (v : Result Id ℕ) × rules.denotes r e v × (a ≡ found v)
Tells fmt rules r (Compare first second) a = (v : Result Id ℕ) × rules.denotes r first v × Compares fmt rules r v second a
Tells fmt rules r PackRefs a = Packs r a
