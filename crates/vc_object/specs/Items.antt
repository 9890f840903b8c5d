-- What stands one after another, read from the front by a function that gives an item and the bytes after it.
use Rattle.std.specs.Prelude.{ℕ, zero, suc, List, [], ◌∷◌, length, Option, Some, None}

-- the item that was found, if any, and those after it
abbrev pub then_items : {A : Type 0} → Option (A × List ℕ) → (List ℕ → List A) → List A
then_items None others = []
then_items (Some found) others = found.0 ∷ others found.1

-- n items at most
unfoldable pub some_items : {A : Type 0} → (List ℕ → Option (A × List ℕ)) → ℕ → List ℕ → List A
some_items at zero bytes = []
some_items at (suc n) bytes = then_items (at bytes) (some_items at n)

-- all items up to the first bytes that are none
unfoldable pub items_of : {A : Type 0} → (List ℕ → Option (A × List ℕ)) → List ℕ → List A
items_of at bytes = some_items at (length bytes) bytes

-- what stands behind the item that was found, if any
abbrev pub then_after : {A : Type 0} → Option (A × List ℕ) → List ℕ → (List ℕ → List ℕ) → List ℕ
then_after None bytes others = bytes
then_after (Some found) bytes others = others found.1

-- what stands behind n items at most
unfoldable pub after_some : {A : Type 0} → (List ℕ → Option (A × List ℕ)) → ℕ → List ℕ → List ℕ
after_some at zero bytes = bytes
after_some at (suc n) bytes = then_after (at bytes) bytes (after_some at n)

-- what stands behind all items
unfoldable pub after_items : {A : Type 0} → (List ℕ → Option (A × List ℕ)) → List ℕ → List ℕ
after_items at bytes = after_some at (length bytes) bytes

-- the next step, if there was no failure
infixl 10 ◌>>=◌
abbrev pub ◌>>=◌ : {A B : Type 0} → Option A → (A → Option B) → Option B
None >>= f = None
(Some x) >>= f = f x
