-- What holds of the formats themselves, whatever reads them.
use Rattle.std.specs.Prelude.{◌≡◌, ◌↔◌, ℕ, List, [], ◌++◌}
use Rattle.vc_object.specs.Tree.{Entry, IsTreeBody, HasSameEntries, SpellsTree}
use Rattle.vc_object.specs.Commit.{CommitText, IsCommit, commit_bytes}
use Rattle.vc_object.specs.Tag.{TagText, IsTag, tag_bytes}
use Rattle.vc_object.specs.Object.{IsObject, object_bytes}
use Rattle.vc_object.specs.declared.kind.Kind.{Kind}

-- objects of the same bytes are the same object
abbrev pub ObjectsAreUnique : Type 0
ObjectsAreUnique = (j k : Kind) (a b : List ℕ) → ∥ IsObject j a ∥₁ → ∥ IsObject k b ∥₁ → object_bytes j a ≡ object_bytes k b → (j ≡ k) × (a ≡ b)

-- no object's bytes begin another's: where an object ends is seen from its bytes alone
abbrev pub ObjectsArePrefixFree : Type 0
ObjectsArePrefixFree = (j k : Kind) (a b more : List ℕ) → ∥ IsObject j a ∥₁ → ∥ IsObject k b ∥₁ → object_bytes j a ++ more ≡ object_bytes k b → more ≡ []

-- a body is a tree's exactly if it spells a set of entries
abbrev pub TreesAreSets : Type 0
TreesAreSets = (body : List ℕ) → IsTreeBody body ↔ ((set : List Entry) × SpellsTree body set)

-- a body spells one set at most
abbrev pub SetsAreUnique : Type 0
SetsAreUnique = (body : List ℕ) (xs ys : List Entry) → SpellsTree body xs → SpellsTree body ys → HasSameEntries xs ys

-- a set has one spelling at most
abbrev pub TreesAreUnique : Type 0
TreesAreUnique = (a b : List ℕ) (xs ys : List Entry) → SpellsTree a xs → SpellsTree b ys → HasSameEntries xs ys → a ≡ b

-- commits of the same body hold the same
abbrev pub CommitsAreUnique : Type 0
CommitsAreUnique = (c d : CommitText) → IsCommit c → IsCommit d → commit_bytes c ≡ commit_bytes d → c ≡ d

-- the same of tags
abbrev pub TagsAreUnique : Type 0
TagsAreUnique = (s t : TagText) → IsTag s → IsTag t → tag_bytes s ≡ tag_bytes t → s ≡ t
