-- What is said of an entry that comes behind those of a tree, of which the last one is at hand, and the lengths of names that its
-- name may begin with.
use Rattle.std.specs.Prelude.{◌≡◌, ℕ, List, [], ◌∷◌, ◌++◌, Bool, Option, Some}
use Rattle.std.specs.List.{AllByRecursion}
use Rattle.std.specs.Option.{option_map}
use Rattle.vc_object.specs.Bytes.{Without}
use Rattle.vc_object.specs.EntryView.{entry_view}
use Rattle.vc_object.specs.Fronts.{Covers}
use Rattle.vc_object.specs.Tree.{Entry, ComesBefore, InOrder, IsTree, spelling}
use Rattle.vc_object.specs.TreeFault.{LastIs}
use Rattle.vc_object.specs.declared.entries.TreeEntry.{TreeEntry}

-- this holds behind whatever tree the bytes spell
abbrev pub BehindTree : List ℕ → Option TreeEntry → List ℕ × Bool → (List Entry → Type 0) → Type 0
BehindTree bytes last lengths Holds =
    (entries : List Entry) → IsTree entries → bytes ≡ spelling entries → LastIs entries (option_map entry_view last) → Covers entries (option_map entry_view last) lengths → Holds entries

-- these are the lengths once an entry of this name has followed
abbrev pub CoversNext : Option TreeEntry → List ℕ → (old new : List ℕ × Bool) → Type 0
CoversNext last name old new =
    (entries : List Entry) (entry : Entry) → InOrder entries → LastIs entries (option_map entry_view last) → AllByRecursion (λ e. ComesBefore e entry) entries
    → Without 47 entry.name → entry.name ≡ name → Covers entries (option_map entry_view last) old → Covers (entries ++ entry ∷ []) (Some entry) new
