-- What a tree holds, and how it is spelled (Git user manual, "Tree Object"; git-mktree, git-fsck).
use Rattle.std.specs.Prelude.{◌≡◌, ◌≢◌, ◌↔◌, ℕ, List, [], ◌∷◌, ◌++◌, length, codes, ◌⊎◌}
use Rattle.std.specs.List.{AllByRecursion, Contains, flat_map}
use Rattle.std.specs.Ordering.{nat_cmp}
use Rattle.std.specs.Cmp.Lexicographic.{slice_cmp}
use Rattle.std.specs.Str.{str_to_ascii_lowercase}
use Rattle.std.specs.declared.cmp.Ordering.TheVariants.{Less}
use Rattle.vc_object.specs.Bytes.{Without}
use Rattle.vc_object.specs.declared.id.ObjectId.{ObjectId}
use Rattle.vc_object.specs.declared.mode.Mode.{Mode}
use Rattle.vc_object.specs.declared.mode.Mode.TheVariants as modes

-- a mode as it is written; own: 100664 is one, and no mode begins with a zero
abbrev pub mode_text : Mode → List ℕ
mode_text modes.Tree = codes "40000"
mode_text modes.File = codes "100644"
mode_text modes.SharedFile = codes "100664"
mode_text modes.Executable = codes "100755"
mode_text modes.Link = codes "120000"
mode_text modes.Commit = codes "160000"

-- an entry of a tree: what it is, its name, and the id of its object
pub record Entry : Type 0 where
  pub mode : Mode
  pub name : List ℕ
  pub id : ObjectId

-- a name that may stand in a tree; own: the last three are refused, `.git` in any case
pub record IsName (name : List ℕ) : Type 0 where
  pub some : name ≢ []
  pub no_slash : Without 47 name
  pub no_nul : Without 0 name
  pub not_dot : name ≢ codes "."
  pub not_dots : name ≢ codes ".."
  pub not_git : str_to_ascii_lowercase name ≢ codes ".git"

-- an entry that may stand in a tree
pub record IsEntry (entry : Entry) : Type 0 where
  pub name : IsName entry.name
  pub id : length entry.id.0 ≡ 20

-- an entry is spelled as its mode, a space, its name, a NUL, and the bytes of its id
abbrev pub entry_bytes : Entry → List ℕ
entry_bytes entry = mode_text entry.mode ++ 32 ∷ entry.name ++ 0 ∷ entry.id.0

-- the spellings of the entries, one after another
abbrev pub spelling : List Entry → List ℕ
spelling entries = flat_map entry_bytes entries

-- what stands behind a name where names are compared: a folder's goes as though it ended in `/`
abbrev pub tail : Mode → List ℕ
tail modes.Tree = codes "/"
tail _ = []

-- what the order compares
abbrev pub key : Mode → List ℕ → List ℕ
key mode name = name ++ tail mode

-- the entry comes before one of this mode and name
abbrev pub IsBelow : Entry → Mode → List ℕ → Type 0
IsBelow entry mode name = slice_cmp nat_cmp (key entry.mode entry.name) (key mode name) ≡ Less

-- the entry comes before the other, and has another name; own: also where one is a folder
pub record ComesBefore (entry other : Entry) : Type 0 where
  pub below : IsBelow entry other.mode other.name
  pub apart : entry.name ≢ other.name

-- each entry comes before all that follow it
abbrev pub InOrder : List Entry → Type 0
InOrder [] = Unit {0}
InOrder (entry ∷ others) = AllByRecursion (λ other. ComesBefore entry other) others × InOrder others

-- the entries of a tree, in its order
pub record IsTree (entries : List Entry) : Type 0 where
  pub legal : AllByRecursion IsEntry entries
  pub order : InOrder entries

-- a tree's body is the spelling of a tree
abbrev pub IsTreeBody : List ℕ → Type 0
IsTreeBody body = (entries : List Entry) × IsTree entries × (body ≡ spelling entries)

-- one of the entries has the name
abbrev pub HasName : List Entry → List ℕ → Type 0
HasName [] name = ⊥
HasName (entry ∷ others) name = (entry.name ≡ name) ⊎ HasName others name

-- two lists have the same entries, so they stand for the same set
abbrev pub HasSameEntries : List Entry → List Entry → Type 0
HasSameEntries xs ys = (entry : Entry) → Contains xs entry ↔ Contains ys entry

-- the body is the tree of a set of entries, which any list of them stands for: their spellings in the order of trees
pub record SpellsTree (body : List ℕ) (set : List Entry) : Type 0 where
  pub entries : List Entry
  pub tree : IsTree entries
  pub is : body ≡ spelling entries
  pub same : HasSameEntries entries set
