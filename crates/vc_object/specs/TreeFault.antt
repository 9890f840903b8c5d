-- What is wrong with bytes that are no tree: the first entry at fault, behind a tree.
use Rattle.std.specs.Prelude.{◌≡◌, ◌≢◌, ◌<◌, ℕ, List, [], ◌∷◌, ◌++◌, length, Option, Some, None, Result, Ok, Err}
use Rattle.std.specs.List.{AllByRecursion}
use Rattle.vc_object.specs.Bytes.{Without}
use Rattle.vc_object.specs.Tree.{Entry, IsEntry, IsTree, IsName, IsBelow, ComesBefore, HasName, mode_text, entry_bytes, spelling}
use Rattle.vc_object.specs.declared.fault.ObjectFault.{ObjectFault}
use Rattle.vc_object.specs.declared.fault.ObjectFault.TheVariants.{BadMode, BadName, NotSorted, DuplicateName, Cut}
use Rattle.vc_object.specs.declared.mode.Mode.{Mode}

-- a mode and a legal name come first, and then the rest
pub record Named (bytes : List ℕ) (mode : Mode) (name rest : List ℕ) : Type 0 where
  pub is : bytes ≡ mode_text mode ++ 32 ∷ (name ++ 0 ∷ rest)
  pub legal : IsName name

-- each entry comes before one of this mode and name
abbrev pub AllBelow : List Entry → Mode → List ℕ → Type 0
AllBelow entries mode name = AllByRecursion (λ entry. IsBelow entry mode name) entries

-- the text up to the first space is no mode, or there is no space
abbrev pub ModeFault : List ℕ → ObjectFault → Type 0
ModeFault bytes BadMode = (text : List ℕ) × (rest : List ℕ) × Without 32 text × (bytes ≡ text ++ 32 ∷ rest) × ((mode : Mode) → text ≢ mode_text mode)
ModeFault bytes Cut = Without 32 bytes
ModeFault bytes _ = ⊥

-- the text up to the first NUL is no name, or there is no NUL
abbrev pub NameFault : List ℕ → ObjectFault → Type 0
NameFault bytes BadName = (name : List ℕ) × (rest : List ℕ) × Without 0 name × (bytes ≡ name ++ 0 ∷ rest) × (IsName name → ⊥)
NameFault bytes Cut = Without 0 bytes
NameFault bytes _ = ⊥

-- the name is there already, or else it comes too late
abbrev pub PlaceFault : List Entry → Mode → List ℕ → ObjectFault → Type 0
PlaceFault before mode name DuplicateName = HasName before name
PlaceFault before mode name NotSorted = (HasName before name → ⊥) × (AllBelow before mode name → ⊥)
PlaceFault before mode name _ = ⊥

-- what is wrong with the entry that the bytes begin with, behind these entries
pub data EntryFault (before : List Entry) (bytes : List ℕ) (e : ObjectFault) : Type 0 where
  of_mode : ModeFault bytes e → EntryFault before bytes e
  of_name : (mode : Mode) (rest : List ℕ) → bytes ≡ mode_text mode ++ 32 ∷ rest → NameFault rest e → EntryFault before bytes e
  of_place : (mode : Mode) (name rest : List ℕ) → Named bytes mode name rest → PlaceFault before mode name e → EntryFault before bytes e
  of_id : (mode : Mode) (name rest : List ℕ) → Named bytes mode name rest → (HasName before name → ⊥) → AllBelow before mode name → length rest < 20 → e ≡ Cut → EntryFault before bytes e

-- the bytes are a tree, and then bytes of which the first entry is at fault
pub record TreeFault (body : List ℕ) (e : ObjectFault) : Type 0 where
  pub before : List Entry
  pub rest : List ℕ
  pub is : body ≡ spelling before ++ rest
  pub tree : IsTree before
  pub some : rest ≢ []
  pub fault : EntryFault before rest e

-- what the entry at the front is, behind these entries
pub record NextEntry (before : List Entry) (bytes : List ℕ) (entry : Entry) (rest : List ℕ) : Type 0 where
  pub is : bytes ≡ entry_bytes entry ++ rest
  pub legal : IsEntry entry
  pub order : AllByRecursion (λ other. ComesBefore other entry) before

-- the last entry
abbrev pub LastIs : List Entry → Option Entry → Type 0
LastIs entries None = entries ≡ []
LastIs entries (Some entry) = (front : List Entry) × (entries ≡ front ++ entry ∷ [])

-- whether an entry of this mode and name may follow, or what is wrong with its place
abbrev pub Judged : List Entry → Mode → List ℕ → Result (Unit {0}) ObjectFault → Type 0
Judged before mode name (Ok _) = (HasName before name → ⊥) × AllBelow before mode name
Judged before mode name (Err e) = PlaceFault before mode name e
