-- Which files of a work tree words name.
use Rattle.std.specs.Prelude.{◌≡◌, ◌≢◌, ◌⊎◌, ◌++◌, ⊤, ℕ, Bool, if◌then◌else◌, true, false, not, ◌&&◌, ◌-◌, nat_eq, List, [], ◌∷◌, Vec, String, length, take, map, filter, codes, bytes_eq, string_bytes, Option, Some, None, is_some}
use Rattle.std.specs.FinMap.{get, keys}
use Rattle.std.specs.Global.{Global}
use Rattle.std.specs.List.{ends_with, starts_with}
use Rattle.vc_files.specs.FileMap.{FileMap}
use Rattle.vc_files.specs.declared.faults.Fault.TheVariants.{Memory}
use Rattle.vc_index.specs.Path.{IsPath}
use Rattle.vc_work_folder.specs.Own.{is_own}
use Rattle.vc_local.specs.declared.fault.NodeFault.TheVariants as node
use Rattle.vc_cli.specs.declared.failure.Failure.{Failure}
use Rattle.vc_cli.specs.declared.failure.Failure.TheVariants.{Node, NoSuchPath, Fault}

-- the path that a word spells, but for a slash at its end
abbrev pub spelled_path : List ℕ → List ℕ
spelled_path word = if ends_with nat_eq word (codes "/") then take (length word - 1) word else word

-- whether the path begins so and lies outside the store's own folder
abbrev pub is_below : (own start path : List ℕ) → Bool
is_below own start path = starts_with nat_eq path start && not (is_own own path)

-- the paths of the work tree's files that do, in the order of their bytes
abbrev pub files_below : FileMap → (own start : List ℕ) → List (List ℕ)
files_below work own start = filter (is_below own start) (keys work)

-- the paths of the files that a word names: `.` names all, another one the file at its path, or else those in its folder
abbrev pub files_named_by : FileMap → (own word : List ℕ) → List (List ℕ)
files_named_by work own word =
    if bytes_eq word (codes ".")
    then files_below work own []
    else (if is_some (get work word) then word ∷ [] else files_below work own (spelled_path word ++ codes "/"))

-- the word is `.`, or spells a path that an index may have, outside the store's own folder
abbrev pub IsGoodWord : (own word : List ℕ) → Type 0
IsGoodWord own word = (word ≡ codes ".") ⊎ (IsPath (spelled_path word) × (is_own own (spelled_path word) ≡ false))

-- it is not, and spells none that may be there, or one in the store's own folder
abbrev pub IsBadWord : (own word : List ℕ) → Type 0
IsBadWord own word = (word ≢ codes ".") × ((¬ IsPath (spelled_path word)) ⊎ (is_own own (spelled_path word) ≡ true))

-- a good word that names files
pub record Names (work : FileMap) (own word : List ℕ) : Type 0 where
  pub good : IsGoodWord own word
  pub some : files_named_by work own word ≢ []

-- a good word that names none
pub record NamesNone (work : FileMap) (own word : List ℕ) : Type 0 where
  pub good : IsGoodWord own word
  pub none : files_named_by work own word ≡ []

-- the words before one name files, and that one is so
abbrev pub FirstWord : FileMap → (own : List ℕ) → (List ℕ → Type 0) → List (List ℕ) → Type 0
FirstWord work own IsSo [] = ⊥
FirstWord work own IsSo (word ∷ words) = IsSo word ⊎ (Names work own word × FirstWord work own IsSo words)

-- why a path is refused before anything is looked at, or memory runs out
abbrev pub IsOfPath : (own path : List ℕ) → Failure → Type 0
IsOfPath own path (Node node.BadPath) = (¬ IsPath path) ⊎ (is_own own path ≡ true)
IsOfPath own path (Fault fault) = fault ≡ Memory
IsOfPath own path _ = ⊥

-- why there are no files of these
abbrev pub IsAbsentOr : List (List ℕ) → Failure → Type 0
IsAbsentOr files NoSuchPath = files ≡ []
IsAbsentOr files (Fault fault) = ⊤
IsAbsentOr files _ = ⊥

-- why a word is refused
abbrev pub RefusesWord : FileMap → (own word : List ℕ) → Failure → Type 0
RefusesWord work own word (Node node.BadPath) = IsBadWord own word
RefusesWord work own word NoSuchPath = NamesNone work own word
RefusesWord work own word (Fault fault) = ⊤
RefusesWord work own word _ = ⊥

-- why the words are: the first that is bad, the first that names no file, or a fault
abbrev pub RefusesWords : FileMap → (own : List ℕ) → List (List ℕ) → Failure → Type 0
RefusesWords work own words (Node node.BadPath) = FirstWord work own (IsBadWord own) words
RefusesWords work own words NoSuchPath = FirstWord work own (NamesNone work own) words
RefusesWords work own words (Fault fault) = ⊤
RefusesWords work own words _ = ⊥

-- the list has the paths of all files; so does one that was made already
abbrev pub IsListing : FileMap → Vec (String Global) Global → Type 0
IsListing work all = map string_bytes all.items ≡ keys work

abbrev pub IsListingIf : FileMap → Option (Vec (String Global) Global) → Type 0
IsListingIf work None = ⊤
IsListingIf work (Some all) = IsListing work all
