-- The words of a line, and what a word tells: a number, a node, a name, an item of a push.
use Rattle.std.specs.List.{list_all, list_any, slice_split}
use Rattle.std.specs.Option.{option_and_then}
use Rattle.std.specs.Prelude.{◌==◌, ◌&&◌, ◌++◌, ℕ, nat_le, nat_lt, Bool, List, [], ◌∷◌, codes, length, map, slice_index, Option, Some, None, option_map, if◌then◌else◌}
use Rattle.std.specs.Str.{bytes_eq, is_utf8}
use Rattle.vc_model.specs.Order.{NamedItem}
use Rattle.vc_model.specs.Refs.{RefName}
use Rattle.vc_model.specs.World.{Party}
use Rattle.vc_model.specs.World.Party.{TheClone, TheShared}
use Rattle.vc_object.specs.Header.{number}
use Rattle.vc_refname.specs.RefName.{is_ref_name}
use denote.Ref.{Bor}

-- what texts say that are lent
abbrev pub texts : List (Bor (List ℕ)) → List (List ℕ)
texts lent = map (λ text. text.now) lent

-- what stands between spaces (32)
abbrev pub words_of : List ℕ → List (List ℕ)
words_of line = slice_split (λ byte. byte == 32) line

-- a word is empty
abbrev pub has_empty : List (List ℕ) → Bool
has_empty words = list_any (λ word. length word == 0) words

-- the word that stands alone
abbrev pub sole : List (List ℕ) → Option (List ℕ)
sole (word ∷ []) = Some word
sole _ = None

-- the words where there are two
abbrev pub pair : List (List ℕ) → Option (List ℕ × List ℕ)
pair (first ∷ second ∷ []) = Some (first, second)
pair _ = None

-- ---- numbers and nodes

abbrev pub is_digit : ℕ → Bool
is_digit byte = nat_le 48 byte && nat_le byte 57

-- 1 to 9 decimal digits write a number
unfoldable pub number_in : List ℕ → Option ℕ
number_in word =
    if length word == 0 then None
    else if nat_lt 9 (length word) then None
    else if list_all is_digit word then Some (number word)
    else None

-- the same of a number that has no 0 (48) before it
abbrev pub plain_number_in : List ℕ → Option ℕ
plain_number_in word = if nat_lt 1 (length word) && slice_index word 0 == 48 then None else number_in word

abbrev pub below : ℕ → ℕ → Option ℕ
below n k = if nat_lt k n then Some k else None

-- `c` (99) and the number of a clone, of which there are n
unfoldable pub clone_in : ℕ → List ℕ → Option ℕ
clone_in n [] = None
clone_in n (first ∷ digits) = if first == 99 then option_and_then (below n) (plain_number_in digits) else None

-- a node, of a world with n clones
unfoldable pub party_in : ℕ → List ℕ → Option Party
party_in n word = if bytes_eq word (codes "shared") then Some TheShared else option_map TheClone (clone_in n word)

-- ---- names and items

-- a name that a ref may have
unfoldable pub name_in : List ℕ → Option RefName
name_in text = if is_utf8 text && is_ref_name text then Some text else None

-- a branch by its short name
unfoldable pub branch_in : List ℕ → Option RefName
branch_in word = name_in (codes "refs/heads/" ++ word)

-- what stands before the last such byte, and what stands after it
abbrev pub cut_at : ℕ → ℕ → List ℕ → Option (List ℕ × List ℕ) → Option (List ℕ × List ℕ)
cut_at byte b bs (Some parts) = Some (b ∷ parts.0, parts.1)
cut_at byte b bs None = if b == byte then Some ([], bs) else None

abbrev pub cut_last : ℕ → List ℕ → Option (List ℕ × List ℕ)
cut_last byte [] = None
cut_last byte (b ∷ bs) = cut_at byte b bs (cut_last byte bs)

-- a ref by its full name is to have what an expression names, or to go
abbrev pub set_item : List ℕ → RefName → NamedItem
set_item [] name = record { value = None; name = name }
set_item (byte ∷ bytes) name = record { value = Some (byte ∷ bytes); name = name }

-- a branch by its short name is to have the value that it has at the clone
abbrev pub branch_item : RefName → NamedItem
branch_item name = record { value = Some name; name = name }

unfoldable pub branch_item_in : List ℕ → Option NamedItem
branch_item_in word = option_map branch_item (branch_in word)

abbrev pub item_of_parts : List ℕ → Option (List ℕ × List ℕ) → Option NamedItem
item_of_parts word None = branch_item_in word
item_of_parts word (Some parts) = option_map (set_item parts.0) (name_in parts.1)

-- `rev:ref`, cut at the last colon (58), `:ref`, or a branch alone
unfoldable pub item_in : List ℕ → Option NamedItem
item_in word = item_of_parts word (cut_last 58 word)

-- ---- lists

-- all of the words tell one
abbrev pub with_one : {X : Type 0} → Option X → Option (List X) → Option (List X)
with_one (Some x) (Some xs) = Some (x ∷ xs)
with_one _ _ = None

abbrev pub all_in : {X : Type 0} → (List ℕ → Option X) → List (List ℕ) → Option (List X)
all_in one [] = Some []
all_in one (word ∷ words) = with_one (one word) (all_in one words)
