-- How object streams are written.
use Rattle.std.specs.Prelude.{◌≤◌, ℕ, List, [], ◌∷◌, ◌++◌, length, take, drop, map, codes, decimal}
use Rattle.std.specs.List.{AllByRecursion, flat_map}
use Rattle.vc_object.specs.Kind.{word}
use Rattle.vc_object.specs.ObjectId.{IsSortedByName}
use Rattle.vc_object.specs.Decoding.{StoredObject}
use Rattle.vc_object.specs.Object.{max_body}
use Rattle.vc_pkt.specs.Line.{LineText, flush, text, max_data}
use Rattle.vc_pkt.specs.Carried.{stored_name}

-- one data line for each so many bytes, and one for what is left; the second list bounds their number
abbrev pub cut_up : ℕ → List ℕ → List ℕ → List LineText
cut_up most [] body = []
cut_up most (f ∷ fuel) [] = []
cut_up most (f ∷ fuel) (b ∷ bs) = text (take most (b ∷ bs)) ∷ cut_up most fuel (drop most (b ∷ bs))

-- all data lines but the last are full; a body of no bytes has none
unfoldable pub data_lines : List ℕ → List LineText
data_lines body = cut_up max_data body body

-- `obj`, the kind and the size
abbrev pub object_text : StoredObject → List ℕ
object_text object = codes "obj " ++ (word object.kind ++ 32 ∷ decimal (length object.body))

abbrev pub object_lines : StoredObject → List LineText
object_lines object = text (object_text object ++ 10 ∷ []) ∷ data_lines object.body

-- the lines of the objects in their order, and a flush
abbrev pub stream_lines : List StoredObject → List LineText
stream_lines objects = flat_map object_lines objects ++ flush ∷ []

-- a set that is written: in order of name, each name once, and no body over the limit
pub record IsWrittenSet (objects : List StoredObject) : Type 0 where
  pub sorted : IsSortedByName (map stored_name objects)
  pub small : AllByRecursion (λ o. length o.body ≤ max_body) objects
