-- For the lines of the objects that a prune would take.
use Rattle.std.proofs.Common.{◌≡◌, ◌∙◌, ◌+◌, ◌<◌, ℕ, Bool, List, [], ◌++◌, cond, length, take, get_or, ap, sym}
use Rattle.std.specs.List.{flat_map}
use Rattle.std.specs.Prelude.{Contains}
use Rattle.std.proofs.lemmas.Bool.{false_from_ne_true}
use Rattle.std.proofs.lemmas.List.{append-nil, flat_map_more, take_more}
use Rattle.std.proofs.lemmas.Map.Views.{Contains-from_any, list_any-from_Contains}
use Rattle.vc_files.specs.FileMap.{FileMap}
use Rattle.vc_object.proofs.IdLemmas.{id_eq-same, id_eq_equiv}
use Rattle.vc_object.specs.declared.id.ObjectId.{ObjectId}
use Rattle.vc_object_map.specs.Store.{objects}
use Rattle.vc_reading.specs.Pruned.{going_line, line_of}

-- a name that is kept has no line
pub kept_line : (content : FileMap) (kept : List ObjectId) (id : ObjectId) → Contains kept id → going_line content kept id ≡ []
kept_line content kept id among = ap (λ (b : Bool). cond b [] (line_of id (objects content id))) (list_any-from_Contains id_eq_equiv id kept among)

-- another one has that of its object
pub other_line : (content : FileMap) (kept : List ObjectId) (id : ObjectId) → ¬ Contains kept id → going_line content kept id ≡ line_of id (objects content id)
other_line content kept id free = ap (λ (b : Bool). cond b [] (line_of id (objects content id))) (false_from_ne_true _ (λ e. free (Contains-from_any id_eq-same id kept e)))

-- nothing is added by a line of nothing
pub adds_none : (lines line : List ℕ) → line ≡ [] → lines ≡ lines ++ line
adds_none lines line none = sym (ap (λ (l : List ℕ). lines ++ l) none ∙ append-nil lines)

-- with the line of one name more
pub line_more : (content : FileMap) (kept all : List ObjectId) (i : ℕ) (none : ObjectId) (before after : List ℕ) → i < length all
    → before ≡ flat_map (going_line content kept) (take i all) → after ≡ before ++ going_line content kept (get_or all i none) → after ≡ flat_map (going_line content kept) (take (i + 1) all)
line_more content kept all i none before after within lines more =
    let line = going_line content kept in
    let id = get_or all i none in
    more
    ∙ ap (λ (l : List ℕ). l ++ line id) lines
    ∙ flat_map_more line [] (take i all) id
    ∙ ap (flat_map line) (sym (take_more all i none within))
