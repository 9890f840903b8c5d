-- What a text of packed refs stands for has legal names in `refs/`, of which none is a folder of another, and whole ids: for those
-- who hold the text alone.
use Rattle.std.proofs.Common.{◌≡◌, ℕ, Bool, true, false, List, [], ◌∷◌, length, Option, Some, None, Result, Ok, Err, sym, ap, refl, ◌∙◌, subst, arith, rules}
use Rattle.std.specs.Prelude.{codes, option_map, option_and_then, if◌then◌else◌}
use Rattle.std.specs.FinMap.{entries, from_entries, get, get-entries}
use Rattle.std.specs.List.{list_all}
use Rattle.std.specs.Result.{result_ok}
use Rattle.std.proofs.lemmas.Bool.{and_from, and_parts}
use Rattle.hex.specs.declared.error.FromHexError.{FromHexError}
use Rattle.hex.specs.Hex.{decode_sized}
use Rattle.hex.proofs.HexLemmas.{decode_of-ok, decode_sized-ok, decode_sized-twice}
use Rattle.vc_object.proofs.IdLemmas.{is_id-from_array}
use Rattle.vc_object.proofs.Items.{bind_some}
use Rattle.vc_object.specs.Lines.{after_word, split}
use Rattle.vc_object.specs.ObjectId.{is_id}
use Rattle.vc_object.specs.declared.id.ObjectId.{ObjectId}
use Rattle.vc_refs.specs.Packed.{PackedMap, PackedRef, IsPackedMap, apart_map, hex_id, is_comment, is_packed_name, is_peeled, lines, map_of, may_be_packed, names_apart, names_once, packed_name, packed_refs, ref_in, refs_in, with_ref_first}
use Rattle.vc_refs.specs.RefFile.{id_in, id_of, without_lf}
use Rattle.vc_refs.specs.RefMap.{IsRefMap}
use Rattle.vc_refs.proofs.ApartLemmas.{IsRefMap-from_apart, apart_map-kept}
use Rattle.vc_refs.proofs.PackedLemmas.{all_found, from_entries-IsPackedMap, packed_name-valid}

same_id : (bytes : List ℕ) (id : ObjectId) → Some (id_of bytes) ≡ Some id → bytes ≡ id.0
same_id bytes id e = cc e

-- forty digits spell twenty bytes
hex_id-valid : (digits : List ℕ) (id : ObjectId) → hex_id digits ≡ Some id → is_id id ≡ true
hex_id-valid digits id e = by (decode_sized digits 20) refl e
  where
    by : (r : Result (List ℕ) FromHexError) → decode_sized digits 20 ≡ r → option_map id_of (result_ok r) ≡ Some id → is_id id ≡ true
    by (Ok bytes) is found =
        let long = decode_sized-ok digits 20 bytes is in
        let read = decode_of-ok digits bytes (sym (decode_sized-twice digits 20 long) ∙ is) in
        let size : length bytes ≡ 20 = omega (arith, long, read.2) in
        subst (λ (b : List ℕ). is_id (id_of b) ≡ true → is_id id ≡ true) (sym (same_id bytes id found)) (λ h. h)
        (is_id-from_array (id_of bytes) size (λ i. let small = read.3 i in search rules))
    by (Err x) is found = absurd (cc found)

same_ref : (ref found : PackedRef) → Some ref ≡ Some found → ref ≡ found
same_ref ref found e = cc e

-- so does the text of a ref's own file
pub id_in-valid : (text : List ℕ) (id : ObjectId) → id_in text ≡ Some id → is_id id ≡ true
id_in-valid text id e = hex_id-valid (without_lf text) id e

-- the line of a ref gives one that may be packed
ref_in-valid : (line : List ℕ) (ref : PackedRef) → ref_in line ≡ Some ref → may_be_packed ref ≡ true
unfolding ref_in
ref_in-valid line ref e =
    let parts = bind_some (split 40 line) _ _ e in
    let id = bind_some (hex_id parts.0.0) _ _ parts.2 in
    let rest = bind_some (after_word (codes " ") parts.0.1) _ _ id.2 in
    let name = bind_some (packed_name rest.0) _ _ rest.2 in
    let valid : is_packed_name name.0 ≡ true = packed_name-valid rest.0 (Some name.0) (sym name.1) in
    subst (λ (r : PackedRef). may_be_packed r ≡ true) (same_ref (name.0, id.0) ref name.2)
    (and_from (is_packed_name name.0) (is_id id.0) valid (hex_id-valid parts.0.0 id.0 id.1))

-- so do all lines
refs_in-valid : (lines : List (List ℕ)) (behind : Bool) (refs : List PackedRef) → refs_in behind lines ≡ Some refs → list_all may_be_packed refs ≡ true
refs_in-valid [] behind refs e = let none : refs ≡ [] = cc e in ap (list_all may_be_packed) none
refs_in-valid (line ∷ others) behind refs e = by (is_comment line) (is_peeled line) behind (refs_in-valid others false) (refs_in-valid others true) e
  where
    none_is : {A : Type 0} (x : A) → ◌≡◌ {A = Option A} None (Some x) → ⊥
    none_is x h = cc h

    one : (o : Option PackedRef) (more : Option (List PackedRef)) → ((ref : PackedRef) → o ≡ Some ref → may_be_packed ref ≡ true) → ((rs : List PackedRef) → more ≡ Some rs → list_all may_be_packed rs ≡ true)
        → with_ref_first o more ≡ Some refs → list_all may_be_packed refs ≡ true
    one (Some ref) (Some rs) first later h =
        let is : ref ∷ rs ≡ refs = cc h in
        subst (λ (l : List PackedRef). list_all may_be_packed l ≡ true) is (and_from (may_be_packed ref) (list_all may_be_packed rs) (first ref refl) (later rs refl))
    one (Some ref) None first later h = absurd (none_is refs h)
    one None more first later h = absurd (none_is refs h)

    by : (comment peeled behind : Bool) → ((rs : List PackedRef) → refs_in false others ≡ Some rs → list_all may_be_packed rs ≡ true) → ((rs : List PackedRef) → refs_in true others ≡ Some rs → list_all may_be_packed rs ≡ true)
        → (if comment then refs_in false others else if peeled then (if behind then refs_in false others else None) else with_ref_first (ref_in line) (refs_in true others)) ≡ Some refs
        → list_all may_be_packed refs ≡ true
    by true peeled behind apart after h = apart refs h
    by false true true apart after h = apart refs h
    by false true false apart after h = absurd (none_is refs h)
    by false false behind apart after h = one (ref_in line) (refs_in true others) (ref_in-valid line) after h

map_of-valid : (refs : List PackedRef) (m : PackedMap) → list_all may_be_packed refs ≡ true → map_of refs ≡ Some m → IsPackedMap m
map_of-valid refs m all e = by (names_once refs) e
  where
    by : (once : Bool) → (if once then Some (from_entries refs) else None) ≡ Some m → IsPackedMap m
    by true h = let is : from_entries refs ≡ m = cc h in subst IsPackedMap is (from_entries-IsPackedMap refs all)
    by false h = absurd (cc h)

-- a text stands for a map of its lines, of which no name is a folder of another
made_of : (text : List ℕ) (m : PackedMap) → packed_refs text ≡ Some m → (option_and_then map_of (refs_in false (lines text)) ≡ Some m) × (names_apart (entries m) ≡ true)
unfolding packed_refs
made_of text m e = by (option_and_then map_of (refs_in false (lines text))) refl e
  where
    by : (o : Option PackedMap) → option_and_then map_of (refs_in false (lines text)) ≡ o → option_and_then apart_map o ≡ Some m → (option_and_then map_of (refs_in false (lines text)) ≡ Some m) × (names_apart (entries m) ≡ true)
    by (Some all) is h =
        let kept = apart_map-kept all m h in
        (is ∙ ap Some kept.0, subst (λ (k : PackedMap). names_apart (entries k) ≡ true) kept.0 kept.1)
    by None is h = absurd (cc h)

-- the whole text
pub packed_refs-valid : (text : List ℕ) (m : PackedMap) → packed_refs text ≡ Some m → IsPackedMap m
packed_refs-valid text m e = by (refs_in false (lines text)) refl (made_of text m e).0
  where
    by : (o : Option (List PackedRef)) → refs_in false (lines text) ≡ o → option_and_then map_of o ≡ Some m → IsPackedMap m
    by (Some refs) is h = map_of-valid refs m (refs_in-valid (lines text) false refs is) h
    by None is h = absurd (cc h)

-- its names are those of a map of refs
pub packed_refs-IsRefMap : (text : List ℕ) (m : PackedMap) → packed_refs text ≡ Some m → IsRefMap (get m)
packed_refs-IsRefMap text m e = IsRefMap-from_apart m (packed_refs-valid text m e) (made_of text m e).1

-- what the map says of a name
pub packed_entry : (m : PackedMap) (name : List ℕ) (id : ObjectId) → IsPackedMap m → get m name ≡ Some id → (is_packed_name name ≡ true) × (is_id id ≡ true)
packed_entry m name id valid is = and_parts (is_packed_name name) (is_id id) (all_found name id (entries m) valid (sym (get-entries m name) ∙ is))
