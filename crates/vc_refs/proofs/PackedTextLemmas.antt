-- What is written for packed refs is read as the same refs.
use Rattle.std.proofs.Common.{◌≡◌, ℕ, zero, suc, ◌==◌, Bool, true, false, cond, List, [], ◌∷◌, ◌++◌, length, Some, is_none, sym, ap, refl, ◌∙◌, arith, append_assoc, append-nil, length-append, true≢false, nat_eq}
use Rattle.std.specs.Prelude.{codes, map, option_and_then}
use Rattle.std.specs.FinMap.{empty, from_entries, entries, entries_sorted, get, get-entries, get-from_entries, same_map, slice_cmp-IsAntisymmetric, nat_cmp-IsAntisymmetric}
use Rattle.std.specs.FinMap.Entries.{below_all, is_sorted}
use Rattle.std.specs.Ordering.{nat_cmp}
use Rattle.std.specs.declared.cmp.Ordering.{Ordering}
use Rattle.std.specs.Cmp.Lexicographic.{slice_cmp, nat_list_cmp_total}
use Rattle.std.specs.List.{All, AllPass, flat_map, list_all, list_any, slice_index_or, starts_with}
use Rattle.std.specs.Str.{is_utf8}
use Rattle.std.proofs.lemmas.Bool.{and_parts, and_from, or_parts, false_from_ne_true}
use Rattle.std.proofs.lemmas.Bool.Decides.{nat_tests, Decides-eqb}
use Rattle.std.proofs.lemmas.List.Splits.{slice_split_none, slice_split_at}
use Rattle.std.proofs.lemmas.List.Elements.{All-append}
use Rattle.hex.specs.Hex.{encode_lower, is_hex_digit}
use Rattle.vc_object.specs.Items.{◌>>=◌}
use Rattle.vc_object.specs.Lines.{after_word}
use Rattle.vc_object.specs.ObjectId.{is_id}
use Rattle.vc_object.specs.declared.id.ObjectId.{ObjectId}
use Rattle.vc_object.proofs.LineTexts.{after_word_again, split_again}
use Rattle.vc_refname.specs.RefName.{is_bad_byte, is_ref_name}
use Rattle.vc_refname.specs.declared.fault.NameFault.TheVariants as broken
use Rattle.vc_refname.proofs.BrokenRules.{legal_from_is_ref_name}
use Rattle.vc_refs.specs.Packed.{PackedMap, PackedRef, IsPackedMap, apart_map, hex_id, is_comment, is_packed_name, is_peeled, lines, map_of, may_be_packed, names_once, packed_name, packed_refs, packed_text, parts, ref_in, ref_line, ref_text, refs_in, with_ref_first}
use Rattle.vc_refs.specs.RefFile.{without_lf}
use Rattle.vc_refs.specs.RefMap.{IsRefMap, is_ref}
use Rattle.vc_refs.proofs.ApartLemmas.{apart_map-whole}
use Rattle.vc_refs.proofs.PackedLemmas.{entries-none, find_below, map_of-once, of_T}
use Rattle.vc_refs.proofs.RefFileLemmas.{digits_of, id_in-id_text, without_lf-line}

abbrev by_bytes : List ℕ → List ℕ → Ordering
by_bytes = slice_cmp nat_cmp

-- ---- the line of a ref
-- its id is read again
id_again : (id : ObjectId) → is_id id ≡ true → hex_id (encode_lower id.0) ≡ Some id
id_again id valid = ap hex_id (sym (without_lf-line (encode_lower id.0))) ∙ id_in-id_text id valid

name_again : (name : List ℕ) → is_packed_name name ≡ true → packed_name name ≡ Some name
name_again name valid = rw valid refl

ref_again : (ref : PackedRef) → may_be_packed ref ≡ true → ref_in (ref_text ref) ≡ Some ref
unfolding ref_in
ref_again ref valid =
    let both = and_parts (is_packed_name ref.0) (is_id ref.1) valid in
    let digits = encode_lower ref.1.0 in
    ap (λ o. o >>= (λ parts. hex_id parts.0 >>= (λ id. after_word (codes " ") parts.1 >>= (λ rest. packed_name rest >>= (λ name. Some (name, id)))))) (split_again 40 digits (32 ∷ ref.0) (digits_of ref.1 both.1).0)
    ∙ ap (λ o. o >>= (λ id. after_word (codes " ") (32 ∷ ref.0) >>= (λ rest. packed_name rest >>= (λ name. Some (name, id))))) (id_again ref.1 both.1)
    ∙ ap (λ o. o >>= (λ rest. packed_name rest >>= (λ name. Some (name, ref.1)))) (after_word_again (codes " ") ref.0)
    ∙ ap (λ o. o >>= (λ name. Some (name, ref.1))) (name_again ref.0 both.0)

-- it begins with a digit
abbrev BeginsWithDigit : List ℕ → Type 0
BeginsWithDigit text = (d : ℕ) × (more : List ℕ) × (text ≡ d ∷ more) × (is_hex_digit d ≡ true)

begins : (digits rest : List ℕ) → length digits ≡ 40 → AllPass is_hex_digit digits → BeginsWithDigit (digits ++ rest)
begins [] rest long all = absurd (omega arith)
begins (d ∷ digits) rest long all = (d, digits ++ rest, refl, all 0 0 (omega arith))

no_digit : (d c : ℕ) → is_hex_digit c ≡ false → is_hex_digit d ≡ true → (d == c) ≡ false
no_digit d c other digit = false_from_ne_true (d == c) (λ same. true≢false (sym digit ∙ ap is_hex_digit ((Decides-eqb d c).0 same) ∙ other))

no_digit_here : (c d : ℕ) → is_hex_digit c ≡ false → is_hex_digit d ≡ true → (c == d) ≡ false
no_digit_here c d other digit = false_from_ne_true (c == d) (λ same. true≢false (sym digit ∙ ap is_hex_digit (sym ((Decides-eqb c d).0 same)) ∙ other))

no_comment : (text : List ℕ) → BeginsWithDigit text → is_comment text ≡ false
no_comment text begin = ap is_comment begin.2 ∙ rw (no_digit_here 35 begin.0 refl begin.3) refl

not_peeled : (text : List ℕ) → BeginsWithDigit text → is_peeled text ≡ false
not_peeled text begin = ap is_peeled begin.2 ∙ rw (no_digit begin.0 94 refl begin.3) refl

begins_with_digit : (ref : PackedRef) → may_be_packed ref ≡ true → BeginsWithDigit (ref_text ref)
begins_with_digit ref valid =
    let digits = digits_of ref.1 (and_parts (is_packed_name ref.0) (is_id ref.1) valid).1 in
    begins (encode_lower ref.1.0) (32 ∷ ref.0) digits.0 digits.1

-- it has no line feed
abbrev HasNoLf : List ℕ → Type 0
HasNoLf text = All (λ x. (x == 10) ≡ false) text

no_lf_digits : (digits : List ℕ) → AllPass is_hex_digit digits → HasNoLf digits
no_lf_digits digits all k d l = no_digit (slice_index_or digits k d) 10 refl (all k d l)

good_byte : (x : ℕ) → is_bad_byte x ≡ false → (x == 10) ≡ false
good_byte x good = false_from_ne_true (x == 10) (λ same. true≢false (sym (ap is_bad_byte ((Decides-eqb x 10).0 same)) ∙ good))

no_lf_name : (name : List ℕ) → list_any is_bad_byte name ≡ false → HasNoLf name
no_lf_name [] good k d l = absurd (omega arith)
no_lf_name (x ∷ name) good zero d l = good_byte x (or_parts (is_bad_byte x) (list_any is_bad_byte name) good).0
no_lf_name (x ∷ name) good (suc k) d l = no_lf_name name (or_parts (is_bad_byte x) (list_any is_bad_byte name) good).1 k d (omega arith)

no_lf_after_space : (name : List ℕ) → HasNoLf name → HasNoLf (32 ∷ name)
no_lf_after_space name none zero d l = refl
no_lf_after_space name none (suc k) d l = none k d (omega arith)

no_lf : (ref : PackedRef) → may_be_packed ref ≡ true → HasNoLf (ref_text ref)
no_lf ref valid =
    let both = and_parts (is_packed_name ref.0) (is_id ref.1) valid in
    let name = and_parts (is_utf8 ref.0) (is_ref ref.0) both.0 in
    let legal = (and_parts (is_ref_name ref.0) (starts_with nat_eq ref.0 (codes "refs/")) name.1).0 in
    All-append (λ x. (x == 10) ≡ false) (encode_lower ref.1.0) (32 ∷ ref.0)
    (no_lf_digits (encode_lower ref.1.0) (digits_of ref.1 both.1).1)
    (no_lf_after_space ref.0 (no_lf_name ref.0 (legal_from_is_ref_name ref.0 legal broken.BadByte)))

-- ---- the lines
-- the text without its last line feed
abbrev joined : PackedRef → List PackedRef → List ℕ
joined ref [] = ref_text ref
joined ref (next ∷ refs) = ref_text ref ++ 10 ∷ joined next refs

grouped : (a b : List ℕ) → (a ++ 10 ∷ []) ++ (b ++ 10 ∷ []) ≡ (a ++ 10 ∷ b) ++ 10 ∷ []
grouped a b = simp append_assoc

joined_text : (ref : PackedRef) (refs : List PackedRef) → flat_map ref_line (ref ∷ refs) ≡ joined ref refs ++ 10 ∷ []
joined_text ref [] = append-nil (ref_line ref)
joined_text ref (next ∷ refs) = ap (λ t. ref_line ref ++ t) (joined_text next refs) ∙ grouped (ref_text ref) (joined next refs)

parts_joined : (ref : PackedRef) (refs : List PackedRef) → list_all may_be_packed (ref ∷ refs) ≡ true → parts (joined ref refs) ≡ map ref_text (ref ∷ refs)
parts_joined ref [] all = slice_split_none (λ byte. byte == 10) (ref_text ref) (no_lf ref (and_parts (may_be_packed ref) true all).0)
parts_joined ref (next ∷ refs) all =
    let both = and_parts (may_be_packed ref) (list_all may_be_packed (next ∷ refs)) all in
    slice_split_at (λ byte. byte == 10) (ref_text ref) 10 (joined next refs) (no_lf ref both.0) refl
    ∙ ap (λ (l : List (List ℕ)). ref_text ref ∷ l) (parts_joined next refs both.1)

lines_text : (text : List ℕ) → lines (text ++ 10 ∷ []) ≡ parts text
lines_text text =
    let some : (length (text ++ 10 ∷ []) == 0) ≡ false = let l = length-append text (10 ∷ []) in grind (arith, nat_tests) in
    ap (λ b. cond b [] (parts (without_lf (text ++ 10 ∷ [])))) some ∙ ap parts (without_lf-line text)

refs_again : (behind : Bool) (refs : List PackedRef) → list_all may_be_packed refs ≡ true → refs_in behind (map ref_text refs) ≡ Some refs
refs_again behind [] all = refl
refs_again behind (ref ∷ refs) all =
    let both = and_parts (may_be_packed ref) (list_all may_be_packed refs) all in
    let begin = begins_with_digit ref both.0 in
    rw (no_comment (ref_text ref) begin, not_peeled (ref_text ref) begin, ref_again ref both.0) (ap (with_ref_first (Some ref)) (refs_again true refs both.1))

lines_again : (refs : List PackedRef) → list_all may_be_packed refs ≡ true → refs_in false (lines (flat_map ref_line refs)) ≡ Some refs
lines_again [] all = refl
lines_again (ref ∷ refs) all =
    ap (λ t. refs_in false (lines t)) (joined_text ref refs)
    ∙ ap (refs_in false) (lines_text (joined ref refs) ∙ parts_joined ref refs all)
    ∙ refs_again false (ref ∷ refs) all

-- ---- the map
sorted_once : (refs : List PackedRef) → is_sorted by_bytes refs ≡ true → names_once refs ≡ true
sorted_once [] sorted = refl
sorted_once (ref ∷ refs) sorted =
    let both = and_parts (below_all by_bytes ref.0 refs) (is_sorted by_bytes refs) sorted in
    and_from _ _ (ap is_none (find_below ref.0 refs both.0)) (sorted_once refs both.1)

same_again : (m : PackedMap) → from_entries (entries m) ≡ m
same_again m = same_map nat_list_cmp_total (slice_cmp-IsAntisymmetric nat_cmp-IsAntisymmetric) _ m (λ q. get-from_entries nat_list_cmp_total (entries m) q ∙ sym (get-entries m q))

pub written_refs_are_read : (m : PackedMap) → IsPackedMap m → IsRefMap (get m) → packed_refs (packed_text m) ≡ Some m
unfolding packed_refs
written_refs_are_read m valid apart =
    ap (option_and_then apart_map)
    (ap (option_and_then map_of) (lines_again (entries m) valid)
    ∙ map_of-once (entries m) (sorted_once (entries m) (of_T _ (entries_sorted m)))
    ∙ ap Some (same_again m))
    ∙ apart_map-whole m apart

-- no text stands for no refs
pub no_text : packed_refs [] ≡ Some empty
unfolding packed_refs
no_text = rw (entries-none) refl
