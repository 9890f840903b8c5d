-- The texts of ref files: what a reader makes of them, and that what is written for an id is read as that id.
use Rattle.std.proofs.Common.{◌≡◌, ℕ, zero, suc, ◌-◌, ◌==◌, true, nat_lt, List, [], ◌∷◌, ◌++◌, take, drop, length, Option, Some, None, Result, Ok, Err, sym, ap, refl, ◌∙◌, arith, rules, length-append}
use Rattle.std.specs.Prelude.{◌↔◌, IsSome, IfSome, is_ok, option_map}
use Rattle.std.specs.List.{AllPass, list_all}
use Rattle.std.specs.Result.{result_ok}
use Rattle.std.proofs.Math.Seq.{take-append_seam}
use Rattle.std.proofs.lemmas.Bool.{and_parts}
use Rattle.hex.specs.declared.error.FromHexError.{FromHexError}
use Rattle.hex.specs.Hex.{decode_of, decode_sized, encode_lower, is_hex_digit}
use Rattle.hex.proofs.HexLemmas.{decode_sized-twice, IsOk-decode_sized, decode_sized-encode_lower}
use Rattle.vc_object.specs.declared.id.ObjectId.{ObjectId}
use Rattle.vc_object.specs.ObjectId.{is_id}
use Rattle.vc_object.proofs.IdLemmas.{byte_below}
use Rattle.vc_refs.specs.RefFile.{without_lf, id_of, id_in, id_text}

none_of : (t : List ℕ) (d : Result (List ℕ) FromHexError) → (is_ok d ≡ true → ⊥) → None ≡ option_map id_of (result_ok d)
none_of t (Ok bytes) not = absurd (not refl)
none_of t (Err e) not = refl

-- the id that forty digits write is the one that decoding into twenty bytes gives
pub id_from_hex : (t : List ℕ) (r : Option ObjectId) → IfSome r (λ id. decode_of t ≡ Ok id.0) → IsSome r ↔ ((length t ≡ 40) × AllPass is_hex_digit t)
    → r ≡ option_map id_of (result_ok (decode_sized t 20))
id_from_hex t (Some id) value found =
    sym (ap (λ d. option_map id_of (result_ok d)) (decode_sized-twice t 20 (found.0 refl).0 ∙ value))
id_from_hex t None value found =
    none_of t (decode_sized t 20) (λ ok.
    let told : IsSome {T = ObjectId} None = found.1 ((IsOk-decode_sized t 20).0 ok) in
    cc)

drop_front : (xs : List ℕ) (n : ℕ) (ys : List ℕ) → length xs ≡ n → drop n (xs ++ ys) ≡ ys
drop_front [] zero ys e = refl
drop_front [] (suc n) ys e = absurd (omega arith)
drop_front (x ∷ xs) zero ys e = absurd (omega arith)
drop_front (x ∷ xs) (suc n) ys e = drop_front xs n ys (omega arith)

-- an LF at the end is taken off
pub without_lf-line : (xs : List ℕ) → without_lf (xs ++ 10 ∷ []) ≡ xs
without_lf-line xs =
    let size : length (xs ++ 10 ∷ []) - 1 ≡ length xs = omega (arith, length-append xs (10 ∷ [])) in
    let front : take (length xs) (xs ++ 10 ∷ []) ≡ xs = take-append_seam xs (10 ∷ []) in
    let back : drop (length xs) (xs ++ 10 ∷ []) ≡ 10 ∷ [] = drop_front xs (length xs) (10 ∷ []) refl in
    rw (size, back) front

-- what is written for an id is read as that id
pub id_in-id_text : (id : ObjectId) → is_id id ≡ true → id_in (id_text id) ≡ Some id
id_in-id_text id valid =
    let parts = and_parts (length id.0 == 20) (list_all (λ b. nat_lt b 256) id.0) valid in
    let size : length id.0 ≡ 20 = search rules in
    ap (λ t. option_map id_of (result_ok (decode_sized t 20))) (without_lf-line (encode_lower id.0))
    ∙ ap (λ d. option_map id_of (result_ok d)) (decode_sized-encode_lower id.0 20 size (byte_below id.0 parts.1))

-- what is written for an id is forty digits
pub digits_of : (id : ObjectId) → is_id id ≡ true → (length (encode_lower id.0) ≡ 40) × AllPass is_hex_digit (encode_lower id.0)
digits_of id valid =
    let parts = and_parts (length id.0 == 20) (list_all (λ b. nat_lt b 256) id.0) valid in
    let size : length id.0 ≡ 20 = search rules in
    (IsOk-decode_sized (encode_lower id.0) 20).0 (ap is_ok (decode_sized-encode_lower id.0 20 size (byte_below id.0 parts.1)))
