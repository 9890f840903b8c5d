-- Names and the paths of their objects: each gives the other, both in one order, and digits begin both.
use Rattle.std.proofs.Common.{◌≡◌, ℕ, ◌<◌, ◌+◌, ◌/◌, ◌%◌, inl, inr, zero, suc, Bool, true, false, cond, ◌&&◌, ◌==◌, nat_eq, nat_lt, List, ◌∷◌, length, Option, Some, None, Result, Ok, Err, sym, ap, refl, ◌∙◌, subst, lit<, rules, arith, slice_index, []}
use Rattle.std.specs.Prelude.{bytes_eq, option_and_then, if◌then◌else◌}
use Rattle.std.specs.Char.{is_ascii_hexdigit, to_ascii_lowercase}
use Rattle.std.specs.List.{list_all, starts_with}
use Rattle.std.specs.Result.{result_ok}
use Rattle.std.specs.Str.{str_to_ascii_lowercase}
use Rattle.std.specs.Ordering.{nat_cmp, ordering_then}
use Rattle.std.specs.Cmp.{nat_cmp_is}
use Rattle.std.specs.Cmp.Lexicographic.{slice_cmp}
use Rattle.std.specs.declared.cmp.Ordering.{Ordering}
use Rattle.std.specs.declared.cmp.Ordering.TheVariants.{Less, Equal, Greater}
use Rattle.std.proofs.lemmas.Slice.Eq.{bytes_eq-Decides}
use Rattle.std.proofs.lemmas.List.{get_or_past}
use Rattle.std.proofs.lemmas.Bool.{and_parts, and_from, cases_lt, cases_order, eqb-true, eq-eqb}
use Rattle.std.proofs.lemmas.Bool.Decides.{nat_tests}
use Rattle.hex.specs.declared.error.FromHexError.{FromHexError}
use Rattle.hex.specs.Hex.{encode_lower, encode_with, lower_digits, decode_sized, IsBytes}
use Rattle.hex.proofs.HexLemmas.{decode_of-ok, decode_sized-twice, decode_sized-ok, decode_sized-encode_lower, length-encode_with}
use Rattle.vc_lemmas.proofs.Texts.{bytes_eq_same}
use Rattle.vc_object.proofs.IdLemmas.{is_id-from_array}
use Rattle.vc_object.specs.ObjectId.{is_name, is_id}
use Rattle.vc_object.specs.declared.id.ObjectId.{ObjectId}
use Rattle.vc_object_map.specs.Store.{object_path, name_in, digits_in, prefix_path, has_digits}

-- ---- what stands at a path

bytes_from_all : (xs : List ℕ) → list_all (λ b. nat_lt b 256) xs ≡ true → IsBytes xs
bytes_from_all [] h i = lit< tt
bytes_from_all (x ∷ xs) h zero = let p = (and_parts (nat_lt x 256) (list_all (λ b. nat_lt b 256) xs) h).0 in search rules
bytes_from_all (x ∷ xs) h (suc i) = bytes_from_all xs (and_parts (nat_lt x 256) (list_all (λ b. nat_lt b 256) xs) h).1 i

-- a name is bytes
pub is_name-bytes : (name : List ℕ) → is_name name ≡ true → IsBytes name
is_name-bytes name h = bytes_from_all name (and_parts (length name == 20) (list_all (λ b. nat_lt b 256) name) h).1

is_name-length : (name : List ℕ) → is_name name ≡ true → length name ≡ 20
is_name-length name h = eqb-true (length name) 20 (and_parts (length name == 20) (list_all (λ b. nat_lt b 256) name) h).0

is_name-from : (name : List ℕ) → length name ≡ 20 → IsBytes name → is_name name ≡ true
is_name-from name long bytes = let id : ObjectId = record { 0 = name } in is_id-from_array id long (λ i. let small = bytes i in search rules)

abbrev placed : List ℕ → List ℕ → Option ObjectId
placed path name = if bytes_eq (object_path name) path then Some (record { 0 = name }) else None

of_test : (b : Bool) (name : List ℕ) (id : ObjectId) → cond b (Some (record { 0 = name })) None ≡ Some id → (b ≡ true) × (name ≡ id.0)
of_test true name id h =
    let make : List ℕ → ObjectId = λ bytes. record { 0 = bytes } in
    let same : make name ≡ id = cc in
    (refl, ap (λ (i : ObjectId). i.0) same)
of_test false name id h = cc h

of_read : (path : List ℕ) (r : Result (List ℕ) FromHexError) (id : ObjectId) → option_and_then (placed path) (result_ok r) ≡ Some id → (r ≡ Ok id.0) × (bytes_eq (object_path id.0) path ≡ true)
of_read path (Err e) id h = cc h
of_read path (Ok name) id h =
    let t = of_test (bytes_eq (object_path name) path) name id h in
    (ap Ok t.1, subst (λ n. bytes_eq (object_path n) path ≡ true) t.1 t.0)

of_length : (path : List ℕ) (b : Bool) (id : ObjectId) → cond b (option_and_then (placed path) (result_ok (decode_sized (digits_in path) 20))) None ≡ Some id
    → (decode_sized (digits_in path) 20 ≡ Ok id.0) × (bytes_eq (object_path id.0) path ≡ true)
of_length path true id h = of_read path (decode_sized (digits_in path) 20) id h
of_length path false id h = cc h

-- the object that has its place at a path
pub name_in-some : (path : List ℕ) (id : ObjectId) → name_in path ≡ Some id → (path ≡ object_path id.0) × (is_id id ≡ true)
name_in-some path id h =
    let parts = of_length path (length path == 49) id h in
    let long = decode_sized-ok (digits_in path) 20 id.0 parts.0 in
    let read = decode_of-ok (digits_in path) id.0 (sym (decode_sized-twice (digits_in path) 20 long) ∙ parts.0) in
    let size : length id.0 ≡ 20 = omega (arith, long, read.2) in
    (sym ((bytes_eq-Decides (object_path id.0) path).0 parts.1), is_name-from id.0 size read.3)

-- an object's path gives its name
pub name_in-object_path : (name : List ℕ) → is_name name ≡ true → name_in (object_path name) ≡ Some (record { 0 = name })
unfolding encode_with
name_in-object_path [] valid = let size = is_name-length [] valid in absurd (omega (arith, size))
name_in-object_path (x ∷ xs) valid =
    let size = is_name-length (x ∷ xs) valid in
    let digits = length-encode_with lower_digits xs in
    let long : (length (object_path (x ∷ xs)) == 49) ≡ true = eq-eqb (length (object_path (x ∷ xs))) 49 (omega (arith, size, digits)) in
    let read : decode_sized (digits_in (object_path (x ∷ xs))) 20 ≡ Ok (x ∷ xs) = decode_sized-encode_lower (x ∷ xs) 20 size (is_name-bytes (x ∷ xs) valid) in
    ap (λ b. cond b (option_and_then (placed (object_path (x ∷ xs))) (result_ok (decode_sized (digits_in (object_path (x ∷ xs))) 20))) None) long
    ∙ ap (λ r. option_and_then (placed (object_path (x ∷ xs))) (result_ok r)) read
    ∙ ap (λ b. cond b (Some (record { 0 = x ∷ xs })) None) (bytes_eq_same (object_path (x ∷ xs)))

-- ---- the order of digits and of bytes

abbrev digit : ℕ → ℕ
digit d = slice_index lower_digits d

abbrev all_below : (ℕ → Bool) → ℕ → Bool
all_below test zero = true
all_below test (suc n) = test n && all_below test n

-- what holds of each number below n that was tried
all_below-at : (test : ℕ → Bool) (n k : ℕ) → all_below test n ≡ true → k < n → test k ≡ true
all_below-at test zero k h lt = absurd (omega arith)
all_below-at test (suc n) k h lt =
    let parts = and_parts (test n) (all_below test n) h in
    elim (cases_lt k n) [
      | inl below ↦ all_below-at test n k parts.1 below
      | inr top ↦ let e : k ≡ n = omega arith in rw e parts.0
    ]

digit-at : (d : ℕ) → d < 16 → digit d ≡ cond (nat_lt d 10) (48 + d) (87 + d)
digit-at d lt = eqb-true (digit d) (cond (nat_lt d 10) (48 + d) (87 + d)) (all_below-at (λ d. digit d == cond (nat_lt d 10) (48 + d) (87 + d)) 16 d refl lt)

digit-hex : (d : ℕ) → d < 16 → is_ascii_hexdigit (digit d) ≡ true
digit-hex d lt = all_below-at (λ d. is_ascii_hexdigit (digit d)) 16 d refl lt

-- what is no digit's value has no digit
digit-below : (d e : ℕ) → digit d ≡ digit e → e < 16 → d < 16
digit-below d e same lt =
    elim (cases_lt d 16) [
      | inl below ↦ below
      | inr top ↦
          absurd (let none : digit d ≡ 0 = get_or_past lower_digits d 0 top in
          let hex : is_ascii_hexdigit (digit e) ≡ true = digit-hex e lt in
          let no : is_ascii_hexdigit 0 ≡ true = subst (λ c. is_ascii_hexdigit c ≡ true) (sym same ∙ none) hex in cc no)
    ]

byte-below : (x y : ℕ) → digit (x / 16) ≡ digit (y / 16) → y < 256 → x < 256
byte-below x y same lt = let high : x / 16 < 16 = digit-below (x / 16) (y / 16) same (omega (arith, lt)) in omega (arith, high)

-- what has the digits of bytes is bytes
bytes_by_digits : (xs ys : List ℕ) → encode_lower xs ≡ encode_lower ys → IsBytes ys → IsBytes xs
unfolding encode_with
bytes_by_digits [] ys same h i = lit< tt
bytes_by_digits (x ∷ xs) [] same h i = absurd (cc same)
bytes_by_digits (x ∷ xs) (y ∷ ys) same h zero = let high : digit (x / 16) ≡ digit (y / 16) = cc in byte-below x y high (h 0)
bytes_by_digits (x ∷ xs) (y ∷ ys) same h (suc i) = let rest : encode_lower xs ≡ encode_lower ys = cc in bytes_by_digits xs ys rest (λ k. h (suc k)) i

-- what has the place of a name is that name
pub named_by_path : (q name : List ℕ) → is_name name ≡ true → object_path q ≡ object_path name → is_name q ≡ true
unfolding encode_with
named_by_path q [] valid same = absurd (let size = is_name-length [] valid in omega (arith, size))
named_by_path [] (y ∷ ys) valid same = absurd (let size = is_name-length (y ∷ ys) valid in
    let digits = length-encode_with lower_digits ys in
    let long : length (object_path []) ≡ length (object_path (y ∷ ys)) = ap length same in
    omega (arith, size, digits, long))
named_by_path (x ∷ xs) (y ∷ ys) valid same =
    let size = is_name-length (y ∷ ys) valid in
    let high : digit (x / 16) ≡ digit (y / 16) = cc in
    let rest : encode_lower xs ≡ encode_lower ys = cc in
    let bytes = is_name-bytes (y ∷ ys) valid in
    let long : length (encode_lower xs) ≡ length (encode_lower ys) = ap length rest in
    let mine = length-encode_with lower_digits xs in
    let theirs = length-encode_with lower_digits ys in
    is_name-from (x ∷ xs) (omega (arith, size, long, mine, theirs)) (at x xs (byte-below x y high (bytes 0)) (bytes_by_digits xs ys rest (λ k. bytes (suc k))))
  where
    at : (x : ℕ) (xs : List ℕ) → x < 256 → IsBytes xs → IsBytes (x ∷ xs)
    at x xs here rest zero = here
    at x xs here rest (suc i) = rest i

digits_rise : (i j : ℕ) → i < j → cond (nat_lt i 10) (48 + i) (87 + i) < cond (nat_lt j 10) (48 + j) (87 + j)
digits_rise i j lt = grind (arith, nat_tests)

digit-rises : (i j : ℕ) → i < j → j < 16 → digit i < digit j
digit-rises i j lt top = rw (digit-at i (omega arith), digit-at j top) (digits_rise i j lt)

less : (x y : ℕ) → x < y → nat_cmp x y ≡ Less
less x y h = sym (nat_cmp_is x y Less h)

equal : (x y : ℕ) → x ≡ y → nat_cmp x y ≡ Equal
equal x y h = sym (nat_cmp_is x y Equal h)

greater : (x y : ℕ) → y < x → nat_cmp x y ≡ Greater
greater x y h = sym (nat_cmp_is x y Greater h)

-- digits compare as what they stand for
nat_cmp-digit : (i j : ℕ) → i < 16 → j < 16 → nat_cmp (digit i) (digit j) ≡ nat_cmp i j
nat_cmp-digit i j p q =
    elim (cases_order i j) [
      | inl same ↦ equal (digit i) (digit j) (ap digit same) ∙ sym (equal i j same)
      | inr other ↦ elim other [
        | inl below ↦ less (digit i) (digit j) (digit-rises i j below q) ∙ sym (less i j below)
        | inr above ↦ greater (digit i) (digit j) (digit-rises j i above p) ∙ sym (greater i j above)
      ]
    ]

abbrev halves : ℕ → ℕ → Ordering → Ordering
halves x y r = ordering_then (nat_cmp (x / 16) (y / 16)) (ordering_then (nat_cmp (x % 16) (y % 16)) r)

halves_below : (x y : ℕ) (r : Ordering) → x < y → halves x y r ≡ Less
halves_below x y r h =
    elim (cases_lt (x / 16) (y / 16)) [
      | inl front ↦ ap (λ o. ordering_then o (ordering_then (nat_cmp (x % 16) (y % 16)) r)) (less (x / 16) (y / 16) front)
      | inr rest ↦
          let same : x / 16 ≡ y / 16 = omega arith in
          let back : x % 16 < y % 16 = omega arith in
          ap (λ o. ordering_then o (ordering_then (nat_cmp (x % 16) (y % 16)) r)) (equal (x / 16) (y / 16) same)
          ∙ ap (λ o. ordering_then o r) (less (x % 16) (y % 16) back)
    ]

halves_above : (x y : ℕ) (r : Ordering) → y < x → halves x y r ≡ Greater
halves_above x y r h =
    elim (cases_lt (y / 16) (x / 16)) [
      | inl front ↦ ap (λ o. ordering_then o (ordering_then (nat_cmp (x % 16) (y % 16)) r)) (greater (x / 16) (y / 16) front)
      | inr rest ↦
          let same : x / 16 ≡ y / 16 = omega arith in
          let back : y % 16 < x % 16 = omega arith in
          ap (λ o. ordering_then o (ordering_then (nat_cmp (x % 16) (y % 16)) r)) (equal (x / 16) (y / 16) same)
          ∙ ap (λ o. ordering_then o r) (greater (x % 16) (y % 16) back)
    ]

-- bytes compare as their halves do, the high one first
halves_is : (x y : ℕ) (r : Ordering) → halves x y r ≡ ordering_then (nat_cmp x y) r
halves_is x y r =
    elim (cases_order x y) [
      | inl same ↦ ap (λ o. ordering_then o (ordering_then (nat_cmp (x % 16) (y % 16)) r)) (equal (x / 16) (y / 16) (ap (λ n. n / 16) same))
          ∙ ap (λ o. ordering_then o r) (equal (x % 16) (y % 16) (ap (λ n. n % 16) same))
          ∙ sym (ap (λ o. ordering_then o r) (equal x y same))
      | inr other ↦ elim other [
        | inl below ↦ halves_below x y r below ∙ sym (ap (λ o. ordering_then o r) (less x y below))
        | inr above ↦ halves_above x y r above ∙ sym (ap (λ o. ordering_then o r) (greater x y above))
      ]
    ]

-- two digits of each side compare as the byte
pair_is : (x y : ℕ) (r : Ordering) → x < 256 → y < 256
    → ordering_then (nat_cmp (digit (x / 16)) (digit (y / 16))) (ordering_then (nat_cmp (digit (x % 16)) (digit (y % 16))) r) ≡ ordering_then (nat_cmp x y) r
pair_is x y r p q =
    let high_x : x / 16 < 16 = omega arith in
    let high_y : y / 16 < 16 = omega arith in
    let low_x : x % 16 < 16 = omega arith in
    let low_y : y % 16 < 16 = omega arith in
    ap (λ o. ordering_then o (ordering_then (nat_cmp (digit (x % 16)) (digit (y % 16))) r)) (nat_cmp-digit (x / 16) (y / 16) high_x high_y)
    ∙ ap (λ o. ordering_then (nat_cmp (x / 16) (y / 16)) (ordering_then o r)) (nat_cmp-digit (x % 16) (y % 16) low_x low_y)
    ∙ halves_is x y r

-- hex texts compare as their bytes
slice_cmp-encode_lower : (xs ys : List ℕ) → IsBytes xs → IsBytes ys → slice_cmp nat_cmp (encode_lower xs) (encode_lower ys) ≡ slice_cmp nat_cmp xs ys
unfolding encode_with
slice_cmp-encode_lower [] [] p q = refl
slice_cmp-encode_lower [] (y ∷ ys) p q = refl
slice_cmp-encode_lower (x ∷ xs) [] p q = refl
slice_cmp-encode_lower (x ∷ xs) (y ∷ ys) p q =
    pair_is x y (slice_cmp nat_cmp (encode_lower xs) (encode_lower ys)) (p 0) (q 0)
    ∙ ap (ordering_then (nat_cmp x y)) (slice_cmp-encode_lower xs ys (λ i. p (suc i)) (λ i. q (suc i)))

-- paths compare as their names
pub slice_cmp-object_path : (a b : List ℕ) → is_name a ≡ true → is_name b ≡ true → slice_cmp nat_cmp (object_path a) (object_path b) ≡ slice_cmp nat_cmp a b
unfolding encode_with
slice_cmp-object_path [] b p q = let size = is_name-length [] p in absurd (omega (arith, size))
slice_cmp-object_path (x ∷ xs) [] p q = let size = is_name-length [] q in absurd (omega (arith, size))
slice_cmp-object_path (x ∷ xs) (y ∷ ys) p q =
    let left = is_name-bytes (x ∷ xs) p in
    let right = is_name-bytes (y ∷ ys) q in
    pair_is x y (slice_cmp nat_cmp (encode_lower xs) (encode_lower ys)) (left 0) (right 0)
    ∙ ap (ordering_then (nat_cmp x y)) (slice_cmp-encode_lower xs ys (λ i. left (suc i)) (λ i. right (suc i)))

-- ---- digits that begin a name

-- a path begins with the path of some digits where its name's digits begin so
pub starts_with-object_path : (name digits : List ℕ) → is_name name ≡ true → starts_with nat_eq (object_path name) (prefix_path digits) ≡ starts_with nat_eq (encode_lower name) digits
unfolding encode_with
starts_with-object_path [] digits valid = let size = is_name-length [] valid in absurd (omega (arith, size))
starts_with-object_path (x ∷ xs) [] valid = refl
starts_with-object_path (x ∷ xs) (a ∷ []) valid = refl
starts_with-object_path (x ∷ xs) (a ∷ b ∷ rest) valid = refl

hex_digits : (xs : List ℕ) → IsBytes xs → list_all is_ascii_hexdigit (encode_lower xs) ≡ true
unfolding encode_with
hex_digits [] h = refl
hex_digits (x ∷ xs) h =
    let fits : x < 256 = h 0 in
    let high : x / 16 < 16 = omega arith in
    let low : x % 16 < 16 = omega arith in
    and_from (is_ascii_hexdigit (digit (x / 16))) _ (digit-hex (x / 16) high)
    (and_from (is_ascii_hexdigit (digit (x % 16))) _ (digit-hex (x % 16) low) (hex_digits xs (λ i. h (suc i))))

hex_by_case : (c : ℕ) → is_ascii_hexdigit (to_ascii_lowercase c) ≡ true → is_ascii_hexdigit c ≡ true
hex_by_case c h = grind (arith, nat_tests)

hex_front : (xs digits : List ℕ) → list_all is_ascii_hexdigit xs ≡ true → starts_with nat_eq xs (str_to_ascii_lowercase digits) ≡ true → list_all is_ascii_hexdigit digits ≡ true
hex_front xs [] h front = refl
hex_front [] (c ∷ cs) h front = cc front
hex_front (x ∷ xs) (c ∷ cs) h front =
    let all = and_parts (is_ascii_hexdigit x) (list_all is_ascii_hexdigit xs) h in
    let parts = and_parts (nat_eq (to_ascii_lowercase c) x) _ front in
    let same : to_ascii_lowercase c ≡ x = eqb-true (to_ascii_lowercase c) x parts.0 in
    and_from (is_ascii_hexdigit c) (list_all is_ascii_hexdigit cs)
    (hex_by_case c (ap is_ascii_hexdigit same ∙ all.0))
    (hex_front xs cs all.1 parts.1)

-- digits that begin a name are hex digits
pub has_digits-hex : (digits : List ℕ) (id : ObjectId) → is_id id ≡ true → has_digits digits id ≡ true → list_all is_ascii_hexdigit digits ≡ true
has_digits-hex digits id valid has = hex_front (encode_lower id.0) digits (hex_digits id.0 (is_name-bytes id.0 valid)) has
