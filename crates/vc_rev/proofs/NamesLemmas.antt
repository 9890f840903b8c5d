-- Names and the digits that begin them.
use Rattle.std.proofs.Common.{◌≡◌, ◌≢◌, ◌↔◌, ◌≤◌, ◌<◌, ℕ, Vec, Global, map, drop, get_or, inl, List, [], ◌∷◌, ◌++◌, true, false, nat_lt, length, Contains, Option, Some, None, Ok, Bool, cond, ◌&&◌, ◌==◌, true≢false, codes, IfSome, IsSome, option_map, ⊎_elim, refl, sym, ap, subst, ◌∙◌, arith}
use Rattle.hex.specs.Hex.{decode_of, is_hex_digit}
use Rattle.std.specs.List.{AllPass, list_all}
use Rattle.std.specs.Result.{result_ok}
use Rattle.std.proofs.lemmas.List.Sums.{AllPass-from_list_all, list_all-from_AllPass}
use Rattle.std.specs.List.Sorted.{IsStrictlySortedBy}
use Rattle.std.specs.Ordering.{ordering_reverse}
use Rattle.std.specs.declared.cmp.Ordering.TheVariants.{Less, Greater}
use Rattle.std.proofs.lemmas.Bool.Decides.{nat_tests}
use Rattle.std.proofs.lemmas.List.Elements.{Contains-push_cases}
use Rattle.vc_object.proofs.IdLemmas.{id_cmp_total}
use Rattle.vc_object.specs.ObjectId.{id_cmp, IsSortedByName}
use Rattle.vc_object.specs.declared.id.ObjectId.{ObjectId}
use Rattle.std.proofs.lemmas.List.{drop_more}
use Rattle.std.proofs.lemmas.Bool.{and_parts}
use Rattle.vc_rev.specs.Answer.{IsTold, IsNoAnswer}
use Rattle.vc_rev.specs.Asking.{FirstValueAsks, RefAsks}
use Rattle.vc_rev.specs.Question.{Question}
use Rattle.vc_rev.specs.declared.refusal.RevFault.{RevFault}
use Rattle.vc_rev.specs.declared.refusal.SourceFault.{SourceFault}
use Rattle.vc_rev.proofs.AnswerLemmas.{told_same}
use Rattle.vc_rev.specs.Meaning.{Answer, Begins, PrefixGives, DigitsGive, id_of, is_prefix, places, the_one}
use Rattle.vc_rev.specs.Source.{Source}

less_differs : (x y : ObjectId) → id_cmp x y ≡ Less → x ≢ y
less_differs x y l e =
    let h : id_cmp x x ≡ Less = subst (λ (z : ObjectId). id_cmp x z ≡ Less) (sym e) l in
    let a : Less ≡ Greater = sym h ∙ id_cmp_total.antisymm x x ∙ ap ordering_reverse h in
    cc a

pub one_is : (x other : ObjectId) → Contains (x ∷ []) other → other ≡ x
one_is x other h = sym (⊎_elim (λ none. absurd (omega (arith, none.1))) (λ e. e) (Contains-push_cases [] x other h))

-- of the sorted names that begin so, none, one or several
one_gives : (s : Source) (digits : List ℕ) (ids : List ObjectId) → ((id : ObjectId) → Contains ids id ↔ Begins s digits id) → IsSortedByName ids → PrefixGives s digits (the_one ids)
unfolding IsStrictlySortedBy
one_gives s digits [] c h = λ other b. let at = (c other).1 b in absurd (omega (arith, at.1))
one_gives s digits (x ∷ []) c h = ((c x).0 (0, omega arith, refl), λ other b. one_is x other ((c other).1 b))
one_gives s digits (x ∷ y ∷ others) c h = (x, y, (c x).0 (0, omega arith, refl), (c y).0 (1, omega arith, refl), less_differs x y h.0.0)

pub digits_gives : (s : Source) (name : List ℕ) (ids : List ObjectId) (answer : Answer) → is_prefix name ≡ true → 4 ≤ length name → ((id : ObjectId) → Contains ids id ↔ Begins s name id) → IsSortedByName ids → answer ≡ the_one ids → DigitsGive s name answer
digits_gives s name ids answer p l c h e =
    let long : nat_lt (length name) 4 ≡ false = grind (arith, nat_tests, l) in
    rw (p, long) (subst (λ (a : Answer). PrefixGives s name a) (sym e) (one_gives s name ids c h))

-- the names that were put together are the places of the name
pub places_same : (name a b c d e f : List ℕ) → a ≡ name → b ≡ codes "refs/" ++ name → c ≡ codes "refs/tags/" ++ name → d ≡ codes "refs/heads/" ++ name → e ≡ codes "refs/remotes/" ++ name → f ≡ codes "refs/remotes/" ++ (name ++ codes "/HEAD") → a ∷ b ∷ c ∷ d ∷ e ∷ f ∷ [] ≡ places name
places_same name a b c d e f h i j k l m =
    let last : f ∷ [] ≡ (codes "refs/remotes/" ++ (name ++ codes "/HEAD")) ∷ [] = ap (λ t. t ∷ []) m in
    two h (two i (two j (two k (two l last))))
  where
    two : {x y : List ℕ} {xs ys : List (List ℕ)} → x ≡ y → xs ≡ ys → x ∷ xs ≡ y ∷ ys
    two {x} {y} {xs} {ys} p q = ap (λ z. z ∷ xs) p ∙ ap (λ zs. y ∷ zs) q

-- what a name tells is told of all names
pub names_told : (s : Source) (Blames : Question → SourceFault → Type 0) (xs : List (Vec ℕ Global)) (i : ℕ) (d : Vec ℕ Global) (e : RevFault) → i < length xs → ((question : Question) → FirstValueAsks s (map (λ (v : Vec ℕ Global). v.items) (drop i xs)) question → FirstValueAsks s (map (λ (v : Vec ℕ Global). v.items) xs) question)
    → IsTold Blames (RefAsks (get_or xs i d).items) IsNoAnswer e → IsTold Blames (FirstValueAsks s (map (λ (v : Vec ℕ Global). v.items) xs)) IsNoAnswer e
names_told s Blames xs i d e lt asked t =
    told_same Blames (RefAsks (get_or xs i d).items) (FirstValueAsks s (map (λ (v : Vec ℕ Global). v.items) xs)) IsNoAnswer IsNoAnswer e
    (λ question h. asked question (subst (λ (ts : List (Vec ℕ Global)). FirstValueAsks s (map (λ (v : Vec ℕ Global). v.items) ts) question) (sym (drop_more xs i d lt)) (inl h)))
    (λ r h. h) t

-- forty digits are read as the id that they write
pub id_read : (text : List ℕ) (r : Option ObjectId) → IfSome r (λ id. decode_of text ≡ Ok id.0) → IsSome r ↔ ((length text ≡ 40) × AllPass is_hex_digit text) → r ≡ id_of text
id_read text (Some id) value found =
    let both = found.0 refl in
    let long : (length text == 40) ≡ true = let l = both.0 in grind (arith, nat_tests, l) in
    let all : list_all is_hex_digit text ≡ true = list_all-from_AllPass is_hex_digit text both.1 in
    rw (long, all, value) refl
id_read text None value found = at_test ((length text == 40) && list_all is_hex_digit text) refl
  where
    at_test : (b : Bool) → ((length text == 40) && list_all is_hex_digit text) ≡ b → ◌≡◌ {A = Option ObjectId} None (cond b (option_map (λ (bytes : List ℕ). let id : ObjectId = record { 0 = bytes } in id) (result_ok (decode_of text))) None)
    at_test true h =
        let both = and_parts (length text == 40) (list_all is_hex_digit text) h in
        let long : length text ≡ 40 = let t = both.0 in grind (arith, nat_tests, t) in
        let none = found.1 (long, AllPass-from_list_all is_hex_digit text both.1) in
        absurd (true≢false (sym none))
    at_test false h = refl
