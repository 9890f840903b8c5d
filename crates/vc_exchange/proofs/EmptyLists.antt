-- What a vector's own word on its emptiness tells of its items; and the first of a list are few.
use Rattle.std.proofs.Common.{arith, ◌≡◌, ◌≢◌, ◌≤◌, Bool, true, false, ◌==◌, ℕ, List, [], length, take, sym, ap, ◌∙◌, subst}
use Rattle.std.proofs.lemmas.Bool.{eqb-true, eq-eqb}
use Rattle.std.proofs.lemmas.List.{length-take, nil_from_length}
use Rattle.std.specs.Global.{Vec}
use Rattle.std.specs.Vec.{vec_len}

pub empty_items : {X : Type 0} (v : Vec X) (is_empty : Bool) → is_empty ≡ (vec_len v == 0) → is_empty ≡ true → v.items ≡ []
empty_items v is_empty told holds = let none = eqb-true (vec_len v) 0 (sym told ∙ holds) in nil_from_length v.items (omega (arith, none, v.ok.0))

pub some_items : {X : Type 0} (v : Vec X) (is_empty : Bool) → is_empty ≡ (vec_len v == 0) → is_empty ≡ false → v.items ≢ []
some_items v is_empty told fails = λ none.
    let none_long : length v.items ≡ 0 = ap length none in
    let zero : vec_len v ≡ 0 = omega (arith, none_long, v.ok.0) in
    cc (sym (eq-eqb (vec_len v) 0 zero) ∙ sym told ∙ fails)

few_taken : {X : Type 0} (n : ℕ) (xs : List X) → length (take n xs) ≤ n
few_taken n xs = omega (arith, length-take n xs)

pub few_first : {X : Type 0} (xs first : List X) → first ≡ take 256 xs → length first ≤ 256
few_first xs first is = subst (λ l. length l ≤ 256) (sym is) (few_taken 256 xs)
