-- Texts and their final LF.
use Rattle.std.proofs.Common.{◌≡◌, ℕ, ◌-◌, ◌==◌, cond, true, List, [], ◌∷◌, ◌++◌, length, take, get_or, refl, ap, ◌∙◌, arith, length-append}
use Rattle.std.proofs.lemmas.List.{take_at}
use Rattle.std.proofs.lemmas.Bool.{eq-eqb}
use Rattle.vc_pkt.specs.TextLine.{without_lf}

last_is : (ws : List ℕ) → get_or (ws ++ 10 ∷ []) (length ws) 0 ≡ 10
last_is [] = refl
last_is (w ∷ ws) = last_is ws

-- a text with its LF
pub with_lf : (ws : List ℕ) → without_lf (ws ++ 10 ∷ []) ≡ ws
with_lf ws =
    let len : length (ws ++ 10 ∷ []) - 1 ≡ length ws = let l = length-append ws (10 ∷ []) in omega arith in
    let last : get_or (ws ++ 10 ∷ []) (length (ws ++ 10 ∷ []) - 1) 0 ≡ 10 = ap (λ n. get_or (ws ++ 10 ∷ []) n 0) len ∙ last_is ws in
    let test : (get_or (ws ++ 10 ∷ []) (length (ws ++ 10 ∷ []) - 1) 0 == 10) ≡ true = eq-eqb _ 10 last in
    ap (λ b. cond b (take (length (ws ++ 10 ∷ []) - 1) (ws ++ 10 ∷ [])) (ws ++ 10 ∷ [])) test ∙ ap (λ n. take n (ws ++ 10 ∷ [])) len ∙ take_at ws (10 ∷ []) (length ws) refl
