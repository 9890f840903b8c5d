use Rattle.std.proofs.Common.{◌≡◌, ◌+◌, ◌-◌, ◌++◌, ◌∷◌, None, take, drop, sym, ◌∙◌, ap, arith}
use Rattle.std.proofs.lemmas.List.{take-append-drop, drop_more, take_rest}
use Rattle.vc_script.specs.Words.{cut_last}
use Rattle.vc_script.proofs.ListLemmas.{cut_last-at}
use Rattle.vc_script.proofs.items.cut_last.Goals as goal

pub returns-then-word-place-eq58 : goal.returns-then-word-place-eq58
returns-then-word-place-eq58 c =
    let word = c.args.word.now in
    let i = c.loop-place.place - 1 in
    let place : i + 1 ≡ c.loop-place.place = omega (arith, c.loop-place-test.true) in
    let none : cut_last 58 (drop (i + 1) word) ≡ None = rw place c.loop-place.invariant.none in
    let e : word ≡ take i word ++ 58 ∷ drop (i + 1) word =
    sym (take-append-drop i word) ∙ ap (λ r. take i word ++ r) (drop_more word i 0 (omega (arith, place, c.loop-place.invariant.within)) ∙ ap (λ b. b ∷ drop (i + 1) word) c.if-word-place-eq58.true) in
    rw (take_rest word (i + 1)) (sym (ap (cut_last 58) e ∙ cut_last-at 58 _ _ none))
