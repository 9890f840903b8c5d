use Rattle.std.proofs.Common.{◌≡◌, ◌+◌, ◌++◌, ◌∷◌, take, drop, sym, ◌∙◌, ap, arith}
use Rattle.std.proofs.lemmas.List.{take-append-drop, drop_more, take_all}
use Rattle.vc_fetch.specs.Advert.{before_nul}
use Rattle.vc_fetch.proofs.RefLines.{nul_at, no_nul}
use Rattle.vc_fetch.proofs.advert.before_nul.Goals as goal

pub returns-then-byte-eq0 : goal.returns-then-byte-eq0
returns-then-byte-eq0 c =
    let words = c.args.words.now in
    let i = c.loop-i.i in
    let e : words ≡ take i words ++ 0 ∷ drop (i + 1) words =
    sym (take-append-drop i words) ∙ ap (λ r. take i words ++ r) (drop_more words i 0 c.loop-i-test.true ∙ ap (λ b. b ∷ drop (i + 1) words) c.if-byte-eq0.true) in
    sym (ap before_nul e ∙ nul_at (take i words) (drop (i + 1) words) c.loop-i.invariant)

pub returns : goal.returns
returns c =
    let whole : take c.loop-i.i c.args.words.now ≡ c.args.words.now = take_all _ _ (omega arith) in
    sym (no_nul c.args.words.now (rw whole at c.loop-i.invariant))
