use Rattle.std.proofs.Common.{rules, ◌≡◌, true, false, take, sym, subst}
use Rattle.std.specs.Prelude.{string_bytes}
use Rattle.std.specs.FinMap as maps
use Rattle.std.proofs.lemmas.List.{take_all}
use Rattle.vc_checkout.specs.WorkTree.{KeepsNone}
use Rattle.vc_checkout.proofs.PathSetLemmas.{unkept_none, unkept_more, unkept_same, all_unkept, text_paths}
use Rattle.vc_checkout.proofs.paths.unkept_paths.Goals.{then-keeps_none+in_ok-to_vec+in_ok-insert, else-keeps_none}
use Rattle.vc_checkout.proofs.paths.unkept_paths.Goals as goal

pub loop-path-init : goal.loop-path-init
loop-path-init g c = (search rules, unkept_none c.new-found.result c.args.index.now c.deref-path-items.result.now c.new-found.ensures.empty)

pub loop-path-preserved : goal.loop-path-preserved
loop-path-preserved g c =
    let at : c.get.result ≡ maps.get c.args.index.now (string_bytes c.path-item.result) = search rules in (
      search rules,
      λ path. elim c.if-keeps_none.branch [
        | then-keeps_none+in_ok-to_vec+in_ok-insert w ↦
            let holds : c.keeps_none.result ≡ true = search rules in
            let key : w.in_ok-to_vec.field-0.items ≡ string_bytes c.path-item.result = search rules in
            rw w.found-is
            (unkept_more c.loop-path.found w.insert.new.self c.args.index.now c.deref-path-items.result.now c.loop-path.path-index c.path-item.result c.loop-path-test.true c.path-item.is (subst KeepsNone at (c.keeps_none.ensures.0 holds)) (rw (← key) w.in_ok-insert.ensures.updates) path (c.loop-path.invariant.1 path))
        | else-keeps_none w ↦
            let lacks : c.keeps_none.result ≡ false = search rules in
            rw w.found-is (unkept_same c.loop-path.found c.args.index.now c.deref-path-items.result.now c.loop-path.path-index c.path-item.result c.loop-path-test.true c.path-item.is (λ none. let holds = c.keeps_none.ensures.1 (subst KeepsNone (sym at) none) in cc (holds, lacks)) path (c.loop-path.invariant.1 path))
      ],
    )

pub returns-clause-unkept : goal.returns-clause-unkept
returns-clause-unkept g c = λ honest.
    let whole : take c.loop-path.path-index c.deref-path-items.result.now ≡ c.deref-path-items.result.now = take_all c.loop-path.path-index c.deref-path-items.result.now (search rules) in
    all_unkept c.loop-path.found c.args.index.now (g.T.WorkTree.content c.args.work.now) c.deref-path-items.result.now c.loop-path.path-index whole (search (rules, c.in_ok-listed.ensures.listed honest)) c.loop-path.invariant.1

pub returns-clause-texts : goal.returns-clause-texts
returns-clause-texts g c = λ honest. text_paths (g.T.WorkTree.content c.args.work.now) c.in_ok-listed.listed.items (c.in_ok-listed.ensures.listed honest)
