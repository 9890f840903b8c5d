use Rattle.std.proofs.Common.{rules, ◌≡◌, true, false, take}
use Rattle.std.specs.Prelude.{is_some, string_bytes}
use Rattle.std.specs.FinMap as maps
use Rattle.std.proofs.lemmas.List.{take_all}
use Rattle.vc_checkout.proofs.PathSetLemmas.{found_more, found_same, all_found, text_paths}
use Rattle.vc_checkout.proofs.paths.untracked_paths.Goals.{then-is_none+in_ok-to_vec+in_ok-insert, else-is_none}
use Rattle.vc_checkout.proofs.paths.untracked_paths.Goals as goal

pub loop-path-preserved : goal.loop-path-preserved
loop-path-preserved g c = (
  search rules,
  λ path. elim c.if-is_none.branch [
    | then-is_none+in_ok-to_vec+in_ok-insert w ↦
        let lacks : is_some (maps.get c.args.index.now (string_bytes c.path-item.result)) ≡ false = search rules in
        let key : w.in_ok-to_vec.field-0.items ≡ string_bytes c.path-item.result = search rules in
        rw w.found-is
        (found_more c.loop-path.found w.insert.new.self c.args.index.now c.deref-path-items.result.now c.loop-path.path-index c.path-item.result c.loop-path-test.true c.path-item.is lacks (rw (← key) w.in_ok-insert.ensures.updates) path (c.loop-path.invariant.1 path))
    | else-is_none w ↦
        let has : is_some (maps.get c.args.index.now (string_bytes c.path-item.result)) ≡ true = search rules in
        rw w.found-is (found_same c.loop-path.found c.args.index.now c.deref-path-items.result.now c.loop-path.path-index c.path-item.result c.loop-path-test.true c.path-item.is has path (c.loop-path.invariant.1 path))
  ],
)

pub returns-clause-untracked : goal.returns-clause-untracked
returns-clause-untracked g c = λ honest.
    let whole : take c.loop-path.path-index c.deref-path-items.result.now ≡ c.deref-path-items.result.now = take_all c.loop-path.path-index c.deref-path-items.result.now (search rules) in
    all_found c.loop-path.found c.args.index.now (g.T.WorkTree.content c.args.work.now) c.deref-path-items.result.now c.loop-path.path-index whole (search (rules, c.in_ok-listed.ensures.listed honest)) c.loop-path.invariant.1

pub returns-clause-texts : goal.returns-clause-texts
returns-clause-texts g c = λ honest. text_paths (g.T.WorkTree.content c.args.work.now) c.in_ok-listed.listed.items (c.in_ok-listed.ensures.listed honest)
