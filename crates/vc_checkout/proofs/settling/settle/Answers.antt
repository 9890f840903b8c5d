use Rattle.std.proofs.Common.{rules, ◌≡◌, [], ◌∷◌, map, ap, subst, sym}
use Rattle.vc_files.specs.FileMap.{FileMap}
use Rattle.vc_checkout.specs.Settling.{AreSettled, SettlesPath}
use Rattle.vc_checkout.specs.WorkTree.{AreApart}
use Rattle.vc_checkout.proofs.PathSetLemmas.{has_path-none}
use Rattle.vc_checkout.proofs.ClearLemmas.{elsewhere, holds_all}
use Rattle.vc_checkout.proofs.SettlingLemmas.{settled_elsewhere, settled_more, settled_none}
use Rattle.vc_checkout.proofs.settling.settle.Goals as goal

pub loop-path-init : goal.loop-path-init
loop-path-init g c =
    let keys = c.into_iter-path-iterator.ensures.into_iter_gives.0 in
    let apart = elsewhere c.into_iter-path-iterator.result c.in_ok-paths.paths c.new.result c.args.index.now c.args.tree.now keys (has_path-none c.new.result c.new.ensures.empty) c.in_ok-paths.ensures in
    record {
      can = tt;
      finite = tt;
      so_far = λ honest. settled_none c.args.index.now c.args.tree.now (g.T.WorkTree.content c.args.work.now) _ (search rules);
      done = λ honest alone. record { at = λ q lacks. let none = apart q lacks in settled_elsewhere c.args.index.now c.args.tree.now (g.T.WorkTree.content c.args.work.now) _ (search rules) q none.0 none.1 };
      same = search rules;
      holds = search rules;
      wear = search rules;
    }

pub loop-path-preserved : goal.loop-path-preserved
loop-path-preserved g c =
    let path = c.deref.result.now in
    let first : map (λ k. k.items) c.loop-path.path-iterator ≡ path ∷ map (λ k. k.items) c.next.new.self = search rules in
    record {
      can = tt;
      finite = tt;
      so_far = λ honest. subst (λ (w : FileMap). AreSettled c.args.index.now c.args.tree.now w c.settle_path.new.settled) c.loop-path.invariant.same.0.0 (c.in_ok-settle_path.ensures.so_far honest);
      done = λ honest alone. settled_more c.args.index.now c.args.tree.now (g.T.WorkTree.content c.args.work.now) path c.loop-path.settled c.settle_path.new.settled _ _ first (c.loop-path.invariant.so_far honest)
          (subst (λ (w : FileMap). SettlesPath c.args.index.now c.args.tree.now w path c.loop-path.settled c.settle_path.new.settled) c.loop-path.invariant.same.0.0 (c.in_ok-settle_path.ensures.settles honest (subst AreApart (sym c.loop-path.invariant.same.0.0) alone)))
          (c.loop-path.invariant.done honest alone);
      same = search rules;
      holds = search rules;
      wear = search rules;
    }

pub returns-clause-settled : goal.returns-clause-settled
returns-clause-settled g c = λ honest alone.
    let none : c.loop-path.path-iterator ≡ [] = search rules in
    holds_all _ _ (ap (map (λ k. k.items)) none) (c.loop-path.invariant.done honest alone)
