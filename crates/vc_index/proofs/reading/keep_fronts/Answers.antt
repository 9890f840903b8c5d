use Rattle.std.proofs.Common.{rules, ◌≡◌, ◌++◌, ◌∷◌, []}
use Rattle.vc_index.proofs.FrontLemmas.{keeps_less, no_front}
use Rattle.vc_index.proofs.reading.keep_fronts.Goals as goal

pub loop-front-preserved : goal.loop-front-preserved
loop-front-preserved c =
    let is : c.loop-front.fronts.items ≡ c.pop.new.self.items ++ c.in-Some.front.now ∷ [] = search rules in
    keeps_less c.args.fronts.now.items c.loop-front.fronts.items c.pop.new.self.items c.in-Some.front.now c.args.path.now is
    (no_front c.args.path.now c.in-Some.front.now.now c.starts_with.result (search rules) c.if-starts_with.false) c.loop-front.invariant
