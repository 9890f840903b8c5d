use Rattle.std.proofs.Common.{◌≡◌, arith}
use Rattle.std.proofs.Math.ListN.{length-map}
use Rattle.vc_known.proofs.ReachOfLemmas.{IsReachOf-last}
use Rattle.vc_known.specs.Known.{count_in}
use Rattle.vc_known.proofs.known.Known.reach_of_last.Goals as goal

pub returns : goal.returns
returns c objects agrees =
    let known = c.args.self.now in
    let all : c.len.result ≡ count_in known = omega (arith, c.len.ensures, length-map known.moments.items (λ roots. roots.items)) in
    IsReachOf-last objects _ agrees all c.new.ensures.empty
