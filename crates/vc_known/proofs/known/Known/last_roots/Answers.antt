use Rattle.std.proofs.Common.{◌∙◌, ◌-◌, ap, arith}
use Rattle.std.proofs.Math.ListN.{length-map}
use Rattle.vc_known.proofs.KnownLemmas.{last_roots-at}
use Rattle.vc_known.proofs.known.Known.last_roots.Goals as goal

pub returns : goal.returns
returns c =
    let lists = c.args.self.now.moments.items in
    let count = c.args.count in
    let long = length-map lists (λ roots. roots.items) in
    c.deref.ensures.value ∙ ap (λ roots. roots.items) c.index.ensures ∙ last_roots-at lists c.index.result.now count (count - 1) (omega (arith, c.if-count-eq0.false)) (omega (arith, c.if-count-eq0.false, c.requires, long))
