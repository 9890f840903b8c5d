use Rattle.std.proofs.Common.{rules}
use Rattle.vc_working.specs.Checkout.{IsCut}
use Rattle.vc_working.proofs.mending.start_index.Goals as goal

pub returns-clause-starts : goal.returns-clause-starts
returns-clause-starts g c = λ honest.
    let cut : IsCut (g.F.Files.content c.args.files.now) c.args.root.now c.in-Some.cut = search (rules, c.in_ok-cut.ensures.cut honest) in
    (c.in-Some.cut, cut, λ work_honest apart. c.in_ok-start.ensures.settled work_honest apart)
