use Rattle.std.proofs.Common.{rules, ◌≡◌, ◌≢◌, Some, sym, subst}
use Rattle.vc_local.specs.declared.fault.NodeFault.{NodeFault}
use Rattle.vc_cli.specs.Failure.{status_of}
use Rattle.vc_cli.specs.declared.failure.Failure.TheVariants.{Node}
use Rattle.vc_working.specs.Begun.{begun_in}
use Rattle.vc_working.specs.Checkout.{IsOfTreeList}
use Rattle.vc_working.proofs.CheckoutLemmas.{list_blames}
use Rattle.vc_working.proofs.MendingLemmas.{cut_listed, whole_unlisted}
use Rattle.vc_working.proofs.mending.cut_tree.Goals as goal

pub returns-in-Ok-clause-cut : goal.returns-in-Ok-clause-cut
returns-in-Ok-clause-cut g c = λ honest.
    let old = g.F.Files.content c.args.files.now in
    let other = c.in-Some.other in
    let begun : Some other ≡ begun_in old = search (rules, c.in_ok-other.ensures.found honest) in
    let apart : other ≢ c.args.root.now = search rules in
    cut_listed old (g.F.Files.content c.begun.new.files) c.args.root.now other c.in-Ok.cut begun c.in_ok-other.ensures.same apart (c.in-Ok.ensures.reading honest)

pub returns-clause-cut : goal.returns-clause-cut
returns-clause-cut g c = λ honest.
    let old = g.F.Files.content c.args.files.now in
    let mid = g.F.Files.content c.begun.new.files in
    let other = c.in-Some.other in
    let begun : Some other ≡ begun_in old = search (rules, c.in_ok-other.ensures.found honest) in
    let told = list_blames g.F.Files.honest honest mid other c.in-Err.fault c.in-Err.ensures.refused (c.in-Err.ensures.first honest) in
    let refused : status_of (Node c.from.result) ≢ 3 = search rules in
    whole_unlisted old mid c.args.root.now other (Node c.from.result) begun c.in_ok-other.ensures.same (subst (λ (n : NodeFault). IsOfTreeList mid other (Node n)) (sym c.from.ensures) told) refused
