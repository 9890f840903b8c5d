use Rattle.std.proofs.Common.{rules, ◌≡◌, ◌≢◌, false, Some, IsTrue}
use Rattle.std.specs.Prelude.{option_map}
use Rattle.std.specs.FinMap.{get}
use Rattle.vc_object.specs.declared.mode.Mode.TheVariants as modes
use Rattle.vc_checkout.specs.WorkTree.{has_path}
use Rattle.vc_work_tree.specs.Paths.{blob_name}
use Rattle.vc_checkout.proofs.HindranceLemmas.{hindered_there, hindered_at, not_wanted_of, wanted_of}
use Rattle.vc_checkout.proofs.hindrance.is_hindered.Goals as goal

pub returns-then-eq-clause-hindered : goal.returns-then-eq-clause-hindered
returns-then-eq-clause-hindered g c = λ honest. hindered_there c.args.others.now (g.T.WorkTree.content c.args.work.now) c.args.path.now c.args.entry (search rules) (search rules)

pub returns-clause-hindered : goal.returns-clause-hindered
returns-clause-hindered g c = λ honest.
    let file = get (g.T.WorkTree.content c.args.work.now) c.args.path.now in
    let no_above : c.has_above.result ≡ false = search rules in
    let no_below : c.in_ok-has_below.field-0 ≡ false = search rules in
    let there : IsTrue (has_path c.args.others.now c.args.path.now) = search rules in
    let mode : c.args.entry.mode ≢ modes.Commit = search rules in
    let name : Some c.in-Some.name ≡ option_map blob_name file = search (rules, c.in_ok-name.ensures.name honest) in
    let apart : IsTrue c.ne.result → c.in-Some.name ≢ c.args.entry.id = search rules in
    let differs : c.in-Some.name ≢ c.args.entry.id → IsTrue c.ne.result = search rules in
    hindered_at c.args.others.now (g.T.WorkTree.content c.args.work.now) c.args.path.now c.args.entry
    c.has_above.result c.in_ok-has_below.field-0 c.has_above.ensures no_above c.in_ok-has_below.ensures no_below c.ne.result
    (λ t. (there, not_wanted_of c.args.entry file c.in-Some.name c.ne.result name apart t)) (λ _ bad. wanted_of c.args.entry file c.in-Some.name c.ne.result mode name differs bad)
