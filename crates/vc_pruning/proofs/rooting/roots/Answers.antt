use Rattle.std.proofs.Common.{rules, ◌≡◌, ◌++◌, ◌∙◌, sym, ap, subst}
use Rattle.std.specs.Prelude.{filter_map}
use Rattle.std.specs.FinMap.{entries}
use Rattle.vc_files.specs.FileMap.{FileMap}
use Rattle.vc_index.specs.IndexMap.{IndexMap}
use Rattle.vc_local.specs.IndexFile.{SpellsIndex}
use Rattle.vc_pruning.proofs.RootLemmas.{roots_exact}
use Rattle.vc_pruning.specs.Roots.{staged_in}
use Rattle.vc_pruning.proofs.rooting.roots.Goals as goal

pub returns-clause-roots : goal.returns-clause-roots
returns-clause-roots g c honest =
    let content = g.F.Files.content c.args.files.now in
    let mid = g.F.Files.content c.ref_values.new.files in
    let values = c.in_ok-ids.ids.items in
    let good = c.in_ok-ids.ensures.good honest in
    let exact = λ (m : IndexMap) (spelled : SpellsIndex content m).
    let there : SpellsIndex mid m = subst (λ (n : FileMap). SpellsIndex n m) (sym c.in_ok-ids.ensures.same) spelled in
    let index : c.in_ok-index.index ≡ m = c.in_ok-index.ensures.again honest m there in
    let all : c.push_staged.new.ids.items ≡ values ++ filter_map staged_in (entries m) = search rules ∙ ap (λ (i : IndexMap). values ++ filter_map staged_in (entries i)) index in
    roots_exact content m values c.push_staged.new.ids.items (λ id. c.in_ok-ids.ensures.values honest id) all in
    record {
      readable = record { refs = good.0; head = good.1; index = (c.in_ok-index.index, subst (λ (n : FileMap). SpellsIndex n c.in_ok-index.index) c.in_ok-ids.ensures.same (c.in_ok-index.ensures.spelled honest)) };
      exact = exact;
    }
