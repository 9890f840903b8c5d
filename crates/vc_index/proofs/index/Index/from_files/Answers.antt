use Rattle.std.proofs.Common.{rules, ◌≡◌, None, Some, ap, sym, ◌∙◌, subst}
use Rattle.std.specs.BTreeMap.{IsFromIterResult}
use Rattle.std.specs.Cmp.Lexicographic.{slice_cmp}
use Rattle.std.specs.FinMap as paths
use Rattle.std.specs.Ordering.{nat_cmp}
use Rattle.vc_index.specs.IndexMap.{IsFile, IsIndex, IndexMap}
use Rattle.vc_index.specs.Reading.{pairs}
use Rattle.vc_index.proofs.CollectLemmas.{each_in, index_of-put}
use Rattle.vc_index.proofs.MapLemmas.{key_cmp}
use Rattle.vc_index.proofs.index.Index.from_files.Goals as goal

pub are_apart-requires : goal.are_apart-requires
are_apart-requires c = λ path entry at.
    let made : IsFromIterResult key_cmp c.args.files.items c.in_ok-map.map = search rules in
    each_in IsFile (pairs c.args.files.items) paths.empty c.requires (λ q v is. absurd (let z : None ≡ Some v = sym (paths.get-empty (slice_cmp nat_cmp) q) ∙ is in cc z)) path entry
    (ap (λ m. paths.get m path) (sym (index_of-put c.args.files.items c.in_ok-map.map made)) ∙ at)

pub returns-then-not-branch-clause-refused : goal.returns-then-not-branch-clause-refused
returns-then-not-branch-clause-refused c = λ sound.
    let made : IsFromIterResult key_cmp c.args.files.items c.in_ok-map.map = search rules in
    let yes = c.in_ok-are_apart.ensures.1 (subst (λ (m : IndexMap). IsIndex m) (sym (index_of-put c.args.files.items c.in_ok-map.map made)) sound) in
    cc (yes, c.if-not-branch.true)

pub returns-clause-ok : goal.returns-clause-ok
returns-clause-ok c =
    let made : IsFromIterResult key_cmp c.args.files.items c.in_ok-map.map = search rules in
    index_of-put c.args.files.items c.in_ok-map.map made
