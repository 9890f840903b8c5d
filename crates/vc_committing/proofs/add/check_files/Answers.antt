use Rattle.std.proofs.Common.{rules, ◌≡◌, ℕ, ◌+◌, List, drop, ap, subst, ◌∙◌}
use Rattle.std.specs.Prelude.{string_bytes}
use Rattle.std.specs.FinMap.{insert}
use Rattle.vc_index.specs.IndexMap.{HasConflict, index_entry}
use Rattle.vc_index.specs.Path.{IsPath}
use Rattle.vc_files.specs.FileMap.{FileMap}
use Rattle.vc_object.specs.Object.{IsObject}
use Rattle.vc_object.specs.declared.kind.Kind.TheVariants.{Blob}
use Rattle.vc_committing.specs.Adding.{file_at, files_at}
use Rattle.vc_committing.proofs.AddLemmas.{leads_more, rest_at}
use Rattle.vc_committing.proofs.add.check_files.Goals as goal

pub loop-path-preserved : goal.loop-path-preserved
loop-path-preserved g c =
    let i = c.loop-path.invariant in
    let content = g.W.WorkTree.content in
    let work = content c.args.work.now in
    let mode = c.args.mode in
    let paths = c.args.paths.now in
    let k = c.loop-path.path-index in
    let path = c.path-item.result in
    let named = c.as_str.ensures.value in
    let e = c.in_ok-check_file.ensures in record {
      leads = λ honest.
          let put : c.check_file.new.index ≡ insert c.loop-path.index (string_bytes path) (index_entry mode _) = e.added ∙ ap (λ (p : List ℕ). insert c.loop-path.index p (index_entry mode _)) named in
          let legal : IsPath (string_bytes path) = subst IsPath named e.legal in
          let free : ¬ HasConflict c.loop-path.index (string_bytes path) = subst (λ (p : List ℕ). ¬ HasConflict c.loop-path.index p) named e.free in
          let object : IsObject Blob (file_at work mode (string_bytes path)).body =
          subst (λ (w : FileMap). IsObject Blob (file_at w mode (string_bytes path)).body) i.same (subst (λ (p : List ℕ). IsObject Blob (file_at (content c.loop-path.work) mode p).body) named (e.blob honest)) in
          leads_more c.args.index.now c.loop-path.index (files_at work mode paths) (files_at work mode (drop k paths)) (files_at work mode (drop (k + 1) paths)) (file_at work mode (string_bytes path)) (i.leads honest)
          (rest_at work mode paths k path c.loop-path-test.true c.path-item.is) c.check_file.new.index _ put legal free object;
      same = e.untouched.0 ∙ i.same;
      folders = e.untouched.1 ∙ i.folders;
      wear = search rules;
    }
