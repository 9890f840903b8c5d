use Rattle.std.proofs.Common.{rules, refl, ◌≡◌, ◌≢◌, ℕ, ◌+◌, List, [], ◌∷◌, ◌++◌, take, drop, sym, ap, subst, ◌∙◌}
use Rattle.std.specs.Prelude.{string_bytes}
use Rattle.std.proofs.lemmas.List.Elements.{All-push}
use Rattle.vc_files.specs.FileMap.{FileMap}
use Rattle.vc_files.specs.declared.faults.Fault.TheVariants.{Memory}
use Rattle.vc_files.proofs.WearLemmas.{writes_none}
use Rattle.vc_object.specs.Object.{IsObject}
use Rattle.vc_object.specs.declared.kind.Kind.TheVariants.{Blob}
use Rattle.vc_object.specs.declared.mode.Mode.TheVariants.{Tree}
use Rattle.vc_local.specs.Staging.{File}
use Rattle.vc_local.specs.declared.staging.Staged.{Staged}
use Rattle.vc_committing.specs.Adding.{IsNamed, IsOfStoring, StoresBlobs, StoresFiles, file_at, files_at}
use Rattle.vc_cli.specs.declared.failure.Failure.TheVariants.{Fault}
use Rattle.vc_committing.proofs.AddLemmas.{all_at, blob_at, done_at, first_all, named_more, rest_at, storing_from, stores_more, stores_none}
use Rattle.vc_cli.proofs.ToldLemmas.{handed_on}
use Rattle.vc_working.proofs.DeviceLemmas.{either_both, either_told, of_files}
use Rattle.vc_committing.proofs.add.store_files.Goals as goal

pub loop-path-init : goal.loop-path-init
loop-path-init g c = record {
  named = λ honest. search rules;
  files = search rules;
  stored = λ work_honest honest. stores_none _ _;
  up = c.requires.up;
  wear = of_files (writes_none (λ none. none));
  same = refl;
  folders = refl;
}

pub store_file-requires-clause-blob : goal.store_file-requires-clause-blob
store_file-requires-clause-blob g c = λ honest.
    let i = c.loop-path.invariant in
    let content = g.W.WorkTree.content in
    let mode = c.args.mode in
    let path = c.path-item.result in
    let at : IsObject Blob (file_at (content c.args.work.now) mode (string_bytes path)).body =
    subst (λ (p : _). IsObject Blob (file_at (content c.args.work.now) mode (string_bytes p)).body) (sym c.path-item.is) (blob_at (content c.args.work.now) mode c.args.paths.now c.loop-path.path-index path c.loop-path-test.true (c.requires.blobs honest)) in
    subst (λ (p : List ℕ). IsObject Blob (file_at (content c.loop-path.work) mode p).body) (sym c.as_str.ensures.value)
    (subst (λ (w : FileMap). IsObject Blob (file_at w mode (string_bytes path)).body) (sym i.same) at)

pub returns-in_err-file-clause-refused : goal.returns-in_err-file-clause-refused
returns-in_err-file-clause-refused g c = λ work_honest honest.
    let i = c.loop-path.invariant in
    let content = g.F.Files.content in
    let trees = g.W.WorkTree.content in
    let work = trees c.args.work.now in
    let mode = c.args.mode in
    let paths = c.args.paths.now in
    let k = c.loop-path.path-index in
    let path = c.path-item.result in
    let f = file_at work mode (string_bytes path) in
    let old = content c.args.node.now.files in
    let mid = content c.loop-path.node.files in
    let new = content c.store_file.new.node.files in
    let failure = c.in_err-file.field-0.0 in
    let here : file_at (trees c.loop-path.work) mode c.as_str.result.now ≡ f =
    ap (λ (w : FileMap). file_at w mode c.as_str.result.now) i.same ∙ ap (file_at work mode) c.as_str.ensures.value in
    let split = all_at work mode paths k ∙ ap (λ (fs : List File). files_at work mode (take k paths) ++ fs) (rest_at work mode paths k path c.loop-path-test.true c.path-item.is) in
    handed_on (IsOfStoring (files_at work mode paths) old new) failure c.from_residual.result c.from_residual.ensures.1
    (storing_from (files_at work mode (take k paths)) (files_at work mode (drop (k + 1) paths)) (files_at work mode paths) f old mid new failure split (i.stored work_honest honest).blobs
    (subst (λ (x : File). IsOfStoring (x ∷ []) mid new failure) here (c.in_err-file.ensures.refused work_honest honest)))

pub returns-in_err-push-clause-refused : goal.returns-in_err-push-clause-refused
returns-in_err-push-clause-refused g c = λ work_honest honest.
    let i = c.loop-path.invariant in
    let content = g.F.Files.content in
    let trees = g.W.WorkTree.content in
    let work = trees c.args.work.now in
    let mode = c.args.mode in
    let paths = c.args.paths.now in
    let k = c.loop-path.path-index in
    let path = c.path-item.result in
    let f = file_at work mode (string_bytes path) in
    let old = content c.args.node.now.files in
    let mid = content c.loop-path.node.files in
    let new = content c.store_file.new.node.files in
    let here : file_at (trees c.loop-path.work) mode c.as_str.result.now ≡ f =
    ap (λ (w : FileMap). file_at w mode c.as_str.result.now) i.same ∙ ap (file_at work mode) c.as_str.ensures.value in
    let split = all_at work mode paths k ∙ ap (λ (fs : List File). files_at work mode (take k paths) ++ fs) (rest_at work mode paths k path c.loop-path-test.true c.path-item.is) in
    let one : StoresBlobs (f ∷ []) mid new = subst (λ (x : File). StoresBlobs (x ∷ []) mid new) here (c.in_ok-file.ensures.stored work_honest honest).blobs in
    handed_on (IsOfStoring (files_at work mode paths) old new) (Fault Memory) c.from_residual-in_err-push.result (search rules)
    (storing_from (files_at work mode (take k paths)) (files_at work mode (drop (k + 1) paths)) (files_at work mode paths) f old mid new (Fault Memory) split (i.stored work_honest honest).blobs (first_all (f ∷ []) mid new one))

pub returns-in_err-file-clause-wear : goal.returns-in_err-file-clause-wear
returns-in_err-file-clause-wear g c = either_both c.loop-path.invariant.wear (λ none. none) (either_told c.in_err-file.ensures.wear (search rules) (search rules))

pub returns-in_err-push-clause-wear : goal.returns-in_err-push-clause-wear
returns-in_err-push-clause-wear g c = either_both c.loop-path.invariant.wear (λ none. none) (either_told c.in_ok-file.ensures.wear (search rules) (search rules))

pub returns-clause-wear : goal.returns-clause-wear
returns-clause-wear g c = either_told c.loop-path.invariant.wear (search rules) (search rules)

pub loop-path-preserved : goal.loop-path-preserved
loop-path-preserved g c =
    let i = c.loop-path.invariant in
    let e = c.in_ok-file.ensures in
    let trees = g.W.WorkTree.content in
    let content = g.F.Files.content in
    let work = trees c.args.work.now in
    let mode = c.args.mode in
    let paths = c.args.paths.now in
    let k = c.loop-path.path-index in
    let path = c.path-item.result in
    let f = file_at work mode (string_bytes path) in
    let pushed : c.push.new.self.items ≡ c.loop-path.staged.items ++ c.in_ok-file.file ∷ [] = search rules in
    let done : files_at work mode (take (k + 1) paths) ≡ files_at work mode (take k paths) ++ f ∷ [] = done_at work mode paths k path c.loop-path-test.true c.path-item.is in
    let here : file_at (trees c.loop-path.work) mode c.as_str.result.now ≡ f =
    ap (λ (w : FileMap). file_at w mode c.as_str.result.now) i.same ∙ ap (file_at work mode) c.as_str.ensures.value in record {
      named = λ honest. rw (pushed, done) (named_more c.loop-path.staged.items (files_at work mode (take k paths)) c.in_ok-file.file f (i.named honest) (subst (IsNamed c.in_ok-file.file) here (e.named honest)));
      files = rw pushed (All-push (λ (t : Staged). t.mode ≢ Tree) c.loop-path.staged.items c.in_ok-file.file i.files (λ tree. c.requires.file (sym e.mode ∙ tree)));
      stored = λ work_honest honest. rw done (stores_more (files_at work mode (take k paths)) f _ _ _ _ (content c.loop-path.node.files) _ (i.stored work_honest honest)
          (subst (λ (x : _). StoresFiles (x ∷ []) c.loop-path.node.is_up c.store_file.new.node.is_up (content c.loop-path.node.files) (content c.store_file.new.node.files)) here (e.stored work_honest honest)));
      up = e.up;
      wear = either_both i.wear (λ none. none) (either_told e.wear (search rules) (λ none. absurd none));
      same = e.untouched.0 ∙ i.same;
      folders = e.untouched.1 ∙ i.folders;
    }
