use Rattle.std.proofs.Common.{rules, ◌≡◌, ℕ, List, [], ◌∷◌, Option, Some, refl, sym, ap, ◌∙◌}
use Rattle.std.specs.Prelude.{Vec, option_map, unwrap_or}
use Rattle.std.specs.FinMap.{get}
use Rattle.std.specs.Global.{Global}
use Rattle.vc_files.specs.FileMap.{FileMap}
use Rattle.vc_files.specs.declared.faults.Fault.TheVariants.{Memory}
use Rattle.vc_model.specs.Clone.Task.{Write}
use Rattle.vc_model.specs.Node.Answer.{Did}
use Rattle.vc_model.specs.Node.Reply.{Made}
use Rattle.vc_model.specs.Object.{blob}
use Rattle.vc_local.specs.Machine.{AnswersShown}
use Rattle.vc_local.specs.Shown.{shown}
use Rattle.vc_committing.specs.Adding.{IsOfStoring, file_at}
use Rattle.vc_cli.specs.declared.failure.Failure.TheVariants.{Fault, Node}
use Rattle.vc_committing.proofs.AddLemmas.{blobs_one, first_all, first_none, stores_one, write_refused}
use Rattle.vc_cli.proofs.ToldLemmas.{handed_on}
use Rattle.vc_working.proofs.DeviceLemmas.{either_both, either_told, of_files, of_work}
use Rattle.vc_committing.proofs.StepLemmas.{none_told}
use Rattle.vc_committing.proofs.add.store_file.Goals as goal

-- the bytes that were read are the file's
body_is : (work : FileMap) (mode : _) (path : List ℕ) (bytes : Vec ℕ Global) (found : Option (Vec ℕ Global)) (now : List ℕ) → found ≡ Some bytes → option_map (λ (b : Vec ℕ Global). b.items) found ≡ get work path → now ≡ bytes.items → now ≡ (file_at work mode path).body
body_is work mode path bytes found now some read is =
    let there : get work path ≡ Some bytes.items = sym read ∙ ap (option_map (λ (b : Vec ℕ Global). b.items)) some in
    is ∙ sym (ap (λ (o : Option (List ℕ)). unwrap_or o []) there)

pub returns-in_err-bytes-clause-refused : goal.returns-in_err-bytes-clause-refused
returns-in_err-bytes-clause-refused g c = λ work_honest honest.
    let old = g.F.Files.content c.args.node.now.files in
    let fs = file_at (g.W.WorkTree.content c.args.work.now) c.args.mode c.args.path.now ∷ [] in
    handed_on (IsOfStoring fs old old) (Fault c.in_err-bytes.field-0.0) c.from_residual.result c.from_residual.ensures.1 (first_none fs old old refl)

pub returns-in_err-id-clause-refused : goal.returns-in_err-id-clause-refused
returns-in_err-id-clause-refused g c = λ work_honest honest.
    let content = g.F.Files.content in
    let old = content c.args.node.now.files in
    let new = content c.write.new.self.files in
    let work = g.W.WorkTree.content c.args.work.now in
    let f = file_at work c.args.mode c.args.path.now in
    let fault = c.in_err-id.field-0.0 in
    let body = body_is work c.args.mode c.args.path.now c.in-Some.bytes _ c.deref.result.now c.in-Some.is (c.in_ok-bytes.ensures.found work_honest) c.deref.ensures.value in
    handed_on (IsOfStoring (f ∷ []) old new) (Node fault) c.from_residual-in_err-id.result c.from_residual-in_err-id.ensures.1
    (write_refused f c.deref.result.now old new fault body (c.requires.blob work_honest) (c.in_err-id.ensures.refused honest c.requires.up) c.in_err-id.ensures.file (c.in_err-id.ensures.kept honest).err)

pub returns-in_err-path-clause-refused : goal.returns-in_err-path-clause-refused
returns-in_err-path-clause-refused g c = λ work_honest honest.
    let content = g.F.Files.content in
    let old = content c.args.node.now.files in
    let new = content c.write.new.self.files in
    let work = g.W.WorkTree.content c.args.work.now in
    let f = file_at work c.args.mode c.args.path.now in
    let body = body_is work c.args.mode c.args.path.now c.in-Some.bytes _ c.deref.result.now c.in-Some.is (c.in_ok-bytes.ensures.found work_honest) c.deref.ensures.value in
    handed_on (IsOfStoring (f ∷ []) old new) (Fault Memory) c.from_residual-in_err-path.result c.from_residual-in_err-path.ensures.1
    (first_all (f ∷ []) old new (blobs_one f c.deref.result.now c.in_ok-id.id old new body c.in_ok-id.ensures.name (c.in_ok-id.ensures.kept honest)))

pub returns-clause-stored : goal.returns-clause-stored
returns-clause-stored g c = λ work_honest honest.
    let work = g.W.WorkTree.content c.args.work.now in
    let f = file_at work c.args.mode c.args.path.now in
    let body = body_is work c.args.mode c.args.path.now c.in-Some.bytes _ c.deref.result.now c.in-Some.is (c.in_ok-bytes.ensures.found work_honest) c.deref.ensures.value in
    let content = g.F.Files.content in
    let old = content c.args.node.now.files in
    let new = content c.write.new.self.files in
    let was = c.args.node.now.is_up in
    let is = c.write.new.self.is_up in
    let answers : AnswersShown (Write (blob c.deref.result.now)) (Did (Made c.in_ok-id.id.0)) was is (shown old) (shown new) = none_told old c.in_ok-id.id (c.in_ok-id.ensures.answers honest).any in
    stores_one f c.deref.result.now c.in_ok-id.id was is old new body c.in_ok-id.ensures.name answers (c.in_ok-id.ensures.kept honest)

pub returns-in_err-bytes-clause-wear : goal.returns-in_err-bytes-clause-wear
returns-in_err-bytes-clause-wear g c = either_told (of_work c.in_err-bytes.ensures.wear) (search rules) (search rules)

pub returns-in_err-id-clause-wear : goal.returns-in_err-id-clause-wear
returns-in_err-id-clause-wear g c = either_both (of_work c.in_ok-bytes.ensures.wear) (search rules) (either_told (of_files c.in_err-id.ensures.wear) (search rules) (search rules))

pub returns-in_err-path-clause-wear : goal.returns-in_err-path-clause-wear
returns-in_err-path-clause-wear g c = either_both (of_work c.in_ok-bytes.ensures.wear) (search rules) (either_told (of_files c.in_ok-id.ensures.wear) (search rules) (search rules))

pub returns-clause-wear : goal.returns-clause-wear
returns-clause-wear g c = either_both (of_work c.in_ok-bytes.ensures.wear) (search rules) (either_told (of_files c.in_ok-id.ensures.wear) (search rules) (search rules))

pub returns-in_default-clause-wear : goal.returns-in_default-clause-wear
returns-in_default-clause-wear g c = either_told (of_work c.in_ok-bytes.ensures.wear) (search rules) (search rules)
