use Rattle.std.proofs.Common.{rules, ◌≡◌, ℕ, List, Some, sym, ap, subst, ◌∙◌}
use Rattle.std.specs.Prelude.{Vec, option_map}
use Rattle.std.specs.FinMap.{get}
use Rattle.std.specs.Global.{Global}
use Rattle.vc_files.specs.FileMap.{FileMap}
use Rattle.vc_index.specs.IndexFault.{IsOfAdd}
use Rattle.vc_index.specs.IndexMap.{HasConflict, IndexMap}
use Rattle.vc_index.specs.Path.{IsPath}
use Rattle.vc_index.specs.declared.faults.IndexFault.{IndexFault}
use Rattle.vc_index.specs.declared.faults.IndexFault.TheVariants as index
use Rattle.vc_object.specs.ObjectFault.{BodyFault}
use Rattle.vc_object.specs.declared.kind.Kind.TheVariants.{Blob}
use Rattle.vc_object.specs.declared.mode.Mode.{Mode}
use Rattle.vc_object_map.specs.declared.faults.StoreFault.TheVariants as store
use Rattle.vc_local.specs.NodeFault.{of_index}
use Rattle.vc_committing.specs.Adding.{IsOfFile, file_at}
use Rattle.vc_cli.specs.declared.failure.Failure.TheVariants.{Node, Object}
use Rattle.vc_cli.proofs.ToldLemmas.{handed_on}
use Rattle.vc_committing.proofs.AddLemmas.{of_body}
use Rattle.vc_committing.proofs.add.check_file.Goals as goal

-- why a path is not put into the index
of_add : (m : IndexMap) (work : FileMap) (mode : Mode) (p path : List ℕ) (fault : IndexFault) → p ≡ path → IsOfAdd m p fault → IsOfFile m (file_at work mode path) (Node (of_index fault))
of_add m work mode p path index.BadPath same of = subst (λ (q : List ℕ). ¬ IsPath q) same of
of_add m work mode p path index.PathConflict same of = subst (λ (q : List ℕ). IsPath q × HasConflict m q) same of
of_add m work mode p path (index.BadIndex place) same of = absurd of
of_add m work mode p path (index.WrongEntry at) same of = absurd of
of_add m work mode p path (index.Missing id) same of = absurd of
of_add m work mode p path (index.Store (store.Fault fault)) same of = tt
of_add m work mode p path (index.Store (store.BadObject fault)) same of = absurd (cc of.1)
of_add m work mode p path (index.Store (store.Absent id)) same of = absurd (cc of.1)
of_add m work mode p path (index.Store (store.Damaged id)) same of = absurd (cc of.1)

pub returns-clause-free : goal.returns-clause-free
returns-clause-free g c = subst (λ (p : List ℕ). ¬ HasConflict c.args.index.now p) c.as_bytes.ensures.value (c.in_ok-add.ensures.free (search rules))

pub returns-in_err-add-clause-refused : goal.returns-in_err-add-clause-refused
returns-in_err-add-clause-refused g c = λ honest.
    let work = g.W.WorkTree.content c.args.work.now in
    let fault = c.in_err-add.field-0.0 in
    handed_on (IsOfFile c.args.index.now (file_at work c.args.mode c.args.path.now)) (Node (of_index fault)) c.from_residual.result (search rules)
    (of_add c.args.index.now work c.args.mode c.as_bytes.result.now c.args.path.now fault c.as_bytes.ensures.value c.in_err-add.ensures.refused)

pub returns-in_err-check-clause-refused : goal.returns-in_err-check-clause-refused
returns-in_err-check-clause-refused g c = λ honest.
    let work = g.W.WorkTree.content c.args.work.now in
    let path = c.args.path.now in
    let fault = c.in_err-check.field-0.0 in
    let there : get work path ≡ Some c.in-Some.bytes.items = sym (c.in_ok-bytes.ensures.found honest) ∙ ap (option_map (λ (b : Vec ℕ Global). b.items)) c.in-Some.is in
    let legal : IsPath path = subst IsPath c.as_bytes.ensures.value (c.in_ok-add.ensures.legal (search rules)) in
    let free : ¬ HasConflict c.args.index.now path = subst (λ (p : List ℕ). ¬ HasConflict c.args.index.now p) c.as_bytes.ensures.value (c.in_ok-add.ensures.free (search rules)) in
    let of : BodyFault Blob c.in-Some.bytes.items fault = subst (λ (b : List ℕ). BodyFault Blob b fault) c.deref.ensures.value c.in_err-check.ensures.fault in
    handed_on (IsOfFile c.args.index.now (file_at work c.args.mode path)) (Object fault) c.from_residual-in_err-check.result (search rules)
    (of_body c.args.index.now work c.args.mode path c.in-Some.bytes.items fault there legal free of)
