use Rattle.std.proofs.Common.{◌≡◌, ◌↔◌, Contains, Err, inl, inr, rules}
use Rattle.vc_files.specs.declared.faults.Fault.TheVariants.{Memory}
use Rattle.vc_local.specs.declared.fault.NodeFault.TheVariants.{Store}
use Rattle.vc_object.specs.declared.id.ObjectId.{ObjectId}
use Rattle.vc_object_map.specs.declared.faults.StoreFault.TheVariants as store
use Rattle.vc_pruning.proofs.PruningLemmas.{blames_needed}
use Rattle.vc_pruning.proofs.UnionLemmas.{added_first}
use Rattle.vc_shared.proofs.AddingLemmas.{keeps_needed}
use Rattle.vc_shared.proofs.pruning.needed_names.Goals as goal
use Rattle.vc_shared.specs.Pruning.{BlamesNeeds}

pub returns-clause-needed : goal.returns-clause-needed
returns-clause-needed g c = λ honest.
    let rooted = c.in_ok-rooted.rooted.items in
    let made : (id : ObjectId) → Contains c.add_names.new.set.keys id ↔ Contains rooted id =
    added_first _ _ _ _ c.new-kept.ensures.empty c.deref.ensures.value c.in_ok-add_names.ensures.added in
    keeps_needed (g.F.Files.content c.args.files.now) c.args.slots.now rooted c.add_names.new.set.keys c.add_by_slots.new.kept.keys c.in_ok-names.names.items (c.in_ok-rooted.ensures.needed honest) made
    (rw c.in_ok-rooted.ensures.same at (c.in_ok-add_by_slots.ensures.added honest)) c.in_ok-names.ensures.later

pub returns-in_err-rooted-clause-refused : goal.returns-in_err-rooted-clause-refused
returns-in_err-rooted-clause-refused g c = λ honest.
    let e = c.in_err-rooted.field-0.0 in
    let told : BlamesNeeds (g.F.Files.content c.args.files.now) c.args.slots.now e = inl (blames_needed _ _ (c.in_err-rooted.ensures.refused honest)) in
    let is : c.from_residual.result ≡ Err e = search rules in
    rw is told

pub returns-in_err-add_names-clause-refused : goal.returns-in_err-add_names-clause-refused
returns-in_err-add_names-clause-refused g c = λ honest.
    let is : c.from_residual-in_err-add_names.result ≡ Err (Store (store.Fault Memory)) = search rules in
    rw is (inl tt)

pub returns-in_err-add_by_slots-clause-refused : goal.returns-in_err-add_by_slots-clause-refused
returns-in_err-add_by_slots-clause-refused g c = λ honest.
    let e = c.in_err-add_by_slots.field-0.0 in
    let told : BlamesNeeds (g.F.Files.content c.args.files.now) c.args.slots.now e = inr (rw c.in_ok-rooted.ensures.same at (c.in_err-add_by_slots.ensures.refused honest)) in
    let is : c.from_residual-in_err-add_by_slots.result ≡ Err e = search rules in
    rw is told

pub returns-in_err-names-clause-refused : goal.returns-in_err-names-clause-refused
returns-in_err-names-clause-refused g c = λ honest.
    let is : c.from_residual-in_err-names.result ≡ Err (Store (store.Fault Memory)) = search rules in
    rw is (inl tt)
