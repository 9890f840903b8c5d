use Rattle.std.proofs.Common.{rules, ◌≡◌, ◌⊎◌, [], ◌∷◌, map, refl, ap, subst, inl, inr}
use Rattle.std.specs.FinMap.{get}
use Rattle.vc_files.specs.FileMap.{FileMap}
use Rattle.vc_object_map.specs.Store.{objects}
use Rattle.vc_index.specs.declared.faults.IndexFault.{IndexFault}
use Rattle.vc_checkout.specs.Blobs.{BlamesBlobs, BlamesDue, HasDueBlob}
use Rattle.vc_checkout.specs.CheckoutFault.{IsFault}
use Rattle.vc_checkout.specs.declared.faults.CheckoutFault.{CheckoutFault}
use Rattle.vc_checkout.specs.declared.faults.CheckoutFault.TheVariants.{Index}
use Rattle.vc_checkout.proofs.ApplyLemmas.{no_entry}
use Rattle.vc_checkout.proofs.BlobLemmas.{first_blamed, no_due, paths_rise}
use Rattle.vc_checkout.proofs.ClearLemmas.{holds_all, holds_more, if_err, rest_of}
use Rattle.vc_checkout.proofs.blobs.check_blobs.Goals as goal

pub loop-path-init : goal.loop-path-init
loop-path-init g c =
    let all = objects (g.F.Files.content c.args.files.now) in
    record {
      old = search rules;
      new = search rules;
      sorted = paths_rise c.into_iter-path-iterator.result c.args.tree.now (search rules);
      blobs = λ _. record { at = λ q lacks. no_due all (get c.args.index.now q) (get c.args.tree.now q) (no_entry c.into_iter-path-iterator.result c.args.tree.now (search rules) q lacks) };
      same = refl;
      wear = search rules;
    }

pub loop-path-preserved : goal.loop-path-preserved
loop-path-preserved g c =
    let path = c.deref.result.now in
    let first : map (λ e. e.0.items) c.loop-path.path-iterator ≡ path ∷ map (λ e. e.0.items) c.next.new.self = search rules in
    record {
      old = search rules;
      new = search rules;
      sorted = rest_of _ _ path first c.loop-path.invariant.sorted;
      blobs = λ honest. holds_more (λ q. HasDueBlob (objects (g.F.Files.content c.args.files.now)) (get c.args.index.now q) (get c.args.tree.now q)) _ _ path first (subst (λ (f : FileMap). HasDueBlob (objects f) (get c.args.index.now path) (get c.args.tree.now path)) c.loop-path.invariant.same (rw (← c.loop-path.invariant.old, ← c.loop-path.invariant.new) (c.in_ok-check_due.ensures.blob honest))) (c.loop-path.invariant.blobs honest);
      same = search rules;
      wear = search rules;
    }

pub returns-in_err-check_due-clause-refused : goal.returns-in_err-check_due-clause-refused
returns-in_err-check_due-clause-refused g c = λ honest.
    let index = c.args.index.now in
    let tree = c.args.tree.now in
    let content = g.F.Files.content c.args.files.now in
    let path = c.deref.result.now in
    let e = c.in_err-check_due.field-0.0 in
    let first : map (λ e. e.0.items) c.loop-path.path-iterator ≡ path ∷ map (λ e. e.0.items) c.next.new.self = search rules in
    let told = subst (λ (f : FileMap). IsFault e ⊎ ((cause : IndexFault) × (e ≡ Index cause) × BlamesDue f (get index path) (get tree path) path cause)) c.loop-path.invariant.same (rw (← c.loop-path.invariant.old, ← c.loop-path.invariant.new) (c.in_err-check_due.ensures.refused honest)) in
    let answer : IsFault e ⊎ ((cause : IndexFault) × (e ≡ Index cause) × BlamesBlobs content index tree cause) = elim told [
      | inl fault ↦ inl fault
      | inr at ↦ inr (at.0, at.1, first_blamed content index tree _ _ path at.0 first c.loop-path.invariant.sorted (c.loop-path.invariant.blobs honest) at.2)
    ] in
    if_err c.from_residual.result e (λ (e : CheckoutFault). IsFault e ⊎ ((cause : IndexFault) × (e ≡ Index cause) × BlamesBlobs content index tree cause)) (search rules) answer

pub returns-clause-blobs : goal.returns-clause-blobs
returns-clause-blobs g c = λ honest.
    let none : c.loop-path.path-iterator ≡ [] = search rules in
    holds_all (λ q. HasDueBlob (objects (g.F.Files.content c.args.files.now)) (get c.args.index.now q) (get c.args.tree.now q)) _ (ap (map (λ e. e.0.items)) none) (c.loop-path.invariant.blobs honest)
