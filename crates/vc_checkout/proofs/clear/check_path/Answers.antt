use Rattle.std.proofs.Common.{rules, ◌≡◌, ◌≢◌, ◌↔◌, Option, Some, IsTrue, inr, subst}
use Rattle.std.specs.Prelude.{IsSome, IsUtf8}
use Rattle.std.specs.FinMap.{get}
use Rattle.vc_files.specs.FileMap.{FileMap}
use Rattle.vc_index.specs.declared.entry.IndexEntry.{IndexEntry}
use Rattle.vc_checkout.specs.Refusal.{HasLocalChange, IsHindered}
use Rattle.vc_checkout.specs.WorkTree.{has_path}
use Rattle.vc_checkout.proofs.ClearLemmas.{in_the_way, not_in_the_way}
use Rattle.vc_checkout.proofs.clear.check_path.Goals.{else-is_some-via-then-is_some+else-is_err, else-is_some-via-else-is_some}
use Rattle.vc_checkout.proofs.clear.check_path.Goals as goal

pub returns-then-is_err-clause-refused : goal.returns-then-is_err-clause-refused
returns-then-is_err-clause-refused g c = λ honest.
    let copied : c.in_ok-to_vec.field-0.items ≡ c.args.path.now = search rules in
    let some : IsSome (get c.args.tree.now c.args.path.now) = search rules in
    let apart : get c.args.index.now c.args.path.now ≢ get c.args.tree.now c.args.path.now = search rules in
    let bad : IsUtf8 c.args.path.now → ⊥ = search rules in
    inr (copied, ((some, apart), bad))

pub returns-then-branch-2-clause-refused : goal.returns-then-branch-2-clause-refused
returns-then-branch-2-clause-refused g c = λ honest.
    let work = g.T.WorkTree.content c.args.work.now in
    let file = get work c.args.path.now in
    let copied : c.in_ok-to_vec-3.field-0.items ≡ c.args.path.now = search rules in
    let at : get c.args.tree.now c.args.path.now ≡ Some c.in-Some.entry = search rules in
    let apart : get c.args.index.now c.args.path.now ≢ get c.args.tree.now c.args.path.now = search rules in
    let readable : IsUtf8 c.args.path.now = elim c.else-is_some.branch [ else-is_some-via-then-is_some+else-is_err w ↦ search rules | else-is_some-via-else-is_some w ↦ search rules ] in
    let lost = subst (λ (o : Option IndexEntry). IsTrue c.in_ok-has_local_change.field-0 ↔ HasLocalChange o (get c.args.tree.now c.args.path.now) file) c.get-old.ensures.found
    (subst (λ (n : Option IndexEntry). IsTrue c.in_ok-has_local_change.field-0 ↔ HasLocalChange c.get-old.result n file) c.get-new.ensures.found (c.in_ok-has_local_change.ensures.change honest)) in
    let hindered = subst (λ (w : FileMap). IsTrue c.in_ok-is_hindered.field-0 ↔ IsHindered (λ other. IsTrue (has_path c.args.unkept.now other)) w c.args.path.now c.in-Some.entry) c.has_local_change.ensures.untouched.0 (c.in_ok-is_hindered.ensures.hindered honest) in
    inr (copied, (λ bad. bad.1 readable), (λ change. let yes' = lost.1 change in cc (yes', c.if-branch.false)), in_the_way c.args.index.now c.args.tree.now work c.args.path.now c.in-Some.entry c.args.unkept.now (c.requires.unkept honest) at apart (hindered.0 (search rules)))

pub returns-clause-clear : goal.returns-clause-clear
returns-clause-clear g c = λ honest.
    let work = g.T.WorkTree.content c.args.work.now in
    let file = get work c.args.path.now in
    let at : get c.args.tree.now c.args.path.now ≡ Some c.in-Some.entry = search rules in
    let readable : IsUtf8 c.args.path.now = elim c.else-is_some.branch [ else-is_some-via-then-is_some+else-is_err w ↦ search rules | else-is_some-via-else-is_some w ↦ search rules ] in
    let lost = subst (λ (o : Option IndexEntry). IsTrue c.in_ok-has_local_change.field-0 ↔ HasLocalChange o (get c.args.tree.now c.args.path.now) file) c.get-old.ensures.found
    (subst (λ (n : Option IndexEntry). IsTrue c.in_ok-has_local_change.field-0 ↔ HasLocalChange c.get-old.result n file) c.get-new.ensures.found (c.in_ok-has_local_change.ensures.change honest)) in
    let hindered = subst (λ (w : FileMap). IsTrue c.in_ok-is_hindered.field-0 ↔ IsHindered (λ other. IsTrue (has_path c.args.unkept.now other)) w c.args.path.now c.in-Some.entry) c.has_local_change.ensures.untouched.0 (c.in_ok-is_hindered.ensures.hindered honest) in
    record {
      text = λ bad. bad.1 readable;
      unchanged = λ change. let yes' = lost.1 change in cc (yes', c.if-branch.false);
      free = not_in_the_way c.args.index.now c.args.tree.now work c.args.path.now c.in-Some.entry c.args.unkept.now (c.requires.unkept honest) at (λ way. let yes' = hindered.1 way in cc (yes', c.if-branch-2.false));
    }
