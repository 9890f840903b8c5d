use Rattle.std.proofs.Common.{◌≡◌, ◌+◌, [], ◌∷◌, ◌++◌, Err, inl, length, length-append, rules, refl, sym, ap, ◌∙◌, subst, arith}
use Rattle.std.specs.List.{AllByRecursion}
use Rattle.std.specs.Prelude.{vec_len}
use Rattle.std.specs.Vec.Iter.{into_iter_items, into_iter_len}
use Rattle.vc_events.specs.World.{fresh_clone}
use Rattle.vc_files.specs.declared.faults.Fault.TheVariants.{Memory}
use Rattle.vc_lemmas.proofs.Lists.{all_append}
use Rattle.vc_simulation.proofs.PlayLemmas.{by_error}
use Rattle.vc_simulation.specs.Nodes.{BeginsAs, IsEmpty, IsMemoryUnless, seen_cloned}
use Rattle.vc_simulation.proofs.file_world.new_clones.Goals as goal

pub loop-file-init : goal.loop-file-init
loop-file-init g c =
    let given : into_iter_items c.into_iter-file-iterator.result ≡ c.args.files.items = c.into_iter-file-iterator.ensures.into_iter_gives.0 in
    let long : into_iter_len c.into_iter-file-iterator.result ≡ vec_len c.args.files = c.into_iter-file-iterator.ensures.into_iter_gives.1 in
    let many : vec_len c.args.files ≡ length c.args.files.items = search rules in
    let none : c.new-clones.result.items ≡ [] = c.new-clones.ensures.items in
    let empty = ap length none in
    let all_of = ap length given in
    record {
      new = λ honest frail below all. subst (λ xs. AllByRecursion (λ c. BeginsAs (seen_cloned g.F.Files.content g.F.Files.can_fail g.F.Files.left) frail c fresh_clone) xs) (sym none) tt;
      rest = λ all. subst (λ xs. AllByRecursion (IsEmpty g.F.Files.content) xs) (sym given) all;
      count = omega (arith, empty, all_of);
      len = long ∙ (many ∙ sym (ap length given));
    }

pub loop-file-preserved : goal.loop-file-preserved
loop-file-preserved g c =
    let at = c.loop-file in
    let clone = c.in_ok-clone.clone in
    let steps : into_iter_items at.file-iterator ≡ c.in-Some.file ∷ into_iter_items c.next.new.self = c.in-Some.ensures.steps.0 in
    let fewer : into_iter_len c.next.new.self + 1 ≡ into_iter_len at.file-iterator = c.in-Some.ensures.steps.1 in
    let pushed : c.push.new.self.items ≡ at.clones.items ++ clone ∷ [] = c.in_ok-push.ensures.items in
    let one_less = ap length steps in
    let one_more = ap length pushed ∙ length-append at.clones.items (clone ∷ []) in
    let count = at.invariant.count in
    let len = at.invariant.len in
    record {
      new = λ honest frail below all.
          let here = subst (λ xs. AllByRecursion (IsEmpty g.F.Files.content) xs) steps (at.invariant.rest all) in
          subst (λ xs. AllByRecursion (λ c. BeginsAs (seen_cloned g.F.Files.content g.F.Files.can_fail g.F.Files.left) frail c fresh_clone) xs) (sym pushed)
          (all_append (λ c. BeginsAs (seen_cloned g.F.Files.content g.F.Files.can_fail g.F.Files.left) frail c fresh_clone) at.clones.items (clone ∷ [])
          (at.invariant.new honest frail below all) (c.in_ok-clone.ensures.new honest frail below here.0, tt));
      rest = λ all. (subst (λ xs. AllByRecursion (IsEmpty g.F.Files.content) xs) steps (at.invariant.rest all)).1;
      count = omega (arith, one_less, one_more, count);
      len = omega (arith, one_less, fewer, len);
    }

pub returns-in_err-clone-clause-fault : goal.returns-in_err-clone-clause-fault
returns-in_err-clone-clause-fault g c honest frail below all =
    let e = c.in_err-clone.field-0.0 in
    let empty = (subst (λ xs. AllByRecursion (IsEmpty g.F.Files.content) xs) c.in-Some.ensures.steps.0 (c.loop-file.invariant.rest all)).0 in
    let is : c.from_residual.result ≡ Err e = search rules in
    by_error (IsMemoryUnless frail) c.from_residual.result e is (c.in_err-clone.ensures.fault honest frail below empty)

pub returns-in_err-push-clause-fault : goal.returns-in_err-push-clause-fault
returns-in_err-push-clause-fault g c honest frail below all =
    let is : c.from_residual-in_err-push.result ≡ Err Memory = search rules in
    by_error (IsMemoryUnless frail) c.from_residual-in_err-push.result Memory is (inl refl)

pub returns-clause-new : goal.returns-clause-new
returns-clause-new g c honest frail below all = c.loop-file.invariant.new honest frail below all

pub returns-clause-count : goal.returns-clause-count
returns-clause-count g c =
    let count = c.loop-file.invariant.count in
    let len = c.loop-file.invariant.len in
    let none = c.in-None.ensures.steps.0 in
    omega (arith, count, len, none)
