use Rattle.std.proofs.Common.{rules, ◌≡◌, Err, sym, ap, ◌∙◌, subst}
use Rattle.vc_history.specs.Generation.{Agrees}
use Rattle.vc_history.specs.Numbering.{numbers}
use Rattle.vc_files.specs.FileMap.{FileMap}
use Rattle.vc_object.specs.ObjectMap.{ObjectMap, parents_in}
use Rattle.vc_push.specs.PushView.{commands_of}
use Rattle.vc_session.proofs.CheckingLemmas.{IsRefusedCheck-from_list, IsRefusedCheck-from_met}
use Rattle.vc_quarantine.proofs.KnownLemmas.{AreWhole-with_carried, Agrees-with_carried}
use Rattle.vc_quarantine.specs.Known.{AreWhole}
use Rattle.vc_quarantine.specs.PushState.{SeenState, seen_state}
use Rattle.vc_push_rules.specs.Quarantine.{objects_seen, quarantined}
use Rattle.vc_session.specs.SessionFault.{IsRefusedCheck, from_refs, from_store}
use Rattle.vc_push_rules.specs.Steps.{ChecksAll}
use Rattle.vc_object_map.specs.Store.{objects}
use Rattle.vc_session.proofs.checking.check_in_files.Goals as goal

pub returns-clause-checks : goal.returns-clause-checks
returns-clause-checks g c honest agrees refs_whole =
    let content = g.F.Files.content c.args.files.now in
    let slot = c.args.slot in
    let stored = c.in_ok-known.ensures.whole honest refs_whole in
    let seen : AreWhole (objects_seen content slot) c.in_ok-known.known = AreWhole-with_carried (objects content) (quarantined content slot) c.in_ok-known.known stored in
    let listed : objects_seen (g.F.Files.content c.by_refs.new.files) slot ≡ objects_seen content slot = ap (λ (m : FileMap). objects_seen m slot) c.in_ok-known.ensures.same in
    let tips = c.in_ok-learn_tips.ensures.whole honest (subst (λ (o : ObjectMap). AreWhole o c.in_ok-known.known) (sym listed) seen) in
    let kept = ap (λ (s : SeenState). objects_seen s.content s.slot) c.in_ok-learn_tips.ensures.kept in
    let known = numbers c.args.generations.now in
    let numbered : Agrees (parents_in (objects_seen content slot)) known = Agrees-with_carried (objects content) (quarantined content slot) known agrees in
    let checks = c.in_ok-after.ensures.checks honest (subst (λ (o : ObjectMap). Agrees (parents_in o) known) (sym (kept ∙ listed)) numbered) (subst (λ (o : ObjectMap). AreWhole o c.learn_tips.new.self) (sym kept) tips) in
    subst (λ (o : ObjectMap). ChecksAll o (commands_of c.args.commands.now) c.args.verdicts.now c.in_ok-after.after.items) (kept ∙ listed) checks

pub returns-in_err-known-clause-refused : goal.returns-in_err-known-clause-refused
returns-in_err-known-clause-refused g c = λ honest agrees.
    let e = c.in_err-known.field-0.0 in
    let is : c.from_residual.result ≡ Err (from_refs e) = search rules in
    rw is (IsRefusedCheck-from_list (g.F.Files.content c.args.files.now) c.args.slot e (c.in_err-known.ensures.refused honest))

pub returns-in_err-learn_tips-clause-refused : goal.returns-in_err-learn_tips-clause-refused
returns-in_err-learn_tips-clause-refused g c = λ honest agrees.
    let e = c.in_err-learn_tips.field-0.0 in
    let is : c.from_residual-in_err-learn_tips.result ≡ Err (from_store e) = search rules in
    let told = IsRefusedCheck-from_met (seen_state 0 (g.F.Files.content c.by_refs.new.files) c.args.slot) e (c.in_err-learn_tips.ensures.refused honest) in
    rw is (subst (λ (m : FileMap). IsRefusedCheck m c.args.slot (from_store e)) c.in_ok-known.ensures.same told)

pub returns-in_err-after-clause-refused : goal.returns-in_err-after-clause-refused
returns-in_err-after-clause-refused g c = λ honest agrees.
    let e = c.in_err-after.field-0.0 in
    let is : c.from_residual-in_err-after.result ≡ Err (from_store e) = search rules in
    let seen = c.learn_tips.new.commits in
    let content = g.F.Files.content c.args.files.now in
    let slot = c.args.slot in
    let known = numbers c.args.generations.now in
    let numbered : Agrees (parents_in (objects_seen content slot)) known = Agrees-with_carried (objects content) (quarantined content slot) known agrees in
    let listed : objects_seen (g.F.Files.content c.by_refs.new.files) slot ≡ objects_seen content slot = ap (λ (m : FileMap). objects_seen m slot) c.in_ok-known.ensures.same in
    let kept = ap (λ (s : SeenState). objects_seen s.content s.slot) c.in_ok-learn_tips.ensures.kept in
    let there = subst (λ (o : ObjectMap). Agrees (parents_in o) known) (sym (kept ∙ listed)) numbered in
    let told = IsRefusedCheck-from_met (seen_state seen.files.ghost_name (g.F.Files.content seen.files.now) seen.slot) e (c.in_err-after.ensures.refused honest there) in
    let before = subst (λ (s : SeenState). IsRefusedCheck s.content s.slot (from_store e)) c.in_ok-learn_tips.ensures.kept told in
    rw is (subst (λ (m : FileMap). IsRefusedCheck m c.args.slot (from_store e)) c.in_ok-known.ensures.same before)
