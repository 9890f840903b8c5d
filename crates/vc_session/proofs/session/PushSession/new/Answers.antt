use Rattle.std.proofs.Common.{rules, arith, ◌≡◌, ◌<◌, ◌^◌, List, [], map, Ok, Err, ap, ◌∙◌, refl}
use Rattle.std.specs.Prelude.{Vec}
use Rattle.std.specs.Global.{Global}
use Rattle.vc_files.proofs.WearLemmas.{writes_both, writes_told}
use Rattle.vc_files.specs.Failures.{Writes}
use Rattle.vc_object.specs.declared.id.ObjectId.{ObjectId}
use Rattle.vc_push.specs.PushView.{carried_view}
use Rattle.vc_push.specs.declared.command.Command.{Command}
use Rattle.vc_push_rules.specs.Session.{fresh}
use Rattle.vc_quarantine.proofs.CleanLemmas.{bad_on, bad_same, bad_then, clean_after, clean_dropped}
use Rattle.vc_quarantine.specs.Clean.{MakesNoneBad}
use Rattle.vc_session.proofs.SessionLemmas.{carries_by, same_verdicts, writes_at}
use Rattle.vc_push_rules.proofs.CarryingLemmas.{nothing_carried}
use Rattle.vc_session.proofs.session.PushSession.new.Goals as goal
use Rattle.vc_session.proofs.session.PushSession.new.Goals.{in-Ok+in_ok-names-in-Ok, in-Err}

pub returns-in_err-names-in-Ok-clause-wear : goal.returns-in_err-names-in-Ok-clause-wear
returns-in_err-names-in-Ok-clause-wear g c = writes_both c.in_ok-drop_quarantine.ensures.wear (λ never. absurd (cc never)) (writes_told c.in_err-names-in-Ok.ensures.wear (search rules) (search rules))

pub returns-in_err-verdicts-clause-wear : goal.returns-in_err-verdicts-clause-wear
returns-in_err-verdicts-clause-wear g c =
    let before : Writes g.F.Files.honest g.F.Files.content g.F.Files.failed g.F.Files.can_fail g.F.Files.left c.args.files.now c.match-push-2.files ⊥ = elim c.match-push-2.branch [
      | in-Ok+in_ok-names-in-Ok w ↦ writes_at w.files-is (writes_both c.in_ok-drop_quarantine.ensures.wear (λ never. absurd (cc never)) (writes_told w.in_ok-names-in-Ok.ensures.wear (λ never. absurd (cc never)) (λ never. absurd never)))
      | in-Err w ↦ writes_at w.files-is (writes_told c.in_ok-drop_quarantine.ensures.wear (λ never. absurd (cc never)) (λ never. absurd never))
    ] in
    writes_told before (λ never. absurd never) (search rules)

pub returns-clause-opened : goal.returns-clause-opened
returns-clause-opened g c =
    let fault = c.fault-fault.result in
    let made : c.in_ok-verdicts.verdicts.items ≡ map (λ (x : Command). fresh fault) c.deref.result.now = c.in_ok-verdicts.ensures in (
      fault,
      c.fault-fault.ensures,
      record {
        slot_is = refl;
        atomic_is = refl;
        fault_is = refl;
        commands_are = refl;
        verdicts_are = made ∙ ap (λ (held : List Command). map (λ (x : Command). fresh fault) held) c.deref.ensures.value ∙ same_verdicts (fresh fault) c.args.push.commands.items;
        stage_is = refl;
      },
    )

pub returns-clause-carried : goal.returns-clause-carried
returns-clause-carried g c = λ honest.
    let content = g.F.Files.content in
    let now = content c.match-push-2.files in
    let ids = c.match-push-2.names.items in
    let push = carried_view c.args.push.carried in
    let slot = c.args.slot in
    let dropped = c.in_ok-drop_quarantine.ensures.dropped honest in
    elim c.match-push-2.branch [
      | in-Ok+in_ok-names-in-Ok w ↦ carries_by now (content w.put_all.new.files) slot ids w.in_ok-names-in-Ok.names.items push (carried_view (Ok w.in-Ok.objects)) (ap content w.files-is) (ap (λ (v : Vec ObjectId Global). v.items) w.names-is) (ap carried_view w.in-Ok.is) (w.in_ok-names-in-Ok.ensures.carried honest dropped)
      | in-Err w ↦ carries_by now (content c.drop_quarantine.new.files) slot ids [] push (carried_view (Err w.in-Err.field-0)) (ap content w.files-is) (ap (λ (v : Vec ObjectId Global). v.items) w.names-is ∙ w.new-names.ensures.items) (ap carried_view w.in-Err.is) (nothing_carried (content c.drop_quarantine.new.files) slot dropped)
    ]

pub returns-clause-wear : goal.returns-clause-wear
returns-clause-wear g c =
    let before : Writes g.F.Files.honest g.F.Files.content g.F.Files.failed g.F.Files.can_fail g.F.Files.left c.args.files.now c.match-push-2.files ⊥ = elim c.match-push-2.branch [
      | in-Ok+in_ok-names-in-Ok w ↦ writes_at w.files-is (writes_both c.in_ok-drop_quarantine.ensures.wear (λ never. absurd (cc never)) (writes_told w.in_ok-names-in-Ok.ensures.wear (λ never. absurd (cc never)) (λ never. absurd never)))
      | in-Err w ↦ writes_at w.files-is (writes_told c.in_ok-drop_quarantine.ensures.wear (λ never. absurd (cc never)) (λ never. absurd never))
    ] in
    writes_told before (λ never. absurd never) (λ never. absurd (cc never))

pub returns-in_err-names-in-Ok-clause-bad : goal.returns-in_err-names-in-Ok-clause-bad
returns-in_err-names-in-Ok-clause-bad g c = λ honest. bad_then (c.in_ok-drop_quarantine.ensures.bad honest) (c.in_err-names-in-Ok.ensures.bad honest)

pub returns-in_err-verdicts-clause-bad : goal.returns-in_err-verdicts-clause-bad
returns-in_err-verdicts-clause-bad g c = λ honest.
    let content = g.F.Files.content in
    elim c.match-push-2.branch [
      | in-Ok+in_ok-names-in-Ok w ↦ bad_on (bad_then (c.in_ok-drop_quarantine.ensures.bad honest) (w.in_ok-names-in-Ok.ensures.bad honest)) (ap content w.files-is)
      | in-Err w ↦ bad_on (c.in_ok-drop_quarantine.ensures.bad honest) (ap content w.files-is)
    ]

pub returns-clause-bad : goal.returns-clause-bad
returns-clause-bad g c = λ honest.
    let content = g.F.Files.content in
    elim c.match-push-2.branch [
      | in-Ok+in_ok-names-in-Ok w ↦ bad_on (bad_then (c.in_ok-drop_quarantine.ensures.bad honest) (w.in_ok-names-in-Ok.ensures.bad honest)) (ap content w.files-is)
      | in-Err w ↦ bad_on (c.in_ok-drop_quarantine.ensures.bad honest) (ap content w.files-is)
    ]

pub returns-clause-clean : goal.returns-clause-clean
returns-clause-clean g c = λ honest.
    let content = g.F.Files.content in
    let slot = c.args.slot in
    let emptied = content c.drop_quarantine.new.files in
    let small : slot < 2 ^ 64 = omega (arith, c.ranges.slot.fits) in
    let none : MakesNoneBad emptied (content c.match-push-2.files) = elim c.match-push-2.branch [
      | in-Ok+in_ok-names-in-Ok w ↦ bad_on (w.in_ok-names-in-Ok.ensures.bad honest) (ap content w.files-is)
      | in-Err w ↦ bad_same emptied (content c.match-push-2.files) (ap content w.files-is)
    ] in
    clean_after emptied (content c.match-push-2.files) slot small none (clean_dropped emptied slot (c.in_ok-drop_quarantine.ensures.dropped honest))
