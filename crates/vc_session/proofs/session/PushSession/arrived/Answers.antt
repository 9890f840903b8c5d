use Rattle.std.proofs.Common.{rules, ◌≡◌, List, map, ap, ◌∙◌, refl, subst, sym}
use Rattle.vc_object.specs.declared.id.ObjectId.{ObjectId}
use Rattle.vc_push.specs.declared.command.Command.{Command}
use Rattle.vc_push_rules.specs.Carrying.{Carries, objects_of_push}
use Rattle.vc_push_rules.specs.Session.{fresh}
use Rattle.vc_quarantine.proofs.ArrivalLemmas.{brought_carries, brought_fault}
use Rattle.vc_session.proofs.SessionLemmas.{same_verdicts}
use Rattle.vc_session.proofs.session.PushSession.arrived.Goals as goal

pub returns-clause-fault : goal.returns-clause-fault
returns-clause-fault c = λ content carried brought. brought_fault content _ _ _ carried brought

pub returns-clause-carried : goal.returns-clause-carried
returns-clause-carried c = λ content carried brought.
    let names : c.in_ok-names.names.items ≡ c.args.arriving.names.keys = search rules in
    subst (λ (ids : List ObjectId). Carries content c.args.arriving.slot ids (objects_of_push carried)) (sym names) (brought_carries content _ _ _ carried brought)

pub returns-clause-opened : goal.returns-clause-opened
returns-clause-opened c =
    let made : c.in_ok-verdicts.verdicts.items ≡ map (λ (x : Command). fresh c.args.arriving.fault) c.deref.result.now = c.in_ok-verdicts.ensures in
    record {
      slot_is = refl;
      atomic_is = refl;
      fault_is = refl;
      commands_are = refl;
      verdicts_are = made ∙ ap (λ (held : List Command). map (λ (x : Command). fresh c.args.arriving.fault) held) c.deref.ensures.value ∙ same_verdicts (fresh c.args.arriving.fault) c.args.commands.items;
      stage_is = refl;
    }
