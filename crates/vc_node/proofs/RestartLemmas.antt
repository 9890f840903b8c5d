-- A restart: a node that is held is opened unless a fault comes.
use Rattle.std.proofs.Common.{◌≡◌, Bool, true, false, Some, None, Result, Ok, Err, refl, sym, subst}
use Rattle.std.specs.Prelude.{IfErr, OnErr, OnOk, is_ok}
use Rattle.vc_files.specs.FileMap.{FileMap}
use Rattle.vc_rules.specs.Told.{Quietly}
use Rattle.vc_model.specs.Clone.Awaited.{Nothing}
use Rattle.vc_model.specs.CloneCall.{CloneAnswers}
use Rattle.vc_model.specs.CloneCall.CloneCall.{Open}
use Rattle.vc_model.specs.Node.Answer.{Did, Fault}
use Rattle.vc_model.specs.Node.Reply.{Stored}
use Rattle.vc_local.proofs.CleanLemmas.{still_clean}
use Rattle.vc_local.proofs.EmptyingLemmas.{clean_lost, opened_holds, shown_kept}
use Rattle.vc_local.proofs.OpeningFaults.{opening_fails}
use Rattle.vc_local.proofs.OpeningLaws.{held_nodes_open}
use Rattle.vc_node.specs.Awaited.{AwaitedText, IsAwaited, nothing}
use Rattle.vc_local.specs.Blames.{BlamesOpen}
use Rattle.vc_node.specs.CloneCalls.{AnswersClone}
use Rattle.vc_local.specs.Machine.{Spells, fault_answer, failure_of}
use Rattle.vc_local.specs.Emptying.{IsOpened, LosesCarried}
use Rattle.vc_local.specs.Shown.{Shown}
use Rattle.vc_local.specs.Told.{RestartedAs}
use Rattle.vc_local.specs.declared.fault.NodeFault.{NodeFault}

restarted : (old new : FileMap) (waits after : AwaitedText) (was_up : Bool) → IsOpened old new → after ≡ nothing
    → AnswersClone Open (Quietly (Did Stored)) old new waits after was_up true
restarted old new waits after was_up opened none = record {
  each = λ awaited n waited held. (
    Nothing,
    record { repository = n.repository; live = Some Nothing },
    Did Stored,
    None,
    subst (λ (w : AwaitedText). IsAwaited w Nothing) (sym none) refl,
    opened_holds old new n.repository opened (held_nodes_open old was_up awaited n held),
    record { answer = refl; sent = refl },
    λ sound. CloneAnswers.opened refl (refl, refl) refl,
  );
}

failed : (old new : FileMap) (waits after : AwaitedText) (was_up : Bool) (e : NodeFault) → LosesCarried old new → BlamesOpen old e → after ≡ nothing
    → AnswersClone Open (Quietly (fault_answer e)) old new waits after was_up false
failed old new waits after was_up e loses blames none = record {
  each = λ awaited n waited held.
      let why = opening_fails old n.repository held.shows.spells held.clean e blames in (
        Nothing,
        record { repository = n.repository; live = None },
        Fault (failure_of why.0),
        None,
        subst (λ (w : AwaitedText). IsAwaited w Nothing) (sym none) refl,
        record {
          shows = record { spells = subst (λ (s : Shown). Spells s n.repository) (sym (shown_kept old new loses)) held.shows.spells; live = refl };
          clean = still_clean old new (clean_lost old new loses) held.clean;
        },
        record { answer = sym why.1; sent = refl },
        λ sound. CloneAnswers.opened refl refl refl,
      );
}

-- whatever node was held
pub restart_answers : (old new : FileMap) (waits after : AwaitedText) (was_up is_up : Bool) (result : Result (Unit {0}) NodeFault) → OnOk result (IsOpened old new)
    → OnErr result (LosesCarried old new) → IfErr result (BlamesOpen old) → after ≡ nothing → is_up ≡ is_ok result → AnswersClone Open (RestartedAs result) old new waits after was_up is_up
restart_answers old new waits after was_up is_up (Ok u) opened loses blames none up =
    subst (λ (b : Bool). AnswersClone Open (Quietly (Did Stored)) old new waits after was_up b) (sym up) (restarted old new waits after was_up opened none)
restart_answers old new waits after was_up is_up (Err e) opened loses blames none up =
    subst (λ (b : Bool). AnswersClone Open (Quietly (fault_answer e)) old new waits after was_up b) (sym up) (failed old new waits after was_up e loses blames none)
