-- A restart: what holds a node is opened unless a fault comes.
use Rattle.std.proofs.Common.{◌≡◌, Bool, true, false, List, Option, Some, None, Result, Ok, Err, refl, sym, subst}
use Rattle.std.specs.Prelude.{IfErr, OnErr, OnOk, is_ok}
use Rattle.std.specs.FinMap.{empty}
use Rattle.vc_files.specs.FileMap.{FileMap}
use Rattle.vc_rules.specs.Told.{Quietly}
use Rattle.vc_model.specs.Node.Answer.{Did, Fault}
use Rattle.vc_model.specs.Node.Reply.{Stored}
use Rattle.vc_model.specs.Shared.{SharedNode}
use Rattle.vc_model.specs.SharedCall.{SharedAnswers}
use Rattle.vc_model.specs.SharedCall.SharedCall.{Open}
use Rattle.vc_model.specs.Clone.Awaited.{Nothing}
use Rattle.vc_local.proofs.EmptyingLemmas.{shown_kept}
use Rattle.vc_local.proofs.OpeningLaws.{held_nodes_open}
use Rattle.vc_local.proofs.BesideLemmas.{clean_on}
use Rattle.vc_local.proofs.OpeningFaults.{opening_fails}
use Rattle.vc_local.specs.Blames.{BlamesOpen}
use Rattle.vc_local.specs.Emptying.{IsOpened, LosesCarried}
use Rattle.vc_local.specs.Machine.{Spells, fault_answer, failure_of}
use Rattle.vc_local.specs.Opening.{opened_node}
use Rattle.vc_local.specs.Shown.{Shown}
use Rattle.vc_local.specs.Told.{RestartedAs}
use Rattle.vc_local.specs.declared.fault.NodeFault.{NodeFault}
use Rattle.vc_quarantine.proofs.CleanLemmas.{bad_loses}
use Rattle.vc_push_rules.specs.Session.{SessionText}
use Rattle.vc_shared.proofs.OpeningLemmas.{held_opened}
use Rattle.vc_shared.specs.Calls.{AnswersShared}
use Rattle.vc_shared.specs.Holding.{HoldsShared}
use Rattle.vc_shared.specs.Laws.{HeldSharedOpen}
use Rattle.vc_shared.specs.Slots.{free_slots}

-- a repository that is held can be opened, whatever pushes are open
pub held_open : HeldSharedOpen
held_open content slots is_up n held =
    held_nodes_open content true Nothing (opened_node n.repository) (record { shows = record { spells = held.spells; live = refl }; clean = held.clean })

module _ (old new : FileMap) (slots after : List (Option SessionText)) (was_up : Bool) where
  restarted : IsOpened old new → after ≡ free_slots → AnswersShared Open (Quietly (Did Stored)) old new slots after was_up true
  restarted opened free = record {
    each = λ n held.
        let m : SharedNode = record { repository = n.repository; live = Some empty } in (
          m,
          Did Stored,
          None,
          subst (λ (s : List (Option SessionText)). HoldsShared new s true m) (sym free) (held_opened old new n.repository opened (held_open old slots was_up n held)),
          record { answer = refl; sent = refl },
          λ sound bare. SharedAnswers.opened refl (refl, refl) refl,
        );
  }

  failed : (e : NodeFault) → LosesCarried old new → BlamesOpen old e → AnswersShared Open (Quietly (fault_answer e)) old new slots after was_up false
  failed e loses blames = record {
    each = λ n held.
        let why = opening_fails old n.repository held.spells held.clean e blames in
        let m : SharedNode = record { repository = n.repository; live = None } in (
          m,
          Fault (failure_of why.0),
          None,
          record {
            spells = subst (λ (s : Shown). Spells s n.repository) (sym (shown_kept old new loses)) held.spells;
            clean = clean_on old new (bad_loses old new loses.left) held.clean;
            live = tt;
          },
          record { answer = sym why.1; sent = refl },
          λ sound bare. SharedAnswers.opened refl refl refl,
        );
  }

  -- whatever node was held
  pub restart_answers : (is_up : Bool) (result : Result (Unit {0}) NodeFault) → OnOk result (IsOpened old new) → OnErr result (LosesCarried old new) → IfErr result (BlamesOpen old)
      → after ≡ free_slots → is_up ≡ is_ok result → AnswersShared Open (RestartedAs result) old new slots after was_up is_up
  restart_answers is_up (Ok u) opened loses blames free up =
      subst (λ (b : Bool). AnswersShared Open (Quietly (Did Stored)) old new slots after was_up b) (sym up) (restarted opened free)
  restart_answers is_up (Err e) opened loses blames free up =
      subst (λ (b : Bool). AnswersShared Open (Quietly (fault_answer e)) old new slots after was_up b) (sym up) (failed e loses blames)
