-- What a shared node that was opened, served one message and was closed has done.
use Rattle.std.proofs.Common.{◌≡◌, ℕ, true, Bool, List, Option, Some, None, Ok, Err, refl, subst, sym, inr}
use Rattle.std.specs.Global.{Global}
use Rattle.std.specs.Prelude.{IfErr, IfNone, IfOk, Result, Vec}
use Rattle.vc_files.specs.FileMap.{FileMap}
use Rattle.vc_life.specs.Life.{opened_shared}
use Rattle.vc_model.specs.Repository.{Repository}
use Rattle.vc_model.specs.SharedCall.{SharedCall}
use Rattle.vc_local.specs.Clean.{KeepsClean}
use Rattle.vc_local.specs.Opening.{IsOpenable}
use Rattle.vc_serving.specs.Answering.{AnswersCame, IsRefusedOnce, KeepsOpenable, ServesCame, ServesOnce, ServesOnceAs}
use Rattle.vc_push_rules.specs.Session.{SessionText}
use Rattle.vc_server.specs.Coming.{IsRefusedThere, Reply, ServesAs, ServesFrom}
use Rattle.vc_server.specs.Serving.{Serves}
use Rattle.vc_shared.proofs.RestartLemmas.{held_open}
use Rattle.vc_shared.specs.Arriving.{IsCallOf, IsTold}
use Rattle.vc_shared.specs.Holding.{HoldsShared, SharedText}
use Rattle.vc_shared.specs.Node.{KeepsNode}
use Rattle.vc_shared.specs.Slots.{free_slots}
use Rattle.vc_shared.specs.declared.accept_fault.AcceptFault.TheVariants.{Node, ReadFailed}
use Rattle.vc_shared.specs.declared.fault.SharedFault.{SharedFault}

-- the answer of a node that was opened as this repository
served : (call : SharedCall) (r : Repository) (result : Result (Vec ℕ Global) SharedFault) (opened new : FileMap) (slots after : List (Option SessionText)) (was_up is_up : Bool)
    → was_up ≡ true → HoldsShared opened slots true (opened_shared r) → Serves call result opened new slots after was_up is_up → ServesOnce call r new result
served call r result opened new slots after was_up is_up up holds serves =
    let held : HoldsShared opened slots was_up (opened_shared r) = subst (λ (b : Bool). HoldsShared opened slots b (opened_shared r)) (sym up) holds in
    let end = serves.each (opened_shared r) held in
    record {
      after = end.0;
      a = end.1;
      sends = end.2;
      told = end.4;
      served = end.5;
      openable = held_open new after is_up end.0 end.3;
    }

-- the node was up
module _ (honest : Type 0) (before left : Option (List ℕ)) (r : Repository) (result : Reply) (old opened new : FileMap) (slots after : List (Option SessionText)) (was_up is_up : Bool) (up : was_up ≡ true) where
  -- what it tells of a call is the answer of the node that was opened
  served_as : HoldsShared opened slots true (opened_shared r) → (call : SharedCall) (given : Reply) → ServesAs call given opened new slots after was_up is_up → ServesOnceAs call r new given
  served_as holds call (Ok (Some reply)) serves = served call r (Ok reply) opened new slots after was_up is_up up holds serves
  served_as holds call (Ok None) serves = tt
  served_as holds call (Err ReadFailed) serves = tt
  served_as holds call (Err (Node e)) serves = served call r (Err e) opened new slots after was_up is_up up holds serves

  served_came : HoldsShared opened slots true (opened_shared r) → honest → ServesFrom honest before left opened new slots after was_up is_up result → ServesCame before left r new result
  served_came holds h serves = record {
    came = serves.came;
    is_come = serves.is_come;
    told = subst (λ (b : Bool). IsTold b serves.came result) up serves.told;
    served = λ call is. served_as holds call result (serves.serves h call (subst (λ (b : Bool). IsCallOf b serves.came call) (sym up) is));
  }

  pub came_once : HoldsShared opened slots true (opened_shared r) → honest → ServesFrom honest before left opened new slots after was_up is_up result → AnswersCame before left r old new result
  came_once holds h serves = by result (served_came holds h serves)
    where
      by : (given : Reply) → ServesCame before left r new given → AnswersCame before left r old new given
      by (Ok found) came = came
      by (Err ReadFailed) came = came
      by (Err (Node e)) came = inr came

-- where there is nothing to serve
pub kept_openable : {F : Type 0} (content : F → FileMap) (r : Repository) (result : Reply) (opened new : SharedText F) → opened.is_up ≡ true → HoldsShared (content opened.files) opened.slots true (opened_shared r)
    → IfOk result (λ found. IfNone found (new ≡ opened)) → IfErr result (λ e. e ≡ ReadFailed → KeepsNode content opened new) → KeepsOpenable (content new.files) r result
kept_openable {F = F} content r result opened new up holds none lost = by result none lost
  where
    held : HoldsShared (content opened.files) opened.slots opened.is_up (opened_shared r)
    held = subst (λ (b : Bool). HoldsShared (content opened.files) opened.slots b (opened_shared r)) (sym up) holds

    by : (given : Reply) → IfOk given (λ found. IfNone found (new ≡ opened)) → IfErr given (λ e. e ≡ ReadFailed → KeepsNode content opened new) → KeepsOpenable (content new.files) r given
    by (Ok (Some reply)) none lost = tt
    by (Ok None) none lost = subst (λ (s : SharedText F). IsOpenable (content s.files) r) (sym none) (held_open (content opened.files) opened.slots opened.is_up (opened_shared r) held)
    by (Err ReadFailed) none lost = held_open (content new.files) new.slots new.is_up (opened_shared r) (lost refl (opened_shared r) held)
    by (Err (Node e)) none lost = tt

-- its refusal
pub refused_once : (honest : Type 0) (before left : Option (List ℕ)) (old opened new : FileMap) (slots after : List (Option SessionText)) (was_up is_up : Bool) (result : Reply) → was_up ≡ true → slots ≡ free_slots → honest
    → KeepsClean old opened → ServesFrom honest before left opened new slots after was_up is_up result → IsRefusedOnce before left old result
refused_once honest before left old opened new slots after was_up is_up (Ok found) up free h clean serves = tt
refused_once honest before left old opened new slots after was_up is_up (Err ReadFailed) up free h clean serves = tt
refused_once honest before left old opened new slots after was_up is_up (Err (Node e)) up free h clean serves =
    let given : Reply = Err (Node e) in
    inr (record {
      came = serves.came;
      is_come = serves.is_come;
      told = subst (λ (b : Bool). IsTold b serves.came given) up serves.told;
      opened = opened;
      keeps = clean;
      refused = subst (λ (slots : List (Option SessionText)). IsRefusedThere serves.came opened slots given) free (serves.refused h up);
    })
