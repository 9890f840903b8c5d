-- What a prune of the shared node leaves is the machine's: the objects that nothing needs are gone, or some of them, and each open push stays.
use Rattle.std.proofs.Common.{inl, inr, ℕ, Bool, true, false, cond, List, Option, Some, None, Result, Ok, Err, refl, sym, ap, ◌∙◌, subst}
use Rattle.std.specs.Prelude.{IfErr, IfOk, codes}
use Rattle.std.specs.FinMap.{get}
use Rattle.vc_files.specs.FileMap.{FileMap, SameOutside}
use Rattle.vc_model.specs.Object.{Id}
use Rattle.vc_model.specs.Push.{OpenPush, Slots}
use Rattle.vc_model.specs.Repository.{Repository}
use Rattle.vc_model.specs.Shared.{IsNeeded, SharedNode}
use Rattle.vc_model.specs.SharedCall.{SharedAnswers}
use Rattle.vc_model.specs.SharedCall.SharedCall.{Prune}
use Rattle.vc_local.specs.Clean.{IsClean}
use Rattle.vc_local.specs.Machine.{up_after}
use Rattle.vc_local.specs.declared.fault.NodeFault.{NodeFault}
use Rattle.vc_local.specs.declared.fault.NodeFault.TheVariants.{Store}
use Rattle.vc_object_map.specs.Store.{stored_in}
use Rattle.vc_object_map.specs.declared.faults.StoreFault.{StoreFault}
use Rattle.vc_object_map.specs.declared.faults.StoreFault.TheVariants as store
use Rattle.vc_pruning.proofs.PruneEnds.{prune_ends, pruned_node}
use Rattle.vc_pruning.proofs.PruningLemmas.{prunes_all, prunes_none, prunes_some}
use Rattle.vc_pruning.proofs.RemovingLemmas.{outside_of, spares_same}
use Rattle.vc_pruning.specs.Pruning.{PrunedAs, Prunes, PrunesSome as PrunesSomeOf, prune_answer}
use Rattle.vc_pruning.specs.Removing.{SparesFiles}
use Rattle.vc_pruning.specs.Roots.{BlamesPrune}
use Rattle.vc_quarantine.specs.Clean.{IsQuarantineClean}
use Rattle.vc_push_rules.proofs.QuarantineLemmas.{quarantined-same}
use Rattle.vc_push_rules.specs.Quarantine.{quarantine_path}
use Rattle.vc_push_rules.specs.Session.{SessionText}
use Rattle.vc_rules.proofs.OpenPushLaws.{push_kept}
use Rattle.vc_rules.specs.Git.{git}
use Rattle.vc_session.specs.Needing.{BlamesNeeded}
use Rattle.vc_shared.proofs.HoldingLemmas.{beyond_objects, dropped_on}
use Rattle.vc_shared.proofs.NeedingLemmas.{knows_needed}
use Rattle.vc_shared.proofs.SteppingLaws.{IsStanding, pushes_of, standing}
use Rattle.vc_shared.specs.Calls.{AnswersShared}
use Rattle.vc_shared.specs.Holding.{HoldsSlot, HoldsSlots, IsLive}
use Rattle.vc_shared.specs.Pruning.{BlamesNeeds, BlamesSlot, EndsPrune, PrunesAll, PrunesSome}
use Rattle.vc_shared.specs.Slots.{slot_of}

-- ---- what stays where only stored objects differ
module _ (old new : FileMap) (outside : SameOutside (codes "objects/") old new) where
  slot_kept : (k : ℕ) (v : Option SessionText) (q : Option OpenPush) → HoldsSlot old k v q → HoldsSlot new k v q
  slot_kept k None None dropped = dropped_on old new k (beyond_objects k old new outside) dropped
  slot_kept k (Some s) (Some p) (at, push, clean) = (
    at,
    push_kept old new s p (quarantined-same old new s.slot outside) push,
    λ id damaged. clean id (ap (stored_in id) (sym (outside.at (quarantine_path k id.0) refl)) ∙ damaged),
  )
  slot_kept k None (Some p) never = never
  slot_kept k (Some s) None never = never

  -- the pushes of a node that is still up
  live_kept : (slots : List (Option SessionText)) (l : Option Slots) (up : Bool) → IsLive old slots true l → IsLive new slots up (cond up l None)
  live_kept slots l false held = tt
  live_kept slots None true never = never
  live_kept slots (Some pushes) true held = record {
    eight = held.eight;
    each = λ k small. slot_kept k (slot_of slots k) (get pushes k) (held.each k small);
    others = held.others;
  }

-- ---- over clean files a prune is refused for a fault alone
module _ (content : FileMap) (clean : IsClean content) where
  blames_needed : (s : SessionText) (f : StoreFault) → IsQuarantineClean content s.slot → BlamesNeeded content s f → BlamesPrune content (Store f)
  blames_needed s (store.BadObject fault) whole blames = absurd blames
  blames_needed s (store.Absent id) whole blames = absurd blames
  blames_needed s (store.Damaged id) whole blames = elim blames.1 [ inl damaged ↦ absurd (clean.objects id damaged) | inr damaged ↦ absurd (whole id damaged) ]
  blames_needed s (store.Fault fault) whole blames = tt

  blames_slot : (pushes : Slots) (k : ℕ) (v : Option SessionText) (e : NodeFault) → IsStanding content pushes k v → BlamesSlot content v e → BlamesPrune content e
  blames_slot pushes k None e none blames = absurd blames
  blames_slot pushes k (Some s) e (p, small, is, at, push, whole) (f, told, why) =
      subst (BlamesPrune content) (sym told) (blames_needed s f (subst (λ (j : ℕ). IsQuarantineClean content j) (sym at) whole) why)

  blames : (slots : List (Option SessionText)) (pushes : Slots) (e : NodeFault) → HoldsSlots content slots pushes → BlamesNeeds content slots e → BlamesPrune content e
  blames slots pushes e holds (inl root) = root
  blames slots pushes e holds (inr slot) = blames_slot pushes slot.slot (slot_of slots slot.slot) e (standing content slots pushes slot.slot holds) slot.blames

-- ---- whatever node was held
module _ (old new : FileMap) (slots : List (Option SessionText)) where
  module _ (pushes : Slots) (holds : HoldsSlots old slots pushes) where
    abbrev needed : Repository → Id → Type 0
    needed r = IsNeeded git r pushes

    all_gone : (count : ℕ) → PrunesAll old slots new count → Prunes needed old new count
    all_gone count prunes = prunes_all needed old prunes.kept (λ r spells. knows_needed old r spells slots pushes holds prunes.kept prunes.needed) new count prunes.takes

    some_gone : PrunesSome old slots new → PrunesSomeOf needed old new
    some_gone prunes = prunes_some needed old prunes.kept (λ r spells. knows_needed old r spells slots pushes holds prunes.kept prunes.needed) new prunes.takes

    ended : (e : NodeFault) → EndsPrune old slots new e → PrunesSomeOf needed old new
    ended e (inl same) = prunes_none needed old new same
    ended e (inr some) = some_gone some.1

    all_of : (result : Result ℕ NodeFault) → IfOk result (PrunesAll old slots new) → IfOk result (Prunes needed old new)
    all_of (Ok count) prunes = all_gone count prunes
    all_of (Err e) prunes = tt

    some_of_them : (result : Result ℕ NodeFault) → IfOk result (PrunesAll old slots new) → IfErr result (EndsPrune old slots new) → PrunesSomeOf needed old new
    some_of_them (Ok count) prunes early = some_gone (record { kept = prunes.kept; needed = prunes.needed; takes = record { spares = prunes.takes.spares; count = count; takes = prunes.takes.takes } })
    some_of_them (Err e) prunes early = ended e early

    blamed : (result : Result ℕ NodeFault) → IsClean old → IfErr result (BlamesNeeds old slots) → IfErr result (BlamesPrune old)
    blamed (Ok count) clean why = tt
    blamed (Err e) clean why = blames old clean slots pushes e holds why

  pub prune_answers : (result : Result ℕ NodeFault) → IfOk result (PrunesAll old slots new) → IfErr result (EndsPrune old slots new) → IfErr result (BlamesNeeds old slots)
      → AnswersShared Prune (PrunedAs result) old new slots slots true (up_after result)
  prune_answers result prunes early why = record {
    each = λ n held.
        let w = pushes_of old slots n.live held.live in
        let some = some_of_them w.0 w.2 result prunes early in
        let ends = prune_ends (λ r. IsNeeded git r w.0) old new n result held.spells held.clean (all_of w.0 w.2 result prunes) some (blamed w.0 w.2 result held.clean why) in
        let m : SharedNode = pruned_node n (up_after result) ends.0 in (
          m,
          prune_answer result,
          None,
          record { spells = ends.1; clean = ends.2; live = live_kept old new (outside_of old new some.spares) slots n.live (up_after result) held.live },
          record { answer = refl; sent = refl },
          λ sound bare. SharedAnswers.pruned w.0 w.1 refl ends.3 refl,
        );
  }

-- a prune leaves clean what was
pub spares_of : (old new : FileMap) (slots : List (Option SessionText)) (result : Result ℕ NodeFault) → IfOk result (PrunesAll old slots new) → IfErr result (EndsPrune old slots new) → SparesFiles old new
spares_of old new slots (Ok count) prunes early = prunes.takes.spares
spares_of old new slots (Err e) prunes (inl same) = spares_same old new same
spares_of old new slots (Err e) prunes (inr some) = some.1.takes.spares
