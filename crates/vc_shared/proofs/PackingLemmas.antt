-- What the shared node answers to the question to pack its refs is the machine's answer: each open push stays, or the node is down.
use Rattle.std.proofs.Common.{◌≡◌, inl, inr, ℕ, Bool, true, false, List, Option, Some, None, Result, Ok, Err, refl, sym, ap, ◌∙◌, subst}
use Rattle.std.specs.Prelude.{IfErr, OnOk}
use Rattle.std.specs.FinMap.{get}
use Rattle.vc_files.specs.FileMap.{FileMap}
use Rattle.vc_files.specs.declared.faults.Fault.{Fault as FilesFault}
use Rattle.vc_model.specs.Node.Answer.{Declined, Did}
use Rattle.vc_model.specs.Node.Reply.{Stored}
use Rattle.vc_model.specs.Push.{OpenPush, Slots}
use Rattle.vc_model.specs.Question.Question.{PackRefs}
use Rattle.vc_model.specs.Shared.{SharedNode}
use Rattle.vc_model.specs.SharedCall.SharedCall.{Asks}
use Rattle.vc_local.proofs.CleanLemmas.{still_clean_packed}
use Rattle.vc_local.proofs.ShownLemmas.{shown_packed}
use Rattle.vc_local.specs.Blames.{BlamesPacking}
use Rattle.vc_local.specs.Machine.{Spells, failure_of, up_after}
use Rattle.vc_local.specs.Shown.{Shown, shown}
use Rattle.vc_local.specs.Told.{RestartedAs}
use Rattle.vc_local.specs.declared.fault.NodeFault.{NodeFault}
use Rattle.vc_local.specs.declared.fault.NodeFault.TheVariants.{BadIndex, BadPath, Down, Missing, NotACommit, PathConflict, Ref, Store, WrongEntry}
use Rattle.vc_object.specs.declared.id.ObjectId.{ObjectId}
use Rattle.vc_refs.specs.Head.{KeepsOutside}
use Rattle.vc_refs.specs.Packing.{IsPackedFrom}
use Rattle.vc_refs.specs.RefMap.{IsFolder, IsRefMap}
use Rattle.vc_refs.specs.Refs.{refs}
use Rattle.vc_refs.specs.declared.faults.RefFault.TheVariants as ref
use Rattle.vc_rules.proofs.OpenPushLaws.{push_kept}
use Rattle.vc_rules.proofs.RefLemmas.{apart_from_map, folder_apart}
use Rattle.vc_push_rules.proofs.QuarantineLemmas.{same_at}
use Rattle.vc_push_rules.specs.Quarantine.{quarantine_path, quarantined}
use Rattle.vc_push_rules.specs.Session.{SessionText}
use Rattle.vc_object_map.specs.Store.{stored_in}
use Rattle.vc_shared.proofs.CallLemmas.{asked_leads, fault_leads}
use Rattle.vc_shared.proofs.HoldingLemmas.{beyond_refs, dropped_on}
use Rattle.vc_shared.proofs.SteppingLaws.{pushes_of}
use Rattle.vc_shared.specs.Calls.{AnswersShared}
use Rattle.vc_shared.specs.Holding.{HoldsShared, HoldsSlot, IsLive}
use Rattle.vc_shared.specs.Slots.{slot_of}

module _ (old new : FileMap) (rest : KeepsOutside old new) where
  quarantine_kept : (slot : ℕ) (id : ObjectId) → quarantined new slot id ≡ quarantined old slot id
  quarantine_kept slot id = same_at old new slot id (λ _. rest.at (quarantine_path slot id.0) refl refl)

  slot_kept : (k : ℕ) (v : Option SessionText) (q : Option OpenPush) → HoldsSlot old k v q → HoldsSlot new k v q
  slot_kept k None None dropped = dropped_on old new k (beyond_refs k old new rest) dropped
  slot_kept k (Some s) (Some p) (at, push, clean) = (
    at,
    push_kept old new s p (quarantine_kept s.slot) push,
    λ id damaged. clean id (ap (stored_in id) (sym (rest.at (quarantine_path k id.0) refl refl)) ∙ damaged),
  )
  slot_kept k None (Some p) never = never
  slot_kept k (Some s) None never = never

  live_kept : (slots : List (Option SessionText)) (up : Bool) (l : Option Slots) → IsLive old slots up l → IsLive new slots up l
  live_kept slots true (Some pushes) held = record {
    eight = held.eight;
    each = λ k small. slot_kept k (slot_of slots k) (get pushes k) (held.each k small);
    others = held.others;
  }
  live_kept slots false None held = held
  live_kept slots true None never = never
  live_kept slots false (Some pushes) never = never

  module _ (kept : refs new ≡ refs old) (slots : List (Option SessionText)) where
    spelled : (n : SharedNode) → HoldsShared old slots true n → Spells (shown new) n.repository
    spelled n held = subst (λ (s : Shown). Spells s n.repository) (sym (shown_packed old new rest kept)) held.spells

    still_held : (n : SharedNode) → HoldsShared old slots true n → HoldsShared new slots true n
    still_held n held = record { spells = spelled n held; clean = still_clean_packed old new rest held.clean; live = live_kept slots true n.live held.live }

    packed : IsRefMap (refs old) → AnswersShared (Asks PackRefs) (RestartedAs (Ok tt)) old new slots slots true true
    packed map = record {
      each = λ n held.
          let w = pushes_of old slots n.live held.live in
          asked_leads (Asks PackRefs) n w.0 w.1 new slots true (still_held n held) PackRefs refl (Did Stored) (inl (apart_from_map (refs old) n.repository.refs held.spells.refs map, refl));
    }

    -- refs of which one is a folder of another are no more apart in the machine
    conflicts : (other : List ℕ) → IsFolder (refs old) other → AnswersShared (Asks PackRefs) (RestartedAs (Err (Ref (ref.Conflict other)))) old new slots slots true true
    conflicts other folder = record {
      each = λ n held.
          let w = pushes_of old slots n.live held.live in
          asked_leads (Asks PackRefs) n w.0 w.1 new slots true (still_held n held) PackRefs refl (Declined 32) (inr (folder_apart (refs old) n.repository.refs held.spells.refs other folder, refl));
    }

    unpacked : (f : FilesFault) → AnswersShared (Asks PackRefs) (RestartedAs (Err (Ref (ref.Fault f)))) old new slots slots true false
    unpacked f = record {
      each = λ n held.
          let w = pushes_of old slots n.live held.live in
          fault_leads (Asks PackRefs) n w.0 w.1 new slots (λ never. cc never) (spelled n held) (still_clean_packed old new rest held.clean) (failure_of f);
    }

    -- clean files are not to blame, so a refusal is a conflict or a fault
    pub packing_answers : (result : Result (Unit {0}) NodeFault) → OnOk result (IsPackedFrom old new) → IfErr result (BlamesPacking old) → AnswersShared (Asks PackRefs) (RestartedAs result) old new slots slots true (up_after result)
    packing_answers (Ok u) done told = packed done.apart
    packing_answers (Err (Ref (ref.Fault f))) done told = unpacked f
    packing_answers (Err (Ref (ref.BadRefFile path))) done first = record { each = λ n held. absurd (held.clean.refs _ first.bad) }
    packing_answers (Err (Ref (ref.Stale current))) done told = absurd told
    packing_answers (Err (Ref (ref.Conflict other))) done told = conflicts other told.1.here
    packing_answers (Err (Ref ref.HeadLoop)) done told = absurd told
    packing_answers (Err (Store e)) done told = absurd told
    packing_answers (Err (Missing id)) done told = absurd told
    packing_answers (Err (NotACommit id)) done told = absurd told
    packing_answers (Err BadPath) done told = absurd told
    packing_answers (Err PathConflict) done told = absurd told
    packing_answers (Err (BadIndex place)) done told = absurd told
    packing_answers (Err (WrongEntry at)) done told = absurd told
    packing_answers (Err Down) done told = absurd told
