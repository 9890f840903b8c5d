-- What a clone has learnt once a message was taken, or refused.
use Rattle.std.proofs.Common.{◌≡◌, ◌⊎◌, ⊎_elim, inl, inr, ℕ, Bool, true, not, List, Result, Ok, Err, refl, sym, ap, ◌∙◌, subst, true≢false}
use Rattle.vc_exchange.specs.Learning.{LearnsJudging, LearnsTaking, UnlessFault}
use Rattle.vc_tracking.specs.declared.fault.ExchangeFault.{ExchangeFault}
use Rattle.vc_tracking.specs.declared.fault.ExchangeFault.TheVariants as exchange
use Rattle.vc_files.specs.FileMap.{FileMap, SameOutside}
use Rattle.vc_object_map.specs.Graph.{IsClosed}
use Rattle.vc_history.specs.Generation.{HasGeneration}
use Rattle.vc_object_map.specs.History.{IsAncestor}
use Rattle.vc_history.specs.Stored.{AgreesIn}
use Rattle.vc_history.specs.declared.generations.Generations.{Generations}
use Rattle.vc_object.specs.ObjectMap.{ObjectMap, parents_in}
use Rattle.vc_object.specs.declared.id.ObjectId.{ObjectId}
use Rattle.vc_history.specs.Stored.{KeepsObjects}
use Rattle.vc_exchange.proofs.QuarantinedLemmas.{keeps_beside_slot}
use Rattle.vc_refs.specs.RefMap.{RefMap}
use Rattle.vc_refs.specs.Refs.{refs}
use Rattle.vc_push_rules.proofs.FrameLemmas.{objects-of_slot, refs-of_slot}
use Rattle.vc_history.proofs.StoredLemmas.{numbers_kept}
use Rattle.vc_quarantine.specs.Learning.{IsLearnt, IsOfWhole, Learnt}
use Rattle.vc_push_rules.specs.Quarantine.{quarantine_folder}
use Rattle.vc_object_map.specs.Store.{objects}
use Rattle.vc_node.specs.Awaited.{AwaitedText}
use Rattle.vc_node.specs.CloneFaults.{of_exchange, takes_down, up_after}
use Rattle.vc_node.specs.Arriving.{some_told}
use Rattle.vc_node.specs.Learning.{DueIsLearnt, Leaves, LeavesLearnt, LearnsFrom, LearnsNext, LearnsNothing, SetIsDue}
use Rattle.vc_node.specs.ReceiveFault.{up_after as receive_up_after}
use Rattle.vc_node.specs.declared.clone_fault.CloneFault.{CloneFault}
use Rattle.vc_node.specs.declared.exchanging.Received.{Received}
use Rattle.vc_node.specs.declared.receive_fault.ReceiveFault.{ReceiveFault}
use Rattle.std.specs.Prelude.{Option}

-- ---- the quarantine changes nothing of it
-- of the same objects the same is learnt
whole_at : (a b : FileMap) → objects b ≡ objects a → (tips : List ObjectId) (x : ObjectId) (n : ℕ) → IsOfWhole a tips x n → IsOfWhole b tips x n
whole_at a b same tips x n of = record {
  tip = of.tip;
  is_tip = of.is_tip;
  whole = subst (λ (o : ObjectMap). IsClosed (parents_in o) of.tip) (sym same) of.whole;
  ancestor = subst (λ (o : ObjectMap). IsAncestor (parents_in o) x of.tip) (sym same) of.ancestor;
  generation = subst (λ (o : ObjectMap). HasGeneration (parents_in o) x n) (sym same) of.generation;
  fits = of.fits;
}

learnt_at : (a b : FileMap) → objects b ≡ objects a → (tips : List ObjectId) (known now : Generations) → IsLearnt a tips known now → IsLearnt b tips known now
learnt_at a b same tips known now learnt x n = (
  λ is. ⊎_elim inl (λ of. inr (whole_at a b same tips x n of)) ((learnt x n).0 is),
  λ either. (learnt x n).1 (⊎_elim inl (λ of. inr (whole_at b a (sym same) tips x n of)) either),
)

module _ (old mid : FileMap) (outside : SameOutside (quarantine_folder 0) old mid) where
  slot_objects : objects mid ≡ objects old
  slot_objects i id = objects-of_slot 0 old mid outside id i

  pub agrees_beside : (generations : Generations) → AgreesIn old generations → AgreesIn mid generations
  agrees_beside = numbers_kept old mid (keeps_beside_slot old mid outside)

  judged_since : (new : FileMap) (known now : Learnt) → LearnsJudging mid new known now → LearnsJudging old new known now
  judged_since new known now j = record {
    learnt = learnt_at mid old (sym slot_objects) known.due known.generations now.generations j.learnt;
    due = λ name id is. ⊎_elim (λ was. inl (ap (λ (r : RefMap). r name) (sym (refs-of_slot 0 old mid outside)) ∙ was)) inr (j.due name id is);
  }

-- ---- a value that a ref was set to
pub set_due : SetIsDue
set_due old new known now name id set other j = ⊎_elim (λ was. absurd (other was)) (λ there. there) (j.due name id set)

pub due_learnt : DueIsLearnt
due_learnt old new known now x n of j = (j.learnt x n).1 (inr of)

-- ---- a message that was judged, or refused before
judged_unless : (A P : Type 0) (e : ExchangeFault) → UnlessFault {T = A} (Err e) P → not (takes_down (of_exchange e)) ≡ true → P
judged_unless A P (exchange.Store fault) done up = done
judged_unless A P (exchange.Refs fault) done up = done
judged_unless A P (exchange.Incomplete id) done up = done
judged_unless A P (exchange.Fault fault) done up = absurd (true≢false (sym up))

module _ {A : Type 0} (old mid new : FileMap) (known now : Learnt) (r : Result A ExchangeFault) (taking : LearnsTaking mid new known now r) (keeps : KeepsObjects mid new) (since : LearnsJudging mid new known now → LearnsJudging old new known now) where
  agrees_now : AgreesIn new now.generations
  agrees_now = numbers_kept mid new keeps now.generations taking.agrees

  failed_from : (e : ExchangeFault) → r ≡ Err e → LeavesLearnt (LearnsJudging old new known now ⊎ LearnsNothing old new known now) (not (takes_down (of_exchange e))) new now
  failed_from e was = record {
    agrees = agrees_now;
    learns = λ up. inl (since (judged_unless A (LearnsJudging mid new known now) e (subst (λ (x : Result A ExchangeFault). UnlessFault x (LearnsJudging mid new known now)) was taking.done) up));
  }

  taken_from : (x : A) → r ≡ Ok x → LeavesLearnt (LearnsJudging old new known now) true new now
  taken_from x was = record { agrees = agrees_now; learns = λ up. since (subst (λ (z : Result A ExchangeFault). UnlessFault z (LearnsJudging mid new known now)) was taking.done) }

module _ {A : Type 0} (old new : FileMap) (known now : Learnt) (r : Result A ExchangeFault) (taking : LearnsTaking old new known now r) (keeps : KeepsObjects old new) where
  -- an exchange's fault, as the clone tells it
  pub learns_failed : {T : Type 0} (e : ExchangeFault) → r ≡ Err e → (q : Result T CloneFault) → q ≡ Err (of_exchange e) → LeavesLearnt (LearnsFrom q old new known now) (up_after q) new now
  learns_failed {T} e was q is =
      subst (λ (x : Result T CloneFault). LeavesLearnt (LearnsFrom x old new known now) (up_after x) new now) (sym is) (failed_from old old new known now r taking keeps (λ j. j) e was)

  pub learns_taken : {x : A} → r ≡ Ok x → LeavesLearnt (LearnsJudging old new known now) true new now
  learns_taken {x} was = taken_from old old new known now r taking keeps (λ j. j) x was

-- the same of a pack, before which the quarantine was filled
module _ {A : Type 0} (old mid new : FileMap) (outside : SameOutside (quarantine_folder 0) old mid) (known now : Learnt) (r : Result A ExchangeFault) (taking : LearnsTaking mid new known now r) (keeps : KeepsObjects mid new) where
  pub pack_failed : (e : ExchangeFault) → r ≡ Err e → LeavesLearnt (LearnsJudging old new known now ⊎ LearnsNothing old new known now) (not (takes_down (of_exchange e))) new now
  pack_failed = failed_from old mid new known now r taking keeps (judged_since old mid outside new known now)

  pub pack_taken : {x : A} → r ≡ Ok x → LeavesLearnt (LearnsJudging old new known now) true new now
  pack_taken {x} = taken_from old mid new known now r taking keeps (judged_since old mid outside new known now) x

-- nothing was learnt
pub learns_none : (old new : FileMap) (known : Learnt) (up : Bool) → refs new ≡ refs old → AgreesIn new known.generations → LeavesLearnt (LearnsJudging old new known known ⊎ LearnsNothing old new known known) up new known
learns_none old new known up stayed agrees = record { agrees = agrees; learns = λ is. inr (record { stayed = stayed; same = refl }) }

-- the quarantine is emptied after it
pub learns_dropped : (old mid new : FileMap) (known now : Learnt) (up : Bool) → SameOutside (quarantine_folder 0) mid new → LeavesLearnt (LearnsJudging old mid known now ⊎ LearnsNothing old mid known now) up mid now
    → LeavesLearnt (LearnsJudging old new known now ⊎ LearnsNothing old new known now) up new now
learns_dropped old mid new known now up outside l = record {
  agrees = agrees_beside mid new outside now.generations l.agrees;
  learns = λ is. ⊎_elim (λ j. inl (judged j)) (λ n. inr (nothing n)) (l.learns is);
}
  where
    stays : refs new ≡ refs mid
    stays = refs-of_slot 0 mid new outside

    judged : LearnsJudging old mid known now → LearnsJudging old new known now
    judged j = record { learnt = j.learnt; due = λ name id is. j.due name id (ap (λ (r : RefMap). r name) (sym stays) ∙ is) }

    nothing : LearnsNothing old mid known now → LearnsNothing old new known now
    nothing n = record { stayed = stays ∙ n.stayed; same = n.same }

-- what is told of a message that a reader brought
pub told_leaves : (honest : Type 0) (old new : FileMap) (waits after : AwaitedText) (known now : Learnt) (r : Result Received ReceiveFault) (q : Result (Option Received) ReceiveFault) → q ≡ some_told r
    → Leaves honest (LearnsFrom r old new known now) r (receive_up_after r) new waits after now → Leaves honest (LearnsNext q old new known now) q (receive_up_after q) new waits after now
told_leaves honest old new waits after known now r q is l =
    subst (λ (x : Result (Option Received) ReceiveFault). Leaves honest (LearnsNext x old new known now) x (receive_up_after x) new waits after now) (sym is) (by r l)
  where
    by : (r : Result Received ReceiveFault) → Leaves honest (LearnsFrom r old new known now) r (receive_up_after r) new waits after now
        → Leaves honest (LearnsNext (some_told r) old new known now) (some_told r) (receive_up_after (some_told r)) new waits after now
    by (Ok received) l = record { awaits = tt; learnt = l.learnt }
    by (Err e) l = record { awaits = l.awaits; learnt = l.learnt }
