-- Before a message is judged: what is known to be whole, and what was due is learnt.
use Rattle.std.proofs.Common.{◌≡◌, ◌⊎◌, inl, inr, List, ◌++◌, Some, Result, Ok, Err, Contains, sym, ap, ◌∙◌, subst}
use Rattle.vc_files.specs.FileMap.{FileMap}
use Rattle.vc_files.specs.declared.faults.Fault.{Fault}
use Rattle.vc_object_map.specs.Graph.{IsClosedUnder}
use Rattle.vc_history.specs.Stored.{AgreesIn}
use Rattle.vc_history.specs.declared.generations.Generations.{Generations}
use Rattle.vc_model.specs.Repository.{IsSound, Repository}
use Rattle.vc_object.specs.ObjectMap.{links_in, parents_in}
use Rattle.vc_object.specs.declared.id.ObjectId.{ObjectId}
use Rattle.vc_rules.proofs.WholeLemmas.{refs_whole}
use Rattle.vc_rules.specs.Git.{git}
use Rattle.vc_rules.specs.OpenPushes.{HoldsContent}
use Rattle.vc_push_rules.specs.Known.{AreRefsWhole}
use Rattle.vc_history.proofs.StoredLemmas.{numbers_same}
use Rattle.vc_quarantine.specs.Known.{AreWhole}
use Rattle.vc_quarantine.specs.declared.known.Known.{Known}
use Rattle.vc_object_map.specs.Store.{objects}
use Rattle.vc_refs.specs.RefMap.{RefMap}
use Rattle.vc_refs.specs.Refs.{refs}
use Rattle.vc_quarantine.specs.Learning.{Learnt}
use Rattle.vc_tracking.specs.declared.fault.ExchangeFault.{ExchangeFault}
use Rattle.vc_tracking.specs.declared.fault.ExchangeFault.TheVariants as exchange
use Rattle.vc_tracking.specs.Learning.{AreNoted, LearnsDue}
use Rattle.vc_tracking.specs.Moving.{IsRight}
use Rattle.vc_exchange.specs.Learning.{LearnsJudging, LearnsTaking, UnlessFault}

-- what is found to be whole is so beside what was known
pub whole_more : (old new : FileMap) (known more : Known) → new ≡ old → more.histories ≡ known.histories → (IsClosedUnder (links_in (objects old)) known.objects.keys → IsClosedUnder (links_in (objects old)) more.objects.keys) → AreWhole (objects old) known → AreWhole (objects new) more
whole_more old new known more same others closed whole = subst (λ (f : FileMap). AreWhole (objects f) more) (sym same) (record {
  closed = closed whole.closed;
  histories = subst (λ s. IsClosedUnder (parents_in (objects old)) s.keys) (sym others) whole.histories;
})

-- in a sound repository what its refs reach is whole
pub whole_refs : (old new : FileMap) (known : Known) (r : Repository) → new ≡ old → (AreRefsWhole old → AreWhole (objects old) known) → HoldsContent old r → IsSound git r → AreWhole (objects new) known
whole_refs old new known r same whole held sound = subst (λ (f : FileMap). AreWhole (objects f) known) (sym same) (whole (refs_whole old r held sound))

-- so what is known is right there, where the generations agree
pub right_refs : (old new : FileMap) (known : Known) (generations : Generations) (r : Repository) → new ≡ old → (AreRefsWhole old → AreWhole (objects old) known) → AgreesIn old generations → HoldsContent old r → IsSound git r → IsRight new known generations
right_refs old new known generations r same whole agrees held sound = record { whole = whole_refs old new known r same whole held sound; agrees = numbers_same old new same generations agrees }

-- and what is known beside it
pub right_more : (old first new : FileMap) (known more : Known) (generations : Generations) → first ≡ old → new ≡ first → more.histories ≡ known.histories → AreWhole (objects first) known → (IsClosedUnder (links_in (objects first)) known.objects.keys → IsClosedUnder (links_in (objects first)) more.objects.keys) → AgreesIn old generations → IsRight new more generations
right_more old first new known more generations at same others whole closed agrees = record { whole = whole_more first new known more same others closed whole; agrees = numbers_same old new (same ∙ at) generations agrees }

-- ---- what is learnt
-- a fault claims nothing
pub fault_done : {T : Type 0} (result : Result T ExchangeFault) (fault : Fault) (P : Type 0) → result ≡ Err (exchange.Fault fault) → UnlessFault result P
fault_done {T} result fault P is = subst (λ (r : Result T ExchangeFault). UnlessFault r P) (sym is) tt

pub done_so : {T : Type 0} (result : Result T ExchangeFault) (P : Type 0) → P → UnlessFault result P
done_so (Ok x) P so = so
done_so (Err (exchange.Store fault)) P so = so
done_so (Err (exchange.Refs fault)) P so = so
done_so (Err (exchange.Incomplete id)) P so = so
done_so (Err (exchange.Fault fault)) P so = tt

-- a fault came before all was learnt
pub faulted : {T : Type 0} (old new : FileMap) (known now : Learnt) (result : Result T ExchangeFault) (fault : Fault) → result ≡ Err (exchange.Fault fault) → AgreesIn old now.generations → LearnsTaking old new known now result
faulted old new known now result fault is agrees = record { agrees = agrees; done = fault_done result fault (LearnsJudging old new known now) is }

-- what was due is learnt then, and what was known before agreed
module _ {T : Type 0} {old new : FileMap} {known : Learnt} {generations : Generations} {due : List ObjectId} {result : Result T ExchangeFault}
    (learnt : LearnsDue old known (record { generations = generations; due = due })) (agrees : AgreesIn old generations) where
  -- no ref has moved since
  pub learnt_alone : refs new ≡ refs old → LearnsTaking old new known (record { generations = generations; due = due }) result
  learnt_alone same = record {
    agrees = agrees;
    done = done_so result (LearnsJudging old new known (record { generations = generations; due = due })) (record { learnt = learnt.0; due = λ name id is. inl (ap (λ (r : RefMap). r name) (sym same) ∙ is) });
  }

  -- some have
  pub learnt_moved : (mid last : FileMap) {after : List ObjectId} → refs mid ≡ refs old → refs new ≡ refs last → AreNoted (refs mid) (refs last) due after
      → LearnsTaking old new known (record { generations = generations; due = after }) result
  learnt_moved mid last {after} first then n = record {
    agrees = agrees;
    done = done_so result (LearnsJudging old new known (record { generations = generations; due = after })) (record {
      learnt = learnt.0;
      due = λ name id is.
          elim (n.each name id (ap (λ (r : RefMap). r name) (sym then) ∙ is)) as (λ _. (refs old name ≡ Some id) ⊎ Contains after id) [
            | inl was ↦ inl (ap (λ (r : RefMap). r name) (sym first) ∙ was)
            | inr there ↦ inr (subst (λ (l : List ObjectId). Contains l id) (sym (n.beside ∙ ap (λ (l : List ObjectId). l ++ n.set) learnt.1)) there)
          ];
    });
  }
