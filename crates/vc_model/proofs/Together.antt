-- The commands of an atomic push are set together or not at all.
use Rattle.std.proofs.Common.{◌≡◌, ℕ, zero, suc, true, List, [], ◌∷◌, map, Option, Some, ◌⊎◌, inl, inr, refl, sym, ap, ◌∙◌, subst, take}
use Rattle.std.specs.FinMap.{get}
use Rattle.vc_model.specs.Object.{Format, Objects}
use Rattle.vc_model.specs.Repository.{Repository, Change, Effect, changed_all, with_objects}
use Rattle.vc_model.specs.Repository.Change.{SetRefs}
use Rattle.vc_model.specs.Push.{OpenPush, Slots, Stage, new_value}
use Rattle.vc_model.specs.Push.Stage.{Unpacked, Checked, Migrated, Finished}
use Rattle.vc_model.specs.Message.{Message}
use Rattle.vc_model.specs.Node.{Node, Answer, Reply, Deed, Ends}
use Rattle.vc_model.specs.Node.Answer.{Did, Declined, Fault}
use Rattle.vc_model.specs.Shared.{SharedStep, StepsPush, StepsSlot, IsNeeded}
use Rattle.vc_model.specs.Shared.SharedEvent.{StepSlot}
use Rattle.vc_model.specs.Shared.UpdatesPush.{together, singly}
use Rattle.vc_model.specs.Shared.SharedStep.{down, declines, works, prunes, restarts, quiet, faults}
use Rattle.vc_model.specs.World.{World, Event, ForShared}
use Rattle.vc_model.specs.World.Step.{no_message, at_shared, at_clone}
use Rattle.vc_model.specs.Run.{world_after}
use Rattle.vc_model.specs.Safe.{AreSetTogether, Together}
use Rattle.vc_model.proofs.Kept.{prune_ok, restart_ok}

-- no change, or all of the push's new values
abbrev AllOrNone : OpenPush → List Change → Type 0
AllOrNone p cs = (cs ≡ []) ⊎ (cs ≡ SetRefs (map new_value p.commands) ∷ [])

stage_all : (fmt : Format) (r : Repository) (p q : OpenPush) (x : Stage) (e : Effect) (y : Reply) → p.atomic ≡ true → StepsPush fmt r p x e q y → AllOrNone p e.changes
stage_all fmt r p q Unpacked e y t h = inl (ap (λ (e : Effect). e.changes) h.2)
stage_all fmt r p q Checked e y t h = inl (ap (λ (e : Effect). e.changes) h.0)
stage_all fmt r p q Migrated e y t h = elim (h.2) [
  | together rs a u z ↦ elim (u.1) [
    | inl k ↦ inr (ap (λ (e : Effect). e.changes) h.3 ∙ k.2)
    | inr k ↦ inl (ap (λ (e : Effect). e.changes) h.3 ∙ k.2)
  ]
  | singly u a z ↦ absurd (cc)
]
stage_all fmt r p q Finished e y t h = absurd h

slot_all : (fmt : Format) (r : Repository) (slots : Slots) (s : ℕ) (p : OpenPush) (d : Deed Slots) → get slots s ≡ Some p → p.atomic ≡ true → StepsSlot fmt r slots s d → AllOrNone p d.effect.changes
slot_all fmt r slots s p d got t h =
    let f = h.1 in
    let same : h.0 ≡ p = cc in
    elim (h.2) [
      | inl w ↦ subst (λ p. AllOrNone p d.effect.changes) same (stage_all fmt r h.0 w.0 h.0.stage d.effect d.reply (ap (λ (p : OpenPush). p.atomic) same ∙ t) w.1)
      | inr w ↦ inl (ap (λ (d : Deed Slots). d.effect.changes) w.3)
    ]

front_all : (p : OpenPush) (r : Repository) (s : Objects) (cs : List Change) (k : ℕ) → AllOrNone p cs → AreSetTogether p r.refs (changed_all (take k cs) (with_objects r s)).refs
front_all p r s cs k (inl e) = subst (λ cs. AreSetTogether p r.refs (changed_all (take k cs) (with_objects r s)).refs) (sym e) (none k)
  where
    none : (k : ℕ) → AreSetTogether p r.refs (changed_all (take k []) (with_objects r s)).refs
    none zero = inl refl
    none (suc k) = inl refl
front_all p r s cs k (inr e) = subst (λ cs. AreSetTogether p r.refs (changed_all (take k cs) (with_objects r s)).refs) (sym e) (some k)
  where
    some : (k : ℕ) → AreSetTogether p r.refs (changed_all (take k (SetRefs (map new_value p.commands) ∷ [])) (with_objects r s)).refs
    some zero = inl refl
    some (suc zero) = inr refl
    some (suc (suc k)) = inr refl

whole_all : (p : OpenPush) (r : Repository) (s : Objects) (cs : List Change) → AllOrNone p cs → AreSetTogether p r.refs (changed_all cs (with_objects r s)).refs
whole_all p r s cs (inl e) = subst (λ cs. AreSetTogether p r.refs (changed_all cs (with_objects r s)).refs) (sym e) (inl refl)
whole_all p r s cs (inr e) = subst (λ cs. AreSetTogether p r.refs (changed_all cs (with_objects r s)).refs) (sym e) (inr refl)

ends_all : (p : OpenPush) (a : Answer) (n m : Node Slots) (d : Deed Slots) → AllOrNone p d.effect.changes → Ends a n d m → AreSetTogether p n.repository.refs m.repository.refs
ends_all p (Did y) n m d h e = subst (λ (r : Repository). AreSetTogether p n.repository.refs r.refs) (sym e.0.2) (whole_all p n.repository e.0.0 d.effect.changes h)
ends_all p (Fault f) n m d h e = elim (e.0) [
  | inl k ↦ subst (λ (r : Repository). AreSetTogether p n.repository.refs r.refs) (sym k.2) (inl refl)
  | inr k ↦ subst (λ (r : Repository). AreSetTogether p n.repository.refs r.refs) (sym k.3) (front_all p n.repository k.0 d.effect.changes k.1 h)
]
ends_all p (Declined k) n m d h e = absurd e

shared_all : (fmt : Format) (old new : Node Slots) (slots : Slots) (s : ℕ) (p : OpenPush) (a : Answer) (sends : Option Message) → old.live ≡ Some slots → get slots s ≡ Some p → p.atomic ≡ true
    → SharedStep fmt old (StepSlot s) a new sends → AreSetTogether p old.repository.refs new.repository.refs
shared_all fmt old new slots s p a sends up got t step = elim step [
  | down x y v z is none ↦ inl (ap (λ (n : Node Slots). n.repository.refs) is)
  | declines l n x y z is none ↦ inl (ap (λ (n : Node Slots). n.repository.refs) is)
  | works l d up' does ends is ↦
      let same : l ≡ slots = cc in
      ends_all p a old new d (slot_all fmt old.repository slots s p d got t (subst (λ l. StepsSlot fmt old.repository l s d) same does)) ends
  | prunes l x up' ends none ↦ inl (ap (λ (r : Repository). r.refs) (prune_ok a (IsNeeded fmt old.repository l) old new ends).rest)
  | restarts x ends none ↦ inl (ap (λ (r : Repository). r.refs) (restart_ok a old Rattle.std.specs.FinMap.empty new ends).same)
  | quiet x y is none ↦ inl (ap (λ (n : Node Slots). n.repository.refs) is)
  | faults l f x y is none ↦ inl (ap (λ (n : Node Slots). n.repository.refs) is)
]

pub all_together : Together
all_together fmt start m h slots s p r up got t is =
    let old : World = world_after start h in
    elim (r.0) [
      | no_message k x y z same ↦ inl (ap (λ (w : World). w.shared.repository.refs) same)
      | at_shared c i n sends for step same ↦
          let here : i ≡ StepSlot s = (subst (λ (e : Event). ForShared fmt old e c i) is for).1 in
          subst (λ (w : World). AreSetTogether p old.shared.repository.refs w.shared.repository.refs) (sym same)
          (shared_all fmt old.shared n slots s p m.answer sends up got t (subst (λ i. SharedStep fmt old.shared i m.answer n sends) here step))
      | at_clone c i n k sends for is' step same ↦ inl (ap (λ (w : World). w.shared.repository.refs) same)
    ]
