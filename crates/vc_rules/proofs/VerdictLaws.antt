-- The verdict at the check is the machine's.
use Rattle.std.proofs.Common.{◌≡◌, ◌↔◌, ◌⊎◌, inl, inr, ◌++◌, ℕ, List, [], ◌∷◌, map, Some, None, Bool, true, false, ◌||◌, refl, ap, sym, ◌∙◌, subst, codes, drop, length, nat_eq, true≢false}
use Rattle.std.specs.List.{AllByRecursion, starts_with}
use Rattle.std.proofs.lemmas.Bool.Decides.{Decides-eqb}
use Rattle.std.proofs.lemmas.Slice.Eq.{starts_is}
use Rattle.vc_format.specs.Git.{id_of_bytes}
use Rattle.vc_object_map.specs.Graph as graph
use Rattle.vc_model.specs.Object.{Id, Lookup}
use Rattle.vc_model.specs.Object as model
use Rattle.vc_model.specs.Push as machine
use Rattle.vc_model.specs.Reach.{HasHistory}
use Rattle.vc_model.specs.Refs.{IsBranch, IsTag}
use Rattle.vc_object.proofs.IdLemmas.{id_eq_equiv, id_eq-same}
use Rattle.vc_object.specs.ObjectId.{id_eq}
use Rattle.vc_object.specs.ObjectMap.{ObjectMap, parents_in}
use Rattle.vc_object.specs.declared.id.ObjectId.{ObjectId}
use Rattle.vc_push.specs.Push.{CommandText, zero_id}
use Rattle.vc_push.specs.declared.reason.Reason.{Reason}
use Rattle.vc_push.specs.declared.reason.Reason.TheVariants.{BadName, OutsideRefs, DeletionProhibited, MissingObjects, NotACommit, NonFastForward, AlreadyExists, NameConflict, Stale, UnpackerError, AtomicFailure}
use Rattle.vc_push_rules.specs.Verdict.{CheckNeeds, FirstUnmet, check_reasons, is_branch, is_inside, is_tag}
use Rattle.vc_rules.specs.Git.{git}
use Rattle.vc_rules.specs.Verdicts.{AreFoundAt, CheckNeedsAgree, ChecksAgree, machine_command, machine_reason}
use Rattle.vc_rules.proofs.ReachLemmas.{closed_from, closed_to, history_from, history_to, line_from, line_to}

-- ---- names
begins : (name start : List ℕ) → starts_with nat_eq name start ≡ true ↔ ((rest : List ℕ) × (name ≡ start ++ rest))
begins name start =
    let s = starts_is Decides-eqb name start (starts_with nat_eq name start) refl in
    (λ met. (drop (length start) name, s.0 met), λ h. s.1 h.0 h.1)

module _ (name : List ℕ) where
  pub branch : is_branch name ≡ true ↔ IsBranch name
  branch = begins name (codes "refs/heads/")

  pub tag : is_tag name ≡ true ↔ IsTag name
  tag = begins name (codes "refs/tags/")

  either : (b t : Bool) → (b || t) ≡ true → (b ≡ true) ⊎ (t ≡ true)
  either true t h = inl refl
  either false t h = inr h

  one_of : (b t : Bool) → (b ≡ true) ⊎ (t ≡ true) → (b || t) ≡ true
  one_of true t h = refl
  one_of false t (inl h) = absurd (true≢false (sym h))
  one_of false t (inr h) = h

  mapped : {A B C D : Type 0} → (A → C) → (B → D) → A ⊎ B → C ⊎ D
  mapped f g (inl a) = inl (f a)
  mapped f g (inr b) = inr (g b)

  inside : is_inside name ≡ true ↔ (IsBranch name ⊎ IsTag name)
  inside = (
    λ h. mapped branch.0 tag.0 (either (is_branch name) (is_tag name) h),
    λ h. one_of (is_branch name) (is_tag name) (mapped branch.1 tag.1 h),
  )

-- ---- the zero id
pub zero : (id : ObjectId) → id_eq id zero_id ≡ true ↔ (id.0 ≡ model.zero_id)
zero id = (
  λ e. ap (λ (x : ObjectId). x.0) (id_eq-same id zero_id e),
  λ e. subst (λ (x : Id). id_eq (id_of_bytes x) zero_id ≡ true) (sym e) (id_eq_equiv.refl zero_id),
)

pub not_zero : (id : ObjectId) → id_eq id zero_id ≡ false ↔ (id.0 ≡ model.zero_id → ⊥)
not_zero id = (λ e is. true≢false (sym ((zero id).1 is) ∙ e), λ none. by (id_eq id zero_id) refl none)
  where
    by : (b : Bool) → id_eq id zero_id ≡ b → (id.0 ≡ model.zero_id → ⊥) → b ≡ false
    by true e none = absurd (none ((zero id).0 e))
    by false e none = refl

-- ---- needs
module _ (objects : ObjectMap) (at : Lookup) (c : CommandText) (found : AreFoundAt objects at) where
  history : graph.IsClosed (parents_in objects) c.new ↔ HasHistory git at c.new.0
  history = (history_from objects at found.same found.sound c.new.0, history_to objects at found.same found.sound c.new.0)

  forward : CheckNeeds objects c NonFastForward ↔ machine.CheckNeeds git at (machine_command c) (machine_reason NonFastForward)
  forward = (
    λ need is. mapped c.name (zero c.old).0 (line_from objects at found.same found.sound c.new c.old) (need ((branch c.name).1 is)),
    λ need is. mapped c.name (zero c.old).1 (λ p. line_to objects at found.same found.sound p.0 c.new.0 c.new.0 c.old.0 graph.itself p.1) (need ((branch c.name).0 is)),
  )

  pub needs : (r : Reason) → CheckNeeds objects c r ↔ machine.CheckNeeds git at (machine_command c) (machine_reason r)
  needs BadName = (λ h. h, λ h. h)
  needs OutsideRefs = inside c.name
  needs DeletionProhibited = not_zero c.new
  needs MissingObjects = (closed_from objects at found.same c.new.0, closed_to objects at found.same c.new.0)
  needs NotACommit = (λ need is. history.0 (need ((branch c.name).1 is)), λ need is. history.1 (need ((branch c.name).0 is)))
  needs NonFastForward = forward
  needs AlreadyExists = (λ h. h, λ h. h)
  needs NameConflict = (λ h. h, λ h. h)
  needs Stale = (λ h. h, λ h. h)
  needs UnpackerError = (λ h. h, λ h. h)
  needs AtomicFailure = (λ h. h, λ h. h)

-- ---- the first that is not met
module _ (A : Reason → Type 0) (B : machine.Reason → Type 0) (agree : (r : Reason) → A r ↔ B (machine_reason r)) where
  pub all_met : (qs : List Reason) → AllByRecursion A qs → AllByRecursion B (map machine_reason qs)
  all_met [] h = tt
  all_met (q ∷ qs) h = ((agree q).0 h.0, all_met qs h.1)

  pub first_unmet : (qs : List Reason) (r : Reason) → FirstUnmet A qs r → machine.FirstUnmet B (map machine_reason qs) (machine_reason r)
  first_unmet [] r h = h
  first_unmet (q ∷ qs) r (inl h) = inl ((λ met. h.0 ((agree q).1 met)), ap machine_reason h.1)
  first_unmet (q ∷ qs) r (inr h) = inr ((agree q).0 h.0, first_unmet qs r h.1)

pub check_needs_agree : CheckNeedsAgree
check_needs_agree objects at c r found = needs objects at c found r

pub checks_agree : ChecksAgree
checks_agree objects at c None found h = all_met (CheckNeeds objects c) (machine.CheckNeeds git at (machine_command c)) (needs objects at c found) check_reasons h
checks_agree objects at c (Some r) found h = first_unmet (CheckNeeds objects c) (machine.CheckNeeds git at (machine_command c)) (needs objects at c found) check_reasons r h
