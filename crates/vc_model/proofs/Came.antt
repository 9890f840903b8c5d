-- What comes of a call that a node which is up may refuse or obey.
use Rattle.std.proofs.Common.{◌≡◌, ℕ, zero, suc, [], Option, Some, None, ◌⊎◌, inl, inr, refl, ap, ◌∙◌, subst, take}
use Rattle.std.specs.FinMap.{get, empty}
use Rattle.vc_model.specs.Object.{Id, Format, Objects}
use Rattle.vc_model.specs.Repository.{Repository, changed_all, with_objects, no_effect, SomeAdded, Done, StopsWithin}
use Rattle.vc_model.specs.Push.{Slots}
use Rattle.vc_model.specs.Message.{Message}
use Rattle.vc_model.specs.Node.{Node, Answer, Failure, Deed, Ends, sent_by}
use Rattle.vc_model.specs.Node.Answer.{Did, Declined, Fault}
use Rattle.vc_model.specs.Shared.{SharedNode}
use Rattle.vc_model.specs.Clone.{Awaited, CloneNode}
use Rattle.vc_model.specs.Rules.{Rules}
use Rattle.vc_model.specs.SharedCall.{SharedCall, SharedAnswers, SharedRefuses, SharedObeys}
use Rattle.vc_model.specs.SharedCall.SharedCall.{Accept, StepOf}
use Rattle.vc_model.specs.SharedCall.SharedAnswers.{down as shared_down, asked as shared_asked, refused as shared_refused, obeyed as shared_obeyed, pruned as shared_pruned, opened as shared_opened, faulted as shared_faulted}
use Rattle.vc_model.specs.CloneCall.{CloneCall, CloneAnswers, CloneRefuses, CloneObeys}
use Rattle.vc_model.specs.CloneCall.CloneCall.{Command, Receive}
use Rattle.vc_model.specs.CloneCall.CloneAnswers.{down, asked, refused, obeyed, pruned, opened, faulted}
use Rattle.vc_model.proofs.OneAnswer.{same_objects}
use Rattle.vc_model.proofs.Stepping.{over_empty, added_empty}

-- The call was refused, or done whole, or a fault stopped it.
pub data Came {V : Type 0} (old : Node V) (refuses : ℕ → Type 0) (obeys : Deed V → Type 0) (a : Answer) (new : Node V) (sends : Option Message) : Type 0 where
  not_done : (n : ℕ) → refuses n → Came old refuses obeys a new sends
  done : (d : Deed V) → obeys d → Done old.repository d.effect new.repository → new.live ≡ Some d.left → a ≡ Did d.reply → sends ≡ d.sends → Came old refuses obeys a new sends
  stopped : (f : Failure) → a ≡ Fault f → sends ≡ None → new.live ≡ None
      → ((d : Deed V) × obeys d × StopsWithin old.repository d.effect new.repository) ⊎ (new.repository ≡ old.repository) → Came old refuses obeys a new sends

ended : {V : Type 0} (old new : Node V) (refuses : ℕ → Type 0) (obeys : Deed V → Type 0) (a : Answer) (sends : Option Message) (d : Deed V) → obeys d → Ends a old d new → sends ≡ sent_by a d → Came old refuses obeys a new sends
ended old new refuses obeys (Did y) sends d o e is = done d o e.0 e.1 (ap Did e.2) is
ended old new refuses obeys (Fault f) sends d o e is = stopped f refl is e.1 (inl (d, o, e.0))
ended old new refuses obeys (Declined n) sends d o e is = absurd e

same_some : {V : Type 0} (o : Option V) (v w : V) → o ≡ Some v → o ≡ Some w → v ≡ w
same_some o v w e f = cc

none_some : {V : Type 0} (o : Option V) (v : V) → o ≡ None → o ≡ Some v → ⊥
none_some o v e f = absurd (cc)

abbrev pub IsWork : CloneCall → Type 0
IsWork (Command t) = Unit {0}
IsWork (Receive m) = Unit {0}
IsWork _ = ⊥

abbrev pub IsSharedWork : SharedCall → Type 0
IsSharedWork (Accept m) = Unit {0}
IsSharedWork (StepOf s) = Unit {0}
IsSharedWork _ = ⊥

module _ (fmt : Format) (rules : Rules fmt) where
  pub clone_came : (old new : CloneNode) (e : CloneCall) (a : Answer) (sends : Option Message) (w : Awaited) → IsWork e → old.live ≡ Some w → CloneAnswers fmt rules old e a new sends
      → Came old (CloneRefuses fmt rules old.repository w e) (CloneObeys fmt rules old.repository w e) a new sends
  clone_came old new e a sends w work live s = elim s [
    | down off other is same none ↦ absurd (none_some old.live w off live)
    | asked v q up is tells same none ↦ absurd (subst IsWork is work)
    | refused v n up why is same none ↦ not_done n (subst (λ (w : Awaited). CloneRefuses fmt rules old.repository w e n) (same_some old.live v w up live) why)
    | obeyed v d up deed ends is ↦
        ended old new (CloneRefuses fmt rules old.repository w e) (CloneObeys fmt rules old.repository w e) a sends d
        (subst (λ (w : Awaited). CloneObeys fmt rules old.repository w e d) (same_some old.live v w up live) deed) ends is
    | pruned v up is ends none ↦ absurd (subst IsWork is work)
    | opened is ends none ↦ absurd (subst IsWork is work)
    | faulted v f up other is same none ↦ stopped f is none (ap (λ (n : CloneNode). n.live) same) (inr (ap (λ (n : CloneNode). n.repository) same))
  ]

  pub shared_came : (old new : SharedNode) (e : SharedCall) (a : Answer) (sends : Option Message) (w : Slots) → IsSharedWork e → old.live ≡ Some w → SharedAnswers fmt rules old e a new sends
      → Came old (SharedRefuses fmt old.repository w e) (SharedObeys fmt old.repository w e) a new sends
  shared_came old new e a sends w work live s = elim s [
    | shared_down off other is same none ↦ absurd (none_some old.live w off live)
    | shared_asked v q up is tells same none ↦ absurd (subst IsSharedWork is work)
    | shared_refused v n up why is same none ↦ not_done n (subst (λ (w : Slots). SharedRefuses fmt old.repository w e n) (same_some old.live v w up live) why)
    | shared_obeyed v d up deed ends is ↦
        ended old new (SharedRefuses fmt old.repository w e) (SharedObeys fmt old.repository w e) a sends d
        (subst (λ (w : Slots). SharedObeys fmt old.repository w e d) (same_some old.live v w up live) deed) ends is
    | shared_pruned v up is ends none ↦ absurd (subst IsSharedWork is work)
    | shared_opened is ends none ↦ absurd (subst IsSharedWork is work)
    | shared_faulted v f up other is same none ↦ stopped f is none (ap (λ (n : SharedNode). n.live) same) (inr (ap (λ (n : SharedNode). n.repository) same))
  ]

-- ---- an effect that adds nothing

pub stored_same : (r q : Repository) (s : Objects) → ((x : Id) → get s x ≡ get r.objects x) → q ≡ with_objects r s → q ≡ r
stored_same r q s each is = is ∙ ap (with_objects r) (same_objects s r.objects each)

some_empty : (s t : Objects) → SomeAdded s empty t → (x : Id) → get t x ≡ get s x
some_empty s t a x = elim (a.each x) [ inl e ↦ e | inr e ↦ e ∙ over_empty s x ]

pub nothing_done : (r q : Repository) → Done r no_effect q → q ≡ r
nothing_done r q d = stored_same r q d.0 (added_empty r.objects d.0 d.1) d.2

front_none : (k : ℕ) (r : Repository) → changed_all (take k []) r ≡ r
front_none zero r = refl
front_none (suc k) r = refl

pub nothing_cut : (r q : Repository) → StopsWithin r no_effect q → q ≡ r
nothing_cut r q (inl d) = stored_same r q d.0 (some_empty r.objects d.0 d.1) d.2
nothing_cut r q (inr d) = stored_same r q d.0 (added_empty r.objects d.0 d.2) (d.3 ∙ front_none d.1 (with_objects r d.0))
