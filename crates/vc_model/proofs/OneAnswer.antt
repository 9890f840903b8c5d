-- What both nodes' calls share: one effect leads to one node, one prune, one restart, one answer to a question.
use Rattle.std.proofs.Common.{◌≡◌, ◌≢◌, ℕ, List, Option, Some, None, Result, Ok, Err, ◌⊎◌, inl, inr, refl, sym, ap, ◌∙◌, subst}
use Rattle.std.specs.FinMap.{get, same_map, len}
use Rattle.std.specs.Option.{option_or}
use Rattle.std.specs.Cmp.Lexicographic.{nat_list_cmp_total}
use Rattle.vc_model.specs.Object.{Id, Object, Format, Objects}
use Rattle.vc_model.specs.Repository.{Repository, Effect, AllAdded, Done, changed_all, with_objects}
use Rattle.vc_model.specs.Message.{Message}
use Rattle.vc_model.specs.Node.{Node, Answer, IsNoFault, Deed, Ends, sent_by, PruneEnds, RestartEnds, IsDifference}
use Rattle.vc_model.specs.Node.Answer.{Did, Declined, Fault}
use Rattle.vc_model.specs.Node.Reply.{Same, Differs, Removed}
use Rattle.vc_model.specs.Rules.{Rules}
use Rattle.vc_model.specs.Question.{Question, Tells, Compares, Packs, found}
use Rattle.vc_model.specs.Question.Question.{Unread, Unresolved, Interrupted, Resolve, Compare, PackRefs}
use Rattle.vc_model.proofs.Maps.{bytes_same}

pub same_objects : (s t : Objects) → ((x : Id) → get s x ≡ get t x) → s ≡ t
same_objects s t h = same_map nat_list_cmp_total bytes_same s t h

pub added_once : (s c t u : Objects) → AllAdded s c t → AllAdded s c u → t ≡ u
added_once s c t u a b = same_objects t u (λ x. a.each x ∙ sym (b.each x))

pub done_once : (old : Repository) (e : Effect) (m n : Repository) → Done old e m → Done old e n → m ≡ n
done_once old e m n a b =
    a.2 ∙ (ap (λ s. changed_all e.changes (with_objects old s)) (added_once old.objects e.objects a.0 b.0 a.1 b.1) ∙ sym b.2)

-- A set of objects that are reached from some and not from others is one.
pub difference_once : (fmt : Format) (s : Objects) (include exclude : Id → Type 0) (d e : Objects) → IsDifference fmt s include exclude d → IsDifference fmt s include exclude e → d ≡ e
difference_once fmt s include exclude d e a b = same_objects d e (λ x. go x (get d x) refl (get e x) refl)
  where
    go : (x : Id) (p : Option Object) → get d x ≡ p → (q : Option Object) → get e x ≡ q → get d x ≡ get e x
    go x (Some o) i q j = let h = a.only x o i in i ∙ sym (b.all x o h.0 h.1 h.2)
    go x None i (Some o) j = let h = b.only x o j in a.all x o h.0 h.1 h.2 ∙ sym j
    go x None i None j = i ∙ sym j

same_node : {V : Type 0} (r q : Repository) (k l : Option V) → r ≡ q → k ≡ l → ◌≡◌ {A = Node V} (record { repository = r; live = k }) (record { repository = q; live = l })
same_node r q k l e f = cc

-- one answer, one node, one message or none
abbrev pub AreOne : {V : Type 0} → Answer → Answer → Node V → Node V → Option Message → Option Message → Type 0
AreOne a b m n s t = (a ≡ b) × (m ≡ n) × (s ≡ t)

-- ---- a call that is refused or obeyed

module _ {V : Type 0} (old : Node V) (refuses : V → ℕ → Type 0) (obeys : V → Deed V → Type 0) where
  -- The call is refused, or obeyed.
  abbrev pub Worked : V → Answer → Node V → Option Message → Type 0
  Worked w a new s =
      ((n : ℕ) × refuses w n × (a ≡ Declined n) × (new ≡ old) × (s ≡ None))
      ⊎ ((d : Deed V) × obeys w d × Ends a old d new × (s ≡ sent_by a d))

  ends_once : (d : Deed V) (a b : Answer) (m n : Node V) (s t : Option Message) → Ends a old d m → Ends b old d n → s ≡ sent_by a d → t ≡ sent_by b d → IsNoFault a → IsNoFault b → AreOne a b m n s t
  ends_once d (Did y) (Did z) m n s t e f u v p q = (
    ap Did (e.2 ∙ sym f.2),
    same_node m.repository n.repository m.live n.live (done_once old.repository d.effect m.repository n.repository e.0 f.0) (e.1 ∙ sym f.1),
    u ∙ sym v,
  )
  ends_once d (Fault f) b m n s t e g u v p q = absurd p
  ends_once d a (Fault f) m n s t e g u v p q = absurd q
  ends_once d (Declined k) b m n s t e f u v p q = absurd e
  ends_once d (Did y) (Declined k) m n s t e f u v p q = absurd f

  pub worked_once : ((w : V) (n k : ℕ) → refuses w n → refuses w k → n ≡ k) → ((w : V) (d e : Deed V) → obeys w d → obeys w e → d ≡ e) → ((w : V) (n : ℕ) (d : Deed V) → refuses w n → obeys w d → ⊥)
      → (w : V) (a b : Answer) (m n : Node V) (s t : Option Message) → Worked w a m s → Worked w b n t → IsNoFault a → IsNoFault b → AreOne a b m n s t
  worked_once refusal deed apart w a b m n s t (inl g) (inl h) p q = (g.2 ∙ (ap Declined (refusal w g.0 h.0 g.1 h.1) ∙ sym h.2), g.3 ∙ sym h.3, g.4 ∙ sym h.4)
  worked_once refusal deed apart w a b m n s t (inl g) (inr h) p q = absurd (apart w g.0 h.0 g.1 h.1)
  worked_once refusal deed apart w a b m n s t (inr g) (inl h) p q = absurd (apart w h.0 g.0 h.1 g.1)
  worked_once refusal deed apart w a b m n s t (inr g) (inr h) p q =
      let same : h.0 ≡ g.0 = deed w h.0 g.0 h.1 g.1 in
      ends_once g.0 a b m n s t g.2 (subst (λ (d : Deed V). Ends b old d n) same h.2) g.3 (h.3 ∙ ap (sent_by b) same) p q

-- ---- prunes and restarts

pub prune_once : {V : Type 0} (needed : Id → Type 0) (old : Node V) (a b : Answer) (m n : Node V) → PruneEnds a needed old m → PruneEnds b needed old n → IsNoFault a → IsNoFault b → (a ≡ b) × (m ≡ n)
prune_once {V} needed old (Did y) (Did z) m n e f p q =
    let objects : m.repository.objects ≡ n.repository.objects = same_objects m.repository.objects n.repository.objects (λ x. go x (e.0 x) (f.0 x)) in (
      ap Did (e.3 ∙ (ap (λ s. Removed (Rattle.std.specs.Prelude.◌-◌ (len old.repository.objects) (len s))) objects ∙ sym f.3)),
      same_node m.repository n.repository m.live n.live (e.1 ∙ (ap (with_objects old.repository) objects ∙ sym f.1)) (e.2 ∙ sym f.2),
    )
  where
    go : (x : Id) → (needed x × (get m.repository.objects x ≡ get old.repository.objects x)) ⊎ ((¬ needed x) × (get m.repository.objects x ≡ None))
        → (needed x × (get n.repository.objects x ≡ get old.repository.objects x)) ⊎ ((¬ needed x) × (get n.repository.objects x ≡ None)) → get m.repository.objects x ≡ get n.repository.objects x
    go x (inl g) (inl h) = g.1 ∙ sym h.1
    go x (inr g) (inr h) = g.1 ∙ sym h.1
    go x (inl g) (inr h) = absurd (h.0 g.0)
    go x (inr g) (inl h) = absurd (g.0 h.0)
prune_once needed old (Fault f) b m n e g p q = absurd p
prune_once needed old a (Fault f) m n e g p q = absurd q
prune_once needed old (Declined k) b m n e f p q = absurd e
prune_once needed old (Did y) (Declined k) m n e f p q = absurd f

pub restart_once : {V : Type 0} (old : Node V) (fresh : V) (a b : Answer) (m n : Node V) → RestartEnds a old fresh m → RestartEnds b old fresh n → IsNoFault a → IsNoFault b → (a ≡ b) × (m ≡ n)
restart_once old fresh (Did y) (Did z) m n e f p q = (ap Did (e.0 ∙ sym f.0), e.1 ∙ sym f.1)
restart_once old fresh (Fault f) b m n e g p q = absurd p
restart_once old fresh a (Fault f) m n e g p q = absurd q
restart_once old fresh (Declined k) b m n e f p q = absurd e
restart_once old fresh (Did y) (Declined k) m n e f p q = absurd f

-- ---- questions

module _ (fmt : Format) (rules : Rules fmt) (r : Repository) where
  second_once : (x : Id) (second : List ℕ) (a b : Answer) → Compares fmt rules r (Ok x) second a → Compares fmt rules r (Ok x) second b → a ≡ b
  second_once x second a b g h =
      let same : g.0 ≡ h.0 = rules.one_value r second g.0 h.0 g.1 h.1 in
      go g.0 h.0 same g.2 h.2
    where
      go : (v w : Result Id ℕ) → v ≡ w
          → ((n : ℕ) × (v ≡ Err n) × (a ≡ Declined n)) ⊎ (((v ≡ Ok x) × (a ≡ Did Same)) ⊎ ((y : Id) × (v ≡ Ok y) × (x ≢ y) × (a ≡ Did Differs)))
          → ((n : ℕ) × (w ≡ Err n) × (b ≡ Declined n)) ⊎ (((w ≡ Ok x) × (b ≡ Did Same)) ⊎ ((y : Id) × (w ≡ Ok y) × (x ≢ y) × (b ≡ Did Differs))) → a ≡ b
      go v w e (inl p) (inl q) = let n = p.1 in let m = q.1 in let s : p.0 ≡ q.0 = cc in p.2 ∙ (ap Declined s ∙ sym q.2)
      go v w e (inl p) (inr (inl q)) = absurd (let n = p.1 in let m = q.0 in cc)
      go v w e (inl p) (inr (inr q)) = absurd (let n = p.1 in let m = q.1 in cc)
      go v w e (inr (inl p)) (inl q) = absurd (let n = p.0 in let m = q.1 in cc)
      go v w e (inr (inl p)) (inr (inl q)) = p.1 ∙ sym q.1
      go v w e (inr (inl p)) (inr (inr q)) = absurd (q.2 (let n = p.0 in let m = q.1 in cc))
      go v w e (inr (inr p)) (inl q) = absurd (let n = p.1 in let m = q.1 in cc)
      go v w e (inr (inr p)) (inr (inl q)) = absurd (p.2 (let n = p.1 in let m = q.0 in cc))
      go v w e (inr (inr p)) (inr (inr q)) = p.3 ∙ sym q.3

  compare_once : (v : Result Id ℕ) (second : List ℕ) (a b : Answer) → Compares fmt rules r v second a → Compares fmt rules r v second b → a ≡ b
  compare_once (Err n) second a b g h = g ∙ sym h
  compare_once (Ok x) second a b g h = second_once x second a b g h

  packed_once : (a b : Answer) → Packs r a → Packs r b → a ≡ b
  packed_once a b (inl g) (inl h) = g.1 ∙ sym h.1
  packed_once a b (inl g) (inr h) = absurd (h.0 g.0)
  packed_once a b (inr g) (inl h) = absurd (g.0 h.0)
  packed_once a b (inr g) (inr h) = g.1 ∙ sym h.1

  pub told_once : (q : Question) (a b : Answer) → Tells fmt rules r q a → Tells fmt rules r q b → a ≡ b
  told_once (Unread n) a b g h = g ∙ sym h
  told_once (Unresolved n) a b g h = g ∙ sym h
  told_once Interrupted a b g h = absurd g
  told_once (Resolve e) a b g h = g.2 ∙ (ap found (rules.one_value r e g.0 h.0 g.1 h.1) ∙ sym h.2)
  told_once (Compare first second) a b g h =
      compare_once h.0 second a b (subst (λ v. Compares fmt rules r v second a) (rules.one_value r first g.0 h.0 g.1 h.1) g.2) h.2
  told_once PackRefs a b g h = packed_once a b g h
