-- What is learnt of one commit after another.
use Rattle.std.proofs.Common.{◌≡◌, ◌≢◌, ◌∷◌, ◌++◌, [], ◌⊎◌, ⊎_elim, inl, inr, ◌∙◌, ◌+◌, ℕ, List, Some, None, Contains, IsSome, ap, arith, refl, slice_get, subst, sym, take, true≢false}
use Rattle.std.specs.Prelude.{Bool, true, false}
use Rattle.std.specs.Result.{result_ok}
use Rattle.std.proofs.lemmas.List.{take_more}
use Rattle.std.proofs.lemmas.Option.{get_or_from_slice_get, slice_get_within}
use Rattle.std.proofs.lemmas.List.Elements.{Contains-append_left, Contains-append_right, Contains-append_cases, Contains-push, Contains-push_cases}
use Rattle.vc_history.specs.HistoryFault.{IsTold}
use Rattle.vc_history.specs.Generation.{Learns}
use Rattle.vc_object_map.specs.History.{IsAncestor}
use Rattle.vc_history.specs.Numbering.{numbers}
use Rattle.vc_history.specs.declared.fault.HistoryFault.{HistoryFault}
use Rattle.vc_history.specs.declared.fault.HistoryFault.TheVariants.{Missing, NotACommit, Store}
use Rattle.vc_history.specs.declared.generations.Generations.{Generations}
use Rattle.vc_files.specs.FileMap.{FileMap}
use Rattle.vc_files.specs.declared.faults.Fault.{Fault}
use Rattle.vc_object_map.specs.Graph.{IsClosed, ReachedFrom, Reaches}
use Rattle.vc_object.proofs.ObjectMaps.{parents_in-none}
use Rattle.vc_object.specs.ObjectMap.{parents_in}
use Rattle.vc_object.specs.ObjectId.{is_id}
use Rattle.vc_object.specs.declared.id.ObjectId.{ObjectId}
use Rattle.vc_object_map.specs.Store.{IsDamaged, objects}
use Rattle.vc_object_map.specs.declared.faults.StoreFault.TheVariants as store
use Rattle.vc_quarantine.specs.Learning.{IsLearnt, IsOfWhole, KeepsNumbers}

module _ (content : FileMap) where
  among_more : (some more : List ObjectId) → ((id : ObjectId) → Contains some id → Contains more id) → (x : ObjectId) (n : ℕ) → IsOfWhole content some x n → IsOfWhole content more x n
  among_more some more each x n of = record { tip = of.tip; is_tip = each of.tip of.is_tip; whole = of.whole; ancestor = of.ancestor; generation = of.generation; fits = of.fits }

  pub learnt_none : (known : Generations) → IsLearnt content [] known known
  learnt_none known x n = (inl, λ either. ⊎_elim (λ is. is) (λ of. let never : Contains [] of.tip = of.is_tip in absurd (omega (arith, never.1))) either)

  -- nothing that was known is lost
  pub learnt_kept : (tips : List ObjectId) (known now : Generations) → IsLearnt content tips known now → KeepsNumbers known now
  learnt_kept tips known now learnt x n is = (learnt x n).1 (inl is)

  pub learnt_kept_then : (tips : List ObjectId) (known between now : Generations) → IsLearnt content tips known between
      → ((x : ObjectId) → numbers now x ≡ numbers between x) → KeepsNumbers known now
  learnt_kept_then tips known between now learnt same x n is = same x ∙ learnt_kept tips known between learnt x n is

  -- of a history that is whole all is learnt
  pub learnt_whole : (tip : ObjectId) (known now : Generations) → IsClosed (parents_in (objects content)) tip
      → Learns (parents_in (objects content)) tip (numbers known) (numbers now) → IsLearnt content (tip ∷ []) known now
  learnt_whole tip known now whole learns x n = (
    λ is. ⊎_elim inl (λ h. inr (record { tip = tip; is_tip = Contains-push [] tip; whole = whole; ancestor = h.0; generation = h.1; fits = h.2 })) ((learns x n).0 is),
    λ either. (learns x n).1 (⊎_elim inl (λ of. inr (of_tip of, of.generation, of.fits)) either),
  )
    where
      of_tip : IsOfWhole content (tip ∷ []) x n → IsAncestor (parents_in (objects content)) x tip
      of_tip of = ⊎_elim (λ (never : Contains [] of.tip). absurd (omega (arith, never.1)))
          (λ same. subst (λ t. IsAncestor (parents_in (objects content)) x t) (sym same) of.ancestor)
          (Contains-push_cases [] tip of.tip of.is_tip)

  -- of another nothing is
  pub learnt_broken : (tip : ObjectId) (known now : Generations) → ¬ IsClosed (parents_in (objects content)) tip
      → ((x : ObjectId) → numbers now x ≡ numbers known x) → IsLearnt content (tip ∷ []) known now
  learnt_broken tip known now broken same x n = (
    λ is. inl (sym (same x) ∙ is),
    λ either. ⊎_elim (λ is. same x ∙ is) (λ of. absurd (broken (closed of))) either,
  )
    where
      closed : IsOfWhole content (tip ∷ []) x n → IsClosed (parents_in (objects content)) tip
      closed of = ⊎_elim (λ (never : Contains [] of.tip). absurd (omega (arith, never.1)))
          (λ is. subst (λ t. IsClosed (parents_in (objects content)) t) (sym is) of.whole)
          (Contains-push_cases [] tip of.tip of.is_tip)

  -- what is learnt of one commit more
  pub learnt_more : (tips : List ObjectId) (tip : ObjectId) (known between now : Generations) → IsLearnt content tips known between
      → IsLearnt content (tip ∷ []) between now → IsLearnt content (tips ++ tip ∷ []) known now
  learnt_more tips tip known between now first next x n = (
    λ is. ⊎_elim
        (λ was. ⊎_elim inl (λ of. inr (among_more tips (tips ++ tip ∷ []) (Contains-append_left tips (tip ∷ [])) x n of)) ((first x n).0 was))
        (λ of. inr (among_more (tip ∷ []) (tips ++ tip ∷ []) (Contains-append_right tips (tip ∷ [])) x n of))
        ((next x n).0 is),
    λ either. (next x n).1 (⊎_elim (λ was. inl ((first x n).1 (inl was))) (λ of. by of (Contains-append_cases tips (tip ∷ []) of.tip of.is_tip)) either),
  )
    where
      by : (of : IsOfWhole content (tips ++ tip ∷ []) x n) → Contains tips of.tip ⊎ Contains (tip ∷ []) of.tip → (numbers between x ≡ Some n) ⊎ IsOfWhole content (tip ∷ []) x n
      by of (inl among) = inl ((first x n).1 (inr (record { tip = of.tip; is_tip = among; whole = of.whole; ancestor = of.ancestor; generation = of.generation; fits = of.fits })))
      by of (inr is) = inr (record { tip = of.tip; is_tip = is; whole = of.whole; ancestor = of.ancestor; generation = of.generation; fits = of.fits })

  -- a history of which a name is no commit isn't whole
  pub not_whole : (tip x : ObjectId) → ReachedFrom (parents_in (objects content)) (tip ∷ []) x → parents_in (objects content) x ≡ None → ¬ IsClosed (parents_in (objects content)) tip
  not_whole tip x reached none whole =
      let at_tip : tip ≡ reached.root = ⊎_elim (λ (never : Contains [] reached.root). absurd (omega (arith, never.1))) (λ same. same) (Contains-push_cases [] tip reached.root reached.is_root) in
      absurd (true≢false (sym (subst IsSome none (whole x (subst (λ t. Reaches (parents_in (objects content)) t x) (sym at_tip) reached.reaches)))))

  pub damaged_none : (x : ObjectId) → IsDamaged content x → objects content x ≡ None
  unfolding objects
  damaged_none x damaged = by (is_id x) refl
    where
      by : (b : Bool) → is_id x ≡ b → objects content x ≡ None
      by true is = rw is (ap result_ok damaged)
      by false is = rw is refl

  -- what a walk tells that isn't a fault is of a history that isn't whole
  pub told_broken : (tip : ObjectId) (e : HistoryFault) → IsTold (objects content) (IsDamaged content) (tip ∷ []) e → ((fault : Fault) → e ≢ Store (store.Fault fault)) → ¬ IsClosed (parents_in (objects content)) tip
  told_broken tip (Missing id) told other = not_whole tip id told.0 (parents_in-none (objects content) id told.1)
  told_broken tip (NotACommit id) told other = not_whole tip id told.0 told.1.1
  told_broken tip (Store (store.BadObject fault)) told other = absurd told
  told_broken tip (Store (store.Absent id)) told other = absurd told
  told_broken tip (Store (store.Damaged id)) told other = not_whole tip id told.0 (parents_in-none (objects content) id (damaged_none id told.1))
  told_broken tip (Store (store.Fault fault)) told other = absurd (other fault refl)

  pub learnt_next : (tips : List ObjectId) (i : ℕ) (tip : ObjectId) (known between now : Generations) → slice_get tips i ≡ Some tip → IsLearnt content (take i tips) known between
      → IsLearnt content (tip ∷ []) between now → IsLearnt content (take (i + 1) tips) known now
  learnt_next tips i tip known between now is first next =
      let front : take (i + 1) tips ≡ take i tips ++ tip ∷ [] = take_more tips i tip (slice_get_within tips i tip is) ∙ ap (λ x. take i tips ++ x ∷ []) (get_or_from_slice_get tips i tip tip is) in
      subst (λ (ids : List ObjectId). IsLearnt content ids known now) (sym front) (learnt_more (take i tips) tip known between now first next)
