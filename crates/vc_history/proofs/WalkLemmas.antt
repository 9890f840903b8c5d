-- The walk over a history: what holds of it as it goes, and what it has gathered at its end.
use Rattle.std.proofs.Common.{◌≡◌, ◌≢◌, ℕ, ◌+◌, ◌<◌, ◌≤◌, ◌⊎◌, inl, inr, ⊎_elim, true, List, [], ◌∷◌, length, get_or, is_none, Option, Some, None, IsSome, Contains, MatchOption, sym, ap, subst, ◌∙◌, refl, true≢false, arith, length-append}
use Rattle.std.specs.Option.{option_map}
use Rattle.std.proofs.Math.ListN.{get_or-append}
use Rattle.std.proofs.Math.Seq.{get_or-append_seam}
use Rattle.std.proofs.lemmas.Bool.{cases_lt}
use Rattle.std.proofs.lemmas.List.Elements.{All-contains, filter_passes}
use Rattle.std.proofs.lemmas.List.Quantifiers.{position-Some}
use Rattle.std.proofs.lemmas.Option.{get_or_from_slice_get, slice_get_within}
use Rattle.indexmap.specs.IndexSet.{insert_all}
use Rattle.vc_object.specs.ObjectMap.{ObjectMap, parents_in}
use Rattle.vc_object.specs.ObjectId.{id_eq}
use Rattle.vc_object.specs.declared.id.ObjectId.{ObjectId}
use Rattle.vc_object.proofs.IdLemmas.{id_eq-same, id_eq_equiv}
use Rattle.vc_object.proofs.ObjectMaps.{parents_in-none}
use Rattle.vc_object_map.specs.Graph.{LinksTo, Reaches, ReachedFrom, itself, onward}
use Rattle.vc_object_map.proofs.WalkLemmas.{Walks, Walks-start, Walks-step, insert_all-prefix, Contains-insert_all_old, Contains-from_slice_get, IsFollowed-none}
use Rattle.vc_history.specs.HistoryFault.{IsTold}
use Rattle.vc_history.specs.Generation.{Agrees}
use Rattle.vc_object_map.specs.Parents.{IsOther}
use Rattle.vc_history.specs.Walk.{Gathers, Reads, parents_read, read_at, unnumbered}
use Rattle.vc_history.specs.declared.fault.HistoryFault.TheVariants.{NotACommit}
use Rattle.vc_history.proofs.GatheredLemmas.{met_or_beyond-linked}
use Rattle.vc_history.proofs.HistoryLemmas.{Reaches-same, LinksTo-steps, LinksTo-parents, steps_in, steps_in-commit, steps_in-other, there-from_steps, position-from_Contains}
use Rattle.vc_history.proofs.FilterLemmas.{Contains-filter, Contains-from_filter}

module _ (objects : ObjectMap) (beyond : ObjectId → Option ℕ) where
  -- where the walk goes from a name
  unfoldable pub steps_within : ObjectId → Option (List ObjectId)
  steps_within id = option_map (unnumbered beyond) (steps_in objects id)

  steps_within-is : (id : ObjectId) (ys : List ObjectId) → steps_in objects id ≡ Some ys → steps_within id ≡ Some (unnumbered beyond ys)
  unfolding steps_within
  steps_within-is id ys is = ap (option_map (unnumbered beyond)) is

  LinksTo-within : (x y : ObjectId) → LinksTo steps_within x y → LinksTo (steps_in objects) x y
  unfolding steps_within
  LinksTo-within x y h = by (steps_in objects x) refl h.1
    where
      by : (o : Option (List ObjectId)) → steps_in objects x ≡ o → option_map (unnumbered beyond) o ≡ Some h.0 → LinksTo (steps_in objects) x y
      by None e is = absurd (cc)
      by (Some ys) e is =
          let same : unnumbered beyond ys ≡ h.0 = cc in
          (ys, e, (Contains-from_filter (λ id. is_none (beyond id)) ys y (subst (λ l. Contains l y) (sym same) h.2)).0)

  LinksTo-unnumbered : (x y : ObjectId) → LinksTo steps_within x y → beyond y ≡ None
  unfolding steps_within
  LinksTo-unnumbered x y h = by (steps_in objects x) refl h.1
    where
      none : (o : Option ℕ) → is_none o ≡ true → o ≡ None
      none None e = refl
      none (Some n) e = absurd (true≢false (sym e))

      by : (o : Option (List ObjectId)) → steps_in objects x ≡ o → option_map (unnumbered beyond) o ≡ Some h.0 → beyond y ≡ None
      by None e is = absurd (cc)
      by (Some ys) e is =
          let same : unnumbered beyond ys ≡ h.0 = cc in
          none (beyond y) (All-contains (λ z. is_none (beyond z) ≡ true) (unnumbered beyond ys) y (filter_passes (λ id. is_none (beyond id)) ys) (subst (λ l. Contains l y) (sym same) h.2))

  module _ (roots : List ObjectId) where
    -- the walk so far: the parents of the first names are read, and where no other object was met, these are commits
    pub record Meets (met : List ObjectId) (read : List (List ObjectId)) (other : Option ObjectId) : Type 0 where
      pub walks : Walks steps_within roots met (length read)
      pub stands : (k : ℕ) (d : ObjectId) → k < length read → steps_in objects (get_or met k d) ≡ Some (get_or read k [])
      pub others : MatchOption other ((k : ℕ) (d : ObjectId) → k < length read → IsSome (parents_in objects (get_or met k d))) (λ id. Contains met id × IsOther objects id)

    pub Meets-start : (met : List ObjectId) (read : List (List ObjectId)) (other : Option ObjectId) → met ≡ insert_all id_eq [] roots → read ≡ [] → other ≡ None → Meets met read other
    Meets-start met read other added none no_other =
        let start : Meets met [] None = record {
          walks = Walks-start steps_within [] roots id_eq id_eq-same met (IsFollowed-none steps_within [] refl) added;
          stands = λ k d below. absurd (omega (arith, below));
          others = λ k d below. absurd (omega (arith, below));
        } in
        rw (none, no_other) start

    module _ (met met_after : List ObjectId) (read read_after : List (List ObjectId)) (other other_after : Option ObjectId) (id : ObjectId)
        (step : Reads objects beyond met met_after read read_after other other_after id) where
      met-stays : (k : ℕ) (d : ObjectId) → k < length met → get_or met_after k d ≡ get_or met k d
      met-stays k d below =
          let prefix = insert_all-prefix id_eq met (unnumbered beyond step.own) in
          ap (λ l. get_or l k d) (step.met_own ∙ prefix.1) ∙ get_or-append met prefix.0 d k below

      read-within : length read < length met
      read-within = slice_get_within met (length read) id step.next

      read-more : length read_after ≡ length read + 1
      read-more = ap length step.read_own ∙ length-append read (step.own ∷ [])

      read-next : (d : ObjectId) → get_or met_after (length read) d ≡ id
      read-next d = met-stays (length read) d read-within ∙ get_or_from_slice_get met (length read) id d step.next

      goes : steps_in objects id ≡ Some step.own
      goes = ⊎_elim (λ c. steps_in-commit objects id step.own c.0) (λ o. steps_in-other objects id o.0 ∙ ap Some (sym o.1)) step.kind

      read-cases : (P : ℕ → Type 0) → ((k : ℕ) → k < length read → P k) → P (length read) → (k : ℕ) → k < length read_after → P k
      read-cases P before last k below = elim (cases_lt k (length read)) [
        | inl b ↦ before k b
        | inr l ↦ let is : length read ≡ k = omega (arith, l, below, read-more) in subst P is last
      ]

      -- where no other object was met by now, none was met before, and the next is a commit
      pub other-before_next : other_after ≡ None → (other ≡ None) × IsSome (parents_in objects id)
      other-before_next none = ⊎_elim (λ c. (sym c.1 ∙ none, subst (λ p. IsSome p) (sym c.0) refl))
          (λ o. let not_none : None ≡ Some id = sym none ∙ o.2 in absurd (cc)) step.kind

      -- a name that was not read before, and is not the next, was not read
      pub unread-after : (a : ObjectId) → ((k : ℕ) (d : ObjectId) → k < length read → get_or met k d ≢ a) → id ≢ a → (k : ℕ) (d : ObjectId) → k < length read_after → get_or met_after k d ≢ a
      unread-after a unread differs k d = read-cases (λ k. get_or met_after k d ≢ a)
          (λ k below is. unread k d below (sym (met-stays k d (omega (arith, below, read-within))) ∙ is))
          (λ is. differs (sym (read-next d) ∙ is)) k

      pub Meets-reads : Meets met read other → Meets met_after read_after other_after
      Meets-reads meets = record {
        walks = subst (λ n. Walks steps_within roots met_after n) (sym read-more)
            (Walks-step steps_within roots id_eq id_eq-same met met_after (unnumbered beyond step.own) (length read) id meets.walks step.next (steps_within-is id step.own goes) step.met_own);
        stands = λ k d. read-cases (λ k. steps_in objects (get_or met_after k d) ≡ Some (get_or read_after k []))
            (λ k below. ap (steps_in objects) (met-stays k d (omega (arith, below, read-within))) ∙ meets.stands k d below
            ∙ ap Some (sym (ap (λ l. get_or l k []) step.read_own ∙ get_or-append read (step.own ∷ []) [] k below)))
            (ap (steps_in objects) (read-next d) ∙ goes ∙ ap Some (sym (ap (λ l. get_or l (length read) []) step.read_own ∙ get_or-append_seam read step.own [] []))) k;
        others = ⊎_elim (λ c. subst (λ o. Others o) (sym c.1) (by other meets.others c.0))
            (λ o. subst (λ x. Others x) (sym o.2) (stays id (Contains-from_slice_get met (length read) id step.next), o.0))
            step.kind;
      }
        where
          Others : Option ObjectId → Type 0
          Others o = MatchOption o ((k : ℕ) (d : ObjectId) → k < length read_after → IsSome (parents_in objects (get_or met_after k d))) (λ x. Contains met_after x × IsOther objects x)

          stays : (x : ObjectId) → Contains met x → Contains met_after x
          stays x h = subst (λ l. Contains l x) (sym step.met_own) (Contains-insert_all_old id_eq met (unnumbered beyond step.own) x h)

          by : (o : Option ObjectId) → MatchOption o ((k : ℕ) (d : ObjectId) → k < length read → IsSome (parents_in objects (get_or met k d))) (λ x. Contains met x × IsOther objects x)
              → parents_in objects id ≡ Some step.own → MatchOption o ((k : ℕ) (d : ObjectId) → k < length read_after → IsSome (parents_in objects (get_or met_after k d))) (λ x. Contains met_after x × IsOther objects x)
          by None h is = λ k d. read-cases (λ k. IsSome (parents_in objects (get_or met_after k d)))
              (λ k below. subst (λ x. IsSome (parents_in objects x)) (sym (met-stays k d (omega (arith, below, read-within)))) (h k d below))
              (subst (λ p. IsSome p) (sym (ap (parents_in objects) (read-next d) ∙ is)) refl) k
          by (Some x) h is = (stays x h.0, h.1)

    module _ (met : List ObjectId) (read : List (List ObjectId)) (other : Option ObjectId) (meets : Meets met read other) where
      -- each name that was met is reached
      pub Meets-reached : (id : ObjectId) → Contains met id → ReachedFrom (parents_in objects) roots id
      Meets-reached id at =
          let h = meets.walks.reached id at in
          record { root = h.root; is_root = h.is_root; reaches = Reaches-same _ _ (LinksTo-steps objects) (Reaches-same _ _ LinksTo-within h.reaches) }

      module _ (end : length met ≤ length read) where
        -- at its end the walk has read what it has met
        stood : (x : ObjectId) → Contains met x → steps_in objects x ≡ Some (parents_read met read x)
        stood x at =
            let place = position-from_Contains id_eq_equiv met x at in
            let found = position-Some (id_eq x) met place.0 x place.1 in
            let same : x ≡ get_or met place.0 x = id_eq-same x (get_or met place.0 x) found.1 in
            ap (steps_in objects) same ∙ meets.stands place.0 x (omega (arith, found.0, end)) ∙ ap (λ p. Some (read_at read p)) (sym place.1)

        -- each parent of what was met was met too, or has a number
        onward_read : (x y : ObjectId) → Contains met x → Contains (parents_read met read x) y → Contains met y ⊎ IsSome (beyond y)
        onward_read x y at is = by (beyond y) refl
          where
            by : (o : Option ℕ) → beyond y ≡ o → Contains met y ⊎ IsSome o
            by (Some n) e = inr refl
            by None e =
                let f = meets.walks.followed at.0 x (omega (arith, at.1, end)) in
                let stands_for : steps_within x ≡ Some (unnumbered beyond (parents_read met read x)) = steps_within-is x (parents_read met read x) (stood x at) in
                let same : f.0 ≡ unnumbered beyond (parents_read met read x) =
                let e : Some f.0 ≡ Some (unnumbered beyond (parents_read met read x)) = sym f.1 ∙ ap steps_within at.2 ∙ stands_for in cc in
                inl (f.2 y (subst (λ l. Contains l y) (sym same) (Contains-filter (λ id. is_none (beyond id)) (parents_read met read x) y is (ap is_none e))))

        -- where no other object was met, it has gathered the history
        pub gathered : other ≡ None → Gathers objects beyond roots met read
        gathered none = record {
          reached = Meets-reached;
          rooted = meets.walks.rooted;
          within = λ x at. let r = meets.walks.reached x at in unnumbered_or_root r.root r.is_root r.reaches;
          parents = λ x at. commit x at (parents_in objects x) refl (subst (λ y. IsSome (parents_in objects y)) at.2 (commits other none meets.others at.0 x (omega (arith, at.1, end))));
          onward = onward_read;
        }
          where
            unnumbered_or_root : (r : ObjectId) → Contains roots r → {x : ObjectId} → Reaches steps_within r x → Contains roots x ⊎ (beyond x ≡ None)
            unnumbered_or_root r is_root itself = inl is_root
            unnumbered_or_root r is_root (onward {y} {z} way link) = inr (LinksTo-unnumbered y z link)

            commits : (o : Option ObjectId) → o ≡ None → MatchOption o ((k : ℕ) (d : ObjectId) → k < length read → IsSome (parents_in objects (get_or met k d))) (λ id. Contains met id × IsOther objects id)
                → (k : ℕ) (d : ObjectId) → k < length read → IsSome (parents_in objects (get_or met k d))
            commits None e h = h
            commits (Some x) e h = absurd (cc)

            commit : (x : ObjectId) → Contains met x → (o : Option (List ObjectId)) → parents_in objects x ≡ o → IsSome o → parents_in objects x ≡ Some (parents_read met read x)
            commit x at None e some = absurd (true≢false (sym some))
            commit x at (Some ys) e some = e ∙ sym (steps_in-commit objects x ys e) ∙ stood x at

        module _ (agrees : Agrees (parents_in objects) beyond) where
          linked : (x y : ObjectId) → Contains met x → LinksTo (parents_in objects) x y → Contains met y ⊎ IsSome (beyond y)
          linked x y at link =
              let step = LinksTo-parents objects x y link in
              let same : step.0 ≡ parents_read met read x = let e : Some step.0 ≡ Some (parents_read met read x) = sym step.1 ∙ stood x at in cc in
              onward_read x y at (subst (λ ys. Contains ys y) same step.2)

          there : (x : ObjectId) (o : Option ℕ) → beyond x ≡ o → IsSome o → IsSome (objects x)
          there x None e h = absurd (true≢false (sym h))
          there x (Some n) e h = commit_there x (objects x) refl ((agrees.generation x n e).whole x itself)
            where
              commit_there : (x : ObjectId) (o : Option _) → objects x ≡ o → IsSome (parents_in objects x) → IsSome o
              commit_there x None e h = absurd (true≢false (sym (subst (λ p. IsSome p) (parents_in-none objects x e) h)))
              commit_there x (Some o) e h = refl

          all_there : (y : ObjectId) → ReachedFrom (parents_in objects) roots y → IsSome (objects y)
          all_there y r = ⊎_elim (λ at. there-from_steps objects y (subst (λ o. IsSome o) (sym (stood y at)) refl))
              (λ some. there y (beyond y) refl some)
              (met_or_beyond-linked (parents_in objects) beyond agrees roots met meets.walks.rooted linked r)

          -- an other object is told
          pub other_told : (IsDamaged : ObjectId → Type 0) (id : ObjectId) → other ≡ Some id → IsTold objects IsDamaged roots (NotACommit id)
          other_told IsDamaged id is = by other is meets.others
            where
              by : (o : Option ObjectId) → o ≡ Some id → MatchOption o ((k : ℕ) (d : ObjectId) → k < length read → IsSome (parents_in objects (get_or met k d))) (λ x. Contains met x × IsOther objects x)
                  → IsTold objects IsDamaged roots (NotACommit id)
              by None e h = absurd (cc)
              by (Some x) e h =
                  let same : x ≡ id = cc in
                  (Meets-reached id (subst (Contains met) same h.0), subst (IsOther objects) same h.1, all_there)
