-- The greatest number of some parents, step by step; the lists of those that wait; and the commits of a walk on the way to
-- their numbers.
use Rattle.std.proofs.Common.{◌≡◌, ℕ, ◌+◌, ◌<◌, ◌≤◌, ◌^◌, ◌≢◌, ◌⊎◌, inl, inr, ⊎_elim, List, [], ◌∷◌, ◌++◌, map, set, length, get_or, drop, position, Option, Some, None, IsSome, IfSome, SomeIff, Contains, Bool, true, false, sym, ap, subst, ◌∙◌, refl, arith, slice_get, true≢false}
use Rattle.std.proofs.Math.ListN.{length-map, length-set}
use Rattle.std.proofs.lemmas.Bool.{cases_lt}
use Rattle.std.proofs.lemmas.List.{get_or-map, map-set, get_or-set_same, get_or-set_other, drop_more, drop_all, drop-append-le}
use Rattle.std.proofs.lemmas.Option.{get_or_from_slice_get, slice_get_within, slice_get-get_or}
use Rattle.std.proofs.lemmas.List.Elements.{Contains-push_cases, Contains-push, Contains-append_left, Contains-append_right, Contains-append_cases}
use Rattle.vc_object.proofs.IdLemmas.{id_eq-same, id_eq_equiv}
use Rattle.vc_object.specs.ObjectId.{id_eq}
use Rattle.vc_object.specs.declared.id.ObjectId.{ObjectId}
use Rattle.vc_history.specs.Numbering.{IsHeld, IsLast, IsOver, Keeps, LeavesIt, LetsItWait, LooksAt, NumbersHistory, NumbersIt, WaitsFor}
use Rattle.vc_history.specs.Walk.{parents_read}
use Rattle.vc_history.proofs.HistoryLemmas.{position-from_Contains}
use Rattle.vc_object_map.proofs.WalkLemmas.{Contains-from_slice_get}

-- the numbers of some parents, and the greatest of them, 0 where there is none
pub record Greatest (known : ObjectId → Option ℕ) (parents : List ObjectId) (n : ℕ) : Type 0 where
  pub below : (y : ObjectId) → Contains parents y → (m : ℕ) × (known y ≡ Some m) × (m ≤ n)
  pub met : (n ≡ 0) ⊎ ((y : ObjectId) × Contains parents y × (known y ≡ Some n))

module _ (known : ObjectId → Option ℕ) where
  pub Greatest-none : Greatest known [] 0
  Greatest-none = record { below = λ y h. absurd (omega (arith, h.1)); met = inl refl }

  pub Greatest-more : (parents more : List ObjectId) (p : ObjectId) (n m n' : ℕ) → more ≡ parents ++ p ∷ [] → Greatest known parents n → known p ≡ Some m
      → ((n < m) × (n' ≡ m)) ⊎ ((m ≤ n) × (n' ≡ n)) → Greatest known more n'
  Greatest-more parents more p n m n' grown before is which = record {
    below = λ y h. ⊎_elim
        (λ old. let b = before.below y old in (b.0, b.1, ⊎_elim (λ w. omega (arith, w.0, w.1, b.2)) (λ w. omega (arith, w.1, b.2)) which))
        (λ (e : p ≡ y). (m, ap known (sym e) ∙ is, ⊎_elim (λ w. omega (arith, w.1)) (λ w. omega (arith, w.0, w.1)) which))
        (Contains-push_cases parents p y (subst (λ l. Contains l y) grown h));
    met = ⊎_elim
        (λ w. inr (p, subst (λ l. Contains l p) (sym grown) (Contains-push parents p), is ∙ ap Some (sym w.1)))
        (λ w. ⊎_elim (λ none. inl (w.1 ∙ none))
        (λ (some : (y : ObjectId) × Contains parents y × (known y ≡ Some n)). inr (some.0, subst (λ l. Contains l some.0) (sym grown) (Contains-append_left parents (p ∷ []) some.0 some.1), some.2 ∙ ap Some (sym w.1)))
        before.met)
        which;
  }

  pub IsOver-from_Greatest : (parents : List ObjectId) (n over : ℕ) → Greatest known parents n → over ≡ n + 1 → over < 2 ^ 64 → IsOver known parents over
  IsOver-from_Greatest parents n over h is fits = record {
    greater = λ y at. let b = h.below y at in (b.0, b.1, omega (arith, b.2, is));
    next = ⊎_elim (λ none. inl (is ∙ ap (λ i. i + 1) none)) (λ some. inr (some.0, n, some.1, some.2, is)) h.met;
    fits = fits;
  }

  pub IsOver-checked : (parents : List ObjectId) (n : ℕ) (r : Option ℕ) → Greatest known parents n → SomeIff r (n + 1 < 2 ^ 64) (n + 1) → IfSome r (IsOver known parents)
  IsOver-checked parents n None h fits = tt
  IsOver-checked parents n (Some over) h fits = IsOver-from_Greatest parents n over h fits.1 (subst (λ i. i < 2 ^ 64) (sym fits.1) fits.0)

-- ---- one more waits at a place
module _ {V : Type 0} (f : V → List ℕ) (lists : List V) (place : ℕ) (v longer : V) (x : ℕ) (below : place < length lists) (is : v ≡ get_or lists place v) (more : f longer ≡ f v ++ x ∷ []) where
  set_lists : map f (set lists place longer) ≡ set (map f lists) place (f v ++ x ∷ [])
  set_lists = map-set f lists place longer ∙ ap (set (map f lists) place) more

  below_all : place < length (map f lists)
  below_all = omega (arith, below, length-map lists f)

  there : get_or (map f (set lists place longer)) place [] ≡ f v ++ x ∷ []
  there = ap (λ l. get_or l place []) set_lists ∙ get_or-set_same (map f lists) place (f v ++ x ∷ []) [] below_all

  elsewhere : (k : ℕ) → k ≢ place → get_or (map f (set lists place longer)) k [] ≡ get_or (map f lists) k []
  elsewhere k differs = ap (λ l. get_or l k []) set_lists ∙ get_or-set_other (map f lists) place k (f v ++ x ∷ []) [] differs

  pub Keeps-one_more : Keeps (map f lists) (map f (set lists place longer))
  Keeps-one_more = record {
    long = ap length set_lists ∙ length-set (map f lists) place (f v ++ x ∷ []);
    stays = λ k y at. elim (cases_lt k place) [
      | inl less ↦ subst (λ l. Contains l y) (sym (elsewhere k (λ e. omega (arith, less, e)))) at
      | inr no_less ↦ elim (cases_lt place k) [
        | inl less ↦ subst (λ l. Contains l y) (sym (elsewhere k (λ e. omega (arith, less, e)))) at
        | inr no_more ↦
            let same : k ≡ place = omega (arith, no_less, no_more) in
            let was : Contains (f v) y = subst (λ l. Contains l y) (ap (λ i. get_or (map f lists) i []) same ∙ get_or-map f lists place v [] below ∙ ap f (sym is)) at in
            subst (λ l. Contains l y) (sym (ap (λ i. get_or (map f (set lists place longer)) i []) same ∙ there)) (Contains-append_left (f v) (x ∷ []) y was)
      ]
    ];
  }

  pub WaitsFor-one_more : (met : List ObjectId) (name : ObjectId) → position (id_eq name) met ≡ Some place → WaitsFor met (map f (set lists place longer)) name x
  WaitsFor-one_more met name at k other =
      let same : place ≡ k = let e : Some place ≡ Some k = sym at ∙ other in cc in
      subst (λ i. Contains (get_or (map f (set lists place longer)) i []) x) same (subst (λ l. Contains l x) (sym there) (Contains-push (f v) x))

-- ---- the commits of a walk, on the way to their numbers
module _ (met : List ObjectId) (read : List (List ObjectId)) where
  -- where a commit stands: it has a number; or it never gets one; or it waits for a parent that has none; or it is to be
  -- looked at
  pub data Stands (known : ObjectId → Option ℕ) (waiting : List (List ℕ)) (rest : List ℕ) (place : ℕ) (x : ObjectId) : Type 0 where
    numbered : IsSome (known x) → Stands known waiting rest place x
    stuck : (y : ObjectId) → Contains (parents_read met read x) y → IsLast known y → Stands known waiting rest place x
    waits : (y : ObjectId) → Contains (parents_read met read x) y → known y ≡ None → WaitsFor met waiting y place → Stands known waiting rest place x
    awaits_look : Contains rest place → Stands known waiting rest place x

  module _ (first : ObjectId → Option ℕ) where
    pub record Goes (known : ObjectId → Option ℕ) (waiting : List (List ℕ)) (looks : List ℕ) (next : ℕ) : Type 0 where
      pub long : length waiting ≡ length met
      pub grown : (x : ObjectId) (n : ℕ) → first x ≡ Some n → known x ≡ Some n
      pub added : (x : ObjectId) (n : ℕ) → known x ≡ Some n → (first x ≡ Some n) ⊎ (Contains met x × IsOver known (parents_read met read x) n)
      pub all : (place : ℕ) (x : ObjectId) → slice_get met place ≡ Some x → Stands known waiting (drop next looks) place x

    pub Goes-start : (waiting : List (List ℕ)) (looks : List ℕ) → length waiting ≡ length met → ((place : ℕ) → place < length met → Contains looks place) → Goes first waiting looks 0
    Goes-start waiting looks long all = record {
      long = long;
      grown = λ x n is. is;
      added = λ x n is. inl is;
      all = λ place x at. awaits_look (all place (slice_get_within met place x at));
    }

    module _ (known now : ObjectId → Option ℕ) (waiting later : List (List ℕ)) (looks more : List ℕ) (next place : ℕ) (before : Goes known waiting looks next) (at_next : slice_get looks next ≡ Some place) where
      inside : next < length looks
      inside = slice_get_within looks next place at_next

      rest_is : drop next looks ≡ place ∷ drop (next + 1) looks
      rest_is = drop_more looks next place inside ∙ ap (λ p. p ∷ drop (next + 1) looks) (get_or_from_slice_get looks next place place at_next)

      rest_cases : (p : ℕ) → Contains (drop next looks) p → (place ≡ p) ⊎ Contains (drop (next + 1) looks) p
      rest_cases p h = ⊎_elim (λ one. ⊎_elim (λ none. absurd (omega (arith, none.1))) inl (Contains-push_cases [] place p one)) inr
          (Contains-append_cases (place ∷ []) (drop (next + 1) looks) p (subst (λ l. Contains l p) rest_is h))

      same_met : (p : ℕ) (x y : ObjectId) → place ≡ p → slice_get met place ≡ Some x → slice_get met p ≡ Some y → x ≡ y
      same_met p x y same a b = let e : Some x ≡ Some y = sym a ∙ ap (slice_get met) same ∙ b in cc

      module _ (same : (y : ObjectId) → now y ≡ known y) where
        over_same : (ps : List ObjectId) (n : ℕ) → IsOver known ps n → IsOver now ps n
        over_same ps n over = record {
          greater = λ y at. let m = over.greater y at in (m.0, same y ∙ m.1, m.2);
          next = ⊎_elim inl (λ s. inr (s.0, s.1, s.2, same s.0 ∙ s.3, s.4)) over.next;
          fits = over.fits;
        }

        grown_same : (x : ObjectId) (n : ℕ) → first x ≡ Some n → now x ≡ Some n
        grown_same x n is = same x ∙ before.grown x n is

        added_same : (x : ObjectId) (n : ℕ) → now x ≡ Some n → (first x ≡ Some n) ⊎ (Contains met x × IsOver now (parents_read met read x) n)
        added_same x n is = ⊎_elim inl (λ h. inr (h.0, over_same (parents_read met read x) n h.1)) (before.added x n (sym (same x) ∙ is))

      left : LeavesIt met read known now waiting later looks more place → Goes now later more (next + 1)
      left l = record {
        long = ap length l.same_waiting ∙ before.long;
        grown = grown_same l.same;
        added = added_same l.same;
        all = λ p x at. by p x at (before.all p x at);
      }
        where
          rest : (p : ℕ) → Contains (drop (next + 1) looks) p → Contains (drop (next + 1) more) p
          rest p h = subst (λ l. Contains (drop (next + 1) l) p) (sym l.same_looks) h

          by : (p : ℕ) (x : ObjectId) → slice_get met p ≡ Some x → Stands known waiting (drop next looks) p x → Stands now later (drop (next + 1) more) p x
          by p x at (numbered some) = numbered (subst (λ o. IsSome o) (sym (l.same x)) some)
          by p x at (stuck y is last) = stuck y is (last.0, l.same y ∙ last.1, last.2)
          by p x at (waits y is none w) = waits y is (l.same y ∙ none) (subst (λ w. WaitsFor met w y p) (sym l.same_waiting) w)
          by p x at (awaits_look h) = ⊎_elim
              (λ here. ⊎_elim (λ some. numbered (subst (λ o. IsSome o) (sym (l.same x)) some))
              (λ (s : (y : ObjectId) × Contains (parents_read met read x) y × IsLast known y). stuck s.0 s.1 (s.2.0, l.same s.0 ∙ s.2.1, s.2.2))
              (l.why x (ap (slice_get met) here ∙ at)))
              (λ later_on. awaits_look (rest p later_on))
              (rest_cases p h)

      let_wait : LetsItWait met read known now waiting later looks more place → Goes now later more (next + 1)
      let_wait l = record {
        long = l.kept.long ∙ before.long;
        grown = grown_same l.same;
        added = added_same l.same;
        all = λ p x at. by p x at (before.all p x at);
      }
        where
          rest : (p : ℕ) → Contains (drop (next + 1) looks) p → Contains (drop (next + 1) more) p
          rest p h = subst (λ l. Contains (drop (next + 1) l) p) (sym l.same_looks) h

          by : (p : ℕ) (x : ObjectId) → slice_get met p ≡ Some x → Stands known waiting (drop next looks) p x → Stands now later (drop (next + 1) more) p x
          by p x at (numbered some) = numbered (subst (λ o. IsSome o) (sym (l.same x)) some)
          by p x at (stuck y is last) = stuck y is (last.0, l.same y ∙ last.1, last.2)
          by p x at (waits y is none w) = waits y is (l.same y ∙ none) (λ k is_at. l.kept.stays k p (w k is_at))
          by p x at (awaits_look h) = ⊎_elim
              (λ here. waits l.parent (subst (λ a. Contains (parents_read met read a) l.parent) (same_met p l.x x here l.at at) l.is_parent) (l.same l.parent ∙ l.without)
              (subst (WaitsFor met later l.parent) here l.waits))
              (λ later_on. awaits_look (rest p later_on))
              (rest_cases p h)

      number_it : NumbersIt met read known now waiting later looks more place → Goes now later more (next + 1)
      number_it l = record {
        long = ap length l.same_waiting ∙ before.long;
        grown = λ x n is. stays x n (before.grown x n is);
        added = λ x n is. added_more x n (id_eq l.x x) refl is;
        all = λ p x at. by p x at (before.all p x at);
      }
        where
          differs : (y : ObjectId) (n : ℕ) → known y ≡ Some n → (b : Bool) → id_eq l.x y ≡ b → now y ≡ known y
          differs y n is true e = let none : None ≡ Some n = sym l.was ∙ ap known (id_eq-same l.x y e) ∙ is in absurd (cc)
          differs y n is false e = l.others y e

          stays : (y : ObjectId) (n : ℕ) → known y ≡ Some n → now y ≡ Some n
          stays y n is = differs y n is (id_eq l.x y) refl ∙ is

          over_now : (ps : List ObjectId) (n : ℕ) → IsOver known ps n → IsOver now ps n
          over_now ps n over = record {
            greater = λ y at. let m = over.greater y at in (m.0, stays y m.0 m.1, m.2);
            next = ⊎_elim inl (λ s. inr (s.0, s.1, s.2, stays s.0 s.1 s.3, s.4)) over.next;
            fits = over.fits;
          }

          added_more : (x : ObjectId) (n : ℕ) (b : Bool) → id_eq l.x x ≡ b → now x ≡ Some n → (first x ≡ Some n) ⊎ (Contains met x × IsOver now (parents_read met read x) n)
          added_more x n true e is =
              let same : l.x ≡ x = id_eq-same l.x x e in
              let number : l.number ≡ n = let eq : Some l.number ≡ Some n = sym l.is ∙ ap now same ∙ is in cc in
              inr (
                subst (Contains met) same (Contains-from_slice_get met place l.x l.at),
                subst (λ y. IsOver now (parents_read met read y) n) same (subst (IsOver now (parents_read met read l.x)) number (over_now (parents_read met read l.x) l.number l.over)),
              )
          added_more x n false e is = ⊎_elim inl (λ h. inr (h.0, over_now (parents_read met read x) n h.1)) (before.added x n (sym (l.others x e) ∙ is))

          grown_rest : drop (next + 1) more ≡ drop (next + 1) looks ++ l.woken
          grown_rest = ap (drop (next + 1)) l.looks_woken ∙ drop-append-le (next + 1) looks l.woken (omega (arith, inside))

          rest : (p : ℕ) → Contains (drop (next + 1) looks) p → Contains (drop (next + 1) more) p
          rest p h = subst (λ r. Contains r p) (sym grown_rest) (Contains-append_left (drop (next + 1) looks) l.woken p h)

          some_now : (y : ObjectId) (o : Option ℕ) → known y ≡ o → IsSome o → IsSome (now y)
          some_now y None e h = absurd (true≢false (sym h))
          some_now y (Some n) e h = subst (λ o. IsSome o) (sym (stays y n e)) refl

          wakes : (p : ℕ) (x y : ObjectId) → Contains (parents_read met read x) y → known y ≡ None → WaitsFor met waiting y p → (b : Bool) → id_eq l.x y ≡ b → Stands now later (drop (next + 1) more) p x
          wakes p x y is none w true e =
              let same : l.x ≡ y = id_eq-same l.x y e in
              let found = position-from_Contains id_eq_equiv met l.x (Contains-from_slice_get met place l.x l.at) in
              let there : Contains l.woken p = subst (λ r. Contains r p) (sym (l.all_woken found.0 found.1)) (w found.0 (ap (λ a. position (id_eq a) met) (sym same) ∙ found.1)) in
              awaits_look (subst (λ r. Contains r p) (sym grown_rest) (Contains-append_right (drop (next + 1) looks) l.woken p there))
          wakes p x y is none w false e = waits y is (l.others y e ∙ none) (subst (λ w. WaitsFor met w y p) (sym l.same_waiting) w)

          by : (p : ℕ) (x : ObjectId) → slice_get met p ≡ Some x → Stands known waiting (drop next looks) p x → Stands now later (drop (next + 1) more) p x
          by p x at (numbered some) = numbered (some_now x (known x) refl some)
          by p x at (stuck y is last) = stuck y is (last.0, stays y last.0 last.1, last.2)
          by p x at (waits y is none w) = wakes p x y is none w (id_eq l.x y) refl
          by p x at (awaits_look h) = ⊎_elim
              (λ here. numbered (subst (λ o. IsSome o) (sym (ap now (sym (same_met p l.x x here l.at at)) ∙ l.is)) refl))
              (λ later_on. awaits_look (rest p later_on))
              (rest_cases p h)

      pub Goes-step : LooksAt met read known now waiting later looks more place → Goes now later more (next + 1)
      Goes-step = ⊎_elim left (⊎_elim let_wait number_it)

    -- where nothing is left to be looked at, the history is numbered
    pub Goes-end : (known : ObjectId → Option ℕ) (waiting : List (List ℕ)) (looks : List ℕ) (next : ℕ) → length looks ≤ next → Goes known waiting looks next → NumbersHistory met read first known
    Goes-end known waiting looks next end goes = record {
      grown = goes.grown;
      added = goes.added;
      all = λ x at. by x at.0 (goes.all at.0 x (slice_get-get_or met at.0 x at.1 ∙ ap Some at.2));
    }
      where
        by : (x : ObjectId) (place : ℕ) → Stands known waiting (drop next looks) place x → IsSome (known x) ⊎ IsHeld known (parents_read met read x)
        by x place (numbered some) = inl some
        by x place (stuck y is last) = inr (y, is, λ m e. let same : last.0 ≡ m = let eq : Some last.0 ≡ Some m = sym last.1 ∙ e in cc in omega (arith, same, last.2))
        by x place (waits y is none w) = inr (y, is, λ m e. let no : None ≡ Some m = sym none ∙ e in absurd (cc))
        by x place (awaits_look h) = let none : Contains [] place = subst (λ l. Contains l place) (drop_all next looks end) h in absurd (omega (arith, none.1))
