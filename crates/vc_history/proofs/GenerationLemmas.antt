-- Generations by the generations of the parents, and what they say of a history.
use Rattle.std.proofs.Common.{◌≡◌, ◌≢◌, ℕ, zero, suc, ◌+◌, ◌<◌, ◌⊎◌, inl, inr, ⊎_elim, List, Option, Some, None, IsSome, Contains, sym, subst, ◌∙◌, refl, arith, true≢false}
use Rattle.vc_object_map.specs.Graph.{LinksTo, Reaches, IsClosed, itself, onward}
use Rattle.vc_history.specs.Generation.{Agrees, HasGeneration, Leads}
use Rattle.vc_object_map.specs.History.{IsAncestor}

module _ {Id : Type 0} (parents : Id → Option (List Id)) where
  -- a parent is one of the parents
  pub Contains-from_LinksTo : (x y : Id) (ys : List Id) → parents x ≡ Some ys → LinksTo parents x y → Contains ys y
  Contains-from_LinksTo x y ys is link =
      let same : link.0 ≡ ys = let e : Some link.0 ≡ Some ys = sym link.1 ∙ is in cc in
      subst (λ l. Contains l y) same link.2

  -- a way begins with a parent, or has no link
  Reaches-cases : {x z : Id} → Reaches parents x z → (x ≡ z) ⊎ ((y : Id) × LinksTo parents x y × Reaches parents y z)
  Reaches-cases itself = inl refl
  Reaches-cases (onward {y} {z} way link) = ⊎_elim (λ same. inr (z, subst (λ a. LinksTo parents a z) (sym same) link, itself)) (λ h. inr (h.0, h.1, onward h.2 link)) (Reaches-cases way)

  -- a commit has one generation at most
  pub HasGeneration-one : (x : Id) (n m : ℕ) → HasGeneration parents x n → HasGeneration parents x m → n ≡ m
  HasGeneration-one x n m g h =
      omega (arith, g.one_more, h.one_more, h.none_longer g.length_of_longest g.last g.longest, g.none_longer h.length_of_longest h.last h.longest)

  -- where nothing has a number, no number is wrong
  pub agrees_where_none : (numbers : Id → Option ℕ) → ((x : Id) → numbers x ≡ None) → Agrees parents numbers
  agrees_where_none numbers none = record {
    generation = λ x n is. let no : None ≡ Some n = sym (none x) ∙ is in absurd (cc);
    onward = λ x y some link. absurd (true≢false (sym (subst (λ o. IsSome o) (none x) some)));
  }

  -- a parent's is less than its child's
  pub HasGeneration-parent : (x y : Id) (n m : ℕ) → HasGeneration parents x n → HasGeneration parents y m → LinksTo parents x y → m < n
  HasGeneration-parent x y n m g h link =
      let longer : suc h.length_of_longest < n = g.none_longer (suc h.length_of_longest) h.last (y, link, h.longest) in
      omega (arith, longer, h.one_more)

  -- one more than the greatest generation of the parents is the commit's, or 1 where there is none
  pub HasGeneration-over : (x : Id) (n : ℕ) (ys : List Id) → parents x ≡ Some ys → ((y : Id) → Contains ys y → (m : ℕ) × HasGeneration parents y m × (m < n))
      → (n ≡ 1) ⊎ ((y : Id) × (m : ℕ) × Contains ys y × HasGeneration parents y m × (n ≡ m + 1)) → HasGeneration parents x n
  HasGeneration-over x n ys is below next = ⊎_elim
      (λ one. made 0 x refl (omega (arith, one)))
      (λ h. made (suc h.3.length_of_longest) h.3.last (h.0, (ys, is, h.2), h.3.longest) (omega (arith, h.4, h.3.one_more)))
      next
    where
      positive : 0 < n
      positive = ⊎_elim (λ one. omega (arith, one)) (λ h. omega (arith, h.4)) next

      whole : IsClosed parents x
      whole z way = ⊎_elim (λ same. subst (λ a. IsSome (parents a)) same (subst (λ o. IsSome o) (sym is) refl))
          (λ h. (below h.0 (Contains-from_LinksTo x h.0 ys is h.1)).1.whole z h.2)
          (Reaches-cases way)

      none_longer : (k : ℕ) (y : Id) → Leads parents k x y → k < n
      none_longer zero y h = positive
      none_longer (suc k) y h =
          let b = below h.0 (Contains-from_LinksTo x h.0 ys is h.1) in
          let less : k < b.0 = b.1.none_longer k y h.2 in
          omega (arith, less, b.2)

      made : (k : ℕ) (last : Id) → Leads parents k x last → n ≡ k + 1 → HasGeneration parents x n
      made k last longest one_more = record { whole = whole; length_of_longest = k; last = last; longest = longest; one_more = one_more; none_longer = none_longer }

  -- a list of links from an ancestor that is another commit is at least one shorter than the commit's generation less one
  shorter : {x y : Id} (n : ℕ) → HasGeneration parents x n → Reaches parents x y → (k : ℕ) (last : Id) → Leads parents k y last → (x ≡ y) ⊎ (k + 1 < n)
  shorter n g itself k last h = inl refl
  shorter {x} n g (onward {y} {z} way link) k last h = ⊎_elim
      (λ (same : x ≡ y).
      let less : suc k < n = g.none_longer (suc k) last (z, subst (λ a. LinksTo parents a z) (sym same) link, h) in
      inr (omega (arith, less)))
      (λ (less : suc k + 1 < n). inr (omega (arith, less)))
      (shorter n g way (suc k) last (z, link, h))

  -- an ancestor other than the commit itself has a smaller generation
  pub HasGeneration-ancestor : (a b : Id) (n m : ℕ) → IsAncestor parents a b → a ≢ b → HasGeneration parents a n → HasGeneration parents b m → n < m
  HasGeneration-ancestor a b n m way differs g h =
      ⊎_elim (λ same. absurd (differs (sym same))) (λ less. omega (arith, less, g.one_more)) (shorter m h way g.length_of_longest g.last g.longest)

-- where each commit that is there stays, each generation stays
module _ {Id : Type 0} (parents later : Id → Option (List Id)) (stays : (x : Id) (ys : List Id) → parents x ≡ Some ys → later x ≡ Some ys) where
  LinksTo-stays : (x y : Id) → LinksTo parents x y → LinksTo later x y
  LinksTo-stays x y link = (link.0, stays x link.0 link.1, link.2)

  LinksTo-was : (x y : Id) → IsSome (parents x) → LinksTo later x y → LinksTo parents x y
  LinksTo-was x y there link = by (parents x) refl there
    where
      by : (o : Option (List Id)) → parents x ≡ o → IsSome o → LinksTo parents x y
      by None e h = absurd (true≢false (sym h))
      by (Some ys) e h = (ys, e, Contains-from_LinksTo later x y ys (stays x ys e) link)

  Leads-stays : (k : ℕ) (x y : Id) → Leads parents k x y → Leads later k x y
  Leads-stays zero x y h = h
  Leads-stays (suc k) x y h = (h.0, LinksTo-stays x h.0 h.1, Leads-stays k h.0 y h.2)

  closed_parent : (x y : Id) → IsClosed parents x → LinksTo parents x y → IsClosed parents y
  closed_parent x y whole link z way = whole z (front way)
    where
      front : {z : Id} → Reaches parents y z → Reaches parents x z
      front itself = onward itself link
      front (onward r l) = onward (front r) l

  Leads-was : (k : ℕ) (x y : Id) → IsClosed parents x → Leads later k x y → Leads parents k x y
  Leads-was zero x y whole h = h
  Leads-was (suc k) x y whole h =
      let link = LinksTo-was x h.0 (whole x itself) h.1 in
      (h.0, link, Leads-was k h.0 y (closed_parent x h.0 whole link) h.2)

  Reaches-was : {x z : Id} → IsClosed parents x → Reaches later x z → Reaches parents x z
  Reaches-was whole itself = itself
  Reaches-was whole (onward {y} {z} way link) = let before = Reaches-was whole way in onward before (LinksTo-was y z (whole y before) link)

  there_stays : (x : Id) → IsSome (parents x) → IsSome (later x)
  there_stays x there = by (parents x) refl there
    where
      by : (o : Option (List Id)) → parents x ≡ o → IsSome o → IsSome (later x)
      by None e h = absurd (true≢false (sym h))
      by (Some ys) e h = subst (λ o. IsSome o) (sym (stays x ys e)) refl

  pub HasGeneration-stays : (x : Id) (n : ℕ) → HasGeneration parents x n → HasGeneration later x n
  HasGeneration-stays x n g = record {
    whole = λ z way. there_stays z (g.whole z (Reaches-was g.whole way));
    length_of_longest = g.length_of_longest;
    last = g.last;
    longest = Leads-stays g.length_of_longest x g.last g.longest;
    one_more = g.one_more;
    none_longer = λ k y h. g.none_longer k y (Leads-was k x y g.whole h);
  }

  pub Agrees-stays : (numbers : Id → Option ℕ) → Agrees parents numbers → Agrees later numbers
  Agrees-stays numbers agrees = record {
    generation = λ x n is. HasGeneration-stays x n (agrees.generation x n is);
    onward = λ x y some link. agrees.onward x y some (LinksTo-was x y (there x (numbers x) refl some) link);
  }
    where
      there : (x : Id) (o : Option ℕ) → numbers x ≡ o → IsSome o → IsSome (parents x)
      there x None e h = absurd (true≢false (sym h))
      there x (Some n) e h = (agrees.generation x n e).whole x itself
