-- A walk beyond names that are known to be whole: what stays true of it, step by step, and what it has found at its end.
-- And the links of names, as names that are known.
use Rattle.std.proofs.Common.{◌≡◌, ℕ, suc, ◌+◌, ◌-◌, ◌<◌, ◌≤◌, Bool, true, false, ◌⊎◌, inl, inr, ⊎_elim, List, [], ◌∷◌, ◌++◌, length, take, drop, get_or, Option, Some, None, IsSome, Contains, sym, ap, subst, ◌∙◌, refl, if◌then◌else◌, append_assoc, length-append, arith, slice_get, ◌↔◌, true≢false}
use Rattle.std.specs.List.{list_any}
use Rattle.std.proofs.lemmas.List.Elements.{Contains-append_left, Contains-append_right, Contains-push_cases, Contains-append_cases, Contains-get_or}
use Rattle.std.proofs.Math.ListN.{get_or-append}
use Rattle.std.proofs.Math.Seq.{get_or-append_right, take-append_seam, take-suc}
use Rattle.std.proofs.lemmas.List.{take-append-drop}
use Rattle.std.proofs.lemmas.Option.{get_or_from_slice_get, slice_get_within}
use Rattle.std.proofs.lemmas.Bool.{cases_lt}
use Rattle.std.proofs.lemmas.Grind.{common_steps}
use Rattle.indexmap.specs.IndexSet.{insert_key, insert_all}
use Rattle.vc_object_map.specs.Graph.{LinksTo, IsLinkOf, Reaches, ReachedFrom, IsClosed, IsClosedUnder, IsMetBeyond, itself, onward}
use Rattle.vc_object_map.proofs.WalkLemmas.{Contains-from_slice_get, Contains-insert_all_old, Contains-insert_all_new, Contains-insert_all_cases, insert_all-prefix, Reaches-trans}

-- ---- what `insert_all` adds
-- what stands behind a front is one of the rest
behind : {X : Type 0} (front more all : List X) → all ≡ front ++ more → (k : ℕ) (d : X) → length front ≤ k → k < length all → Contains more (get_or all k d)
behind front more all grown k d from below =
    let is : get_or all k d ≡ get_or more (k - length front) d = ap (λ l. get_or l k d) grown ∙ get_or-append_right front more k d from in
    subst (Contains more) (sym is) (Contains-get_or more (k - length front) d (omega (arith, from, below, ap length grown, length-append front more)))

module _ {Id : Type 0} (eq : Id → Id → Bool) where
  insert_key-new : (ks : List Id) (k : Id) → (more : List Id) × (insert_key eq ks k ≡ ks ++ more) × ((y : Id) → Contains more y → Contains (k ∷ []) y)
  insert_key-new ks k = by (list_any (eq k) ks)
    where
      by : (b : Bool) → (more : List Id) × ((if b then ks else ks ++ k ∷ []) ≡ ks ++ more) × ((y : Id) → Contains more y → Contains (k ∷ []) y)
      by true = ([], grind (arith, common_steps), λ y h. absurd (omega (arith, h.1)))
      by false = (k ∷ [], refl, λ y h. h)

  -- inserted keys go last, and each key behind those that were there is one of them
  insert_all-new : (ks xs : List Id) → (more : List Id) × (insert_all eq ks xs ≡ ks ++ more) × ((y : Id) → Contains more y → Contains xs y)
  insert_all-new ks [] = ([], grind (arith, common_steps), λ y h. h)
  insert_all-new ks (x ∷ xs) =
      let one = insert_key-new ks x in
      let rest = insert_all-new (insert_key eq ks x) xs in (
        one.0 ++ rest.0,
        rest.1 ∙ ap (λ l. l ++ rest.0) one.1 ∙ append_assoc ks one.0 rest.0,
        λ y h. ⊎_elim (λ first. Contains-append_left (x ∷ []) xs y (one.2 y first)) (λ later. Contains-append_right (x ∷ []) xs y (rest.2 y later)) (Contains-append_cases one.0 rest.0 y h),
      )

-- what is there behind some names, and what is inserted after that, leaves these names in front
module _ {Id : Type 0} (eq : Id → Id → Bool) (old seen xs later : List Id) (grown : (more : List Id) × (seen ≡ old ++ more)) (added : later ≡ insert_all eq seen xs) where
  pub grown-inserted : (more : List Id) × (later ≡ old ++ more)
  grown-inserted =
      let new = insert_all-prefix eq seen xs in
      (grown.0 ++ new.0, added ∙ new.1 ∙ ap (λ l. l ++ new.0) grown.1 ∙ append_assoc old grown.0 new.0)

  pub take-inserted : take (length old) later ≡ old
  take-inserted = ap (take (length old)) grown-inserted.1 ∙ take-append_seam old grown-inserted.0

-- ---- the walk
module _ {Id : Type 0} (links : Id → Option (List Id)) (known : List Id) (root : Id) where
  -- each name behind the known ones is reached from the root; those of them before `next` are there, and their links were
  -- met or are known
  pub record Beyond (seen : List Id) (next : ℕ) : Type 0 where
    pub reached : (k : ℕ) (d : Id) → length known ≤ k → k < length seen → Reaches links root (get_or seen k d)
    pub followed : (k : ℕ) (d : Id) → length known ≤ k → k < next → (ys : List Id) × (links (get_or seen k d) ≡ Some ys) × ((y : Id) → Contains ys y → Contains seen y)

  -- the next name is reached from the root
  pub Beyond-reached : (seen : List Id) (next : ℕ) (id : Id) → Beyond seen next → length known ≤ next → slice_get seen next ≡ Some id → Reaches links root id
  Beyond-reached seen next id walk beyond at = subst (Reaches links root) (get_or_from_slice_get seen next id id at) (walk.reached next id beyond (slice_get_within seen next id at))

  -- where it is absent, not all that the root reaches is there
  pub Beyond-absent : (seen : List Id) (next : ℕ) (id : Id) → Beyond seen next → length known ≤ next → slice_get seen next ≡ Some id → links id ≡ None → ¬ IsClosed links root
  Beyond-absent seen next id walk beyond at none all = true≢false (sym (subst (λ o. IsSome o) none (all id (Beyond-reached seen next id walk beyond at))))

  module _ (eq : Id → Id → Bool) (same : (x y : Id) → eq x y ≡ true → x ≡ y) where
    -- the walk begins at the root, behind the known names
    pub Beyond-start : (seen : List Id) → seen ≡ insert_all eq known (root ∷ []) → Beyond seen (length known)
    Beyond-start seen added =
        let new = insert_all-new eq known (root ∷ []) in
        let is_root : (y : Id) → Contains (root ∷ []) y → root ≡ y = λ y h. ⊎_elim (λ none. absurd (omega (arith, none.1))) (λ e. e) (Contains-push_cases [] root y h) in
        record {
          reached = λ k d from below. subst (Reaches links root) (is_root (get_or seen k d) (new.2 (get_or seen k d) (behind known new.0 seen (added ∙ new.1) k d from below))) itself;
          followed = λ k d from below. absurd (omega (arith, from, below));
        }

    -- the root was met, or is known
    pub rooted-start : (seen : List Id) → seen ≡ insert_all eq known (root ∷ []) → Contains seen root
    rooted-start seen added = subst (λ l. Contains l root) (sym added) (Contains-insert_all_new eq same known (root ∷ []) root (0, omega arith, refl))

    -- the next name was met, and its links after it
    pub Beyond-step : (seen now ys : List Id) (next : ℕ) (id : Id) → Beyond seen next → length known ≤ next → slice_get seen next ≡ Some id → links id ≡ Some ys
        → now ≡ insert_all eq seen ys → Beyond now (next + 1)
    Beyond-step seen now ys next id walk beyond at links_of added =
        let here : next < length seen = slice_get_within seen next id at in
        let new = insert_all-new eq seen ys in
        let grown : now ≡ seen ++ new.0 = added ∙ new.1 in
        let stays : (y : Id) → Contains seen y → Contains now y = λ y h. subst (λ l. Contains l y) (sym grown) (Contains-append_left seen new.0 y h) in
        let same_at : (k : ℕ) (d : Id) → k < length seen → get_or now k d ≡ get_or seen k d = λ k d below. ap (λ l. get_or l k d) grown ∙ get_or-append seen new.0 d k below in
        record {
          reached = λ k d from below. elim (cases_lt k (length seen)) [
            | inl old ↦ subst (Reaches links root) (sym (same_at k d old)) (walk.reached k d from old)
            | inr later ↦ onward (Beyond-reached seen next id walk beyond at) (ys, links_of, new.2 (get_or now k d) (behind seen new.0 now grown k d later below))
          ];
          followed = λ k d from below. elim (cases_lt k next) [
            | inl before ↦
                let f = walk.followed k d from before in
                (f.0, ap links (same_at k d (omega (arith, here))) ∙ f.1, λ y h. stays y (f.2 y h))
            | inr last ↦
                let is : k ≡ next = omega (arith, below) in (
                  ys,
                  ap links (same_at k d (omega (arith, here)) ∙ ap (λ i. get_or seen i d) is ∙ get_or_from_slice_get seen next id d at) ∙ links_of,
                  λ y h. subst (λ l. Contains l y) (sym added) (Contains-insert_all_new eq same seen ys y h),
                )
          ];
        }

  -- at the end of the walk each name that was met is whole, where the known ones are: a way from it stays among the names
  -- that were met until it enters what is known
  module _ (seen more : List Id) (next : ℕ) (grown : seen ≡ known ++ more) (walk : Beyond seen next) (end : length seen ≤ next) where
    known_at : (y : Id) (at : Contains seen y) → at.0 < length known → Contains known y
    known_at y at old = (at.0, old, sym (ap (λ l. get_or l at.0 y) grown ∙ get_or-append known more y at.0 old) ∙ at.2)

    linked : (x y : Id) → Contains seen x → LinksTo links x y → Contains seen y ⊎ ReachedFrom links known y
    linked x y at l = elim (cases_lt at.0 (length known)) [
      | inl old ↦ inr (record { root = x; is_root = known_at x at old; reaches = onward itself l })
      | inr later ↦
          let f = walk.followed at.0 x later (omega (arith, at.1)) in
          let is : links x ≡ Some f.0 = ap links (sym at.2) ∙ f.1 in
          let same : l.0 ≡ f.0 = cc in
          inl (f.2 y (subst (λ ys. Contains ys y) same l.2))
    ]

    met_or_known : {x y : Id} → Contains seen x → Reaches links x y → Contains seen y ⊎ ReachedFrom links known y
    met_or_known at itself = inl at
    met_or_known at (onward {y} {z} r l) = ⊎_elim (λ m. linked y z m l) (λ b. inr (record { root = b.root; is_root = b.is_root; reaches = onward b.reaches l })) (met_or_known at r)

    pub Beyond-closed : IsClosedUnder links known → IsClosedUnder links seen
    Beyond-closed closed y h = ⊎_elim there (closed y) (met_or_known h.is_root h.reaches)
      where
        there : Contains seen y → IsSome (links y)
        there at = elim (cases_lt at.0 (length known)) [
          | inl old ↦ closed y (record { root = y; is_root = known_at y at old; reaches = itself })
          | inr later ↦ let f = walk.followed at.0 y later (omega (arith, at.1)) in subst (λ o. IsSome o) (sym (ap links (sym at.2) ∙ f.1)) refl
        ]

    -- and what was met is what the root reaches beyond them
    pub Beyond-met : Contains seen root → IsMetBeyond links known root seen
    Beyond-met rooted = record {
      known_or_reached = λ y at. elim (cases_lt at.0 (length known)) [
        | inl old ↦ inl (known_at y at old)
        | inr later ↦ inr (subst (Reaches links root) at.2 (walk.reached at.0 y later at.1))
      ];
      met_or_known = λ y r. met_or_known rooted r;
    }

-- ---- links that are learnt
module _ {Id : Type 0} (links : Id → Option (List Id)) (known : List Id) where
  -- the names are the known ones and the links of those that were asked for
  pub record Learns (names now : List Id) : Type 0 where
    pub known_or_linked : (y : Id) → Contains now y → Contains known y ⊎ IsLinkOf links names y
    pub stays : (y : Id) → Contains known y → Contains now y
    pub learnt : (y : Id) → IsLinkOf links names y → Contains now y

  pub Learns-both : (names now : List Id) → Learns names now → (y : Id) → Contains now y ↔ (Contains known y ⊎ IsLinkOf links names y)
  Learns-both names now l y = (l.known_or_linked y, ⊎_elim (l.stays y) (l.learnt y))

  pub Learns-none : (names : List Id) → names ≡ [] → Learns names known
  Learns-none names none = record {
    known_or_linked = λ y h. inl h;
    stays = λ y h. h;
    learnt = λ y h. absurd (omega (arith, h.is_name.1, ap length none));
  }

  -- what is linked from some names is linked from more
  IsLinkOf-more : (some all : List Id) → ((x : Id) → Contains some x → Contains all x) → (y : Id) → IsLinkOf links some y → IsLinkOf links all y
  IsLinkOf-more some all more y h = record { name = h.name; is_name = more h.name h.is_name; links_to = h.links_to }

  module _ (names now : List Id) (n : ℕ) (x : Id) (at : slice_get names n ≡ Some x) (learns : Learns (take n names) now) where
    up_to : take (n + 1) names ≡ take n names ++ x ∷ []
    up_to =
        let here : n < length names = slice_get_within names n x at in
        let place : n + 1 ≡ suc n = omega arith in
        ap (λ k. take k names) place ∙ take-suc names n x here ∙ ap (λ y. take n names ++ y ∷ []) (get_or_from_slice_get names n x x at)

    before : (y : Id) → Contains (take n names) y → Contains (take (n + 1) names) y
    before y h = subst (λ l. Contains l y) (sym up_to) (Contains-append_left (take n names) (x ∷ []) y h)

    here_too : Contains (take (n + 1) names) x
    here_too = subst (λ l. Contains l x) (sym up_to) (Contains-append_right (take n names) (x ∷ []) x (0, omega arith, refl))

    -- a name that links to y is one of those before, or the next
    cases : (y : Id) → IsLinkOf links (take (n + 1) names) y → IsLinkOf links (take n names) y ⊎ LinksTo links x y
    cases y h = ⊎_elim (λ old. inl (record { name = h.name; is_name = old; links_to = h.links_to }))
        (λ is. inr (subst (λ z. LinksTo links z y) (sym is) h.links_to))
        (Contains-push_cases (take n names) x h.name (subst (λ l. Contains l h.name) up_to h.is_name))

    -- an absent name has no links
    pub Learns-absent : links x ≡ None → Learns (take (n + 1) names) now
    Learns-absent none = record {
      known_or_linked = λ y h. ⊎_elim inl (λ l. inr (IsLinkOf-more (take n names) (take (n + 1) names) before y l)) (learns.known_or_linked y h);
      stays = learns.stays;
      learnt = λ y h. ⊎_elim (learns.learnt y) (λ l. absurd (true≢false (sym (subst (λ o. IsSome o) none (subst (λ o. IsSome o) (sym l.1) refl))))) (cases y h);
    }

    module _ (eq : Id → Id → Bool) (same : (x y : Id) → eq x y ≡ true → x ≡ y) (ys : List Id) (links_of : links x ≡ Some ys) where
      -- the links of the next name are added
      pub Learns-next : (later : List Id) → later ≡ insert_all eq now ys → Learns (take (n + 1) names) later
      Learns-next later added = record {
        known_or_linked = λ y h. ⊎_elim (λ old. ⊎_elim inl (λ l. inr (IsLinkOf-more (take n names) (take (n + 1) names) before y l)) (learns.known_or_linked y old))
            (λ l. inr (record { name = x; is_name = here_too; links_to = (ys, links_of, l) }))
            (Contains-insert_all_cases eq now ys y (subst (λ l. Contains l y) added h));
        stays = λ y h. kept y (learns.stays y h);
        learnt = λ y h. ⊎_elim (λ old. kept y (learns.learnt y old))
            (λ l. let is : l.0 ≡ ys = let e : Some l.0 ≡ Some ys = sym l.1 ∙ links_of in cc in
            subst (λ l. Contains l y) (sym added) (Contains-insert_all_new eq same now ys y (subst (λ zs. Contains zs y) is l.2)))
            (cases y h);
      }
        where
          kept : (y : Id) → Contains now y → Contains later y
          kept y h = subst (λ l. Contains l y) (sym added) (Contains-insert_all_old eq now ys y h)

  module _ (names now : List Id) (n : ℕ) (learns : Learns (take n names) now) where
    in_all : (y : Id) → Contains (take n names) y → Contains names y
    in_all y h = subst (λ l. Contains l y) (take-append-drop n names) (Contains-append_left (take n names) (drop n names) y h)

    -- so far, what is there is known or linked from one of all the names
    pub Learns-some : (y : Id) → Contains now y → Contains known y ⊎ IsLinkOf links names y
    Learns-some y h = ⊎_elim inl (λ l. inr (IsLinkOf-more (take n names) names in_all y l)) (learns.known_or_linked y h)

    -- also where a part of the next name's links was added
    pub Learns-part : (eq : Id → Id → Bool) (x : Id) (ys : List Id) (m : ℕ) (later : List Id) → slice_get names n ≡ Some x → links x ≡ Some ys → later ≡ insert_all eq now (take m ys)
        → (y : Id) → Contains later y → Contains known y ⊎ IsLinkOf links names y
    Learns-part eq x ys m later at links_of added y h =
        let among : Contains (take m ys) y → Contains ys y = λ l. subst (λ zs. Contains zs y) (take-append-drop m ys) (Contains-append_left (take m ys) (drop m ys) y l) in
        ⊎_elim (Learns-some y)
        (λ l. inr (record { name = x; is_name = Contains-from_slice_get names n x at; links_to = (ys, links_of, among l) }))
        (Contains-insert_all_cases eq now (take m ys) y (subst (λ l. Contains l y) added h))

  -- where each name is known or linked from names that are whole, all are whole
  pub IsClosedUnder-linked : (names now : List Id) → ((y : Id) → Contains now y → Contains known y ⊎ IsLinkOf links names y) → IsClosedUnder links known → IsClosedUnder links names → IsClosedUnder links now
  IsClosedUnder-linked names now only known_whole names_whole y h =
      ⊎_elim (λ old. known_whole y (record { root = h.root; is_root = old; reaches = h.reaches }))
      (λ l. names_whole y (record { root = l.name; is_root = l.is_name; reaches = Reaches-trans links (onward itself l.links_to) h.reaches }))
      (only h.root h.is_root)
