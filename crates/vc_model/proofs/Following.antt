-- A clone's refs follow those of the shared node: its tracking refs stay behind, and each branch whose value is closed there is caught up with.
use Rattle.std.proofs.Common.{◌≡◌, ◌≢◌, ℕ, Bool, true, false, cond, List, ◌∷◌, ◌++◌, Option, Some, None, ◌⊎◌, inl, inr, refl, sym, ap, ◌∙◌, subst, arith, get_or, nat_cmp, []}
use Rattle.std.specs.FinMap.{get, insert, find}
use Rattle.std.specs.List.{AllByRecursion}
use Rattle.std.specs.Ordering.{eq_by_cmp}
use Rattle.std.specs.Cmp.Lexicographic.{slice_cmp, nat_list_cmp_total}
use Rattle.std.specs.Cmp.{Equal-is}
use Rattle.vc_model.specs.Object.{Id, Format, Lookup, stored}
use Rattle.vc_model.specs.Reach.{IsClosed, HasHistory, IsAncestor}
use Rattle.vc_model.specs.Refs.{RefName, Refs, branch, tag, tracking, IsBranch, IsTag, IsTrackingRef, Conflicts, IsFree}
use Rattle.vc_model.specs.Repository.{Repository, Change, changed, changed_all, IsSound, IsBare}
use Rattle.vc_model.specs.Repository.Change.{SetRefs}
use Rattle.vc_model.specs.Clone.{Moves, MovesAny, MovesBranch}
use Rattle.vc_model.specs.Exchange.{BranchesCanBeTracked, IsBehind}
use Rattle.vc_model.proofs.Maps.{insert_cases, insert_same, insert_other, same_key, bytes_same}
use Rattle.vc_model.proofs.Tracking.{tag_apart, tracking_same, branch_same}
use Rattle.vc_model.proofs.Commits.{branch_tag_apart}
use Rattle.vc_model.proofs.Carried.{Agree, ancestor_carried, history_carried}

-- ---- names

tag_conflict : (t b : List ℕ) → Conflicts (tag t) (tracking b) → ⊥
tag_conflict t b (inl c) = let h : ◌≡◌ {A = ℕ} 114 116 = ap (λ (xs : List ℕ). get_or xs 5 0) c.1 in omega arith
tag_conflict t b (inr c) = let h : ◌≡◌ {A = ℕ} 116 114 = ap (λ (xs : List ℕ). get_or xs 5 0) c.1 in omega arith

pub branch_conflict : (a b : List ℕ) → Conflicts (branch a) (tracking b) → ⊥
branch_conflict a b (inl c) = let h : ◌≡◌ {A = ℕ} 114 104 = ap (λ (xs : List ℕ). get_or xs 5 0) c.1 in omega arith
branch_conflict a b (inr c) = let h : ◌≡◌ {A = ℕ} 104 114 = ap (λ (xs : List ℕ). get_or xs 5 0) c.1 in omega arith

-- branches conflict as their tracking refs do
branches_conflict : (a b : List ℕ) → Conflicts (tracking a) (tracking b) → Conflicts (branch a) (branch b)
branches_conflict a b (inl c) = inl (c.0, ap branch (tracking_same b (a ++ 47 ∷ c.0) c.1))
branches_conflict a b (inr c) = inr (c.0, ap branch (tracking_same a (b ++ 47 ∷ c.0) c.1))

same_value : (o : Option Id) (x y : Id) → o ≡ Some x → o ≡ Some y → x ≡ y
same_value o x y e f = cc

-- ---- what follows a shared node

module _ (fmt : Format) (s : Repository) (sound : IsSound fmt s) where
  abbrev pub HasBranch : List ℕ → Id → Type 0
  HasBranch b x = get s.refs (branch b) ≡ Some x

  pub branch_closed : (b : List ℕ) (x : Id) → HasBranch b x → IsClosed fmt (stored s.objects) x
  branch_closed b x g = (sound.refs (branch b) x g).closed

  pub branch_history : (b : List ℕ) (x : Id) → HasBranch b x → HasHistory fmt (stored s.objects) x
  branch_history b x g = elim ((sound.refs (branch b) x g).kind) [ inl t ↦ absurd (branch_tag_apart b t.0 t.1) | inr h ↦ h.1 ]

  -- Refs that are behind, and are tags, branches and tracking refs.
  pub record Follows (refs : Refs) : Type 0 where
    pub behind : IsBehind fmt s refs
    pub kinds : (n : RefName) (x : Id) → get refs n ≡ Some x → IsTag n ⊎ (IsBranch n ⊎ IsTrackingRef n)

  pub sound_follows : (c : Repository) → IsSound fmt c → IsBehind fmt s c.refs → Follows c.refs
  sound_follows c h b = record { behind = b; kinds = λ n x g. elim ((h.refs n x g).kind) [ inl t ↦ inl t | inr k ↦ inr k.0 ] }

  -- a tracking ref conflicts with none where its branch doesn't
  pub tracking_free : (refs : Refs) (b : List ℕ) → Follows refs → IsFree s.refs (branch b) → IsFree refs (tracking b)
  tracking_free refs b f free m v g c = elim (f.kinds m v g) [
    | inl t ↦ tag_conflict t.0 b (subst (λ (m : RefName). Conflicts m (tracking b)) t.1 c)
    | inr k ↦ elim k [
      | inl h ↦ branch_conflict h.0 b (subst (λ (m : RefName). Conflicts m (tracking b)) h.1 c)
      | inr h ↦
          let w = f.behind.each h.0 v (subst (λ (m : RefName). get refs m ≡ Some v) h.1 g) in
          free (branch h.0) w.0 w.1 (branches_conflict h.0 b (subst (λ (m : RefName). Conflicts m (tracking b)) h.1 c))
    ]
  ]

  -- What a ref is set to: a tracking ref to its branch's value, or it is a tag.
  abbrev pub Tracks : RefName → Id → Type 0
  Tracks t x = ((b : List ℕ) × (t ≡ tracking b) × HasBranch b x) ⊎ IsTag t

  set_follows : (refs : Refs) (t : RefName) (x : Id) → Tracks t x → Follows refs → Follows (insert refs t x)
  set_follows refs t x k f = record {
    behind = record { each = λ b u g. elim (insert_cases nat_list_cmp_total bytes_same refs t x (tracking b) u g) [ inl is ↦ here b u is.0 is.1 k | inr was ↦ f.behind.each b u was ] };
    kinds = λ n u g. elim (insert_cases nat_list_cmp_total bytes_same refs t x n u g) [
      | inl is ↦ elim k [ inl h ↦ inr (inr (h.0, is.0 ∙ h.1)) | inr h ↦ inl (h.0, is.0 ∙ h.1) ]
      | inr was ↦ f.kinds n u was
    ];
  }
    where
      here : (b : List ℕ) (u : Id) → tracking b ≡ t → u ≡ x → Tracks t x → (y : Id) × HasBranch b y × IsAncestor fmt (stored s.objects) u y × IsClosed fmt (stored s.objects) u
      here b u e i (inl h) =
          let same : h.0 ≡ b = tracking_same h.0 b (sym h.1 ∙ sym e) in
          let has : HasBranch b x = subst (λ (b : List ℕ). HasBranch b x) same h.2 in
          (x, has, ([], sym i), subst (IsClosed fmt (stored s.objects)) (sym i) (branch_closed b x has))
      here b u e i (inr h) = absurd (tag_apart h.0 b (sym h.1 ∙ sym e))

  -- a tracking ref that has its branch's value keeps it
  set_keeps : (refs : Refs) (t : RefName) (v : Id) (b : List ℕ) (x : Id) → Tracks t v → HasBranch b x → get refs (tracking b) ≡ Some x → get (insert refs t v) (tracking b) ≡ Some x
  set_keeps refs t v b x k has g = elim (same_key nat_list_cmp_total bytes_same (tracking b) t) [
    | inl e ↦ elim k [
      | inl h ↦
          let same : h.0 ≡ b = tracking_same h.0 b (sym h.1 ∙ sym e) in
          let value : v ≡ x = same_value (get s.refs (branch b)) v x (subst (λ (b : List ℕ). HasBranch b v) same h.2) has in
          ap (get (insert refs t v)) e ∙ (insert_same nat_list_cmp_total bytes_same refs t v ∙ ap Some value)
      | inr h ↦ absurd (tag_apart h.0 b (sym h.1 ∙ sym e))
    ]
    | inr e ↦ insert_other nat_list_cmp_total bytes_same refs t v (tracking b) e ∙ g
  ]

  -- A change that sets one ref so.
  abbrev pub SetsTracked : Change → Type 0
  SetsTracked c = (t : RefName) × (x : Id) × (c ≡ SetRefs ((t, x) ∷ [])) × Tracks t x

  pub changes_follow : (cs : List Change) (r : Repository) → AllByRecursion SetsTracked cs → Follows r.refs → Follows (changed_all cs r).refs
  changes_follow [] r a f = f
  changes_follow (c ∷ cs) r a f = changes_follow cs (changed c r) a.1
      (subst (λ (c : Change). Follows (changed c r).refs) (sym a.0.2) (set_follows r.refs a.0.0 a.0.1 a.0.3 f))

  changes_keep : (cs : List Change) (r : Repository) (b : List ℕ) (x : Id) → AllByRecursion SetsTracked cs → HasBranch b x → get r.refs (tracking b) ≡ Some x → get (changed_all cs r).refs (tracking b) ≡ Some x
  changes_keep [] r b x a has g = g
  changes_keep (c ∷ cs) r b x a has g = changes_keep cs (changed c r) b x a.1 has
      (subst (λ (c : Change). get (changed c r).refs (tracking b) ≡ Some x) (sym a.0.2) (set_keeps r.refs a.0.0 a.0.1 b x a.0.3 has g))

  -- ---- refs move to those of the shared node

  module _ (bare : IsBare fmt s) (can : BranchesCanBeTracked fmt) (at : Lookup) (agree : Agree (stored s.objects) at) where
    -- where the value of a branch is closed, its tracking ref has it or moves to it
    pub tracked : (refs : Refs) (b : List ℕ) (x : Id) → Follows refs → IsFree s.refs (branch b) → HasBranch b x → IsClosed fmt at x → (get refs (tracking b) ≡ Some x) ⊎ MovesBranch fmt at refs (branch b) x (tracking b)
    tracked refs b x f free has c = go (get refs (tracking b)) refl
      where
        moves : ((get refs (tracking b) ≡ None) ⊎ ((u : Id) × (get refs (tracking b) ≡ Some u) × (u ≢ x) × IsAncestor fmt at u x)) → MovesBranch fmt at refs (branch b) x (tracking b)
        moves forward =
            let legal = (bare.each (branch b) x has).1 in
            record {
              name = b;
              branch_is = refl;
              tracking_is = refl;
              legal = legal;
              fits = can b legal;
              free = tracking_free refs b f free;
              good = (c, history_carried fmt (stored s.objects) at x agree (branch_closed b x has) c (branch_history b x has));
              forward = forward;
            }

        go : (o : Option Id) → get refs (tracking b) ≡ o → (get refs (tracking b) ≡ Some x) ⊎ MovesBranch fmt at refs (branch b) x (tracking b)
        go None e = inr (moves (inl e))
        go (Some u) e = elim (same_key nat_list_cmp_total bytes_same u x) [
          | inl is ↦ inl (e ∙ ap Some is)
          | inr not ↦
              let w = f.behind.each b u e in
              let same : w.0 ≡ x = same_value (get s.refs (branch b)) w.0 x w.1 has in
              inr (moves (inr (u, e, not, ancestor_carried fmt (stored s.objects) at u x agree c (subst (λ (y : Id). IsAncestor fmt (stored s.objects) u y) same w.2))))
        ]

    abbrev Advertised : List (RefName × Id) → Type 0
    Advertised rs = AllByRecursion (λ r. get s.refs r.0 ≡ Some r.1) rs

    any_tracks : (refs : Refs) (n : RefName) (x : Id) (t : RefName) → get s.refs n ≡ Some x → MovesAny fmt at refs n x t → Tracks t x
    any_tracks refs n x t g (inl m) = inl (m.name, m.tracking_is, subst (λ (n : RefName). get s.refs n ≡ Some x) m.branch_is g)
    any_tracks refs n x t g (inr m) = inr (m.name, m.same ∙ m.tag_is)

    pub moves_set : (refs : Refs) (rs : List (RefName × Id)) (cs : List Change) → Advertised rs → Moves (MovesAny fmt at) refs rs cs → AllByRecursion SetsTracked cs
    moves_set refs [] cs a m = subst (AllByRecursion SetsTracked) (sym m) tt
    moves_set refs (r ∷ rs) cs a (inl m) = subst (AllByRecursion SetsTracked) (sym m.3) ((m.0, r.1, refl, any_tracks refs r.0 r.1 m.0 a.0 m.2), moves_set (insert refs m.0 r.1) rs m.1 a.1 m.4)
    moves_set refs (r ∷ rs) cs a (inr m) = moves_set refs rs cs a.1 m.1

    any_tracking : (refs : Refs) (b : List ℕ) (n : RefName) (x : Id) (t : RefName) → branch b ≡ n → MovesAny fmt at refs n x t → tracking b ≡ t
    any_tracking refs b n x t e (inl m) = ap tracking (branch_same b m.name (e ∙ m.branch_is)) ∙ sym m.tracking_is
    any_tracking refs b n x t e (inr m) = absurd (branch_tag_apart b m.name (e ∙ m.tag_is))

    -- at its turn a branch's tracking ref gets its value
    turn : (r : Repository) (b : List ℕ) (n : RefName) (x : Id) (rs : List (RefName × Id)) (cs : List Change) → branch b ≡ n → Advertised ((n, x) ∷ rs) → Follows r.refs → IsFree s.refs (branch b) → IsClosed fmt at x
        → Moves (MovesAny fmt at) r.refs ((n, x) ∷ rs) cs → get (changed_all cs r).refs (tracking b) ≡ Some x
    turn r b n x rs cs e a f free c m = go m
      where
        has : HasBranch b x
        has = subst (λ (n : RefName). get s.refs n ≡ Some x) (sym e) a.0

        go : Moves (MovesAny fmt at) r.refs ((n, x) ∷ rs) cs → get (changed_all cs r).refs (tracking b) ≡ Some x
        go (inl k) = subst (λ (cs : List Change). get (changed_all cs r).refs (tracking b) ≡ Some x) (sym k.3)
            (changes_keep k.1 (changed (SetRefs ((k.0, x) ∷ [])) r) b x (moves_set (insert r.refs k.0 x) rs k.1 a.1 k.4) has
            (ap (get (insert r.refs k.0 x)) (any_tracking r.refs b n x k.0 e k.2) ∙ insert_same nat_list_cmp_total bytes_same r.refs k.0 x))
        go (inr k) = elim (tracked r.refs b x f free has c) [
          | inl is ↦ changes_keep cs r b x (moves_set r.refs rs cs a.1 k.1) has is
          | inr is ↦ absurd (k.0 (tracking b, inl (subst (λ (n : RefName). MovesBranch fmt at r.refs n x (tracking b)) e is)))
        ]

    -- all the others of these move so
    abbrev CatchesUp : List ℕ → Id → List (RefName × Id) → Type 0
    CatchesUp b x rs = (r : Repository) (cs : List Change) → Follows r.refs → find (slice_cmp nat_cmp) (branch b) rs ≡ Some x → Moves (MovesAny fmt at) r.refs rs cs → get (changed_all cs r).refs (tracking b) ≡ Some x

    -- where all advertised values are closed, each branch among them is caught up with
    pub caught_up : (b : List ℕ) (x : Id) (rs : List (RefName × Id)) → Advertised rs → AllByRecursion (λ r. IsClosed fmt at r.1) rs → IsFree s.refs (branch b) → CatchesUp b x rs
    caught_up b x [] a all free r cs f g m = absurd (cc)
    caught_up b x (e ∷ rs) a all free r cs f g m = go (eq_by_cmp (slice_cmp nat_cmp) (branch b) e.0) refl g (caught_up b x rs a.1 all.1 free)
      where
        rest : CatchesUp b x rs → find (slice_cmp nat_cmp) (branch b) rs ≡ Some x → Moves (MovesAny fmt at) r.refs (e ∷ rs) cs → get (changed_all cs r).refs (tracking b) ≡ Some x
        rest more h (inl k) = subst (λ (cs : List Change). get (changed_all cs r).refs (tracking b) ≡ Some x) (sym k.3)
            (more (changed (SetRefs ((k.0, e.1) ∷ [])) r) k.1 (set_follows r.refs k.0 e.1 (any_tracks r.refs e.0 e.1 k.0 a.0 k.2) f) h k.4)
        rest more h (inr k) = more r cs f h k.1

        go : (t : Bool) → eq_by_cmp (slice_cmp nat_cmp) (branch b) e.0 ≡ t → cond t (Some e.1) (find (slice_cmp nat_cmp) (branch b) rs) ≡ Some x → CatchesUp b x rs → get (changed_all cs r).refs (tracking b) ≡ Some x
        go true is h more =
            let key : branch b ≡ e.0 = bytes_same (branch b) e.0 ((Equal-is (slice_cmp nat_cmp (branch b) e.0)).0 is) in
            let value : e.1 ≡ x = cc in
            turn r b e.0 e.1 rs cs key a f free all.0 m ∙ ap Some value
        go false is h more = rest more h m
