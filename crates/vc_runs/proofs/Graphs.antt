-- For the run: maps of one entry, what is added to nothing, and paths of graphs, one link at a time.
use Rattle.std.proofs.Common.{◌≡◌, ◌<◌, List, ◌∷◌, Some, inl, inr, refl, sym, ap, ◌∙◌, subst, nat_cmp, arith, Contains, []}
use Rattle.std.specs.FinMap.{get, insert, empty, entries, put, entries-insert, len-entries, len-empty}
use Rattle.std.specs.List.{AllByRecursion}
use Rattle.std.specs.Cmp.Lexicographic.{slice_cmp, nat_list_cmp_total}
use Rattle.std.proofs.lemmas.List.{nil_from_length}
use Rattle.vc_model.specs.Object.{Id, Object, Format, Lookup}
use Rattle.vc_model.specs.Object.Kind.{Commit}
use Rattle.vc_model.specs.Reach.{Path, Links, HasParent, IsClosed, HasHistory}
use Rattle.vc_model.specs.Refs.{RefName, Refs}
use Rattle.vc_model.proofs.Commits.{all_holds}
use Rattle.vc_model.proofs.Maps.{insert_cases, bytes_same, none_in_empty}

-- ---- maps

abbrev pub one_ref : RefName → Id → Refs
one_ref n x = insert empty n x

pub no_entries : {X : Type 0} → entries (empty {X = X} {R = slice_cmp nat_cmp}) ≡ []
no_entries {X} = nil_from_length (entries (empty {X = X} {R = slice_cmp nat_cmp})) (sym (len-entries (empty {X = X} {R = slice_cmp nat_cmp})) ∙ len-empty (slice_cmp nat_cmp) X)

pub entries_of_one : (n : RefName) (x : Id) → entries (one_ref n x) ≡ (n, x) ∷ []
entries_of_one n x = entries-insert nat_list_cmp_total empty n x ∙ ap (put (slice_cmp nat_cmp) n x) no_entries

pub one_alone : (n : RefName) (x : Id) (m : RefName) (v : Id) → get (one_ref n x) m ≡ Some v → (m ≡ n) × (v ≡ x)
one_alone n x m v g = elim (insert_cases nat_list_cmp_total bytes_same empty n x m v g) [ inl is ↦ is | inr was ↦ absurd (none_in_empty (slice_cmp nat_cmp) m v was) ]

-- ---- graphs

pub closed_step : (fmt : Format) (at : Lookup) (x : Id) (o : Object) → at x ≡ Some o → AllByRecursion (IsClosed fmt at) (fmt.links o) → IsClosed fmt at x
closed_step fmt at x o is all = record { there = λ y p. go y p.0 p.1 }
  where
    go : (y : Id) (zs : List Id) → Path (Links fmt at) zs x y → (q : Object) × (at y ≡ Some q)
    go y [] p = (o, ap at (sym p) ∙ is)
    go y (z ∷ zs) p =
        let same : p.0.object ≡ o = let f = p.0.found in cc in
        (all_holds (IsClosed fmt at) (fmt.links o) z all (subst (λ (q : Object). Contains (fmt.links q) z) same p.0.link)).there y (zs, p.1)

pub history_step : (fmt : Format) (at : Lookup) (x : Id) (o : Object) → at x ≡ Some o → o.kind ≡ Commit → AllByRecursion (HasHistory fmt at) (fmt.parents o) → HasHistory fmt at x
history_step fmt at x o is kind all = record { commits = λ y p. go y p.0 p.1 }
  where
    go : (y : Id) (zs : List Id) → Path (HasParent fmt at) zs x y → (q : Object) × (at y ≡ Some q) × (q.kind ≡ Commit)
    go y [] p = (o, ap at (sym p) ∙ is, kind)
    go y (z ∷ zs) p =
        let same : p.0.object ≡ o = let f = p.0.found in cc in
        (all_holds (HasHistory fmt at) (fmt.parents o) z all (subst (λ (q : Object). Contains (fmt.parents q) z) same p.0.parent)).commits y (zs, p.1)

pub in_none : {A : Type 0} (z : A) → Contains {X = A} [] z → ⊥
in_none z c = absurd (let k : c.0 < 0 = c.1 in omega arith)

pub in_one : (x z : Id) → Contains (x ∷ []) z → z ≡ x
in_one x z c = all_holds (λ y. y ≡ x) (x ∷ []) z (refl, tt) c
