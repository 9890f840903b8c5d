-- The values of listed refs, with HEAD where it is an id.
use Rattle.std.proofs.Common.{◌≡◌, ℕ, Bool, true, false, cond, inl, inr, ⊎_elim, List, ◌∷◌, ◌++◌, Option, Some, None, Contains, ◌↔◌, sym, ap, ◌∙◌, refl, arith, true≢false, []}
use Rattle.std.proofs.lemmas.List.Elements.{Contains-append_left, Contains-append_right, Contains-push_cases, Contains-append_cases}
use Rattle.std.proofs.lemmas.Cmp.{nat_list_cmp_total}
use Rattle.std.specs.Cmp.{eq_by_cmp_equiv}
use Rattle.std.specs.Cmp.Lexicographic.{slice_cmp}
use Rattle.std.specs.FinMap.{find, is_sorted}
use Rattle.std.specs.FinMap.Entries.{below_all}
use Rattle.std.specs.List.{AllByRecursion}
use Rattle.std.specs.Map.{values_of}
use Rattle.std.specs.Ordering.{nat_cmp, eq_by_cmp, is_eq, is_lt, ordering_reverse}
use Rattle.std.specs.declared.cmp.Ordering.{Ordering}
use Rattle.std.specs.declared.cmp.Ordering.TheVariants.{Less, Equal, Greater}
use Rattle.std.proofs.lemmas.Bool.{and_parts}
use Rattle.std.proofs.lemmas.Option.{same_Some, none-some}
use Rattle.vc_pack.specs.Answer.{IsRefValue}
use Rattle.vc_files.specs.FileMap.{FileMap}
use Rattle.vc_object.specs.declared.id.ObjectId.{ObjectId}
use Rattle.vc_refs.specs.Head.{head_of}
use Rattle.vc_refs.specs.RefMap.{RefMap, IsListOf}
use Rattle.vc_refs.specs.Refs.{refs}
use Rattle.vc_refs.specs.declared.heads.Head.{Head}
use Rattle.vc_refs.specs.declared.heads.Head.TheVariants as head

abbrev name_cmp : List ℕ → List ℕ → Ordering
name_cmp = slice_cmp nat_cmp

-- a name is not equal to one that comes before it
above : (e x : List ℕ) → is_lt (name_cmp e x) ≡ true → eq_by_cmp name_cmp x e ≡ false
above e x h = ap is_eq (nat_list_cmp_total.antisymm x e) ∙ by (name_cmp e x) h
  where
    by : (o : Ordering) → is_lt o ≡ true → is_eq (ordering_reverse o) ≡ false
    by Less h = refl
    by Equal h = absurd (true≢false (sym h))
    by Greater h = absurd (true≢false (sym h))

abbrev Entries : Type 0
Entries = List (List ℕ × ObjectId)

lift : (e : List ℕ × ObjectId) (es ys : Entries) → below_all name_cmp e.0 ys ≡ true → AllByRecursion (λ x. find name_cmp x.0 es ≡ Some x.1) ys → AllByRecursion (λ x. find name_cmp x.0 (e ∷ es) ≡ Some x.1) ys
lift e es [] below h = tt
lift e es (y ∷ ys) below h =
    let parts = and_parts (is_lt (name_cmp e.0 y.0)) (below_all name_cmp e.0 ys) below in
    (ap (λ t. cond t (Some e.1) (find name_cmp y.0 es)) (above e.0 y.0 parts.0) ∙ h.0, lift e es ys parts.1 h.1)

-- each entry of a sorted list is found under its name
pub each_found : (es : Entries) → is_sorted name_cmp es ≡ true → AllByRecursion (λ x. find name_cmp x.0 es ≡ Some x.1) es
each_found [] sorted = tt
each_found (e ∷ es) sorted =
    let parts = and_parts (below_all name_cmp e.0 es) (is_sorted name_cmp es) sorted in
    (ap (λ t. cond t (Some e.1) (find name_cmp e.0 es)) ((eq_by_cmp_equiv nat_list_cmp_total).refl e.0), lift e es es parts.0 (each_found es parts.1))

value_found : (f : RefMap) (all es : Entries) → ((name : List ℕ) → find name_cmp name all ≡ f name) → AllByRecursion (λ x. find name_cmp x.0 all ≡ Some x.1) es
    → (id : ObjectId) → Contains (values_of es) id → (name : List ℕ) × (f name ≡ Some id)
value_found f all [] each found id h = absurd (omega (arith, h.1))
value_found f all ((name, v) ∷ es) each found id h =
    ⊎_elim (λ (first : Contains (v ∷ []) id).
    let is : v ≡ id = ⊎_elim (λ none. absurd (omega (arith, none.1))) (λ e. e) (Contains-push_cases [] v id first) in
    (name, sym (each name) ∙ found.0 ∙ ap Some is))
    (λ later. value_found f all es each found.1 id later)
    (Contains-append_cases (v ∷ []) (values_of es) id h)

has_value : (es : Entries) (name : List ℕ) (id : ObjectId) → find name_cmp name es ≡ Some id → Contains (values_of es) id
has_value [] name id e = absurd (none-some id e)
has_value ((n, v) ∷ es) name id e = by (eq_by_cmp name_cmp name n) e (λ later. has_value es name id later)
  where
    by : (b : Bool) → cond b (Some v) (find name_cmp name es) ≡ Some id → (find name_cmp name es ≡ Some id → Contains (values_of es) id) → Contains (v ∷ values_of es) id
    by true e later = (0, omega arith, same_Some v id e)
    by false e later = Contains-append_right (v ∷ []) (values_of es) id (later e)

-- the id that HEAD is, if it is one
abbrev pub detached : Option Head → Option ObjectId
detached None = None
detached (Some (head.Branch name)) = None
detached (Some (head.Id id)) = Some id

module _ (content : FileMap) (listed : Entries) (is : IsListOf (refs content) listed) where
  -- the listed ids are the values of the refs
  from_list : (id : ObjectId) → Contains (values_of listed) id → IsRefValue content id
  from_list id h = inl (value_found (refs content) listed listed is.each (each_found listed is.sorted) id h)

  in_list : (id : ObjectId) → ((name : List ℕ) × (refs content name ≡ Some id)) → Contains (values_of listed) id
  in_list id h = has_value listed h.0 id (is.each h.0 ∙ h.1)

  -- where HEAD is no id, they are all
  pub values-attached : (at : Option Head) → head_of content ≡ at → detached at ≡ None → (id : ObjectId) → Contains (values_of listed) id ↔ IsRefValue content id
  values-attached at here none id = (
    from_list id,
    λ h. ⊎_elim (in_list id) (λ there. absurd (none-some id (sym none ∙ ap detached (sym here ∙ there)))) h,
  )

  pub values-none : head_of content ≡ None → (id : ObjectId) → Contains (values_of listed) id ↔ IsRefValue content id
  values-none here = values-attached None here refl

  pub values-branch : (name : List ℕ) → head_of content ≡ Some (head.Branch name) → (id : ObjectId) → Contains (values_of listed) id ↔ IsRefValue content id
  values-branch name here = values-attached (Some (head.Branch name)) here refl

  -- where it is, that id comes last
  pub values-detached : (x : ObjectId) → head_of content ≡ Some (head.Id x) → (id : ObjectId) → Contains (values_of listed ++ x ∷ []) id ↔ IsRefValue content id
  values-detached x here id = (
    λ h. ⊎_elim (from_list id) (λ e. inr (here ∙ ap (λ y. Some (head.Id y)) e)) (Contains-push_cases (values_of listed) x id h),
    λ h. ⊎_elim (λ listed_. Contains-append_left (values_of listed) (x ∷ []) id (in_list id listed_))
        (λ there.
        let e : x ≡ id = same_Some x id (ap detached (sym here ∙ there)) in
        Contains-append_right (values_of listed) (x ∷ []) id (0, omega arith, e)) h,
  )
