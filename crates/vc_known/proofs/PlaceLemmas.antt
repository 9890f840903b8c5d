-- Places of names in a layer, given one after the other.
use Rattle.std.proofs.Common.{◌≡◌, ℕ, suc, ◌+◌, ◌<◌, ◌⊎◌, inl, inr, ⊎_elim, Bool, true, false, cond, List, [], ◌∷◌, ◌++◌, length, take, get_or, Option, Some, None, IsSome, Contains, sym, ap, subst, ◌∙◌, refl, arith, true≢false}
use Rattle.std.specs.Prelude.{is_some}
use Rattle.std.specs.Option.{option_map}
use Rattle.std.proofs.Math.Seq.{take-suc}
use Rattle.std.proofs.lemmas.List.Elements.{Contains-append_left, Contains-append_right, Contains-append_cases, Contains-push_cases}
use Rattle.std.proofs.lemmas.List.{get_or_default}
use Rattle.vc_lemmas.proofs.Lists.{value_of, some_of}
use Rattle.vc_object.specs.ObjectId.{id_eq}
use Rattle.vc_object.specs.declared.id.ObjectId.{ObjectId}
use Rattle.vc_object.specs.declared.kind.Kind.{Kind}
use Rattle.vc_object.proofs.IdLemmas.{id_eq-same, id_eq_equiv}
use Rattle.vc_known.specs.Walked.{Places, place_at}
use Rattle.vc_known.specs.declared.known.Place.{Place}

module _ (layer : ℕ) (kinds : ObjectId → Option Kind) where
  -- no name has no place to get
  pub Places-none : (names : List ObjectId) (old : ObjectId → Option Place) → names ≡ [] → Places layer names kinds old old
  Places-none names old none = record {
    kept = λ id place is. is;
    only = λ id place is. inl is;
    placed = λ id at some. absurd (omega (arith, at.1, ap length none));
  }

  -- a name that has a place keeps it
  pub Places-there : (old : ObjectId → Option Place) (id : ObjectId) → IsSome (old id) → Places layer (id ∷ []) kinds old old
  Places-there old id there = record {
    kept = λ x place is. is;
    only = λ x place is. inl is;
    placed = λ x at some. subst (λ y. IsSome (old y)) (one id x at) there;
  }
    where
      one : (id x : ObjectId) → Contains (id ∷ []) x → id ≡ x
      one id x at = ⊎_elim (λ none. absurd (omega (arith, none.1))) (λ e. e) (Contains-push_cases [] id x at)

  -- one whose kind is not known gets none
  pub Places-unread : (old : ObjectId → Option Place) (id : ObjectId) → kinds id ≡ None → Places layer (id ∷ []) kinds old old
  Places-unread old id unread = record {
    kept = λ x place is. is;
    only = λ x place is. inl is;
    placed = λ x at some.
        let is : id ≡ x = ⊎_elim (λ none. absurd (omega (arith, none.1))) (λ e. e) (Contains-push_cases [] id x at) in
        absurd (true≢false (sym some ∙ ap is_some (ap kinds (sym is) ∙ unread)));
  }

  -- and another gets this one
  pub Places-one : (old new : ObjectId → Option Place) (id : ObjectId) (kind : Kind) → old id ≡ None → kinds id ≡ Some kind
      → ((q : ObjectId) → new q ≡ cond (id_eq id q) (Some (place_at layer kind)) (old q)) → Places layer (id ∷ []) kinds old new
  Places-one old new id kind none is updates = record {
    kept = λ x place had. by_kept x place had (id_eq id x) refl;
    only = λ x place has. by_only x place has (id_eq id x) refl;
    placed = λ x at some.
        let same : id ≡ x = ⊎_elim (λ none. absurd (omega (arith, none.1))) (λ e. e) (Contains-push_cases [] id x at) in
        subst (λ y. IsSome (new y)) same (subst (λ o. IsSome o) (sym (updates id ∙ ap (λ b. cond b (Some (place_at layer kind)) (old id)) (id_eq_equiv.refl id))) refl);
  }
    where
      by_kept : (x : ObjectId) (place : Place) → old x ≡ Some place → (b : Bool) → id_eq id x ≡ b → new x ≡ Some place
      by_kept x place had true e = let no : None ≡ Some place = sym none ∙ ap old (id_eq-same id x e) ∙ had in absurd (cc)
      by_kept x place had false e = updates x ∙ ap (λ b. cond b (Some (place_at layer kind)) (old x)) e ∙ had

      by_only : (x : ObjectId) (place : Place) → new x ≡ Some place → (b : Bool) → id_eq id x ≡ b → (old x ≡ Some place) ⊎ (Contains (id ∷ []) x × (option_map (place_at layer) (kinds x) ≡ Some place))
      by_only x place has true e =
          let same : id ≡ x = id_eq-same id x e in
          inr (
            subst (λ y. Contains (id ∷ []) y) same (0, omega arith, refl),
            ap (option_map (place_at layer)) (ap kinds (sym same) ∙ is) ∙ ap (λ b. cond b (Some (place_at layer kind)) (old x)) (sym e) ∙ sym (updates x) ∙ has,
          )
      by_only x place has false e = inl (ap (λ b. cond b (Some (place_at layer kind)) (old x)) (sym e) ∙ sym (updates x) ∙ has)

  -- the places of more names are those of some, and then those of the others
  pub Places-then : (names more all : List ObjectId) (old mid new : ObjectId → Option Place) → all ≡ names ++ more → Places layer names kinds old mid → Places layer more kinds mid new → Places layer all kinds old new
  Places-then names more all old mid new joined first second = record {
    kept = λ id place is. second.kept id place (first.kept id place is);
    only = λ id place is. ⊎_elim
        (λ was. ⊎_elim inl (λ h. inr (subst (λ l. Contains l id) (sym joined) (Contains-append_left names more id h.0), h.1)) (first.only id place was))
        (λ h. inr (subst (λ l. Contains l id) (sym joined) (Contains-append_right names more id h.0), h.1))
        (second.only id place is);
    placed = λ id at some. ⊎_elim
        (λ early. let p = value_of (mid id) (first.placed id early some) in some_of (new id) p.0 (second.kept id p.0 p.1))
        (λ late. second.placed id late some)
        (Contains-append_cases names more id (subst (λ l. Contains l id) joined at));
  }

-- the names up to the next, and the next
pub take-next : (names : List ObjectId) (n : ℕ) (id : ObjectId) → n < length names → get_or names n id ≡ id → take (n + 1) names ≡ take n names ++ id ∷ []
take-next names n id here is =
    let place : n + 1 ≡ suc n = omega arith in
    ap (λ k. take k names) place ∙ take-suc names n id here ∙ ap (λ y. take n names ++ y ∷ []) is

-- what is so of the names up to the next, and of the next
pub all_next : (P : ObjectId → Type 0) (names : List ObjectId) (n : ℕ) (d : ObjectId) → n < length names → ((y : ObjectId) → Contains (take n names) y → P y) → P (get_or names n d)
    → (y : ObjectId) → Contains (take (n + 1) names) y → P y
all_next P names n d here before next y h =
    ⊎_elim (before y) (λ e. subst P e next) (Contains-push_cases (take n names) (get_or names n d) y (subst (λ l. Contains l y) (take-next names n (get_or names n d) here (get_or_default names n (get_or names n d) d here)) h))
