-- Picking elements of a list one by one.
use Rattle.std.proofs.Common.{◌≡◌, ℕ, ◌+◌, ◌<◌, ◌≤◌, ⊎_elim, List, [], ◌∷◌, ◌++◌, length, take, drop, get_or, Contains, ◌↔◌, sym, ap, subst, ◌∙◌, refl, arith, append_assoc}
use Rattle.std.proofs.lemmas.List.{take_all, take-append-drop, take_more}
use Rattle.std.proofs.lemmas.List.Elements.{Contains-append_left, Contains-append_right, Contains-push_cases}
use Rattle.vc_pack.specs.Picked.{IsFirst, IsPicked, BeginsWithFirst}

pub parted_at : {X : Type 0} (xs : List X) (n : ℕ) (d : X) → n < length xs → xs ≡ take n xs ++ get_or xs n d ∷ drop (n + 1) xs
parted_at xs n d here =
    sym (take-append-drop (n + 1) xs) ∙ ap (λ l. l ++ drop (n + 1) xs) (take_more xs n d here) ∙ append_assoc (take n xs) (get_or xs n d ∷ []) (drop (n + 1) xs)

module _ {X : Type 0} (P : X → Type 0) where
  -- the first of xs stays the first where more come behind
  IsFirst-more : (Other : X → Type 0) (xs more : List X) (x : X) → IsFirst P Other xs x → IsFirst P Other (xs ++ more) x
  IsFirst-more Other xs more x f = record {
    before = f.before;
    after = f.after ++ more;
    place = ap (λ l. l ++ more) f.place ∙ append_assoc f.before (x ∷ f.after) more;
    others = f.others;
    here = f.here;
  }

  pub IsPicked-none : (ys : List X) → ys ≡ [] → IsPicked P [] ys
  IsPicked-none ys none = subst (IsPicked P []) (sym none) (record {
    members = λ y. (λ h. absurd (omega (arith, h.1)), λ h. absurd (omega (arith, h.0.1)));
    first = tt;
  })

  -- an element that is not so is passed over
  pub IsPicked-passed : (xs ys : List X) (x : X) → IsPicked P xs ys → ¬ P x → IsPicked P (xs ++ x ∷ []) ys
  IsPicked-passed xs ys x picked not = record {
    members = λ y. (
      λ h. (Contains-append_left xs (x ∷ []) y ((picked.members y).0 h).0, ((picked.members y).0 h).1),
      λ h. ⊎_elim (λ old. (picked.members y).1 (old, h.1)) (λ e. absurd (not (subst P (sym e) h.1))) (Contains-push_cases xs x y h.0),
    );
    first = by ys picked.first;
  }
    where
      by : (zs : List X) → BeginsWithFirst P xs zs → BeginsWithFirst P (xs ++ x ∷ []) zs
      by [] f = tt
      by (z ∷ zs) f = IsFirst-more (λ w. ¬ P w) xs (x ∷ []) z f

  -- one that is so is picked
  pub IsPicked-more : (xs ys : List X) (x : X) → IsPicked P xs ys → P x → IsPicked P (xs ++ x ∷ []) (ys ++ x ∷ [])
  IsPicked-more xs ys x picked is = record {
    members = λ y. (
      λ h. ⊎_elim (λ old. (Contains-append_left xs (x ∷ []) y ((picked.members y).0 old).0, ((picked.members y).0 old).1))
          (λ e. (subst (λ z. Contains (xs ++ x ∷ []) z) e (Contains-append_right xs (x ∷ []) x (0, omega arith, refl)), subst P e is))
          (Contains-push_cases ys x y h),
      λ h. ⊎_elim (λ old. Contains-append_left ys (x ∷ []) y ((picked.members y).1 (old, h.1)))
          (λ e. subst (λ z. Contains (ys ++ x ∷ []) z) e (Contains-append_right ys (x ∷ []) x (0, omega arith, refl)))
          (Contains-push_cases xs x y h.0),
    );
    first = by ys picked.members picked.first;
  }
    where
      by : (zs : List X) → ((y : X) → Contains zs y ↔ (Contains xs y × P y)) → BeginsWithFirst P xs zs → BeginsWithFirst P (xs ++ x ∷ []) (zs ++ x ∷ [])
      by [] members f = record {
        before = xs;
        after = [];
        place = refl;
        others = λ y h p. let none = (members y).1 (h, p) in omega (arith, none.1);
        here = is;
      }
      by (z ∷ zs) members f = IsFirst-more (λ w. ¬ P w) xs (x ∷ []) z f

  -- the elements up to the next
  pub IsPicked-next_passed : (xs ys : List X) (n : ℕ) (d : X) → n < length xs → IsPicked P (take n xs) ys → ¬ P (get_or xs n d) → IsPicked P (take (n + 1) xs) ys
  IsPicked-next_passed xs ys n d here picked not = subst (λ l. IsPicked P l ys) (sym (take_more xs n d here)) (IsPicked-passed (take n xs) ys (get_or xs n d) picked not)

  pub IsPicked-next : (xs ys now : List X) (n : ℕ) (d : X) → n < length xs → IsPicked P (take n xs) ys → P (get_or xs n d) → now ≡ ys ++ get_or xs n d ∷ [] → IsPicked P (take (n + 1) xs) now
  IsPicked-next xs ys now n d here picked is pushed =
      subst (λ l. IsPicked P (take (n + 1) xs) l) (sym pushed) (subst (λ l. IsPicked P l (ys ++ get_or xs n d ∷ [])) (sym (take_more xs n d here)) (IsPicked-more (take n xs) ys (get_or xs n d) picked is))

  pub IsPicked-whole : (xs ys : List X) (n : ℕ) → length xs ≤ n → IsPicked P (take n xs) ys → IsPicked P xs ys
  IsPicked-whole xs ys n end picked = subst (λ l. IsPicked P l ys) (take_all n xs end) picked
