-- Objects added to objects: one map of what both have.
use Rattle.std.proofs.Common.{◌≡◌, ◌⊎◌, inl, inr, Bool, true, false, cond, List, ◌∷◌, Option, Some, None, refl, sym, ap, ◌∙◌, []}
use Rattle.std.specs.FinMap.{get, insert, entries, find, get-entries, get-insert, get-retain_keys, retain_keys}
use Rattle.std.specs.Option.{option_or}
use Rattle.std.specs.Ordering.{eq_by_cmp, nat_cmp}
use Rattle.std.specs.Cmp.Lexicographic.{slice_cmp, nat_list_cmp_total}
use Rattle.vc_model.proofs.Maps.{bytes_same}
use Rattle.vc_model.specs.Object.{Id, Object, Objects}
use Rattle.vc_model.specs.Repository.{AllAdded, SomeAdded}

with_entries : Objects → List (Id × Object) → Objects
with_entries c [] = c
with_entries c (e ∷ es) = insert (with_entries c es) e.0 e.1

some_or : (b : Bool) (x : Object) (first second : Option Object) → cond b (Some x) (option_or first second) ≡ option_or (cond b (Some x) first) second
some_or true x first second = refl
some_or false x first second = refl

found_in : (c : Objects) (es : List (Id × Object)) (x : Id) → get (with_entries c es) x ≡ option_or (find (slice_cmp nat_cmp) x es) (get c x)
unfolding with_entries
found_in c [] x = refl
found_in c (e ∷ es) x =
    get-insert nat_list_cmp_total (with_entries c es) e.0 e.1 x
    ∙ ap (cond (eq_by_cmp (slice_cmp nat_cmp) x e.0) (Some e.1)) (found_in c es x)
    ∙ some_or (eq_by_cmp (slice_cmp nat_cmp) x e.0) e.1 (find (slice_cmp nat_cmp) x es) (get c x)

-- all of c, where s has nothing of that name
pub joined : Objects → Objects → Objects
joined s c = with_entries c (entries s)

pub joined_all : (s c : Objects) → AllAdded s c (joined s c)
unfolding joined
joined_all s c = record { each = λ x. found_in c (entries s) x ∙ ap (λ o. option_or o (get c x)) (sym (get-entries s x)) }

-- those of c whose names pass the test
pub joined_where : Objects → Objects → (Id → Bool) → Objects
joined_where s c keep = joined s (retain_keys c keep)

module _ (s c : Objects) (keep : Id → Bool) where
  pub joined_where_each : (x : Id) → get (joined_where s c keep) x ≡ option_or (get s x) (cond (keep x) (get c x) None)
  unfolding joined_where
  joined_where_each x =
      (joined_all s (retain_keys c keep)).each x
      ∙ ap (option_or (get s x)) (get-retain_keys c keep x (λ y same. ap keep (sym (bytes_same x y same))))

  pub joined_some : SomeAdded s c (joined_where s c keep)
  joined_some = record { each = λ x. by (keep x) (get s x) (get c x) (get (joined_where s c keep) x) (joined_where_each x) }
    where
      by : (b : Bool) (first second now : Option Object) → now ≡ option_or first (cond b second None) → (now ≡ first) ⊎ (now ≡ option_or first second)
      by true first second now e = inr e
      by false None second now e = inl e
      by false (Some y) second now e = inl e
