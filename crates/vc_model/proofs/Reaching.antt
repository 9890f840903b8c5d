-- Paths, and what stays closed where other objects come and go.
use Rattle.std.proofs.Common.{◌≡◌, List, [], ◌∷◌, ◌++◌, Some, refl, sym, ◌∙◌, subst}
use Rattle.vc_model.specs.Object.{Id, Object, Format, Lookup}
use Rattle.vc_model.specs.Reach.{Path, Reaches, Links, HasParent, IsClosed, HasHistory}

-- one path after another
pub path-append : (step : Id → Id → Type 0) (xs ys : List Id) (a b c : Id) → Path step xs a b → Path step ys b c → Path step (xs ++ ys) a c
path-append step [] ys a b c p q = subst (λ z. Path step ys z c) (sym p) q
path-append step (x ∷ xs) ys a b c p q = (p.0, path-append step xs ys x b c p.1 q)

pub reaches-trans : (step : Id → Id → Type 0) (a b c : Id) → Reaches step a b → Reaches step b c → Reaches step a c
reaches-trans step a b c p q = (p.0 ++ q.0, path-append step p.0 q.0 a b c p.1 q.1)

-- a path by one kind of step is one by another
pub path-steps : (f g : Id → Id → Type 0) → ((x y : Id) → f x y → g x y) → (zs : List Id) (a b : Id) → Path f zs a b → Path g zs a b
path-steps f g h [] a b p = p
path-steps f g h (z ∷ zs) a b p = (h a z p.0, path-steps f g h zs z b p.1)

pub reaches-steps : (f g : Id → Id → Type 0) → ((x y : Id) → f x y → g x y) → (a b : Id) → Reaches f a b → Reaches g a b
reaches-steps f g h a b p = (p.0, path-steps f g h p.0 a b p.1)

-- a parent is linked
pub parent_links : (fmt : Format) (at : Lookup) (x y : Id) → HasParent fmt at x y → Links fmt at x y
parent_links fmt at x y h = record { object = h.object; found = h.found; link = fmt.parents_linked h.object y h.parent }

-- where f and g agree on what x reaches in f, a path from x in g is one in f
links_back : (fmt : Format) (f g : Lookup) (zs : List Id) (x y : Id) → ((z : Id) → Reaches (Links fmt f) x z → f z ≡ g z) → Path (Links fmt g) zs x y → Path (Links fmt f) zs x y
links_back fmt f g [] x y agree p = p
links_back fmt f g (z ∷ zs) x y agree p =
    let first : Links fmt f x z = record { object = p.0.object; found = agree x ([], refl) ∙ p.0.found; link = p.0.link } in
    (first, links_back fmt f g zs z y (λ w q. agree w (z ∷ q.0, (first, q.1))) p.1)

parents_back : (fmt : Format) (f g : Lookup) (zs : List Id) (x y : Id) → ((z : Id) → Reaches (HasParent fmt f) x z → f z ≡ g z) → Path (HasParent fmt g) zs x y → Path (HasParent fmt f) zs x y
parents_back fmt f g [] x y agree p = p
parents_back fmt f g (z ∷ zs) x y agree p =
    let first : HasParent fmt f x z = record { object = p.0.object; found = agree x ([], refl) ∙ p.0.found; commit = p.0.commit; parent = p.0.parent } in
    (first, parents_back fmt f g zs z y (λ w q. agree w (z ∷ q.0, (first, q.1))) p.1)

-- what x reaches is the same in both, so it is closed in both
pub closed_agree : (fmt : Format) (f g : Lookup) (x : Id) → ((z : Id) → Reaches (Links fmt f) x z → f z ≡ g z) → IsClosed fmt f x → IsClosed fmt g x
closed_agree fmt f g x agree c = record {
  there = λ y p.
      let q : Reaches (Links fmt f) x y = (p.0, links_back fmt f g p.0 x y agree p.1) in
      let o = c.there y q in
      (o.0, sym (agree y q) ∙ o.1);
}

pub history_agree : (fmt : Format) (f g : Lookup) (x : Id) → ((z : Id) → Reaches (HasParent fmt f) x z → f z ≡ g z) → HasHistory fmt f x → HasHistory fmt g x
history_agree fmt f g x agree c = record {
  commits = λ y p.
      let q : Reaches (HasParent fmt f) x y = (p.0, parents_back fmt f g p.0 x y agree p.1) in
      let o = c.commits y q in
      (o.0, sym (agree y q) ∙ o.1, o.2);
}

-- what is found in f is found in g
pub record Extends (f g : Lookup) : Type 0 where
  pub each : (x : Id) (o : Object) → f x ≡ Some o → g x ≡ Some o

pub closed_grows : (fmt : Format) (f g : Lookup) (x : Id) → Extends f g → IsClosed fmt f x → IsClosed fmt g x
closed_grows fmt f g x e c = closed_agree fmt f g x (λ z p. let o = c.there z p in o.1 ∙ sym (e.each z o.0 o.1)) c

pub history_grows : (fmt : Format) (f g : Lookup) (x : Id) → Extends f g → HasHistory fmt f x → HasHistory fmt g x
history_grows fmt f g x e c = history_agree fmt f g x (λ z p. let o = c.commits z p in o.1 ∙ sym (e.each z o.0 o.1)) c

-- where what x reaches is kept, it stays closed
pub closed_kept : (fmt : Format) (f g : Lookup) (x : Id) → ((z : Id) → Reaches (Links fmt f) x z → g z ≡ f z) → IsClosed fmt f x → IsClosed fmt g x
closed_kept fmt f g x kept c = closed_agree fmt f g x (λ z p. sym (kept z p)) c

pub history_kept : (fmt : Format) (f g : Lookup) (x : Id) → ((z : Id) → Reaches (Links fmt f) x z → g z ≡ f z) → HasHistory fmt f x → HasHistory fmt g x
history_kept fmt f g x kept c = history_agree fmt f g x (λ z p. sym (kept z (reaches-steps (HasParent fmt f) (Links fmt f) (parent_links fmt f) x z p))) c

-- what a closed name reaches is closed
pub closed_below : (fmt : Format) (f : Lookup) (x y : Id) → IsClosed fmt f x → Reaches (Links fmt f) x y → IsClosed fmt f y
closed_below fmt f x y c p = record { there = λ z q. c.there z (reaches-trans (Links fmt f) x y z p q) }
