-- What one node sends to another over what is there: where the two agree on objects, it makes closed what the sender has closed.
use Rattle.std.proofs.Common.{◌≡◌, List, [], ◌∷◌, Option, Some, None, inl, inr, refl, sym, ap, ◌∙◌}
use Rattle.std.specs.FinMap.{get}
use Rattle.std.specs.Option.{option_or}
use Rattle.vc_model.specs.Object.{Id, Object, Format, Objects, Lookup, IsNamed, stored, over}
use Rattle.vc_model.specs.Reach.{Path, Reaches, Links, HasParent, IsClosed, HasHistory, IsAncestor}
use Rattle.vc_model.specs.Repository.{Repository}
use Rattle.vc_model.specs.Node.{IsDifference}
use Rattle.vc_model.specs.Exchange.{NodesAgree}
use Rattle.vc_model.proofs.Reaching.{closed_agree, closed_below, parent_links}
use Rattle.vc_model.proofs.Runs.{found_over}

-- What is found under one name in both is one object.
pub record Agree (f g : Lookup) : Type 0 where
  pub each : (x : Id) (o p : Object) → f x ≡ Some o → g x ≡ Some p → o ≡ p

pub agree_of : (fmt : Format) (s c : Repository) → IsNamed fmt s.objects → IsNamed fmt c.objects → NodesAgree fmt s c → Agree (stored s.objects) (stored c.objects)
agree_of fmt s c m n a = record { each = λ x o p g h. a.unique o p (x, g) (x, h) (m.named x o g ∙ sym (n.named x p h)) }

pub turned : (f g : Lookup) → Agree f g → Agree g f
turned f g a = record { each = λ x o p h k. sym (a.each x p o k h) }

found_as : (f g : Lookup) (x : Id) (o p : Object) → Agree f g → f x ≡ Some o → g x ≡ Some p → g x ≡ Some o
found_as f g x o p a h k = k ∙ ap Some (sym (a.each x o p h k))

-- a path in f is one in g, where g is closed under its beginning
links_carried : (fmt : Format) (f g : Lookup) → Agree f g → (zs : List Id) (x y : Id) → IsClosed fmt g x → Path (Links fmt f) zs x y → Path (Links fmt g) zs x y
links_carried fmt f g a [] x y c p = p
links_carried fmt f g a (z ∷ zs) x y c p =
    let o = c.there x ([], refl) in
    let first : Links fmt g x z = record { object = p.0.object; found = found_as f g x p.0.object o.0 a p.0.found o.1; link = p.0.link } in
    (first, links_carried fmt f g a zs z y (closed_below fmt g x z c (z ∷ [], (first, refl))) p.1)

parents_carried : (fmt : Format) (f g : Lookup) → Agree f g → (zs : List Id) (x y : Id) → IsClosed fmt g x → Path (HasParent fmt f) zs x y → Path (HasParent fmt g) zs x y
parents_carried fmt f g a [] x y c p = p
parents_carried fmt f g a (z ∷ zs) x y c p =
    let o = c.there x ([], refl) in
    let first : HasParent fmt g x z = record { object = p.0.object; found = found_as f g x p.0.object o.0 a p.0.found o.1; commit = p.0.commit; parent = p.0.parent } in
    (first, parents_carried fmt f g a zs z y (closed_below fmt g x z c (z ∷ [], (parent_links fmt g x z first, refl))) p.1)

pub ancestor_carried : (fmt : Format) (f g : Lookup) (u x : Id) → Agree f g → IsClosed fmt g x → IsAncestor fmt f u x → IsAncestor fmt g u x
ancestor_carried fmt f g u x a c p = (p.0, parents_carried fmt f g a p.0 x u c p.1)

pub ancestor_closed : (fmt : Format) (f : Lookup) (u x : Id) → IsClosed fmt f x → IsAncestor fmt f u x → IsClosed fmt f u
ancestor_closed fmt f u x c p = closed_below fmt f x u c (Rattle.vc_model.proofs.Reaching.reaches-steps (HasParent fmt f) (Links fmt f) (parent_links fmt f) x u p)

-- a history in f is one in g, where both are closed under it
pub history_carried : (fmt : Format) (f g : Lookup) (x : Id) → Agree f g → IsClosed fmt f x → IsClosed fmt g x → HasHistory fmt f x → HasHistory fmt g x
history_carried fmt f g x a c d h = record {
  commits = λ y p.
      let o = h.commits y (ancestor_carried fmt g f y x (turned f g a) c p) in
      let q = (ancestor_closed fmt g y x d p).there y ([], refl) in
      (o.0, found_as f g y o.0 q.0 a o.1 q.1, o.2);
}

-- what f has that the included names reach and the excluded don't, laid over g, which is closed under the excluded
module _ (fmt : Format) (f g d : Objects) (include exclude : Id → Type 0) (is : IsDifference fmt f include exclude d) (agree : Agree (stored f) (stored g))
    (held : (x : Id) → exclude x → IsClosed fmt (stored g) x) where
  pub agree_over : Agree (stored f) (over g d)
  agree_over = record {
    each = λ x o p h k. elim (found_over g d x p k) [
      | inl there ↦ agree.each x o p h there
      | inr sent ↦ let e : get f x ≡ Some p = (is.only x p sent).0 in cc
    ];
  }

  found_there : (x z : Id) → include x → (o : Object) → get f z ≡ Some o → Reaches (Links fmt (stored f)) x z → (found : Option Object) → get g z ≡ found → option_or found (get d z) ≡ Some o
  found_there x z i o e p (Some q) h = ap Some (sym (agree.each z o q e h))
  found_there x z i o e p None h = is.all z o e (x, i, p) (λ r. let c = held r.0 r.1 in
      let q = (closed_below fmt (stored g) r.0 z c (r.2.0, links_carried fmt (stored f) (stored g) agree r.2.0 r.0 z c r.2.1)).there z ([], refl) in
      let some : get g z ≡ Some q.0 = q.1 in cc)

  pub closed_over : (x : Id) → include x → IsClosed fmt (stored f) x → IsClosed fmt (over g d) x
  closed_over x i c = closed_agree fmt (stored f) (over g d) x
      (λ z p. let o = c.there z p in o.1 ∙ sym (found_there x z i o.0 o.1 p (get g z) refl)) c
