-- The parents of a commit are links of it, so what is an ancestor is reached by links.
use Rattle.std.proofs.Common.{◌≡◌, ℕ, List, [], ◌∷◌, Option, Some, None, Contains, sym, subst, ◌∙◌, refl}
use Rattle.std.specs.Option.{option_map}
use Rattle.std.proofs.lemmas.List.Elements.{Contains-append_right}
use Rattle.vc_object.specs.CommitReading.{commit_of}
use Rattle.vc_object.specs.Commit.{CommitText}
use Rattle.vc_object.specs.Decoding.{StoredObject}
use Rattle.vc_object.specs.Links.{commit_links, links_of, parents_of}
use Rattle.vc_object.specs.ObjectMap.{ObjectMap, links_in, parents_in}
use Rattle.vc_object.specs.declared.id.ObjectId.{ObjectId}
use Rattle.vc_object.specs.declared.kind.Kind.{Kind}
use Rattle.vc_object.specs.declared.kind.Kind.TheVariants as kinds
use Rattle.vc_object.proofs.ObjectMaps.{links_in-some, parents_in-none, parents_in-some}
use Rattle.vc_object_map.specs.Graph.{LinksTo, Reaches, itself, onward}

-- a commit's parents are links of it
parents_among : (kind : Kind) (body : List ℕ) (ps : List ObjectId) → parents_of kind body ≡ Some ps → (y : ObjectId) → Contains ps y → Contains (links_of kind body) y
parents_among kinds.Blob body ps is y at = absurd (cc)
parents_among kinds.Tree body ps is y at = absurd (cc)
parents_among kinds.Tag body ps is y at = absurd (cc)
parents_among kinds.Commit body ps is y at = by (commit_of body) is
  where
    by : (o : Option CommitText) → option_map (λ (c : CommitText). c.parents) o ≡ Some ps → Contains (commit_links o) y
    by None e = absurd (cc)
    by (Some c) e =
        let same : c.parents ≡ ps = let both : Some c.parents ≡ Some ps = e in cc both in
        Contains-append_right (c.tree ∷ []) c.parents y (subst (λ l. Contains l y) (sym same) at)

module _ (objects : ObjectMap) where
  pub LinksTo-parent : (x y : ObjectId) → LinksTo (parents_in objects) x y → LinksTo (links_in objects) x y
  LinksTo-parent x y l = by (objects x) refl
    where
      by : (o : Option StoredObject) → objects x ≡ o → LinksTo (links_in objects) x y
      by None e = let no : None ≡ Some l.0 = sym (parents_in-none objects x e) ∙ l.1 in absurd (cc)
      by (Some o) e = (links_of o.kind o.body, links_in-some objects x o e, parents_among o.kind o.body l.0 (sym (parents_in-some objects x o e) ∙ l.1) y l.2)

  pub Reaches-ancestor : {x y : ObjectId} → Reaches (parents_in objects) x y → Reaches (links_in objects) x y
  Reaches-ancestor itself = itself
  Reaches-ancestor (onward {y} {z} way link) = onward (Reaches-ancestor way) (LinksTo-parent y z link)
