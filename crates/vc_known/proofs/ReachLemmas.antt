-- Roots that reach those of the last moment.
use Rattle.std.proofs.Common.{◌≡◌, ◌++◌, ◌∷◌, [], List, Some, Contains, length, ap, subst, ◌∙◌, arith}
use Rattle.vc_object.specs.Decoding.{StoredObject}
use Rattle.vc_object.specs.ObjectMap.{ObjectMap, links_in, parents_in}
use Rattle.vc_object.specs.declared.id.ObjectId.{ObjectId}
use Rattle.vc_object_map.proofs.WalkLemmas.{ReachedFrom-trans}
use Rattle.vc_object_map.specs.Graph.{Reaches, ReachedFrom, itself, onward}
use Rattle.vc_known.proofs.LayerLemmas.{last_roots-now, length_one_more}
use Rattle.vc_history.proofs.LinkLemmas.{Reaches-ancestor}
use Rattle.vc_known.proofs.StaysLemmas.{links_same, links_stay}
use Rattle.vc_known.specs.Known.{ReachesLast, count_in, moments_in}
use Rattle.vc_known.specs.Layers.{last_roots}
use Rattle.vc_known.specs.declared.known.Known.{Known}

module _ (objects : ObjectMap) (known : Known) (roots : List ObjectId) where
  pub reaches-descendants : ((x : ObjectId) → Contains (last_roots (moments_in known) (count_in known)) x → ReachedFrom (parents_in objects) roots x) → ReachesLast objects known roots
  reaches-descendants descended = record {
    moment = omega arith;
    reached = λ x at. let r = descended x at in record { root = r.root; is_root = r.is_root; reaches = Reaches-ancestor objects r.reaches };
  }

  pub reaches-added : (before : List (List ObjectId)) → moments_in known ≡ before ++ roots ∷ [] → ReachesLast objects known roots
  reaches-added before moments =
      let last : last_roots (moments_in known) (count_in known) ≡ roots =
      ap (λ lists. last_roots lists (length lists)) moments ∙ ap (last_roots (before ++ roots ∷ [])) (length_one_more before roots) ∙ last_roots-now before roots in
      record { moment = omega arith; reached = λ x at. record { root = x; is_root = subst (λ l. Contains l x) last at; reaches = itself } }

  pub reaches-later : (later : List ObjectId) → ReachesLast objects known roots → ((x : ObjectId) → Contains roots x → ReachedFrom (links_in objects) later x) → ReachesLast objects known later
  reaches-later later reach on = record { moment = reach.moment; reached = λ x at. ReachedFrom-trans (links_in objects) later roots on x (reach.reached x at) }

  pub reaches-grown : (more : ObjectMap) → ((id : ObjectId) (o : StoredObject) → objects id ≡ Some o → more id ≡ Some o) → ReachesLast objects known roots → ReachesLast more known roots
  reaches-grown more stays reach = record {
    moment = reach.moment;
    reached = λ x at. let r = reach.reached x at in record { root = r.root; is_root = r.is_root; reaches = along r.reaches };
  }
    where
      along : {x y : ObjectId} → Reaches (links_in objects) x y → Reaches (links_in more) x y
      along itself = itself
      along (onward {y} {z} way link) = onward (along way) (link.0, links_stay objects more stays y link.0 link.1, link.2)

  pub reaches-pruned : (fewer : ObjectMap) → ((id : ObjectId) → ReachedFrom (links_in objects) roots id → fewer id ≡ objects id) → ReachesLast objects known roots → ReachesLast fewer known roots
  reaches-pruned fewer kept reach = record {
    moment = reach.moment;
    reached = λ x at. let r = reach.reached x at in record { root = r.root; is_root = r.is_root; reaches = along r.root r.is_root r.reaches };
  }
    where
      along : (root : ObjectId) → Contains roots root → {y : ObjectId} → Reaches (links_in objects) root y → Reaches (links_in fewer) root y
      along root is_root itself = itself
      along root is_root (onward {y} {z} way link) =
          let same = links_same objects fewer y (kept y (record { root = root; is_root = is_root; reaches = way })) in
          onward (along root is_root way) (link.0, same ∙ link.1, link.2)
