-- What is known of a list of names that is kept: which objects of the machine are needed.
use Rattle.std.proofs.Common.{◌≡◌, ◌↔◌, List, Option, Some, None, Contains, IsSome, ◌⊎◌, inl, inr, refl, sym, ap, ◌∙◌}
use Rattle.std.specs.Prelude.{option_map}
use Rattle.std.proofs.lemmas.Option.{none-some}
use Rattle.std.specs.FinMap.{get}
use Rattle.vc_format.specs.Git.{id_of_bytes}
use Rattle.vc_lemmas.proofs.Lists.{some_of, value_of}
use Rattle.vc_model.specs.Object.{Id, Lookup, Object, Objects}
use Rattle.vc_model.specs.Reach.{Links, Reaches}
use Rattle.vc_object.proofs.IdLemmas.{id_eq_equiv, id_eq-same}
use Rattle.vc_object.proofs.ObjectMaps.{links_in-none}
use Rattle.vc_object.specs.Decoding.{StoredObject}
use Rattle.vc_object.specs.ObjectMap.{ObjectMap, links_in}
use Rattle.vc_object.specs.declared.id.ObjectId.{ObjectId}
use Rattle.vc_object_map.proofs.NamesLemmas.{Contains-cases}
use Rattle.vc_object_map.specs.Present.{IsPresentFrom}
use Rattle.vc_object_map.specs.Graph.{AreExactly, ReachedFrom}
use Rattle.vc_object_map.specs.Graph.Reaches.{itself}
use Rattle.vc_pruning.proofs.ReachedLemmas.{reached_decided}
use Rattle.vc_rules.proofs.ReachLemmas.{path_from, path_to}
use Rattle.vc_rules.specs.Git.{git, stored_of}

-- Every name is needed or it is not; an object of these is needed exactly if its name is kept. What else is kept doesn't matter.
pub record Knows (needed : Id → Type 0) (s : Objects) (kept : List ObjectId) : Type 0 where
  pub decided : (x : Id) → needed x ⊎ (¬ needed x)
  pub exact : (x : Id) (o : Object) → get s x ≡ Some o → Contains kept (id_of_bytes x) ↔ needed x

-- what is needed said in other words
pub knows_same : {needed others : Id → Type 0} {s : Objects} {kept : List ObjectId} → ((x : Id) → needed x ↔ others x) → Knows needed s kept → Knows others s kept
knows_same same knows = record {
  decided = λ x. elim (knows.decided x) [ inl is_so ↦ inl ((same x).0 is_so) | inr is_not ↦ inr (λ other. is_not ((same x).1 other)) ];
  exact = λ x o is. (λ among. (same x).0 ((knows.exact x o is).0 among), λ other. (knows.exact x o is).1 ((same x).1 other));
}

-- Names that a walk finds: those of objects that are there and that a root reaches. The objects are the machine's, or the machine's and
-- others with them.
module _ (o : ObjectMap) (at : Lookup) (rel : (x : Id) → o (id_of_bytes x) ≡ option_map stored_of (at x)) (roots names : List ObjectId) (exact : AreExactly (IsPresentFrom o roots) names) where
  -- what has links is there
  linked : (id : ObjectId) (ids : List ObjectId) → links_in o id ≡ Some ids → IsSome (o id)
  linked id ids some = by (o id) refl
    where
      by : (found : Option StoredObject) → o id ≡ found → IsSome found
      by None none = absurd (none-some ids (sym (links_in-none o id none) ∙ some))
      by (Some object) is = refl

  module _ (IsRoot : Id → Type 0) (rooted : (x : Id) → IsRoot x ↔ Contains roots (id_of_bytes x)) where
    abbrev IsReachedBy : Id → Type 0
    IsReachedBy y = (x : Id) × IsRoot x × Reaches (Links git at) x y

    reached_to : (y : Id) → IsReachedBy y → ReachedFrom (links_in o) roots (id_of_bytes y)
    reached_to y (x, root, (zs, path)) = record { root = id_of_bytes x; is_root = (rooted x).0 root; reaches = path_to o at rel zs x x y itself path }

    reached_from : (y : Id) → ReachedFrom (links_in o) roots (id_of_bytes y) → IsReachedBy y
    reached_from y reached = (reached.root.0, (rooted reached.root.0).1 reached.is_root, path_from o at rel reached.root (id_of_bytes y) reached.reaches)

    pub knows_walk : (s : Objects) → ((x : Id) (q : Object) → get s x ≡ Some q → IsSome (at x)) → Knows IsReachedBy s names
    knows_walk s within = record {
      decided = λ y. elim (reached_decided (Contains-cases id_eq_equiv id_eq-same) (links_in o) (λ id. IsSome (o id)) linked roots names exact (id_of_bytes y)) [
        | inl is_so ↦ inl (reached_from y is_so)
        | inr is_not ↦ inr (λ reached. is_not (reached_to y reached))
      ];
      exact = λ y q is. (
        λ among. reached_from y ((exact (id_of_bytes y)).0 among).0,
        λ reached. (exact (id_of_bytes y)).1 (reached_to y reached, there y q is),
      );
    }
      where
        there : (y : Id) (q : Object) → get s y ≡ Some q → IsSome (o (id_of_bytes y))
        there y q is = let found = value_of (at y) (within y q is) in some_of (o (id_of_bytes y)) (stored_of found.0) (rel y ∙ ap (option_map stored_of) found.1)
