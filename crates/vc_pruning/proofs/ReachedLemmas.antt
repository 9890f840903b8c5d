-- Whether roots reach a name is decided by the names that they reach and that are there.
use Rattle.std.proofs.Common.{arith, ◌≡◌, List, [], ◌∷◌, Option, Some, None, Contains, ◌⊎◌, inl, inr, refl, sym, ap, ◌∙◌, subst}
use Rattle.std.proofs.lemmas.List.Elements.{Contains-append_right}
use Rattle.std.proofs.lemmas.Option.{none-some, same_Some}
use Rattle.vc_model.proofs.Commits.{contains_cons}
use Rattle.vc_object_map.specs.Graph.{AreExactly, IsLinkOf, Reaches, ReachedFrom}
use Rattle.vc_object_map.specs.Graph.Reaches.{itself, onward}

module _ {X : Type 0} (among : (xs : List X) (x : X) → Contains xs x ⊎ (¬ Contains xs x)) (links : X → Option (List X)) where
  -- one of the names is there and links to it, or none is
  pub is_linked : (names : List X) (x : X) → IsLinkOf links names x ⊎ (¬ IsLinkOf links names x)
  is_linked [] x = inr (λ link. omega (arith, link.is_name.1))
  is_linked (name ∷ names) x = by (links name) refl (is_linked names x)
    where
      later : IsLinkOf links names x → IsLinkOf links (name ∷ names) x
      later link = record { name = link.name; is_name = Contains-append_right (name ∷ []) names link.name link.is_name; links_to = link.links_to }

      neither : ((ys : List X) → links name ≡ Some ys → ¬ Contains ys x) → ¬ IsLinkOf links names x → ¬ IsLinkOf links (name ∷ names) x
      neither first rest link = elim (contains_cons name names link.name link.is_name) [
        | inl is ↦ first link.links_to.0 (ap links is ∙ link.links_to.1) link.links_to.2
        | inr other ↦ rest (record { name = link.name; is_name = other; links_to = link.links_to })
      ]

      of : (ys : List X) → links name ≡ Some ys → Contains ys x ⊎ (¬ Contains ys x) → IsLinkOf links names x ⊎ (¬ IsLinkOf links names x) → IsLinkOf links (name ∷ names) x ⊎ (¬ IsLinkOf links (name ∷ names) x)
      of ys some (inl is) rest = inl (record { name = name; is_name = (0, omega arith, refl); links_to = (ys, some, is) })
      of ys some (inr is_not) (inl link) = inl (later link)
      of ys some (inr is_not) (inr none) = inr (neither (λ zs is. subst (λ l. ¬ Contains l x) (same_Some ys zs (sym some ∙ is)) is_not) none)

      by : (found : Option (List X)) → links name ≡ found → IsLinkOf links names x ⊎ (¬ IsLinkOf links names x) → IsLinkOf links (name ∷ names) x ⊎ (¬ IsLinkOf links (name ∷ names) x)
      by None none (inl link) = inl (later link)
      by None none (inr is_not) = inr (neither (λ ys some. absurd (none-some ys (sym none ∙ some))) is_not)
      by (Some ys) some rest = of ys some (among ys x) rest

  -- what has links is there; the names are exactly those that a root reaches and that are there
  module _ (IsThere : X → Type 0) (linked : (x : X) (ys : List X) → links x ≡ Some ys → IsThere x) (roots names : List X) (exact : AreExactly (λ x. ReachedFrom links roots x × IsThere x) names) where
    -- what is reached is a root, or one of the names links to it
    last : (root x : X) → Contains roots root → Reaches links root x → Contains roots x ⊎ IsLinkOf links names x
    last root x is_root itself = inl is_root
    last root x is_root (onward {y = y} before link) = inr (record { name = y; is_name = (exact y).1 (record { root = root; is_root = is_root; reaches = before }, linked y link.0 link.1); links_to = link })

    -- and what is so is reached
    reached_root : (x : X) → Contains roots x → ReachedFrom links roots x
    reached_root x is_root = record { root = x; is_root = is_root; reaches = itself }

    reached_link : (x : X) → IsLinkOf links names x → ReachedFrom links roots x
    reached_link x link = let before = ((exact link.name).0 link.is_name).0 in record { root = before.root; is_root = before.is_root; reaches = onward before.reaches link.links_to }

    -- a name is reached, or it is not
    pub reached_decided : (x : X) → ReachedFrom links roots x ⊎ (¬ ReachedFrom links roots x)
    reached_decided x = by (among roots x) (is_linked names x)
      where
        by : Contains roots x ⊎ (¬ Contains roots x) → IsLinkOf links names x ⊎ (¬ IsLinkOf links names x) → ReachedFrom links roots x ⊎ (¬ ReachedFrom links roots x)
        by (inl is_root) link = inl (reached_root x is_root)
        by (inr is_not) (inl link) = inl (reached_link x link)
        by (inr is_not) (inr none) = inr (λ reached. elim (last reached.root x reached.is_root reached.reaches) [ inl is_root ↦ is_not is_root | inr link ↦ none link ])
