-- A common ancestor is a best one exactly if no other common ancestor has it as a parent.
use Rattle.std.proofs.Common.{◌≡◌, ◌≢◌, Bool, true, false, List, Option, Contains, ◌↔◌, sym, ap, subst, ◌∙◌, refl, true≢false}
use Rattle.std.specs.Cmp.{IsEquivalence}
use Rattle.vc_object_map.specs.Graph.{LinksTo, Reaches, itself, onward}
use Rattle.vc_object_map.proofs.WalkLemmas.{Reaches-trans}
use Rattle.vc_object_map.specs.History.{IsCommonAncestor, IsBestCommonAncestor}
use Rattle.vc_selection.specs.Passed.{IsPassed}

module _ {Id : Type 0} (links : Id → Option (List Id)) where
  module _ {eq : Id → Id → Bool} (laws : IsEquivalence eq) (same : (x y : Id) → eq x y ≡ true → x ≡ y) where
    -- a way from x to another name z ends with a link from a name other than z
    pub Reaches-last : {x z : Id} → Reaches links x z → x ≢ z → (y : Id) × Reaches links x y × LinksTo links y z × (y ≢ z)
    Reaches-last itself differs = absurd (differs refl)
    Reaches-last {x} (onward {y} {z} r l) differs = by (eq y z) refl (λ further. Reaches-last r further)
      where
        by : (b : Bool) → eq y z ≡ b → (x ≢ y → (w : Id) × Reaches links x w × LinksTo links w y × (w ≢ y)) → (w : Id) × Reaches links x w × LinksTo links w z × (w ≢ z)
        by true e before =
            let is : y ≡ z = same y z e in
            subst (λ v. (w : Id) × Reaches links x w × LinksTo links w v × (w ≢ v)) is (before (λ back. differs (back ∙ is)))
        by false e before = (y, r, l, λ is. true≢false (sym (laws.refl y) ∙ ap (eq y) is ∙ e))

    module _ (a b : Id) (common : List Id) (is : (c : Id) → Contains common c ↔ IsCommonAncestor links a b c) where
      -- what no other common ancestor has as a parent is a best one
      pub best-from_passed : (c : Id) → Contains common c × ¬ IsPassed links common c → IsBestCommonAncestor links a b c
      best-from_passed c h = record {
        common = (is c).0 h.0;
        best = λ d shared differs back.
            let last = Reaches-last back differs in
            h.1 (record {
              child = last.0;
              is_among = (is last.0).1 (Reaches-trans links shared.0 last.1, Reaches-trans links shared.1 last.1);
              links = last.2;
              differs = last.3;
            });
      }

      -- and no best one is a parent of another
      pub passed-from_best : (c : Id) → IsBestCommonAncestor links a b c → Contains common c × ¬ IsPassed links common c
      passed-from_best c best = (
        (is c).1 best.common,
        λ p. best.best p.child ((is p.child).0 p.is_among) p.differs (onward itself p.links),
      )
