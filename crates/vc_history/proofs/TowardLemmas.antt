-- What the numbers rule out of a walk that looks for one commit.
use Rattle.std.proofs.Common.{◌≡◌, ◌≢◌, ℕ, ◌<◌, ◌≤◌, Bool, true, false, if◌then◌else◌, List, Option, Some, None, IsSome, sym, ap, ◌∙◌, refl, true≢false, arith, nat_le}
use Rattle.std.proofs.lemmas.Bool.{le-leb, leb-true}
use Rattle.vc_object_map.specs.Graph.{itself}
use Rattle.vc_object.proofs.IdLemmas.{id_eq-same, id_eq_equiv}
use Rattle.vc_object.specs.ObjectId.{id_eq}
use Rattle.vc_object.specs.declared.id.ObjectId.{ObjectId}
use Rattle.vc_history.specs.Generation.{Agrees}
use Rattle.vc_object_map.specs.History.{IsAncestor}
use Rattle.vc_history.specs.Toward.{not_above, ruled_out}
use Rattle.vc_history.proofs.GenerationLemmas.{HasGeneration-parent}
use Rattle.vc_history.proofs.LearntLemmas.{known_below}
use Rattle.vc_lemmas.proofs.Lists.{value_of, some_of}

module _ (known : ObjectId → Option ℕ) (sought : ObjectId) where
  -- another name than the sought one, whose number is not above that of the sought one, if that has any
  record IsBelow (x : ObjectId) (n : ℕ) : Type 0 where
    differs : x ≢ sought
    numbered : known x ≡ Some n
    not_over : (m : ℕ) → known sought ≡ Some m → n ≤ m

  from_ruled_out : (x : ObjectId) (n : ℕ) → ruled_out known sought x ≡ Some n → IsBelow x n
  from_ruled_out x n = by (id_eq x sought) refl (known x) refl (known sought) refl
    where
      differs : id_eq x sought ≡ false → x ≢ sought
      differs e is = true≢false (sym (id_eq_equiv.refl x) ∙ ap (id_eq x) is ∙ e)

      compared : (k s : ℕ) (b : Bool) → nat_le k s ≡ b → id_eq x sought ≡ false → known x ≡ Some k → known sought ≡ Some s → (if b then Some k else None) ≡ Some n → IsBelow x n
      compared k s true le e at of_sought h = record {
        differs = differs e;
        numbered = at ∙ h;
        not_over = λ m is.
            let k_is : k ≡ n = cc in
            let s_is : s ≡ m = let eq : Some s ≡ Some m = sym of_sought ∙ is in cc in
            omega (arith, k_is, s_is, leb-true k s le);
      }
      compared k s false le e at of_sought h = absurd (cc)

      by : (b : Bool) → id_eq x sought ≡ b → (o : Option ℕ) → known x ≡ o → (s : Option ℕ) → known sought ≡ s → (if b then None else not_above o s) ≡ Some n → IsBelow x n
      by true e o at s of_sought h = absurd (cc)
      by false e None at s of_sought h = absurd (cc)
      by false e (Some k) at None of_sought h = record {
        differs = differs e;
        numbered = at ∙ h;
        not_over = λ m is. let no : None ≡ Some m = sym of_sought ∙ is in absurd (cc);
      }
      by false e (Some k) at (Some s) of_sought h = compared k s (nat_le k s) refl e at of_sought h

  to_ruled_out : (x : ObjectId) (n : ℕ) → IsBelow x n → ruled_out known sought x ≡ Some n
  to_ruled_out x n below = by (id_eq x sought) refl ∙ ap (λ o. not_above o (known sought)) below.numbered ∙ rest (known sought) refl
    where
      by : (b : Bool) → id_eq x sought ≡ b → (if b then None else not_above (known x) (known sought)) ≡ not_above (known x) (known sought)
      by true e = absurd (below.differs (id_eq-same x sought e))
      by false e = refl

      rest : (s : Option ℕ) → known sought ≡ s → not_above (Some n) s ≡ Some n
      rest None e = refl
      rest (Some m) e = ap (λ b. if b then Some n else None) (le-leb n m (below.not_over m e))

  -- the sought one is not ruled out
  sought-not_ruled_out : ruled_out known sought sought ≡ None
  sought-not_ruled_out = ap (λ b. if b then None else not_above (known sought) (known sought)) (id_eq_equiv.refl sought)

  module _ (parents : ObjectId → Option (List ObjectId)) (agrees : Agrees parents known) where
    -- what is below a name that is ruled out is ruled out
    pub Agrees-ruled_out : Agrees parents (ruled_out known sought)
    Agrees-ruled_out = record {
      generation = λ x n is. agrees.generation x n (from_ruled_out x n is).numbered;
      onward = λ x y some link.
          let n = value_of (ruled_out known sought x) some in
          let below = from_ruled_out x n.0 n.1 in
          let m = value_of (known y) (agrees.onward x y (some_of (known x) n.0 below.numbered) link) in
          let less : m.0 < n.0 = HasGeneration-parent parents x y n.0 m.0 (agrees.generation x n.0 below.numbered) (agrees.generation y m.0 m.1) link in
          some_of (ruled_out known sought y) m.0 (to_ruled_out y m.0 (record {
            differs = λ is. let no : n.0 ≤ m.0 = below.not_over m.0 (ap known (sym is) ∙ m.1) in absurd (omega (arith, less, no));
            numbered = m.1;
            not_over = λ k is. omega (arith, less, below.not_over k is);
          }));
    }

    -- so the sought one is no ancestor of it
    pub not_ancestor : (x : ObjectId) → IsSome (ruled_out known sought x) → ¬ IsAncestor parents sought x
    not_ancestor x some way =
        let n = value_of (ruled_out known sought sought) (known_below parents (ruled_out known sought) x Agrees-ruled_out some way) in
        let no : None ≡ Some n.0 = sym sought-not_ruled_out ∙ n.1 in
        absurd (cc)

    pub sought_is_met : (P : Type 0) → IsSome (ruled_out known sought sought) → P
    sought_is_met P some = absurd (not_ancestor sought some itself)
