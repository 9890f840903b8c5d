-- What a history that was read and numbered says of generations.
use Rattle.std.proofs.Common.{◌≡◌, ℕ, zero, suc, ◌+◌, ◌<◌, ◌^◌, ◌⊎◌, inl, inr, ⊎_elim, List, ◌∷◌, Option, Some, IsSome, Contains, ◌↔◌, ap, ◌∙◌, refl, arith, []}
use Rattle.vc_object_map.specs.Graph.{LinksTo, Reaches, IsClosed, itself, onward}
use Rattle.vc_object_map.proofs.WalkLemmas.{ReachedFrom-one, Reaches-from_one}
use Rattle.vc_object.specs.ObjectMap.{ObjectMap, parents_in}
use Rattle.vc_object.specs.declared.id.ObjectId.{ObjectId}
use Rattle.vc_history.specs.Generation.{Agrees, HasGeneration, Leads}
use Rattle.vc_object_map.specs.History.{IsAncestor}
use Rattle.vc_history.specs.Numbering.{IsHeld, IsOver, NumbersHistory}
use Rattle.vc_history.specs.Walk.{Gathers, parents_read}
use Rattle.vc_history.proofs.GatheredLemmas.{met_or_beyond}
use Rattle.vc_history.proofs.GenerationLemmas.{Contains-from_LinksTo, HasGeneration-one, HasGeneration-over}
use Rattle.vc_lemmas.proofs.Lists.{value_of, some_of}

module _ (objects : ObjectMap) (known : ObjectId → Option ℕ) (root : ObjectId) (met : List ObjectId) (read : List (List ObjectId))
    (gathers : Gathers objects known (root ∷ []) met read) (agrees : Agrees (parents_in objects) known) where
  module _ (now : ObjectId → Option ℕ) (numbered : NumbersHistory met read known now) where
    generations : (bound : ℕ) (x : ObjectId) (n : ℕ) → n < bound → now x ≡ Some n → HasGeneration (parents_in objects) x n
    generations zero x n below is = absurd (omega (arith, below))
    generations (suc bound) x n below is = ⊎_elim (agrees.generation x n)
        (λ (h : Contains met x × IsOver now (parents_read met read x) n).
        HasGeneration-over (parents_in objects) x n (parents_read met read x) (gathers.parents x h.0)
        (λ y at. let m = h.1.greater y at in (m.0, generations bound y m.0 (omega (arith, m.2, below)) m.1, m.2))
        (⊎_elim inl (λ s. inr (s.0, s.1, s.2, generations bound s.0 s.1 (omega (arith, s.4, below)) s.3, s.4)) h.1.next))
        (numbered.added x n is)

    pub Agrees-now : Agrees (parents_in objects) now
    Agrees-now = record {
      generation = λ x n is. generations (n + 1) x n (omega arith) is;
      onward = λ x y some link.
          let n = value_of (now x) some in
          ⊎_elim
          (λ old.
          let m = value_of (known y) (agrees.onward x y (some_of (known x) n.0 old) link) in
          some_of (now y) m.0 (numbered.grown y m.0 m.1))
          (λ (h : Contains met x × IsOver now (parents_read met read x) n.0).
          let m = h.1.greater y (Contains-from_LinksTo (parents_in objects) x y (parents_read met read x) (gathers.parents x h.0) link) in
          some_of (now y) m.0 m.1)
          (numbered.added x n.0 n.1);
    }

    -- a commit that was met, and from which no list of links is too long, has a number
    complete : (bound : ℕ) (x : ObjectId) → bound < 2 ^ 64 → Contains met x → ((k : ℕ) (y : ObjectId) → Leads (parents_in objects) k x y → k < bound) → IsSome (now x)
    complete zero x fits at short = let none : 0 < 0 = short 0 x refl in absurd (omega (arith, none))
    complete (suc bound) x fits at short = ⊎_elim (λ some. some)
        (λ (h : IsHeld now (parents_read met read x)).
        let y = h.0 in
        let link : LinksTo (parents_in objects) x y = (parents_read met read x, gathers.parents x at, h.1) in
        let some : IsSome (now y) = ⊎_elim
        (λ there. complete bound y (omega (arith, fits)) there (λ k z way. let less : suc k < suc bound = short (suc k) z (y, link, way) in omega (arith, less)))
        (λ old. let m = value_of (known y) old in some_of (now y) m.0 (numbered.grown y m.0 m.1))
        (gathers.onward x y at h.1) in
        let n = value_of (now y) some in
        let g = Agrees-now.generation y n.0 n.1 in
        let less : suc g.length_of_longest < suc bound = short (suc g.length_of_longest) g.last (y, link, g.longest) in
        absurd (omega (arith, less, g.one_more, fits, h.2 n.0 n.1)))
        (numbered.all x at)

    -- the numbers are those that were known, and the generations of what the root reaches
    pub learnt : (x : ObjectId) (n : ℕ) → now x ≡ Some n ↔ ((known x ≡ Some n) ⊎ (IsAncestor (parents_in objects) x root × HasGeneration (parents_in objects) x n × (n < 2 ^ 64)))
    learnt x n = (
      λ is. ⊎_elim inl (λ (h : Contains met x × IsOver now (parents_read met read x) n). inr (Reaches-from_one (parents_in objects) root x (gathers.reached x h.0), Agrees-now.generation x n is, h.1.fits)) (numbered.added x n is),
      λ h. ⊎_elim (numbered.grown x n)
          (λ (l : IsAncestor (parents_in objects) x root × HasGeneration (parents_in objects) x n × (n < 2 ^ 64)).
          let some : IsSome (now x) = ⊎_elim (λ at. complete n x l.2 at l.1.none_longer)
          (λ old. let m = value_of (known x) old in some_of (now x) m.0 (numbered.grown x m.0 m.1))
          (met_or_beyond objects known (root ∷ []) met read gathers agrees (ReachedFrom-one (parents_in objects) root x l.0)) in
          let m = value_of (now x) some in
          m.1 ∙ ap Some (HasGeneration-one (parents_in objects) x m.0 n (Agrees-now.generation x m.0 m.1) l.1))
          h,
    )

-- where the root has a number, so has all that it reaches
module _ (parents : ObjectId → Option (List ObjectId)) (known : ObjectId → Option ℕ) (root : ObjectId) (agrees : Agrees parents known) (some : IsSome (known root)) where
  pub known_below : {x : ObjectId} → Reaches parents root x → IsSome (known x)
  known_below itself = some
  known_below (onward {y} {z} way link) = agrees.onward y z (known_below way) link

  pub closed_below : IsClosed parents root
  closed_below x way = let n = value_of (known x) (known_below way) in (agrees.generation x n.0 n.1).whole x itself

  pub learnt_before : (x : ObjectId) (n : ℕ) → known x ≡ Some n ↔ ((known x ≡ Some n) ⊎ (IsAncestor parents x root × HasGeneration parents x n × (n < 2 ^ 64)))
  learnt_before x n = (
    inl,
    ⊎_elim (λ is. is)
        (λ (h : IsAncestor parents x root × HasGeneration parents x n × (n < 2 ^ 64)).
        let m = value_of (known x) (known_below h.0) in
        m.1 ∙ ap Some (HasGeneration-one parents x m.0 n (agrees.generation x m.0 m.1) h.1)),
  )
