-- The generation of a commit, by which a walk can tell that one commit is no ancestor of another without reading what lies
-- between them (gitformat-commit-graph calls it the topological level). `parents` gives the parents of a commit that is
-- there, and none for any other name.
use Rattle.std.specs.Prelude.{◌≡◌, ◌↔◌, ◌⊎◌, ◌+◌, ◌<◌, ◌^◌, ℕ, zero, suc, List, Option, Some, IsSome}
use Rattle.vc_object_map.specs.History.{IsAncestor}
use Rattle.vc_object_map.specs.Graph.{IsClosed, LinksTo}

module _ {Id : Type 0} (parents : Id → Option (List Id)) where
  -- a list of n parent links leads from x to y
  abbrev pub Leads : ℕ → Id → Id → Type 0
  Leads zero x y = x ≡ y
  Leads (suc n) x y = (z : Id) × LinksTo parents x z × Leads n z y

  -- n is one more than the length of the longest list of parent links from x, all along commits that are there. A commit
  -- with no parents has 1. One whose history lacks a commit, or comes back to itself, has no generation.
  pub record HasGeneration (x : Id) (n : ℕ) : Type 0 where
    pub whole : IsClosed parents x
    pub length_of_longest : ℕ
    pub last : Id
    pub longest : Leads length_of_longest x last
    pub one_more : n ≡ length_of_longest + 1
    pub none_longer : (k : ℕ) (y : Id) → Leads k x y → k < n

  -- each commit that has a number is there, its number is its generation, and its parents have numbers
  pub record Agrees (numbers : Id → Option ℕ) : Type 0 where
    pub generation : (x : Id) (n : ℕ) → numbers x ≡ Some n → HasGeneration x n
    pub onward : (x y : Id) → IsSome (numbers x) → LinksTo parents x y → IsSome (numbers y)

  -- what is known once the root's history was learnt: what was known before, and the generation of each commit that the root
  -- reaches, where 64 bits hold it
  abbrev pub Learns : Id → (Id → Option ℕ) → (Id → Option ℕ) → Type 0
  Learns root known now = (x : Id) (n : ℕ) → now x ≡ Some n ↔ ((known x ≡ Some n) ⊎ (IsAncestor parents x root × HasGeneration x n × (n < 2 ^ 64)))
