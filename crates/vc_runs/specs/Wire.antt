-- The wire of a world at Git's format: its rules are the layers' own relations.
use Rattle.std.specs.Prelude.{◌≡◌, ℕ, Bool, IsTrue, List}
use Rattle.vc_model.specs.Message.{Message, IsNamedMessage}
use Rattle.vc_model.specs.Rules.{IsFormedMessage}
use Rattle.vc_model.specs.Wire.{Wire, IsUnreadable}
use Rattle.vc_rules.specs.Git.{git}
use Rattle.vc_values.proofs.GitLaws.{git_rules}

-- What a wire has beside its rules: which bytes are which message, and how others are refused. By tests, so that a law may range
-- over them.
pub record Readings : Type 0 where
  pub reads : List ℕ → Message → Bool
  pub refuses : List ℕ → ℕ → Bool
  pub named : (bytes : List ℕ) (m : Message) → IsTrue (reads bytes m) → IsNamedMessage git m
  pub formed : (bytes : List ℕ) (m : Message) → IsTrue (reads bytes m) → IsFormedMessage git git_rules m
  pub numbers : (bytes : List ℕ) (n : ℕ) → IsTrue (refuses bytes n) → IsUnreadable n
  pub one_message : (bytes : List ℕ) (m q : Message) → IsTrue (reads bytes m) → IsTrue (reads bytes q) → m ≡ q
  pub one_refusal : (bytes : List ℕ) (n k : ℕ) → IsTrue (refuses bytes n) → IsTrue (refuses bytes k) → n ≡ k
  pub apart : (bytes : List ℕ) (m : Message) (n : ℕ) → IsTrue (reads bytes m) → IsTrue (refuses bytes n) → ⊥

abbrev pub git_wire : Readings → Wire git
git_wire r = record {
  rules = git_rules;
  reads = λ bytes m. IsTrue (r.reads bytes m);
  refuses = λ bytes n. IsTrue (r.refuses bytes n);
  named = r.named;
  formed = r.formed;
  numbers = r.numbers;
  one_message = r.one_message;
  one_refusal = r.one_refusal;
  apart = r.apart;
}
