-- What the machine takes from the layer of messages, for a world in which bytes may be forged: which bytes are a message, and how
-- the others are refused.
use Rattle.std.specs.Prelude.{◌≡◌, ℕ, ◌≤◌, Bool, IsTrue, List, ◌⊎◌}
use Rattle.vc_model.specs.Object.{Format}
use Rattle.vc_model.specs.Message.{Message, IsNamedMessage}
use Rattle.vc_model.specs.Rules.{Rules, Tests, rules_by, IsFormedMessage}

-- the refusals of bytes that are no message
abbrev pub IsUnreadable : ℕ → Type 0
IsUnreadable n = ((80 ≤ n) × (n ≤ 84)) ⊎ (n ≡ 3)

pub record Wire (fmt : Format) : Type 1 where
  pub rules : Rules fmt
  -- the bytes are this message
  pub reads : List ℕ → Message → Type 0
  -- the bytes are no message, and are refused with this number
  pub refuses : List ℕ → ℕ → Type 0
  pub named : (bytes : List ℕ) (m : Message) → reads bytes m → IsNamedMessage fmt m
  pub formed : (bytes : List ℕ) (m : Message) → reads bytes m → IsFormedMessage fmt rules m
  pub numbers : (bytes : List ℕ) (n : ℕ) → refuses bytes n → IsUnreadable n
  pub one_message : (bytes : List ℕ) (m q : Message) → reads bytes m → reads bytes q → m ≡ q
  pub one_refusal : (bytes : List ℕ) (n k : ℕ) → refuses bytes n → refuses bytes k → n ≡ k
  pub apart : (bytes : List ℕ) (m : Message) (n : ℕ) → reads bytes m → refuses bytes n → ⊥

-- The same with tests in place of relations, so that a law may range over them.
pub record WireTests (fmt : Format) : Type 0 where
  pub tests : Tests fmt
  pub reads : List ℕ → Message → Bool
  pub refuses : List ℕ → ℕ → Bool
  pub named : (bytes : List ℕ) (m : Message) → IsTrue (reads bytes m) → IsNamedMessage fmt m
  pub formed : (bytes : List ℕ) (m : Message) → IsTrue (reads bytes m) → IsFormedMessage fmt (rules_by fmt tests) m
  pub numbers : (bytes : List ℕ) (n : ℕ) → IsTrue (refuses bytes n) → IsUnreadable n
  pub one_message : (bytes : List ℕ) (m q : Message) → IsTrue (reads bytes m) → IsTrue (reads bytes q) → m ≡ q
  pub one_refusal : (bytes : List ℕ) (n k : ℕ) → IsTrue (refuses bytes n) → IsTrue (refuses bytes k) → n ≡ k
  pub apart : (bytes : List ℕ) (m : Message) (n : ℕ) → IsTrue (reads bytes m) → IsTrue (refuses bytes n) → ⊥

abbrev pub wire_by : (fmt : Format) → WireTests fmt → Wire fmt
wire_by fmt t = record {
  rules = rules_by fmt t.tests;
  reads = λ bytes m. IsTrue (t.reads bytes m);
  refuses = λ bytes n. IsTrue (t.refuses bytes n);
  named = t.named;
  formed = t.formed;
  numbers = t.numbers;
  one_message = t.one_message;
  one_refusal = t.one_refusal;
  apart = t.apart;
}
