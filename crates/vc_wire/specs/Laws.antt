-- What is read and refused is as the machine asks of its wire.
use Rattle.std.specs.Prelude.{◌≡◌, ℕ, List}
use Rattle.vc_model.specs.Message.{IsNamedMessage, Message}
use Rattle.vc_model.specs.Rules.{IsFormedMessage}
use Rattle.vc_model.specs.Wire.{IsUnreadable, Wire}
use Rattle.vc_rules.specs.Git.{git}
use Rattle.vc_values.proofs.GitLaws.{git_rules}
use Rattle.vc_message.specs.Machine.{IsUnread, Reads}

-- all that the machine asks of its wire
pub record MessageLaws : Type 0 where
  -- what is read stands under its names, and each body is one of its kind
  pub named : (bytes : List ℕ) (m : Message) → Reads bytes m → IsNamedMessage git m
  pub formed : (bytes : List ℕ) (m : Message) → Reads bytes m → IsFormedMessage git git_rules m
  -- bytes are one message at most, or have one number that refuses bytes
  pub numbers : (bytes : List ℕ) (n : ℕ) → IsUnread bytes n → IsUnreadable n
  pub one_message : (bytes : List ℕ) (m q : Message) → Reads bytes m → Reads bytes q → m ≡ q
  pub one_refusal : (bytes : List ℕ) (n k : ℕ) → IsUnread bytes n → IsUnread bytes k → n ≡ k
  pub apart : (bytes : List ℕ) (m : Message) (n : ℕ) → Reads bytes m → IsUnread bytes n → ⊥

-- The wire of the machine at Git's format. What the machine asks of it is handed in, since a file of specs may not name a proof of its
-- own crate: `message_wire` of proofs/WireLaws is this wire.
abbrev pub wire_of : MessageLaws → Wire git
wire_of laws = record {
  rules = git_rules;
  reads = Reads;
  refuses = IsUnread;
  named = laws.named;
  formed = laws.formed;
  numbers = laws.numbers;
  one_message = laws.one_message;
  one_refusal = laws.one_refusal;
  apart = laws.apart;
}
