-- What the machine takes from the layers of objects, indexes and expressions: which bodies are right, the trees of an index,
-- the index of a tree, the value of an expression. Each is what that layer says it is; here only what the machine needs of it.
use Rattle.std.specs.Prelude.{◌≡◌, ◌≢◌, ℕ, Bool, IsTrue, List, Option, Some, None, Result, Ok}
use Rattle.std.specs.FinMap.{get}
use Rattle.std.proofs.Common.{sym, ◌∙◌}
use Rattle.vc_model.specs.Object.{Id, Object, Format, Objects, Lookup, IsNamed, stored}
use Rattle.vc_model.specs.Reach.{IsClosed}
use Rattle.vc_model.specs.Repository.{Repository, Entry, Index, gitlink}
use Rattle.vc_model.specs.Message.{Message}
use Rattle.vc_model.specs.Message.Message.{Pack, Push}
use Rattle.vc_model.specs.Clone.{IsIndexOf}

-- The ids of the entries but those of other repositories are closed.
abbrev pub AreEntriesClosed : Format → Lookup → Index → Type 0
AreEntriesClosed fmt at i = (p : List ℕ) (e : Entry) → get i p ≡ Some e → e.mode ≢ gitlink → IsClosed fmt at e.id

-- All of these objects are found.
abbrev pub AreFound : Lookup → Objects → Type 0
AreFound at s = (x : Id) (o : Object) → get s x ≡ Some o → at x ≡ Some o

pub record Rules (fmt : Format) : Type 1 where
  -- the number that refuses a body of its kind, or that none does
  pub fault : Object → Option ℕ → Type 0
  -- a path that may stand in an index
  pub is_path : List ℕ → Type 0
  -- the trees of an index and the root among them, or the number that refuses them
  pub trees_of : Index → Result (Objects × Id) ℕ → Type 0
  -- the index of a tree, or the number that refuses it
  pub index_of : Objects → Id → Result Index ℕ → Type 0
  -- the value of an expression at a node, or the number that refuses it
  pub denotes : Repository → List ℕ → Result Id ℕ → Type 0
  pub trees_named : (i : Index) (t : Objects × Id) → trees_of i (Ok t) → IsNamed fmt t.0
  pub trees_formed : (i : Index) (t : Objects × Id) → trees_of i (Ok t) → (x : Id) (o : Object) → get t.0 x ≡ Some o → fault o None
  pub trees_closed : (i : Index) (t : Objects × Id) (at : Lookup) → trees_of i (Ok t) → AreFound at t.0 → AreEntriesClosed fmt at i → IsClosed fmt at t.1
  pub index_reached : (s : Objects) (x : Id) (i : Index) → index_of s x (Ok i) → IsClosed fmt (stored s) x × IsIndexOf fmt (stored s) x i
  pub one_fault : (o : Object) (v w : Option ℕ) → fault o v → fault o w → v ≡ w
  pub one_root : (i : Index) (v w : Result (Objects × Id) ℕ) → trees_of i v → trees_of i w → v ≡ w
  pub one_index : (s : Objects) (x : Id) (v w : Result Index ℕ) → index_of s x v → index_of s x w → v ≡ w
  pub one_value : (r : Repository) (t : List ℕ) (v w : Result Id ℕ) → denotes r t v → denotes r t w → v ≡ w

-- No body of these objects is refused.
abbrev pub AreFormed : (fmt : Format) → Rules fmt → Objects → Type 0
AreFormed fmt rules s = (x : Id) (o : Object) → get s x ≡ Some o → rules.fault o None

-- No body that the message carries is refused.
abbrev pub IsFormedMessage : (fmt : Format) → Rules fmt → Message → Type 0
IsFormedMessage fmt rules (Pack ack s) = AreFormed fmt rules s
IsFormedMessage fmt rules (Push atomic fault cs s) = AreFormed fmt rules s
IsFormedMessage fmt rules _ = Unit {0}

-- The same with tests in place of relations, so that a law may range over them.
pub record Tests (fmt : Format) : Type 0 where
  pub fault : Object → Option ℕ
  pub is_path : List ℕ → Bool
  pub trees_of : Index → Result (Objects × Id) ℕ → Bool
  pub index_of : Objects → Id → Result Index ℕ → Bool
  pub denotes : Repository → List ℕ → Result Id ℕ → Bool
  pub trees_named : (i : Index) (t : Objects × Id) → IsTrue (trees_of i (Ok t)) → IsNamed fmt t.0
  pub trees_formed : (i : Index) (t : Objects × Id) → IsTrue (trees_of i (Ok t)) → (x : Id) (o : Object) → get t.0 x ≡ Some o → fault o ≡ None
  pub trees_closed : (i : Index) (t : Objects × Id) (at : Lookup) → IsTrue (trees_of i (Ok t)) → AreFound at t.0 → AreEntriesClosed fmt at i → IsClosed fmt at t.1
  pub index_reached : (s : Objects) (x : Id) (i : Index) → IsTrue (index_of s x (Ok i)) → IsClosed fmt (stored s) x × IsIndexOf fmt (stored s) x i
  pub one_root : (i : Index) (v w : Result (Objects × Id) ℕ) → IsTrue (trees_of i v) → IsTrue (trees_of i w) → v ≡ w
  pub one_index : (s : Objects) (x : Id) (v w : Result Index ℕ) → IsTrue (index_of s x v) → IsTrue (index_of s x w) → v ≡ w
  pub one_value : (r : Repository) (t : List ℕ) (v w : Result Id ℕ) → IsTrue (denotes r t v) → IsTrue (denotes r t w) → v ≡ w

abbrev pub rules_by : (fmt : Format) → Tests fmt → Rules fmt
rules_by fmt t = record {
  fault = λ o v. t.fault o ≡ v;
  is_path = λ p. IsTrue (t.is_path p);
  trees_of = λ i v. IsTrue (t.trees_of i v);
  index_of = λ s x v. IsTrue (t.index_of s x v);
  denotes = λ r e v. IsTrue (t.denotes r e v);
  trees_named = t.trees_named;
  trees_formed = t.trees_formed;
  trees_closed = t.trees_closed;
  index_reached = t.index_reached;
  one_fault = λ o v w g h. sym g ∙ h;
  one_root = t.one_root;
  one_index = t.one_index;
  one_value = t.one_value;
}
