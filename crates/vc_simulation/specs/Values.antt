-- Expressions that a node reads before it does what it is told.
use Rattle.std.specs.Global.{Global}
use Rattle.std.specs.Prelude.{◌≡◌, ◌≢◌, ◌⊎◌, ℕ, List, [], ◌∷◌, ◌++◌, Bool, Contains, Option, None, Some, Ok, Err, Vec, map}
use Rattle.vc_events.specs.Calls.{CloneCalled, Seen}
use Rattle.vc_events.specs.Events.{bytes_in, item_of}
use Rattle.vc_events.specs.declared.events.NamedItem.{NamedItem}
use Rattle.vc_sending.specs.Sending.{machine_items}
use Rattle.vc_sending.specs.declared.item.PushItem.{PushItem}
use Rattle.vc_files.specs.FileMap.{FileMap}
use Rattle.vc_format.specs.Git.{bytes_of_id}
use Rattle.vc_model.specs.Clone.{CloneNode}
use Rattle.vc_model.specs.CloneCall.{CloneCall}
use Rattle.vc_model.specs.CloneCall.CloneCall.{Asks}
use Rattle.vc_model.specs.ExactWorld.{OrderCalls}
use Rattle.vc_model.specs.Message.{Message}
use Rattle.vc_model.specs.Node.{Answer}
use Rattle.vc_model.specs.Order.{AreItems, AreValues, Order}
use Rattle.vc_model.specs.Question.Question.{Interrupted, Unresolved}
use Rattle.vc_model.specs.Repository.{IsBare, IsSound, Repository}
use Rattle.vc_model.specs.Shared.{SharedNode}
use Rattle.vc_node.specs.Held.{Held}
use Rattle.vc_object.specs.declared.id.ObjectId.{ObjectId}
use Rattle.vc_push.specs.Push.{zero_id}
use Rattle.vc_values.proofs.GitLaws.{git_rules}
use Rattle.vc_rules.specs.Git.{git}
use Rattle.vc_simulation.specs.Nodes.{seen_clone}

-- the value of the text at a repository
abbrev pub IsValue : List ℕ → ObjectId → Repository → Type 0
IsValue text id r = git_rules.denotes r text (Ok (bytes_of_id id))

-- the number that refuses the text
abbrev pub IsNoValue : List ℕ → Repository → ℕ → Type 0
IsNoValue text r k = git_rules.denotes r text (Err k)

-- Whatever clone it was, it is some clone after it; and if it was sound, it is the same one, which is up, and this holds at it. No write
-- is spent.
pub record Finds {C : Type 0} (seen : Seen C CloneNode) (P : Repository → Type 0) (old new : C) : Type 0 where
  pub each : (frail : Bool) (n : CloneNode) → seen.may_be frail old n → (m : CloneNode) × seen.may_be frail new m × (IsSound git n.repository → (m ≡ n) × (n.live ≢ None) × P n.repository)
  pub unspent : seen.left new ≡ seen.left old

-- The same of a shared node.
pub record FindsShared {S : Type 0} (seen : Seen S SharedNode) (P : Repository → Type 0) (old new : S) : Type 0 where
  pub each : (frail : Bool) (n : SharedNode) → seen.may_be frail old n → (m : SharedNode) × seen.may_be frail new m × (IsSound git n.repository → IsBare git n.repository → (m ≡ n) × (n.live ≢ None) × P n.repository)
  pub unspent : seen.left new ≡ seen.left old

-- a clone that is up is interrupted, or refused with a number of which this holds
abbrev pub Fails : (Repository → ℕ → Type 0) → CloneNode → CloneCall → Type 0
Fails P n i = (n.live ≢ None) × ((i ≡ Asks Interrupted) ⊎ ((k : ℕ) × P n.repository k × (i ≡ Asks (Unresolved k))))

-- so it is of a clone that files hold
abbrev pub FindsThere : {F : Type 0} → (F → FileMap) → (F → Type 0) → (F → Option ℕ) → (Repository → Type 0) → Held F → Held F → Type 0
FindsThere content can_fail left P old new = Finds (seen_clone content can_fail left) P old new

abbrev pub Called : {F : Type 0} → (F → FileMap) → (F → Type 0) → (F → Option ℕ) → (CloneNode → CloneCall → Type 0) → (Answer → Option Message → Type 0) → Held F → Held F → Type 0
Called content can_fail left calls shows old new = CloneCalled (seen_clone content can_fail left) calls shows old new

-- the call that the machine's order comes to
abbrev pub Obeys : Order → CloneNode → CloneCall → Type 0
Obeys o n i = OrderCalls git git_rules n o i

-- ---- several

abbrev pub AreIds : List (Vec ℕ Global) → List ObjectId → Repository → Type 0
AreIds texts ids r = AreValues git git_rules r (map bytes_in texts) (Ok (map bytes_of_id ids))

abbrev pub AreNoIds : List (Vec ℕ Global) → Repository → ℕ → Type 0
AreNoIds texts r k = AreValues git git_rules r (map bytes_in texts) (Err k)

-- the item that a push has for the one that names a value
abbrev pub IsItemFor : NamedItem → PushItem → Repository → Type 0
IsItemFor named item r = (item.name ≡ named.name) × (((named.value ≡ None) × (item.id ≡ None)) ⊎ ((text : Vec ℕ Global) × (id : ObjectId) × (named.value ≡ Some text) × (item.id ≡ Some id) × IsValue text.items id r))

abbrev pub IsNoItem : NamedItem → Repository → ℕ → Type 0
IsNoItem named r k = (text : Vec ℕ Global) × (named.value ≡ Some text) × IsNoValue text.items r k

abbrev pub ArePushed : List NamedItem → List PushItem → Repository → Type 0
ArePushed named items r = AreItems git git_rules r (map item_of named) (Ok (machine_items items))

abbrev pub AreNotPushed : List NamedItem → Repository → ℕ → Type 0
AreNotPushed named r k = AreItems git git_rules r (map item_of named) (Err k)

-- one more value is found, and stands after the others
pub record IsOneMore {F : Type 0} (content : F → FileMap) (can_fail : F → Type 0) (left : F → Option ℕ) (text : List ℕ) (before after : List ObjectId) (old new : Held F) : Type 0 where
  pub id : ObjectId
  pub behind : after ≡ before ++ id ∷ []
  pub finds : FindsThere content can_fail left (IsValue text id) old new

-- an item of a push has the zero id, which stands for no object
abbrev pub HasZero : List PushItem → Type 0
HasZero items = (i : PushItem) × Contains items i × (i.id ≡ Some zero_id)

pub record IsOneMoreItem {F : Type 0} (content : F → FileMap) (can_fail : F → Type 0) (left : F → Option ℕ) (named : NamedItem) (before after : List PushItem) (old new : Held F) : Type 0 where
  pub item : PushItem
  pub behind : after ≡ before ++ item ∷ []
  pub finds : FindsThere content can_fail left (IsItemFor named item) old new
