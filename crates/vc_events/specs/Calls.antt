-- What a call of a node says: the machine's node that is held before it leads to one that is held after it, by the machine's answer,
-- and it spends of the writes left what the machine allows.
use Rattle.std.specs.Prelude.{◌≡◌, ◌≢◌, ℕ, Bool, Option}
use Rattle.vc_model.specs.Clone.{CloneNode}
use Rattle.vc_model.specs.CloneCall.{CloneAnswers, CloneCall}
use Rattle.vc_model.specs.ExactWorld.{MayClone, MayShared, OrderCalls, SetsFuse, TogetherAt, clone_fuse_at, shared_fuse_at}
use Rattle.vc_model.specs.Fuse.{Burns, Fuse}
use Rattle.vc_model.specs.Message.{HasObject, Message}
use Rattle.vc_model.specs.Node.{Answer, Node}
use Rattle.vc_model.specs.Object.{Object, zero_id}
use Rattle.vc_model.specs.Repository.{IsBare, IsSound, Repository}
use Rattle.vc_model.specs.Shared.{SharedNode}
use Rattle.vc_model.specs.SharedCall.{SharedAnswers, SharedCall}
use Rattle.vc_values.proofs.GitLaws.{git_rules}
use Rattle.vc_rules.specs.Git.{git}
use Rattle.vc_events.specs.Events.{order_of}
use Rattle.vc_events.specs.declared.events.Order.{Order}

-- How a node is seen: the machine's nodes that it may be, over a device that is frail or not, and the writes left before a stop.
pub record Seen (D N : Type 0) : Type 1 where
  pub may_be : (frail : Bool) → D → N → Type 0
  pub left : D → Fuse

-- this call and no other
abbrev pub IsOnly : CloneCall → CloneNode → CloneCall → Type 0
IsOnly call n i = i ≡ call

-- the call that the order comes to
abbrev pub IsOrdered : Order → CloneNode → CloneCall → Type 0
IsOrdered order n i = OrderCalls git git_rules n (order_of order) i

-- no object is stored whose name is the zero id, which stands for no object
abbrev pub HasNoZero : Repository → Type 0
HasNoZero r = (o : Object) → HasObject r.objects o → git.name_of o ≢ zero_id

-- Whatever node it was, it is some node after the call; and if the node was sound, the answer, that node and what was spent are the
-- machine's.
pub record SharedCalled {S : Type 0} (seen : Seen S SharedNode) (call : SharedCall) (shows : Answer → Option Message → Type 0) (old new : S) : Type 0 where
  pub each : (frail : Bool) (n : SharedNode) → seen.may_be frail old n → (m : SharedNode) × (a : Answer) × (sends : Option Message) × seen.may_be frail new m × shows a sends
      × (IsSound git n.repository → IsBare git n.repository → SharedAnswers git git_rules n call a m sends
      × Burns frail (shared_fuse_at (seen.left old) call) (MayShared git n call) (TogetherAt n call) n.repository m.repository a (seen.left new))

-- The same of a clone, which answers one of these calls.
pub record CloneCalled {C : Type 0} (seen : Seen C CloneNode) (calls : CloneNode → CloneCall → Type 0) (shows : Answer → Option Message → Type 0) (old new : C) : Type 0 where
  pub each : (frail : Bool) (n : CloneNode) → seen.may_be frail old n → (m : CloneNode) × (a : Answer) × (sends : Option Message) × seen.may_be frail new m × shows a sends
      × (IsSound git n.repository → HasNoZero n.repository → (i : CloneCall) × calls n i × CloneAnswers git git_rules n i a m sends
      × Burns frail (clone_fuse_at (seen.left old) i) (MayClone git git_rules n i) ⊥ n.repository m.repository a (seen.left new))

-- A stop is set: whatever node it was, it stays that node, and the writes left are set as the machine sets them.
pub record StopsNode {D V : Type 0} (seen : Seen D (Node V)) (writes : ℕ) (old new : D) : Type 0 where
  pub stays : (frail : Bool) (n : Node V) → seen.may_be frail old n → seen.may_be frail new n
  pub sets : (frail : Bool) (n : Node V) → seen.may_be frail old n → SetsFuse frail n (seen.left old) writes (seen.left new)
