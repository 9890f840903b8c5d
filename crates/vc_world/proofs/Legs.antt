-- The calls of an exchange, as real nodes tell of them.
use Rattle.std.proofs.Common.{◌≡◌, ℕ, List, Option, Some, Ok, Err, subst}
use Rattle.vc_files.specs.FileMap.{FileMap}
use Rattle.vc_model.specs.Clone.{CloneNode}
use Rattle.vc_model.specs.CloneCall.{CloneCall}
use Rattle.vc_model.specs.Message.{Message}
use Rattle.vc_model.specs.Node.{Answer}
use Rattle.vc_model.specs.Shared.{SharedNode}
use Rattle.vc_node.specs.CloneCalls.{AnswersClone}
use Rattle.vc_node.specs.Held.{Held}
use Rattle.vc_values.proofs.GitLaws.{git_rules}
use Rattle.vc_rules.specs.Git.{git}
use Rattle.vc_world.specs.Chains.{CloneMayAnswer, MayServe, SharedMaySend}
use Rattle.vc_world.specs.Exchanging.{AnswersPeer, AskedAs, Brings, HoldsClone}
use Rattle.vc_world.specs.declared.peer.Reply.{Reply}
use Rattle.vc_world.specs.declared.peer.Reply.TheVariants as replies

-- ---- the clone's calls

-- A call led to a clone that is held, by the machine's answer where the clone before it was sound.
pub record Led {F : Type 0} (content : F → FileMap) (call : CloneCall) (shows : Answer → Option Message → Type 0) (c : CloneNode) (is : Held F) : Type 0 where
  pub node : CloneNode
  pub answer : Answer
  pub sends : Option Message
  pub held : HoldsClone content is node
  pub shown : shows answer sends
  pub may : CloneMayAnswer git git_rules c call answer node sends

-- what the call says of all nodes
abbrev pub Calls : {F : Type 0} → (F → FileMap) → CloneCall → (Answer → Option Message → Type 0) → Held F → Held F → Type 0
Calls content call shows was is = AnswersClone call shows (content was.files) (content is.files) was.awaited is.awaited was.is_up is.is_up

pub led : {F : Type 0} (content : F → FileMap) (call : CloneCall) (shows : Answer → Option Message → Type 0) (was is : Held F) (c : CloneNode) → Calls content call shows was is → HoldsClone content was c → Led content call shows c is
led content call shows was is c k h =
    let w = k.each h.awaited c h.is_awaited h.holds in
    record { node = w.1; answer = w.2; sends = w.3; held = record { awaited = w.0; is_awaited = w.4; holds = w.5 }; shown = w.6; may = w.7 }

-- ---- the shared node's

pub record Asked {P : Type 0} (holds : P → SharedNode → Type 0) (shows : Answer → Option Message → Type 0) (m : Message) (s : SharedNode) (new : P) : Type 0 where
  pub node : SharedNode
  pub answer : Answer
  pub sends : Option Message
  pub held : holds new node
  pub shown : shows answer sends
  pub may : MayServe git git_rules m s answer node sends

-- it refused, or a fault ended its call
pub refused : {P R A : Type 0} (holds : P → SharedNode → Type 0) (told : R → Answer) (remaining : A → Option (List ℕ)) (m : Message) (refusal : R) (old new : P) (s : SharedNode) → AnswersPeer holds told remaining m (Err refusal) old new → holds old s → Asked holds (AskedAs told remaining (Err refusal)) m s new
refused holds told remaining m refusal old new s k h = let w = k.each s h in record { node = w.0; answer = w.1; sends = w.2; held = w.3; shown = w.4; may = w.5 }

-- what came back is a message of the machine's
came : {R A : Type 0} (told : R → Answer) (remaining : A → Option (List ℕ)) (reply : Reply A) (a : Answer) (sends : Option Message) → AskedAs told remaining (Ok reply) a sends → (q : Message) × Brings remaining reply q × (sends ≡ Some q)
came told remaining (replies.Bytes bytes) a sends h = (h.message, h.written.reads, h.sent)
came told remaining (replies.Message message) a sends h = (h.message, h.is, h.sent)
came told remaining (replies.Reader reader) a sends h = (h.message, h.begins, h.sent)

pub record Answered {P A : Type 0} (holds : P → SharedNode → Type 0) (remaining : A → Option (List ℕ)) (reply : Reply A) (m : Message) (s : SharedNode) (new : P) : Type 0 where
  pub node : SharedNode
  pub held : holds new node
  pub message : Message
  pub brings : Brings remaining reply message
  pub tells : SharedMaySend git git_rules s m node message

-- it answered
pub answered : {P R A : Type 0} (holds : P → SharedNode → Type 0) (told : R → Answer) (remaining : A → Option (List ℕ)) (m : Message) (reply : Reply A) (old new : P) (s : SharedNode) → AnswersPeer holds told remaining m (Ok reply) old new → holds old s → Answered holds remaining reply m s new
answered holds told remaining m reply old new s k h =
    let w = k.each s h in
    let q = came told remaining reply w.1 w.2 w.4 in
    record { node = w.0; held = w.3; message = q.0; brings = q.1; tells = (w.1, subst (λ sends. MayServe git git_rules m s w.1 w.0 sends) q.2 w.5) }
