-- The world: one shared node, its clones, and the messages ever sent. What an event does there.
use Rattle.std.specs.Prelude.{◌≡◌, ℕ, ◌<◌, ◌≤◌, List, [], ◌++◌, Option, Some, None, ◌⊎◌, slice_get, option_to_list, option_map, unwrap_or, codes}
use Rattle.std.specs.FinMap.{FinMap, get, insert, empty}
use Rattle.std.specs.Ordering.{nat_cmp}
use Rattle.vc_model.specs.Object.{Format}
use Rattle.vc_model.specs.Refs.{branch}
use Rattle.vc_model.specs.Refs.Head.{OnBranch}
use Rattle.vc_model.specs.Repository.{Repository, IsSound, IsBare}
use Rattle.vc_model.specs.Message.{Message, Envelope, IsNamedMessage}
use Rattle.vc_model.specs.Message.Envelope.{ToShared, ToClone}
use Rattle.vc_model.specs.Push.{Slots}
use Rattle.vc_model.specs.Node.{Answer}
use Rattle.vc_model.specs.Node.Answer.{Did, Declined}
use Rattle.vc_model.specs.Node.Reply.{Opened}
use Rattle.vc_model.specs.Shared.{SharedNode, SharedEvent, SharedStep}
use Rattle.vc_model.specs.Shared.SharedEvent.{Arrives, StepSlot, PruneShared, RestartShared, QuietShared}
use Rattle.vc_model.specs.Clone.{CloneNode, Task, CloneEvent, CloneStep}
use Rattle.vc_model.specs.Clone.Awaited.{Nothing}
use Rattle.vc_model.specs.Clone.CloneEvent.{Commanded, Gets, PruneClone, RestartClone, QuietClone}

pub record World : Type 0 where
  pub shared : SharedNode
  pub clones : FinMap nat_cmp CloneNode
  pub sent : List Envelope
  -- the clone whose push was opened in a slot last, to which its report goes
  pub senders : FinMap nat_cmp ℕ

pub data Party : Type 0 where
  TheShared : Party
  TheClone : ℕ → Party

pub data Event : Type 0 where
  Local : (clone : ℕ) → Task → Event
  -- a message that was ever sent comes to its addressee
  Deliver : (message : ℕ) → Event
  -- a message comes that nobody sent
  Forge : Envelope → Event
  StepPush : (slot : ℕ) → Event
  Prune : Party → Event
  Restart : Party → Event
  -- so many more stored writes pass at the node, and the next fails
  Stop : Party → (writes : ℕ) → Event
  -- whether two revisions have the same value there
  Ask : Party → (first second : List ℕ) → Event
  PackRefs : Party → Event
  -- bytes come that nobody sent and that are no message
  Noise : Party → Event

-- The event comes to the shared node as this, and its reply goes to clone c.
abbrev pub ForShared : Format → World → Event → ℕ → SharedEvent → Type 0
ForShared fmt w (Deliver k) c i = (m : Message) × (slice_get w.sent k ≡ Some (ToShared c m)) × (i ≡ Arrives m)
ForShared fmt w (Forge (ToShared b m)) c i = (b ≡ c) × IsNamedMessage fmt m × (i ≡ Arrives m)
ForShared fmt w (StepPush s) c i = (c ≡ unwrap_or (get w.senders s) 0) × (i ≡ StepSlot s)
ForShared fmt w (Prune TheShared) c i = i ≡ PruneShared
ForShared fmt w (Restart TheShared) c i = i ≡ RestartShared
ForShared fmt w (Stop TheShared n) c i = i ≡ QuietShared
ForShared fmt w (Ask TheShared x y) c i = i ≡ QuietShared
ForShared fmt w (PackRefs TheShared) c i = i ≡ QuietShared
ForShared fmt w (Noise TheShared) c i = i ≡ QuietShared
ForShared fmt w _ c i = ⊥

-- The event comes to clone c as this.
abbrev pub ForClone : Format → World → Event → ℕ → CloneEvent → Type 0
ForClone fmt w (Local b t) c i = (b ≡ c) × (i ≡ Commanded t)
ForClone fmt w (Deliver k) c i = (m : Message) × (slice_get w.sent k ≡ Some (ToClone c m)) × (i ≡ Gets m)
ForClone fmt w (Forge (ToClone b m)) c i = (b ≡ c) × IsNamedMessage fmt m × (i ≡ Gets m)
ForClone fmt w (Prune (TheClone b)) c i = (b ≡ c) × (i ≡ PruneClone)
ForClone fmt w (Restart (TheClone b)) c i = (b ≡ c) × (i ≡ RestartClone)
ForClone fmt w (Stop (TheClone b) n) c i = (b ≡ c) × (i ≡ QuietClone)
ForClone fmt w (Ask (TheClone b) x y) c i = (b ≡ c) × (i ≡ QuietClone)
ForClone fmt w (PackRefs (TheClone b)) c i = (b ≡ c) × (i ≡ QuietClone)
ForClone fmt w (Noise (TheClone b)) c i = (b ≡ c) × (i ≡ QuietClone)
ForClone fmt w _ c i = ⊥

-- Clone c's push is opened in a slot.
abbrev pub senders_after : FinMap nat_cmp ℕ → ℕ → Answer → FinMap nat_cmp ℕ
senders_after senders c (Did (Opened s)) = insert senders s c
senders_after senders c _ = senders

-- The world after the shared node answered an event whose reply goes to clone c.
abbrev pub after_shared : World → ℕ → Answer → SharedNode → Option Message → World
after_shared w c a n sends =
    record { shared = n; clones = w.clones; sent = w.sent ++ option_to_list (option_map (ToClone c) sends); senders = senders_after w.senders c a }

-- The world after clone c answered an event.
abbrev pub after_clone : World → ℕ → CloneNode → Option Message → World
after_clone w c n sends =
    record { shared = w.shared; clones = insert w.clones c n; sent = w.sent ++ option_to_list (option_map (ToShared c) sends); senders = w.senders }

-- From old, the event may have this answer and lead to new.
pub data Step (fmt : Format) (old : World) (e : Event) (a : Answer) (new : World) : Type 0 where
  no_message : (k : ℕ) → e ≡ Deliver k → slice_get old.sent k ≡ None → a ≡ Declined 113 → new ≡ old → Step fmt old e a new
  at_shared : (c : ℕ) (i : SharedEvent) (n : SharedNode) (sends : Option Message) → ForShared fmt old e c i → SharedStep fmt old.shared i a n sends
      → new ≡ after_shared old c a n sends → Step fmt old e a new
  at_clone : (c : ℕ) (i : CloneEvent) (n m : CloneNode) (sends : Option Message) → ForClone fmt old e c i → get old.clones c ≡ Some n → CloneStep fmt n i a m sends
      → new ≡ after_clone old c m sends → Step fmt old e a new

abbrev pub empty_repository : Repository
empty_repository = record { objects = empty; refs = empty; head = OnBranch (branch (codes "main")); index = empty }

-- A new world of n clones.
pub record IsNew (w : World) (n : ℕ) : Type 0 where
  pub shared : w.shared ≡ record { repository = empty_repository; live = Some empty }
  pub clones : (c : ℕ) → (c < n) × (get w.clones c ≡ Some (record { repository = empty_repository; live = Some Nothing })) ⊎ (n ≤ c) × (get w.clones c ≡ None)
  pub sent : w.sent ≡ []

-- A world of sound nodes, in which no push is open and nothing was sent. A new world is one.
pub record StartsSound (fmt : Format) (w : World) : Type 0 where
  pub shared : IsSound fmt w.shared.repository
  pub bare : IsBare fmt w.shared.repository
  pub slots : (slots : Slots) → w.shared.live ≡ Some slots → slots ≡ empty
  pub clones : (c : ℕ) (n : CloneNode) → get w.clones c ≡ Some n → IsSound fmt n.repository
  pub sent : w.sent ≡ []
