-- The machine's events.
use Rattle.std.specs.Global.{Global}
use Rattle.std.specs.List.{starts_with}
use Rattle.std.specs.Prelude.{◌≡◌, ◌≢◌, ◌<◌, ℕ, true, nat_eq, List, [], map, option_map, Vec, codes}
use Rattle.vc_model.specs.ExactWorld.{Letter as MachineLetter, WorldEvent}
use Rattle.vc_model.specs.ExactWorld.Letter.{FromClone, FromShared}
use Rattle.vc_model.specs.ExactWorld.WorldEvent.{Compares, Delivers, Forges, Orders, Packs, Prunes, Restarts, Steps, Stops}
use Rattle.vc_model.specs.Order.{Expression, NamedItem as MachineItem, Order as MachineOrder}
use Rattle.vc_model.specs.Order.Order.{BranchAt, CommitIndex, DropBranch, Fetch, HeadAt, HeadOn, LoadIndex, PushItems, StageFile, StoreObject, UnstageFile}
use Rattle.vc_model.specs.World.{Party as MachineParty}
use Rattle.vc_model.specs.World.Party.{TheClone, TheShared}
use Rattle.vc_object.specs.declared.mode.Mode.TheVariants as modes
use Rattle.vc_rules.specs.Git.{machine_object, mode_number}
use Rattle.vc_events.specs.declared.events.Event.{Event}
use Rattle.vc_events.specs.declared.events.Event.TheVariants as event
use Rattle.vc_events.specs.declared.events.NamedItem.{NamedItem}
use Rattle.vc_events.specs.declared.events.Order.{Order}
use Rattle.vc_events.specs.declared.events.Order.TheVariants as order
use Rattle.vc_events.specs.declared.events.Party.{Party}
use Rattle.vc_events.specs.declared.events.Party.TheVariants as party
use Rattle.vc_events.specs.declared.letters.Letter.{Letter}
use Rattle.vc_events.specs.declared.letters.Letter.TheVariants as mail

abbrev pub bytes_in : Vec ℕ Global → Expression
bytes_in text = text.items

abbrev pub item_of : NamedItem → MachineItem
item_of i = record { value = option_map bytes_in i.value; name = i.name }

abbrev pub order_of : Order → MachineOrder
order_of (order.Write kind body) = StoreObject (machine_object kind body.items)
order_of (order.Stage path mode content) = StageFile path.items (mode_number mode) content.items
order_of (order.Unstage path) = UnstageFile path.items
order_of (order.Commit parents author committer message) = CommitIndex (map bytes_in parents.items) author.items committer.items message.items
order_of (order.SetBranch name expr) = BranchAt name expr.items
order_of (order.DeleteBranch name) = DropBranch name
order_of (order.SetHead name) = HeadOn name
order_of (order.Detach expr) = HeadAt expr.items
order_of (order.Load expr) = LoadIndex expr.items
order_of order.Fetch = Fetch
order_of (order.Push atomic items) = PushItems atomic (map item_of items.items)

abbrev pub party_of : Party → MachineParty
party_of party.Shared = TheShared
party_of (party.Clone c) = TheClone c

abbrev pub letter_of : Letter → MachineLetter
letter_of (mail.ToShared c bytes) = FromClone c bytes.items
letter_of (mail.ToClone c bytes) = FromShared c bytes.items

abbrev pub event_of : Event → WorldEvent
event_of (event.Order c o) = Orders c (order_of o)
event_of (event.Deliver k) = Delivers k
event_of (event.Step s) = Steps s
event_of (event.Compare p first second) = Compares (party_of p) first.items second.items
event_of (event.Pack p) = Packs (party_of p)
event_of (event.Prune p) = Prunes (party_of p)
event_of (event.Restart p) = Restarts (party_of p)
event_of (event.Stop p writes) = Stops (party_of p) writes
event_of (event.Forge l) = Forges (letter_of l)

-- ---- which events a world of n clones has

-- the name of a branch
abbrev pub IsBranch : List ℕ → Type 0
IsBranch name = starts_with nat_eq name (codes "refs/heads/") ≡ true

-- what is set, deleted or made HEAD is a branch, no file is staged as a folder, and a push has an item
abbrev pub IsInOrder : Order → Type 0
IsInOrder (order.Stage path mode content) = mode ≢ modes.Tree
IsInOrder (order.SetBranch name expr) = IsBranch name
IsInOrder (order.DeleteBranch name) = IsBranch name
IsInOrder (order.SetHead name) = IsBranch name
IsInOrder (order.Push atomic items) = items.items ≢ []
IsInOrder _ = Unit {0}

abbrev pub IsParty : ℕ → Party → Type 0
IsParty n party.Shared = Unit {0}
IsParty n (party.Clone c) = c < n

-- the clone at the other end is one of n
abbrev pub IsEnd : ℕ → Letter → Type 0
IsEnd n (mail.ToShared c bytes) = c < n
IsEnd n (mail.ToClone c bytes) = c < n

abbrev pub IsInWorld : ℕ → Event → Type 0
IsInWorld n (event.Order c o) = (c < n) × IsInOrder o
IsInWorld n (event.Compare p first second) = IsParty n p
IsInWorld n (event.Pack p) = IsParty n p
IsInWorld n (event.Prune p) = IsParty n p
IsInWorld n (event.Restart p) = IsParty n p
IsInWorld n (event.Stop p writes) = IsParty n p
IsInWorld n (event.Forge l) = IsEnd n l
IsInWorld n _ = Unit {0}
