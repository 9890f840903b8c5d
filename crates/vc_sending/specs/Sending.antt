-- The push of a clone (git-push, gitprotocol-pack): the commands and the objects, as the clone's files give them, and the
-- machine's message.
use Rattle.std.specs.Prelude.{◌≡◌, ◌↔◌, ℕ, List, map, filter_map, nat_eq, unwrap_or, option_map, Option, Some, None, Ok, if◌then◌else◌, codes}
use Rattle.std.specs.List.{starts_with}
use Rattle.vc_sending.specs.declared.item.PushItem.{PushItem}
use Rattle.vc_files.specs.FileMap.{FileMap}
use Rattle.vc_format.specs.Git.{bytes_of_id}
use Rattle.vc_object_map.specs.Graph.{Reaches, ReachedFrom, IsClosedUnder}
use Rattle.vc_model.specs.Clone as machine
use Rattle.vc_model.specs.Refs.{tracking}
use Rattle.vc_object.specs.Decoding.{StoredObject}
use Rattle.vc_object.specs.ObjectId.{IsSortedByName}
use Rattle.vc_object.specs.ObjectMap.{links_in}
use Rattle.vc_object.specs.declared.id.ObjectId.{ObjectId}
use Rattle.vc_pkt.specs.Carried.{object_named, stored_name}
use Rattle.vc_push.specs.Push.{CommandText, PushText, zero_id}
use Rattle.vc_refname.specs.RefName.{tracking_name}
use Rattle.vc_refs.specs.Refs.{refs}
use Rattle.vc_object_map.specs.Store.{objects}

-- the ids that the items give
abbrev pub item_ids : List PushItem → List ObjectId
item_ids items = filter_map (λ i. i.id) items

-- ---- commands
-- what the clone knows of a ref of the shared node: the tracking value of a branch, and zero of any other
abbrev pub known_value : FileMap → List ℕ → ObjectId
known_value content name = if starts_with nat_eq name (codes "refs/heads/") then unwrap_or (refs content (tracking_name name)) zero_id else zero_id

-- from that, to the id of the item; zero where there is none
abbrev pub command_for : FileMap → PushItem → CommandText
command_for content item = record { old = known_value content item.name; new = unwrap_or item.id zero_id; name = item.name }

-- ---- objects
-- the value of a listed ref that is a tracking one
abbrev pub tracked_in : List ℕ × ObjectId → Option ObjectId
tracked_in (name, id) = if starts_with nat_eq name (codes "refs/remotes/origin/") then Some id else None

-- the value of a tracking ref
abbrev pub IsTracked : FileMap → ObjectId → Type 0
IsTracked content id = (b : List ℕ) × (refs content (tracking b) ≡ Some id)

-- a tracking ref reaches the name
pub record IsKnown (content : FileMap) (id : ObjectId) : Type 0 where
  pub value : ObjectId
  pub tracked : IsTracked content value
  pub reaches : Reaches (links_in (objects content)) value id

-- the objects that the ids reach and the tracking refs do not
abbrev pub AreSent : FileMap → List ObjectId → List StoredObject → Type 0
AreSent content ids sent = (id : ObjectId) (o : StoredObject) → object_named id sent ≡ Some o ↔ ((ReachedFrom (links_in (objects content)) ids id × ¬ IsKnown content id) × (objects content id ≡ Some o))

-- ---- the push
-- its commands and objects, where all is there that its ids reach
pub record IsPushOf (content : FileMap) (items : List PushItem) (push : PushText) : Type 0 where
  pub complete : IsClosedUnder (links_in (objects content)) (item_ids items)
  pub commands : push.commands ≡ map (command_for content) items
  pub set : List StoredObject
  pub carried : push.carried ≡ Ok set
  pub sorted : IsSortedByName (map stored_name set)
  pub sent : AreSent content (item_ids items) set

-- an item, as the machine has it
abbrev pub machine_item : PushItem → machine.PushItem
machine_item i = record { id = option_map bytes_of_id i.id; name = i.name }

abbrev pub machine_items : List PushItem → List machine.PushItem
machine_items items = map machine_item items
