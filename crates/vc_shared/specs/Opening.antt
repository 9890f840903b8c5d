-- What a node shows when it is opened: its refs, HEAD and the names of its objects.
use Rattle.std.specs.Prelude.{◌≡◌, ◌⊎◌, ◌↔◌, ℕ, IsTrue, true, List, Option, Some, option_map, Contains, IsSome, Result, IfErr}
use Rattle.std.specs.FinMap.{get}
use Rattle.vc_files.specs.FileMap.{FileMap}
use Rattle.vc_format.specs.Git.{id_of_bytes}
use Rattle.vc_model.specs.Object.{Id}
use Rattle.vc_model.specs.Shared.{SharedNode}
use Rattle.vc_local.specs.Machine.{machine_head}
use Rattle.vc_local.specs.NodeFault.{is_fault}
use Rattle.vc_local.specs.declared.fault.NodeFault.{NodeFault}
use Rattle.vc_local.specs.declared.fault.NodeFault.TheVariants.{Ref, Store}
use Rattle.vc_object.specs.ObjectId.{IsSortedByName}
use Rattle.vc_object.specs.declared.id.ObjectId.{ObjectId}
use Rattle.vc_object_map.specs.Store.{HasFile}
use Rattle.vc_object_map.specs.StoreFault.{IsFault}
use Rattle.vc_refs.specs.Head.{head_of}
use Rattle.vc_refs.specs.RefFault.{BlamesHead, BlamesList, IsGoodHead}
use Rattle.vc_refs.specs.RefMap.{IsListOf, RefMap}
use Rattle.vc_refs.specs.Refs.{SpellsRefs, refs as refs_in}
use Rattle.vc_refs.specs.declared.heads.Head.{Head}
use Rattle.vc_shared.specs.Holding.{HoldsShared, SharedText}
use Rattle.vc_shared.specs.declared.opening.Opening.{Opening}

pub record OpeningText : Type 0 where
  pub refs : List (List ℕ × ObjectId)
  pub head : Option Head
  pub names : List ObjectId

abbrev pub opening_text : Opening → OpeningText
opening_text o = record { refs = o.refs.items; head = o.head; names = o.names.items }

-- Files show this: all refs and HEAD can be read, each ref stands there once, in the order of the names, and so does the name of each
-- file of an object.
pub record ShowsFiles (content : FileMap) (o : OpeningText) : Type 0 where
  pub refs : IsListOf (refs_in content) o.refs
  pub spelled : SpellsRefs content
  pub head : o.head ≡ head_of content
  pub good : IsGoodHead content
  pub sorted : IsSortedByName o.names
  pub names : (id : ObjectId) → Contains o.names id ↔ HasFile content id

-- ---- of the machine's node
abbrev pub refs_of : SharedNode → RefMap
refs_of n name = option_map id_of_bytes (get n.repository.refs name)

pub record IsOpening (o : OpeningText) (n : SharedNode) : Type 0 where
  pub refs : IsListOf (refs_of n) o.refs
  pub head : option_map machine_head o.head ≡ Some n.repository.head
  pub sorted : IsSortedByName o.names
  pub names : (x : Id) → Contains o.names (id_of_bytes x) ↔ IsSome (get n.repository.objects x)

-- a node has no other
abbrev pub HaveOneOpening : Type 0
HaveOneOpening = (a b : OpeningText) (n : SharedNode) → IsOpening a n → IsOpening b n → a ≡ b

-- it is that of whatever node is held
abbrev pub TellsOpening : {F : Type 0} → (F → FileMap) → SharedText F → OpeningText → Type 0
TellsOpening content node o = (n : SharedNode) → HoldsShared (content node.files) node.slots node.is_up n → IsOpening o n

-- ---- refusals
-- a file of the refs can't be read, or, if each can, HEAD's; or a fault came
abbrev pub BlamesOpening : FileMap → NodeFault → Type 0
BlamesOpening content (Store fault) = IsFault fault
BlamesOpening content (Ref fault) = BlamesList content fault ⊎ (SpellsRefs content × BlamesHead content fault)
BlamesOpening content _ = ⊥

-- at a node that is up and holds one of the machine's, only a fault comes
abbrev pub OnlyFaults : {F T : Type 0} → (F → FileMap) → SharedText F → Result T NodeFault → Type 0
OnlyFaults content node result = node.is_up ≡ true → (n : SharedNode) → HoldsShared (content node.files) node.slots node.is_up n → IfErr result (λ e. IsTrue (is_fault e))
