-- What a refusal of a checkout says.
use Rattle.std.specs.Prelude.{◌≡◌, ◌⊎◌, ℕ, Bool, List, Option, Some, None, Result, Err, IsErrOf}
use Rattle.vc_files.specs.FileMap.{FileMap}
use Rattle.vc_object.specs.declared.id.ObjectId.{ObjectId}
use Rattle.vc_files.specs.declared.faults.Fault.{Fault as FileFault}
use Rattle.vc_files.specs.declared.faults.Fault.TheVariants.{Device, Memory}
use Rattle.vc_object.specs.ObjectMap.{ObjectMap}
use Rattle.vc_object_map.specs.Store.{objects}
use Rattle.vc_index.specs.IndexMap.{IndexMap}
use Rattle.vc_checkout.specs.Blobs.{BlamesBlobs, HasDueBlobs}
use Rattle.vc_checkout.specs.Holding.{BlamesPath, HoldsDue}
use Rattle.vc_checkout.specs.Refusal.{IsRefused}
use Rattle.vc_object_map.specs.declared.faults.StoreFault.TheVariants.{Fault}
use Rattle.vc_index.specs.declared.faults.IndexFault.{IndexFault}
use Rattle.vc_index.specs.declared.faults.IndexFault.TheVariants.{Store}
use Rattle.vc_index.specs.Loading.{IsOfList}
use Rattle.vc_index.specs.TreeReading.{ListsAs, TreeFault, tree_fault}
use Rattle.vc_checkout.specs.declared.faults.CheckoutFault.{CheckoutFault}
use Rattle.vc_checkout.specs.declared.faults.CheckoutFault.TheVariants.{BadPath, Index}

-- want of memory, or a device that failed
abbrev pub IsFault : CheckoutFault → Type 0
IsFault fault = (cause : FileFault) × (fault ≡ Index (Store (Fault cause)))

-- want of memory
abbrev pub IsMemory : CheckoutFault → Type 0
IsMemory fault = fault ≡ Index (Store (Fault Memory))

-- a fault, or what this blames
abbrev pub IsFaultOr : (IndexFault → Type 0) → CheckoutFault → Type 0
IsFaultOr Blames fault = IsFault fault ⊎ ((cause : IndexFault) × (fault ≡ Index cause) × Blames cause)

-- a call answers by the fault of a device
abbrev pub TellsDevice : {T : Type 0} → Result T CheckoutFault → Type 0
TellsDevice result = IsErrOf result (Index (Store (Fault Device)))

-- something in the work tree is against a checkout
abbrev pub IsAgainst : CheckoutFault → Type 0
IsAgainst (Index fault) = ⊥
IsAgainst (BadPath path) = ⊥
IsAgainst _ = Unit {0}

-- why a status was not told: the tree and those below it were not read, or a fault
abbrev pub IsOfStatus : Type 0 → FileMap → Option ObjectId → CheckoutFault → Type 0
IsOfStatus honest content None fault = IsFault fault
IsOfStatus honest content (Some tree) fault = IsFaultOr (IsOfList honest content tree) fault

-- the fault of a tree that a refusal tells
abbrev pub told_fault : CheckoutFault → Option TreeFault
told_fault (Index cause) = tree_fault cause
told_fault _ = None

-- a fault of the tree that is told is the first one that its listing meets
abbrev pub TellsFirstListed : ObjectMap → ObjectId → CheckoutFault → Type 0
TellsFirstListed objects root refusal = (fault : TreeFault) → told_fault refusal ≡ Some fault → ListsAs objects root (Err fault)

-- why a work tree was not checked out: a fault, or the first path that is due and can't be held; or, where each can be, the
-- first blob that is due and not there; or, where each is there too, what is against it at the first path
abbrev pub IsOfCheckout : Type 0 → (List ℕ → Bool) → FileMap → FileMap → IndexMap → IndexMap → CheckoutFault → Type 0
IsOfCheckout honest can_hold work content index tree fault =
    IsFault fault
    ⊎ (BlamesPath can_hold index tree fault
    ⊎ (HoldsDue can_hold index tree
    × (((cause : IndexFault) × (fault ≡ Index cause) × BlamesBlobs content index tree cause) ⊎ (IsAgainst fault × HasDueBlobs (objects content) index tree × (honest → IsRefused index tree work fault)))))
