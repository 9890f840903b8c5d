-- Work trees by the names of their stores and their own: what a command leaves of them.
use Rattle.std.specs.Prelude.{◌≡◌, ◌≢◌, ◌⊎◌, ℕ, Bool, List, Option, None, codes, option_map}
use Rattle.vc_cli.specs.Stores.{IsUnopened}
use Rattle.vc_cli.specs.Told.{failure_line, line_behind}
use Rattle.vc_cli.specs.declared.failure.Failure.{Failure}
use Rattle.vc_files.specs.FileMap.{FileMap}
use Rattle.vc_object.specs.declared.id.ObjectId.{ObjectId}
use Rattle.vc_work_tree.specs.Folders.{Folders}
use Rattle.vc_working.specs.Checkout.{ChecksOut, LeavesOrFails, RefusesCheckout}
use Rattle.vc_working.specs.StatusLines.{RefusesStatus}

-- what a work tree has: its files, and the folders that are there of themselves
pub record Tree : Type 0 where
  pub files : FileMap
  pub folders : Folders

-- of a work tree at hand
abbrev pub tree_of : {W : Type 0} → (W → FileMap) → (W → Folders) → W → Tree
tree_of content folders work = record { files = content work; folders = folders work }

-- of each, by the name of the store that it is of, and its own
abbrev pub Trees : Type 0
Trees = (store work : List ℕ) → Tree

-- every work tree of another name has what it had
abbrev pub OtherTreesStay : List ℕ → Trees → Trees → Type 0
OtherTreesStay work old new = (store name : List ℕ) → name ≢ work → new store name ≡ old store name

-- the work tree has this now, and every one of another name what it had
pub record GivesBackTree (store work : List ℕ) (tree : Tree) (old new : Trees) : Type 0 where
  pub here : new store work ≡ tree
  pub others : OtherTreesStay work old new

-- the work tree has what it had, and so has every one of another name
abbrev pub TreeStays : (store work : List ℕ) → Trees → Trees → Type 0
TreeStays store work old new = GivesBackTree store work (old store work) old new

-- ---- a checkout

abbrev pub files_of : Tree → FileMap
files_of tree = tree.files

abbrev pub folders_of : Tree → Folders
folders_of tree = tree.folders

-- no stop is set
abbrev pub no_stop : Tree → Option ℕ
no_stop tree = None

-- what a checkout brings of a work tree, of what it has
abbrev pub ChecksOutTree : (can_hold : List ℕ → Bool) → (own revision : List ℕ) → (old new : FileMap) → (was now : Tree) → Type 0
ChecksOutTree can_hold own revision old new was now = ChecksOut files_of folders_of (λ tree. can_hold) own revision old new was now

-- why none is brought: store or work tree is not opened, or it is refused
abbrev pub RefusesCheckoutTree : (honest : Type 0) → (can_hold : List ℕ → Bool) → (own revision : List ℕ) → FileMap → Tree → Failure → Type 0
RefusesCheckoutTree honest can_hold own revision old was e = IsUnopened e ⊎ RefusesCheckout honest can_hold own revision old was.files e

-- what an error leaves: all as it was; or, after a fault, what a checkout leaves that was cut short
abbrev pub LeavesTree : (honest : Type 0) → (can_hold : List ℕ → Bool) → (own revision : List ℕ) → (old new : FileMap) → (was now : Tree) → Failure → Type 0
LeavesTree honest can_hold own revision old new was now e = LeavesOrFails honest files_of folders_of no_stop (λ tree. can_hold) own revision old new was now e

-- ---- a status

-- what a person is told where a checkout was cut short
abbrev pub cut_line : Option ObjectId → Option (List ℕ)
cut_line begun = option_map (λ (tree : ObjectId). failure_line (codes "a checkout was cut short, and files may be of either tree: the next checkout mends them")) begun

-- on a terminal
abbrev pub told_cut : Bool → Option ObjectId → List ℕ
told_cut is_terminal begun = line_behind is_terminal (cut_line begun)

-- why none is printed: store or work tree is not opened, or it is refused
abbrev pub IsOfStatus : FileMap → Failure → Type 0
IsOfStatus content e = IsUnopened e ⊎ RefusesStatus content e
