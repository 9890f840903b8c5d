-- What the words of a push ask for over files, and why one of them is refused.
use Rattle.std.specs.Prelude.{◌≡◌, ◌⊎◌, ℕ, List, [], ◌∷◌, None, Some, Ok}
use Rattle.vc_sending.specs.declared.item.PushItem.{PushItem}
use Rattle.vc_files.specs.FileMap.{FileMap}
use Rattle.vc_files.specs.declared.faults.Fault.TheVariants.{Memory}
use Rattle.vc_object.specs.declared.id.ObjectId.{ObjectId}
use Rattle.vc_refname.specs.RefName.{IsRefName, first_broken_rule}
use Rattle.vc_transport.specs.Words.{IsOfWord}
use Rattle.vc_transport.specs.declared.words.ItemWords.{ItemWords}
use Rattle.vc_transport.specs.declared.words.ItemWords.TheVariants.{Branch, Delete, Set}
use Rattle.vc_working.specs.CloneWords.{branch_ref}
use Rattle.vc_cli.specs.Revisions.{Denoted, IsOfRevision}
use Rattle.vc_cli.specs.declared.failure.Failure.{Failure}
use Rattle.vc_cli.specs.declared.failure.Failure.TheVariants.{Name, Fault}

-- the ref of this name is to have what the revision has
pub record SetsRef (content : FileMap) (revision name : List ℕ) (item : PushItem) : Type 0 where
  pub id : ObjectId
  pub value : Denoted content revision (Ok id)
  pub id_is : item.id ≡ Some id
  pub name_is : item.name ≡ name

-- the ref of this name is to go
pub record DeletesRef (name : List ℕ) (item : PushItem) : Type 0 where
  pub id_is : item.id ≡ None
  pub name_is : item.name ≡ name

-- a branch is to have at the shared node what it has here, by its full name
abbrev pub IsItemOf : FileMap → ItemWords → PushItem → Type 0
IsItemOf content (Branch branch) item = SetsRef content (branch_ref branch.now) (branch_ref branch.now) item
IsItemOf content (Set revision name) item = SetsRef content revision.now name.now item
IsItemOf content (Delete name) item = DeletesRef name.now item

-- the item that the word asks for
abbrev pub IsItemFor : FileMap → List ℕ → PushItem → Type 0
IsItemFor content word item = (words : ItemWords) × IsOfWord word words × IsItemOf content words item

-- why no ref has the name: the first rule that it breaks, or memory runs out
abbrev pub IsOfName : List ℕ → Failure → Type 0
IsOfName name (Name rule) = first_broken_rule name ≡ Some rule
IsOfName name (Fault fault) = fault ≡ Memory
IsOfName name _ = ⊥

-- why a ref is not to be set: no ref has the name; or one may, and the revision has no value
abbrev pub IsOfSet : FileMap → (revision name : List ℕ) → Failure → Type 0
IsOfSet content revision name e = IsOfName name e ⊎ (IsRefName name × IsOfRevision content revision e)

-- why the word, as it is cut, asks for nothing
abbrev pub IsOfItem : FileMap → ItemWords → Failure → Type 0
IsOfItem content (Branch branch) e = IsOfSet content (branch_ref branch.now) (branch_ref branch.now) e
IsOfItem content (Set revision name) e = IsOfSet content revision.now name.now e
IsOfItem content (Delete name) e = IsOfName name.now e

abbrev pub IsOfItemWord : FileMap → List ℕ → Failure → Type 0
IsOfItemWord content word e = (words : ItemWords) × IsOfWord word words × IsOfItem content words e

-- the items are those that the words ask for, in their order
abbrev pub AreItemsFor : FileMap → List (List ℕ) → List PushItem → Type 0
AreItemsFor content [] items = items ≡ []
AreItemsFor content (word ∷ words) items =
    (item : PushItem) × (others : List PushItem) × IsItemFor content word item × AreItemsFor content words others × (items ≡ item ∷ others)

-- one of the words is refused, and those before it ask for items
abbrev pub IsOfItemWords : FileMap → List (List ℕ) → Failure → Type 0
IsOfItemWords content [] e = ⊥
IsOfItemWords content (word ∷ words) e =
    IsOfItemWord content word e ⊎ ((item : PushItem) × IsItemFor content word item × IsOfItemWords content words e)
