-- The lines of a script, and the event that each tells.
use Rattle.std.specs.Prelude.{◌++◌, ℕ, Bool, true, false, List, [], ◌∷◌, codes, Option, Some, None, Ok, Err, Result, option_map, if◌then◌else◌}
use Rattle.std.specs.Str.{bytes_eq}
use Rattle.hex.specs.Hex.{decode_of}
use Rattle.vc_model.specs.ExactWorld.{Letter, WorldEvent}
use Rattle.vc_model.specs.ExactWorld.Letter.{FromClone, FromShared}
use Rattle.vc_model.specs.ExactWorld.WorldEvent.{Compares, Delivers, Forges, Orders, Packs, Prunes, Restarts, Steps, Stops}
use Rattle.vc_model.specs.Order.{Order}
use Rattle.vc_model.specs.Order.Order.{BranchAt, CommitIndex, DropBranch, Fetch, HeadAt, HeadOn, LoadIndex, PushItems, StageFile, StoreObject, UnstageFile}
use Rattle.vc_model.specs.World.{Party}
use Rattle.vc_model.specs.World.Party.{TheClone, TheShared}
use Rattle.vc_object.specs.CommitReading.{kind_of}
use Rattle.vc_object.specs.Items.{◌>>=◌}
use Rattle.vc_rules.specs.Git.{machine_object}
use Rattle.vc_script.specs.Words.{all_in, branch_in, has_empty, item_in, number_in, pair, party_in, sole, words_of}
use Rattle.vc_script.specs.declared.orders.Verb.{Verb}
use Rattle.vc_script.specs.declared.orders.Verb.TheVariants as verb

-- ---- what a clone is told to do, by the words after the verb

-- the bytes of hex digits
abbrev pub decoded : {E : Type 0} → Result (List ℕ) E → Option (List ℕ)
decoded (Ok bytes) = Some bytes
decoded (Err e) = None

unfoldable pub decoded_in : List ℕ → Option (List ℕ)
decoded_in digits = decoded (decode_of digits)

-- an object: its kind, and the hex digits of its body
unfoldable pub write_in : List (List ℕ) → Option Order
write_in words = do
  parts ← pair words
  kind ← kind_of parts.0
  body ← decoded_in parts.1
  Some (StoreObject (machine_object kind body))

-- a path, and a word that the file (mode 100644) holds with a line feed (10)
unfoldable pub add_in : List (List ℕ) → Option Order
add_in words = do
  parts ← pair words
  Some (StageFile parts.0 33188 (parts.1 ++ 10 ∷ []))

unfoldable pub unstage_in : List (List ℕ) → Option Order
unstage_in words = do
  path ← sole words
  Some (UnstageFile path)

-- who commits in a script, and who is the author
abbrev pub somebody : List ℕ
somebody = codes "a <a> 0 +0000"

-- the first word is the message; what is after it are more parents
unfoldable pub commit_in : List (List ℕ) → Option Order
commit_in [] = None
commit_in (message ∷ parents) = Some (CommitIndex parents somebody somebody message)

unfoldable pub branch_at_in : List (List ℕ) → Option Order
branch_at_in words = do
  parts ← pair words
  branch ← branch_in parts.0
  Some (BranchAt branch parts.1)

unfoldable pub delete_in : List (List ℕ) → Option Order
delete_in words = do
  name ← sole words
  branch ← branch_in name
  Some (DropBranch branch)

unfoldable pub head_in : List (List ℕ) → Option Order
head_in words = do
  name ← sole words
  branch ← branch_in name
  Some (HeadOn branch)

unfoldable pub load_in : List (List ℕ) → Option Order
load_in words = do
  expression ← sole words
  Some (LoadIndex expression)

unfoldable pub detach_in : List (List ℕ) → Option Order
detach_in words = do
  expression ← sole words
  Some (HeadAt expression)

unfoldable pub fetch_in : List (List ℕ) → Option Order
fetch_in [] = Some Fetch
fetch_in (word ∷ words) = None

-- one item at least
unfoldable pub push_in : Bool → List (List ℕ) → Option Order
push_in atomic [] = None
push_in atomic (word ∷ words) = option_map (PushItems atomic) (all_in item_in (word ∷ words))

unfoldable pub verb_in : List ℕ → Option Verb
verb_in word =
    if bytes_eq word (codes "write") then Some verb.Write
    else if bytes_eq word (codes "add") then Some verb.Add
    else if bytes_eq word (codes "unstage") then Some verb.Unstage
    else if bytes_eq word (codes "commit") then Some verb.Commit
    else if bytes_eq word (codes "branch") then Some verb.Branch
    else if bytes_eq word (codes "delete") then Some verb.Delete
    else if bytes_eq word (codes "head") then Some verb.Head
    else if bytes_eq word (codes "load") then Some verb.Load
    else if bytes_eq word (codes "detach") then Some verb.Detach
    else if bytes_eq word (codes "fetch") then Some verb.Fetch
    else if bytes_eq word (codes "push") then Some verb.Push
    else if bytes_eq word (codes "push-atomic") then Some verb.PushAtomic
    else None

abbrev pub order_by : Verb → List (List ℕ) → Option Order
order_by verb.Write words = write_in words
order_by verb.Add words = add_in words
order_by verb.Unstage words = unstage_in words
order_by verb.Commit words = commit_in words
order_by verb.Branch words = branch_at_in words
order_by verb.Delete words = delete_in words
order_by verb.Head words = head_in words
order_by verb.Load words = load_in words
order_by verb.Detach words = detach_in words
order_by verb.Fetch words = fetch_in words
order_by verb.Push words = push_in false words
order_by verb.PushAtomic words = push_in true words

unfoldable pub order_in : List ℕ → List (List ℕ) → Option Order
order_in word others = do
  told ← verb_in word
  order_by told others

-- ---- events

unfoldable pub deliver_in : List (List ℕ) → Option WorldEvent
deliver_in words = do
  word ← sole words
  message ← number_in word
  Some (Delivers message)

unfoldable pub step_in : List (List ℕ) → Option WorldEvent
step_in words = do
  word ← sole words
  slot ← number_in word
  Some (Steps slot)

unfoldable pub restart_in : ℕ → List (List ℕ) → Option WorldEvent
restart_in n words = do
  word ← sole words
  party ← party_in n word
  Some (Restarts party)

-- a node, and how many more writes pass there
unfoldable pub stop_in : ℕ → List (List ℕ) → Option WorldEvent
stop_in n words = do
  parts ← pair words
  party ← party_in n parts.0
  writes ← number_in parts.1
  Some (Stops party writes)

-- bytes to a node, as from the other end: one of the two is the shared node
abbrev pub letter_in : (to from : Party) → List ℕ → Option Letter
letter_in TheShared (TheClone c) bytes = Some (FromClone c bytes)
letter_in (TheClone c) TheShared bytes = Some (FromShared c bytes)
letter_in TheShared TheShared bytes = None
letter_in (TheClone c) (TheClone d) bytes = None

unfoldable pub forged : (to from : Party) → List ℕ → Option WorldEvent
forged to from digits = do
  bytes ← decoded_in digits
  letter ← letter_in to from bytes
  Some (Forges letter)

-- a node, the other end, and the hex digits of the bytes
unfoldable pub forge_in : ℕ → List (List ℕ) → Option WorldEvent
forge_in n [] = None
forge_in n (to ∷ words) = do
  parts ← pair words
  receiver ← party_in n to
  sender ← party_in n parts.0
  forged receiver sender parts.1

unfoldable pub compare_in : Party → List (List ℕ) → Option WorldEvent
compare_in party words = do
  parts ← pair words
  Some (Compares party parts.0 parts.1)

unfoldable pub pack_in : Party → List (List ℕ) → Option WorldEvent
pack_in party [] = Some (Packs party)
pack_in party (word ∷ others) = None

unfoldable pub prune_in : Party → List (List ℕ) → Option WorldEvent
prune_in party [] = Some (Prunes party)
prune_in party (word ∷ others) = None

-- the shared node takes no orders
unfoldable pub ordered : Party → List ℕ → List (List ℕ) → Option WorldEvent
ordered TheShared verb others = None
ordered (TheClone c) verb others = option_map (Orders c) (order_in verb others)

unfoldable pub asked_in : Party → List (List ℕ) → Option WorldEvent
asked_in party [] = None
asked_in party (verb ∷ others) =
    if bytes_eq verb (codes "same") then compare_in party others
    else if bytes_eq verb (codes "pack") then pack_in party others
    else if bytes_eq verb (codes "prune") then prune_in party others
    else ordered party verb others

unfoldable pub node_event : ℕ → List ℕ → List (List ℕ) → Option WorldEvent
node_event n name others = do
  party ← party_in n name
  asked_in party others

-- the event that the words tell, in a world of n clones
unfoldable pub event_in : ℕ → List (List ℕ) → Option WorldEvent
event_in n [] = None
event_in n (first ∷ others) =
    if bytes_eq first (codes "deliver") then deliver_in others
    else if bytes_eq first (codes "step") then step_in others
    else if bytes_eq first (codes "restart") then restart_in n others
    else if bytes_eq first (codes "stop") then stop_in n others
    else if bytes_eq first (codes "forge") then forge_in n others
    else node_event n first others

-- no word is empty: words are separated by single spaces
unfoldable pub line_event : ℕ → List ℕ → Option WorldEvent
line_event n line = if has_empty (words_of line) then None else event_in n (words_of line)
