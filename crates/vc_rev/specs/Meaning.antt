-- What an expression denotes, by cases on its text, over refs, objects and an index.
use Rattle.std.specs.Prelude.{◌≡◌, ◌≢◌, ◌⊎◌, ℕ, zero, suc, List, [], ◌∷◌, ◌++◌, ◌==◌, ◌&&◌, ◌||◌, Bool, true, not, nat_eq, nat_lt, nat_le, codes, length, if◌then◌else◌, Option, Some, None, Result, Ok, Err, MatchBool, MatchOption, slice_get, IsUtf8, option_map, option_and_then}
use Rattle.std.specs.Result.{result_ok}
use Rattle.std.specs.List.{slice_split, starts_with, list_all}
use Rattle.std.specs.Str.{bytes_eq, str_to_ascii_lowercase}
use Rattle.std.specs.Char.{is_ascii_hexdigit}
use Rattle.hex.specs.Hex.{encode_lower, decode_of, is_hex_digit}
use Rattle.vc_refname.specs.RefName.{IsRefName}
use Rattle.vc_object.specs.Commit.{CommitText}
use Rattle.vc_object.specs.CommitReading.{commit_of, tag_of}
use Rattle.vc_object_map.specs.Graph.{Reaches, IsClosed}
use Rattle.vc_object.specs.Decoding.{StoredObject}
use Rattle.vc_object.specs.Links.{parents_of}
use Rattle.vc_object.specs.ObjectMap.{ObjectMap}
use Rattle.vc_object.specs.Entries.{entries_of}
use Rattle.vc_object.specs.Tag.{TagText}
use Rattle.vc_object.specs.Tree.{Entry}
use Rattle.vc_object.specs.declared.id.ObjectId.{ObjectId}
use Rattle.vc_object.specs.declared.kind.Kind.{Kind}
use Rattle.vc_object.specs.declared.kind.Kind.TheVariants as kinds
use Rattle.vc_object.specs.declared.mode.Mode.{Mode}
use Rattle.vc_object.specs.declared.mode.Mode.TheVariants as modes
use Rattle.vc_expression.specs.Grammar.{RevText, ExprText, Object, InTree, InIndex}
use Rattle.vc_rev.specs.Answer.{After}
use Rattle.vc_rev.specs.Source.{Source}
use Rattle.vc_rev.specs.declared.refusal.Refusal.{Refusal}
use Rattle.vc_rev.specs.declared.refusal.Refusal.TheVariants.{Unknown, Ambiguous, TooShort, NoSuchParent, WrongKind, NoSuchPath}
use Rattle.vc_expression.specs.declared.token.Step.{Step}
use Rattle.vc_expression.specs.declared.token.Step.TheVariants as steps

abbrev pub Answer : Type 0
Answer = Result ObjectId Refusal

-- What objects hold.

-- the commit that an object is
abbrev pub commit_in : StoredObject → Option CommitText
commit_in o = of_kind o.kind
  where
    of_kind : Kind → Option CommitText
    of_kind kinds.Commit = commit_of o.body
    of_kind _ = None

-- what the tag that an object is names
abbrev pub target_in : StoredObject → Option ObjectId
target_in o = of_kind o.kind
  where
    of_kind : Kind → Option ObjectId
    of_kind kinds.Tag = option_map (λ (t : TagText). t.object) (tag_of o.body)
    of_kind _ = None

-- the entries of the tree that an object is; another object has none
abbrev pub entries_in : StoredObject → List Entry
entries_in o = of_kind o.kind
  where
    of_kind : Kind → List Entry
    of_kind kinds.Tree = entries_of o.body
    of_kind _ = []

-- a tag links to what it names, and nothing else has links
abbrev pub tag_links : ObjectMap → ObjectId → Option (List ObjectId)
tag_links objects x = option_map (λ y. y ∷ []) (option_and_then target_in (objects x))

-- Steps.

-- the n-th parent of a commit, and for 0 the commit itself
abbrev pub nth_parent : ObjectId → List ObjectId → ℕ → Answer
nth_parent id parents zero = Ok id
nth_parent id parents (suc n) = found (slice_get parents n)
  where
    found : Option ObjectId → Answer
    found (Some parent) = Ok parent
    found None = Err NoSuchParent

abbrev pub parent_in : ObjectId → Option (List ObjectId) → ℕ → Answer
parent_in id None n = Err WrongKind
parent_in id (Some parents) n = nth_parent id parents n

-- an object of that kind, or for a tree the tree of a commit
abbrev pub of_kind : Kind → ObjectId → StoredObject → Answer
of_kind kinds.Commit id o = of_this o.kind
  where
    of_this : Kind → Answer
    of_this kinds.Commit = Ok id
    of_this _ = Err WrongKind
of_kind kinds.Blob id o = of_this o.kind
  where
    of_this : Kind → Answer
    of_this kinds.Blob = Ok id
    of_this _ = Err WrongKind
of_kind kinds.Tag id o = of_this o.kind
  where
    of_this : Kind → Answer
    of_this kinds.Tag = Ok id
    of_this _ = Err WrongKind
of_kind kinds.Tree id o = of_this o.kind (commit_in o)
  where
    of_this : Kind → Option CommitText → Answer
    of_this kinds.Tree c = Ok id
    of_this _ (Some c) = Ok c.tree
    of_this _ None = Err WrongKind

-- what a step gives, once tags are peeled
abbrev pub pick : Step → ObjectId × StoredObject → Answer
pick (steps.Parent n) found = parent_in found.0 (parents_of found.1.kind found.1.body) n
pick (steps.Ancestor n) found = Err WrongKind
pick steps.Peel found = Ok found.0
pick (steps.PeelTo kind) found = of_kind kind found.0 found.1

-- Names.

-- forty digits of either case are that id
abbrev pub id_of : List ℕ → Option ObjectId
id_of name = if (length name == 40) && list_all is_hex_digit name then option_map (λ bytes. record { 0 = bytes }) (result_ok (decode_of name)) else None

-- the places of a name, in order
abbrev pub places : List ℕ → List (List ℕ)
places name =
    name
    ∷ (codes "refs/" ++ name)
    ∷ (codes "refs/tags/" ++ name)
    ∷ (codes "refs/heads/" ++ name)
    ∷ (codes "refs/remotes/" ++ name)
    ∷ (codes "refs/remotes/" ++ (name ++ codes "/HEAD"))
    ∷ []

-- the whole name of a ref: a legal text that begins `refs/`
pub record IsFullName (name : List ℕ) : Type 0 where
  pub text : IsUtf8 name
  pub legal : IsRefName name
  pub in_refs : starts_with nat_eq name (codes "refs/") ≡ true

-- the hex digits of an id begin with these, of either case
abbrev pub begins_with : List ℕ → ObjectId → Bool
begins_with digits id = starts_with nat_eq (encode_lower id.0) (str_to_ascii_lowercase digits)

-- 1 to 39 hex digits
abbrev pub is_prefix : List ℕ → Bool
is_prefix name = if length name == 0 then not true else (if nat_le 40 (length name) then not true else list_all is_ascii_hexdigit name)

abbrev pub is_head : List ℕ → Bool
is_head name = bytes_eq name (codes "@") || bytes_eq name (codes "HEAD")

abbrev pub or_refusal : Option ObjectId → Refusal → Answer
or_refusal None e = Err e
or_refusal (Some id) e = Ok id

-- the one name of a list
abbrev pub the_one : List ObjectId → Answer
the_one [] = Err Unknown
the_one (id ∷ []) = Ok id
the_one (id ∷ other ∷ others) = Err Ambiguous

-- Paths.

abbrev pub entry_named : List ℕ → List Entry → Option Entry
entry_named name [] = None
entry_named name (entry ∷ others) = if bytes_eq entry.name name then Some entry else entry_named name others

abbrev pub is_folder : Mode → Bool
is_folder modes.Tree = true
is_folder _ = not true

abbrev pub entry_or_none : Option Entry → Result (Mode × ObjectId) Refusal
entry_or_none None = Err NoSuchPath
entry_or_none (Some entry) = Ok (entry.mode, entry.id)

abbrev pub entry_inside : List ℕ → Option StoredObject → Result (Mode × ObjectId) Refusal
entry_inside name None = Err Unknown
entry_inside name (Some o) = entry_or_none (entry_named name (entries_in o))

-- the empty path has no components; each other one has those between its slashes
abbrev pub components : List ℕ → List (List ℕ)
components path = if length path == 0 then [] else slice_split (λ byte. byte == 47) path

module _ (s : Source) where
  -- the object behind tags; 51 where they lead to one that is absent, 55 where they lead back
  abbrev pub PeelsTo : ObjectId → Result (ObjectId × StoredObject) Refusal → Type 0
  PeelsTo x (Ok found) = Reaches (tag_links s.objects) x found.0 × (s.objects found.0 ≡ Some found.1) × (target_in found.1 ≡ None)
  PeelsTo x (Err Unknown) = (y : ObjectId) × Reaches (tag_links s.objects) x y × (s.objects y ≡ None)
  PeelsTo x (Err WrongKind) = IsClosed (tag_links s.objects) x
  PeelsTo x (Err _) = ⊥

  -- a step from what is behind tags
  abbrev pub PicksFrom : Step → ObjectId → Answer → Type 0
  PicksFrom step x answer = After (PeelsTo x) (λ found a. a ≡ pick step found) answer

  -- n first parents, one after another
  abbrev pub FirstParents : ℕ → ObjectId → Answer → Type 0
  FirstParents zero x answer = answer ≡ Ok x
  FirstParents (suc n) x answer = After (PicksFrom (steps.Parent 1) x) (FirstParents n) answer

  abbrev pub AncestorGives : ℕ → ObjectId → Answer → Type 0
  AncestorGives zero x answer = PicksFrom (steps.Parent 0) x answer
  AncestorGives (suc n) x answer = FirstParents (suc n) x answer

  -- a tag itself
  abbrev pub tag_itself : ObjectId → Option StoredObject → Answer
  tag_itself x None = Err Unknown
  tag_itself x (Some o) = of_kind kinds.Tag x o

  abbrev pub PeelGives : Kind → ObjectId → Answer → Type 0
  PeelGives kinds.Tag x answer = answer ≡ tag_itself x (s.objects x)
  PeelGives kind x answer = PicksFrom (steps.PeelTo kind) x answer

  abbrev pub StepGives : Step → ObjectId → Answer → Type 0
  StepGives (steps.Parent n) x answer = PicksFrom (steps.Parent n) x answer
  StepGives (steps.Ancestor n) x answer = AncestorGives n x answer
  StepGives steps.Peel x answer = PicksFrom steps.Peel x answer
  StepGives (steps.PeelTo kind) x answer = PeelGives kind x answer

  -- steps one after another
  abbrev pub StepsGive : List Step → ObjectId → Answer → Type 0
  StepsGive [] x answer = answer ≡ Ok x
  StepsGive (step ∷ others) x answer = After (StepGives step x) (StepsGive others) answer

  -- the value of a ref; a text that is no whole name has none
  abbrev pub RefGives : List ℕ → Option ObjectId → Type 0
  RefGives name value = (IsFullName name × (value ≡ s.names.ref name)) ⊎ ((IsFullName name → ⊥) × (value ≡ None))

  -- the first of the names that has a value
  abbrev pub FirstValue : List (List ℕ) → Option ObjectId → Type 0
  FirstValue [] answer = answer ≡ None
  FirstValue (name ∷ names) answer = (value : Option ObjectId) × RefGives name value × MatchOption value (FirstValue names answer) (λ id. answer ≡ Some id)

  -- something is stored in the place of a name that begins so
  abbrev pub Begins : List ℕ → ObjectId → Type 0
  Begins digits id = s.IsStored id × (begins_with digits id ≡ true)

  -- the one stored object whose name begins so
  abbrev pub PrefixGives : List ℕ → Answer → Type 0
  PrefixGives digits (Ok id) = Begins digits id × ((other : ObjectId) → Begins digits other → other ≡ id)
  PrefixGives digits (Err Unknown) = (other : ObjectId) → Begins digits other → ⊥
  PrefixGives digits (Err Ambiguous) = (x y : ObjectId) × Begins digits x × Begins digits y × (x ≢ y)
  PrefixGives digits (Err _) = ⊥

  abbrev pub DigitsGive : List ℕ → Answer → Type 0
  DigitsGive name answer =
      MatchBool (is_prefix name) (MatchBool (nat_lt (length name) 4) (answer ≡ Err TooShort) (PrefixGives name answer)) (answer ≡ Err Unknown)

  -- by a ref, or else by digits
  abbrev pub ShortGives : List ℕ → Answer → Type 0
  ShortGives name answer = (value : Option ObjectId) × FirstValue (places name) value × MatchOption value (DigitsGive name answer) (λ id. answer ≡ Ok id)

  -- HEAD without value is refused, and nothing else is tried for it
  abbrev pub HeadGives : Answer → Type 0
  HeadGives answer = answer ≡ or_refusal s.names.head Unknown

  -- HEAD, an id, a ref, or the beginning of an id, in this order
  abbrev pub NameGives : List ℕ → Answer → Type 0
  NameGives name answer =
      MatchBool (is_head name) (HeadGives answer) (MatchOption (id_of name) (ShortGives name answer) (λ id. answer ≡ Ok id))

  -- a base, and the steps from it
  abbrev pub RevGives : RevText → Answer → Type 0
  RevGives rev answer = After (NameGives rev.base) (StepsGive rev.steps) answer

  -- the entry of this name in a thing of that mode and id, which has to be a folder
  abbrev pub child_at : List ℕ → Mode → ObjectId → Result (Mode × ObjectId) Refusal
  child_at name mode id = if is_folder mode then entry_inside name (s.objects id) else Err NoSuchPath

  -- the entry at a path, one component after another
  abbrev pub EntryGives : List (List ℕ) → Mode → ObjectId → Answer → Type 0
  EntryGives [] mode id answer = answer ≡ Ok id
  EntryGives (part ∷ parts) mode id answer = After (λ a. a ≡ child_at part mode id) (λ child. EntryGives parts child.0 child.1) answer

  -- the entry at a path in the tree of what is at hand
  abbrev pub PathGives : List ℕ → ObjectId → Answer → Type 0
  PathGives path x answer = After (PicksFrom (steps.PeelTo kinds.Tree) x) (EntryGives (components path) modes.Tree) answer

  -- the id at a path of the index
  abbrev pub IndexGives : List ℕ → Answer → Type 0
  IndexGives path answer = answer ≡ or_refusal (s.names.index path) NoSuchPath

  -- the value of an expression, or the refusal of it
  abbrev pub Denotes : ExprText → Answer → Type 0
  Denotes (Object rev) answer = RevGives rev answer
  Denotes (InTree rev path) answer = After (RevGives rev) (PathGives path) answer
  Denotes (InIndex path) answer = IndexGives path answer
