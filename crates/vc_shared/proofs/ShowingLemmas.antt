-- For who proves what an opening shows: that two of them are the same, that files show that of the node that they hold, and that nothing
-- but a fault keeps it from being read there.
use Rattle.std.proofs.Common.{◌≡◌, ◌≢◌, ◌∙◌, ◌∷◌, ◌&&◌, inl, inr, ℕ, Bool, true, false, not, List, [], Option, Some, None, refl, sym, ap, subst, arith, true≢false}
use Rattle.std.specs.Prelude.{◌↔◌, Contains, IsSome, IsTrue, bytes_eq, option_map, string_bytes}
use Rattle.std.specs.Bool.{Decides}
use Rattle.std.specs.FinMap.{get}
use Rattle.std.specs.FinMap.Entries.{same_entries}
use Rattle.std.specs.Cmp.Lexicographic.{nat_list_cmp_total, pointwise, slice_cmp}
use Rattle.std.specs.Ordering.{nat_cmp, ordering_reverse}
use Rattle.std.specs.declared.cmp.Ordering.TheVariants.{Equal, Greater, Less}
use Rattle.std.proofs.lemmas.Bool.{and_from, and_parts}
use Rattle.std.proofs.lemmas.Cmp.{tied_itself}
use Rattle.std.proofs.lemmas.Float.{T_from_true}
use Rattle.std.proofs.lemmas.List.Elements.{All-contains, All-from_recursion, Contains-append_right}
use Rattle.std.proofs.lemmas.Map.Keys.{sorted_head, sorted_tail}
use Rattle.std.proofs.lemmas.Slice.Eq.{bytes_eq-Decides, slice_eq-Decides}
use Rattle.vc_files.specs.FileMap.{FileMap}
use Rattle.vc_format.specs.Git.{id_of_bytes}
use Rattle.vc_model.proofs.Commits.{contains_cons}
use Rattle.vc_model.proofs.Maps.{bytes_same}
use Rattle.vc_model.specs.Object.{Id}
use Rattle.vc_model.specs.Refs.{Head as Named}
use Rattle.vc_model.specs.Refs.Head.{Detached, OnBranch}
use Rattle.vc_model.specs.Shared.{SharedNode}
use Rattle.vc_rules.specs.Git.{stored_of}
use Rattle.vc_local.specs.Machine.{machine_head}
use Rattle.vc_local.specs.NodeFault.{is_fault}
use Rattle.vc_local.specs.declared.fault.NodeFault.{NodeFault}
use Rattle.vc_local.specs.declared.fault.NodeFault.TheVariants as node
use Rattle.vc_object.proofs.IdLemmas.{id_cmp_total, id_eq-same}
use Rattle.vc_object.specs.Decoding.{StoredObject}
use Rattle.vc_object.specs.ObjectId.{IsSortedByName, id_cmp, id_eq}
use Rattle.vc_object.specs.declared.id.ObjectId.{ObjectId}
use Rattle.vc_object_map.specs.declared.faults.StoreFault.TheVariants as store
use Rattle.vc_push_rules.specs.Session.{SessionText}
use Rattle.vc_refs.specs.declared.faults.RefFault.{RefFault}
use Rattle.vc_refs.specs.declared.faults.RefFault.TheVariants as ref
use Rattle.vc_refs.specs.declared.heads.Head.{Head}
use Rattle.vc_refs.specs.declared.heads.Head.TheVariants as heads
use Rattle.vc_store.proofs.NamesLemmas.{file-objects, objects-file}
use Rattle.vc_shared.proofs.RestartLemmas.{held_open}
use Rattle.vc_shared.specs.Holding.{HoldsShared}
use Rattle.vc_shared.specs.Opening.{BlamesOpening, HaveOneOpening, IsOpening, OpeningText, ShowsFiles}

-- ---- what `==` says
abbrev pub Told : Type 0
Told = List ℕ × ObjectId

-- two refs have one name and one id
abbrev pub told_eq : Told → Told → Bool
told_eq a b = bytes_eq a.0 b.0 && id_eq a.1 b.1

pub id_decides : (a b : ObjectId) → Decides (id_eq a b) (a ≡ b)
id_decides a b = (id_eq-same a b, λ same. (bytes_eq-Decides a.0 b.0).1 (ap (λ (x : ObjectId). x.0) same))

pub told_decides : (a b : Told) → Decides (told_eq a b) (a ≡ b)
told_decides a b = (same, back)
  where
    same : told_eq a b ≡ true → a ≡ b
    same is =
        let parts = and_parts (bytes_eq a.0 b.0) (id_eq a.1 b.1) is in
        let named : List ℕ → Told = λ name. (name, a.1) in
        let valued : ObjectId → Told = λ id. (b.0, id) in
        ap named ((bytes_eq-Decides a.0 b.0).0 parts.0) ∙ ap valued (id_eq-same a.1 b.1 parts.1)

    back : a ≡ b → told_eq a b ≡ true
    back is = and_from (bytes_eq a.0 b.0) (id_eq a.1 b.1) ((bytes_eq-Decides a.0 b.0).1 (ap (λ (t : Told). t.0) is)) ((id_decides a.1 b.1).1 (ap (λ (t : Told). t.1) is))

not_false : (b : Bool) → not b ≡ false → b ≡ true
not_false true is = refl
not_false false is = absurd (true≢false is)

-- what `!=` says of two lists
pub differ : {A : Type 0} {E : A → A → Bool} → ((a b : A) → Decides (E a b) (a ≡ b)) → (xs ys : List A) (r : Bool) → r ≡ not (pointwise E xs ys) → (r ≡ true → xs ≢ ys) × (r ≡ false → xs ≡ ys)
differ {A} {E} decides xs ys r is =
    let decided = slice_eq-Decides {A = A} {E = E} decides xs ys (pointwise E xs ys) refl in
    (λ differs same. true≢false (sym differs ∙ is ∙ ap not (decided.1 same)), λ same. decided.0 (not_false (pointwise E xs ys) (sym is ∙ same)))

pub same_texts : (a b : OpeningText) → a.refs ≡ b.refs → a.head ≡ b.head → a.names ≡ b.names → a ≡ b
same_texts a b by_refs by_head by_names =
    ap (λ (rs : List Told). let o : OpeningText = record { refs = rs; head = a.head; names = a.names } in o) by_refs
    ∙ (ap (λ (h : Option Head). let o : OpeningText = record { refs = b.refs; head = h; names = a.names } in o) by_head
    ∙ ap (λ (ids : List ObjectId). let o : OpeningText = record { refs = b.refs; head = b.head; names = ids } in o) by_names)

-- ---- names in order
below : (x : ObjectId) (xs : List ObjectId) (y : ObjectId) → IsSortedByName (x ∷ xs) → Contains xs y → id_cmp x y ≡ Less
below x xs y sorted among =
    All-contains (λ (z : ObjectId). id_cmp x z ≡ Less) xs y (All-from_recursion (λ (z : ObjectId). id_cmp x z ≡ Less) xs (sorted_head id_cmp x xs sorted)) among

not_below_itself : (x y : ObjectId) → x ≡ y → id_cmp x y ≢ Less
not_below_itself x y same less =
    let tied : id_cmp x y ≡ Equal = subst (λ (z : ObjectId). id_cmp x z ≡ Equal) same (tied_itself id_cmp_total x) in
    let never : Less ≡ Equal = sym less ∙ tied in
    cc never

not_both_below : (x y : ObjectId) → id_cmp x y ≡ Less → id_cmp y x ≢ Less
not_both_below x y less more =
    let never : Less ≡ Greater = sym less ∙ (id_cmp_total.antisymm x y ∙ ap ordering_reverse more) in
    cc never

first_there : (x : ObjectId) (xs : List ObjectId) → Contains (x ∷ xs) x
first_there x xs = (0, omega arith, refl)

none_there : (x : ObjectId) → ¬ Contains [] x
none_there x (k, within, is) = omega arith

-- the first names of two lists that have the same
same_first : (x y : ObjectId) (xs ys : List ObjectId) → IsSortedByName (x ∷ xs) → IsSortedByName (y ∷ ys) → Contains (y ∷ ys) x → Contains (x ∷ xs) y → x ≡ y
same_first x y xs ys one two there here = elim (contains_cons y ys x there) [
  | inl is ↦ sym is
  | inr later ↦ elim (contains_cons x xs y here) [
    | inl is ↦ is
    | inr also ↦ absurd (not_both_below x y (below x xs y one also) (below y ys x two later))
  ]
]

-- a later name of one is a later name of the other
later_there : (x y : ObjectId) (xs ys : List ObjectId) → IsSortedByName (x ∷ xs) → x ≡ y → (id : ObjectId) → (Contains (x ∷ xs) id → Contains (y ∷ ys) id) → Contains xs id → Contains ys id
later_there x y xs ys sorted first id into among = elim (contains_cons y ys id (into (Contains-append_right (x ∷ []) xs id among))) [
  | inl is ↦ absurd (not_below_itself x id (first ∙ is) (below x xs id sorted among))
  | inr there ↦ there
]

pub one_order : (xs ys : List ObjectId) → IsSortedByName xs → IsSortedByName ys → ((id : ObjectId) → Contains xs id ↔ Contains ys id) → xs ≡ ys
one_order [] [] one two same = refl
one_order [] (y ∷ ys) one two same = absurd (none_there y ((same y).1 (first_there y ys)))
one_order (x ∷ xs) [] one two same = absurd (none_there x ((same x).0 (first_there x xs)))
one_order (x ∷ xs) (y ∷ ys) one two same =
    let first : x ≡ y = same_first x y xs ys one two ((same x).0 (first_there x xs)) ((same y).1 (first_there y ys)) in
    let rest : xs ≡ ys = one_order xs ys (sorted_tail id_cmp x xs one) (sorted_tail id_cmp y ys two) (λ id. (later_there x y xs ys one first id (same id).0, later_there y x ys xs two (sym first) id (same id).1)) in
    ap (λ (z : ObjectId). z ∷ xs) first ∙ ap (λ (zs : List ObjectId). y ∷ zs) rest

-- ---- one opening
same_named : (a b : Head) → machine_head a ≡ machine_head b → a ≡ b
same_named (heads.Branch m) (heads.Branch n) is =
    let named : OnBranch m ≡ OnBranch n = is in
    let same : m ≡ n = cc named in
    ap (λ (name : List ℕ). heads.Branch name) same
same_named (heads.Branch m) (heads.Id j) is = let never : OnBranch m ≡ Detached j.0 = is in cc never
same_named (heads.Id i) (heads.Branch n) is = let never : Detached i.0 ≡ OnBranch n = is in cc never
same_named (heads.Id i) (heads.Id j) is =
    let named : Detached i.0 ≡ Detached j.0 = is in
    let same : i.0 ≡ j.0 = cc named in
    ap (λ (bytes : List ℕ). heads.Id (id_of_bytes bytes)) same

same_some : (x y : Named) → Some x ≡ Some y → x ≡ y
same_some x y is = cc is

not_some : (x : Named) → None ≢ Some x
not_some x is = cc is

same_heads : (a b : Option Head) (h : Named) → option_map machine_head a ≡ Some h → option_map machine_head b ≡ Some h → a ≡ b
same_heads None b h one two = absurd (not_some h one)
same_heads (Some a) None h one two = absurd (not_some h two)
same_heads (Some a) (Some b) h one two = ap Some (same_named a b (same_some (machine_head a) (machine_head b) (one ∙ sym two)))

pub one_opening : HaveOneOpening
one_opening a b n one two =
    same_texts a b
    (same_entries (slice_cmp nat_cmp) nat_list_cmp_total bytes_same a.refs b.refs (T_from_true _ one.refs.sorted) (T_from_true _ two.refs.sorted) (λ q. one.refs.each q ∙ sym (two.refs.each q)))
    (same_heads a.head b.head n.repository.head one.head two.head)
    (one_order a.names b.names one.sorted two.sorted (λ (id : ObjectId). (λ there. (two.names id.0).1 ((one.names id.0).0 there), λ there. (one.names id.0).1 ((two.names id.0).0 there))))

-- ---- what files show of the node that they hold
some_of : {A B : Type 0} (f : A → B) (o : Option A) → IsSome (option_map f o) → IsSome o
some_of f None is = is
some_of f (Some x) is = refl

of_some : {A B : Type 0} (f : A → B) (o : Option A) → IsSome o → IsSome (option_map f o)
of_some f None is = is
of_some f (Some x) is = refl

module _ (content : FileMap) (slots : List (Option SessionText)) (is_up : Bool) where
  pub held_opening : (o : OpeningText) → ShowsFiles content o → (n : SharedNode) → HoldsShared content slots is_up n → IsOpening o n
  held_opening o shows n held = record {
    refs = record { sorted = shows.refs.sorted; each = λ name. shows.refs.each name ∙ held.spells.refs name };
    head = ap (option_map machine_head) (shows.head ∙ held.spells.head_shown) ∙ ap Some (sym held.spells.head_is);
    sorted = shows.sorted;
    names = λ x. (found x, named x);
  }
    where
      found : (x : Id) → Contains o.names (id_of_bytes x) → IsSome (get n.repository.objects x)
      found x there = elim (objects-file content (id_of_bytes x) ((shows.names (id_of_bytes x)).0 there)) [
        | inl some ↦ some_of stored_of (get n.repository.objects x) (subst (λ (o : Option StoredObject). IsSome o) (held.spells.objects x) some)
        | inr damaged ↦ absurd (held.clean.objects (id_of_bytes x) damaged)
      ]

      named : (x : Id) → IsSome (get n.repository.objects x) → Contains o.names (id_of_bytes x)
      named x some = (shows.names (id_of_bytes x)).1 (file-objects content (id_of_bytes x) (subst (λ (o : Option StoredObject). IsSome o) (sym (held.spells.objects x)) (of_some stored_of (get n.repository.objects x) some)))

  -- nothing but a fault keeps it from being read
  of_refs : (e : RefFault) → BlamesOpening content (node.Ref e) → (n : SharedNode) → HoldsShared content slots is_up n → IsTrue (is_fault (node.Ref e))
  of_refs (ref.Stale current) (inl never) n held = absurd never
  of_refs (ref.Stale current) (inr never) n held = absurd never.1
  of_refs (ref.Conflict other) (inl never) n held = absurd never
  of_refs (ref.Conflict other) (inr never) n held = absurd never.1
  of_refs (ref.BadRefFile path) (inl blames) n held = absurd (held.clean.refs (string_bytes path) blames.bad)
  of_refs (ref.BadRefFile path) (inr blames) n held = absurd ((held_open content slots is_up n held).head.good blames.1.1)
  of_refs ref.HeadLoop (inl never) n held = absurd never
  of_refs ref.HeadLoop (inr blames) n held = absurd ((held_open content slots is_up n held).head.ends blames.1)
  of_refs (ref.Fault fault) blames n held = refl

  pub only_faults : (e : NodeFault) → BlamesOpening content e → is_up ≡ true → (n : SharedNode) → HoldsShared content slots is_up n → IsTrue (is_fault e)
  only_faults (node.Store (store.BadObject fault)) blames up n held = absurd blames
  only_faults (node.Store (store.Absent id)) blames up n held = absurd blames
  only_faults (node.Store (store.Damaged id)) blames up n held = absurd blames
  only_faults (node.Store (store.Fault fault)) blames up n held = refl
  only_faults (node.Ref e) blames up n held = of_refs e blames n held
  only_faults (node.Missing id) blames up n held = absurd blames
  only_faults (node.NotACommit id) blames up n held = absurd blames
  only_faults node.BadPath blames up n held = absurd blames
  only_faults node.PathConflict blames up n held = absurd blames
  only_faults (node.BadIndex place) blames up n held = absurd blames
  only_faults (node.WrongEntry at) blames up n held = absurd blames
  only_faults node.Down blames up n held = absurd blames
