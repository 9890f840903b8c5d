-- What a tree is read as: one answer at most, and how a walk comes to it.
use Rattle.std.proofs.Common.{◌≡◌, ◌≢◌, ℕ, ◌<◌, ◌≤◌, List, ◌∷◌, ◌++◌, map, reverse, Option, Some, None, Result, Ok, Err, refl, ap, sym, ◌∙◌, subst, ⊎_elim, ◌⊎◌, inl, inr, append_assoc, length, arith, ◌↔◌, []}
use Rattle.std.specs.Prelude.{IfOk, IfErr, MatchResult, unwrap_or}
use Rattle.std.specs.List.{AllByRecursion, join_with_byte}
use Rattle.std.specs.FinMap.{get, same_map, slice_cmp-IsAntisymmetric, nat_cmp-IsAntisymmetric}
use Rattle.std.specs.Cmp.Lexicographic.{nat_list_cmp_total}
use Rattle.std.proofs.lemmas.List.{reverse-append, reverse-reverse, map-append}
use Rattle.vc_files.specs.FileMap.{FileMap}
use Rattle.vc_object.specs.Decoding.{StoredObject, stored_object}
use Rattle.vc_object.specs.Entries.{entries_of}
use Rattle.vc_object.specs.ObjectMap.{ObjectMap}
use Rattle.vc_object.specs.Tree.{Entry, IsEntry, IsName}
use Rattle.vc_object.specs.declared.id.ObjectId.{ObjectId}
use Rattle.vc_object.specs.declared.kind.Kind.{Kind}
use Rattle.vc_object.specs.declared.kind.Kind.TheVariants as kinds
use Rattle.vc_object.specs.declared.mode.Mode.{Mode}
use Rattle.vc_object.specs.declared.mode.Mode.TheVariants as modes
use Rattle.vc_object_map.specs.Store.{objects}
use Rattle.vc_index.specs.HeldFiles.{Pair, under, placed}
use Rattle.vc_index.specs.IndexMap.{IndexMap, index_entry}
use Rattle.vc_index.specs.Loading.{ReachesEntry, IsEntryOfTree, IsOpened, IsDue, IsDueIn, IsSought, IsBlobIfDue, IsOfLook, item_pair}
use Rattle.vc_index.specs.TreeFiles.{IsTreeAt, HasEntry, IsFileOfTree}
use Rattle.vc_index.specs.TreeReading.{TreeFault, HasFaultIn, IsSoundIn, AreInside, MeetsFaultIn, IsCompleteIn, ReadsIn, ReadsAs, tree_fault}
use Rattle.vc_index.specs.TreeReading.TreeFault.{LongPath, OtherKind, NoObject}
use Rattle.vc_index.specs.declared.entry.IndexEntry.{IndexEntry}
use Rattle.vc_index.specs.declared.faults.IndexFault.{IndexFault}
use Rattle.vc_index.specs.declared.faults.IndexFault.TheVariants.{BadPath, PathConflict, BadIndex, WrongEntry, Missing, Store}
use Rattle.vc_index.specs.declared.loading.Item.{Item}
use Rattle.vc_index.specs.declared.loading.Look.{Look}
use Rattle.vc_index.specs.declared.loading.Look.TheVariants as looks
use Rattle.vc_index.proofs.FileLemmas.{one_tree}
use Rattle.vc_index.proofs.LoadLemmas.{all_reverse, entry_below, sought_if_due}
use Rattle.vc_index.proofs.PartLemmas.{all_parts}
use Rattle.vc_lemmas.proofs.Lists.{all_append}

-- ---- one answer

none_some : {X : Type 0} (o : Option X) (x : X) → o ≡ None → o ≡ Some x → ⊥
none_some o x a b = let e : None ≡ Some x = sym a ∙ b in cc e

same_kind : (k : Kind) (body : List ℕ) (found : Option StoredObject) (object : StoredObject) → found ≡ Some (stored_object k body) → found ≡ Some object → object.kind ≡ k
same_kind k body found object a b = ap (λ (o : Option StoredObject). (unwrap_or o object).kind) (sym b ∙ a)

any_due : (mode : Mode) → mode ≢ modes.Commit → (kind : Kind) × IsDue mode kind
any_due modes.Tree other = (kinds.Tree, refl)
any_due modes.File other = (kinds.Blob, refl)
any_due modes.SharedFile other = (kinds.Blob, refl)
any_due modes.Executable other = (kinds.Blob, refl)
any_due modes.Link other = (kinds.Blob, refl)
any_due modes.Commit other = absurd (other refl)

some_due : (look : Look) (mode : Mode) → IsSought look mode → (kind : Kind) × IsDueIn look mode kind
some_due looks.Trees mode tree = (kinds.Tree, (tree, refl))
some_due looks.All mode other = any_due mode other

module _ (look : Look) (objects : ObjectMap) where
  one_fault : (e : Pair) (f g : TreeFault) → HasFaultIn look objects e f → HasFaultIn look objects e g → f ≡ g
  one_fault e LongPath LongPath a b = refl
  one_fault e LongPath (OtherKind q) a b = absurd (let n = b.0 in omega (arith, a, n))
  one_fault e LongPath (NoObject j) a b = absurd (let n = b.0 in omega (arith, a, n))
  one_fault e (OtherKind p) LongPath a b = absurd (let n = a.0 in omega (arith, b, n))
  one_fault e (OtherKind p) (OtherKind q) a b = ap OtherKind (a.1 ∙ sym b.1)
  one_fault e (OtherKind p) (NoObject j) a b = absurd (none_some (objects e.1.id) a.3 b.3 a.5)
  one_fault e (NoObject i) LongPath a b = absurd (let n = a.0 in omega (arith, b, n))
  one_fault e (NoObject i) (OtherKind q) a b = absurd (none_some (objects e.1.id) b.3 a.3 b.5)
  one_fault e (NoObject i) (NoObject j) a b = ap NoObject (a.1 ∙ sym b.1)

  pub no_fault : (e : Pair) (f : TreeFault) → IsSoundIn look objects e → HasFaultIn look objects e f → ⊥
  no_fault e LongPath s h = let n = s.short in omega (arith, h, n)
  no_fault e (OtherKind p) s h = let o = s.object h.2 h.4 in h.6 (same_kind h.2 o.0 (objects e.1.id) h.3 o.1 h.5)
  no_fault e (NoObject i) s h = let k = some_due look e.1.mode h.2 in let o = s.object k.0 k.1 in none_some (objects e.1.id) (stored_object k.0 o.0) h.3 o.1

  one_inside : (e : Pair) (a b : List Pair) → AreInside objects e a → AreInside objects e b → a ≡ b
  one_inside e a b (inl x) (inl y) = x.3 ∙ ap (map (placed (under e.0))) (one_tree objects e.1.id x.1 y.1 x.2 y.2) ∙ sym y.3
  one_inside e a b (inl x) (inr y) = absurd (y.0 x.0)
  one_inside e a b (inr x) (inl y) = absurd (x.0 y.0)
  one_inside e a b (inr x) (inr y) = x.1 ∙ sym y.1

  same_first : (x y : Pair) (xs ys : List Pair) → x ∷ xs ≡ y ∷ ys → x ≡ y
  same_first x y xs ys e = ap (λ (l : List Pair). first l) e
    where
      first : List Pair → Pair
      first [] = x
      first (z ∷ zs) = z

  same_rest : (x y : Pair) (xs ys : List Pair) → x ∷ xs ≡ y ∷ ys → xs ≡ ys
  same_rest x y xs ys e = ap (λ (l : List Pair). rest l) e
    where
      rest : List Pair → List Pair
      rest [] = []
      rest (z ∷ zs) = zs

  one_meeting : (p q : List Pair) (es : List Pair) (f g : TreeFault) → MeetsFaultIn look objects p es f → MeetsFaultIn look objects q es g → f ≡ g
  one_meeting [] [] es f g a b = one_fault a.0 f g a.3 (subst (λ (e : Pair). HasFaultIn look objects e g) (same_first b.0 a.0 b.1 a.1 (sym b.2 ∙ a.2)) b.3)
  one_meeting [] (y ∷ q) es f g a b = absurd (no_fault y f b.3 (subst (λ (e : Pair). HasFaultIn look objects e f) (same_first a.0 y a.1 b.1 (sym a.2 ∙ b.2)) a.3))
  one_meeting (x ∷ p) [] es f g a b = absurd (no_fault x g a.3 (subst (λ (e : Pair). HasFaultIn look objects e g) (same_first b.0 x b.1 a.1 (sym b.2 ∙ a.2)) b.3))
  one_meeting (x ∷ p) (y ∷ q) es f g a b =
      let whole = sym b.2 ∙ a.2 in
      let inside = one_inside x b.0 a.0 (subst (λ (e : Pair). AreInside objects e b.0) (same_first y x b.1 a.1 whole) b.4) a.4 in
      let next : b.0 ++ b.1 ≡ a.0 ++ a.1 = ap (λ l. l ++ b.1) inside ∙ ap (λ l. a.0 ++ l) (same_rest y x b.1 a.1 whole) in
      one_meeting p q (a.0 ++ a.1) f g a.5 (subst (λ (l : List Pair). MeetsFaultIn look objects q l g) next b.5)

  module _ (root : ObjectId) where
    abbrev IsInTree : Pair → Type 0
    IsInTree e = IsEntryOfTree objects root e.0 e.1.mode e.1.id

    all_in : (path : List ℕ) (id : ObjectId) (es gs : List Entry) → IsEntryOfTree objects root path modes.Tree id → IsTreeAt objects id es → ((e : Entry) → HasEntry gs e.mode e.name e.id → HasEntry es e.mode e.name e.id)
        → AllByRecursion IsInTree (map (placed (under path)) gs)
    all_in path id es [] top at inside = tt
    all_in path id es (g ∷ gs) top at inside = (entry_below objects root path id es g.mode g.name g.id top at (inside g (inl (refl, refl, refl))), all_in path id es gs top at (λ e h. inside e (inr h)))

    -- a tree of which all is there has no fault
    none_met : IsCompleteIn look objects root → (p es : List Pair) (f : TreeFault) → AllByRecursion IsInTree es → MeetsFaultIn look objects p es f → ⊥
    none_met whole [] es f all m =
        let here = (subst (AllByRecursion IsInTree) m.2 all).0 in
        no_fault m.0 f (whole m.0.0 m.0.1.mode m.0.1.id here) m.3
    none_met whole (x ∷ p) es f all m =
        let parts = subst (AllByRecursion IsInTree) m.2 all in
        none_met whole p (m.0 ++ m.1) f (all_append IsInTree m.0 m.1 (inside x m.0 parts.0 m.4) parts.1) m.5
      where
        inside : (x : Pair) (l : List Pair) → IsInTree x → AreInside objects x l → AllByRecursion IsInTree l
        inside x l there (inl t) = subst (AllByRecursion IsInTree) (sym t.3) (all_in x.0 x.1.id t.1 t.1 (subst (λ (k : Mode). IsEntryOfTree objects root x.0 k x.1.id) t.0 there) t.2 (λ e h. h))
        inside x l there (inr t) = subst (AllByRecursion IsInTree) (sym t.1) tt

    same_files : (m n : IndexMap) (path : List ℕ) (a b : Option IndexEntry) → get m path ≡ a → get n path ≡ b
        → ((path : List ℕ) (mode : Mode) (id : ObjectId) → IsFileOfTree objects root path mode id ↔ (get m path ≡ Some (index_entry mode id)))
        → ((path : List ℕ) (mode : Mode) (id : ObjectId) → IsFileOfTree objects root path mode id ↔ (get n path ≡ Some (index_entry mode id)))
        → get m path ≡ get n path
    same_files m n path None None at bt f g = at ∙ sym bt
    same_files m n path (Some v) b at bt f g = at ∙ sym ((g path v.mode v.id).0 ((f path v.mode v.id).1 at))
    same_files m n path None (Some w) at bt f g = absurd (none_some (get m path) w at ((f path w.mode w.id).0 ((g path w.mode w.id).1 bt)))

    -- a tree is read as one index, or has one first fault
    one_reading_in : (v w : Result IndexMap TreeFault) → ReadsIn look objects root v → ReadsIn look objects root w → v ≡ w
    one_reading_in (Ok m) (Ok n) a b = ap Ok (same_map nat_list_cmp_total (slice_cmp-IsAntisymmetric nat_cmp-IsAntisymmetric) m n (λ q. same_files m n q (get m q) (get n q) refl refl a.1 b.1))
    one_reading_in (Ok m) (Err g) a b = absurd (none_met a.0 b.0 (([], index_entry modes.Tree root) ∷ []) g (inl (refl, refl, refl), tt) b.1)
    one_reading_in (Err f) (Ok n) a b = absurd (none_met b.0 a.0 (([], index_entry modes.Tree root) ∷ []) f (inl (refl, refl, refl), tt) a.1)
    one_reading_in (Err f) (Err g) a b = ap Err (one_meeting a.0 b.0 (([], index_entry modes.Tree root) ∷ []) f g a.1 b.1)

    -- the same for a call's result
    pub only_reading : (result : Result IndexMap IndexFault) → IfOk result (λ index. ReadsIn look objects root (Ok index)) → IfErr result (λ e. (fault : TreeFault) → tree_fault e ≡ Some fault → ReadsIn look objects root (Err fault))
        → (v : Result IndexMap TreeFault) → ReadsIn look objects root v → MatchResult result (λ index. v ≡ Ok index) (λ e. (fault : TreeFault) → tree_fault e ≡ Some fault → v ≡ Err fault)
    only_reading (Ok index) a b v r = one_reading_in v (Ok index) r a
    only_reading (Err e) a b v r = λ fault is. one_reading_in v (Err fault) r (b fault is)

-- the same where all that the entries name is looked for
pub one_reading : (objects : ObjectMap) (root : ObjectId) (v w : Result IndexMap TreeFault) → ReadsAs objects root v → ReadsAs objects root w → v ≡ w
one_reading objects root v w a b = one_reading_in looks.All objects root v w a b

-- ---- how a walk comes to the answer

-- the entry itself, or one of its tree and of the trees below
abbrev pub IsAt : ObjectMap → Pair → List ℕ → Mode → ObjectId → Type 0
IsAt objects e path mode id =
    ((path ≡ e.0) × (mode ≡ e.1.mode) × (id ≡ e.1.id))
    ⊎ ((e.1.mode ≡ modes.Tree) × (entries : List Entry) × (names : List (List ℕ)) × IsTreeAt objects e.1.id entries × (path ≡ under e.0 ++ join_with_byte 47 names) × ReachesEntry objects entries names mode id)

-- it and all below are sound
pub record IsWhole (look : Look) (objects : ObjectMap) (e : Pair) : Type 0 where
  pub sound : (path : List ℕ) (mode : Mode) (id : ObjectId) → IsAt objects e path mode id → IsSoundIn look objects (path, index_entry mode id)

-- what was passed so far: where these items, the next one last, are whole, so is the tree; and a fault that is met from
-- there on is the first one
pub record Walks (look : Look) (objects : ObjectMap) (root : ObjectId) (items : List Pair) : Type 0 where
  pub whole : AllByRecursion (IsWhole look objects) items → IsCompleteIn look objects root
  pub meets : (fault : TreeFault) (passed : List Pair) → MeetsFaultIn look objects passed (reverse items) fault → ReadsIn look objects root (Err fault)

turned : (items : List Pair) (e : Pair) → reverse (items ++ e ∷ []) ≡ e ∷ reverse items
turned items e = reverse-append items (e ∷ [])

under_name : (folder name : List ℕ) → name ≢ [] → under (folder ++ name) ≡ folder ++ (name ++ 47 ∷ [])
under_name [] [] some = absurd (some refl)
under_name [] (x ∷ name) some = refl
under_name (y ∷ folder) name some = append_assoc (y ∷ folder) name (47 ∷ [])

name_some : (es : List Entry) (m : Mode) (name : List ℕ) (i : ObjectId) → AllByRecursion IsEntry es → HasEntry es m name i → name ≢ []
name_some [] m name i a h = absurd h
name_some (e ∷ es) m name i a h = ⊎_elim (λ here. (subst IsName here.1 a.0.name).some) (λ there. name_some es m name i a.1 there) h

module _ (look : Look) (objects : ObjectMap) (root : ObjectId) where
  pub walk_start : Walks look objects root (([], index_entry modes.Tree root) ∷ [])
  walk_start = record {
    whole = λ all path mode id. λ entry. all.0.sound path mode id (top path mode id entry);
    meets = λ fault passed m. (passed, m);
  }
    where
      top : (path : List ℕ) (mode : Mode) (id : ObjectId) → IsEntryOfTree objects root path mode id → IsAt objects ([], index_entry modes.Tree root) path mode id
      top path mode id (inl here) = inl here
      top path mode id (inr below) = inr (refl, below.0, below.1, below.2, below.3, below.4)

  module _ (items : List Pair) (path : List ℕ) (entry : IndexEntry) (w : Walks look objects root (items ++ (path, entry) ∷ [])) where
    pub walk_fault : (fault : TreeFault) → HasFaultIn look objects (path, entry) fault → ReadsIn look objects root (Err fault)
    walk_fault fault h = w.meets fault [] ((path, entry), reverse items, turned items (path, entry), h)

    itself_sound : IsSoundIn look objects (path, entry) → (q : List ℕ) (mode : Mode) (id : ObjectId) → (q ≡ path) × (mode ≡ entry.mode) × (id ≡ entry.id) → IsSoundIn look objects (q, index_entry mode id)
    itself_sound s q mode id same = subst (IsSoundIn look objects) (λ i. (sym same.0 i, index_entry (sym same.1 i) (sym same.2 i))) s

    pub walk_file : entry.mode ≢ modes.Tree → IsSoundIn look objects (path, entry) → Walks look objects root items
    walk_file file s = record {
      whole = λ all. w.whole (all_append (IsWhole look objects) items ((path, entry) ∷ []) all (record { sound = λ q mode id at. ⊎_elim (λ here. itself_sound s q mode id here) (λ tree. absurd (file tree.0)) at }, tt));
      meets = λ fault passed m. w.meets fault ((path, entry) ∷ passed) ([], reverse items, turned items (path, entry), s, inr (file, refl), m);
    }

    -- one of the entries of a folder is whole where all are
    one_whole : (folder : List ℕ) (es : List Entry) (mode : Mode) (name : List ℕ) (id : ObjectId) → HasEntry es mode name id → AllByRecursion (IsWhole look objects) (map (placed folder) es) → IsWhole look objects (folder ++ name, index_entry mode id)
    one_whole folder [] mode name id h all = absurd h
    one_whole folder (e ∷ es) mode name id h all = ⊎_elim
        (λ here. subst (IsWhole look objects) (λ i. (folder ++ here.1 i, index_entry (here.0 i) (here.2 i))) all.0)
        (λ there. one_whole folder es mode name id there all.1)
        h

    pub walk_folder : (es : List Entry) (more : List Pair) → entry.mode ≡ modes.Tree → IsSoundIn look objects (path, entry) → IsTreeAt objects entry.id es → more ≡ reverse (map (placed (under path)) es) → Walks look objects root (items ++ more)
    walk_folder es more tree s at is = record {
      whole = λ all.
          let parts = all_parts (IsWhole look objects) items more all in
          let inside = subst (AllByRecursion (IsWhole look objects)) back (all_reverse (IsWhole look objects) more parts.1) in
          w.whole (all_append (IsWhole look objects) items ((path, entry) ∷ []) parts.0 (record { sound = λ q mode id a. ⊎_elim (λ here. itself_sound s q mode id here) (λ t. below inside q mode id t.2 (subst (λ (gs : List Entry). ReachesEntry objects gs t.2 mode id) (one_tree objects entry.id t.1 es t.3 at) t.5) t.4) a }, tt));
      meets = λ fault passed m. w.meets fault ((path, entry) ∷ passed)
          (map (placed (under path)) es, reverse items, turned items (path, entry), s, inl (tree, es, at, refl), subst (λ (l : List Pair). MeetsFaultIn look objects passed l fault) (reverse-append items more ∙ ap (λ l. l ++ reverse items) back) m);
    }
      where
        back : reverse more ≡ map (placed (under path)) es
        back = ap reverse is ∙ reverse-reverse (map (placed (under path)) es)

        below : AllByRecursion (IsWhole look objects) (map (placed (under path)) es) → (q : List ℕ) (mode : Mode) (id : ObjectId) (names : List (List ℕ)) → ReachesEntry objects es names mode id → q ≡ under path ++ join_with_byte 47 names → IsSoundIn look objects (q, index_entry mode id)
        below all q mode id [] r e = absurd r
        below all q mode id (name ∷ []) r e = (one_whole (under path) es mode name id r all).sound q mode id (inl (e, refl, refl))
        below all q mode id (name ∷ next ∷ names) r e =
            (one_whole (under path) es modes.Tree name r.0 r.2 all).sound q mode id (inr (
              refl,
              r.1,
              next ∷ names,
              r.3,
              e ∙ sym (append_assoc (under path) (name ++ 47 ∷ []) _ ∙ ap (λ t. under path ++ t) (append_assoc name (47 ∷ []) _)) ∙ ap (λ t. t ++ join_with_byte 47 (next ∷ names)) (sym (under_name (under path) name (name_some es modes.Tree name r.0 at.tree.legal r.2))),
              r.4,
            ))

  pub walk_ends : (items : List Pair) → items ≡ [] → Walks look objects root items → IsCompleteIn look objects root
  walk_ends items none w = w.whole (subst (AllByRecursion (IsWhole look objects)) (sym none) tt)

-- ---- the code's looks

due_is_tree : (look : Look) (mode : Mode) (kind : Kind) → mode ≡ modes.Tree → IsDueIn look mode kind → kind ≡ kinds.Tree
due_is_tree looks.Trees mode kind tree due = due.1
due_is_tree looks.All mode kind tree due = subst (λ (m : Mode). IsDue m kind) tree due

pub sound_tree : (look : Look) (objects : ObjectMap) (path : List ℕ) (entry : IndexEntry) (body : List ℕ) (es : List Entry) → length path ≤ 4096 → entry.mode ≡ modes.Tree → objects entry.id ≡ Some (stored_object kinds.Tree body) → IsTreeAt objects entry.id es → IsSoundIn look objects (path, entry)
sound_tree look objects path entry body es short tree at there = record {
  short = short;
  object = λ kind due. let k = due_is_tree look entry.mode kind tree due in (body, subst (λ (j : Kind). objects entry.id ≡ Some (stored_object j body)) (sym k) at);
  tree = λ _. (es, there);
}

due_is_blob : (mode : Mode) (kind : Kind) → mode ≢ modes.Tree → IsDue mode kind → (mode ≢ modes.Commit) × (kind ≡ kinds.Blob)
due_is_blob modes.Tree kind other due = absurd (other refl)
due_is_blob modes.File kind other due = (λ e. cc e, due)
due_is_blob modes.SharedFile kind other due = (λ e. cc e, due)
due_is_blob modes.Executable kind other due = (λ e. cc e, due)
due_is_blob modes.Link kind other due = (λ e. cc e, due)
due_is_blob modes.Commit kind other due = absurd due

-- a file whose blob is there where all is looked for
pub sound_file : (look : Look) (objects : ObjectMap) (path : List ℕ) (entry : IndexEntry) → length path ≤ 4096 → entry.mode ≢ modes.Tree → (look ≡ looks.All → IsBlobIfDue objects entry) → IsSoundIn look objects (path, entry)
sound_file looks.Trees objects path entry short file blob = record {
  short = short;
  object = λ kind due. absurd (file due.0);
  tree = λ is. absurd (file is);
}
sound_file looks.All objects path entry short file blob = record {
  short = short;
  object = λ kind due.
      let k = due_is_blob entry.mode kind file due in
      let b = blob refl k.0 in
      (b.0, subst (λ (j : Kind). objects entry.id ≡ Some (stored_object j b.0)) (sym k.1) b.1);
  tree = λ is. absurd (file is);
}

module _ (look : Look) (honest : Type 0) (content : FileMap) (root : ObjectId) (item : Item) (items : List Pair) (kind : Kind) (h : honest) (w : Walks look (objects content) root (items ++ item_pair item ∷ [])) (short : length item.path.items ≤ 4096) (due : IsDueIn look item.entry.mode kind) where
  -- a refusal of a look is the first fault
  pub look_first : (e : IndexFault) → IsOfLook honest content kind item e → (fault : TreeFault) → tree_fault e ≡ Some fault → ReadsIn look (objects content) root (Err fault)
  look_first BadPath why fault is = absurd why
  look_first PathConflict why fault is = absurd why
  look_first (BadIndex place) why fault is = absurd why
  look_first (WrongEntry at) why fault is =
      let o = why.1 h in
      let told : OtherKind at.items ≡ fault = cc is in
      subst (λ (f : TreeFault). ReadsIn look (objects content) root (Err f)) told (walk_fault look (objects content) root items item.path.items item.entry w (OtherKind at.items) (short, why.0, kind, o.0, due, o.1, o.2))
  look_first (Missing id) why fault is =
      let told : NoObject id ≡ fault = cc is in
      subst (λ (f : TreeFault). ReadsIn look (objects content) root (Err f)) told (walk_fault look (objects content) root items item.path.items item.entry w (NoObject id) (short, why.0, sought_if_due look item.entry.mode kind due, subst (λ (i : ObjectId). objects content i ≡ None) why.0 (why.1 h)))
  look_first (Store fault) why f is = absurd (let e : None ≡ Some f = is in cc e)

-- a path that is too long is the first fault
pub long_first : (look : Look) (content : FileMap) (root : ObjectId) (items : List Pair) (path : List ℕ) (entry : IndexEntry) → Walks look (objects content) root (items ++ (path, entry) ∷ []) → 4096 < length path → (fault : TreeFault) → tree_fault BadPath ≡ Some fault → ReadsIn look (objects content) root (Err fault)
long_first look content root items path entry w long fault is =
    let told : LongPath ≡ fault = let e : Some LongPath ≡ Some fault = is in cc e in
    subst (λ (f : TreeFault). ReadsIn look (objects content) root (Err f)) told (walk_fault look (objects content) root items path entry w LongPath long)

-- a folder was opened
pub walk_opened : (look : Look) (honest : Type 0) (content : FileMap) (root : ObjectId) (item : Item) (items new : List Item) → IsOpened honest content item items new → honest → item.entry.mode ≡ modes.Tree → length item.path.items ≤ 4096
    → Walks look (objects content) root (map item_pair items ++ item_pair item ∷ []) → Walks look (objects content) root (map item_pair new)
walk_opened look honest content root item items new o h tree short w =
    let at : IsTreeAt (objects content) item.entry.id (entries_of o.body) = record { stored = o.stored h ∙ ap (λ b. Some (stored_object kinds.Tree b)) (sym o.spelled); tree = o.tree } in
    let s = sound_tree look (objects content) item.path.items item.entry o.body (entries_of o.body) short tree (o.stored h) at in
    subst (Walks look (objects content) root) (sym (ap (map item_pair) o.is ∙ map-append item_pair items o.more))
    (walk_folder look (objects content) root (map item_pair items) item.path.items item.entry w (entries_of o.body) (map item_pair o.more) tree s at o.entries)
