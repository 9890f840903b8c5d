-- Which objects the refs, HEAD and the index name and reach, as the layers have it and as the machine has it.
use Rattle.std.proofs.Common.{arith, ◌≡◌, ◌≢◌, ℕ, Bool, true, false, cond, List, [], ◌∷◌, ◌++◌, Option, Some, None, Contains, inl, inr, refl, sym, ap, ◌∙◌, subst}
use Rattle.std.specs.Prelude.{filter_map, option_map}
use Rattle.std.specs.FinMap.{entries, find, get, get-entries}
use Rattle.std.specs.List.{AllByRecursion, cons_option}
use Rattle.std.specs.Cmp.Lexicographic.{nat_list_cmp_total, slice_cmp}
use Rattle.std.specs.Ordering.{eq_by_cmp, nat_cmp}
use Rattle.std.proofs.lemmas.List.Elements.{Contains-append_cases, Contains-append_left, Contains-append_right}
use Rattle.std.proofs.lemmas.Option.{none-some, same_Some}
use Rattle.vc_files.specs.FileMap.{FileMap}
use Rattle.vc_format.specs.Git.{id_of_bytes}
use Rattle.vc_index.specs.IndexMap.{IndexMap}
use Rattle.vc_index.specs.declared.entry.IndexEntry.{IndexEntry}
use Rattle.vc_lemmas.proofs.Lists.{some_of}
use Rattle.vc_local.proofs.IndexLemmas.{spells_index}
use Rattle.vc_local.specs.Machine.{Spells, machine_head}
use Rattle.vc_local.specs.Shown.{shown}
use Rattle.vc_model.proofs.Commits.{contains_cons}
use Rattle.vc_model.proofs.Entries.{all_entries}
use Rattle.vc_model.specs.Clone.{IsReached}
use Rattle.vc_model.specs.Object.{Id, stored}
use Rattle.vc_model.specs.Refs.Head.{Detached}
use Rattle.vc_model.specs.Repository.{Entry, Repository, gitlink}
use Rattle.vc_model.specs.Repository as machine
use Rattle.vc_object.specs.declared.id.ObjectId.{ObjectId}
use Rattle.vc_object.specs.declared.mode.Mode.{Mode}
use Rattle.vc_object.specs.declared.mode.Mode.TheVariants as modes
use Rattle.vc_object_map.specs.Graph.{AreExactly}
use Rattle.vc_object_map.specs.Store.{objects}
use Rattle.vc_pack.specs.Answer.{IsRefValue}
use Rattle.vc_refs.specs.Head.{head_of}
use Rattle.vc_refs.specs.declared.heads.Head.{Head}
use Rattle.vc_refs.specs.declared.heads.Head.TheVariants as heads
use Rattle.vc_rules.proofs.RefLemmas.{that_id}
use Rattle.vc_rules.specs.Git.{git, mode_number}
use Rattle.vc_values.specs.Trees.{machine_entry}
use Rattle.vc_pruning.proofs.KeptLemmas.{Knows, knows_walk}
use Rattle.vc_pruning.specs.Roots.{AreNeeded, IsRoot, IsStaged, staged_id, staged_in}

-- ---- the files of the index
staged_from : (m : IndexMap) (es : List (List ℕ × IndexEntry)) → AllByRecursion (λ e. get m e.0 ≡ Some e.1) es → (id : ObjectId) → Contains (filter_map staged_in es) id → IsStaged m id
staged_from m [] found id h = absurd (omega (arith, h.1))
staged_from m (e ∷ es) found id h = by (staged_from m es found.1 id) (staged_in e) refl h
  where
    by : (Contains (filter_map staged_in es) id → IsStaged m id) → (o : Option ObjectId) → staged_in e ≡ o → Contains (cons_option o (filter_map staged_in es)) id → IsStaged m id
    by rest None none later = rest later
    by rest (Some v) some among = elim (contains_cons v (filter_map staged_in es) id among) [
      | inl is ↦ record { path = e.0; entry = e.1; found = found.0; names = some ∙ ap Some is }
      | inr later ↦ rest later
    ]

staged_to : (es : List (List ℕ × IndexEntry)) (path : List ℕ) (entry : IndexEntry) (id : ObjectId) → find (slice_cmp nat_cmp) path es ≡ Some entry → staged_id entry.mode entry.id ≡ Some id → Contains (filter_map staged_in es) id
staged_to [] path entry id found names = absurd (none-some entry found)
staged_to (e ∷ es) path entry id found names = by (λ later. staged_to es path entry id later names) (eq_by_cmp (slice_cmp nat_cmp) path e.0) found
  where
    more : (o : Option ObjectId) → Contains (filter_map staged_in es) id → Contains (cons_option o (filter_map staged_in es)) id
    more None h = h
    more (Some v) h = Contains-append_right (v ∷ []) (filter_map staged_in es) id h

    by : (find (slice_cmp nat_cmp) path es ≡ Some entry → Contains (filter_map staged_in es) id) → (t : Bool) → cond t (Some e.1) (find (slice_cmp nat_cmp) path es) ≡ Some entry → Contains (filter_map staged_in (e ∷ es)) id
    by rest true here =
        let is : e.1 ≡ entry = same_Some e.1 entry here in
        subst (λ o. Contains (cons_option o (filter_map staged_in es)) id) (sym (ap (λ (x : IndexEntry). staged_id x.mode x.id) is ∙ names)) (0, omega arith, refl)
    by rest false later = more (staged_in e) (rest later)

-- the values of refs, a detached HEAD and then the ids of the index are the roots
pub roots_exact : (content : FileMap) (m : IndexMap) (values ids : List ObjectId) → ((id : ObjectId) → (Contains values id → IsRefValue content id) × (IsRefValue content id → Contains values id)) → ids ≡ values ++ filter_map staged_in (entries m)
    → AreExactly (IsRoot content m) ids
roots_exact content m values ids exact is id = (
  λ h.
      elim (Contains-append_cases values (filter_map staged_in (entries m)) id (subst (λ l. Contains l id) is h)) [
        | inl value ↦ inl ((exact id).0 value)
        | inr staged ↦ inr (staged_from m (entries m) (all_entries nat_list_cmp_total (λ e. get m e.0 ≡ Some e.1) m (λ k x found. found)) id staged)
      ],
  λ root. subst (λ l. Contains l id) (sym is) (elim root [
    | inl value ↦ Contains-append_left values (filter_map staged_in (entries m)) id ((exact id).1 value)
    | inr staged ↦ Contains-append_right values (filter_map staged_in (entries m)) id (staged_to (entries m) staged.path staged.entry id (sym (get-entries m staged.path) ∙ staged.found) staged.names)
  ]),
)

-- ---- as the machine has it

-- what is no commit of another repository is named
own_named : (mode : Mode) (id : ObjectId) → mode_number mode ≢ gitlink → staged_id mode id ≡ Some id
own_named modes.Tree id own = refl
own_named modes.File id own = refl
own_named modes.SharedFile id own = refl
own_named modes.Executable id own = refl
own_named modes.Link id own = refl
own_named modes.Commit id own = absurd (own refl)

named_own : (mode : Mode) (id other : ObjectId) → staged_id mode id ≡ Some other → (mode_number mode ≢ gitlink) × (id ≡ other)
named_own modes.Tree id other names = (λ e. absurd (omega (arith, e)), same_Some id other names)
named_own modes.File id other names = (λ e. absurd (omega (arith, e)), same_Some id other names)
named_own modes.SharedFile id other names = (λ e. absurd (omega (arith, e)), same_Some id other names)
named_own modes.Executable id other names = (λ e. absurd (omega (arith, e)), same_Some id other names)
named_own modes.Link id other names = (λ e. absurd (omega (arith, e)), same_Some id other names)
named_own modes.Commit id other names = absurd (none-some other names)

module _ (content : FileMap) (r : Repository) (spells : Spells (shown content) r) where
  head_to : (head : Head) (x : Id) → head_of content ≡ Some head → machine_head head ≡ Detached x → head_of content ≡ Some (heads.Id (id_of_bytes x))
  head_to (heads.Branch name) x is detached = absurd (cc detached)
  head_to (heads.Id id) x is detached = let same : id.0 ≡ x = cc detached in is ∙ ap (λ bytes. Some (heads.Id (id_of_bytes bytes))) same

  entry_to : (path : List ℕ) (e : Entry) (x : Id) (found : Option IndexEntry) → get spells.map path ≡ found → option_map machine_entry found ≡ Some e → e.mode ≢ gitlink → e.id ≡ x → IsStaged spells.map (id_of_bytes x)
  entry_to path e x None at is own names = absurd (none-some e is)
  entry_to path e x (Some entry) at is own names =
      let same : machine_entry entry ≡ e = same_Some (machine_entry entry) e is in
      let id : entry.id ≡ id_of_bytes x = ap (λ (y : Entry). id_of_bytes y.id) same ∙ ap id_of_bytes names in
      record {
        path = path;
        entry = entry;
        found = at;
        names = own_named entry.mode entry.id (λ commit. own (sym (ap (λ (y : Entry). y.mode) same) ∙ commit)) ∙ ap Some id;
      }

  root_to : (x : Id) → machine.IsRoot r x → IsRoot content spells.map (id_of_bytes x)
  root_to x (inl (name, is)) = inl (inl (name, spells.refs name ∙ ap (option_map id_of_bytes) is))
  root_to x (inr (inl detached)) = inl (inr (head_to spells.head x spells.head_shown (sym spells.head_is ∙ detached)))
  root_to x (inr (inr (path, e, found, own, names))) = inr (entry_to path e x (get spells.map path) refl (sym (spells.index path) ∙ found) own names)

  root_from : (id : ObjectId) → IsRoot content spells.map id → machine.IsRoot r id.0
  root_from id (inl (inl (name, is))) = inl (name, that_id (get r.refs name) id.0 (sym (spells.refs name) ∙ is))
  root_from id (inl (inr detached)) =
      let same : spells.head ≡ heads.Id id = same_Some spells.head (heads.Id id) (sym spells.head_shown ∙ detached) in
      inr (inl (spells.head_is ∙ ap machine_head same))
  root_from id (inr staged) =
      let own = named_own staged.entry.mode staged.entry.id id staged.names in
      inr (inr (staged.path, machine_entry staged.entry, spells.index staged.path ∙ ap (option_map machine_entry) staged.found, own.0, ap (λ (i : ObjectId). i.0) own.1))

-- what refs, HEAD and the index need is known by the names that are found
pub knows_reached : (content : FileMap) (r : Repository) (kept : List ObjectId) → Spells (shown content) r → AreNeeded content kept → Knows (IsReached git r) r.objects kept
knows_reached content r kept spells needed =
    let exact = needed.are_roots.exact spells.map (spells_index content r spells) in
    knows_walk (objects content) (stored r.objects) spells.objects needed.roots kept needed.exact (machine.IsRoot r)
    (λ x. (λ root. (exact (id_of_bytes x)).1 (root_to content r spells x root), λ among. root_from content r spells (id_of_bytes x) ((exact (id_of_bytes x)).0 among)))
    r.objects (λ x o is. some_of (get r.objects x) o is)
