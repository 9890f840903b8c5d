-- The machine's answers to the loading of a tree.
use Rattle.std.proofs.Common.{◌≡◌, ◌⊎◌, inl, inr, ℕ, cond, List, ◌∷◌, map, Some, Result, Ok, Err, refl, sym, ap, ◌∙◌, subst, []}
use Rattle.std.specs.Prelude.{option_map}
use Rattle.std.specs.FinMap.{find, entries, from_entries, get-entries, get-from_entries}
use Rattle.std.specs.Ordering.{nat_cmp, is_eq}
use Rattle.std.specs.Cmp.Lexicographic.{slice_cmp, nat_list_cmp_total}
use Rattle.vc_files.specs.FileMap.{FileMap}
use Rattle.vc_index.specs.IndexMap.{IndexMap}
use Rattle.vc_index.specs.Loading.{IsOfLoad}
use Rattle.vc_index.specs.TreeReading.{TreeFault, ReadsAs, tree_fault}
use Rattle.vc_index.specs.TreeReading.TreeFault.{LongPath, OtherKind, NoObject}
use Rattle.vc_index.specs.declared.entry.IndexEntry.{IndexEntry}
use Rattle.vc_index.specs.declared.faults.IndexFault.{IndexFault}
use Rattle.vc_index.specs.declared.faults.IndexFault.TheVariants as index
use Rattle.vc_model.specs.Repository.{Repository, Entry, Index, only_changes}
use Rattle.vc_model.specs.Repository.Change.{SetIndex}
use Rattle.vc_model.specs.Node.Answer.{Did, Declined}
use Rattle.vc_model.specs.Node.Reply.{Stored}
use Rattle.vc_model.specs.Clone.{quietly}
use Rattle.vc_model.specs.Clone.Task.{LoadTree}
use Rattle.vc_model.proofs.Maps.{none_added}
use Rattle.vc_object.specs.ObjectMap.{ObjectMap}
use Rattle.vc_object.specs.declared.id.ObjectId.{ObjectId}
use Rattle.vc_refs.specs.declared.faults.RefFault.TheVariants as ref
use Rattle.vc_object_map.specs.Store.{objects}
use Rattle.vc_object_map.specs.declared.faults.StoreFault.TheVariants as store
use Rattle.vc_local.specs.declared.fault.NodeFault.{NodeFault}
use Rattle.vc_local.specs.declared.fault.NodeFault.TheVariants.{Store, Ref, Missing, NotACommit, BadPath, PathConflict, BadIndex, WrongEntry, Down}
use Rattle.vc_local.specs.Blames.{BlamesLoad, IsOfMemory}
use Rattle.vc_local.specs.NodeFault.{of_index}
use Rattle.vc_local.specs.Shown.{Shown, IsLoaded, shown}
use Rattle.vc_values.specs.Trees.{machine_entry, tree_number, ShowsIndex, TreeGives}
use Rattle.vc_rules.specs.Git.{layer_objects}
use Rattle.vc_local.specs.Machine.{Spells, Follows, IsBadFile, fault_answer, failure_of}
use Rattle.vc_local.proofs.AnswerLemmas.{declines, faults}
use Rattle.vc_rules.proofs.MapLemmas.{map_cond}
use Rattle.vc_local.proofs.IndexLemmas.{spells_map}

-- ---- an index of the machine

entry_pair : List ℕ × IndexEntry → List ℕ × Entry
entry_pair e = (e.0, machine_entry e.1)

find_mapped : (q : List ℕ) (es : List (List ℕ × IndexEntry)) → find (slice_cmp nat_cmp) q (map entry_pair es) ≡ option_map machine_entry (find (slice_cmp nat_cmp) q es)
unfolding entry_pair
find_mapped q [] = refl
find_mapped q (e ∷ es) =
    ap (cond (is_eq (slice_cmp nat_cmp q e.0)) (Some (machine_entry e.1))) (find_mapped q es)
    ∙ map_cond machine_entry (is_eq (slice_cmp nat_cmp q e.0)) (Some e.1) (find (slice_cmp nat_cmp) q es)

pub machine_index : IndexMap → Index
machine_index m = from_entries (map entry_pair (entries m))

pub machine_index_shows : (m : IndexMap) → ShowsIndex (machine_index m) m
unfolding machine_index
machine_index_shows m q = get-from_entries nat_list_cmp_total (map entry_pair (entries m)) q ∙ find_mapped q (entries m) ∙ ap (option_map machine_entry) (sym (get-entries m q))

-- ---- the objects of the machine

module _ (content : FileMap) (r : Repository) (p : Spells (shown content) r) where
  pub same_objects : objects content ≡ layer_objects r.objects
  same_objects i id = p.objects id.0 i

  pub reads_there : (id : ObjectId) (v : Result IndexMap TreeFault) → ReadsAs (objects content) id v → ReadsAs (layer_objects r.objects) id v
  reads_there id v reads = subst (λ (o : ObjectMap). ReadsAs o id v) same_objects reads

  number_given : (id : ObjectId) (fault : TreeFault) → ReadsAs (objects content) id (Err fault) → TreeGives r.objects id.0 (Err (tree_number fault))
  number_given id fault reads = (fault, reads_there id (Err fault) reads, refl)

-- ---- load_tree

pub load_done : (content new : FileMap) (id : ObjectId) → IsLoaded content id new → Follows (LoadTree id.0) (Did Stored) (shown content) (shown new)
load_done content new id loaded = record {
  goes = λ awaited r p.
      let m = loaded.index in
      let i = machine_index m in
      let rel = machine_index_shows m in
      let after = record r { index = i } in (
        after,
        subst (λ (s : Shown). Spells s after) (sym loaded.is) (spells_map (shown content) r m i p loaded.sound rel),
        (
          quietly awaited (only_changes (SetIndex i ∷ [])) Stored,
          (i, (m, reads_there content r p id (Ok m) loaded.reads, rel), refl),
          (r.objects, none_added r.objects, refl),
          refl,
          refl,
          refl,
        ),
      );
}

first_declined : (content : FileMap) (id : ObjectId) (fault : TreeFault) → ReadsAs (objects content) id (Err fault) → Follows (LoadTree id.0) (Declined (tree_number fault)) (shown content) (shown content)
first_declined content id fault reads =
    declines (LoadTree id.0) (tree_number fault) (shown content) (λ r p. number_given content r p id fault reads)

load_refused : (content : FileMap) (id : ObjectId) (f : IndexFault) → IsOfLoad (Unit {0}) content id f → ((fault : TreeFault) → tree_fault f ≡ Some fault → ReadsAs (objects content) id (Err fault))
    → IsBadFile content (of_index f) ⊎ Follows (LoadTree id.0) (fault_answer (of_index f)) (shown content) (shown content)
load_refused content id index.BadPath why first = inr (first_declined content id LongPath (first LongPath refl))
load_refused content id index.PathConflict why first = absurd (why tt)
load_refused content id (index.BadIndex place) why first = absurd why
load_refused content id (index.WrongEntry at) why first = inr (first_declined content id (OtherKind at.items) (first (OtherKind at.items) refl))
load_refused content id (index.Missing absent) why first = inr (first_declined content id (NoObject absent) (first (NoObject absent) refl))
load_refused content id (index.Store (store.BadObject f)) why first = absurd why
load_refused content id (index.Store (store.Absent x)) why first = absurd why
load_refused content id (index.Store (store.Damaged x)) why first = inl ((why tt).0)
load_refused content id (index.Store (store.Fault f)) why first = inr (faults (LoadTree id.0) (failure_of f) (shown content))

memory_faults : (content : FileMap) (id : ObjectId) (e : NodeFault) → IsOfMemory e → Follows (LoadTree id.0) (fault_answer e) (shown content) (shown content)
memory_faults content id (Store (store.BadObject f)) why = absurd why
memory_faults content id (Store (store.Absent x)) why = absurd why
memory_faults content id (Store (store.Damaged x)) why = absurd why
memory_faults content id (Store (store.Fault f)) why = faults (LoadTree id.0) (failure_of f) (shown content)
memory_faults content id (Ref (ref.Stale current)) why = absurd why
memory_faults content id (Ref (ref.Conflict other)) why = absurd why
memory_faults content id (Ref (ref.BadRefFile path)) why = absurd why
memory_faults content id (Ref ref.HeadLoop) why = absurd why
memory_faults content id (Ref (ref.Fault f)) why = faults (LoadTree id.0) (failure_of f) (shown content)
memory_faults content id (Missing x) why = absurd why
memory_faults content id (NotACommit x) why = absurd why
memory_faults content id BadPath why = absurd why
memory_faults content id PathConflict why = absurd why
memory_faults content id (BadIndex place) why = absurd why
memory_faults content id (WrongEntry at) why = absurd why
memory_faults content id Down why = absurd why

pub load_failed : (content : FileMap) (id : ObjectId) (e : NodeFault) → BlamesLoad content id e → IsBadFile content e ⊎ Follows (LoadTree id.0) (fault_answer e) (shown content) (shown content)
load_failed content id e (inl blames) =
    subst (λ (e : NodeFault). IsBadFile content e ⊎ Follows (LoadTree id.0) (fault_answer e) (shown content) (shown content)) (sym blames.1) (load_refused content id blames.0 blames.2 blames.3)
load_failed content id e (inr why) = inr (memory_faults content id e why)
