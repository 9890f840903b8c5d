-- What can be opened.
use Rattle.std.proofs.Common.{◌≡◌, ℕ, Bool, true, false, cond, ◌&&◌, List, [], Option, Some, None, refl, sym, ap, subst, ◌∙◌}
use Rattle.std.specs.Prelude.{codes, is_some, nat_eq, option_map}
use Rattle.std.specs.Prelude.{unwrap_or}
use Rattle.std.specs.List.{flat_map}
use Rattle.std.specs.Result.{result_ok}
use Rattle.vc_index.specs.IndexText.{entry_text}
use Rattle.vc_index.proofs.MapLemmas.{entries-empty}
use Rattle.std.specs.Option.{option_and_then}
use Rattle.std.specs.List.{starts_with}
use Rattle.std.specs.FinMap.{get-empty}
use Rattle.std.specs.Ordering.{nat_cmp}
use Rattle.std.specs.Cmp.Lexicographic.{slice_cmp}
use Rattle.std.specs.FinMap as files
use Rattle.std.proofs.lemmas.Option.{none-some}
use Rattle.vc_files.specs.FileMap.{FileMap}
use Rattle.vc_model.specs.Repository.{Repository}
use Rattle.vc_model.specs.World.{empty_repository}
use Rattle.vc_object.specs.ObjectId.{is_id}
use Rattle.vc_object.specs.declared.id.ObjectId.{ObjectId}
use Rattle.vc_refs.specs.Head.{head_of, read_head, said}
use Rattle.vc_refs.proofs.LayeredLemmas.{good_absent, packed_map-absent, refs-packed}
use Rattle.vc_refs.specs.Refs.{is_taken, packed_at, packed_path, refs, IsBadRef}
use Rattle.vc_object_map.specs.Store.{objects, object_path, stored_in}
use Rattle.vc_index.specs.IndexMap.{IsIndex}
use Rattle.vc_index.specs.declared.entry.IndexEntry.{IndexEntry}
use Rattle.vc_format.specs.Git.{id_of_bytes}
use Rattle.vc_values.specs.Trees.{machine_entry}
use Rattle.vc_rules.specs.Git.{stored_of}
use Rattle.vc_local.specs.Clean.{KeepsClean}
use Rattle.vc_local.proofs.CleanLemmas.{still_clean}
use Rattle.vc_local.proofs.RefusalLemmas.{good_head}
use Rattle.vc_local.proofs.StoringLemmas.{none_damaged}
use Rattle.vc_model.specs.Clone.Awaited.{Nothing}
use Rattle.vc_local.specs.Machine.{Spells, HoldsNode}
use Rattle.vc_local.specs.Opening.{IsOpenable, HeldNodesOpen, NewFilesOpen, opened_node}
use Rattle.vc_local.specs.Shown.{Shown, IsReady, shown, opened, main_head}

-- a HEAD that stands stays
opened_some : (s : Shown) (h : _) → s.head ≡ Some h → opened s.head s ≡ s
opened_some s h is = ap (λ o. opened o s) is

pub held_nodes_open : HeldNodesOpen
held_nodes_open content is_up awaited n held = record {
  spells = subst (λ (s : Shown). Spells s n.repository) (sym (opened_some (shown content) held.shows.spells.head held.shows.spells.head_shown)) held.shows.spells;
  clean = held.clean;
  head = good_head content held.shows.spells.head held.shows.spells.head_shown;
}

-- files that were made ready hold what they could be opened as
pub made_ready : (old new : FileMap) (r : Repository) → IsReady old new → KeepsClean old new → IsOpenable old r → HoldsNode new true Nothing (opened_node r)
made_ready old new r ready keeps can = record {
  shows = record { spells = subst (λ (s : Shown). Spells s r) (sym ready.is) can.spells; live = refl };
  clean = still_clean old new keeps can.clean;
}

nothing : (path : List ℕ) → files.get (files.empty {X = List ℕ} {R = slice_cmp nat_cmp}) path ≡ None
nothing path = get-empty (slice_cmp nat_cmp) path

none_by : {X : Type 0} (b : Bool) (o : Option X) → o ≡ None → cond b o None ≡ None
none_by true o is = is
none_by false o is = refl

no_object : (id : ObjectId) → objects files.empty id ≡ None
unfolding objects
no_object id = none_by (is_id id) _ (ap (λ found. result_ok (stored_in id found)) (nothing (object_path id.0)))

no_ref : (name : List ℕ) → refs files.empty name ≡ None
no_ref name = refs-packed files.empty name free ∙ ap (λ m. packed_at m name) (packed_map-absent files.empty (nothing packed_path)) ∙ get-empty (slice_cmp nat_cmp) name
  where
    begins_not : (b : Bool) → (b && false) ≡ false
    begins_not true = refl
    begins_not false = refl

    free : is_taken files.empty name ≡ false
    free = ap (λ found. starts_with nat_eq name (codes "refs/") && is_some found) (nothing name) ∙ begins_not (starts_with nat_eq name (codes "refs/"))

no_head : head_of files.empty ≡ None
unfolding head_of
no_head = ap (λ found. option_and_then (λ text. said (read_head text)) found) (nothing (codes "HEAD"))

no_text : {T : Type 0} (read : List ℕ → T) {says : T} → option_map read (files.get (files.empty {X = List ℕ} {R = slice_cmp nat_cmp}) (codes "HEAD")) ≡ Some says → ⊥
no_text read {says} is = none-some says (sym (ap (option_map read) (nothing (codes "HEAD"))) ∙ is)

not_bad : (path : List ℕ) → IsBadRef files.empty path → ⊥
not_bad path bad = good_absent files.empty path (nothing path) bad

new_is_index : IsIndex files.empty
new_is_index = record {
  file = λ path entry found. cc (get-empty {X = IndexEntry} (slice_cmp nat_cmp) path, found);
  apart = λ path other some more above. cc (ap is_some (get-empty {X = IndexEntry} (slice_cmp nat_cmp) path), some);
}

pub new_files_open : NewFilesOpen
new_files_open = record {
  spells = subst (λ o. Spells (opened o (shown files.empty)) empty_repository) (sym no_head) (record {
    objects = λ x. no_object (id_of_bytes x) ∙ ap (λ found. option_map stored_of found) (sym (get-empty (slice_cmp nat_cmp) x));
    refs = λ name. no_ref name ∙ ap (λ found. option_map id_of_bytes found) (sym (get-empty (slice_cmp nat_cmp) name));
    head = main_head;
    head_shown = refl;
    head_is = refl;
    map = files.empty;
    map_sound = new_is_index;
    map_shown = ap (λ found. unwrap_or found []) (nothing (codes "index")) ∙ ap (flat_map (λ (e : List ℕ × IndexEntry). entry_text e.0 e.1)) (sym entries-empty);
    index = λ path. get-empty (slice_cmp nat_cmp) path ∙ ap (λ found. option_map machine_entry found) (sym (get-empty {X = IndexEntry} (slice_cmp nat_cmp) path));
  });
  clean = record { objects = none_damaged; refs = not_bad };
  head = record { good = no_text read_head; ends = no_text read_head };
}
