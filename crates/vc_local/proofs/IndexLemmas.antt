-- The machine's answers to changes of the index.
use Rattle.std.proofs.Common.{◌≡◌, ◌≢◌, ◌⊎◌, inl, inr, ℕ, true, false, cond, List, ◌∷◌, Option, Some, None, refl, sym, ap, ◌∙◌, subst, []}
use Rattle.std.specs.Prelude.{option_map, IsSome, bytes_eq}
use Rattle.std.specs.FinMap.{get, insert, remove}
use Rattle.vc_files.specs.FileMap.{FileMap}
use Rattle.vc_format.specs.Git.{git_name}
use Rattle.vc_index.specs.IndexMap.{IndexMap, IsIndex, HasConflict, index_entry}
use Rattle.vc_index.specs.IndexText.{index_text, IsOfRead, TextFault}
use Rattle.vc_index.specs.declared.entry.IndexEntry.{IndexEntry}
use Rattle.vc_index.specs.declared.faults.IndexFault.{IndexFault}
use Rattle.vc_index.specs.declared.faults.IndexFault.TheVariants as index
use Rattle.vc_index.proofs.AgainLemmas.{no_text_fault}
use Rattle.vc_index.proofs.FrontLemmas.{value_of}
use Rattle.vc_index.proofs.MapLemmas.{insert-IsIndex, remove-IsIndex}
use Rattle.vc_model.specs.Object.{blob}
use Rattle.vc_model.proofs.Sound.{all_is_some}
use Rattle.vc_model.specs.Repository.{Repository, Entry, Index, with_objects, only_changes}
use Rattle.vc_model.specs.Repository.Change.{SetIndex}
use Rattle.vc_model.specs.Node.{Deed}
use Rattle.vc_model.specs.Node.Answer.{Did, Declined}
use Rattle.vc_model.specs.Node.Reply.{Stored}
use Rattle.vc_model.specs.Clone.{Awaited, only_object, quietly, with_object as added}
use Rattle.vc_model.specs.Clone.Task.{Stage, Unstage}
use Rattle.vc_model.specs.CloneCall.{IsFreePath, Obeys, Refuses}
use Rattle.vc_model.proofs.Maps.{none_added}
use Rattle.vc_object.specs.Object.{object_name}
use Rattle.vc_object.specs.declared.kind.Kind.TheVariants as kinds
use Rattle.vc_object.specs.declared.mode.Mode.{Mode}
use Rattle.vc_object.specs.declared.mode.Mode.TheVariants as modes
use Rattle.vc_object_map.specs.StoreFault.{IsFault as IsStoreFault}
use Rattle.vc_object_map.specs.declared.faults.StoreFault.{StoreFault}
use Rattle.vc_object_map.specs.declared.faults.StoreFault.TheVariants as store
use Rattle.vc_local.specs.declared.fault.NodeFault.{NodeFault}
use Rattle.vc_local.specs.declared.fault.NodeFault.TheVariants.{Store, Ref, Missing, NotACommit, BadPath, PathConflict, BadIndex, WrongEntry, Down}
use Rattle.vc_local.specs.Adding.{IsAdded, LeftByAdd, with_blob, with_file}
use Rattle.vc_local.specs.Blames.{BlamesAdd, MayStage, TellsDamage}
use Rattle.vc_local.specs.IndexFile.{SpellsIndex, BlamesIndex, index_bytes}
use Rattle.vc_local.specs.NodeFault.{is_fault, of_index}
use Rattle.vc_local.specs.Shown.{Shown, shown, with_index_shown}
use Rattle.vc_rules.specs.Git.{git, mode_number}
use Rattle.vc_values.specs.Trees.{machine_entry}
use Rattle.vc_values.specs.Faults.{object_number}
pub use Rattle.vc_values.specs.Trees.{ShowsIndex as IsMachineIndex}
use Rattle.vc_values.proofs.GitLaws.{git_rules}
use Rattle.vc_local.specs.Machine.{Spells, Follows, IsBadFile, fault_answer, failure_of}
use Rattle.vc_local.proofs.AnswerLemmas.{faults}
use Rattle.vc_rules.proofs.MapLemmas.{get-put, get-unput, map_cond}
use Rattle.vc_local.proofs.WriteLemmas.{added_all, spells_added}

-- what is shown spells the index
pub spells_index : (content : FileMap) (r : Repository) (p : Spells (shown content) r) → SpellsIndex content p.map
spells_index content r p = record { sound = p.map_sound; text = p.map_shown }

-- a file that goes wrong at a byte spells no index
pub no_bad_index : (content : FileMap) (place : ℕ) → TextFault (index_bytes content) place → (m : IndexMap) → SpellsIndex content m → ⊥
no_bad_index content place fault m s = no_text_fault m (index_bytes content) place s.sound s.text fault

-- what is no text of an index is the file's own fault
pub text_blamed : (content : FileMap) (bytes : List ℕ) (f : IndexFault) → bytes ≡ index_bytes content → IsOfRead bytes f → BlamesIndex content (of_index f)
text_blamed content bytes index.BadPath same why = absurd why
text_blamed content bytes index.PathConflict same why = absurd why
text_blamed content bytes (index.BadIndex place) same why = subst (λ (all : List ℕ). TextFault all place) same why
text_blamed content bytes (index.WrongEntry at) same why = absurd why
text_blamed content bytes (index.Missing id) same why = absurd why
text_blamed content bytes (index.Store fault) same why = subst (λ (f : StoreFault). IsStoreFault f) (sym why) tt

-- where files spell an index, a look at it that is refused is an add's own fault
pub index_add_blamed : (content : FileMap) (m : IndexMap) (path body : List ℕ) (e : NodeFault) → SpellsIndex content m → BlamesIndex content e → BlamesAdd content m path body e
index_add_blamed content m path body (Store (store.BadObject f)) s blames = absurd blames
index_add_blamed content m path body (Store (store.Absent id)) s blames = absurd blames
index_add_blamed content m path body (Store (store.Damaged id)) s blames = absurd blames
index_add_blamed content m path body (Store (store.Fault f)) s blames = tt
index_add_blamed content m path body (BadIndex place) s blames = absurd (no_bad_index content place blames m s)
index_add_blamed content m path body (Ref f) s blames = absurd blames
index_add_blamed content m path body (Missing id) s blames = absurd blames
index_add_blamed content m path body (NotACommit id) s blames = absurd blames
index_add_blamed content m path body BadPath s blames = absurd blames
index_add_blamed content m path body PathConflict s blames = absurd blames
index_add_blamed content m path body (WrongEntry at) s blames = absurd blames
index_add_blamed content m path body Down s blames = absurd blames

-- a repository with another index
pub spells_map : (s : Shown) (r : Repository) (m : IndexMap) (i : Index) → Spells s r → IsIndex m → IsMachineIndex i m → Spells (with_index_shown s (index_text m)) (record r { index = i })
spells_map s r m i p sound rel = record {
  objects = p.objects;
  refs = p.refs;
  head = p.head;
  head_shown = p.head_shown;
  head_is = p.head_is;
  map = m;
  map_sound = sound;
  map_shown = refl;
  index = rel;
}

-- ---- unstage

pub unstage_done : (content : FileMap) (path : List ℕ) (new : Shown) → ((m : IndexMap) → SpellsIndex content m → new ≡ with_index_shown (shown content) (index_text (remove m path)))
    → Follows (Unstage path) (Did Stored) (shown content) new
unstage_done content path new is = record {
  goes = λ awaited r p.
      let i = remove r.index path in
      let rel : IsMachineIndex i (remove p.map path) =
      λ q. get-unput r.index path q ∙ ap (cond (bytes_eq q path) None) (p.index q) ∙ map_cond machine_entry (bytes_eq q path) None (get p.map q) ∙ ap (option_map machine_entry) (sym (get-unput p.map path q)) in
      let after = record r { index = i } in (
        after,
        subst (λ (s : Shown). Spells s after) (sym (is p.map (spells_index content r p))) (spells_map (shown content) r (remove p.map path) i p (remove-IsIndex p.map path p.map_sound) rel),
        (quietly awaited (only_changes (SetIndex i ∷ [])) Stored, refl, (r.objects, none_added r.objects, refl), refl, refl, refl),
      );
}

pub unstage_failed : (content : FileMap) (path : List ℕ) (e : NodeFault) → BlamesIndex content e → IsBadFile content e ⊎ Follows (Unstage path) (fault_answer e) (shown content) (shown content)
unstage_failed content path (Store (store.BadObject f)) blames = absurd blames
unstage_failed content path (Store (store.Absent id)) blames = absurd blames
unstage_failed content path (Store (store.Damaged id)) blames = absurd blames
unstage_failed content path (Store (store.Fault f)) blames = inr (faults (Unstage path) (failure_of f) (shown content))
unstage_failed content path (BadIndex place) blames = inr (record { goes = λ awaited r p. absurd (no_bad_index content place blames p.map (spells_index content r p)) })
unstage_failed content path (Ref e) blames = absurd blames
unstage_failed content path (Missing id) blames = absurd blames
unstage_failed content path (NotACommit id) blames = absurd blames
unstage_failed content path BadPath blames = absurd blames
unstage_failed content path PathConflict blames = absurd blames
unstage_failed content path (WrongEntry at) blames = absurd blames
unstage_failed content path Down blames = absurd blames

-- ---- add

some_under : (o : Option IndexEntry) (e : Entry) → option_map machine_entry o ≡ Some e → IsSome o
some_under None e h = cc
some_under (Some v) e h = refl

module _ (i : Index) (m : IndexMap) (path : List ℕ) (rel : IsMachineIndex i m) where
  -- where no file of the index conflicts, none of the machine's does
  pub free_path : ¬ HasConflict m path → IsFreePath i path
  free_path free q e found conflict = free (q, some_under (get m q) e (sym (rel q) ∙ found), conflict)

  pub not_free_path : HasConflict m path → ¬ IsFreePath i path
  not_free_path h free =
      let v = value_of (get m h.0) h.1 in
      free h.0 (machine_entry v.0) (rel h.0 ∙ ap (option_map machine_entry) v.1) h.2

  -- the same of both with a file put into them
  pub machine_index_put : (v : IndexEntry) → IsMachineIndex (insert i path (machine_entry v)) (insert m path v)
  machine_index_put v q =
      get-put i path q (machine_entry v) ∙ ap (cond (bytes_eq q path) (Some (machine_entry v))) (rel q) ∙ map_cond machine_entry (bytes_eq q path) (Some v) (get m q)
      ∙ ap (option_map machine_entry) (sym (get-put m path q v))

abbrev pub staged_index : Repository → List ℕ → Mode → List ℕ → Index
staged_index r path mode bytes = insert r.index path (record { mode = mode_number mode; id = git_name (blob bytes) })

abbrev pub staged_deed : Awaited → Repository → List ℕ → Mode → List ℕ → Deed Awaited
staged_deed awaited r path mode bytes = quietly awaited (record { objects = only_object git (blob bytes); changes = SetIndex (staged_index r path mode bytes) ∷ [] }) Stored

pub staged_obeyed : (content : FileMap) (path bytes : List ℕ) (mode : Mode) (awaited : Awaited) (r : Repository) → (p : Spells (shown content) r) → MayStage p.map path bytes
    → Obeys git git_rules r awaited (Stage path (mode_number mode) bytes) (staged_deed awaited r path mode bytes)
staged_obeyed content path bytes mode awaited r p may =
    (may.legal, free_path r.index p.map path p.index may.free, may.object, refl)

pub add_done : (content : FileMap) (path bytes : List ℕ) (mode : Mode) (new : FileMap) → mode ≢ modes.Tree → ((m : IndexMap) → SpellsIndex content m → IsAdded content m path mode bytes new)
    → Follows (Stage path (mode_number mode) bytes) (Did Stored) (shown content) (shown new)
add_done content path bytes mode new file does = record {
  goes = λ awaited r p.
      let o = blob bytes in
      let k = git_name o in
      let done = does p.map (spells_index content r p) in
      let ok = done.may in
      let v = index_entry mode (object_name kinds.Blob bytes) in
      let i = staged_index r path mode bytes in
      let rel : IsMachineIndex i (with_file p.map path mode bytes) = machine_index_put r.index p.map path p.index v in
      let sound = insert-IsIndex p.map path v p.map_sound (record { legal = ok.legal; mode = file; id = ok.id }) ok.free in
      let stored = with_objects r (added r.objects k o) in
      let after = record stored { index = i } in (
        after,
        subst (λ (s : Shown). Spells s after) (sym done.is) (spells_map (with_blob content bytes) stored (with_file p.map path mode bytes) i (spells_added (shown content) r k o p) sound rel),
        (staged_deed awaited r path mode bytes, staged_obeyed content path bytes mode awaited r p ok, (added r.objects k o, added_all r.objects k o, refl), refl, refl, refl),
      );
}

-- a refusal, after which nothing has changed
add_declined : (content : FileMap) (path bytes : List ℕ) (mode : Mode) (e : NodeFault) (n : ℕ) (new : FileMap) → is_fault e ≡ false → fault_answer e ≡ Declined n
    → ((m : IndexMap) → SpellsIndex content m → LeftByAdd content m path bytes e new)
    → ((r : Repository) → Spells (shown content) r → Refuses git git_rules r (Stage path (mode_number mode) bytes) n)
    → Follows (Stage path (mode_number mode) bytes) (Declined n) (shown content) (shown new)
add_declined content path bytes mode e n new sound is left refuses = record {
  goes = λ awaited r p.
      elim (left p.map (spells_index content r p)) [
        | inl same ↦ (r, subst (λ (c : FileMap). Spells (shown c) r) (sym same) p, (refuses r p, refl))
        | inr cut ↦ absurd (let bad : true ≡ false = sym cut.0 ∙ sound in cc)
      ];
}

pub add_failed : (content : FileMap) (path bytes : List ℕ) (mode : Mode) (e : NodeFault) (new : FileMap) → ((m : IndexMap) → SpellsIndex content m → BlamesAdd content m path bytes e) → TellsDamage content e
    → ((m : IndexMap) → SpellsIndex content m → LeftByAdd content m path bytes e new)
    → IsBadFile content e ⊎ Follows (Stage path (mode_number mode) bytes) (fault_answer e) (shown content) (shown new)
add_failed content path bytes mode (Store (store.BadObject f)) new blames damage left =
    inr (add_declined content path bytes mode (Store (store.BadObject f)) (object_number f) new refl refl left (λ r p.
    let b = blames p.map (spells_index content r p) in
    inr (b.0, inr (free_path r.index p.map path p.index b.1, (f, b.2, refl)))))
add_failed content path bytes mode (Store (store.Absent id)) new blames damage left = inr (record { goes = λ awaited r p. absurd (blames p.map (spells_index content r p)) })
add_failed content path bytes mode (Store (store.Damaged id)) new blames damage left = inl damage
add_failed content path bytes mode (Store (store.Fault f)) new blames damage left = inr (record {
  goes = λ awaited r p.
      let k = git_name (blob bytes) in
      let o = blob bytes in
      elim (left p.map (spells_index content r p)) [
        | inl same ↦ (r, subst (λ (c : FileMap). Spells (shown c) r) (sym same) p, inr refl)
        | inr cut ↦ (
          with_objects r (added r.objects k o),
          subst (λ (s : Shown). Spells s (with_objects r (added r.objects k o))) (sym cut.2) (spells_added (shown content) r k o p),
          inl (staged_deed awaited r path mode bytes, staged_obeyed content path bytes mode awaited r p cut.1, inl (added r.objects k o, all_is_some r.objects _ (added r.objects k o) (added_all r.objects k o), refl), refl),
        )
      ];
})
add_failed content path bytes mode BadPath new blames damage left =
    inr (add_declined content path bytes mode BadPath 60 new refl refl left (λ r p. inl (λ t. blames p.map (spells_index content r p) t, refl)))
add_failed content path bytes mode PathConflict new blames damage left =
    inr (add_declined content path bytes mode PathConflict 61 new refl refl left (λ r p.
    let b = blames p.map (spells_index content r p) in
    inr (b.0, inl (not_free_path r.index p.map path p.index b.1, refl))))
add_failed content path bytes mode (BadIndex place) new blames damage left = inr (record { goes = λ awaited r p. absurd (blames p.map (spells_index content r p)) })
add_failed content path bytes mode (Ref e) new blames damage left = inr (record { goes = λ awaited r p. absurd (blames p.map (spells_index content r p)) })
add_failed content path bytes mode (Missing id) new blames damage left = inr (record { goes = λ awaited r p. absurd (blames p.map (spells_index content r p)) })
add_failed content path bytes mode (NotACommit id) new blames damage left = inr (record { goes = λ awaited r p. absurd (blames p.map (spells_index content r p)) })
add_failed content path bytes mode (WrongEntry at) new blames damage left = inr (record { goes = λ awaited r p. absurd (blames p.map (spells_index content r p)) })
add_failed content path bytes mode Down new blames damage left = inr (record { goes = λ awaited r p. absurd (blames p.map (spells_index content r p)) })
