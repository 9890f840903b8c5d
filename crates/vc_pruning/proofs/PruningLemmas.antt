-- From the objects that are taken away to the machine's prune.
use Rattle.std.proofs.Common.{◌≡◌, ℕ, List, Option, Some, None, Contains, ◌⊎◌, inl, inr, refl, sym, ap, ◌∙◌, subst}
use Rattle.std.specs.Prelude.{option_map}
use Rattle.std.proofs.lemmas.Option.{none-some}
use Rattle.std.specs.FinMap.{get}
use Rattle.vc_files.specs.FileMap.{FileMap}
use Rattle.vc_format.specs.Git.{id_of_bytes}
use Rattle.vc_lemmas.proofs.Lists.{some_of}
use Rattle.vc_local.proofs.CleanLemmas.{clean_objects}
use Rattle.vc_local.proofs.ShownLemmas.{shown_objects}
use Rattle.vc_local.specs.Clean.{KeepsClean}
use Rattle.vc_local.specs.Machine.{Spells}
use Rattle.vc_local.specs.Shown.{Shown, shown}
use Rattle.vc_local.specs.declared.fault.NodeFault.{NodeFault}
use Rattle.vc_local.specs.declared.fault.NodeFault.TheVariants.{BadIndex, BadPath, Down, Missing, NotACommit, PathConflict, Ref, Store, WrongEntry}
use Rattle.vc_model.specs.Object.{Id, Object, Objects}
use Rattle.vc_model.specs.Repository.{PartlyPruned, Repository, with_objects}
use Rattle.vc_object.specs.declared.id.ObjectId.{ObjectId}
use Rattle.vc_object_map.specs.Store.{IsDamaged, objects}
use Rattle.vc_object_map.specs.StoreFault.{IsMet, IsMetFrom}
use Rattle.vc_object_map.specs.declared.faults.StoreFault.{StoreFault}
use Rattle.vc_object_map.specs.declared.faults.StoreFault.TheVariants as store
use Rattle.vc_pruning.proofs.KeptLemmas.{Knows}
use Rattle.vc_pruning.proofs.Removals.{pruned_all, pruned_none}
use Rattle.vc_pruning.proofs.RemovingLemmas.{damaged_before, outside_of, spares_same}
use Rattle.vc_pruning.specs.Pruning.{Prunes, PrunesSome}
use Rattle.vc_pruning.specs.Removing.{ShowsObjects, SparesFiles, TakesAll, TakesSome}
use Rattle.vc_pruning.specs.Roots.{AreNeeded, AreRoots, AreWhole, BlamesNeeded, BlamesPrune, BlamesRoots, EndsRemoval}
use Rattle.vc_rules.specs.Git.{stored_of}

-- what is bad then was so before
pub clean_of : (old new : FileMap) → SparesFiles old new → KeepsClean old new
clean_of old new spares = clean_objects old new (record { before = damaged_before old new spares }) (outside_of old new spares)

-- other objects, and the rest as before
spells_less : (old new : FileMap) (r : Repository) (s : Objects) → Spells (shown old) r → SparesFiles old new → ShowsObjects new s → Spells (shown new) (with_objects r s)
spells_less old new r s spells spares shows =
    subst (λ (t : Shown). Spells t (with_objects r s)) (sym (shown_objects old new (objects new) (outside_of old new spares) refl))
    (record {
      objects = shows;
      refs = spells.refs;
      head = spells.head;
      head_shown = spells.head_shown;
      head_is = spells.head_is;
      map = spells.map;
      map_sound = spells.map_sound;
      map_shown = spells.map_shown;
      index = spells.index;
    })

-- what was there and isn't kept is not needed
partly : (needed : Id → Type 0) (s t : Objects) (kept : List ObjectId) → Knows needed s kept → PartlyPruned (λ x. Contains kept (id_of_bytes x)) s t → PartlyPruned needed s t
partly needed s t kept knows some x = by (get s x) refl (some x)
  where
    by : (o : Option Object) → get s x ≡ o → (get t x ≡ get s x) ⊎ ((¬ Contains kept (id_of_bytes x)) × (get t x ≡ None)) → (get t x ≡ get s x) ⊎ ((¬ needed x) × (get t x ≡ None))
    by o is (inl stays) = inl stays
    by None is (inr gone) = inl (gone.1 ∙ sym is)
    by (Some o) is (inr gone) = inr (λ is_so. gone.0 ((knows.exact x o is).1 is_so), gone.1)

-- The names that are kept are of what is needed in whatever repository is shown.
module _ (needed : Repository → Id → Type 0) (old : FileMap) (kept : List ObjectId) (knows : (r : Repository) → Spells (shown old) r → Knows (needed r) r.objects kept) where
  pub prunes_some : (new : FileMap) → TakesSome kept old new → PrunesSome needed old new
  prunes_some new takes = record {
    each = λ r spells.
        let left = takes.takes r.objects spells.objects in
        (left.0, spells_less old new r left.0 spells takes.spares left.1, partly (needed r) r.objects left.0 kept (knows r spells) left.2);
    spares = takes.spares;
  }

  -- what is left is needed
  left_needed : (new : FileMap) (count : ℕ) → TakesAll kept old new count → (r : Repository) → Spells (shown old) r → (s : Objects) → ShowsObjects new s → PartlyPruned (needed r) r.objects s → (x : Id) (o : Object) → get s x ≡ Some o → needed r x
  left_needed new count takes r spells s shows some x o is = by (some x)
    where
      among : Contains kept (id_of_bytes x)
      among = takes.left (id_of_bytes x) (some_of (objects new (id_of_bytes x)) (stored_of o) (shows x ∙ ap (option_map stored_of) is))

      by : (get s x ≡ get r.objects x) ⊎ ((¬ needed r x) × (get s x ≡ None)) → needed r x
      by (inl stays) = ((knows r spells).exact x o (sym stays ∙ is)).0 among
      by (inr gone) = absurd (none-some o (sym gone.1 ∙ is))

  pub prunes_all : (new : FileMap) (count : ℕ) → TakesAll kept old new count → Prunes needed old new count
  prunes_all new count takes = record {
    each = λ r spells.
        let left = takes.takes r.objects spells.objects in
        let some = partly (needed r) r.objects left.0 kept (knows r spells) left.2 in (
          left.0,
          spells_less old new r left.0 spells takes.spares left.1,
          pruned_all (needed r) r.objects left.0 some (left_needed new count takes r spells left.0 left.1 some) (λ x none. (knows r spells).decided x),
          left.3,
        );
    spares = takes.spares;
  }

-- nothing was taken away
pub prunes_none : (needed : Repository → Id → Type 0) (old new : FileMap) → new ≡ old → PrunesSome needed old new
prunes_none needed old new same = subst (λ (m : FileMap). PrunesSome needed old m) (sym same) (record {
  each = λ r spells. (r.objects, spells, pruned_none (needed r) r.objects);
  spares = spares_same old old refl;
})

-- ---- refusals

-- what the roots are refused for
pub blames_roots : (content : FileMap) (e : NodeFault) → BlamesRoots content e → BlamesNeeded content e
blames_roots content (Store (store.Damaged id)) why = absurd why
blames_roots content (Store (store.Absent id)) why = why
blames_roots content (Store (store.BadObject fault)) why = why
blames_roots content (Store (store.Fault f)) why = why
blames_roots content (Ref e) why = why
blames_roots content (BadIndex place) why = why
blames_roots content (Missing id) why = why
blames_roots content (NotACommit id) why = why
blames_roots content BadPath why = why
blames_roots content PathConflict why = why
blames_roots content (WrongEntry at) why = why
blames_roots content Down why = why

-- what a walk from them is refused for
pub blames_walk : (content : FileMap) (roots : List ObjectId) (e : StoreFault) → AreRoots content roots → IsMetFrom (objects content) (IsDamaged content) roots e → BlamesNeeded content (Store e)
blames_walk content roots (store.Damaged id) are met = (met.1, (roots, are, met.0))
blames_walk content roots (store.Absent id) are met = absurd met
blames_walk content roots (store.BadObject fault) are met = absurd met
blames_walk content roots (store.Fault f) are met = tt

-- a prune is refused for that
pub blames_needed : (content : FileMap) (e : NodeFault) → BlamesNeeded content e → BlamesPrune content e
blames_needed content (Store (store.Damaged id)) why = why.0
blames_needed content (Store (store.Absent id)) why = why
blames_needed content (Store (store.BadObject fault)) why = why
blames_needed content (Store (store.Fault f)) why = why
blames_needed content (Ref e) why = why
blames_needed content (BadIndex place) why = why
blames_needed content (Missing id) why = why
blames_needed content (NotACommit id) why = why
blames_needed content BadPath why = why
blames_needed content PathConflict why = why
blames_needed content (WrongEntry at) why = why
blames_needed content Down why = why

-- and for what a removal is refused for
pub blames_met : (content : FileMap) (Meets : ObjectId → Type 0) (e : StoreFault) → IsMet Meets (IsDamaged content) e → BlamesPrune content (Store e)
blames_met content Meets (store.Damaged id) met = met.1
blames_met content Meets (store.Absent id) met = absurd met
blames_met content Meets (store.BadObject fault) met = absurd met
blames_met content Meets (store.Fault f) met = tt

-- it ends a removal
pub ends_met : (Meets IsBad : ObjectId → Type 0) (e : StoreFault) → IsMet Meets IsBad e → EndsRemoval (Store e)
ends_met Meets IsBad (store.Damaged id) met = tt
ends_met Meets IsBad (store.Absent id) met = absurd met
ends_met Meets IsBad (store.BadObject fault) met = absurd met
ends_met Meets IsBad (store.Fault f) met = tt

-- what is kept is there, so each file in an object's place is an object
pub all_whole : (content new : FileMap) (kept : List ObjectId) (count : ℕ) → AreNeeded content kept → TakesAll kept content new count → AreWhole content
all_whole content new kept count needed takes id has = elim (takes.whole id has) [ inl there ↦ there | inr among ↦ ((needed.exact id).0 among).1 ]
