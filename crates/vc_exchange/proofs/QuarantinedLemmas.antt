-- What a pack brings, where its objects stand in the clone's quarantine until they are stored.
use Rattle.std.proofs.Common.{arith, ◌≡◌, ◌⊎◌, inl, inr, ℕ, List, length, take, Option, Some, sym, ap, ◌∙◌, subst, true≢false}
use Rattle.std.specs.Prelude.{codes, is_some}
use Rattle.std.specs.FinMap.{get}
use Rattle.std.proofs.lemmas.List.{take_all}
use Rattle.vc_history.specs.Stored.{KeepsObjects}
use Rattle.vc_fetch.specs.Pack.{PackText}
use Rattle.vc_files.specs.FileMap.{FileMap, SameOutside}
use Rattle.vc_object_map.specs.Graph.{IsClosedUnder}
use Rattle.vc_object_map.specs.StoreFault.{IsMet}
use Rattle.vc_object_map.specs.Overlay.{with_carried}
use Rattle.vc_message.specs.Machine.{IsPack}
use Rattle.vc_model.specs.Clone.{Awaited}
use Rattle.vc_model.specs.Message.{Message}
use Rattle.vc_model.specs.Node.{Reply}
use Rattle.vc_model.specs.Repository.{Change, Repository, changed_all, with_objects}
use Rattle.vc_object.specs.ObjectMap.{ObjectMap, links_in}
use Rattle.vc_object.specs.declared.id.ObjectId.{ObjectId}
use Rattle.vc_refs.specs.RefMap.{RefMap}
use Rattle.vc_rules.specs.OpenPushes.{HoldsContent}
use Rattle.vc_quarantine.proofs.MigratingLemmas.{front-some, migrated-all, migrated-some}
use Rattle.vc_push_rules.proofs.FrameLemmas.{objects-of_slot, refs-of_slot}
use Rattle.vc_quarantine.proofs.SeenLemmas.{seen_stored}
use Rattle.vc_push_rules.specs.Carrying.{objects_in}
use Rattle.vc_quarantine.specs.Migrating.{IsFrontMigrated, migrated}
use Rattle.vc_quarantine.specs.PushState.{IsDamagedSeen}
use Rattle.vc_push_rules.specs.Quarantine.{objects_seen, quarantine_folder, quarantined}
use Rattle.vc_quarantine.specs.Blames.{BlamesMigration}
use Rattle.vc_object_map.specs.Store.{objects}
use Rattle.vc_object_map.specs.declared.faults.StoreFault.{StoreFault}
use Rattle.vc_object_map.specs.declared.faults.StoreFault.TheVariants as of_store
use Rattle.vc_exchange.specs.Deeds.{IsCutShort, IsReceived}
use Rattle.vc_exchange.specs.Deeds.IsCutShort.{at_first, within}
use Rattle.vc_tracking.specs.Faults.{BlamesObjects, from_store}
use Rattle.vc_exchange.specs.Quarantined.{BlamesSeen, HoldsPack, KeepsOthers}
use Rattle.vc_exchange.specs.Receiving.{BlamesPack}
use Rattle.vc_tracking.specs.Storing.{AreSomeStored, AreStored}
use Rattle.vc_tracking.specs.declared.fault.ExchangeFault.{ExchangeFault}
use Rattle.vc_tracking.specs.declared.fault.ExchangeFault.TheVariants as exchange
use Rattle.vc_exchange.proofs.PackDeeds.{declined}

-- ---- what is seen is what is stored, and what the pack brings
module _ (content : FileMap) (names : List ObjectId) (pack : PackText) (holds : HoldsPack content names pack) where
  pub seen_same : objects_seen content 0 ≡ with_carried (objects content) (objects_in pack.objects)
  seen_same =
      let same : quarantined content 0 ≡ objects_in pack.objects = λ i id. holds.carries.same id i in
      ap (with_carried (objects content)) same

  -- what is whole over the one is whole over the other
  pub seen_closed : (ids : List ObjectId) → IsClosedUnder (links_in (objects_seen content 0)) ids → IsClosedUnder (links_in (with_carried (objects content) (objects_in pack.objects))) ids
  seen_closed ids closed = subst (λ (o : ObjectMap). IsClosedUnder (links_in o) ids) seen_same closed

  -- the same, read again
  pub seen_at : (read : FileMap) → read ≡ content → (ids : List ObjectId) → IsClosedUnder (links_in (objects_seen read 0)) ids → IsClosedUnder (links_in (with_carried (objects content) (objects_in pack.objects))) ids
  seen_at read at ids closed = seen_closed ids (subst (λ (f : FileMap). IsClosedUnder (links_in (objects_seen f 0)) ids) at closed)

  -- all of it is stored, or some
  pub all_stored : (new : FileMap) → ((q : ObjectId) → objects new q ≡ migrated content 0 names q) → AreStored content new pack.objects
  all_stored new done = record { each = λ id. done id ∙ migrated-all content 0 names holds.carries.holds id ∙ ap (λ (o : ObjectMap). o id) seen_same }

  pub some_stored : (new : FileMap) → IsFrontMigrated content 0 names new → AreSomeStored content new pack.objects
  some_stored new front = record {
    each = λ id. elim (front-some content new 0 names front id) as (λ _. (objects new id ≡ objects content id) ⊎ (objects new id ≡ with_carried (objects content) (objects_in pack.objects) id)) [
      | inl is ↦ inl is
      | inr is ↦ inr (is ∙ ap (λ (o : ObjectMap). o id) seen_same)
    ];
  }

  -- none of it is gone or bad, so that a stored file is at fault
  pub migration_blames : (e : StoreFault) → BlamesMigration content 0 names e → BlamesObjects content e
  migration_blames (of_store.BadObject fault) b = absurd b
  migration_blames (of_store.Absent id) b = absurd (true≢false (sym (holds.carries.holds.each id b.0) ∙ ap is_some b.1))
  migration_blames (of_store.Damaged id) b = elim b.1 as (λ _. BlamesObjects content (of_store.Damaged id)) [ inl stored ↦ stored | inr there ↦ absurd (holds.clean id there) ]
  migration_blames (of_store.Fault fault) b = tt

  pub pack_blames : (wants : List ObjectId) (m : Message) (e : StoreFault) → BlamesObjects content e → BlamesPack content wants m (from_store e)
  pack_blames wants m (of_store.BadObject fault) b = absurd b
  pack_blames wants m (of_store.Absent id) b = absurd b
  pack_blames wants m (of_store.Damaged id) b = b
  pack_blames wants m (of_store.Fault fault) b = tt

  -- a want that is not complete with it is refused, whatever repository is held
  pub seen_blames : (wants : List ObjectId) (m : Message) → IsPack m pack → (e : ExchangeFault) → BlamesSeen content wants e → BlamesPack content wants m e
  seen_blames wants m is (exchange.Store (of_store.BadObject fault)) b = absurd b
  seen_blames wants m is (exchange.Store (of_store.Absent id)) b = absurd b
  seen_blames wants m is (exchange.Store (of_store.Damaged id)) b = elim b as (λ _. BlamesObjects content (of_store.Damaged id)) [ inl stored ↦ stored | inr there ↦ absurd (holds.clean id there) ]
  seen_blames wants m is (exchange.Store (of_store.Fault fault)) b = absurd b
  seen_blames wants m is (exchange.Refs fault) b = absurd b
  seen_blames wants m is (exchange.Incomplete id) b = λ r refs held.
      declined content r held pack.objects is.objects is.brought m _ is.is wants refs id (rw seen_same at b)
  seen_blames wants m is (exchange.Fault fault) b = tt

-- a walk that meets a damaged file
pub met_blames : (content : FileMap) (wants : List ObjectId) (Meets : ObjectId → Type 0) (e : StoreFault) → IsMet Meets (IsDamagedSeen content 0) e → BlamesSeen content wants (from_store e)
met_blames content wants Meets (of_store.BadObject fault) m = absurd m
met_blames content wants Meets (of_store.Absent id) m = absurd m
met_blames content wants Meets (of_store.Damaged id) m = m.1
met_blames content wants Meets (of_store.Fault fault) m = tt

-- ---- the quarantine beside objects and refs
module _ (mid new : FileMap) (outside : SameOutside (quarantine_folder 0) mid new) where
  pub held_beside : (r : Repository) → HoldsContent mid r → HoldsContent new r
  held_beside r held = record {
    objects_are = λ x. objects-of_slot 0 mid new outside _ ∙ held.objects_are x;
    refs_are = λ n. ap (λ (m : RefMap). m n) (refs-of_slot 0 mid new outside) ∙ held.refs_are n;
  }

  -- what was received or cut short stays so
  pub received_beside : (r : Repository) (awaits : Awaited) (m : Message) (left : Awaited) (sends : Option Message) (reply : Reply) → IsReceived r awaits m mid left sends reply → IsReceived r awaits m new left sends reply
  received_beside r awaits m left sends reply did = record {
    effect = did.effect;
    after = did.after;
    receives = did.receives;
    done = did.done;
    content = held_beside did.after did.content;
    head = did.head;
    index = did.index;
  }

  pub cut_beside : (r : Repository) (awaits : Awaited) (m : Message) → IsCutShort r awaits m mid → IsCutShort r awaits m new
  cut_beside r awaits m (at_first held) = at_first (held_beside r held)
  cut_beside r awaits m (within part) = within (record {
    deed = part.deed;
    after = part.after;
    receives = part.receives;
    stops = part.stops;
    content = held_beside part.after part.content;
    head = part.head;
    index = part.index;
  })

  pub keeps_beside_slot : KeepsObjects mid new
  keeps_beside_slot = record { at = λ id o is. objects-of_slot 0 mid new outside id ∙ is }

-- all was done, and then a fault came
pub received_cut : (r : Repository) (awaits : Awaited) (m : Message) (new : FileMap) (left : Awaited) (sends : Option Message) (reply : Reply) → IsReceived r awaits m new left sends reply → IsCutShort r awaits m new
received_cut r awaits m new left sends reply did =
    let changes = did.effect.changes in
    let all : take (length changes) changes ≡ changes = take_all (length changes) changes (omega arith) in
    within (record {
      deed = record { effect = did.effect; left = left; sends = sends; reply = reply };
      after = did.after;
      receives = did.receives;
      stops = inr (did.done.0, length changes, did.done.1, did.done.2 ∙ ap (λ (cs : List Change). changed_all cs (with_objects r did.done.0)) (sym all));
      content = did.content;
      head = did.head;
      index = did.index;
    })

-- ---- what changes nothing else
pub others_same : (old new : FileMap) → new ≡ old → KeepsOthers old new
others_same old new same = record { at = λ path object ref there. ap (λ (f : FileMap). get f path) same }

pub others_objects : (old new : FileMap) → SameOutside (codes "objects/") old new → KeepsOthers old new
others_objects old new outside = record { at = λ path object ref there. outside.at path object }

pub others_refs : (old new : FileMap) → SameOutside (codes "refs/") old new → KeepsOthers old new
others_refs old new outside = record { at = λ path object ref there. outside.at path ref }

pub others_slot : (old new : FileMap) → SameOutside (quarantine_folder 0) old new → KeepsOthers old new
others_slot old new outside = record { at = λ path object ref there. outside.at path there }

pub others_then : (old mid new : FileMap) → KeepsOthers old mid → KeepsOthers mid new → KeepsOthers old new
others_then old mid new first second = record { at = λ path object ref there. second.at path object ref there ∙ first.at path object ref there }

-- ---- objects that are stored stay
module _ (old : FileMap) (slot : ℕ) where
  pub migrated_keeps : (new : FileMap) (names : List ObjectId) → ((q : ObjectId) → objects new q ≡ migrated old slot names q) → KeepsObjects old new
  migrated_keeps new names done = record {
    at = λ id o is. elim (migrated-some old slot names id) as (λ _. objects new id ≡ Some o) [
      | inl same ↦ done id ∙ same ∙ is
      | inr seen ↦ done id ∙ seen ∙ seen_stored old slot id o is
    ];
  }

  pub front_keeps : (new : FileMap) (names : List ObjectId) → IsFrontMigrated old slot names new → KeepsObjects old new
  front_keeps new names front = migrated_keeps new front.front front.stored
