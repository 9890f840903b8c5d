-- Files that a clone was opened over, and that it was closed to.
use Rattle.std.proofs.Common.{◌≡◌, true, Err, IsTrue, Some, ap, refl, sym, ◌∙◌, subst}
use Rattle.vc_files.specs.FileMap.{FileMap}
use Rattle.vc_local.proofs.CleanLemmas.{clean_then}
use Rattle.vc_local.proofs.EmptyingLemmas.{clean_lost, openable_kept}
use Rattle.vc_local.proofs.OpeningLaws.{held_nodes_open}
use Rattle.vc_local.proofs.ShownLemmas.{objects_same}
use Rattle.vc_local.specs.Emptying.{IsOpened, LosesCarried}
use Rattle.vc_local.specs.Machine.{HoldsNode}
use Rattle.vc_local.specs.NodeFault.{is_fault}
use Rattle.vc_local.specs.Opening.{IsOpenable, opened_node}
use Rattle.vc_local.specs.declared.fault.NodeFault.{NodeFault}
use Rattle.vc_model.specs.Clone.Awaited.{Nothing}
use Rattle.vc_model.specs.Repository.{IsSound, Repository}
use Rattle.vc_node.specs.Awaited.{AwaitedText, IsAwaited}
use Rattle.vc_node.specs.Held.{Held}
use Rattle.vc_node.specs.Node.{IsFresh}
use Rattle.vc_node.specs.Stored.{KeepsOwn, KeepsStored}
use Rattle.vc_node.specs.declared.clone_fault.CloneFault.TheVariants.{Node}
use Rattle.vc_object.specs.Decoding.{StoredObject}
use Rattle.vc_object.specs.declared.id.ObjectId.{ObjectId}
use Rattle.vc_object_map.specs.Store.{object_path, objects}
use Rattle.vc_rules.specs.Git.{git}
use Rattle.vc_trail.specs.Trail.{Trail, clone_after}
use Rattle.vc_world.specs.Alone.{LeadsAlone}
use Rattle.vc_world.specs.Exchanging.{HoldsClone}
use Rattle.vc_world.specs.OverFiles.{IsUnopened, LeadsFiles}
use Rattle.vc_world.specs.OverFiles.LeadsFiles.{led, unopened}
use Rattle.vc_world.specs.declared.ending.ExchangeEnd.TheVariants.{Clone}

-- ---- what is stored

objects_stay : (old new : FileMap) → objects new ≡ objects old → (id : ObjectId) (o : StoredObject) → objects old id ≡ Some o → objects new id ≡ Some o
objects_stay old new same id o is = ap (λ f. f id) same ∙ is

pub stored_unopened : (old new : FileMap) → LosesCarried old new → KeepsStored old new
stored_unopened old new loses = record { objects = record { at = objects_stay old new (objects_same old new (λ name. loses.outside.at (object_path name) refl)) }; clean = clean_lost old new loses }

-- whatever messages came to the clone that was opened
pub stored_then : (old mid new : FileMap) → IsOpened old mid → KeepsOwn mid new → KeepsStored old new
stored_then old mid new o own =
    let first = stored_unopened old o.mid o.loses in
    let ready = objects_stay o.mid mid (objects_same o.mid mid (λ name. o.ready.only.at (object_path name) refl)) in
    record {
      objects = record { at = λ id x is. own.objects.at id x (ready id x (first.objects.at id x is)) };
      clean = clean_then old mid new (clean_then old o.mid mid first.clean o.keeps) own.clean;
    }

-- ---- where it leads

-- they were not opened
pub stay_unopened : {P T R : Type 0} (old new : FileMap) (r : Repository) (fault : NodeFault) (p : P) (Comes : Trail → Type 0) → LosesCarried old new → IsTrue (is_fault fault) → IsOpenable old r
    → LeadsFiles new r (IsUnopened {T = T} {R = R} p (Err (Clone (Node fault))) p) Comes
stay_unopened old new r fault p Comes loses is can = unopened (fault, refl, is, refl) (openable_kept old new loses r can)

-- they were, and the clone over them was led on
pub led_files : {F : Type 0} (content : F → FileMap) (r : Repository) (opened new : Held F) (handed : F) (Unopened : Type 0) (Comes : Trail → Type 0) → handed ≡ new.files → IsFresh opened → HoldsNode (content opened.files) true Nothing (opened_node r)
    → IsSound git r → LeadsAlone (HoldsClone content) opened new Comes → LeadsFiles (content handed) r Unopened Comes
led_files content r opened new handed Unopened Comes same fresh holds sound leads =
    let held : HoldsClone content opened (opened_node r) = record {
      awaited = Nothing;
      is_awaited = subst (λ (w : AwaitedText). IsAwaited w Nothing) (sym fresh.awaits) refl;
      holds = subst (λ b. HoldsNode (content opened.files) b Nothing (opened_node r)) (sym fresh.up) holds;
    } in
    let a = leads.each (opened_node r) held sound in
    subst (λ f. LeadsFiles (content f) r Unopened Comes) (sym same)
    (led a.trail a.is_trail a.exchanged (held_nodes_open (content new.files) new.is_up a.held.awaited (clone_after (opened_node r) a.trail) a.held.holds) a.comes)
