-- What holds a node is opened, unless a fault comes.
use Rattle.std.proofs.Common.{◌≡◌, IsTrue, Option, Some, None, refl, inl, inr}
use Rattle.vc_files.specs.FileMap.{FileMap}
use Rattle.vc_files.specs.declared.faults.Fault.{Fault as FilesFault}
use Rattle.vc_model.specs.Node.Answer.{Fault}
use Rattle.vc_model.specs.Repository.{Repository}
use Rattle.vc_index.specs.IndexMap.{IndexMap}
use Rattle.vc_refs.specs.Head.{head_of}
use Rattle.vc_refs.specs.declared.faults.RefFault.{RefFault}
use Rattle.vc_refs.specs.declared.faults.RefFault.TheVariants as ref
use Rattle.vc_refs.specs.declared.heads.Head.{Head}
use Rattle.vc_object_map.specs.declared.faults.StoreFault.{StoreFault}
use Rattle.vc_object_map.specs.declared.faults.StoreFault.TheVariants as store
use Rattle.vc_local.proofs.IndexLemmas.{no_bad_index, spells_index}
use Rattle.vc_local.proofs.RefusalLemmas.{no_head, of_head}
use Rattle.vc_local.specs.Blames.{BlamesOpen}
use Rattle.vc_local.specs.Clean.{IsClean}
use Rattle.vc_local.specs.Machine.{Spells, fault_answer, failure_of}
use Rattle.vc_local.specs.IndexFile.{SpellsIndex}
use Rattle.vc_local.specs.NodeFault.{is_fault}
use Rattle.vc_local.specs.Opening.{IsOpenable}
use Rattle.vc_local.specs.Shown.{opened, shown}
use Rattle.vc_local.specs.declared.fault.NodeFault.{NodeFault}
use Rattle.vc_local.specs.declared.fault.NodeFault.TheVariants.{Store, Ref, Missing, NotACommit, BadPath, PathConflict, BadIndex, WrongEntry, Down}

-- the answer is a fault
abbrev pub IsFaultAnswer : NodeFault → Type 0
IsFaultAnswer e = (f : FilesFault) × (fault_answer e ≡ Fault (failure_of f))

module _ (content : FileMap) (r : Repository) (spells : Spells (shown content) r) (clean : IsClean content) where
  store_fails : (e : StoreFault) → BlamesOpen content (Store e) → IsFaultAnswer (Store e)
  store_fails (store.BadObject fault) never = absurd never
  store_fails (store.Absent id) never = absurd never
  store_fails (store.Damaged id) never = absurd never
  store_fails (store.Fault f) blames = (f, refl)

  head_fails : (e : RefFault) → BlamesOpen content (Ref e) → IsFaultAnswer (Ref e)
  head_fails (ref.Stale current) never = absurd never
  head_fails (ref.Conflict other) never = absurd never
  head_fails (ref.BadRefFile path) blames = elim (of_head content (ref.BadRefFile path) blames) [ inl none ↦ absurd (no_head content spells.head spells.head_shown none) | inr bad ↦ absurd (clean.refs _ bad) ]
  head_fails ref.HeadLoop blames = absurd (no_head content spells.head spells.head_shown (of_head content ref.HeadLoop blames))
  head_fails (ref.Fault f) blames = (f, refl)

  -- what holds a node is refused for a fault alone
  pub opening_fails : (e : NodeFault) → BlamesOpen content e → IsFaultAnswer e
  opening_fails (Store fault) blames = store_fails fault blames
  opening_fails (Ref fault) blames = head_fails fault blames
  opening_fails (BadIndex place) blames = absurd (no_bad_index content place blames spells.map (spells_index content r spells))
  opening_fails (Missing id) never = absurd never
  opening_fails (NotACommit id) never = absurd never
  opening_fails BadPath never = absurd never
  opening_fails PathConflict never = absurd never
  opening_fails (WrongEntry at) never = absurd never
  opening_fails Down never = absurd never

-- ---- files that can be opened

index_of : (content : FileMap) (r : Repository) (o : Option Head) → Spells (opened o (shown content)) r → (m : IndexMap) × SpellsIndex content m
index_of content r (Some head) p = (p.map, record { sound = p.map_sound; text = p.map_shown })
index_of content r None p = (p.map, record { sound = p.map_sound; text = p.map_shown })

module _ (content : FileMap) (r : Repository) (can : IsOpenable content r) where
  store_only : (e : StoreFault) → BlamesOpen content (Store e) → IsTrue (is_fault (Store e))
  store_only (store.BadObject fault) never = absurd never
  store_only (store.Absent id) never = absurd never
  store_only (store.Damaged id) never = absurd never
  store_only (store.Fault f) blames = refl

  head_only : (e : RefFault) → BlamesOpen content (Ref e) → IsTrue (is_fault (Ref e))
  head_only (ref.Stale current) never = absurd never
  head_only (ref.Conflict other) never = absurd never
  head_only (ref.BadRefFile path) blames = absurd (can.head.good blames.1)
  head_only ref.HeadLoop blames = absurd (can.head.ends blames)
  head_only (ref.Fault f) blames = refl

  -- they are refused for a fault alone
  pub only_faults : (e : NodeFault) → BlamesOpen content e → IsTrue (is_fault e)
  only_faults (Store fault) blames = store_only fault blames
  only_faults (Ref fault) blames = head_only fault blames
  only_faults (BadIndex place) blames = let index = index_of content r (head_of content) can.spells in absurd (no_bad_index content place blames index.0 index.1)
  only_faults (Missing id) never = absurd never
  only_faults (NotACommit id) never = absurd never
  only_faults BadPath never = absurd never
  only_faults PathConflict never = absurd never
  only_faults (WrongEntry at) never = absurd never
  only_faults Down never = absurd never
