-- The index that a node's files spell.
use Rattle.std.specs.Prelude.{◌≡◌, ℕ, List, [], codes, unwrap_or}
use Rattle.std.specs.FinMap as files
use Rattle.vc_files.specs.FileMap.{FileMap}
use Rattle.vc_index.specs.IndexMap.{IndexMap, IsIndex}
use Rattle.vc_index.specs.IndexText.{index_text, TextFault}
use Rattle.vc_local.specs.declared.fault.NodeFault.{NodeFault}
use Rattle.vc_local.specs.declared.fault.NodeFault.TheVariants.{Store, Ref, Missing, NotACommit, BadPath, PathConflict, BadIndex, WrongEntry, Down}
use Rattle.vc_object_map.specs.StoreFault.{IsFault}

-- the bytes of the index file; none where it is absent, as in a new clone
abbrev pub index_bytes : FileMap → List ℕ
index_bytes content = unwrap_or (files.get content (codes "index")) []

-- the files spell this index
pub record SpellsIndex (content : FileMap) (m : IndexMap) : Type 0 where
  pub sound : IsIndex m
  pub text : index_bytes content ≡ index_text m

-- a look at the index is refused only where its file spells none, at the first byte that goes wrong
abbrev pub BlamesIndex : FileMap → NodeFault → Type 0
BlamesIndex content (Store fault) = IsFault fault
BlamesIndex content (BadIndex place) = TextFault (index_bytes content) place
BlamesIndex content (Ref fault) = ⊥
BlamesIndex content (Missing id) = ⊥
BlamesIndex content (NotACommit id) = ⊥
BlamesIndex content BadPath = ⊥
BlamesIndex content PathConflict = ⊥
BlamesIndex content (WrongEntry at) = ⊥
BlamesIndex content Down = ⊥
