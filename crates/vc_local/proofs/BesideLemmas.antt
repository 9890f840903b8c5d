-- What a change of objects and refs leaves of a repository, and of clean files.
use Rattle.std.proofs.Common.{◌≡◌, ap, ◌∙◌, []}
use Rattle.std.specs.Prelude.{codes, unwrap_or}
use Rattle.std.specs.FinMap as files
use Rattle.std.specs.FinMap.{get}
use Rattle.vc_files.specs.FileMap.{FileMap}
use Rattle.vc_model.specs.Repository.{Index, Repository}
use Rattle.vc_refs.specs.Head.{head_of}
use Rattle.vc_refs.specs.Refs.{packed_at}
use Rattle.vc_refs.proofs.LayeredListingLemmas.{head_of-same}
use Rattle.vc_rules.specs.OpenPushes.{HoldsContent}
use Rattle.vc_quarantine.specs.Clean.{KeepsPacked, MakesNoneBad}
use Rattle.vc_local.specs.Clean.{IsClean, KeepsClean, StaysClean}
use Rattle.vc_local.specs.IndexFile.{index_bytes}
use Rattle.vc_local.specs.Machine.{Spells}
use Rattle.vc_local.specs.Shown.{shown}

-- what is shown of a repository is its content
pub held_content : (content : FileMap) (r : Repository) → Spells (shown content) r → HoldsContent content r
held_content content r spells = record { objects_are = spells.objects; refs_are = spells.refs }

-- HEAD and the index are the same
pub record SameBeside (old new : FileMap) : Type 0 where
  pub head : head_of new ≡ head_of old
  pub index : index_bytes new ≡ index_bytes old

pub spells_on : (old new : FileMap) (r after : Repository) → Spells (shown old) r → HoldsContent new after → SameBeside old new → after.head ≡ r.head → after.index ≡ r.index → Spells (shown new) after
spells_on old new r after spells content beside head index = record {
  objects = content.objects_are;
  refs = content.refs_are;
  head = spells.head;
  head_shown = beside.head ∙ spells.head_shown;
  head_is = head ∙ spells.head_is;
  map = spells.map;
  map_sound = spells.map_sound;
  map_shown = beside.index ∙ spells.map_shown;
  index = λ p. ap (λ (i : Index). get i p) index ∙ spells.index p;
}

pub beside_by : (old new : FileMap) → files.get new (codes "HEAD") ≡ files.get old (codes "HEAD") → files.get new (codes "index") ≡ files.get old (codes "index") → SameBeside old new
beside_by old new head index = record { head = head_of-same old new head; index = ap (λ found. unwrap_or found []) index }

pub clean_on : (old new : FileMap) → MakesNoneBad old new → IsClean old → IsClean new
clean_on old new bad clean = record { objects = λ id damaged. clean.objects id (bad.objects id damaged); refs = λ path wrong. clean.refs path (bad.refs path wrong) }

-- what is made bad by nothing stays clean, and is kept so where the packed refs are
pub stays_by : (old new : FileMap) → MakesNoneBad old new → StaysClean old new
stays_by old new bad = record { damage = record { before = bad.objects }; refs = bad.refs }

pub kept_clean : (old new : FileMap) → StaysClean old new → KeepsPacked old new → KeepsClean old new
kept_clean old new stays packed = record { stays = stays; packed = record { at = λ n other. ap (λ m. packed_at m n) packed } }

pub clean_by : (old new : FileMap) → MakesNoneBad old new → KeepsPacked old new → KeepsClean old new
clean_by old new bad packed = kept_clean old new (stays_by old new bad) packed
