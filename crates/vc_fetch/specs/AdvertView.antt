-- An Advert, and its reader, without where they lie in memory.
use Rattle.std.specs.Prelude.{ℕ, Vec, map}
use Rattle.std.specs.BTreeMap.{BTreeMap}
use Rattle.std.specs.FinMap.{from_entries}
use Rattle.std.specs.Global.{Global}
use Rattle.vc_object.specs.declared.id.ObjectId.{ObjectId}
use Rattle.vc_fetch.specs.Advert.{RefIds, AdvertText}
use Rattle.vc_fetch.specs.declared.advert.Advert.{Advert}
use Rattle.vc_fetch.specs.declared.advert.AdvertReader.{AdvertReader}

abbrev pub ref_ids : BTreeMap (Vec ℕ Global) ObjectId → RefIds
ref_ids refs = from_entries (map (λ e. (e.0.items, e.1)) refs.entries)

abbrev pub advert_text : Advert → AdvertText
advert_text advert = record { head = advert.head; refs = ref_ids advert.refs }

abbrev pub advert_state : AdvertReader → RefIds
advert_state reader = ref_ids reader.listed
