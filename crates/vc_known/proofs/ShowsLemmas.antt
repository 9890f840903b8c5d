-- What a look shows among stored and carried objects.
use Rattle.std.proofs.Common.{◌≡◌, Option, Some, None, ap, ◌∙◌}
use Rattle.std.specs.Option.{option_or}
use Rattle.vc_object.specs.Decoding.{StoredObject}
use Rattle.vc_object.specs.ObjectMap.{ObjectMap}
use Rattle.vc_object.specs.declared.id.ObjectId.{ObjectId}
use Rattle.vc_object_map.specs.Overlay.{with_carried}
use Rattle.vc_known.specs.Seen.{Shows}
use Rattle.vc_known.specs.declared.seen.Seen.{Seen}

module _ (stored carried : ObjectMap) (id : ObjectId) where
  with_carried-stored : (found : Option StoredObject) → stored id ≡ found → with_carried stored carried id ≡ option_or found (carried id)
  unfolding with_carried
  with_carried-stored found is = ap (λ (o : Option StoredObject). option_or o (carried id)) is

  pub with_carried-none : stored id ≡ None → carried id ≡ None → with_carried stored carried id ≡ None
  with_carried-none absent none = with_carried-stored None absent ∙ none

  -- what is stored is shown
  pub Shows-stored : (seen : Seen) → Shows stored id seen → Shows (with_carried stored carried) id seen
  Shows-stored seen shows = record { object = shows.object; there = with_carried-stored (Some shows.object) shows.there; kind = shows.kind; links = shows.links }

  -- and what is carried, where nothing is stored
  pub Shows-carried : (seen : Seen) → stored id ≡ None → Shows carried id seen → Shows (with_carried stored carried) id seen
  Shows-carried seen absent shows = record { object = shows.object; there = with_carried-stored None absent ∙ shows.there; kind = shows.kind; links = shows.links }
