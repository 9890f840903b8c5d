-- What names that are known tell of objects, so that a walk may stop at them.
use Rattle.vc_object_map.specs.Graph.{IsClosedUnder}
use Rattle.vc_object.specs.ObjectMap.{ObjectMap, links_in, parents_in}
use Rattle.vc_quarantine.specs.declared.known.Known.{Known}

-- all that the names reach is there, and those of commits lead to commits alone
pub record AreWhole (objects : ObjectMap) (known : Known) : Type 0 where
  pub closed : IsClosedUnder (links_in objects) known.objects.keys
  pub histories : IsClosedUnder (parents_in objects) known.histories.keys
