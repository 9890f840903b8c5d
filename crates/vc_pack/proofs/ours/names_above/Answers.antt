use Rattle.std.proofs.Common.{◌↔◌, ◌++◌, Contains}
use Rattle.vc_pack.proofs.OursLemmas.{known_of, names_reached}
use Rattle.vc_known.specs.Known.{count_in, layer_in}
use Rattle.vc_known.specs.Layers.{IsReachedAbove}
use Rattle.vc_object.specs.ObjectMap.{links_in}
use Rattle.vc_object.specs.declared.id.ObjectId.{ObjectId as Id}
use Rattle.vc_object_map.specs.Store.{objects}
use Rattle.vc_pack.proofs.ours.names_above.Goals as goal

pub returns-clause-names : goal.returns-clause-names
returns-clause-names g c honest agrees reach id asked =
    let map = objects (g.F.Files.content c.args.files.now) in
    let known = c.args.known.now in
    let roots = c.args.roots.now in
    let wants = c.args.want.now.wants.items in
    let haves = c.args.want.now.haves.items in
    let above = c.in_ok-ids.ids.items in
    let names = c.in_ok-names.names.items in
    let reached = rw (c.moments-count.ensures, c.new.ensures.files) at c.in_ok-ids.ensures.reached in
    let found : (x : Id) → Contains above x ↔ IsReachedAbove (links_in map) (layer_in known) (count_in known) roots x = reached honest agrees in
    let all : (x : Id) → Contains names x ↔ Contains ((above ++ known_of known wants) ++ known_of known haves) x =
    rw (c.deref-3.ensures.value, c.in_ok-add_known-2.ensures, c.in_ok-add_known.ensures, c.deref-2.ensures.value, c.deref.ensures.value) at c.in_ok-names.ensures.same in
    names_reached map known roots agrees reach wants haves above names found all id asked
