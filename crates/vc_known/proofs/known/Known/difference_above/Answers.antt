use Rattle.std.proofs.Common.{◌≡◌, ◌↔◌, ◌++◌, Contains, IsSome, arith, length}
use Rattle.std.proofs.lemmas.Grind.{common_steps}
use Rattle.std.proofs.lemmas.List.Elements.{Contains-append_right}
use Rattle.vc_graph.proofs.FaultLemmas.{IsTold-more}
use Rattle.vc_object.specs.ObjectMap.{links_in}
use Rattle.vc_object.specs.declared.id.ObjectId.{ObjectId}
use Rattle.vc_object_map.proofs.WalkLemmas.{Contains-added, IsClosedUnder-append, ReachedFrom-append_right}
use Rattle.vc_lemmas.proofs.Lists.{value_of}
use Rattle.vc_known.proofs.AddedLemmas.{ReachedFrom-second, closed_above}
use Rattle.vc_known.proofs.KindLemmas.{links-from_IsOfKind}
use Rattle.vc_known.proofs.LayerLemmas.{IsReachedBeyond-above}
use Rattle.vc_known.specs.Known.{layer_in, moments_in}
use Rattle.vc_known.specs.Layers.{IsMetAbove, above}
use Rattle.vc_known.specs.Walked.{kind_met, links_down_to}
use Rattle.vc_known.proofs.known.Known.difference_above.Goals as goal

pub returns-clause-reached : goal.returns-clause-reached
returns-clause-reached g c honest agrees reach id =
    let objects = g.K.Objects.objects (g.K.Objects.state_of c.args.objects.now) in
    let known = c.args.self.now in
    let count = c.args.count in
    let layers = layer_in known in
    let include = c.args.include.now in
    let exclude = c.args.exclude.now in
    let first = c.walk_down.new.walked.met.keys in
    let all = c.walk_down-2.new.walked.met.keys in
    let rest = c.in_ok-sorted_from.field-0.items in
    let excluded = rw c.new-walked.ensures.met at (c.in_ok-walk_down.ensures.reached honest) in
    let both = rw c.in_ok-walk_down.ensures.kept at (c.in_ok-walk_down-2.ensures.reached honest) in
    let place : c.len-excluded.result ≡ length first = c.len-excluded.ensures.len in
    let added : (y : ObjectId) → Contains rest y ↔ (Contains all y × ¬ Contains first y) = λ y.
    rw c.in_ok-walk_down-2.ensures.first at (rw place at (c.in_ok-sorted_from.ensures.later y)) in
    let own = Contains-added (links_down_to objects known count) (above layers count include) (above layers count exclude) first all rest excluded both added id in
    let law = IsReachedBeyond-above (links_in objects) (moments_in known) layers agrees.layers count exclude reach include id in
    (λ h. law.1 (own.0 h), λ h. own.1 (law.0 h))

pub returns-clause-closed : goal.returns-clause-closed
returns-clause-closed g c honest agrees moment =
    let objects = g.K.Objects.objects (g.K.Objects.state_of c.args.objects.now) in
    let known = c.args.self.now in
    let count = c.args.count in
    let layers = layer_in known in
    let include = c.args.include.now in
    let exclude = c.args.exclude.now in
    let first = c.walk_down.new.walked.met.keys in
    let all = c.walk_down-2.new.walked.met.keys in
    let excluded = rw c.new-walked.ensures.met at (c.in_ok-walk_down.ensures.reached honest) in
    let both = rw c.in_ok-walk_down.ensures.kept at (c.in_ok-walk_down-2.ensures.reached honest) in
    let whole_first = c.in_ok-walk_down.ensures.whole honest in
    let whole = rw c.in_ok-walk_down.ensures.kept at (c.in_ok-walk_down-2.ensures.whole honest) in
    let there_first : (x : ObjectId) → IsMetAbove (links_in objects) layers count exclude x → IsSome (links_in objects x) = λ x h.
    let kind = value_of (kind_met c.walk_down.new.walked x) (whole_first.read x ((excluded x).1 h)) in
    links-from_IsOfKind objects x kind.0 (whole_first.kinds x kind.0 kind.1) in
    let there : (x : ObjectId) → IsMetAbove (links_in objects) layers count include x → IsSome (links_in objects x) = λ x h.
    let at : Contains all x = (both x).1 (record { root = h.root; is_root = Contains-append_right first (above layers count include) h.root h.is_root; reaches = h.reaches }) in
    let kind = value_of (kind_met c.walk_down-2.new.walked x) (whole.read x at) in
    links-from_IsOfKind objects x kind.0 (whole.kinds x kind.0 kind.1) in
    IsClosedUnder-append (links_in objects) include exclude
    (closed_above objects known agrees count moment include there)
    (closed_above objects known agrees count moment exclude there_first)

pub returns-in_err-walk_down-clause-refused : goal.returns-in_err-walk_down-clause-refused
returns-in_err-walk_down-clause-refused g c =
    let objects = g.K.Objects.objects (g.K.Objects.state_of c.args.objects.now) in
    let damaged = g.K.Objects.damaged (g.K.Objects.state_of c.args.objects.now) in
    let h = rw c.new-walked.ensures.met at c.in_err-walk_down.ensures.refused in
    let told = λ (honest : g.K.Objects.is_honest). IsTold-more objects damaged c.args.exclude.now (c.args.include.now ++ c.args.exclude.now) (ReachedFrom-append_right (links_in objects) c.args.include.now c.args.exclude.now) _ (h honest) in
    grind (arith, common_steps, told)

pub returns-in_err-walk_down-2-clause-refused : goal.returns-in_err-walk_down-2-clause-refused
returns-in_err-walk_down-2-clause-refused g c =
    let objects = g.K.Objects.objects (g.K.Objects.state_of c.args.objects.now) in
    let damaged = g.K.Objects.damaged (g.K.Objects.state_of c.args.objects.now) in
    let first = c.walk_down.new.walked.met.keys in
    let excluded = rw c.new-walked.ensures.met at c.in_ok-walk_down.ensures.reached in
    let h = rw c.in_ok-walk_down.ensures.kept at c.in_err-walk_down-2.ensures.refused in
    let told = λ (honest : g.K.Objects.is_honest). IsTold-more objects damaged (first ++ c.args.include.now) (c.args.include.now ++ c.args.exclude.now)
    (ReachedFrom-second objects (layer_in c.args.self.now) c.args.count c.args.include.now c.args.exclude.now first (λ x at. (excluded honest x).0 at)) _ (h honest) in
    grind (arith, common_steps, told)

pub walk_down-requires : goal.walk_down-requires
walk_down-requires g c honest = c.new-walked.ensures.whole (g.K.Objects.objects (g.K.Objects.state_of c.args.objects.now)) c.args.self.now c.args.count
