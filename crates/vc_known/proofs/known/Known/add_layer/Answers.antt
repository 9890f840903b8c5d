use Rattle.std.proofs.Common.{◌≡◌, arith}
use Rattle.std.proofs.Math.ListN.{length-map}
use Rattle.std.proofs.lemmas.Grind.{common_steps}
use Rattle.vc_known.proofs.AddedLemmas.{Agrees-added, closed_added}
use Rattle.vc_known.specs.Known.{count_in}
use Rattle.vc_known.specs.Walked.{kind_met}
use Rattle.vc_known.proofs.known.Known.add_layer.Goals as goal

pub returns-clause-agrees : goal.returns-clause-agrees
returns-clause-agrees g c honest agrees reach =
    let objects = g.K.Objects.objects (g.K.Objects.state_of c.args.objects.now) in
    let old = c.args.self.now in
    let roots = c.args.roots.now in
    let walked = c.walk_down.new.walked in
    let count : c.len.result ≡ count_in old = omega (arith, c.len.ensures, length-map old.moments.items (λ roots. roots.items)) in
    let reached = rw (c.new-walked.ensures.met, count) at (c.in_ok-walk_down.ensures.reached honest) in
    let whole = rw count at (c.in_ok-walk_down.ensures.whole honest) in
    Agrees-added objects old c.place.new.self agrees roots walked.met.keys (kind_met walked) reached whole.kinds whole.read c.in_ok-place.ensures.places c.in_ok-place.ensures.moments c.in_ok-place.ensures.generations reach

pub returns-clause-closed : goal.returns-clause-closed
returns-clause-closed g c honest agrees =
    let objects = g.K.Objects.objects (g.K.Objects.state_of c.args.objects.now) in
    let old = c.args.self.now in
    let walked = c.walk_down.new.walked in
    let count : c.len.result ≡ count_in old = omega (arith, c.len.ensures, length-map old.moments.items (λ roots. roots.items)) in
    let reached = rw (c.new-walked.ensures.met, count) at (c.in_ok-walk_down.ensures.reached honest) in
    let whole = rw count at (c.in_ok-walk_down.ensures.whole honest) in
    closed_added objects old old agrees c.args.roots.now walked.met.keys (kind_met walked) reached whole.kinds whole.read

pub returns-in_err-walk_down-clause-refused : goal.returns-in_err-walk_down-clause-refused
returns-in_err-walk_down-clause-refused g c =
    let told = rw c.new-walked.ensures.met at c.in_err-walk_down.ensures.refused in
    grind (arith, common_steps, told)

pub walk_down-requires : goal.walk_down-requires
walk_down-requires g c honest = c.new-walked.ensures.whole (g.K.Objects.objects (g.K.Objects.state_of c.args.objects.now)) c.args.self.now c.len.result
