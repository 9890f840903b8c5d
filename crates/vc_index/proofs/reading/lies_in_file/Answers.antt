use Rattle.std.proofs.Common.{rules, ◌≡◌, ◌<◌, map, length, get_or, take, sym, ◌∙◌}
use Rattle.vc_index.specs.Reading.{has_front}
use Rattle.vc_index.proofs.FrontLemmas.{lies_from, lies_to}
use Rattle.vc_index.proofs.reading.lies_in_file.Goals.{then-shared-path, else-shared-path}
use Rattle.vc_index.proofs.reading.lies_in_file.Goals as goal

pub returns-then-path-shared-eq47 : goal.returns-then-path-shared-eq47
returns-then-path-shared-eq47 c = λ m so_far less.
    let fronts = map (λ f. f.now) c.args.fronts.now in
    let shared = c.shared_front-shared.ensures in
    let test : c.has_front.result ≡ has_front fronts (take c.shared_front-shared.result c.args.path.now) = search rules in
    let inside : c.shared_front-shared.result < length c.args.path.now = search rules in
    let slash : get_or c.args.path.now c.shared_front-shared.result 0 ≡ 47 = search rules in (
      λ yes. lies_from m c.args.last.now c.args.path.now fronts so_far less c.shared_front-shared.result shared.inside shared.shared shared.all (inside, slash, sym test ∙ yes),
      λ above.
          let found = lies_to m c.args.last.now c.args.path.now fronts so_far less c.shared_front-shared.result shared.inside shared.shared shared.all above in
          test ∙ found.2,
    )

pub returns-else-path-shared-eq47 : goal.returns-else-path-shared-eq47
returns-else-path-shared-eq47 c = λ m so_far less.
    let fronts = map (λ f. f.now) c.args.fronts.now in
    let shared = c.shared_front-shared.ensures in (
      λ yes. absurd (cc (yes, c.if-path-shared-eq47.false)),
      λ above.
          let found = lies_to m c.args.last.now c.args.path.now fronts so_far less c.shared_front-shared.result shared.inside shared.shared shared.all above in
          elim c.if-shared-path.branch [
            | then-shared-path w ↦ search (rules, found.1)
            | else-shared-path w ↦ search (rules, found.0)
          ],
    )
