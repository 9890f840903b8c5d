use Rattle.std.proofs.Common.{rules, ◌≡◌, ◌<◌, true, length, [], ◌∷◌, ◌++◌, map, sym, ◌∙◌}
use Rattle.std.specs.Prelude.{string_bytes, is_some}
use Rattle.vc_files.specs.FileMap.{paths_under}
use Rattle.vc_refs.proofs.ObstacleLemmas.{first_listed}
use Rattle.vc_refs.proofs.obstacle.first_in_the_way.Goals as goal

pub returns-clause-first : goal.returns-clause-first
returns-clause-first g c = λ honest.
    let content = g.F.Files.content c.args.files.now in
    let free = rw c.in_default.is at (c.in_ok-folder.ensures.first honest) in
    let listed : map string_bytes c.in_ok-paths.paths.items ≡ paths_under content (c.args.path.now ++ 47 ∷ []) = search (rules, c.in_ok-paths.ensures.listed honest) in
    let variant : (is_some c.next.result ≡ true → 0 < length c.in_ok-paths.paths.items) × (0 < length c.in_ok-paths.paths.items → is_some c.next.result ≡ true) = (λ h. search rules, λ h. search rules) in
    first_listed string_bytes content c.args.path.now c.in_ok-paths.paths.items c.next.new.self.rest.items c.next.result c.requires free listed (sym c.into_iter.ensures.rest ∙ c.next.ensures.items) variant
