use Rattle.std.proofs.Common.{rules, ◌≡◌, Bool, true, false, List, ℕ, Option, sym, ap, ◌∙◌, subst}
use Rattle.std.proofs.lemmas.Option.{same_Some}
use Rattle.vc_files.specs.FileMap.{FileMap}
use Rattle.vc_format.specs.Git.{git_is_legal}
use Rattle.vc_history.specs.Stored.{AgreesIn}
use Rattle.vc_object.specs.declared.id.ObjectId.{ObjectId}
use Rattle.vc_refs.specs.Refs.{refs}
use Rattle.vc_push_rules.specs.Verdict.{is_branch}
use Rattle.vc_object_map.specs.Store.{objects}
use Rattle.vc_tracking.specs.Moving.{IsDecided, MayTake, follower}
use Rattle.vc_tracking.proofs.MovingLemmas.{legal_found, undecided}
use Rattle.vc_tracking.proofs.moving.find_follower.Goals as goal

pub follower-requires : goal.follower-requires
follower-requires g c =
    let found = legal_found (git_is_legal c.args.name.now) c.args.name.now c.in-Some.name (sym c.in-Some.is ∙ c.in_ok-name.ensures) in
    subst (λ (n : List ℕ). git_is_legal n ≡ true) (sym found.1) found.0

pub returns-then-not-takes-clause-found : goal.returns-then-not-takes-clause-found
returns-then-not-takes-clause-found g c honest agrees whole to may =
    let content = g.F.Files.content c.args.files.now in
    let named : c.in-Some.name ≡ c.args.name.now = (legal_found (git_is_legal c.args.name.now) c.args.name.now c.in-Some.name (sym c.in-Some.is ∙ c.in_ok-name.ensures)).1 in
    let is : c.in-Some-2.to ≡ to = same_Some c.in-Some-2.to to (sym c.in-Some-2.is ∙ c.in_ok-to.ensures.name ∙ ap (λ (n : List ℕ). follower c.args.followed n) named ∙ may.follows) in
    let branch : c.is_branch-is_branch.result ≡ is_branch c.args.name.now = c.is_branch-is_branch.ensures ∙ ap is_branch named in
    let value : c.in_ok-current.current ≡ refs content to = c.in_ok-current.ensures.found honest ∙ ap (refs content) is in
    let takes : MayTake (objects content) c.is_branch-is_branch.result c.in_ok-current.current c.args.id.now =
    subst (λ (b : Bool). MayTake (objects content) b c.in_ok-current.current c.args.id.now) (sym branch)
    (subst (λ (v : Option ObjectId). MayTake (objects content) (is_branch c.args.name.now) v c.args.id.now) (sym value) may.takes) in
    let at : g.F.Files.content c.new-store.result.files.now ≡ content = search rules in
    let there : AgreesIn (g.F.Files.content c.new-store.result.files.now) c.args.generations.now = subst (λ (f : FileMap). AgreesIn f c.args.generations.now) (sym at) agrees in
    let decided : IsDecided c.in_ok-takes.takes (MayTake (objects content) c.is_branch-is_branch.result c.in_ok-current.current c.args.id.now) = search (rules, c.in_ok-takes.ensures.takes honest there) in
    let no : c.in_ok-takes.takes ≡ false = search rules in
    undecided c.in_ok-takes.takes (MayTake (objects content) c.is_branch-is_branch.result c.in_ok-current.current c.args.id.now) no decided takes

pub get_over-requires-clause-read : goal.get_over-requires-clause-read
get_over-requires-clause-read g c = c.requires
