use Rattle.std.proofs.Common.{rules, ◌≡◌, true}
use Rattle.std.proofs.lemmas.Bool.{and_parts}
use Rattle.std.proofs.lemmas.Str.{IsUtf8-from_is_utf8}
use Rattle.std.specs.Str.{is_utf8}
use Rattle.vc_format.specs.Git.{git_is_legal}
use Rattle.vc_tracking.proofs.moving.legal_name.Goals as goal

pub returns-in_default : goal.returns-in_default
returns-in_default c =
    let name = c.args.name.now in
    let legal : git_is_legal name ≡ true = search rules in
    absurd (c.in_default.ensures.cases.0 (IsUtf8-from_is_utf8 name (and_parts (is_utf8 name) _ legal).0))
