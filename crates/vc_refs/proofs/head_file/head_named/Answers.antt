use Rattle.std.proofs.Common.{rules, ◌≡◌, false, Some, None, sym}
use Rattle.std.specs.Prelude.{bytes_eq, codes, if◌then◌else◌}
use Rattle.std.proofs.lemmas.Bool.{false_from_ne_true}
use Rattle.std.proofs.lemmas.Str.{IsUtf8-from_is_utf8, is_utf8-from_IsUtf8}
use Rattle.vc_refs.specs.RefMap.{is_ref}
use Rattle.vc_refs.proofs.HeadLemmas.{name_said-bad, name_said-branch}
use Rattle.vc_refs.proofs.head_file.head_named.Goals as goal

pub returns-in_default : goal.returns-in_default
returns-in_default c =
    let other : bytes_eq c.args.name.now (codes "HEAD") ≡ false = search rules in
    sym (name_said-bad c.args.name.now other (false_from_ne_true _ (λ text. c.in_default.ensures.cases.0 (IsUtf8-from_is_utf8 c.args.name.now text))))

pub returns-in-Some : goal.returns-in-Some
returns-in-Some c =
    let other : bytes_eq c.args.name.now (codes "HEAD") ≡ false = search rules in
    let at_path : Some c.in-Some.name ≡ (if is_ref c.in-Ok.path.now then Some c.in-Ok.path.now else None) = rw c.in-Some.is at c.in_ok-name.ensures in
    let found : Some c.in-Some.name ≡ (if is_ref c.args.name.now then Some c.args.name.now else None) = rw (← c.in-Ok.ensures.cases.0) at_path in
    sym (name_said-branch c.args.name.now c.in-Some.name other (is_utf8-from_IsUtf8 c.args.name.now c.in-Ok.ensures.cases.1) found)
