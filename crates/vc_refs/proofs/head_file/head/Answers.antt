use Rattle.std.proofs.Common.{rules, ◌≡◌, Some, sym, ap, ◌∙◌}
use Rattle.std.specs.Prelude.{codes}
use Rattle.std.specs.FinMap as files
use Rattle.vc_refs.specs.declared.heads.HeadText.TheVariants.{Says}
use Rattle.vc_refs.specs.Head.{read_head, said}
use Rattle.vc_refs.proofs.HeadLemmas.{head_of-absent, head_of-there, head_inside}
use Rattle.vc_refs.proofs.head_file.head.Goals as goal

pub returns-in_default-clause-found : goal.returns-in_default-clause-found
returns-in_default-clause-found g c = λ honest. sym (head_of-absent _ (search (rules, c.in_ok-bytes.ensures.found honest)))

pub returns-in-Says-clause-found : goal.returns-in-Says-clause-found
returns-in-Says-clause-found g c = λ honest.
    let there : files.get (g.F.Files.content c.args.files.now) (codes "HEAD") ≡ Some c.in-Some.bytes.items = search (rules, c.in_ok-bytes.ensures.found honest) in
    let says : read_head c.in-Some.bytes.items ≡ Says c.in-Says.head = search rules in
    sym (head_of-there _ _ there ∙ ap said says)

pub returns-in-Says-clause-inside : goal.returns-in-Says-clause-inside
returns-in-Says-clause-inside g c =
    let says : read_head c.in-Some.bytes.items ≡ Says c.in-Says.head = search rules in
    head_inside c.in-Some.bytes.items c.in-Says.head says
