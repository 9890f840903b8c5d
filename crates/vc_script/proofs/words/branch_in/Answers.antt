use Rattle.std.proofs.Common.{rules, ◌≡◌, ◌++◌}
use Rattle.std.specs.Prelude.{codes}
use Rattle.vc_script.specs.Words.{name_in}
use Rattle.vc_script.proofs.NameLemmas.{branch_name}
use Rattle.vc_script.proofs.words.branch_in.Goals as goal

pub returns-clause-branch : goal.returns-clause-branch
returns-clause-branch c =
    let e : c.in_ok-found.found ≡ name_in (codes "refs/heads/" ++ c.args.word.now) = search rules in
    branch_name c.args.word.now c.in_ok-found.found e
