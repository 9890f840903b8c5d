use Rattle.std.proofs.Common.{rules, ◌≡◌, refl, inr, true}
use Rattle.std.specs.Prelude.{codes}
use Rattle.std.specs.Path.{StripsPrefix}
use Rattle.vc_work_folder.specs.Own.{is_own}
use Rattle.vc_working.proofs.own_folder.own_path.Goals as goal

pub returns-then-is_own-clause-value : goal.returns-then-is_own-clause-value
returns-then-is_own-clause-value c =
    let strips : StripsPrefix c.args.store.now c.args.work.now c.as_str-own.result.now = search rules in
    let own : is_own (codes ".git") c.as_str-own.result.now ≡ true = search rules in
    inr (refl, inr (c.as_str-own.result.now, strips, own))
