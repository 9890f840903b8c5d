use Rattle.std.proofs.Common.{rules}
use Rattle.vc_local.proofs.LookLemmas.{or_told}
use Rattle.vc_local.proofs.ShownLemmas.{shown_objects}
use Rattle.vc_local.proofs.CleanLemmas.{clean_put}
use Rattle.vc_local.proofs.local.write.Goals as goal

pub returns-clause-stored : goal.returns-clause-stored
returns-clause-stored g c = λ honest. shown_objects _ _ _ (c.in_ok-id.ensures.puts.outside honest) (c.in_ok-id.ensures.puts.objects honest)

pub returns-clause-kept : goal.returns-clause-kept
returns-clause-kept g c = λ honest. record {
  outside = c.in_ok-id.ensures.puts.outside honest;
  err = tt;
  stored = shown_objects _ _ _ (c.in_ok-id.ensures.puts.outside honest) (c.in_ok-id.ensures.puts.objects honest);
  clean = clean_put _ _ c.args.kind c.args.body.now c.in_ok-id.id c.in_ok-id.ensures.answers.name (c.in_ok-id.ensures.puts.files honest) (c.in_ok-id.ensures.puts.objects honest) (c.in_ok-id.ensures.puts.outside honest);
}

pub returns-in_err-id-clause-looks : goal.returns-in_err-id-clause-looks
returns-in_err-id-clause-looks g c = or_told c.in_err-id.ensures.looks (λ object. object) (search rules)

pub returns-clause-looks : goal.returns-clause-looks
returns-clause-looks g c = or_told c.in_ok-id.ensures.looks (λ object. object) (search rules)
