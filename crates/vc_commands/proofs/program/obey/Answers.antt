use Rattle.std.proofs.Common.{◌≡◌, Ok, List, Option, inl, inr, map, subst, sym, rules}
use Rattle.clap.specs.Walk.{Row, Text}
use Rattle.clap.specs.Words.{app_of}
use Rattle.vc_commands.proofs.RunLemmas.{all_stay, ends_explained, ends_map, never_err, not_true}
use Rattle.vc_commands.specs.Performs.{Found}
use Rattle.vc_commands.specs.Running.{Runs, RunsFor}
use Rattle.vc_commands.specs.Running.RunsFor.{early}
use Rattle.vc_commands.proofs.program.obey.Goals as goal

pub returns-in-Ok : goal.returns-in-Ok
returns-in-Ok g c =
    ends_map _ _ c.answer.result (λ status runs. inr (app_of c.in_ok-program.program, c.in_ok-program.ensures.program, inr (rw (← (c.in-Ok.ensures.matches c.in_ok-program.ensures.simple).1) runs))) c.answer.ensures

pub returns-in-Err : goal.returns-in-Err
returns-in-Err g c =
    ends_explained _ c.explain.result c.explain.ensures.explained
    (λ status is told. inr (
      app_of c.in_ok-program.program,
      c.in_ok-program.ensures.program,
      inl record {
        untaken = not_true _ (λ takes. never_err c.explain.result status is (c.explain.ensures.memory (c.in-Err.ensures.passes takes)));
        same = all_stay _ _;
        told = told;
      },
    ))
    (λ status told. inr (app_of c.in_ok-program.program, c.in_ok-program.ensures.program, inr (early (all_stay _ _) told)))
