use Rattle.std.proofs.Common.{◌≡◌, List, Option, length, map, is_none, sym, ap, ◌∙◌}
use Rattle.std.specs.Prelude.{not}
use Rattle.std.proofs.Math.Bool.{not-not}
use Rattle.std.proofs.lemmas.List.{length-map}
use Rattle.vc_push.specs.PushView.{command_of, commands_of}
use Rattle.vc_push.specs.declared.reason.Reason.{Reason}
use Rattle.vc_push_rules.proofs.TurnLemmas.{passes_if_none}
use Rattle.vc_push_rules.specs.Turn.{all_pass, first_refusal}
use Rattle.vc_session.proofs.TurnLemmas.{told_none, verdict_by, verdicts_by}
use Rattle.vc_session.specs.Together.{refusal_told}
use Rattle.vc_session.proofs.updating_all.judge_together.Goals as goal

pub returns : goal.returns
returns c =
    let commands = c.args.commands.now in
    let cs = commands_of commands in
    let founds = c.in_ok-founds.founds.items in
    let refused = c.in_ok-refused.refused in
    let passes = c.is_none-passes.result in
    let told : refusal_told refused ≡ first_refusal cs founds = c.in_ok-refused.ensures ∙ ap (first_refusal cs) c.deref.ensures.value in
    let paired : length founds ≡ length cs = c.in_ok-founds.ensures.paired ∙ sym (length-map commands command_of) in
    let none : is_none refused ≡ passes = ap not c.is_none-passes.ensures ∙ not-not passes in
    let all : all_pass founds ≡ passes = passes_if_none cs founds paired ∙ ap is_none (sym told) ∙ told_none refused ∙ none in
    record {
      founds = founds;
      judged = c.in_ok-founds.ensures.judged;
      verdicts_are = c.in_ok-verdicts.ensures ∙ ap (λ (fs : List (Option Reason)). map (verdict_by passes) fs) c.deref-2.ensures.value ∙ verdicts_by founds passes all;
      refused_is = told;
    }
