use Rattle.std.proofs.Common.{arith, rules, ◌≡◌, ◌+◌, ◌++◌, [], ◌∷◌, List, Option, length, length-append, take, sym, ap, ◌∙◌, refl, subst}
use Rattle.std.specs.FinMap as names
use Rattle.std.proofs.lemmas.List.{map_more, take_all}
use Rattle.vc_push.specs.Push.{CommandText}
use Rattle.vc_push.specs.PushView.{command_of, commands_of}
use Rattle.vc_push.specs.declared.command.Command.{Command}
use Rattle.vc_push.specs.declared.reason.Reason.{Reason}
use Rattle.vc_push_rules.specs.Turn.{JudgesInTurn, TurnNeeds}
use Rattle.vc_push_rules.specs.Verdict.{IsVerdict, refs_after, update_reasons}
use Rattle.vc_refs.proofs.LayeredListingLemmas.{same_map_of}
use Rattle.vc_refs.specs.Packing.{IsMapOf}
use Rattle.vc_refs.specs.RefMap.{RefMap}
use Rattle.vc_session.proofs.TurnLemmas.{judged_push, left_push, refs_in_turn, to_be_set_at}
use Rattle.vc_session.specs.Together.{named_after}
use Rattle.vc_session.proofs.updating_all.judge_in_turn.Goals as goal

pub judge_one-requires : goal.judge_one-requires
judge_one-requires c = to_be_set_at c.args.commands.now c.loop-i.i c.index-commands-i.result c.requires c.loop-i-test.true c.index-commands-i.is

pub loop-i-init : goal.loop-i-init
loop-i-init c =
    let none : c.new-founds.result.items ≡ [] = search rules in
    record {
      judged = subst (λ (fs : List (Option Reason)). JudgesInTurn (names.get c.args.refs) [] [] fs) (sym none) tt;
      left = subst (λ (fs : List (Option Reason)). IsMapOf (refs_in_turn (names.get c.args.refs) [] fs) c.args.refs) (sym none) (λ q. refl);
      count = ap length none;
    }

pub loop-i-preserved : goal.loop-i-preserved
loop-i-preserved c =
    let m : RefMap = names.get c.args.refs in
    let commands = c.args.commands.now in
    let i = c.loop-i.i in
    let so_far = c.loop-i.invariant in
    let founds = c.loop-i.founds.items in
    let command = c.index-commands-i.result in
    let found = c.in_ok-found.found in
    let front = commands_of (take i commands) in
    let pushed : c.push.new.self.items ≡ founds ++ found ∷ [] = search rules in
    let more : commands_of (take (i + 1) commands) ≡ front ++ command_of command ∷ [] = map_more command_of commands i command c.loop-i-test.true ∙ ap (λ (x : Command). front ++ command_of x ∷ []) (sym c.index-commands-i.is) in
    let now : names.get c.loop-i.left ≡ refs_in_turn m front founds = same_map_of (refs_in_turn m front founds) c.loop-i.left so_far.left in
    let judged : IsVerdict (TurnNeeds (names.get c.loop-i.left) (named_after [] (commands_of (take i commands))) (command_of command)) update_reasons found = rw c.split_at.ensures.front at c.in_ok-found.ensures.verdict in
    let one : IsVerdict (TurnNeeds (refs_in_turn m front founds) (named_after [] front) (command_of command)) update_reasons found =
    subst (λ (f : RefMap). IsVerdict (TurnNeeds f (named_after [] front) (command_of command)) update_reasons found) now judged in
    let left : IsMapOf (refs_after (refs_in_turn m front founds) (command_of command) found) c.judge_one.new.refs =
    subst (λ (f : RefMap). IsMapOf (refs_after f (command_of command) found) c.judge_one.new.refs) now c.in_ok-found.ensures.refs in
    record {
      judged =
          subst (λ (fs : List (Option Reason)). JudgesInTurn m [] (commands_of (take (i + 1) commands)) fs) (sym pushed)
          (subst (λ (cs : List CommandText). JudgesInTurn m [] cs (founds ++ found ∷ [])) (sym more) (judged_push m [] front founds (command_of command) found so_far.judged one));
      left =
          subst (λ (fs : List (Option Reason)). IsMapOf (refs_in_turn m (commands_of (take (i + 1) commands)) fs) c.judge_one.new.refs) (sym pushed)
          (subst (λ (cs : List CommandText). IsMapOf (refs_in_turn m cs (founds ++ found ∷ [])) c.judge_one.new.refs) (sym more)
          (subst (λ (f : RefMap). IsMapOf f c.judge_one.new.refs) (sym (left_push m [] front founds (command_of command) found so_far.judged)) left));
      count = omega (arith, ap length pushed, length-append founds (found ∷ []), so_far.count);
    }

pub returns-clause-judged : goal.returns-clause-judged
returns-clause-judged c =
    subst (λ (cs : List Command). JudgesInTurn (names.get c.args.refs) [] (commands_of cs) c.loop-i.founds.items) (take_all c.loop-i.i c.args.commands.now (omega (arith, c.loop-i-test.false))) c.loop-i.invariant.judged
