use Rattle.std.proofs.Common.{rules, ◌≡◌, [], ℕ, List, None, Option, sym, ap, refl, ◌∙◌, subst}
use Rattle.std.specs.FinMap as names
use Rattle.vc_push.specs.PushView.{command_of, commands_of}
use Rattle.vc_push.specs.declared.reason.Reason.{Reason}
use Rattle.vc_push_rules.specs.Turn.{TurnNeeds}
use Rattle.vc_push_rules.specs.Verdict.{IsVerdict, is_branch, update_reasons}
use Rattle.vc_refs.specs.RefMap.{IsInRefs}
use Rattle.vc_session.proofs.TurnLemmas.{set_in_map}
use Rattle.vc_session.proofs.UpdateLemmas.{in_refs}
use Rattle.vc_session.specs.Together.{named_after}
use Rattle.vc_session.proofs.updating_all.judge_one.Goals as goal

pub insert-requires : goal.insert-requires
insert-requires c =
    let own = c.args.command.now.name.items in
    let named : c.in_ok-name.name ≡ own = c.in_ok-name.ensures in
    subst (λ (n : List ℕ). IsInRefs n) (sym named) (in_refs own (is_branch own) refl c.requires.inside)

pub returns-in-Some-clause-verdict : goal.returns-in-Some-clause-verdict
returns-in-Some-clause-verdict c =
    subst (λ (found : Option Reason). IsVerdict (TurnNeeds (names.get c.args.refs.now) (named_after [] (commands_of c.args.earlier.now)) (command_of c.args.command.now)) update_reasons found) c.in-Some.is c.judge_next.ensures

pub returns-in-Some-clause-refs : goal.returns-in-Some-clause-refs
returns-in-Some-clause-refs c = λ q. refl

pub returns-clause-verdict : goal.returns-clause-verdict
returns-clause-verdict c =
    let none : c.judge_next.result ≡ None = search rules in
    subst (λ (found : Option Reason). IsVerdict (TurnNeeds (names.get c.args.refs.now) (named_after [] (commands_of c.args.earlier.now)) (command_of c.args.command.now)) update_reasons found) none c.judge_next.ensures

pub returns-clause-refs : goal.returns-clause-refs
returns-clause-refs c =
    let packed = c.args.refs.now in
    let own = c.args.command.now.name.items in
    let id = c.args.command.now.new in
    let named : c.in_ok-name.name ≡ own = c.in_ok-name.ensures in
    set_in_map packed c.insert.new.self own id (c.in_ok-insert.ensures.ok ∙ ap (λ (n : List ℕ). names.insert packed n id) named)
