use Rattle.std.proofs.Common.{◌≡◌, Ok, Err, ap, false, inr, refl, rules, sym, true≢false, ◌∙◌}
use Rattle.std.specs.Prelude.{not}
use Rattle.vc_history.proofs.GenerationLemmas.{agrees_where_none}
use Rattle.vc_history.specs.Numbering.{numbers}
use Rattle.vc_local.proofs.CleanLemmas.{clean_same}
use Rattle.vc_local.proofs.LookLemmas.{looks_none}
use Rattle.vc_local.specs.NodeFault.{takes_down}
use Rattle.vc_model.specs.Clone.{IsReached}
use Rattle.vc_model.specs.CloneCall.CloneCall.{Prune}
use Rattle.vc_pruning.proofs.PruningLemmas.{clean_of, prunes_none}
use Rattle.vc_rules.specs.Git.{git}
use Rattle.vc_node.proofs.CloneCallLemmas.{down_clone}
use Rattle.vc_node.proofs.PruningAnswers.{pruning_answers, pruning_may}
use Rattle.vc_node.proofs.node.CloneNode.prune.Goals as goal

-- ---- a node that is down
pub returns-then-not-self-clause-answers : goal.returns-then-not-self-clause-answers
returns-then-not-self-clause-answers g c = λ honest. down_clone Prune (λ never. cc never) _ _ _ _ _ _ refl refl refl (search rules)

pub returns-then-not-self-clause-some : goal.returns-then-not-self-clause-some
returns-then-not-self-clause-some g c = λ honest. prunes_none (IsReached git) _ _ refl

pub returns-then-not-self-clause-refused : goal.returns-then-not-self-clause-refused
returns-then-not-self-clause-refused g c = λ honest up.
    let down : c.args.self.now.is_up ≡ false = search rules in
    absurd (true≢false (sym up ∙ down))

pub returns-then-not-self-clause-err : goal.returns-then-not-self-clause-err
returns-then-not-self-clause-err g c = λ honest. inr refl

pub returns-then-not-self-clause-settles : goal.returns-then-not-self-clause-settles
returns-then-not-self-clause-settles g c =
    let down : c.args.self.now.is_up ≡ false = search rules in
    record { down = λ is. refl; unchanged = λ is. refl; up = λ up. absurd (true≢false (sym up ∙ down)); awaits = refl; forgets = λ up. absurd (true≢false (sym up ∙ down)) }

pub returns-then-not-self-clause-clean : goal.returns-then-not-self-clause-clean
returns-then-not-self-clause-clean g c = λ honest. clean_same _ _ refl

pub returns-then-not-self-clause-looks : goal.returns-then-not-self-clause-looks
returns-then-not-self-clause-looks g c = λ honest awaited n waiting held. inr (looks_none (λ told. told))

-- ---- what nothing needs is gone
pub returns-in-Ok-clause-answers : goal.returns-in-Ok-clause-answers
returns-in-Ok-clause-answers g c = λ honest.
    let content = g.F.Files.content in
    rw (← c.self.view_is, c.if-not-self.false) (pruning_answers (content c.self.inside.files) (content c.prune.new.files) _ (Ok c.in-Ok.removed) (c.in-Ok.ensures.pruned honest) (c.in-Ok.ensures.some honest) tt)

pub returns-in-Ok-clause-pruned : goal.returns-in-Ok-clause-pruned
returns-in-Ok-clause-pruned g c = λ honest. rw (← c.self.view_is) (c.in-Ok.ensures.pruned honest)

pub returns-in-Ok-clause-some : goal.returns-in-Ok-clause-some
returns-in-Ok-clause-some g c = λ honest. rw (← c.self.view_is) (c.in-Ok.ensures.some honest)

pub returns-in-Ok-clause-read : goal.returns-in-Ok-clause-read
returns-in-Ok-clause-read g c = λ honest. rw (← c.self.view_is) (c.in-Ok.ensures.read honest)

pub returns-in-Ok-clause-settles : goal.returns-in-Ok-clause-settles
returns-in-Ok-clause-settles g c =
    rw (← c.self.view_is) (record {
      down = λ down. absurd (true≢false (sym c.if-not-self.false ∙ down));
      unchanged = λ down. absurd (true≢false (sym c.if-not-self.false ∙ down));
      up = λ was. c.if-not-self.false;
      awaits = refl;
      forgets = λ was. record { none = c.new-2.ensures.none; due = search rules };
    })

pub returns-in-Ok-clause-clean : goal.returns-in-Ok-clause-clean
returns-in-Ok-clause-clean g c = λ honest.
    let content = g.F.Files.content in
    rw (← c.self.view_is) (clean_of (content c.self.inside.files) (content c.prune.new.files) (c.in-Ok.ensures.some honest).spares)

pub returns-in-Ok-clause-looks : goal.returns-in-Ok-clause-looks
returns-in-Ok-clause-looks g c = λ honest. pruning_may _ _ _ (search rules)

-- ---- a prune that ended early
pub returns-in-Err-clause-answers : goal.returns-in-Err-clause-answers
returns-in-Err-clause-answers g c = λ honest.
    let content = g.F.Files.content in
    rw (← c.self.view_is, c.if-not-self.false, c.fail.ensures.fault, ap content c.fail.ensures.files, c.fail.ensures.awaits, c.fail.ensures.up c.if-not-self.false)
    (pruning_answers (content c.self.inside.files) (content c.prune.new.files) _ (Err c.in-Err.fault) tt (c.in-Err.ensures.some honest) (c.in-Err.ensures.refused honest))

pub returns-in-Err-clause-some : goal.returns-in-Err-clause-some
returns-in-Err-clause-some g c = λ honest.
    let content = g.F.Files.content in
    rw (← c.self.view_is, ap content c.fail.ensures.files) (c.in-Err.ensures.some honest)

pub returns-in-Err-clause-refused : goal.returns-in-Err-clause-refused
returns-in-Err-clause-refused g c = λ honest up. rw (← c.self.view_is, c.fail.ensures.fault) (c.in-Err.ensures.refused honest)

pub returns-in-Err-clause-settles : goal.returns-in-Err-clause-settles
returns-in-Err-clause-settles g c =
    rw (← c.self.view_is) (record {
      down = λ down. absurd (true≢false (sym c.if-not-self.false ∙ down));
      unchanged = λ down. absurd (true≢false (sym c.if-not-self.false ∙ down));
      up = λ was. c.fail.ensures.up c.if-not-self.false ∙ ap (λ e. not (takes_down e)) (sym c.fail.ensures.fault);
      awaits = c.fail.ensures.awaits;
      forgets = λ was. rw (c.fail.ensures.learnt) (record { none = c.new-2.ensures.none; due = search rules });
    })

pub returns-in-Err-clause-clean : goal.returns-in-Err-clause-clean
returns-in-Err-clause-clean g c = λ honest.
    let content = g.F.Files.content in
    rw (← c.self.view_is, ap content c.fail.ensures.files) (clean_of (content c.self.inside.files) (content c.prune.new.files) (c.in-Err.ensures.some honest).spares)

pub returns-in-Err-clause-err : goal.returns-in-Err-clause-err
returns-in-Err-clause-err g c = λ honest.
    let content = g.F.Files.content in
    rw (← c.self.view_is, ap content c.fail.ensures.files, c.fail.ensures.fault) (c.in-Err.ensures.err honest)

pub returns-in-Err-clause-looks : goal.returns-in-Err-clause-looks
returns-in-Err-clause-looks g c = λ honest. pruning_may _ _ _ (search rules)

-- ---- what is kept of the last push, and of generations, is nothing
pub invariant_of-self : goal.invariant_of-self
invariant_of-self g c = λ honest. ((c.new.ensures.agrees _, agrees_where_none _ (numbers c.new-2.result) c.new-2.ensures.none), tt)

pub invariant_of-self-in-Err : goal.invariant_of-self-in-Err
invariant_of-self-in-Err g c = λ honest. ((c.new.ensures.agrees _, agrees_where_none _ (numbers c.new-2.result) c.new-2.ensures.none), tt)
