use Rattle.std.proofs.Common.{◌≡◌, Err, Ok, ap, false, inl, refl, rules, sym, true≢false, ◌∙◌}
use Rattle.std.specs.Prelude.{not}
use Rattle.vc_history.proofs.GenerationLemmas.{agrees_where_none}
use Rattle.vc_history.specs.Numbering.{numbers}
use Rattle.vc_local.proofs.CleanLemmas.{clean_same}
use Rattle.vc_model.specs.SharedCall.SharedCall.{Prune}
use Rattle.vc_pruning.proofs.PruningLemmas.{clean_of}
use Rattle.vc_shared.proofs.PruningLemmas.{prune_answers, spares_of}
use Rattle.vc_shared.proofs.ResolvingLemmas.{down_declines}
use Rattle.vc_shared.proofs.shared.Shared.prune.Goals as goal

-- ---- a node that is down
pub returns-then-not-self-clause-answers : goal.returns-then-not-self-clause-answers
returns-then-not-self-clause-answers g c = λ honest. down_declines _ _ _ _ Prune _ _ (λ never. cc never) refl refl refl (search rules)

pub returns-then-not-self-clause-early : goal.returns-then-not-self-clause-early
returns-then-not-self-clause-early g c = λ honest. inl refl

pub returns-then-not-self-clause-refused : goal.returns-then-not-self-clause-refused
returns-then-not-self-clause-refused g c = λ honest up.
    let down : c.args.self.now.is_up ≡ false = search rules in
    absurd (true≢false (sym up ∙ down))

pub returns-then-not-self-clause-clean : goal.returns-then-not-self-clause-clean
returns-then-not-self-clause-clean g c = λ honest. clean_same _ _ refl

pub returns-then-not-self-clause-settles : goal.returns-then-not-self-clause-settles
returns-then-not-self-clause-settles g c =
    let down : c.args.self.now.is_up ≡ false = search rules in
    record { down = λ is. refl; unchanged = λ is. refl; up = λ up. absurd (true≢false (sym up ∙ down)); slots = refl; forgets = λ up. absurd (true≢false (sym up ∙ down)) }

-- ---- what nothing needs is gone
pub returns-in-Ok-clause-answers : goal.returns-in-Ok-clause-answers
returns-in-Ok-clause-answers g c = λ honest.
    let content = g.F.Files.content in
    rw (← c.self.view_is, c.if-not-self.false) (prune_answers (content c.self.inside.files) (content c.prune.new.files) c.self.inside.slots (Ok c.in-Ok.removed) (c.in-Ok.ensures.pruned honest) tt tt)

pub returns-in-Ok-clause-pruned : goal.returns-in-Ok-clause-pruned
returns-in-Ok-clause-pruned g c = λ honest. rw (← c.self.view_is) (c.in-Ok.ensures.pruned honest)

pub returns-in-Ok-clause-clean : goal.returns-in-Ok-clause-clean
returns-in-Ok-clause-clean g c = λ honest.
    let content = g.F.Files.content in
    rw (← c.self.view_is) (clean_of _ _ (spares_of (content c.self.inside.files) (content c.prune.new.files) c.self.inside.slots (Ok c.in-Ok.removed) (c.in-Ok.ensures.pruned honest) tt))

pub returns-in-Ok-clause-settles : goal.returns-in-Ok-clause-settles
returns-in-Ok-clause-settles g c =
    rw (← c.self.view_is) (record {
      down = λ down. absurd (true≢false (sym c.if-not-self.false ∙ down));
      unchanged = λ down. absurd (true≢false (sym c.if-not-self.false ∙ down));
      up = λ was. c.if-not-self.false;
      slots = refl;
      forgets = λ was. record { none = c.new.ensures.none; due = search rules };
    })

-- ---- a prune that ended early
pub returns-in-Err-clause-answers : goal.returns-in-Err-clause-answers
returns-in-Err-clause-answers g c = λ honest.
    let content = g.F.Files.content in
    rw (← c.self.view_is, c.if-not-self.false, c.takes_down.ensures)
    (prune_answers (content c.self.inside.files) (content c.prune.new.files) c.self.inside.slots (Err c.in-Err.fault) tt (c.in-Err.ensures.early honest) (c.in-Err.ensures.refused honest))

pub returns-in-Err-clause-early : goal.returns-in-Err-clause-early
returns-in-Err-clause-early g c = λ honest. rw (← c.self.view_is) (c.in-Err.ensures.early honest)

pub returns-in-Err-clause-refused : goal.returns-in-Err-clause-refused
returns-in-Err-clause-refused g c = λ honest up. rw (← c.self.view_is) (c.in-Err.ensures.refused honest)

pub returns-in-Err-clause-clean : goal.returns-in-Err-clause-clean
returns-in-Err-clause-clean g c = λ honest.
    let content = g.F.Files.content in
    rw (← c.self.view_is) (clean_of _ _ (spares_of (content c.self.inside.files) (content c.prune.new.files) c.self.inside.slots (Err c.in-Err.fault) tt (c.in-Err.ensures.early honest)))

pub returns-in-Err-clause-settles : goal.returns-in-Err-clause-settles
returns-in-Err-clause-settles g c =
    rw (← c.self.view_is) (record {
      down = λ down. absurd (true≢false (sym c.if-not-self.false ∙ down));
      unchanged = λ down. absurd (true≢false (sym c.if-not-self.false ∙ down));
      up = λ was. ap not c.takes_down.ensures;
      slots = refl;
      forgets = λ was. record { none = c.new.ensures.none; due = search rules };
    })

-- ---- numbers of nothing agree with all that is left
pub invariant_of-self : goal.invariant_of-self
invariant_of-self g c = (c.self.invariant.0, λ honest. (agrees_where_none _ (numbers c.new.result) c.new.ensures.none, c.new-3.ensures.agrees _))

pub invariant_of-self-in-Err : goal.invariant_of-self-in-Err
invariant_of-self-in-Err g c = (c.self.invariant.0, λ honest. (agrees_where_none _ (numbers c.new.result) c.new.ensures.none, c.new-3.ensures.agrees _))
