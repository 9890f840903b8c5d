use Rattle.std.proofs.Common.{◌≡◌, false, rules, sym, true≢false, ◌∙◌}
use Rattle.vc_history.proofs.StoredLemmas.{keeps_same}
use Rattle.vc_shared.proofs.HoldingLemmas.{both_kept}
use Rattle.vc_shared.proofs.ShowingLemmas.{only_faults, held_opening}
use Rattle.vc_shared.specs.Opening.{opening_text}
use Rattle.vc_shared.proofs.shared.Shared.opening.Goals as goal

pub returns-then-not-self-clause-only : goal.returns-then-not-self-clause-only
returns-then-not-self-clause-only g c = λ honest up.
    let down : c.args.self.now.is_up ≡ false = search rules in
    absurd (true≢false (sym up ∙ down))

pub returns-then-not-self-clause-refused : goal.returns-then-not-self-clause-refused
returns-then-not-self-clause-refused g c = λ honest up.
    let down : c.args.self.now.is_up ≡ false = search rules in
    absurd (true≢false (sym up ∙ down))

pub returns-in-Ok-clause-held : goal.returns-in-Ok-clause-held
returns-in-Ok-clause-held g c = λ honest.
    rw (← c.self.view_is) (held_opening (g.F.Files.content c.self.inside.files) c.self.inside.slots c.self.inside.is_up (opening_text c.in-Ok.opening) (c.in-Ok.ensures.shows honest))

pub returns-in-Ok-clause-shows : goal.returns-in-Ok-clause-shows
returns-in-Ok-clause-shows g c = λ honest. rw (← c.self.view_is) (c.in-Ok.ensures.shows honest)

pub returns-in-Err-clause-only : goal.returns-in-Err-clause-only
returns-in-Err-clause-only g c = λ honest.
    rw (← c.self.view_is) (only_faults (g.F.Files.content c.self.inside.files) c.self.inside.slots c.self.inside.is_up c.in-Err.fault (c.in-Err.ensures.refused honest))

pub returns-in-Err-clause-refused : goal.returns-in-Err-clause-refused
returns-in-Err-clause-refused g c = λ honest up. rw (← c.self.view_is) (c.in-Err.ensures.refused honest)

pub invariant_of-self : goal.invariant_of-self
invariant_of-self g c = (c.self.invariant.0, λ honest. both_kept _ _ c.self.inside.generations c.self.inside.known (keeps_same _ _ c.read_opening.ensures.same) (c.self.invariant.1 honest))

pub invariant_of-self-in-Err : goal.invariant_of-self-in-Err
invariant_of-self-in-Err g c = (c.self.invariant.0, λ honest. both_kept _ _ c.self.inside.generations c.self.inside.known (keeps_same _ _ c.read_opening.ensures.same) (c.self.invariant.1 honest))
