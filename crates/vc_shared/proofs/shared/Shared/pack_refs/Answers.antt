use Rattle.std.proofs.Common.{◌≡◌, Ok, Err, false, inr, refl, rules, sym, true≢false, ◌∙◌}
use Rattle.vc_files.proofs.WearLemmas.{writes_told}
use Rattle.vc_model.specs.Question.Question.{PackRefs}
use Rattle.vc_model.specs.SharedCall.SharedCall.{Asks}
use Rattle.vc_local.specs.declared.fault.NodeFault.TheVariants.{Ref}
use Rattle.vc_local.proofs.CleanLemmas.{packs_only}
use Rattle.vc_local.proofs.LookLemmas.{looks_none, or_told}
use Rattle.vc_local.proofs.RefBlames.{packing_unwritten}
use Rattle.vc_quarantine.proofs.KeepingLemmas.{keeps_outside}
use Rattle.vc_shared.proofs.HoldingLemmas.{both_kept}
use Rattle.vc_shared.proofs.PackingLemmas.{packing_answers}
use Rattle.vc_shared.proofs.ResolvingLemmas.{down_declines}
use Rattle.vc_shared.proofs.shared.Shared.pack_refs.Goals as goal

pub returns-then-not-self-clause-answers : goal.returns-then-not-self-clause-answers
returns-then-not-self-clause-answers g c = λ honest. down_declines _ _ _ _ (Asks PackRefs) _ _ (λ never. cc never) refl refl refl (search rules)

pub returns-in-Ok-clause-answers : goal.returns-in-Ok-clause-answers
returns-in-Ok-clause-answers g c = λ honest.
    let content = g.F.Files.content in
    rw (← c.self.view_is, c.if-not-self.false) (packing_answers (content c.self.inside.files) (content c.pack.new.files) (c.in-Ok.ensures.packs.rest honest) (c.in-Ok.ensures.packs.kept honest) c.self.inside.slots (Ok tt) (c.in-Ok.ensures.packs.packed honest) tt)

pub returns-in-Err-clause-answers : goal.returns-in-Err-clause-answers
returns-in-Err-clause-answers g c = λ honest.
    let content = g.F.Files.content in
    rw (← c.self.view_is, c.if-not-self.false, c.takes_down.ensures, c.from-fault.ensures)
    (packing_answers (content c.self.inside.files) (content c.pack.new.files) (c.in-Err.ensures.packs.rest honest) (c.in-Err.ensures.packs.kept honest) c.self.inside.slots (Err (Ref c.in-Err.fault)) tt (c.in-Err.ensures.refused honest))

pub returns-in-Ok-clause-kept : goal.returns-in-Ok-clause-kept
returns-in-Ok-clause-kept g c = λ honest. rw (← c.self.view_is) (packs_only _ _ (c.in-Ok.ensures.packs.rest honest) (c.in-Ok.ensures.packs.kept honest))

pub returns-in-Err-clause-kept : goal.returns-in-Err-clause-kept
returns-in-Err-clause-kept g c = λ honest. rw (← c.self.view_is) (packs_only _ _ (c.in-Err.ensures.packs.rest honest) (c.in-Err.ensures.packs.kept honest))

pub returns-then-not-self-clause-refused : goal.returns-then-not-self-clause-refused
returns-then-not-self-clause-refused g c = λ honest up.
    let down : c.args.self.now.is_up ≡ false = search rules in
    absurd (true≢false (sym up ∙ down))

pub returns-in-Err-clause-refused : goal.returns-in-Err-clause-refused
returns-in-Err-clause-refused g c = λ honest up. rw (← c.self.view_is, c.from-fault.ensures) (c.in-Err.ensures.refused honest)

pub returns-in-Ok-clause-wear : goal.returns-in-Ok-clause-wear
returns-in-Ok-clause-wear g c = rw (← c.self.view_is) (writes_told c.in-Ok.ensures.wear (search rules) (search rules))

pub returns-in-Err-clause-wear : goal.returns-in-Err-clause-wear
returns-in-Err-clause-wear g c = rw (← c.self.view_is) (writes_told c.in-Err.ensures.wear (search rules) (search rules))

pub returns-in-Err-clause-err : goal.returns-in-Err-clause-err
returns-in-Err-clause-err g c = λ honest.
    rw (← c.self.view_is, c.from-fault.ensures) (packing_unwritten c.in-Err.fault (c.in-Err.ensures.packs.err honest))

pub returns-then-not-self-clause-looks : goal.returns-then-not-self-clause-looks
returns-then-not-self-clause-looks g c = λ honest. inr (looks_none (λ told. told))

pub returns-in-Ok-clause-looks : goal.returns-in-Ok-clause-looks
returns-in-Ok-clause-looks g c = λ honest. rw (← c.self.view_is) (or_told (c.in-Ok.ensures.looks honest) (λ there. there) (search rules))

pub returns-in-Err-clause-looks : goal.returns-in-Err-clause-looks
returns-in-Err-clause-looks g c = λ honest. rw (← c.self.view_is) (or_told (c.in-Err.ensures.looks honest) (λ there. there) (search rules))

pub invariant_of-self : goal.invariant_of-self
invariant_of-self g c = (c.self.invariant.0, λ honest. both_kept _ _ c.self.inside.generations c.self.inside.known (keeps_outside _ _ (c.in-Ok.ensures.packs.rest honest)) (c.self.invariant.1 honest))

pub invariant_of-self-in-Err : goal.invariant_of-self-in-Err
invariant_of-self-in-Err g c = (c.self.invariant.0, λ honest. both_kept _ _ c.self.inside.generations c.self.inside.known (keeps_outside _ _ (c.in-Err.ensures.packs.rest honest)) (c.self.invariant.1 honest))
