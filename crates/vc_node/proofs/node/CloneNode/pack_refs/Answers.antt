use Rattle.std.proofs.Common.{Ok, Err, ap, inr, refl, rules}
use Rattle.vc_model.specs.CloneCall.CloneCall.{Asks}
use Rattle.vc_model.specs.Question.Question.{PackRefs}
use Rattle.vc_node.proofs.CloneCallLemmas.{down_clone}
use Rattle.vc_node.proofs.KeepingLemmas.{both_kept, keeps_shown}
use Rattle.vc_local.proofs.LookLemmas.{looks_none}
use Rattle.vc_node.proofs.PackingLemmas.{packing_answers, packing_may}
use Rattle.vc_node.proofs.node.CloneNode.pack_refs.Goals as goal

pub returns-then-not-self-clause-answers : goal.returns-then-not-self-clause-answers
returns-then-not-self-clause-answers g c = λ honest. down_clone (Asks PackRefs) (λ never. cc never) _ _ _ _ _ _ refl refl refl (search rules)

pub returns-in-Ok-clause-answers : goal.returns-in-Ok-clause-answers
returns-in-Ok-clause-answers g c = λ honest.
    let content = g.F.Files.content in
    rw (← c.self.view_is, c.if-not-self.false) (packing_answers (content c.self.inside.files) (content c.pack_refs.new.files) _ (c.in-Ok.ensures.kept honest).same (c.in-Ok.ensures.kept honest).clean (Ok tt) (c.in-Ok.ensures.packed honest) tt)

pub returns-in-Err-clause-answers : goal.returns-in-Err-clause-answers
returns-in-Err-clause-answers g c = λ honest.
    let content = g.F.Files.content in
    rw (← c.self.view_is, c.if-not-self.false, c.fail.ensures.fault, ap content c.fail.ensures.files, c.fail.ensures.awaits, c.fail.ensures.up c.if-not-self.false)
    (packing_answers (content c.self.inside.files) (content c.pack_refs.new.files) _ (c.in-Err.ensures.kept honest).same (c.in-Err.ensures.kept honest).clean (Err c.in-Err.fault) tt (c.in-Err.ensures.refused honest))

pub invariant_of-self : goal.invariant_of-self
invariant_of-self g c = λ honest. (both_kept _ _ c.self.inside.known c.self.inside.generations (keeps_shown _ _ _ (c.in-Ok.ensures.kept honest).same refl) (c.self.invariant honest).0, tt)

pub invariant_of-self-in-Err : goal.invariant_of-self-in-Err
invariant_of-self-in-Err g c = λ honest. (both_kept _ _ c.self.inside.known c.self.inside.generations (keeps_shown _ _ _ (c.in-Err.ensures.kept honest).same refl) (c.self.invariant honest).0, tt)

pub returns-then-not-self-clause-looks : goal.returns-then-not-self-clause-looks
returns-then-not-self-clause-looks g c = λ honest awaited n waiting held. inr (looks_none (λ told. told))

pub returns-in-Ok-clause-looks : goal.returns-in-Ok-clause-looks
returns-in-Ok-clause-looks g c = λ honest. packing_may _ _ _ (search rules)

pub returns-in-Err-clause-looks : goal.returns-in-Err-clause-looks
returns-in-Err-clause-looks g c = λ honest. packing_may _ _ _ (search rules)

pub returns-in-Err-clause-err : goal.returns-in-Err-clause-err
returns-in-Err-clause-err g c = λ honest.
    let content = g.F.Files.content in
    rw (← c.self.view_is, ap content c.fail.ensures.files, c.fail.ensures.fault) (c.in-Err.ensures.err honest)
