use Rattle.std.proofs.Common.{inl, inr, refl, rules, subst, sym}
use Rattle.vc_model.specs.Question.Question.{Unread}
use Rattle.vc_model.specs.SharedCall.SharedCall.{Accept, Asks}
use Rattle.vc_local.proofs.CleanLemmas.{clean_same}
use Rattle.vc_local.proofs.LookLemmas.{looks_none}
use Rattle.vc_history.proofs.StoredLemmas.{numbers_kept}
use Rattle.vc_shared.proofs.SettledLemmas.{settled_answered, settled_answers, settled_clean, settled_err, settled_looks, settled_refusal, settled_wear}
use Rattle.vc_shared.proofs.SteppingLaws.{down_answers}
use Rattle.vc_shared.proofs.ArrivingLemmas.{changes_none}
use Rattle.vc_shared.specs.Accepting.{IsRefusedBytes}
use Rattle.vc_shared.specs.Pushing.{ChangesFree}
use Rattle.vc_shared.proofs.shared.Shared.accept.Goals as goal

pub returns-then-not-self-clause-answers : goal.returns-then-not-self-clause-answers
returns-then-not-self-clause-answers g c = λ honest m reads. down_answers (Accept m) _ (λ never. cc never) (record { answer = refl; sent = refl }) _ _ _ _ _ _ refl refl refl (search rules)

pub returns-then-not-self-clause-unread : goal.returns-then-not-self-clause-unread
returns-then-not-self-clause-unread g c = λ honest n unread. down_answers (Asks (Unread n)) _ (λ never. cc never) (record { answer = refl; sent = refl }) _ _ _ _ _ _ refl refl refl (search rules)

pub returns-then-not-self-clause-bad_file : goal.returns-then-not-self-clause-bad_file
returns-then-not-self-clause-bad_file g c = λ honest. inl refl

pub returns-then-not-self-clause-outside : goal.returns-then-not-self-clause-outside
returns-then-not-self-clause-outside g c = λ honest. changes_none _ _

pub returns-clause-answered : goal.returns-clause-answered
returns-clause-answered g c = λ honest.
    rw (← c.self.view_is) (settled_answered g.F.Files.content c.self.inside.files c.accept-accepted.new.files c.settle.new.self.files c.self.inside.slots c.accept-accepted.new.slots c.settle.new.self.slots c.self.inside.is_up c.settle.new.self.is_up c.accept-accepted.result c.settle.result
    c.settle.ensures.accepted c.settle.ensures.files c.settle.ensures.slots c.args.bytes.now (c.accept-accepted.ensures.answered honest))

pub returns-clause-outside : goal.returns-clause-outside
returns-clause-outside g c = λ honest. rw (← c.self.view_is) (subst (λ d. ChangesFree (g.F.Files.content c.self.inside.files) (g.F.Files.content d) c.self.inside.slots) (sym c.settle.ensures.files) (c.accept-accepted.ensures.outside honest))

pub returns-then-not-self-clause-clean : goal.returns-then-not-self-clause-clean
returns-then-not-self-clause-clean g c = λ honest. clean_same _ _ refl

pub returns-then-not-self-clause-looks : goal.returns-then-not-self-clause-looks
returns-then-not-self-clause-looks g c = λ m reads. inr (looks_none (λ told. told))

pub returns-clause-answers : goal.returns-clause-answers
returns-clause-answers g c = λ honest.
    rw (← c.self.view_is) (λ m reads. settled_answers g.F.Files.content c.self.inside.files c.accept-accepted.new.files c.settle.new.self.files c.self.inside.slots c.accept-accepted.new.slots c.settle.new.self.slots c.self.inside.is_up c.settle.new.self.is_up c.accept-accepted.result c.settle.result
    c.settle.ensures.accepted c.settle.ensures.files c.settle.ensures.slots (Accept m) c.if-not-self.false (c.settle.ensures.up c.if-not-self.false) (c.accept-accepted.ensures.answers honest m reads))

pub returns-clause-unread : goal.returns-clause-unread
returns-clause-unread g c = λ honest.
    rw (← c.self.view_is) (λ n unread. settled_answers g.F.Files.content c.self.inside.files c.accept-accepted.new.files c.settle.new.self.files c.self.inside.slots c.accept-accepted.new.slots c.settle.new.self.slots c.self.inside.is_up c.settle.new.self.is_up c.accept-accepted.result c.settle.result
    c.settle.ensures.accepted c.settle.ensures.files c.settle.ensures.slots (Asks (Unread n)) c.if-not-self.false (c.settle.ensures.up c.if-not-self.false) (c.accept-accepted.ensures.unread honest n unread))

pub returns-clause-bad_file : goal.returns-clause-bad_file
returns-clause-bad_file g c = λ honest.
    rw (← c.self.view_is) (settled_refusal (IsRefusedBytes (g.F.Files.content c.self.inside.files) c.self.inside.slots c.args.bytes.now) c.accept-accepted.result c.settle.result c.settle.ensures.accepted (c.accept-accepted.ensures.refused honest))

pub returns-clause-settles : goal.returns-clause-settles
returns-clause-settles g c = record {
  down = search rules;
  unchanged = search rules;
  up = search rules;
  slots =
      rw (← c.self.view_is) (settled_err g.F.Files.content c.self.inside.files c.accept-accepted.new.files c.settle.new.self.files c.self.inside.slots c.accept-accepted.new.slots c.settle.new.self.slots c.self.inside.is_up c.settle.new.self.is_up c.accept-accepted.result c.settle.result
      c.settle.ensures.accepted c.settle.ensures.files c.settle.ensures.slots c.accept-accepted.ensures.unchanged);
  tellable = search rules;
  learnt = search rules;
}

pub returns-clause-clean : goal.returns-clause-clean
returns-clause-clean g c = λ honest.
    rw (← c.self.view_is) (settled_clean g.F.Files.content c.self.inside.files c.accept-accepted.new.files c.settle.new.self.files c.self.inside.slots c.accept-accepted.new.slots c.settle.new.self.slots c.self.inside.is_up c.settle.new.self.is_up c.accept-accepted.result c.settle.result
    c.settle.ensures.accepted c.settle.ensures.files c.settle.ensures.slots (c.accept-accepted.ensures.good honest).bad (c.accept-accepted.ensures.outside honest))

pub returns-clause-wear : goal.returns-clause-wear
returns-clause-wear g c =
    rw (← c.self.view_is) (settled_wear g.F.Files.content c.self.inside.files c.accept-accepted.new.files c.settle.new.self.files c.self.inside.slots c.accept-accepted.new.slots c.settle.new.self.slots c.self.inside.is_up c.settle.new.self.is_up c.accept-accepted.result c.settle.result
    c.settle.ensures.accepted c.settle.ensures.files c.settle.ensures.slots c.accept-accepted.ensures.wear)

pub returns-clause-looks : goal.returns-clause-looks
returns-clause-looks g c =
    rw (← c.self.view_is) (λ m reads. settled_looks g.F.Files.content c.self.inside.files c.accept-accepted.new.files c.settle.new.self.files c.self.inside.slots c.accept-accepted.new.slots c.settle.new.self.slots c.self.inside.is_up c.settle.new.self.is_up c.accept-accepted.result c.settle.result
    c.settle.ensures.accepted c.settle.ensures.files c.settle.ensures.slots (c.accept-accepted.ensures.looks m reads))

pub invariant_of-self : goal.invariant_of-self
invariant_of-self g c = (c.accept-accepted.ensures.tellable, λ honest. (numbers_kept _ _ (c.accept-accepted.ensures.good honest).objects c.self.inside.generations (c.self.invariant.1 honest).0, c.accept-accepted.ensures.known honest))
