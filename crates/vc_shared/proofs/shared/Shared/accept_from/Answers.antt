use Rattle.std.proofs.Common.{ap, rules, subst, sym}
use Rattle.vc_history.proofs.StoredLemmas.{numbers_kept}
use Rattle.vc_files.proofs.WearLemmas.{writes_none}
use Rattle.vc_local.proofs.BesideLemmas.{clean_by}
use Rattle.vc_local.specs.Clean.{KeepsClean}
use Rattle.vc_quarantine.specs.Learning.{learnt_in}
use Rattle.vc_shared.proofs.ArrivingLemmas.{changes_none}
use Rattle.vc_shared.proofs.CallLemmas.{kept_through}
use Rattle.vc_shared.proofs.ComingLemmas.{packed_free}
use Rattle.vc_shared.proofs.NextLemmas.{down_accepts, down_keeps, down_no_device, known_accepts, next_accepts, next_lost, next_none}
use Rattle.vc_shared.proofs.LossLemmas.{loss_of_down, loss_of_same}
use Rattle.vc_shared.specs.Pushing.{ChangesFree}
use Rattle.vc_shared.proofs.shared.Shared.accept_from.Goals as goal

pub returns-then-not-self-clause-accepts : goal.returns-then-not-self-clause-accepts
returns-then-not-self-clause-accepts g c =
    down_accepts g.F.Files.honest (g.R.Source.remaining c.args.reader.now) (g.R.Source.remaining c.skip_message.new.reader) (g.F.Files.content c.args.self.now.files) c.args.self.now.slots c.skip_message.result c.refuse_down.result c.args.self.now.is_up
    (search rules) c.refuse_down.ensures c.skip_message.ensures.message c.skip_message.ensures.end c.skip_message.ensures.fault

pub returns-then-not-self-clause-known : goal.returns-then-not-self-clause-known
returns-then-not-self-clause-known g c = λ m bytes rest is reads.
    known_accepts g.F.Files.honest (g.R.Source.remaining c.args.reader.now) (g.R.Source.remaining c.skip_message.new.reader) (g.F.Files.content c.args.self.now.files) (g.F.Files.content c.args.self.now.files) c.args.self.now.slots c.args.self.now.slots
    c.args.self.now.is_up c.args.self.now.is_up c.refuse_down.result (returns-then-not-self-clause-accepts g c) m bytes rest is reads

pub returns-then-not-self-clause-wear : goal.returns-then-not-self-clause-wear
returns-then-not-self-clause-wear g c = writes_none (down_no_device c.skip_message.result c.refuse_down.result c.refuse_down.ensures)

pub returns-clause-accepts : goal.returns-clause-accepts
returns-clause-accepts g c =
    rw (← c.self.view_is) (next_accepts g.F.Files.content c.self.inside.files c.take_next-accepted.new.files c.settle_next.new.self.files c.self.inside.slots c.take_next-accepted.new.slots c.settle_next.new.self.slots c.settle_next.new.self.is_up
    c.take_next-accepted.result c.settle_next.result c.settle_next.ensures.accepted c.settle_next.ensures.files c.settle_next.ensures.slots g.F.Files.honest (g.R.Source.remaining c.args.reader.now)
    (g.R.Source.remaining c.take_next-accepted.new.reader) c.self.inside.is_up c.if-not-self.false (c.settle_next.ensures.up c.if-not-self.false) c.take_next-accepted.ensures.accepts)

pub returns-clause-known : goal.returns-clause-known
returns-clause-known g c = λ m bytes rest is reads.
    known_accepts g.F.Files.honest (g.R.Source.remaining c.args.reader.now) (g.R.Source.remaining c.take_next-accepted.new.reader) (g.F.Files.content c.args.self.now.files) (g.F.Files.content c.settle_next.new.self.files) c.args.self.now.slots
    c.settle_next.new.self.slots c.args.self.now.is_up c.settle_next.new.self.is_up c.settle_next.result (returns-clause-accepts g c) m bytes rest is reads

pub returns-clause-none : goal.returns-clause-none
returns-clause-none g c =
    rw (← c.self.view_is) (next_none g.F.Files.content c.self.inside.files c.take_next-accepted.new.files c.settle_next.new.self.files c.self.inside.slots c.take_next-accepted.new.slots c.settle_next.new.self.slots c.settle_next.new.self.is_up
    c.take_next-accepted.result c.settle_next.result c.settle_next.ensures.accepted c.settle_next.ensures.files c.settle_next.ensures.slots (λ d xs b known. record { files = d; slots = xs; is_up = b; learnt = known }) (learnt_in c.self.inside.generations c.self.inside.due) c.settle_next.new.self.learnt c.settle_next.ensures.learnt c.self.inside.is_up c.if-not-self.false
    (c.settle_next.ensures.up c.if-not-self.false) c.take_next-accepted.ensures.none)

pub returns-then-not-self-clause-lost : goal.returns-then-not-self-clause-lost
returns-then-not-self-clause-lost g c = record {
  failures = loss_of_down c.skip_message.result c.refuse_down.result c.refuse_down.ensures c.skip_message.ensures.failures;
  kept = λ honest. down_keeps (g.F.Files.content c.args.self.now.files) c.args.self.now.slots c.args.self.now.is_up c.refuse_down.result;
}

pub returns-clause-lost : goal.returns-clause-lost
returns-clause-lost g c = record {
  failures = loss_of_same _ _ c.settle_next.ensures.accepted c.take_next-accepted.ensures.lost.failures;
  kept = λ honest.
      rw (← c.self.view_is) (next_lost g.F.Files.content c.self.inside.files c.take_next-accepted.new.files c.settle_next.new.self.files c.self.inside.slots c.take_next-accepted.new.slots c.settle_next.new.self.slots c.settle_next.new.self.is_up
      c.take_next-accepted.result c.settle_next.result c.settle_next.ensures.accepted c.settle_next.ensures.files c.settle_next.ensures.slots c.self.inside.is_up c.if-not-self.false (c.settle_next.ensures.up c.if-not-self.false) (c.take_next-accepted.ensures.lost.kept honest));
}

pub returns-then-not-self-clause-outside : goal.returns-then-not-self-clause-outside
returns-then-not-self-clause-outside g c = λ honest. changes_none _ _

pub returns-clause-outside : goal.returns-clause-outside
returns-clause-outside g c = λ honest. rw (← c.self.view_is) (subst (λ d. ChangesFree (g.F.Files.content c.self.inside.files) (g.F.Files.content d) c.self.inside.slots) (sym c.settle_next.ensures.files) (c.take_next-accepted.ensures.outside honest))

pub returns-clause-clean : goal.returns-clause-clean
returns-clause-clean g c = λ honest.
    let content = g.F.Files.content in
    rw (← c.self.view_is) (kept_through KeepsClean (content c.self.inside.files) (content c.take_next-accepted.new.files) (content c.settle_next.new.self.files) (ap content c.settle_next.ensures.files)
    (clean_by _ _ (c.take_next-accepted.ensures.good honest).bad (packed_free _ _ c.self.inside.slots (c.take_next-accepted.ensures.outside honest))))

pub invariant_of-self : goal.invariant_of-self
invariant_of-self g c = (c.take_next-accepted.ensures.tellable, λ honest. (numbers_kept _ _ (c.take_next-accepted.ensures.good honest).objects c.self.inside.generations (c.self.invariant.1 honest).0, c.take_next-accepted.ensures.known honest))
