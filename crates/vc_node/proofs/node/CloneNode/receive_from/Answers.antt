use Rattle.std.proofs.Common.{◌≡◌, ◌∙◌, false, refl, rules, sym, true≢false}
use Rattle.vc_lemmas.proofs.Lists.{on_err}
use Rattle.vc_known.proofs.StoredLemmas.{known_kept}
use Rattle.vc_history.proofs.StoredLemmas.{keeps_same}
use Rattle.vc_files.proofs.WearLemmas.{writes_none}
use Rattle.vc_quarantine.specs.Learning.{learnt_in}
use Rattle.vc_local.proofs.CleanLemmas.{clean_same}
use Rattle.vc_exchange.proofs.QuarantinedLemmas.{others_same}
use Rattle.vc_exchange.specs.Quarantined.{KeepsOthers}
use Rattle.vc_node.proofs.SettledLemmas.{kept_through}
use Rattle.vc_history.specs.Stored.{KeepsObjects}
use Rattle.vc_node.proofs.ComingLemmas.{down_keeps, down_no_device, down_receives, known_receives, next_awaits, next_clean, next_cleared, next_learns, next_lost, next_none, next_receives, next_wear}
use Rattle.vc_node.specs.Awaited.{awaited_text}
use Rattle.vc_node.proofs.LossLemmas.{loss_of_down, loss_of_same}
use Rattle.vc_node.proofs.node.CloneNode.receive_from.Goals as goal

-- ---- down
pub returns-then-not-self-clause-receives : goal.returns-then-not-self-clause-receives
returns-then-not-self-clause-receives g c =
    down_receives g.F.Files.honest (g.R.Source.remaining c.args.reader.now) (g.R.Source.remaining c.skip_message.new.reader) (g.F.Files.content c.args.self.now.files) c.args.self.now.awaited c.skip_message.result c.refuse_down.result c.args.self.now.is_up
    (search rules) c.refuse_down.ensures c.skip_message.ensures.message c.skip_message.ensures.end c.skip_message.ensures.fault

pub returns-then-not-self-clause-known : goal.returns-then-not-self-clause-known
returns-then-not-self-clause-known g c = λ m bytes rest is reads.
    known_receives g.F.Files.honest (g.R.Source.remaining c.args.reader.now) (g.R.Source.remaining c.skip_message.new.reader) (g.F.Files.content c.args.self.now.files) (g.F.Files.content c.args.self.now.files) c.args.self.now.awaited c.args.self.now.awaited
    c.args.self.now.is_up c.args.self.now.is_up c.refuse_down.result (returns-then-not-self-clause-receives g c) m bytes rest is reads

pub returns-then-not-self-clause-clean : goal.returns-then-not-self-clause-clean
returns-then-not-self-clause-clean g c = λ honest. clean_same _ _ refl

pub returns-then-not-self-clause-wear : goal.returns-then-not-self-clause-wear
returns-then-not-self-clause-wear g c = writes_none (down_no_device c.skip_message.result c.refuse_down.result c.refuse_down.ensures)

pub returns-then-not-self-clause-cleared : goal.returns-then-not-self-clause-cleared
returns-then-not-self-clause-cleared g c = λ honest calm dropped. dropped

-- ---- up
pub returns-clause-receives : goal.returns-clause-receives
returns-clause-receives g c =
    rw (← c.self.view_is) (next_receives g.F.Files.content c.self.inside.files c.take_next-received.new.files c.settle_next.new.self.files (awaited_text c.self.inside.awaited) (awaited_text c.take_next-received.new.awaited) c.settle_next.new.self.awaited c.settle_next.new.self.is_up
    c.take_next-received.result c.settle_next.result c.settle_next.ensures.received c.settle_next.ensures.files c.settle_next.ensures.awaits g.F.Files.honest (g.R.Source.remaining c.args.reader.now)
    (g.R.Source.remaining c.take_next-received.new.reader) c.self.inside.is_up c.if-not-self.false (c.settle_next.ensures.up c.if-not-self.false) c.take_next-received.ensures.receives)

pub returns-clause-known : goal.returns-clause-known
returns-clause-known g c = λ m bytes rest is reads.
    known_receives g.F.Files.honest (g.R.Source.remaining c.args.reader.now) (g.R.Source.remaining c.take_next-received.new.reader) (g.F.Files.content c.args.self.now.files) (g.F.Files.content c.settle_next.new.self.files) c.args.self.now.awaited
    c.settle_next.new.self.awaited c.args.self.now.is_up c.settle_next.new.self.is_up c.settle_next.result (returns-clause-receives g c) m bytes rest is reads

pub returns-clause-none : goal.returns-clause-none
returns-clause-none g c =
    rw (← c.self.view_is) (next_none g.F.Files.content c.self.inside.files c.take_next-received.new.files c.settle_next.new.self.files (awaited_text c.self.inside.awaited) (awaited_text c.take_next-received.new.awaited) c.settle_next.new.self.awaited c.settle_next.new.self.is_up
    c.take_next-received.result c.settle_next.result c.settle_next.ensures.received c.settle_next.ensures.files c.settle_next.ensures.awaits (λ d w b known. record { files = d; awaited = w; is_up = b; learnt = known }) (learnt_in c.self.inside.generations c.self.inside.due) (learnt_in c.take_next-received.new.generations c.take_next-received.new.due) c.settle_next.new.self.learnt
    c.settle_next.ensures.learnt c.self.inside.is_up c.if-not-self.false
    (c.settle_next.ensures.up c.if-not-self.false) c.take_next-received.ensures.none)

pub returns-clause-lost : goal.returns-clause-lost
returns-clause-lost g c = record {
  failures = loss_of_same _ _ c.settle_next.ensures.received c.take_next-received.ensures.lost.failures;
  kept = λ honest.
      rw (← c.self.view_is) (next_lost g.F.Files.content c.self.inside.files c.take_next-received.new.files c.settle_next.new.self.files (awaited_text c.self.inside.awaited) (awaited_text c.take_next-received.new.awaited) c.settle_next.new.self.awaited c.settle_next.new.self.is_up
      c.take_next-received.result c.settle_next.result c.settle_next.ensures.received c.settle_next.ensures.files c.settle_next.ensures.awaits c.self.inside.is_up c.if-not-self.false (c.settle_next.ensures.up c.if-not-self.false) (c.take_next-received.ensures.lost.kept honest));
}

pub returns-clause-cleared : goal.returns-clause-cleared
returns-clause-cleared g c = λ honest.
    rw (← c.self.view_is) (next_cleared g.F.Files.content c.self.inside.files c.take_next-received.new.files c.settle_next.new.self.files (awaited_text c.self.inside.awaited) (awaited_text c.take_next-received.new.awaited) c.settle_next.new.self.awaited c.settle_next.new.self.is_up
    c.take_next-received.result c.settle_next.result c.settle_next.ensures.received c.settle_next.ensures.files c.settle_next.ensures.awaits (c.take_next-received.ensures.cleared honest))

pub returns-then-not-self-clause-settles : goal.returns-then-not-self-clause-settles
returns-then-not-self-clause-settles g c =
    let down : c.args.self.now.is_up ≡ false = search rules in
    record { down = search rules; unchanged = λ _. refl; up = search rules; awaits = on_err c.refuse_down.result _ refl; learns = λ honest up. absurd (true≢false (sym up ∙ down)) }

pub returns-clause-settles : goal.returns-clause-settles
returns-clause-settles g c = record {
  down = search rules;
  unchanged = search rules;
  up = search rules;
  awaits =
      rw (← c.self.view_is) (next_awaits g.F.Files.content c.self.inside.files c.take_next-received.new.files c.settle_next.new.self.files (awaited_text c.self.inside.awaited) (awaited_text c.take_next-received.new.awaited) c.settle_next.new.self.awaited c.settle_next.new.self.is_up
      c.take_next-received.result c.settle_next.result c.settle_next.ensures.received c.settle_next.ensures.files c.settle_next.ensures.awaits c.take_next-received.ensures.leaves.awaits);
  learns =
      rw (← c.self.view_is) (next_learns g.F.Files.content c.self.inside.files c.take_next-received.new.files c.settle_next.new.self.files (awaited_text c.self.inside.awaited) (awaited_text c.take_next-received.new.awaited) c.settle_next.new.self.awaited c.settle_next.new.self.is_up c.take_next-received.result c.settle_next.result
      c.settle_next.ensures.received c.settle_next.ensures.files c.settle_next.ensures.awaits (learnt_in c.self.inside.generations c.self.inside.due) (learnt_in c.take_next-received.new.generations c.take_next-received.new.due) c.settle_next.new.self.learnt c.settle_next.ensures.learnt (c.settle_next.ensures.up c.if-not-self.false) c.take_next-received.ensures.leaves);
}

pub returns-then-not-self-clause-objects : goal.returns-then-not-self-clause-objects
returns-then-not-self-clause-objects g c = λ honest. keeps_same _ _ refl

pub returns-then-not-self-clause-beside : goal.returns-then-not-self-clause-beside
returns-then-not-self-clause-beside g c = λ honest. others_same _ _ refl

pub returns-clause-objects : goal.returns-clause-objects
returns-clause-objects g c = λ honest. rw (← c.self.view_is) (kept_through g.F.Files.content KeepsObjects c.self.inside.files c.take_next-received.new.files c.settle_next.new.self.files c.settle_next.ensures.files (c.take_next-received.ensures.good honest).objects)

pub returns-clause-beside : goal.returns-clause-beside
returns-clause-beside g c = λ honest. rw (← c.self.view_is) (kept_through g.F.Files.content KeepsOthers c.self.inside.files c.take_next-received.new.files c.settle_next.new.self.files c.settle_next.ensures.files (c.take_next-received.ensures.beside honest))

pub returns-clause-clean : goal.returns-clause-clean
returns-clause-clean g c = λ honest.
    rw (← c.self.view_is) (next_clean g.F.Files.content c.self.inside.files c.take_next-received.new.files c.settle_next.new.self.files (awaited_text c.self.inside.awaited) (awaited_text c.take_next-received.new.awaited) c.settle_next.new.self.awaited c.settle_next.new.self.is_up
    c.take_next-received.result c.settle_next.result c.settle_next.ensures.received c.settle_next.ensures.files c.settle_next.ensures.awaits (c.take_next-received.ensures.good honest).bad (c.take_next-received.ensures.beside honest))

pub returns-clause-wear : goal.returns-clause-wear
returns-clause-wear g c =
    rw (← c.self.view_is) (next_wear g.F.Files.content c.self.inside.files c.take_next-received.new.files c.settle_next.new.self.files (awaited_text c.self.inside.awaited) (awaited_text c.take_next-received.new.awaited) c.settle_next.new.self.awaited c.settle_next.new.self.is_up
    c.take_next-received.result c.settle_next.result c.settle_next.ensures.received c.settle_next.ensures.files c.settle_next.ensures.awaits c.take_next-received.ensures.wear)

pub invariant_of-self : goal.invariant_of-self
invariant_of-self g c = λ honest.
    let both = (c.self.invariant honest).0 in
    ((known_kept _ _ c.self.inside.known (c.take_next-received.ensures.good honest).objects both.0, (c.take_next-received.ensures.leaves.learnt honest).agrees), tt)

pub take_next-received-requires : goal.take_next-received-requires
take_next-received-requires g c = record { agrees = λ honest. (c.self.invariant honest).0.1 }

pub returns-then-not-self-clause-lost : goal.returns-then-not-self-clause-lost
returns-then-not-self-clause-lost g c = record {
  failures = loss_of_down c.skip_message.result c.refuse_down.result c.refuse_down.ensures c.skip_message.ensures.failures;
  kept = λ honest. down_keeps (g.F.Files.content c.args.self.now.files) c.args.self.now.awaited c.args.self.now.is_up c.refuse_down.result;
}
