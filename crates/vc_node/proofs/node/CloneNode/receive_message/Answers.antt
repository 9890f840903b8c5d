use Rattle.std.proofs.Common.{◌≡◌, ◌∙◌, false, inl, inr, refl, rules, sym, true≢false}
use Rattle.vc_message.specs.AnyView.{message_text}
use Rattle.vc_model.specs.CloneCall.CloneCall.{Receive}
use Rattle.vc_local.proofs.CleanLemmas.{clean_same}
use Rattle.vc_node.proofs.ReceivingClone.{nothing_beside}
use Rattle.vc_history.proofs.StoredLemmas.{keeps_same}
use Rattle.vc_history.specs.Stored.{KeepsObjects}
use Rattle.vc_tracking.specs.Storing.{KeepsBeside}
use Rattle.vc_node.proofs.CloneCallLemmas.{down_clone}
use Rattle.vc_local.proofs.LookLemmas.{looks_none}
use Rattle.vc_node.proofs.SettledLemmas.{kept_through, settled_answers, settled_awaits, settled_clean, settled_err, settled_learns, settled_looks, settled_refusal, settled_wear}
use Rattle.vc_node.specs.Awaited.{awaited_text}
use Rattle.vc_node.specs.Receipts.{IsRefusedMessage}
use Rattle.vc_known.proofs.StoredLemmas.{known_kept}
use Rattle.vc_quarantine.specs.Learning.{learnt_in}
use Rattle.vc_node.proofs.node.CloneNode.receive_message.Goals as goal

pub returns-then-not-self-clause-answers : goal.returns-then-not-self-clause-answers
returns-then-not-self-clause-answers g c = λ honest m reads. down_clone (Receive m) (λ never. cc never) _ _ _ _ _ _ refl refl refl (search rules)

pub returns-then-not-self-clause-bad_file : goal.returns-then-not-self-clause-bad_file
returns-then-not-self-clause-bad_file g c = λ honest. inl refl

pub returns-then-not-self-clause-clean : goal.returns-then-not-self-clause-clean
returns-then-not-self-clause-clean g c = λ honest. clean_same _ _ refl

pub returns-then-not-self-clause-looks : goal.returns-then-not-self-clause-looks
returns-then-not-self-clause-looks g c = λ honest m reads awaited n waiting held. inr (looks_none (λ told. told))

pub returns-clause-answers : goal.returns-clause-answers
returns-clause-answers g c = λ honest.
    rw (← c.self.view_is) (λ m reads. settled_answers g.F.Files.content c.self.inside.files c.take-received.new.files c.settle.new.self.files (awaited_text c.self.inside.awaited) (awaited_text c.take-received.new.awaited) c.settle.new.self.awaited c.self.inside.is_up c.settle.new.self.is_up c.take-received.result c.settle.result
    c.settle.ensures.received c.settle.ensures.files c.settle.ensures.awaits (Receive m) c.if-not-self.false (c.settle.ensures.up c.if-not-self.false) (c.take-received.ensures.answers honest m reads))

pub returns-clause-bad_file : goal.returns-clause-bad_file
returns-clause-bad_file g c = λ honest.
    rw (← c.self.view_is) (settled_refusal (IsRefusedMessage (g.F.Files.content c.self.inside.files) (awaited_text c.self.inside.awaited) (message_text c.args.message)) c.take-received.result c.settle.result c.settle.ensures.received (c.take-received.ensures.refused honest))

pub returns-clause-err : goal.returns-clause-err
returns-clause-err g c = λ honest.
    rw (← c.self.view_is) (settled_err g.F.Files.content c.self.inside.files c.take-received.new.files c.settle.new.self.files (awaited_text c.self.inside.awaited) (awaited_text c.take-received.new.awaited) c.settle.new.self.awaited c.self.inside.is_up c.settle.new.self.is_up c.take-received.result c.settle.result
    c.settle.ensures.received c.settle.ensures.files c.settle.ensures.awaits (c.take-received.ensures.kept honest))

pub returns-then-not-self-clause-settles : goal.returns-then-not-self-clause-settles
returns-then-not-self-clause-settles g c =
    let down : c.args.self.now.is_up ≡ false = search rules in
    record { down = search rules; unchanged = λ _. refl; up = search rules; awaits = refl; learns = λ honest up. absurd (true≢false (sym up ∙ down)) }

pub returns-clause-settles : goal.returns-clause-settles
returns-clause-settles g c = record {
  down = search rules;
  unchanged = search rules;
  up = search rules;
  awaits =
      rw (← c.self.view_is) (settled_awaits g.F.Files.content c.self.inside.files c.take-received.new.files c.settle.new.self.files (awaited_text c.self.inside.awaited) (awaited_text c.take-received.new.awaited) c.settle.new.self.awaited c.self.inside.is_up c.settle.new.self.is_up c.take-received.result c.settle.result
      c.settle.ensures.received c.settle.ensures.files c.settle.ensures.awaits c.take-received.ensures.leaves.awaits);
  learns =
      rw (← c.self.view_is) (settled_learns g.F.Files.content c.self.inside.files c.take-received.new.files c.settle.new.self.files (awaited_text c.self.inside.awaited) (awaited_text c.take-received.new.awaited) c.settle.new.self.awaited c.self.inside.is_up c.settle.new.self.is_up c.take-received.result c.settle.result
      c.settle.ensures.received c.settle.ensures.files c.settle.ensures.awaits (learnt_in c.self.inside.generations c.self.inside.due) (learnt_in c.take-received.new.generations c.take-received.new.due) c.settle.new.self.learnt c.settle.ensures.learnt (c.settle.ensures.up c.if-not-self.false) c.take-received.ensures.leaves);
}

pub returns-then-not-self-clause-objects : goal.returns-then-not-self-clause-objects
returns-then-not-self-clause-objects g c = λ honest. keeps_same _ _ refl

pub returns-then-not-self-clause-beside : goal.returns-then-not-self-clause-beside
returns-then-not-self-clause-beside g c = λ honest. nothing_beside _

pub returns-clause-objects : goal.returns-clause-objects
returns-clause-objects g c = λ honest. rw (← c.self.view_is) (kept_through g.F.Files.content KeepsObjects c.self.inside.files c.take-received.new.files c.settle.new.self.files c.settle.ensures.files (c.take-received.ensures.good honest).objects)

pub returns-clause-beside : goal.returns-clause-beside
returns-clause-beside g c = λ honest. rw (← c.self.view_is) (kept_through g.F.Files.content KeepsBeside c.self.inside.files c.take-received.new.files c.settle.new.self.files c.settle.ensures.files (c.take-received.ensures.beside honest))

pub returns-clause-clean : goal.returns-clause-clean
returns-clause-clean g c = λ honest.
    rw (← c.self.view_is) (settled_clean g.F.Files.content c.self.inside.files c.take-received.new.files c.settle.new.self.files (awaited_text c.self.inside.awaited) (awaited_text c.take-received.new.awaited) c.settle.new.self.awaited c.self.inside.is_up c.settle.new.self.is_up c.take-received.result c.settle.result
    c.settle.ensures.received c.settle.ensures.files c.settle.ensures.awaits (c.take-received.ensures.good honest).bad (c.take-received.ensures.beside honest))

pub returns-clause-wear : goal.returns-clause-wear
returns-clause-wear g c =
    rw (← c.self.view_is) (settled_wear g.F.Files.content c.self.inside.files c.take-received.new.files c.settle.new.self.files (awaited_text c.self.inside.awaited) (awaited_text c.take-received.new.awaited) c.settle.new.self.awaited c.self.inside.is_up c.settle.new.self.is_up c.take-received.result c.settle.result
    c.settle.ensures.received c.settle.ensures.files c.settle.ensures.awaits c.take-received.ensures.wear)

pub returns-clause-looks : goal.returns-clause-looks
returns-clause-looks g c = λ honest.
    rw (← c.self.view_is) (λ m reads. settled_looks g.F.Files.content c.self.inside.files c.take-received.new.files c.settle.new.self.files (awaited_text c.self.inside.awaited) (awaited_text c.take-received.new.awaited) c.settle.new.self.awaited c.self.inside.is_up c.settle.new.self.is_up c.take-received.result c.settle.result
    c.settle.ensures.received c.settle.ensures.files c.settle.ensures.awaits (Receive m) c.if-not-self.false (c.take-received.ensures.looks honest m reads))

pub invariant_of-self : goal.invariant_of-self
invariant_of-self g c = λ honest.
    let both = (c.self.invariant honest).0 in
    ((known_kept _ _ c.self.inside.known (c.take-received.ensures.good honest).objects both.0, (c.take-received.ensures.leaves.learnt honest).agrees), tt)

pub take-received-requires : goal.take-received-requires
take-received-requires g c = record { agrees = λ honest. (c.self.invariant honest).0.1 }
