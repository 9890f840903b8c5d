use Rattle.vc_tracking.proofs.moving.may_take.Goals as goal

pub returns-in_err-forward-clause-known : goal.returns-in_err-forward-clause-known
returns-in_err-forward-clause-known g c = λ honest whole. record {
  closed = c.is_complete_beyond.ensures.known honest whole.closed;
  histories = (rw c.is_complete_beyond.ensures.kept at (c.is_forward.ensures.known honest)) whole.histories;
}

pub returns-clause-known : goal.returns-clause-known
returns-clause-known g c = λ honest whole. record {
  closed = c.is_complete_beyond.ensures.known honest whole.closed;
  histories = (rw c.is_complete_beyond.ensures.kept at (c.is_forward.ensures.known honest)) whole.histories;
}
